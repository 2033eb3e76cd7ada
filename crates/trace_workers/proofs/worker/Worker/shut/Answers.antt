use Rattle.std.proofs.Common.{◌≡◌, ◌/◌, ◌<◌, ◌++◌, [], ◌∷◌, ℕ, List, true, get_or, length, sym, subst}
use Rattle.trace_file.specs.declared.line.Line.TheVariants.{Shut}
use Rattle.trace_workers.specs.Received.{HasReceived}
use Rattle.trace_workers.specs.Sessions.{IsSameSession, SessionView}
use Rattle.trace_workers.specs.Workers.{HasDone, IsSameWorker, WorkerView}
use Rattle.trace_workers.specs.Own.{is_own_session}
use Rattle.trace_workers.proofs.Workers.{lent_on, same_with, shut_worker}
use Rattle.trace_workers.proofs.worker.Worker.shut.Goals as goal

pub returns-clause-same : goal.returns-clause-same
returns-clause-same c =
    let i = c.self.inside in
    let worker : WorkerView = record { number = i.number; worker_count = i.worker_count; sessions = i.sessions; clock = i.clock; is_stopped = i.is_stopped } in
    let session = c.args.session in
    let at = session / i.worker_count in
    let d = c.index-as_mut_slice-at.result in
    let s = c.shut.new.self in
    let there = subst (λ (l : WorkerView). session / l.worker_count < length l.sessions) (sym c.self.view_is) c.requires.there in
    let same = subst (λ (xs : List SessionView). IsSameSession (get_or xs at d) s) c.as_mut_slice.ensures.value c.shut.ensures.same in
    lent_on IsSameWorker worker c.args.self.now c.as_mut_slice.result.now at s c.self.view_is c.as_mut_slice.ensures.value (same_with worker at d s there same)

pub returns-clause-done : goal.returns-clause-done
returns-clause-done c before =
    let i = c.self.inside in
    let worker : WorkerView = record { number = i.number; worker_count = i.worker_count; sessions = i.sessions; clock = i.clock; is_stopped = i.is_stopped } in
    let back = sym c.self.view_is in
    let broker = c.args.broker.now in
    let session = c.args.session in
    let at = session / i.worker_count in
    let d = c.index-as_mut_slice-at.result in
    let s = c.shut.new.self in
    let lent = c.as_mut_slice.result.now in
    let value = c.as_mut_slice.ensures.value in
    let own = subst (λ (l : WorkerView). is_own_session l session ≡ true) back c.requires.own in
    let there = subst (λ (l : WorkerView). session / l.worker_count < length l.sessions) back c.requires.there in
    let same = subst (λ (xs : List SessionView). IsSameSession (get_or xs at d) s) value c.shut.ensures.same in
    let goes = subst (λ (xs : List SessionView). (input : List ℕ) → HasReceived input (get_or xs at d) → HasReceived input s) value c.shut.ensures.received in
    lent_on (λ (old new : WorkerView). HasDone broker before old → HasDone broker (before ++ Shut session ∷ []) new) worker c.args.self.now lent at s c.self.view_is value
    (shut_worker broker before worker session d s c.self.invariant own there same c.shut.ensures.named c.shut.ensures.shut goes)
