use Rattle.std.proofs.Common.{◌≡◌, ◌∙◌, ◌/◌, ◌<◌, ◌++◌, [], ◌∷◌, ℕ, List, true, false, get_or, length, sym, ap, subst}
use Rattle.std.proofs.lemmas.Result.{on_ok_weaker}
use Rattle.trace_file.specs.declared.line.Line.{Line}
use Rattle.trace_file.specs.declared.line.Line.TheVariants.{Feed}
use Rattle.trace_workers.specs.Received.{HasReceived}
use Rattle.trace_workers.specs.Sessions.{IsSameSession, SessionView}
use Rattle.trace_workers.specs.Workers.{HasDone, IsSameWorker, WorkerView}
use Rattle.trace_workers.specs.Own.{is_own_session}
use Rattle.trace_workers.proofs.Workers.{fed_worker, lent_on, same_with, shown_open}
use Rattle.trace_workers.proofs.worker.Worker.feed.Goals as goal

pub feed-requires-clause-open : goal.feed-requires-clause-open
feed-requires-clause-open c =
    let i = c.self.inside in
    let worker : WorkerView = record { number = i.number; worker_count = i.worker_count; sessions = i.sessions; clock = i.clock; is_stopped = i.is_stopped } in
    let back = sym c.self.view_is in
    let session = c.args.session in
    let d = c.index-as_mut_slice-at.result in
    let own = subst (λ (l : WorkerView). is_own_session l session ≡ true) back c.requires.own in
    let there = subst (λ (l : WorkerView). session / l.worker_count < length l.sessions) back c.requires.there in
    let r = c.requires.done in
    let h = subst (HasDone c.args.broker.now r.0) back r.1 in
    ap (λ (xs : List SessionView). (get_or xs (session / i.worker_count) d).is_shut) c.as_mut_slice.ensures.value
    ∙ sym (shown_open c.args.broker.now r.0 worker session d own there h)
    ∙ r.2

pub returns-clause-same : goal.returns-clause-same
returns-clause-same c =
    let i = c.self.inside in
    let worker : WorkerView = record { number = i.number; worker_count = i.worker_count; sessions = i.sessions; clock = i.clock; is_stopped = i.is_stopped } in
    let back = sym c.self.view_is in
    let session = c.args.session in
    let at = session / i.worker_count in
    let d = c.index-as_mut_slice-at.result in
    let s = c.feed.new.self in
    let there = subst (λ (l : WorkerView). session / l.worker_count < length l.sessions) back c.requires.there in
    let same = subst (λ (xs : List SessionView). IsSameSession (get_or xs at d) s) c.as_mut_slice.ensures.value c.feed.ensures.same in
    lent_on IsSameWorker worker c.args.self.now c.as_mut_slice.result.now at s c.self.view_is c.as_mut_slice.ensures.value (same_with worker at d s there same)

pub returns-clause-done : goal.returns-clause-done
returns-clause-done c =
    let i = c.self.inside in
    let worker : WorkerView = record { number = i.number; worker_count = i.worker_count; sessions = i.sessions; clock = i.clock; is_stopped = i.is_stopped } in
    let back = sym c.self.view_is in
    let broker = c.args.broker.now in
    let session = c.args.session in
    let bytes = c.args.bytes.now in
    let at = session / i.worker_count in
    let d = c.index-as_mut_slice-at.result in
    let s = c.feed.new.self in
    let lent = c.as_mut_slice.result.now in
    let value = c.as_mut_slice.ensures.value in
    let own = subst (λ (l : WorkerView). is_own_session l session ≡ true) back c.requires.own in
    let there = subst (λ (l : WorkerView). session / l.worker_count < length l.sessions) back c.requires.there in
    let same = subst (λ (xs : List SessionView). IsSameSession (get_or xs at d) s) value c.feed.ensures.same in
    let r = c.requires.done in
    let unshut : (get_or worker.sessions at d).is_shut ≡ false =
    sym (shown_open broker r.0 worker session d own there (subst (HasDone broker r.0) back r.1)) ∙ r.2 in
    on_ok_weaker c.feed.result
    (λ (goes : (input : List ℕ) → HasReceived input (get_or lent at d) → HasReceived (input ++ bytes) s) (before : List Line).
    lent_on (λ (old new : WorkerView). HasDone broker before old → HasDone broker (before ++ Feed session bytes ∷ []) new) worker c.args.self.now lent at s c.self.view_is value
    (fed_worker broker before worker session bytes d s c.self.invariant own there unshut same c.feed.ensures.named c.feed.ensures.open
    (subst (λ (xs : List SessionView). (input : List ℕ) → HasReceived input (get_or xs at d) → HasReceived (input ++ bytes) s) value goes)))
    c.feed.ensures.received
