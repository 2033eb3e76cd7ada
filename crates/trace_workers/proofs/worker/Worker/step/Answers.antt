use Rattle.std.proofs.Common.{◌≡◌, ◌≢◌, ◌∙◌, ◌<◌, ℕ, Bool, List, true, false, get_or, length, sym, ap, subst}
use Rattle.std.proofs.lemmas.List.{get_or-set_same}
use Rattle.std.proofs.lemmas.Result.{on_ok_weaker}
use Rattle.trace_file.specs.declared.line.Line.{Line}
use Rattle.trace_workers.specs.Received.{HasReceived}
use Rattle.trace_workers.specs.Resting.{Rests}
use Rattle.trace_workers.specs.Sessions.{IsSameSession, SessionView}
use Rattle.trace_workers.specs.Workers.{HasDone, IsSameWorker, WorkerView}
use Rattle.trace_workers.proofs.Workers.{if_ok_weaker, lent_on, one_written, same_with, step_worker}
use Rattle.trace_workers.proofs.Moving.{moved_at}
use Rattle.trace_workers.proofs.worker.Worker.step.Goals as goal

pub returns-clause-same : goal.returns-clause-same
returns-clause-same g c =
    let i = c.self.inside in
    let worker : WorkerView = record { number = i.number; worker_count = i.worker_count; sessions = i.sessions; clock = i.clock; is_stopped = i.is_stopped } in
    let at = c.args.at in
    let d = c.index-as_mut_slice-at.result in
    let s = c.step.new.self in
    let there = subst (λ (l : WorkerView). at < length l.sessions) (sym c.self.view_is) c.requires.there in
    let same = subst (λ (xs : List SessionView). IsSameSession (get_or xs at d) s) c.as_mut_slice.ensures.value c.step.ensures.same in
    lent_on IsSameWorker worker c.args.self.now c.as_mut_slice.result.now at s c.self.view_is c.as_mut_slice.ensures.value (same_with worker at d s there same)

pub returns-clause-done : goal.returns-clause-done
returns-clause-done g c =
    let i = c.self.inside in
    let worker : WorkerView = record { number = i.number; worker_count = i.worker_count; sessions = i.sessions; clock = i.clock; is_stopped = i.is_stopped } in
    let broker = c.args.broker.now in
    let at = c.args.at in
    let d = c.index-as_mut_slice-at.result in
    let s = c.step.new.self in
    let lent = c.as_mut_slice.result.now in
    let value = c.as_mut_slice.ensures.value in
    let there = subst (λ (l : WorkerView). at < length l.sessions) (sym c.self.view_is) c.requires.there in
    let same = subst (λ (xs : List SessionView). IsSameSession (get_or xs at d) s) value c.step.ensures.same in
    let named = subst (λ (xs : List SessionView). s.is_named ≡ (get_or xs at d).is_named) value c.step.ensures.named in
    let shut = subst (λ (xs : List SessionView). s.is_shut ≡ (get_or xs at d).is_shut) value c.step.ensures.shut in
    on_ok_weaker c.step.result
    (λ (goes : (input : List ℕ) → HasReceived input (get_or lent at d) → HasReceived input s) (lines : List Line).
    lent_on (λ (old new : WorkerView). HasDone broker lines old → HasDone broker lines new) worker c.args.self.now lent at s c.self.view_is value
    (step_worker broker lines worker at d s there same named shut
    (subst (λ (xs : List SessionView). (input : List ℕ) → HasReceived input (get_or xs at d) → HasReceived input s) value goes)))
    c.step.ensures.received

pub returns-clause-rests : goal.returns-clause-rests
returns-clause-rests g c =
    let i = c.self.inside in
    let at = c.args.at in
    let s = c.step.new.self in
    let there = subst (λ (l : WorkerView). at < length l.sessions) (sym c.self.view_is) c.requires.there in
    if_ok_weaker (λ (did : Bool). did ≡ false → Rests s) _ c.step.result
    (λ did rests none e. subst Rests (sym (ap (λ (xs : List SessionView). get_or xs at e) (one_written i.sessions c.as_mut_slice.result.now at s c.as_mut_slice.ensures.value) ∙ get_or-set_same i.sessions at s e there)) (rests none))
    c.step.ensures.rests

pub returns-clause-moved : goal.returns-clause-moved
returns-clause-moved g c =
    let i = c.self.inside in
    let worker : WorkerView = record { number = i.number; worker_count = i.worker_count; sessions = i.sessions; clock = i.clock; is_stopped = i.is_stopped } in
    let at = c.args.at in
    let d = c.index-as_mut_slice-at.result in
    let s = c.step.new.self in
    let lent = c.as_mut_slice.result.now in
    let value = c.as_mut_slice.ensures.value in
    let there = subst (λ (l : WorkerView). at < length l.sessions) (sym c.self.view_is) c.requires.there in
    if_ok_weaker (λ (did : Bool). did ≡ true → s.pass.going ≢ (get_or lent at d).pass.going) _ c.step.result
    (λ did moved some.
    lent_on (λ (old new : WorkerView). (e : SessionView) → get_or new.sessions at e ≢ get_or old.sessions at e) worker c.args.self.now lent at s c.self.view_is value
    (moved_at i.sessions at d s there (subst (λ (xs : List SessionView). s.pass.going ≢ (get_or xs at d).pass.going) value (moved some))))
    c.step.ensures.moved
