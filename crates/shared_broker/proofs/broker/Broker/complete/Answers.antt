use Rattle.std.proofs.Common.{List, Some, refl, sym, subst}
use Rattle.audit.specs.declared.account.CallHow.{CallHow}
use Rattle.audit.specs.declared.account.CallHow.TheVariants.{Cut}
use Rattle.kanswer.specs.declared.accepted.Accepted.{Accepted}
use Rattle.kanswer.specs.declared.accepted.Reading.{Reading}
use Rattle.kanswer.specs.LogReadings.{AreReadings}
use Rattle.shared_broker.specs.Serving.{HasEndedCall, HasFinished, IsToldTo, WillSit, finished_as}
use Rattle.shared_calls.specs.Finished.{WasFinished, WasStopped}
use Rattle.shared_broker.proofs.Results.{if_err}
use Rattle.shared_broker.proofs.WonCalls.{call_cut, call_left, call_read, call_replied, call_stopped, call_told}
use Rattle.shared_broker.proofs.broker.Broker.complete.Goals as goal

pub returns-in_err-readings-clause-finished : goal.returns-in_err-readings-clause-finished
returns-in_err-readings-clause-finished g c call =
    let a = c.args in
    let s = subst (λ (xs : List Accepted). WasStopped a.current.now.seq a.current.now.request.now xs a.won.now.parked.now.op a.logs.now c.complete-readings.new.pass c.complete-readings.new.points) c.as_slice-accepted.ensures c.in_err-readings.ensures.stopped in
    if_err (λ r. HasFinished a.current.now.is_sent a.self.now.config a.current.now.seq a.won.now.done (WillSit a.self.now.config a.current.now.seq a.current.now.request.now a.won.now.parked.now a.logs.now call) r a.logs.now c.settle.new.pass call (finished_as call c.complete-readings.new.points (Cut (Some a.won.now.done.by))))
    c.from_residual.result c.from_residual.ensures.0
    (λ e. (call_stopped a.self.now.config a.current.now.seq a.current.now.request.now a.won.now.parked.now a.logs.now c.complete-readings.new.pass c.settle.new.pass c.settle.ensures.stepped c.settle.ensures.kept c.settle.ensures.paid a.won.now.done.by c.complete-readings.new.points call s, refl))

pub frame-requires-clause-read : goal.frame-requires-clause-read
frame-requires-clause-read g c =
    let a = c.args in
    let f = subst (λ (xs : List Accepted). WasFinished a.current.now.seq a.current.now.request.now xs a.won.now.parked.now.op a.won.now.done.how a.logs.now c.complete-readings.new.pass c.complete-readings.new.points c.in_ok-readings.readings) c.as_slice-accepted.ensures c.in_ok-readings.ensures.finished in
    let was = c.requires.waits in
    let r = call_read a.self.now.config a.current.now.seq a.current.now.request.now a.won.now.parked.now a.logs.now c.complete-readings.new.pass c.settle.new.pass c.settle.ensures.stepped c.settle.ensures.kept c.settle.ensures.paid a.won.now.done c.complete-readings.new.points c.in_ok-readings.readings f was.0 was.1 was.2 was.3 in
    λ sent. (r.0, subst (λ (xs : List Accepted). AreReadings a.current.now.request.now.ask xs c.as_slice.result.now r.0) (sym c.as_slice-accepted.ensures) (subst (λ (rs : List Reading). AreReadings a.current.now.request.now.ask a.won.now.parked.now.accepted rs r.0) (sym c.as_slice.ensures) r.1))

pub returns-in_err-frame-clause-finished : goal.returns-in_err-frame-clause-finished
returns-in_err-frame-clause-finished g c call =
    let a = c.args in
    let f = subst (λ (xs : List Accepted). WasFinished a.current.now.seq a.current.now.request.now xs a.won.now.parked.now.op a.won.now.done.how a.logs.now c.complete-readings.new.pass c.complete-readings.new.points c.in_ok-readings.readings) c.as_slice-accepted.ensures c.in_ok-readings.ensures.finished in
    if_err (λ r. HasFinished a.current.now.is_sent a.self.now.config a.current.now.seq a.won.now.done (WillSit a.self.now.config a.current.now.seq a.current.now.request.now a.won.now.parked.now a.logs.now call) r a.logs.now c.settle.new.pass call (finished_as call c.complete-readings.new.points (Cut (Some a.won.now.done.by))))
    c.from_residual-in_err-frame.result c.from_residual-in_err-frame.ensures.0
    (λ e. (call_cut a.self.now.config a.current.now.seq a.current.now.request.now a.won.now.parked.now a.logs.now c.complete-readings.new.pass c.settle.new.pass c.settle.ensures.stepped c.settle.ensures.kept c.settle.ensures.paid a.won.now.done c.complete-readings.new.points c.in_ok-readings.readings f call, refl))

pub returns-clause-finished : goal.returns-clause-finished
returns-clause-finished g c call =
    let a = c.args in
    let f = subst (λ (xs : List Accepted). WasFinished a.current.now.seq a.current.now.request.now xs a.won.now.parked.now.op a.won.now.done.how a.logs.now c.complete-readings.new.pass c.complete-readings.new.points c.in_ok-readings.readings) c.as_slice-accepted.ensures c.in_ok-readings.ensures.finished in
    let Was = WillSit a.self.now.config a.current.now.seq a.current.now.request.now a.won.now.parked.now a.logs.now call in
    let told = c.told_as.ensures in (
      subst (λ (how : CallHow). HasEndedCall a.self.now.config Was a.logs.now c.settle.new.pass call (finished_as call c.complete-readings.new.points how)) (sym told)
          (call_told a.self.now.config a.current.now.seq a.current.now.request.now a.won.now.parked.now a.logs.now c.complete-readings.new.pass c.settle.new.pass c.settle.ensures.stepped c.settle.ensures.kept c.settle.ensures.paid a.won.now.done c.complete-readings.new.points c.in_ok-readings.readings f call),
      told,
      call_left a.self.now.config a.current.now.seq a.current.now.request.now a.won.now.parked.now a.logs.now c.complete-readings.new.pass c.settle.new.pass c.settle.ensures.stepped c.settle.ensures.kept c.settle.ensures.paid a.won.now.done c.complete-readings.new.points c.in_ok-readings.readings f,
      λ front transcript was. subst (λ (how : CallHow). IsToldTo a.current.now.is_sent a.self.now.config c.settle.new.pass (finished_as call c.complete-readings.new.points how) c.in_ok-frame.frame) (sym told)
          (call_replied a.self.now.config a.current.now.seq a.current.now.request.now a.won.now.parked.now a.logs.now c.complete-readings.new.pass c.settle.new.pass c.settle.ensures.stepped c.settle.ensures.kept c.settle.ensures.paid a.won.now.done c.complete-readings.new.points c.in_ok-readings.readings f a.current.now.is_sent c.in_ok-frame.frame
          (λ shown are. c.in_ok-frame.ensures shown (λ sent. subst (λ (xs : List Accepted). AreReadings a.current.now.request.now.ask xs c.as_slice.result.now shown) (sym c.as_slice-accepted.ensures) (subst (λ (rs : List Reading). AreReadings a.current.now.request.now.ask a.won.now.parked.now.accepted rs shown) (sym c.as_slice.ensures) are))) call front transcript was),
    )
