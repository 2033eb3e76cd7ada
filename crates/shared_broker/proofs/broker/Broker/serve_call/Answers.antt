use Rattle.std.proofs.Common.{◌≡◌, true, false, List, None, refl, sym, subst, ◌∙◌}
use Rattle.kanswer.specs.Decisions.{Decides, Decision}
use Rattle.kanswer.specs.Numbered.{AreNumbers}
use Rattle.kanswer.specs.Waiting.{Shown, becomes_delayed, results_of}
use Rattle.partlog.specs.declared.numbers.Numbers.{Numbers}
use Rattle.shared_calls.specs.Accepted.{WasAccepted}
use Rattle.shared_calls.specs.Carried.{HasStopped}
use Rattle.shared_broker.specs.Passes.{BrokerView}
use Rattle.shared_broker.specs.Serving.{HasServed, IsWritten}
use Rattle.shared_broker.proofs.Results.{if_err}
use Rattle.shared_broker.proofs.Served.{accepted_kept, accepted_left, accepted_on, answered, stopped_come, will_wait}
use Rattle.shared_broker.proofs.Steps.{served_on}
use Rattle.shared_broker.proofs.broker.Broker.serve_call.Goals as goal

pub returns-in_err-came-clause-served : goal.returns-in_err-came-clause-served
returns-in_err-came-clause-served g c =
    let a = c.args in
    let was = c.requires.written in
    let stopped = subst (λ (b : BrokerView). (decisions : List Decision) → Decides b.config a.current.now.request.now.ask decisions → HasStopped b.config a.current.now.seq decisions a.logs.now a.call.now.accept c.accept-came.new.pass c.accept-came.new.points) c.self.view_is c.in_err-came.ensures.stopped in
    if_err (λ r. HasServed a.current.now.is_sent a.self.now.config a.current.now.seq a.current.now.request.now (IsWritten a.self.now.config a.current.now.seq a.current.now.request.now a.logs.now a.call.now) r a.logs.now c.settle.new.pass a.call.now
    (record { frame = a.call.now.frame; accept = c.accept-came.new.points; finish = a.call.now.finish; how = a.call.now.how })) c.from_residual.result c.from_residual.ensures.0
    (λ e. (
      stopped_come a.self.now.config a.current.now.seq a.current.now.request.now a.logs.now c.accept-came.new.pass c.settle.new.pass a.call.now c.settle.ensures.stepped c.settle.ensures.kept c.settle.ensures.paid c.requires.free.idle c.accept-came.new.points stopped was.0 was.1 was.2,
      (None, was.2.cut),
    ))

pub delay-requires-clause-waits : goal.delay-requires-clause-waits
delay-requires-clause-waits g c =
    let a = c.args in
    let was = c.requires.written in
    let accepted = subst (λ (b : BrokerView). (decisions : List Decision) → Decides b.config a.current.now.request.now.ask decisions → WasAccepted a.current.now.is_sent b.config a.current.now.seq a.current.now.request.now decisions a.logs.now a.call.now.accept c.accept-came.new.pass c.accept-came.new.points c.in_ok-came.came) c.self.view_is c.in_ok-came.ensures.accepted in
    let delayed : (shown : List Shown) → results_of shown ≡ c.in_ok-came.came.accepted → AreNumbers c.in_ok-came.came.numbers shown → becomes_delayed a.current.now.request.now.ask shown ≡ true =
    λ shown rs ns. sym (c.needs_op.ensures shown (rs ∙ sym c.accepted.ensures.results) (subst (λ (xs : List Numbers). AreNumbers xs shown) (sym c.numbers.ensures) ns)) ∙ c.if-needs_op.true in
    (was.0, was.1, will_wait a.self.now.config a.current.now.seq a.current.now.request.now a.logs.now c.accept-came.new.pass c.settle.new.pass a.call.now c.settle.ensures.stepped c.settle.ensures.kept c.settle.ensures.paid c.requires.free.idle c.accept-came.new.points a.current.now.is_sent c.in_ok-came.came accepted delayed was.0 was.1 was.2)

pub returns-then-needs_op-clause-served : goal.returns-then-needs_op-clause-served
returns-then-needs_op-clause-served g c =
    let a = c.args in
    let was = c.requires.written in
    let accepted = subst (λ (b : BrokerView). (decisions : List Decision) → Decides b.config a.current.now.request.now.ask decisions → WasAccepted a.current.now.is_sent b.config a.current.now.seq a.current.now.request.now decisions a.logs.now a.call.now.accept c.accept-came.new.pass c.accept-came.new.points c.in_ok-came.came) c.self.view_is c.in_ok-came.ensures.accepted in
    let delayed : (shown : List Shown) → results_of shown ≡ c.in_ok-came.came.accepted → AreNumbers c.in_ok-came.came.numbers shown → becomes_delayed a.current.now.request.now.ask shown ≡ true =
    λ shown rs ns. sym (c.needs_op.ensures shown (rs ∙ sym c.accepted.ensures.results) (subst (λ (xs : List Numbers). AreNumbers xs shown) (sym c.numbers.ensures) ns)) ∙ c.if-needs_op.true in
    served_on a.self.now.config a.current.now.seq a.current.now.request.now (IsWritten a.self.now.config a.current.now.seq a.current.now.request.now a.logs.now a.call.now) _ a.logs.now c.settle.new.pass c.delay.new.logs a.call.now _ c.delay.new.call
    (accepted_on a.self.now.config a.current.now.seq a.current.now.request.now a.logs.now c.accept-came.new.pass c.settle.new.pass a.call.now c.settle.ensures.stepped c.settle.ensures.kept c.settle.ensures.paid c.requires.free.idle c.accept-came.new.points a.current.now.is_sent c.in_ok-came.came accepted was.0 was.1 was.2)
    (accepted_kept a.self.now.config a.current.now.seq a.current.now.request.now a.logs.now c.accept-came.new.pass c.settle.new.pass a.call.now c.settle.ensures.stepped c.settle.ensures.kept c.settle.ensures.paid c.requires.free.idle c.accept-came.new.points a.current.now.is_sent c.in_ok-came.came accepted was.0 was.1 was.2)
    (accepted_left a.self.now.config a.current.now.seq a.current.now.request.now a.logs.now c.accept-came.new.pass c.settle.new.pass a.call.now c.settle.ensures.stepped c.settle.ensures.kept c.settle.ensures.paid c.requires.free.idle c.accept-came.new.points a.current.now.is_sent c.in_ok-came.came accepted was.0 was.1 was.2)
    refl
    (λ front transcript w. will_wait a.self.now.config a.current.now.seq a.current.now.request.now a.logs.now c.accept-came.new.pass c.settle.new.pass a.call.now c.settle.ensures.stepped c.settle.ensures.kept c.settle.ensures.paid c.requires.free.idle c.accept-came.new.points a.current.now.is_sent c.in_ok-came.came accepted delayed front transcript w)
    a.current.now.is_sent c.delay.result c.delay.ensures.served

pub returns-else-needs_op-clause-served : goal.returns-else-needs_op-clause-served
returns-else-needs_op-clause-served g c =
    let a = c.args in
    let was = c.requires.written in
    let accepted = subst (λ (b : BrokerView). (decisions : List Decision) → Decides b.config a.current.now.request.now.ask decisions → WasAccepted a.current.now.is_sent b.config a.current.now.seq a.current.now.request.now decisions a.logs.now a.call.now.accept c.accept-came.new.pass c.accept-came.new.points c.in_ok-came.came) c.self.view_is c.in_ok-came.ensures.accepted in
    let undelayed : (shown : List Shown) → results_of shown ≡ c.in_ok-came.came.accepted → AreNumbers c.in_ok-came.came.numbers shown → becomes_delayed a.current.now.request.now.ask shown ≡ false =
    λ shown rs ns. sym (c.needs_op.ensures shown (rs ∙ sym c.accepted.ensures.results) (subst (λ (xs : List Numbers). AreNumbers xs shown) (sym c.numbers.ensures) ns)) ∙ c.if-needs_op.false in
    answered a.self.now.config a.current.now.seq a.current.now.request.now a.logs.now c.accept-came.new.pass c.settle.new.pass a.call.now c.settle.ensures.stepped c.settle.ensures.kept c.settle.ensures.paid c.requires.free.idle c.accept-came.new.points a.current.now.is_sent c.in_ok-came.came accepted was.0 was.1 was.2 undelayed
    c.answer.result c.answer.new.call c.answer.ensures
