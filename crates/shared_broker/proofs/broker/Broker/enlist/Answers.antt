use Rattle.std.proofs.Common.{ℕ, Some, All, refl, sym, ap, subst, ◌∙◌, ◌≡◌, eqb, ◌*◌, ◌<◌, length}
use Rattle.audit.specs.IsLawful.{is_won_as}
use Rattle.opcond.specs.declared.need.Need.{Need}
use Rattle.shared_broker.specs.Passes.{BrokerView}
use Rattle.shared_broker.specs.Serving.{HasServed, WillSit}
use Rattle.shared_broker.proofs.Enlisted.{parked_come, parked_left, parked_seat, won_answered, won_as, won_come, won_left, won_replied}
use Rattle.shared_broker.proofs.Gauges.{gauges_there}
use Rattle.shared_broker.proofs.Results.{if_err}
use Rattle.shared_broker.proofs.broker.Broker.enlist.Goals as goal

pub register-requires-clause-gauges : goal.register-requires-clause-gauges
register-requires-clause-gauges g c =
    let a = c.args in
    subst (λ (b : BrokerView). All (λ (need : Need). need.gauge < 3 * length b.logs.parts) a.parked.op.needs) (sym c.self.view_is)
    (gauges_there (length a.self.now.logs.parts) a.current.now.request.now.ask a.parked.accepted c.requires.became.0 a.parked.op c.requires.became.1 c.requires.there)

pub returns-in_err-frame-in-Won-clause-served : goal.returns-in_err-frame-in-Won-clause-served
returns-in_err-frame-in-Won-clause-served g c =
    let a = c.args in
    let done = c.in-Won.done in
    let f = c.in_err-frame-in-Won.ensures.finished a.call.now in
    if_err (λ r. HasServed a.current.now.is_sent a.self.now.config a.current.now.seq a.current.now.request.now (WillSit a.self.now.config a.current.now.seq a.current.now.request.now a.parked a.logs.now a.call.now) r a.logs.now c.complete.new.logs a.call.now
    (record { frame = a.call.now.frame; accept = a.call.now.accept; finish = c.complete.new.finish; how = c.complete.new.how })) c.from_residual.result c.from_residual.ensures.0
    (λ e. (
      won_come a.self.now.config a.current.now.seq a.current.now.request.now a.parked a.logs.now c.register.new.pass a.call.now c.register.ensures.stepped c.register.ensures.paid done c.in-Won.ensures.registered c.complete.new.logs _ f.0
          (λ winner. ap (is_won_as winner) f.1),
      (Some done.by, f.1),
    ))

pub returns-in-Parked-clause-served : goal.returns-in-Parked-clause-served
returns-in-Parked-clause-served g c =
    let a = c.args in
    let r = c.in-Parked.ensures.registered in (
      parked_come a.self.now.config a.current.now.seq a.current.now.request.now a.parked a.logs.now c.register.new.pass a.call.now c.register.ensures.stepped c.register.ensures.paid r c.requires.became.0 c.requires.became.1 c.requires.listed c.requires.carriable,
      refl,
      parked_seat a.self.now.config a.current.now.seq a.current.now.request.now a.parked a.logs.now c.register.new.pass a.call.now c.register.ensures.stepped c.register.ensures.paid r,
      parked_left a.self.now.config a.current.now.seq a.current.now.request.now a.parked a.logs.now c.register.new.pass a.call.now c.register.ensures.stepped c.register.ensures.paid r,
    )

pub returns-in_ok-frame-in-Won-clause-served : goal.returns-in_ok-frame-in-Won-clause-served
returns-in_ok-frame-in-Won-clause-served g c =
    let a = c.args in
    let done = c.in-Won.done in
    let f = c.in_ok-frame-in-Won.ensures.finished a.call.now in
    let names : (winner : ℕ) → is_won_as winner c.complete.new.how ≡ eqb done.by winner = λ winner. ap (is_won_as winner) f.1 ∙ won_as done.how done.by winner in (
      won_come a.self.now.config a.current.now.seq a.current.now.request.now a.parked a.logs.now c.register.new.pass a.call.now c.register.ensures.stepped c.register.ensures.paid done c.in-Won.ensures.registered c.complete.new.logs _ f.0 names,
      c.requires.loud,
      won_answered a.self.now.config a.current.now.seq a.current.now.request.now a.parked a.logs.now c.register.new.pass a.call.now c.register.ensures.stepped c.register.ensures.paid done c.in-Won.ensures.registered c.complete.new.logs _ f.0 names f.1,
      won_left a.self.now.config a.current.now.seq a.current.now.request.now a.parked a.logs.now c.register.new.pass a.call.now c.register.ensures.stepped c.register.ensures.paid done c.in-Won.ensures.registered c.complete.new.logs _ f.0 names f.2,
      won_replied a.self.now.config a.current.now.seq a.current.now.request.now a.parked a.logs.now c.register.new.pass a.call.now c.register.ensures.stepped c.register.ensures.paid done c.in-Won.ensures.registered c.complete.new.logs _ f.0 names a.current.now.is_sent c.in_ok-frame-in-Won.frame f.3,
    )
