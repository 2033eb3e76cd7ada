use Rattle.std.proofs.Common.{◌≡◌, ℕ, List, None, length, map, refl, sym, ap, subst, ◌∙◌}
use Rattle.std.proofs.lemmas.List.{length-map}
use Rattle.partlog.specs.History.{History}
use Rattle.kwire.specs.Configuration.{followers_of}
use Rattle.kanswer.specs.declared.accepted.Accepted.{Accepted}
use Rattle.audit.specs.broker.Sound.{AllBelow}
use Rattle.kanswer.specs.Results.{parts_asked}
use Rattle.kanswer.specs.Waiting.{operation_of}
use Rattle.shared_broker.specs.Passes.{BrokerView}
use Rattle.shared_broker.specs.Serving.{HasServed, WillWait}
use Rattle.shared_logs.specs.Shared.{followers_in}
use Rattle.shared_broker.proofs.Delayed.{accepted_there, look_cut, look_refused, look_sits, looked_kept, looked_left, looked_on}
use Rattle.shared_broker.proofs.Results.{if_err}
use Rattle.shared_broker.proofs.Steps.{served_on}
use Rattle.shared_broker.proofs.broker.Broker.delay.Goals as goal

pub returns-in_err-looked-clause-served : goal.returns-in_err-looked-clause-served
returns-in_err-looked-clause-served g c =
    let a = c.args in
    let made : followers_in c.settle.new.pass.made ≡ followers_of a.self.now.config.topics =
    ap followers_in (c.settle.ensures.stepped.made ∙ c.look_at_clock-looked.ensures.made) ∙ c.self.invariant.1 ∙ ap (λ (b : BrokerView). followers_of b.config.topics) c.self.view_is in
    if_err (λ r. HasServed a.current.now.is_sent a.self.now.config a.current.now.seq a.current.now.request.now (WillWait a.self.now.config a.current.now.seq a.current.now.request.now a.came.accepted a.logs.now a.call.now) r a.logs.now c.settle.new.pass a.call.now
    (record { frame = a.call.now.frame; accept = c.look_at_clock-looked.new.points; finish = a.call.now.finish; how = a.call.now.how })) c.from_residual.result c.from_residual.ensures.0
    (λ e. (
      look_refused a.self.now.config a.current.now.seq a.current.now.request.now a.came.accepted a.logs.now c.look_at_clock-looked.new.pass c.settle.new.pass a.call.now c.settle.ensures.stepped c.settle.ensures.kept c.settle.ensures.paid c.settle.ensures.seen.1 made
          c.in_err-looked.ensures.refused c.look_at_clock-looked.new.points c.in_err-looked.ensures.none c.requires.cut c.requires.free.idle,
      (None, c.requires.cut),
    ))

pub returns-in_err-op-clause-served : goal.returns-in_err-op-clause-served
returns-in_err-op-clause-served g c =
    let a = c.args in
    let made : followers_in c.settle.new.pass.made ≡ followers_of a.self.now.config.topics =
    ap followers_in (c.settle.ensures.stepped.made ∙ c.look_at_clock-looked.ensures.made) ∙ c.self.invariant.1 ∙ ap (λ (b : BrokerView). followers_of b.config.topics) c.self.view_is in
    let l = c.in_ok-looked.ensures.looked in
    if_err (λ r. HasServed a.current.now.is_sent a.self.now.config a.current.now.seq a.current.now.request.now (WillWait a.self.now.config a.current.now.seq a.current.now.request.now a.came.accepted a.logs.now a.call.now) r a.logs.now c.settle.new.pass a.call.now
    (record { frame = a.call.now.frame; accept = c.look_at_clock-looked.new.points; finish = a.call.now.finish; how = a.call.now.how })) c.from_residual-in_err-op.result c.from_residual-in_err-op.ensures.0
    (λ e. (
      look_cut a.self.now.config a.current.now.seq a.current.now.request.now a.came.accepted a.logs.now c.look_at_clock-looked.new.pass c.settle.new.pass a.call.now c.settle.ensures.stepped c.settle.ensures.kept c.settle.ensures.paid c.settle.ensures.seen.1 made
          l.0 c.in_ok-looked.field-0 l.1 c.look_at_clock-looked.new.points l.2 c.requires.cut c.requires.free.idle,
      (None, c.requires.cut),
    ))

pub returns-in_err-accepted-clause-served : goal.returns-in_err-accepted-clause-served
returns-in_err-accepted-clause-served g c =
    let a = c.args in
    let made : followers_in c.settle.new.pass.made ≡ followers_of a.self.now.config.topics =
    ap followers_in (c.settle.ensures.stepped.made ∙ c.look_at_clock-looked.ensures.made) ∙ c.self.invariant.1 ∙ ap (λ (b : BrokerView). followers_of b.config.topics) c.self.view_is in
    let l = c.in_ok-looked.ensures.looked in
    if_err (λ r. HasServed a.current.now.is_sent a.self.now.config a.current.now.seq a.current.now.request.now (WillWait a.self.now.config a.current.now.seq a.current.now.request.now a.came.accepted a.logs.now a.call.now) r a.logs.now c.settle.new.pass a.call.now
    (record { frame = a.call.now.frame; accept = c.look_at_clock-looked.new.points; finish = a.call.now.finish; how = a.call.now.how })) c.from_residual-in_err-accepted.result c.from_residual-in_err-accepted.ensures.0
    (λ e. (
      look_cut a.self.now.config a.current.now.seq a.current.now.request.now a.came.accepted a.logs.now c.look_at_clock-looked.new.pass c.settle.new.pass a.call.now c.settle.ensures.stepped c.settle.ensures.kept c.settle.ensures.paid c.settle.ensures.seen.1 made
          l.0 c.in_ok-looked.field-0 l.1 c.look_at_clock-looked.new.points l.2 c.requires.cut c.requires.free.idle,
      (None, c.requires.cut),
    ))

pub enlist-requires-clause-there : goal.enlist-requires-clause-there
enlist-requires-clause-there g c =
    let a = c.args in
    let made : followers_in c.settle.new.pass.made ≡ followers_of a.self.now.config.topics =
    ap followers_in (c.settle.ensures.stepped.made ∙ c.look_at_clock-looked.ensures.made) ∙ c.self.invariant.1 ∙ ap (λ (b : BrokerView). followers_of b.config.topics) c.self.view_is in
    let was = c.requires.waits in
    let same : map (λ (h : History). h.followers) a.logs.now.parts ≡ followers_in a.self.now.logs =
    was.2.accepting.underway.histories.followers ∙ sym (subst (λ (b : BrokerView). followers_in b.logs ≡ followers_of b.config.topics) c.self.view_is c.self.invariant.1) in
    let size : length a.logs.now.parts ≡ length a.self.now.logs.parts =
    sym (length-map a.logs.now.parts (λ (h : History). h.followers)) ∙ ap (λ (ns : List ℕ). length ns) same ∙ length-map a.self.now.logs.parts _ in
    subst (λ (xs : List Accepted). AllBelow (length a.self.now.logs.parts) (parts_asked xs)) (sym c.in_ok-accepted.ensures)
    (accepted_there a.self.now.config a.current.now.seq a.current.now.request.now a.came.accepted a.logs.now c.look_at_clock-looked.new.pass c.settle.new.pass a.call.now c.settle.ensures.stepped c.settle.ensures.kept c.settle.ensures.paid c.settle.ensures.seen.1 made
    (length a.self.now.logs.parts) size was.0 was.1 was.2)

pub enlist-requires-clause-waits : goal.enlist-requires-clause-waits
enlist-requires-clause-waits g c =
    let a = c.args in
    let made : followers_in c.settle.new.pass.made ≡ followers_of a.self.now.config.topics =
    ap followers_in (c.settle.ensures.stepped.made ∙ c.look_at_clock-looked.ensures.made) ∙ c.self.invariant.1 ∙ ap (λ (b : BrokerView). followers_of b.config.topics) c.self.view_is in
    let l = c.in_ok-looked.ensures.looked in
    let was = c.requires.waits in (
      was.0,
      was.1,
      look_sits a.self.now.config a.current.now.seq a.current.now.request.now a.came.accepted a.logs.now c.look_at_clock-looked.new.pass c.settle.new.pass a.call.now c.settle.ensures.stepped c.settle.ensures.kept c.settle.ensures.paid c.settle.ensures.seen.1 made
          l.0 c.in_ok-looked.field-0 l.1 c.look_at_clock-looked.new.points l.2 (record { accepted = c.in_ok-accepted.accepted; op = c.in_ok-op.op }) c.in_ok-accepted.ensures (c.in_ok-op.ensures ∙ ap (λ (xs : List Accepted). operation_of a.current.now.request.now.ask xs c.in_ok-looked.field-0) c.accepted.ensures.results) was.0 was.1 was.2,
    )

pub returns-clause-served : goal.returns-clause-served
returns-clause-served g c =
    let a = c.args in
    let made : followers_in c.settle.new.pass.made ≡ followers_of a.self.now.config.topics =
    ap followers_in (c.settle.ensures.stepped.made ∙ c.look_at_clock-looked.ensures.made) ∙ c.self.invariant.1 ∙ ap (λ (b : BrokerView). followers_of b.config.topics) c.self.view_is in
    let l = c.in_ok-looked.ensures.looked in
    let op = c.in_ok-op.ensures ∙ ap (λ (xs : List Accepted). operation_of a.current.now.request.now.ask xs c.in_ok-looked.field-0) c.accepted.ensures.results in
    served_on a.self.now.config a.current.now.seq a.current.now.request.now (WillWait a.self.now.config a.current.now.seq a.current.now.request.now a.came.accepted a.logs.now a.call.now) _ a.logs.now c.settle.new.pass c.enlist.new.logs a.call.now _ c.enlist.new.call
    (looked_on a.self.now.config a.current.now.seq a.current.now.request.now a.came.accepted a.logs.now c.look_at_clock-looked.new.pass c.settle.new.pass a.call.now c.settle.ensures.stepped c.settle.ensures.kept c.settle.ensures.paid c.settle.ensures.seen.1 made
    l.0 c.in_ok-looked.field-0 l.1 c.look_at_clock-looked.new.points l.2)
    (looked_kept a.self.now.config a.current.now.seq a.current.now.request.now a.came.accepted a.logs.now c.look_at_clock-looked.new.pass c.settle.new.pass a.call.now c.settle.ensures.stepped c.settle.ensures.kept c.settle.ensures.paid c.settle.ensures.seen.1 made
    l.0 c.in_ok-looked.field-0 l.1 c.look_at_clock-looked.new.points l.2)
    (looked_left a.self.now.config a.current.now.seq a.current.now.request.now a.came.accepted a.logs.now c.look_at_clock-looked.new.pass c.settle.new.pass a.call.now c.settle.ensures.stepped c.settle.ensures.kept c.settle.ensures.paid c.settle.ensures.seen.1 made
    l.0 c.in_ok-looked.field-0 l.1 c.look_at_clock-looked.new.points l.2)
    refl
    (λ front transcript was. look_sits a.self.now.config a.current.now.seq a.current.now.request.now a.came.accepted a.logs.now c.look_at_clock-looked.new.pass c.settle.new.pass a.call.now c.settle.ensures.stepped c.settle.ensures.kept c.settle.ensures.paid c.settle.ensures.seen.1 made
    l.0 c.in_ok-looked.field-0 l.1 c.look_at_clock-looked.new.points l.2 (record { accepted = c.in_ok-accepted.accepted; op = c.in_ok-op.op }) c.in_ok-accepted.ensures op front transcript was)
    a.current.now.is_sent c.enlist.result c.enlist.ensures.served
