use Rattle.std.proofs.Common.{◌≡◌, ◌++◌, ℕ, List, true, false, sym, subst, ap, ◌∙◌}
use Rattle.std.specs.Prelude.{is_some}
use Rattle.std.proofs.lemmas.Result.{on_ok_weaker}
use Rattle.trace_workers.specs.Received.{HasReceived}
use Rattle.trace_workers.specs.Sessions.{SessionView}
use Rattle.trace_workers.proofs.Going.{fed, fed_over, handled_of, none_of, received_of}
use Rattle.trace_workers.proofs.session.TraceSession.feed.Goals as goal

pub returns-then-not-is_begun-clause-received : goal.returns-then-not-is_begun-clause-received
returns-then-not-is_begun-clause-received c input h =
    let s : SessionView = c.name.new.self in
    let i = c.self.inside in
    let n = c.name.ensures in
    let over : is_some s.pass.going ≡ false = ap (λ (x : SessionView). is_some x.pass.going) (sym c.self.view_is) ∙ sym c.is_begun.ensures ∙ c.if-not-is_begun.true in
    received_of (input ++ c.args.bytes.now) s n.named
    (fed_over input c.args.bytes.now s (none_of s.pass.going over) (n.shut ∙ c.requires.open) (handled_of input s n.named (n.received input h)))

pub returns-clause-received : goal.returns-clause-received
returns-clause-received c =
    on_ok_weaker c.feed.result
    (λ (is : c.feed.new.self ≡ c.self.inside.inbox ++ c.args.bytes.now) (input : List ℕ) (h : HasReceived input c.args.self.now).
    let i = c.self.inside in
    let n = c.name.ensures in
    let s : SessionView = record { number = i.number; pass = i.pass; inbox = i.inbox; is_shut = i.is_shut; is_named = i.is_named; kept = i.kept } in
    let named : s.is_named ≡ true = ap (λ (x : SessionView). x.is_named) c.self.view_is ∙ n.named in
    let here : HasReceived input s = subst (HasReceived input) (sym c.self.view_is) (n.received input h) in
    let goes : is_some i.pass.going ≡ true = sym c.is_begun.ensures ∙ c.if-not-is_begun.false in
    subst (λ (inbox : List ℕ). HasReceived (input ++ c.args.bytes.now) (record s { inbox = inbox })) (sym is)
    (received_of (input ++ c.args.bytes.now) (record s { inbox = s.inbox ++ c.args.bytes.now }) named (fed input c.args.bytes.now s goes (handled_of input s named here))))
    c.feed.ensures.ok
