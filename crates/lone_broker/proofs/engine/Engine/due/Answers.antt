use Rattle.std.proofs.Common.{◌≡◌, ◌<◌, Some, length, sym, ap, ◌∙◌, arith, cond, Bool, None}
use Rattle.partlog.specs.Moment.{moment_of}
use Rattle.audit.specs.declared.account.CallHow.TheVariants.{Expired}
use Rattle.lone_broker.specs.Kept.{Kept, parked_at}
use Rattle.lone_broker.proofs.Dues.{due_late, due_reached, gauges_there}
use Rattle.lone_broker.proofs.Standing.{parked_shown}
use Rattle.lone_broker.proofs.engine.Engine.due.Goals as goal

pub is_reached-requires : goal.is_reached-requires
is_reached-requires c =
    let kept = c.args.self.now in
    let s = c.args.session in
    let there : s < length kept.parked = omega (arith, c.requires.there, c.requires.stands.1.kept_of.parked) in
    let slot : parked_at kept s ≡ Some c.in-Some.parked = parked_shown kept _ c.as_slice.result.now s c.index-as_slice-session.result c.self.view_is c.as_slice.ensures there c.index-as_slice-session.is ∙ c.in-Some.is in
    gauges_there kept s c.in-Some.parked c.as_slice-2.result.now c.requires.stands slot (c.as_slice-2.ensures ∙ ap (λ (k : Kept). k.board.parts) c.self.view_is)

pub returns-then-is_reached : goal.returns-then-is_reached
returns-then-is_reached c =
    let kept = c.args.self.now in
    let s = c.args.session in
    let there : s < length kept.parked = omega (arith, c.requires.there, c.requires.stands.1.kept_of.parked) in
    let slot : parked_at kept s ≡ Some c.in-Some.parked = parked_shown kept _ c.as_slice.result.now s c.index-as_slice-session.result c.self.view_is c.as_slice.ensures there c.index-as_slice-session.is ∙ c.in-Some.is in
    due_reached kept s c.in-Some.parked c.as_slice-2.result.now c.is_reached.result slot (c.as_slice-2.ensures ∙ ap (λ (k : Kept). k.board.parts) c.self.view_is) c.is_reached.ensures c.if-is_reached.true

pub returns-then-is_overdue : goal.returns-then-is_overdue
returns-then-is_overdue c = λ board stands.
    let kept = c.args.self.now in
    let s = c.args.session in
    let there : s < length kept.parked = omega (arith, c.requires.there, c.requires.stands.1.kept_of.parked) in
    let slot : parked_at kept s ≡ Some c.in-Some.parked = parked_shown kept _ c.as_slice.result.now s c.index-as_slice-session.result c.self.view_is c.as_slice.ensures there c.index-as_slice-session.is ∙ c.in-Some.is in
    ap (λ (b : Bool). cond b (Some (Expired 0)) None) (sym c.if-is_overdue.true)
    ∙ due_late kept s c.in-Some.parked c.as_slice-2.result.now c.is_reached.result c.is_overdue.result c.now.result slot (c.as_slice-2.ensures ∙ ap (λ (k : Kept). k.board.parts) c.self.view_is) c.is_reached.ensures c.if-is_reached.false
    (c.now.ensures.moment ∙ ap (λ (k : Kept). moment_of k.board.clock) c.self.view_is) c.is_overdue.ensures board stands

pub returns-else-is_overdue : goal.returns-else-is_overdue
returns-else-is_overdue c = λ board stands.
    let kept = c.args.self.now in
    let s = c.args.session in
    let there : s < length kept.parked = omega (arith, c.requires.there, c.requires.stands.1.kept_of.parked) in
    let slot : parked_at kept s ≡ Some c.in-Some.parked = parked_shown kept _ c.as_slice.result.now s c.index-as_slice-session.result c.self.view_is c.as_slice.ensures there c.index-as_slice-session.is ∙ c.in-Some.is in
    ap (λ (b : Bool). cond b (Some (Expired 0)) None) (sym c.if-is_overdue.false)
    ∙ due_late kept s c.in-Some.parked c.as_slice-2.result.now c.is_reached.result c.is_overdue.result c.now.result slot (c.as_slice-2.ensures ∙ ap (λ (k : Kept). k.board.parts) c.self.view_is) c.is_reached.ensures c.if-is_reached.false
    (c.now.ensures.moment ∙ ap (λ (k : Kept). moment_of k.board.clock) c.self.view_is) c.is_overdue.ensures board stands
