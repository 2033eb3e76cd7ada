use Rattle.std.proofs.Common.{◌≡◌, ◌<◌, Bool, true, false, not, ◌&&◌, length, sym, ap, ◌∙◌, arith}
use Rattle.std.specs.Prelude.{is_some}
use Rattle.audit.specs.broker.Acting.{has_work}
use Rattle.audit.specs.broker.Board.{seat_at}
use Rattle.lone_broker.specs.Kept.{parked_at}
use Rattle.lone_broker.proofs.Standing.{parked_shown, seat_shown}
use Rattle.lone_broker.proofs.engine.Engine.is_ready.Goals as goal

pub returns-then-is_none : goal.returns-then-is_none
returns-then-is_none c =
    let kept = c.args.self.now in
    let s = c.args.session in
    let are = c.requires.stands.1.kept_of in
    let there : s < length kept.parked = omega (arith, c.requires.there, are.parked) in
    let sat : s < length kept.board.seats = omega (arith, c.requires.there, are.seats) in
    let slot = parked_shown kept _ c.as_slice.result.now s c.index-as_slice-at.result c.self.view_is c.as_slice.ensures there c.index-as_slice-at.is in
    let seat = seat_shown kept _ c.as_slice-then-is_none.result.now s c.index-as_slice-at-then-is_none.result c.self.view_is c.as_slice-then-is_none.ensures sat c.index-as_slice-at-then-is_none.is in
    let idle : is_some (parked_at kept s) ≡ false = ap is_some slot ∙ c.is_none.ensures ∙ ap not c.if-is_none.true in
    c.has_work.ensures ∙ ap has_work (sym seat) ∙ sym (ap (λ (b : Bool). not b && has_work (seat_at kept.board s)) idle)

pub returns-else-is_none : goal.returns-else-is_none
returns-else-is_none c =
    let kept = c.args.self.now in
    let s = c.args.session in
    let are = c.requires.stands.1.kept_of in
    let there : s < length kept.parked = omega (arith, c.requires.there, are.parked) in
    let slot = parked_shown kept _ c.as_slice.result.now s c.index-as_slice-at.result c.self.view_is c.as_slice.ensures there c.index-as_slice-at.is in
    let waits : is_some (parked_at kept s) ≡ true = ap is_some slot ∙ c.is_none.ensures ∙ ap not c.if-is_none.false in
    c.if-is_none.false ∙ sym (ap (λ (b : Bool). not b && has_work (seat_at kept.board s)) waits)
