use Rattle.std.proofs.Common.{rules, ◌≡◌, List, ◌∷◌, ◌++◌, map, ap, ◌∙◌, subst}
use Rattle.std.specs.Prelude.{All, Option}
use Rattle.atomic_table.specs.declared.shared.Seat.{Seat}
use Rattle.turn_lock.specs.declared.known.Known.{Known}
use Rattle.turn_lock.specs.declared.pass.TurnPass.{TurnPass}
use Rattle.turn_lock.specs.Locks.{IsPassOf, IsReady, known}
use Rattle.turn_lock.proofs.Steps.{Same, joins, gathered}
use Rattle.turn_lock.proofs.Rows.{All-middle, shifted}
use Rattle.turn_lock.proofs.lock.TurnLock.gather.Goals as goal

pub join_seat-requires : goal.join_seat-requires
join_seat-requires g c =
    let P : TurnPass g.row.T.Denot g.row.T-Entry.Denot → Type 0 = λ p. IsPassOf g.T.Kept.name c.args.self.now p × IsReady p in
    let behind = c.loop-pass.invariant.0 in
    let pass = c.in-Some-pop.pass in
    let row : c.args.passes ≡ c.pop-in-loop-pass.new.self ++ pass ∷ behind =
    shifted c.args.passes c.loop-pass.passes c.pop-in-loop-pass.new.self behind pass c.loop-pass.invariant.1 c.in-Some-pop.ensures.items in
    let fits : P pass = All-middle P c.pop-in-loop-pass.new.self behind pass (subst (All P) row c.requires.each) in (
      ap (λ s. s.table_id) c.into_seat-seat.ensures ∙ fits.0.0,
      c.loop-pass.invariant.2,
      ap (λ m. m.1) c.loop-pass.invariant.3,
      search rules,
      joins g.T.Kept.entries g.T.Kept.by g.T.Kept.name _ _ _ _ _ _,
    )

pub loop-pass-preserved : goal.loop-pass-preserved
loop-pass-preserved g c =
    let P : TurnPass g.row.T.Denot g.row.T-Entry.Denot → Type 0 = λ p. IsPassOf g.T.Kept.name c.args.self.now p × IsReady p in
    let behind = c.loop-pass.invariant.0 in
    let pass = c.in-Some-pop.pass in
    let row : c.args.passes ≡ c.pop-in-loop-pass.new.self ++ pass ∷ behind =
    shifted c.args.passes c.loop-pass.passes c.pop-in-loop-pass.new.self behind pass c.loop-pass.invariant.1 c.in-Some-pop.ensures.items in
    let fits : P pass = All-middle P c.pop-in-loop-pass.new.self behind pass (subst (All P) row c.requires.each) in (
      pass ∷ behind,
      row,
      search rules,
      gathered g.row.T.Denot g.row.T-Entry.Denot c.loop-pass.all.me c.join_seat.new.seat.me pass.seat.me (map known behind)
          (subst (λ (s : Seat (Option g.row.T.Denot) (List (Known g.row.T-Entry.Denot))). Same g.row.T.Denot g.row.T-Entry.Denot c.join_seat.new.seat.me (s.me.0 ++ c.loop-pass.all.me.0, s.me.1)) c.into_seat-seat.ensures c.join_seat.ensures.2)
          c.loop-pass.invariant.3 fits.1,
    )
