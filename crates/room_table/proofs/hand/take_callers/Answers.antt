use Rattle.std.proofs.Common.{◌≡◌, ◌∷◌, sym, ap, subst, ◌∙◌}
use Rattle.std.specs.Prelude.{All}
use Rattle.room_table.specs.Closing.{with_caller}
use Rattle.room_table.specs.Seats.{CallerView}
use Rattle.room_table.proofs.Ends.{shifted, in_middle}
use Rattle.room_table.proofs.hand.take_callers.Goals as goal

pub take_caller-requires : goal.take_caller-requires
take_caller-requires c =
    let x = c.in-Some.caller in
    let taken = c.loop-caller.invariant in
    let all = shifted c.args.callers c.loop-caller.callers c.pop.new.self taken.0 x taken.1 c.in-Some.ensures.items in
    in_middle (λ (s : CallerView). s.table ≡ c.args.closing.now.table) c.pop.new.self taken.0 x (subst (All (λ (s : CallerView). s.table ≡ c.args.closing.now.table)) all c.requires)
    ∙ sym (ap (λ v. v.table) taken.2)

pub loop-caller-preserved : goal.loop-caller-preserved
loop-caller-preserved c =
    let x = c.in-Some.caller in
    let taken = c.loop-caller.invariant in (
      x ∷ taken.0,
      shifted c.args.callers c.loop-caller.callers c.pop.new.self taken.0 x taken.1 c.in-Some.ensures.items,
      c.take_caller.ensures ∙ ap (λ v. with_caller v x) taken.2,
    )
