use Rattle.std.proofs.Common.{◌≡◌, ◌∷◌, sym, ap, subst, ◌∙◌}
use Rattle.std.specs.Prelude.{All}
use Rattle.room_table.specs.Closing.{with_source}
use Rattle.room_table.specs.Seats.{SourceView}
use Rattle.room_table.proofs.Ends.{shifted, in_middle}
use Rattle.room_table.proofs.hand.take_sources.Goals as goal

pub take_source-requires : goal.take_source-requires
take_source-requires c =
    let x = c.in-Some.source in
    let taken = c.loop-source.invariant in
    let all = shifted c.args.sources c.loop-source.sources c.pop.new.self taken.0 x taken.1 c.in-Some.ensures.items in
    in_middle (λ (s : SourceView). s.table ≡ c.args.closing.now.table) c.pop.new.self taken.0 x (subst (All (λ (s : SourceView). s.table ≡ c.args.closing.now.table)) all c.requires)
    ∙ sym (ap (λ v. v.table) taken.2)

pub loop-source-preserved : goal.loop-source-preserved
loop-source-preserved c =
    let x = c.in-Some.source in
    let taken = c.loop-source.invariant in (
      x ∷ taken.0,
      shifted c.args.sources c.loop-source.sources c.pop.new.self taken.0 x taken.1 c.in-Some.ensures.items,
      c.take_source.ensures ∙ ap (λ v. with_source v x) taken.2,
    )
