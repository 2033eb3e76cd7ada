use Rattle.std.proofs.Common.{◌≡◌, ◌<◌, length, arith, refl, ◌∙◌}
use Rattle.std.proofs.Math.ListN.{length-set}
use Rattle.std.proofs.lemmas.List.Elements.{All-set}
use Rattle.room_core.proofs.DeadEntries.{dropped_more, dropped_all}
use Rattle.room_core.proofs.ScanPlaces.{row_length}
use Rattle.room_core.proofs.listing.drop_dead.Goals as goal

pub drop_dead_entry-requires : goal.drop_dead_entry-requires
drop_dead_entry-requires c =
    let inv = c.loop-gauge.invariant in
    let l : c.loop-gauge.gauge < length c.loop-gauge.listing.items = omega (arith, inv.0, inv.1, c.loop-gauge-test.true) in
    let n = row_length c.loop-gauge.listing.items c.args.shape.passes c.loop-gauge.gauge c.index_mut-row.result.now inv.3 l c.index_mut-row.ensures.value in
    omega (arith, n, c.requires.pass_in)

pub loop-gauge-preserved : goal.loop-gauge-preserved
loop-gauge-preserved c =
    let inv = c.loop-gauge.invariant in
    let l : c.loop-gauge.gauge < length c.loop-gauge.listing.items = omega (arith, inv.0, inv.1, c.loop-gauge-test.true) in
    let n = row_length c.loop-gauge.listing.items c.args.shape.passes c.loop-gauge.gauge c.index_mut-row.result.now inv.3 l c.index_mut-row.ensures.value in
    let more = dropped_more c.args.session c.args.pass c.loop-gauge.gauge c.args.listing.now.items c.loop-gauge.listing.items c.index_mut-row.result.now c.drop_dead_entry.new.row inv.4 l c.index_mut-row.ensures.value c.drop_dead_entry.ensures.kept in (
      length-set c.loop-gauge.listing.items c.loop-gauge.gauge c.drop_dead_entry.new.row ∙ inv.0,
      inv.1,
      refl,
      All-set (λ row. length row.items ≡ c.args.shape.passes) c.loop-gauge.listing.items c.loop-gauge.gauge c.drop_dead_entry.new.row (c.drop_dead_entry.ensures.size ∙ n) inv.3,
      more,
    )

pub returns-clause-kept : goal.returns-clause-kept
returns-clause-kept c =
    let inv = c.loop-gauge.invariant in
    dropped_all c.args.session c.args.pass c.loop-gauge.gauge c.args.listing.now.items c.loop-gauge.listing.items inv.4 (omega (arith, inv.1, c.loop-gauge-test.false))
