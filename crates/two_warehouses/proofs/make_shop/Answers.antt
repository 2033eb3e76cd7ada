use Rattle.std.proofs.Common.{rules, ◌≡◌, sym, subst}
use Rattle.std.specs.Prelude.{All}
use Rattle.room_table.specs.Handed.{fresh_sources}
use Rattle.two_warehouses.specs.Ready.{IsReady}
use Rattle.purgatory.specs.Rooms.{IsSourceOf, fresh_passes}
use Rattle.two_warehouses.proofs.Fresh.{passes_ready, sources_made}
use Rattle.two_warehouses.proofs.make_shop.Goals as goal

pub three_sources-requires : goal.three_sources-requires
three_sources-requires c =
    let parts = c.in_ok-parts.parts in
    let fresh : parts.sources ≡ fresh_sources parts.room.table = search rules in
    subst (All (IsSourceOf parts.room)) (sym fresh) (sources_made parts.room)

pub three_passes-requires : goal.three_passes-requires
three_passes-requires c =
    let parts = c.in_ok-parts.parts in
    let fresh : parts.passes ≡ fresh_passes parts.room = search rules in
    subst (All (IsReady parts.room)) (sym fresh) (passes_ready parts.room)
