use Rattle.std.proofs.Common.{rules, ◌≡◌, sym, subst}
use Rattle.std.specs.Prelude.{All}
use Rattle.room_table.specs.Handed.{fresh_sources}
use Rattle.purgatory.specs.Rooms.{IsSourceOf, fresh_passes}
use Rattle.tests_of_libraries.specs.Crews.{IsNewPass}
use Rattle.tests_of_libraries.proofs.Crews.{new_passes, new_sources}
use Rattle.tests_of_libraries.proofs.rooms.crew.start.Goals as goal

pub hands-requires : goal.hands-requires
hands-requires c =
    let parts = c.in_ok-parts.parts in
    let fresh : parts.passes ≡ fresh_passes parts.room = search rules in
    subst (All (IsNewPass parts.room)) (sym fresh) (new_passes parts.room)

pub returns : goal.returns
returns c =
    let parts = c.in_ok-parts.parts in
    let fresh : parts.sources ≡ fresh_sources parts.room.table = search rules in
    let made : All (IsSourceOf parts.room) parts.sources = subst (All (IsSourceOf parts.room)) (sym fresh) (new_sources parts.room) in
    record { passes = search rules; sources = subst (All (IsSourceOf parts.room)) (sym c.into_vec-sources.ensures) made }
