-- What a room is made with.
use Rattle.std.proofs.Common.{◌≡◌, List, ◌++◌, Option, Some, subst}
use Rattle.std.specs.Prelude.{All, IfSome, option_to_list}
use Rattle.std.proofs.lemmas.List.Elements.{All-pop, All-weaker}
use Rattle.room_core.specs.declared.parts.Stage.{Stage}
use Rattle.room_table.specs.Handed.{fresh_sources}
use Rattle.room_table.specs.Seats.{SourceView, caller_now}
use Rattle.purgatory.specs.Going.{OwesNothing}
use Rattle.purgatory.specs.Rooms.{IsOfRoom, IsSourceOf, PassView, RoomView, fresh_passes}
use Rattle.purgatory.proofs.Laws.{passes_at_rest, sources_of_room}
use Rattle.two_warehouses.specs.Ready.{IsReady}
use Rattle.std.proofs.Common.{[]}

pub sources_made : (room : RoomView) → All (IsSourceOf room) (fresh_sources room.table)
sources_made room =
    All-weaker (λ (source : SourceView). IsSourceOf room source × (source.steps ≡ [])) (IsSourceOf room) (λ source made. made.0) (fresh_sources room.table) (sources_of_room room)

pub passes_ready : (room : RoomView) → All (IsReady room) (fresh_passes room)
passes_ready room =
    All-weaker (λ (pass : PassView). IsOfRoom room pass × ((caller_now pass.seat).stage ≡ Stage.Idle) × OwesNothing (caller_now pass.seat)) (IsReady room)
    (λ pass made. record { made = made.0; idle = made.1; paid = made.2 }) (fresh_passes room) (passes_at_rest room)

-- an item that was popped
pub popped : {A : Type 0} (P : A → Type 0) (xs ys : List A) (r : Option A) (x : A) → xs ≡ ys ++ option_to_list r → r ≡ Some x → All P xs → All P ys × P x
popped P xs ys r x e is all =
    let both = All-pop P xs ys r e all in
    (both.0, subst (λ o. IfSome o P) is both.1)
