-- Passes and sources by their places.
use Rattle.std.proofs.Common.{◌≡◌, ℕ, suc, List, [], ◌∷◌, drop, take, subst, sym, arith}
use Rattle.std.specs.Prelude.{All}
use Rattle.std.proofs.lemmas.List.Elements.{All-drop, All-take, All-weaker}
use Rattle.room_core.specs.declared.parts.Stage.{Stage}
use Rattle.room_table.specs.Handed.{fresh_sources}
use Rattle.room_table.specs.Seats.{SourceView, caller_now}
use Rattle.tests_of_libraries.specs.Crews.{CrewView, IsCrewOf, IsNewPass}
use Rattle.purgatory.specs.Going.{OwesNothing}
use Rattle.purgatory.specs.Rooms.{IsOfRoom, IsSourceOf, PassView, RoomView, fresh_passes}
use Rattle.purgatory.proofs.Laws.{passes_at_rest, sources_of_room}

-- passes and sources as a crew shows them
abbrev pub crew_of : List PassView → List SourceView → CrewView
crew_of hands taps = record { passes = hands; sources = taps }

-- the first item, and the others
pub first_of : {A : Type 0} (P : A → Type 0) (x : A) (xs : List A) → All P (x ∷ xs) → P x
first_of P x xs all = all 0 x (omega arith)

pub rest_of : {A : Type 0} (P : A → Type 0) (x : A) (xs : List A) → All P (x ∷ xs) → All P xs
rest_of P x xs all k d less = all (suc k) d (omega (arith, less))

-- a crew that was cut in two
module _ (room : RoomView) (hands : List PassView) (taps : List SourceView) (crew : CrewView) (shown : crew_of hands taps ≡ crew) (all : IsCrewOf room crew) (n m : ℕ) where
  pub front : (some : List PassView) (sources : List SourceView) → some ≡ take n hands → sources ≡ take m taps → IsCrewOf room (crew_of some sources)
  front some sources first second =
      let whole = subst (IsCrewOf room) (sym shown) all in
      record {
        passes = subst (All (IsOfRoom room)) (sym first) (All-take (IsOfRoom room) n hands whole.passes);
        sources = subst (All (IsSourceOf room)) (sym second) (All-take (IsSourceOf room) m taps whole.sources);
      }

  pub back : (some : List PassView) (sources : List SourceView) → some ≡ drop n hands → sources ≡ drop m taps → IsCrewOf room (crew_of some sources)
  back some sources first second =
      let whole = subst (IsCrewOf room) (sym shown) all in
      record {
        passes = subst (All (IsOfRoom room)) (sym first) (All-drop (IsOfRoom room) n hands whole.passes);
        sources = subst (All (IsSourceOf room)) (sym second) (All-drop (IsSourceOf room) m taps whole.sources);
      }

-- what a room is made with
pub new_passes : (room : RoomView) → All (IsNewPass room) (fresh_passes room)
new_passes room =
    All-weaker (λ (pass : PassView). IsOfRoom room pass × ((caller_now pass.seat).stage ≡ Stage.Idle) × OwesNothing (caller_now pass.seat)) (IsNewPass room)
    (λ pass h. record { made = h.0; idle = h.1; paid = h.2 }) (fresh_passes room) (passes_at_rest room)

pub new_sources : (room : RoomView) → All (IsSourceOf room) (fresh_sources room.table)
new_sources room =
    All-weaker (λ (source : SourceView). IsSourceOf room source × (source.steps ≡ [])) (IsSourceOf room) (λ source h. h.0) (fresh_sources room.table) (sources_of_room room)
