-- What the queue under a rule knows of a pass, and how the pass is seen by it.
use Rattle.std.specs.Prelude.{◌≡◌, ℕ, ◌+◌, ◌-◌, ◌<◌, Option, List, [], ◌∷◌, ◌++◌}
use Rattle.crossbeam_queue.specs.declared.array_queue.Doing.{Doing}
use Rattle.crossbeam_queue.specs.declared.array_queue.Slotted.{Slotted}
use Rattle.crossbeam_queue.specs.Passes.{Pass, ruled_capacity, view}
use Rattle.outside.specs.declared.shared.queue.hand.Hand.{Hand}
use Rattle.outside.specs.declared.shared.queue.numbered.Numbered.{Numbered}
use Rattle.outside.specs.declared.shared.queue.queue_pass.TheConstants.{PARTS}
use Rattle.outside.specs.shared.queue.QueueViews.{PassView, QueueView}

module _ {L : Type 0} where
  abbrev pub hand : ℕ → List (Numbered L) → List (Numbered L) → Hand L
  hand parts put taken = record { parts = parts; put = put; taken = taken }

  abbrev pub first_hand : Hand L
  first_hand = hand PARTS [] []

  abbrev pub part_hand : Hand L → Hand L
  part_hand v = hand 1 [] []

  abbrev pub spent_hand : Hand L
  spent_hand = hand 0 [] []

  abbrev pub lesser_hand : Hand L → Hand L
  lesser_hand v = hand (v.parts - 1) v.put v.taken

  abbrev pub both_hands : Hand L → Hand L → Hand L
  both_hands v w = hand (v.parts + w.parts) (v.put ++ w.put) (v.taken ++ w.taken)

  abbrev pub hand_put : Numbered L → Hand L → Hand L
  hand_put x v = hand v.parts (v.put ++ x ∷ []) v.taken

  abbrev pub hand_taken : Numbered L → Hand L → Hand L
  hand_taken x v = hand v.parts v.put (v.taken ++ x ∷ [])

  abbrev pub pass_view : Pass (Numbered L) (Hand L) → PassView L
  pass_view seat = record { made = seat.table_id; parts = (view seat).parts; put = (view seat).put; taken = (view seat).taken }

  -- no slot is out with it, and it has a part
  abbrev pub IsReadyPass : Pass (Numbered L) (Hand L) → Type 0
  IsReadyPass seat = (seat.me.1 ≡ []) × (0 < (view seat).parts)

  abbrev pub queue_view : {Q A : Type 0} → Slotted (Option (Numbered L)) (Doing (Numbered L) (Hand L)) Q A → QueueView
  queue_view ring = record { id = ring.table.shared.table_id; capacity = ruled_capacity ring }
