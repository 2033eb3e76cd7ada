-- Partitions that topic entries name, as the code keeps them, and the search for one that is named again.
use Rattle.std.specs.Prelude.{ℕ, ℤ, Bool, ◌&&◌, List, [], ◌∷◌, map, Option, Some, None, if◌then◌else◌}
use Rattle.std.specs.List.{list_any}
use Rattle.std.specs.Cmp.Lexicographic.{pointwise}
use Rattle.std.specs.Ordering.{int_eq}
use Rattle.std.specs.Bool.{nat_eq}
use Rattle.kwire.specs.declared.repeats.Mention.{Mention as Kept}
use Rattle.kwire.specs.Refusal.{Mention}

abbrev pub view : Kept → Mention
view kept = record { entry = kept.entry; topic = kept.topic.now; index = kept.index }

-- the entry, and the number of the partition
abbrev pub place_of : Mention → ℕ × ℤ
place_of mention = (mention.entry, mention.index)

-- the partitions of one topic entry
abbrev pub parts_mentions : {X : Type 0} → (X → ℤ) → ℕ → List ℕ → List X → List Mention
parts_mentions index entry topic parts = map (λ part. record { entry = entry; topic = topic; index = index part }) parts

abbrev pub is_same : Mention → Mention → Bool
is_same a b = pointwise nat_eq a.topic b.topic && int_eq a.index b.index

-- the first that was mentioned before
abbrev pub repeat_after : List Mention → List Mention → Option Mention
repeat_after before [] = None
repeat_after before (mention ∷ mentions) =
    if list_any (is_same mention) before then Some mention else repeat_after (mention ∷ before) mentions
