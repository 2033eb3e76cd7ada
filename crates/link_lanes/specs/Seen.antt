-- What a clause sees of a link that was served, by the meanings of its trait.
use Rattle.std.specs.Prelude.{ℕ, Bool, List, Option}
use Rattle.link_lanes.specs.books.Shown.{ShownLink, shown_link}

-- the link, by what is taken from it, left, written to it, its count of faults, and whether it was shut
abbrev pub seen_by : {L : Type 0} → (L → Option (List ℕ)) → (L → Option (List ℕ)) → (L → Option (List ℕ)) → (L → ℕ) → (L → Bool) → L → ShownLink
seen_by taken left written faults is_shut link = shown_link (taken link) (left link) (written link) (faults link) (is_shut link)

-- links with their numbers
abbrev pub seen_with : {L : Type 0} → (L → ShownLink) → ℕ × L → ℕ × ShownLink
seen_with see one = (one.0, see one.1)
