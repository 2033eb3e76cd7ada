-- The history of a port that is closed, as its passes have it.
use Rattle.std.proofs.Common.{◌≡◌, ◌∙◌, ℕ, ◌+◌, ◌<◌, ◌≤◌, ◌==◌, ◌||◌, Bool, true, List, [], ◌∷◌, ◌++◌, Option, Any, Contains, filter_map, length, length-append, ap, sym, subst, arith}
use Rattle.std.proofs.lemmas.List.Elements.{All-weaker, filter_map-append, recursion_from_All}
use Rattle.std.proofs.lemmas.List.Folds.{list_any-append}
use Rattle.std.proofs.lemmas.List.FromFn.{length-range_with_len}
use Rattle.std.specs.List.{AllByRecursion, list_any, range_with_len}
use Rattle.outside.specs.declared.shared.port.port_entry.PortEntry.{PortEntry}
use Rattle.outside.specs.shared.port.Closed.{IsClosed}
use Rattle.outside.specs.shared.port.Entries.{accepted, accepted_number, entered_by}
use Rattle.outside.specs.shared.port.History.{PortFacts}
use Rattle.outside.specs.shared.port.PortViews.{PassView, PortView}
use Rattle.link_lanes.specs.books.Times.{total}
use Rattle.link_lanes.proofs.FoundParts.{any_with, found_in_part}
use Rattle.link_lanes.proofs.PartSums.{count_is_total, having, measure_read, part_of, parts_add_up, total_same}

module _ {L : Type 0} (shared : PortView) (facts : PortFacts L) (passes : List (PassView L)) (closed : IsClosed shared facts passes) where
  abbrev number_of : PassView L → ℕ
  number_of pass = pass.number

  -- each entry is of one pass
  once_each : AllByRecursion (λ (e : PortEntry L). having number_of (entered_by e) passes ≡ 1) closed.entries
  once_each =
      recursion_from_All (λ (e : PortEntry L). having number_of (entered_by e) passes ≡ 1) closed.entries
      (All-weaker (λ (e : PortEntry L). entered_by e < shared.passes) (λ (e : PortEntry L). having number_of (entered_by e) passes ≡ 1)
      (λ e less. count_is_total (λ (pass : PassView L). pass.number == entered_by e) passes ∙ closed.once (entered_by e) less) closed.entries closed.whose)

  module _ {A : Type 0} (read : PortEntry L → Option A) where
    -- what is counted of what the passes' own entries say adds up to what is counted of what all entries say
    pub own_adds_up : (measure : List A → ℕ) → measure [] ≡ 0 → ((x : A) (xs : List A) → measure (x ∷ xs) ≡ measure (x ∷ []) + measure xs)
        → total (λ (pass : PassView L). measure (filter_map read pass.own)) passes ≡ measure (filter_map read closed.entries)
    own_adds_up measure none more =
        let counted : List (PortEntry L) → ℕ = λ es. measure (filter_map read es) in
        total_same (λ (pass : PassView L). counted pass.own) (λ (pass : PassView L). counted (part_of entered_by pass.number closed.entries)) passes
        (All-weaker (λ (pass : PassView L). part_of entered_by pass.number closed.entries ≡ pass.own) (λ (pass : PassView L). counted pass.own ≡ counted (part_of entered_by pass.number closed.entries))
        (λ pass own. ap counted (sym own)) passes closed.own)
        ∙ parts_add_up number_of entered_by counted none (λ e es. measure_read measure none more (read e) (filter_map read es)) passes closed.entries once_each

    -- what an entry says is said by some pass's own entries
    pub found_own : (x : A) → Contains (filter_map read closed.entries) x → Any (λ (pass : PassView L). Contains (filter_map read pass.own) x) passes
    found_own x there =
        any_with (λ (pass : PassView L). part_of entered_by pass.number closed.entries ≡ pass.own) (λ (pass : PassView L). Contains (filter_map read (part_of entered_by pass.number closed.entries)) x)
        (λ (pass : PassView L). Contains (filter_map read pass.own) x) passes closed.own (λ pass own found. subst (λ (es : List (PortEntry L)). Contains (filter_map read es) x) own found)
        (found_in_part entered_by read number_of passes closed.entries once_each x there)

-- ---- a history that is longer than what was seen of it

module _ {L : Type 0} (entries seen rest : List (PortEntry L)) (grown : entries ≡ seen ++ rest) where
  -- what was found in it is found in it
  pub found_still : (test : PortEntry L → Bool) → list_any test seen ≡ true → list_any test entries ≡ true
  found_still test found =
      ap (list_any test) grown ∙ list_any-append test seen rest ∙ ap (λ (b : Bool). b || list_any test rest) found

  -- where it showed as many links as may be, that many are given
  pub all_given : (most given : ℕ) → given ≤ most → accepted entries ≡ range_with_len 0 given → accepted seen ≡ range_with_len 0 most → given ≡ most
  all_given most given few numbers full =
      let longer = ap length (ap accepted grown ∙ filter_map-append accepted_number seen rest) ∙ length-append (accepted seen) (accepted rest) in
      let whole = ap length numbers ∙ length-range_with_len 0 given in
      let shown = ap length full ∙ length-range_with_len 0 most in
      omega (arith, few, longer, whole, shown)
