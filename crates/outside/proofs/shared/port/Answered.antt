-- The history with which an accept answers, by what a desk has at hand.
use Rattle.std.proofs.Common.{◌≡◌, ◌∙◌, ◌<◌, ℕ, ◌+◌, true, false, List, [], ◌∷◌, ◌++◌, ap, arith, length, refl, sym}
use Rattle.std.specs.List.{range_with_len}
use Rattle.outside.specs.declared.shared.port.port_entry.PortEntry.{PortEntry}
use Rattle.outside.specs.declared.shared.port.port_entry.PortEntry.TheVariants.{Accepted, Ended, Faulted}
use Rattle.outside.specs.shared.port.Entries.{accepted, has_ended, has_faulted}
use Rattle.outside.specs.shared.port.History.{PortFacts, Terms}
use Rattle.outside.specs.shared.port.Tallies.{Keeps, Tally}
use Rattle.outside.proofs.shared.port.Grown.{accepted_same, given_is, has_ended_now, has_ended_same, has_faulted_now, has_faulted_same, numbers_more}

module _ {L : Type 0} (terms : Terms) (port : PortFacts L) (es : List (PortEntry L)) (tally : Tally) (keeps : Keeps terms port es tally) (room : tally.given ≡ terms.most → ⊥) where
  pub below : tally.given < terms.most
  below = let limit = keeps.history.limit in let held = keeps.given in omega (arith, limit, held, room)

  pub few : length (accepted es) < terms.most
  few = let held = keeps.given in let given = given_is terms port es keeps.history in let less = below in omega (arith, held, given, less)

  pub ended_before : tally.is_ended ≡ true → (length (accepted es) < terms.most) × (has_ended es ≡ true)
  ended_before is = (few, sym keeps.is_ended ∙ is)

  pub faulted_before : tally.is_ended ≡ false → tally.is_faulted ≡ true → (length (accepted es) < terms.most) × (has_ended es ≡ false) × (has_faulted es ≡ true)
  faulted_before ended is = (few, sym keeps.is_ended ∙ ended, sym keeps.is_faulted ∙ is)

  module _ (is_ended : tally.is_ended ≡ false) (is_faulted : tally.is_faulted ≡ false) where
    pub may_ask : (length (accepted es) < terms.most) × (has_ended es ≡ false) × (has_faulted es ≡ false)
    may_ask = (few, sym keeps.is_ended ∙ is_ended, sym keeps.is_faulted ∙ is_faulted)

    module _ (by : ℕ) (items : List (PortEntry L)) where
      pub link_came : items ≡ es ++ Accepted by tally.given ∷ [] → (tally.given < terms.most) × (accepted items ≡ range_with_len 0 (tally.given + 1)) × (has_ended items ≡ false) × (has_faulted items ≡ false)
      link_came is =
          let e : PortEntry L = Accepted by tally.given in (
            below,
            ap accepted (is ∙ ap (λ (n : ℕ). es ++ Accepted by n ∷ []) keeps.given) ∙ numbers_more terms port port es keeps.history by ∙ ap (λ (n : ℕ). range_with_len 0 (n + 1)) (sym keeps.given),
            ap has_ended is ∙ has_ended_same es e refl ∙ may_ask.1,
            ap has_faulted is ∙ has_faulted_same es e refl ∙ may_ask.2,
          )

      pub end_came : items ≡ es ++ Ended by ∷ [] → (length (accepted items) < terms.most) × (has_ended items ≡ true)
      end_came is =
          let same = ap (λ (l : List (PortEntry L)). length (accepted l)) is ∙ ap length (accepted_same es (Ended by) refl) in
          let less = few in
          (omega (arith, same, less), ap has_ended is ∙ has_ended_now es by)

      pub fault_came : items ≡ es ++ Faulted by ∷ [] → (length (accepted items) < terms.most) × (has_ended items ≡ false) × (has_faulted items ≡ true)
      fault_came is =
          let same = ap (λ (l : List (PortEntry L)). length (accepted l)) is ∙ ap length (accepted_same es (Faulted by) refl) in
          let less = few in
          (omega (arith, same, less), ap has_ended is ∙ has_ended_same es (Faulted by) refl ∙ may_ask.1, ap has_faulted is ∙ has_faulted_now es by)
