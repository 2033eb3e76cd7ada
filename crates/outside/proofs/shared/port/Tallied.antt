-- What a desk has at hand, with one entry more.
use Rattle.std.proofs.Common.{◌≡◌, ◌∙◌, ◌≤◌, ◌<◌, ℕ, ◌+◌, true, false, List, [], ◌∷◌, ◌++◌, Some, ap, arith, length, length-append, refl, subst, sym}
use Rattle.outside.specs.Causes.{Rose}
use Rattle.outside.specs.Told.{Gains}
use Rattle.outside.specs.declared.shared.port.port_entry.PortEntry.{PortEntry}
use Rattle.outside.specs.declared.shared.port.port_entry.PortEntry.TheVariants.{Opened, Accepted, Ended, Faulted}
use Rattle.outside.specs.shared.port.Entries.{accepted, has_ended, has_faulted, opened, retired}
use Rattle.outside.specs.shared.port.History.{PortFacts, Terms}
use Rattle.outside.specs.shared.port.Tallies.{Keeps, Tally}
use Rattle.outside.proofs.shared.port.Grown.{accepted_more, ended_more, faulted_more, has_ended_now, has_ended_same, has_faulted_now, has_faulted_same, opened_more, retired-push, retired_more, retired_same}

module _ {L : Type 0} (terms : Terms) (old new : PortFacts L) (es items : List (PortEntry L)) (tally : Tally) (keeps : Keeps terms old es tally) where
  pub keeps_opened : (by number : ℕ) → items ≡ es ++ Opened by number ∷ [] → new.opened_with ≡ Some number → new.given ≡ old.given → new.is_ended ≡ old.is_ended → new.retired_count ≡ old.retired_count → new.retired ≡ old.retired → old.faults ≤ new.faults
      → Keeps terms new items tally
  keeps_opened by number is is_opened given ended count links later =
      let e : PortEntry L = Opened by number in
      subst (λ (l : List (PortEntry L)). Keeps terms new l tally) (sym is) record {
        history = opened_more terms old new es keeps.history by number is_opened given ended count links later;
        given = keeps.given ∙ sym given;
        retired = keeps.retired ∙ sym (ap length (retired_same es e refl));
        is_ended = keeps.is_ended ∙ sym (has_ended_same es e refl);
        is_faulted = keeps.is_faulted ∙ sym (has_faulted_same es e refl);
      }

  pub keeps_faulted : (by : ℕ) → items ≡ es ++ Faulted by ∷ [] → new.opened_with ≡ old.opened_with → new.given ≡ old.given → new.is_ended ≡ old.is_ended → new.retired_count ≡ old.retired_count → new.retired ≡ old.retired → Rose old.faults new.faults → old.faults ≤ new.faults
      → Keeps terms new items (record { given = tally.given; retired = tally.retired; is_ended = tally.is_ended; is_faulted = true })
  keeps_faulted by is is_opened given ended count links rose later =
      let e : PortEntry L = Faulted by in
      subst (λ (l : List (PortEntry L)). Keeps terms new l (record { given = tally.given; retired = tally.retired; is_ended = tally.is_ended; is_faulted = true })) (sym is) record {
        history = faulted_more terms old new es keeps.history by is_opened given ended count links rose later;
        given = keeps.given ∙ sym given;
        retired = keeps.retired ∙ sym (ap length (retired_same es e refl));
        is_ended = keeps.is_ended ∙ sym (has_ended_same es e refl);
        is_faulted = sym (has_faulted_now es by);
      }

  pub keeps_ended : (by : ℕ) → items ≡ es ++ Ended by ∷ [] → new.opened_with ≡ old.opened_with → new.given ≡ old.given → new.is_ended ≡ true → new.retired_count ≡ old.retired_count → new.retired ≡ old.retired → old.faults ≤ new.faults
      → Keeps terms new items (record { given = tally.given; retired = tally.retired; is_ended = true; is_faulted = tally.is_faulted })
  keeps_ended by is is_opened given ended count links later =
      let e : PortEntry L = Ended by in
      subst (λ (l : List (PortEntry L)). Keeps terms new l (record { given = tally.given; retired = tally.retired; is_ended = true; is_faulted = tally.is_faulted })) (sym is) record {
        history = ended_more terms old new es keeps.history by is_opened given ended count links later;
        given = keeps.given ∙ sym given;
        retired = keeps.retired ∙ sym (ap length (retired_same es e refl));
        is_ended = sym (has_ended_now es by);
        is_faulted = keeps.is_faulted ∙ sym (has_faulted_same es e refl);
      }

  pub keeps_accepted : (by : ℕ) → items ≡ es ++ Accepted by tally.given ∷ [] → tally.given < terms.most → new.opened_with ≡ old.opened_with → new.given ≡ old.given + 1 → new.is_ended ≡ old.is_ended → new.retired_count ≡ old.retired_count → new.retired ≡ old.retired → old.faults ≤ new.faults
      → Keeps terms new items (record { given = tally.given + 1; retired = tally.retired; is_ended = tally.is_ended; is_faulted = tally.is_faulted })
  keeps_accepted by is room is_opened given ended count links later =
      let e : PortEntry L = Accepted by old.given in
      let held = keeps.given in
      subst (λ (l : List (PortEntry L)). Keeps terms new l (record { given = tally.given + 1; retired = tally.retired; is_ended = tally.is_ended; is_faulted = tally.is_faulted })) (sym (is ∙ ap (λ (n : ℕ). es ++ Accepted by n ∷ []) keeps.given)) record {
        history = accepted_more terms old new es keeps.history by (omega (arith, room, held)) is_opened given ended count links later;
        given = omega (arith, held, given);
        retired = keeps.retired ∙ sym (ap length (retired_same es e refl));
        is_ended = keeps.is_ended ∙ sym (has_ended_same es e refl);
        is_faulted = keeps.is_faulted ∙ sym (has_faulted_same es e refl);
      }

  pub keeps_retired : (e : PortEntry L) (link : ℕ × L) (now : ℕ) → items ≡ es ++ e ∷ [] → retired (e ∷ []) ≡ link ∷ [] → opened (e ∷ []) ≡ [] → accepted (e ∷ []) ≡ [] → has_ended (e ∷ []) ≡ false → has_faulted (e ∷ []) ≡ false
      → now ≡ tally.retired + 1 → new.opened_with ≡ old.opened_with → new.given ≡ old.given → new.is_ended ≡ old.is_ended → new.retired_count ≡ old.retired_count + 1 → Gains old.retired new.retired link → new.faults ≡ old.faults
      → Keeps terms new items (record { given = tally.given; retired = now; is_ended = tally.is_ended; is_faulted = tally.is_faulted })
  keeps_retired e link now is is_link not_opened not_accepted not_ended not_faulted one_more is_opened given ended count links faults =
      let more = ap length (retired-push es e ∙ ap (λ (l : List (ℕ × L)). retired es ++ l) is_link) ∙ length-append (retired es) (link ∷ []) in
      let held = keeps.retired in
      subst (λ (l : List (PortEntry L)). Keeps terms new l (record { given = tally.given; retired = now; is_ended = tally.is_ended; is_faulted = tally.is_faulted })) (sym is) record {
        history = retired_more terms old new es keeps.history e link is_link not_opened not_accepted not_ended not_faulted is_opened given ended count links faults;
        given = keeps.given ∙ sym given;
        retired = omega (arith, one_more, held, more);
        is_ended = keeps.is_ended ∙ sym (has_ended_same es e not_ended);
        is_faulted = keeps.is_faulted ∙ sym (has_faulted_same es e not_faulted);
      }
