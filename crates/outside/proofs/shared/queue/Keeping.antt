-- Each call keeps the rule of the queue.
use Rattle.std.proofs.Common.{◌≡◌, ℕ, ◌+◌, ◌<◌, Result, Ok, Err, List, [], ◌∷◌, ◌++◌, length, set, sym, refl, ap, ◌∙◌, subst, append_assoc, append-nil, length-append, arith}
use Rattle.std.specs.Prelude.{All, IsPermutation, MatchResult, OnErr}
use Rattle.std.proofs.lemmas.List.Concat.{flat_map-append}
use Rattle.std.proofs.lemmas.List.Elements.{All-head, All-push, All-set, All-tail, All-weaker}
use Rattle.std.proofs.lemmas.List.Sorted.{IsPermutation-append_left, IsPermutation-sym, IsPermutation-trans, length_permutation}
use Rattle.std.proofs.lemmas.List.Sums.{sum_by_push}
use mathlib.Core.Option.{some}
use lib.ListN.{get_elem?}
use Rattle.crossbeam_queue.proofs.Lists.{set_else}
use Rattle.crossbeam_queue.specs.Fifo.{Forks, Held, Learns, Merges, Pops, Pushes}
use Rattle.outside.specs.declared.shared.queue.hand.Hand.{Hand}
use Rattle.outside.specs.declared.shared.queue.numbered.Numbered.{Numbered}
use Rattle.outside.specs.declared.shared.queue.queue_pass.TheConstants.{PARTS}
use Rattle.outside.specs.shared.queue.Balanced.{Balanced, IsIdleEmpty, Told, all_put, all_taken}
use Rattle.outside.specs.shared.queue.Hands.{both_hands, hand_put, hand_taken, lesser_hand, part_hand, spent_hand}
use Rattle.outside.proofs.shared.queue.Sums.{grows, joins, keeps, only, sum_set}

module _ {L : Type 0} (fits : Numbered L → Type 0) where
  pub puts : (n port : ℕ) (v : Hand L) (x : Numbered L) → 0 < v.parts → fits x → Pushes (Balanced fits) n port v x (λ w. w ≡ hand_put x v)
  puts n port v x some_part fit items views room b at =
      let w = hand_put x v in
      let after = set views port w in
      let one = x ∷ [] in
      let sums = sum_set (λ (u : Hand L). u.parts) views port v w at in
      let parts = b.parts in
      let more = IsPermutation-sym (all_put views ++ one) (all_put after) (grows (λ (u : Hand L). u.put) views port v w one at refl) in
      let same : all_taken after ≡ all_taken views = keeps (λ (u : Hand L). u.taken) views port v w at refl in
      let moved =
      IsPermutation-trans (all_put after) (all_put views ++ one) ((all_taken views ++ items) ++ one) more
      (IsPermutation-append_left one (all_put views) (all_taken views ++ items) b.moved) in (
        w,
        record {
          parts = omega arith;
          moved = subst (λ (l : List (Numbered L)). IsPermutation (all_put after) l) (append_assoc (all_taken views) items one ∙ ap (λ (l : List (Numbered L)). l ++ (items ++ one)) (sym same)) moved;
          idle = All-set IsIdleEmpty views port w (λ none. absurd (omega arith)) b.idle;
          fit = All-push fits items x b.fit fit;
        },
        refl,
      )

  pub takes : (port : ℕ) (v : Hand L) → 0 < v.parts → Pops (Balanced fits) port v (λ x w. fits x × (w ≡ hand_taken x v))
  takes port v some_part x items views b at =
      let w = hand_taken x v in
      let after = set views port w in
      let one = x ∷ [] in
      let sums = sum_set (λ (u : Hand L). u.parts) views port v w at in
      let parts = b.parts in
      let more = grows (λ (u : Hand L). u.taken) views port v w one at refl in
      let same : all_put after ≡ all_put views = keeps (λ (u : Hand L). u.put) views port v w at refl in
      let before = subst (λ (l : List (Numbered L)). IsPermutation l (all_taken views ++ x ∷ items)) (sym same) b.moved in
      let split = subst (λ (l : List (Numbered L)). IsPermutation (all_put after) l) (sym (append_assoc (all_taken views) one items)) before in (
        w,
        record {
          parts = omega arith;
          moved =
              IsPermutation-trans (all_put after) ((all_taken views ++ one) ++ items) (all_taken after ++ items) split
              (IsPermutation-append_left items (all_taken views ++ one) (all_taken after) more);
          idle = All-set IsIdleEmpty views port w (λ none. absurd (omega arith)) b.idle;
          fit = All-tail fits x items b.fit;
        },
        (All-head fits x items b.fit, refl),
      )

  pub forks : (port : ℕ) (v : Hand L) → 1 < v.parts → Forks (Balanced fits) port v (lesser_hand v) (part_hand v)
  forks port v two items views b at =
      let l = lesser_hand v in
      let r = part_hand v in
      let after = set views port l in
      let sums = sum_set (λ (u : Hand L). u.parts) views port v l at in
      let pushed = sum_by_push (λ (u : Hand L). u.parts) after r in
      let parts = b.parts in
      let puts_same : all_put (after ++ r ∷ []) ≡ all_put views =
      flat_map-append (λ (u : Hand L). u.put) after (r ∷ []) ∙ append-nil (all_put after) ∙ keeps (λ (u : Hand L). u.put) views port v l at refl in
      let takes_same : all_taken (after ++ r ∷ []) ≡ all_taken views =
      flat_map-append (λ (u : Hand L). u.taken) after (r ∷ []) ∙ append-nil (all_taken after) ∙ keeps (λ (u : Hand L). u.taken) views port v l at refl in
      record {
        parts = omega arith;
        moved = subst (λ (y : List (Numbered L) × List (Numbered L)). IsPermutation y.0 (y.1 ++ items)) (λ i. (sym puts_same i, sym takes_same i)) b.moved;
        idle = All-push IsIdleEmpty after r (All-set IsIdleEmpty views port l (λ none. absurd (omega arith)) b.idle) (λ none. absurd (omega arith));
        fit = b.fit;
      }

  pub merges : (port : ℕ) (v : Hand L) (other : ℕ) (u : Hand L) → 0 < v.parts → Merges (Balanced fits) port v other u (both_hands v u) spent_hand
  merges port v other u some_part items views b at apart at' =
      let both = both_hands v u in
      let mid = set views port both in
      let after = set mid other spent_hand in
      let there : get_elem? views other ≡ some u = sym (set_else views port other both apart) ∙ at' in
      let sums = sum_set (λ (h : Hand L). h.parts) views port v both at in
      let sums' = sum_set (λ (h : Hand L). h.parts) mid other u spent_hand at' in
      let parts = b.parts in
      let puts_move = joins (λ (h : Hand L). h.put) views port other v u both spent_hand at apart there refl refl in
      let takes_move = joins (λ (h : Hand L). h.taken) views port other v u both spent_hand at apart there refl refl in
      record {
        parts = omega arith;
        moved =
            IsPermutation-trans (all_put after) (all_put views) (all_taken after ++ items) (IsPermutation-sym (all_put views) (all_put after) puts_move)
            (IsPermutation-trans (all_put views) (all_taken views ++ items) (all_taken after ++ items) b.moved (IsPermutation-append_left items (all_taken views) (all_taken after) takes_move));
        idle = All-set IsIdleEmpty mid other spent_hand (λ _. (refl, refl)) (All-set IsIdleEmpty views port both (λ none. absurd (omega arith)) b.idle);
        fit = b.fit;
      }

  -- a pass with every part knows what the queue holds
  pub learns : (port : ℕ) (v : Hand L) → Learns (Balanced fits) port v (λ items. Told v items × All fits items)
  learns port v items views b at = (
    (λ whole.
        let parts = b.parts in
        let puts_are : all_put views ≡ v.put =
        only (λ (u : Hand L). u.put) (λ (u : Hand L). u.parts) views port v at (parts ∙ sym whole)
        (All-weaker IsIdleEmpty (λ (u : Hand L). u.parts ≡ 0 → u.put ≡ []) (λ u idle none. (idle none).0) views b.idle) in
        let takes_are : all_taken views ≡ v.taken =
        only (λ (u : Hand L). u.taken) (λ (u : Hand L). u.parts) views port v at (parts ∙ sym whole)
        (All-weaker IsIdleEmpty (λ (u : Hand L). u.parts ≡ 0 → u.taken ≡ []) (λ u idle none. (idle none).1) views b.idle) in
        subst (λ (y : List (Numbered L) × List (Numbered L)). IsPermutation y.0 (y.1 ++ items)) (λ i. (puts_are i, takes_are i)) b.moved),
    b.fit,
  )

-- where a push found the queue full, a pass with every part knows how many there are
pub full : {L X E : Type 0} (r : Result X E) (A : X → Type 0) (B C : E → Type 0) (v : Hand L) (n : ℕ) → MatchResult r A (λ y. B y × C y × Held n (Told v)) → OnErr r (v.parts ≡ PARTS → length v.put ≡ length v.taken + n)
full (Ok x) A B C v n is = tt
full (Err e) A B C v n is = λ whole.
    let items = is.2.0 in
    let count = is.2.1 in
    let same = length_permutation v.put (v.taken ++ items) (is.2.2 whole) in
    omega (arith, length-append v.taken items)
