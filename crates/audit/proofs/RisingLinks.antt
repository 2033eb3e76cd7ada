-- Links that are sorted by their numbers, no two of which are the same, rise.
use Rattle.std.proofs.Common.{◌≡◌, ◌≢◌, ◌<◌, ◌≤◌, ℕ, List, length, get_or, map, AllPairs, IsPermutation, Bor, sym, ap, ◌∙◌, arith, rules, subst, [], ◌∷◌, None}
use Rattle.std.specs.Prelude.{◌==◌}
use Rattle.std.specs.List.Sorted.{IsNonDecreasingBy}
use Rattle.std.proofs.lemmas.Bool.Decides.{Decides-eqb}
use Rattle.std.proofs.lemmas.List.{get_or-map, length-map}
use Rattle.std.proofs.lemmas.List.Sorted.{IsPermutation-map}
use Rattle.std.proofs.lemmas.Map.Keys.{IsDistinct-IsPermutation}
use Rattle.std.proofs.lemmas.Map.Made.{AllPairs-from_IsDistinct, IsDistinct-from_AllPairs}
use Rattle.audit.specs.declared.account.Transcript.{Transcript}
use Rattle.audit.specs.Links.{lent}
use Rattle.audit.specs.declared.account.Account.{Account}
use Rattle.audit.specs.Printed.{transcripts_of}
use Rattle.audit.specs.ServePrint.{AreRisingLinks}

abbrev numbers : List Transcript → List ℕ
numbers links = map (λ (t : Transcript). t.number) links

some_transcript : Transcript
some_transcript = record { number = 0; first = 0; calls = []; end = None }

differ : (links : List Transcript) → AllPairs (λ a b. a.number ≢ b.number) links → AllPairs (λ (x y : ℕ). x ≢ y) (numbers links)
differ links h i j d lt within =
    let len : length (numbers links) ≡ length links = length-map links (λ (t : Transcript). t.number) in
    let a : get_or (numbers links) i d ≡ (get_or links i some_transcript).number = get_or-map (λ (t : Transcript). t.number) links i some_transcript d (omega (arith, lt, within, len)) in
    let b : get_or (numbers links) j d ≡ (get_or links j some_transcript).number = get_or-map (λ (t : Transcript). t.number) links j some_transcript d (omega (arith, within, len)) in
    λ e. h i j some_transcript lt (omega (arith, within, len)) (sym a ∙ e ∙ b)

distinct : (xs ys : List ℕ) → IsPermutation xs ys → AllPairs (λ (x y : ℕ). x ≢ y) xs → AllPairs (λ (x y : ℕ). x ≢ y) ys
distinct xs ys moved h =
    AllPairs-from_IsDistinct Decides-eqb ys (IsDistinct-IsPermutation (λ (x y : ℕ). x == y) flips xs ys moved (IsDistinct-from_AllPairs Decides-eqb xs h))
  where
    flips : (x y : ℕ) → (x == y) ≡ (y == x)
    flips x y = search rules

same_of : (links : List (Bor Transcript)) (i : ℕ) (b : Bor Transcript) (d : Transcript) → i < length links → get_or (lent links) i d ≡ (get_or links i b).now
same_of links i b d lt = get_or-map (λ (link : Bor Transcript). link.now) links i b d lt

ascend : (links : List (Bor Transcript)) → IsNonDecreasingBy (λ (link : Bor Transcript). link.now.number) links → IsNonDecreasingBy (λ (t : Transcript). t.number) (lent links)
ascend [] up i j d le within = absurd (omega (arith, within))
ascend (b ∷ bs) up i j d le within =
    let links = b ∷ bs in
    let len : length (lent links) ≡ length links = length-map links (λ (link : Bor Transcript). link.now) in
    let here : (get_or links i b).now.number ≤ (get_or links j b).now.number = up i j b le (omega (arith, within, len)) in
    let first = ap (λ (t : Transcript). t.number) (same_of links i b d (omega (arith, le, within, len))) in
    let second = ap (λ (t : Transcript). t.number) (same_of links j b d (omega (arith, within, len))) in
    omega (arith, here, first, second)

rising : (links : List Transcript) → IsNonDecreasingBy (λ (t : Transcript). t.number) links → AllPairs (λ (x y : ℕ). x ≢ y) (numbers links) → AllPairs (λ a b. a.number < b.number) links
rising links up apart i j d lt within =
    let len : length (numbers links) ≡ length links = length-map links (λ (t : Transcript). t.number) in
    let a : get_or (numbers links) i 0 ≡ (get_or links i d).number = get_or-map (λ (t : Transcript). t.number) links i d 0 (omega (arith, lt, within, len)) in
    let b : get_or (numbers links) j 0 ≡ (get_or links j d).number = get_or-map (λ (t : Transcript). t.number) links j d 0 (omega (arith, within, len)) in
    below (up i j d (omega (arith, lt)) within) (λ e. apart i j 0 lt (omega (arith, within, len)) (a ∙ e ∙ sym b))
  where
    below : {x y : ℕ} → x ≤ y → x ≢ y → x < y
    below le apart = search rules

pub rise : (account : Account) (found sorted : List (Bor Transcript)) → lent found ≡ transcripts_of account → AllPairs (λ a b. a.number ≢ b.number) (transcripts_of account)
    → IsPermutation found sorted → IsNonDecreasingBy (λ (link : Bor Transcript). link.now.number) sorted → AreRisingLinks account (lent sorted)
rise account found sorted is once moved up =
    let each : IsPermutation (transcripts_of account) (lent sorted) =
    subst (λ (ts : List Transcript). IsPermutation ts (lent sorted)) is (IsPermutation-map (λ (link : Bor Transcript). link.now) found sorted moved) in
    let apart = distinct (numbers (transcripts_of account)) (numbers (lent sorted)) (IsPermutation-map (λ (t : Transcript). t.number) (transcripts_of account) (lent sorted) each) (differ (transcripts_of account) once) in
    record { each = each; rising = rising (lent sorted) (ascend sorted up) apart }
