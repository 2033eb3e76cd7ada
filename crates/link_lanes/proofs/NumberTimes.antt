-- How often numbers stand in lists.
use Rattle.std.proofs.Common.{◌≡◌, ◌∙◌, ℕ, zero, suc, ◌+◌, ◌==◌, ◌≤◌, Bool, List, [], ◌∷◌, ◌++◌, Option, Some, None, refl, ap, sym, arith, eq-eqb, map-id}
use Rattle.std.proofs.lemmas.Bool.Decides.{nat_tests}
use Rattle.std.proofs.lemmas.List.FromFn.{map-range_with_len_more}
use Rattle.std.specs.List.{last_or, range_with_len}
use Rattle.link_lanes.specs.books.Times.{once_below, one_where, times}

times_append : (n : ℕ) (xs ys : List ℕ) → times n (xs ++ ys) ≡ times n xs + times n ys
times_append n [] ys = omega arith
times_append n (x ∷ xs) ys = let rest = times_append n xs ys in omega (arith, rest)

range_push : (count : ℕ) → range_with_len 0 (suc count) ≡ range_with_len 0 count ++ count ∷ []
range_push count =
    let one : suc count ≡ count + 1 = omega arith in
    ap (range_with_len 0) one ∙ sym (map-id (range_with_len 0 (count + 1)))
    ∙ map-range_with_len_more (λ k. k) 0 count count (omega arith) ∙ ap (λ l. l ++ count ∷ []) (map-id (range_with_len 0 count))

-- one number more is below the next
once_more : (count n : ℕ) → once_below (suc count) n ≡ once_below count n + one_where (count == n)
once_more count n = grind (arith, nat_tests)

nothing_below : (n : ℕ) → once_below 0 n ≡ 0
nothing_below n = grind (arith, nat_tests)

-- the numbers below some number stand once in their range, and no others
pub times_range : (n count : ℕ) → times n (range_with_len 0 count) ≡ once_below count n
times_range n zero = omega (arith, nothing_below n)
times_range n (suc count) =
    let rest = times_range n count in
    let more = times_append n (range_with_len 0 count) (count ∷ []) in
    let once = once_more count n in
    ap (times n) (range_push count) ∙ omega (arith, rest, more, once)

-- zero stands in no range but the empty one
pub none_below : (count : ℕ) → once_below count 0 ≡ 0 → count ≡ 0
none_below zero none = refl
none_below (suc count) none = grind (arith, nat_tests)

same_counts : (n : ℕ) → one_where (n == n) ≡ 1
same_counts n = ap (λ (b : Bool). one_where b) (eq-eqb n n refl)

counts_same : (n m : ℕ) → 1 ≤ one_where (n == m) → n ≡ m
counts_same n m some = grind (arith, nat_tests)

-- the last of numbers that are all this one
last_same : (number : ℕ) (before : Option ℕ) (xs : List ℕ) → ((n : ℕ) → times n xs ≤ one_where (number == n)) → before ≡ Some number → last_or before xs ≡ Some number
last_same number before [] all is = is
last_same number before (x ∷ xs) all is =
    let here = all x in
    let there = same_counts x in
    last_same number (Some x) xs (λ n. let most = all n in omega (arith, most)) (ap Some (sym (counts_same number x (omega (arith, here, there)))))

-- numbers that stand as often in a list as in the list of one number have it last
pub last_is : (number : ℕ) (xs : List ℕ) → ((n : ℕ) → times n xs ≡ times n (number ∷ [])) → last_or None xs ≡ Some number
last_is number [] same = absurd (let here = same number in let there = same_counts number in omega (arith, here, there))
last_is number (x ∷ xs) same =
    let here = same x in
    let there = same_counts x in
    last_same number (Some x) xs (λ n. let most = same n in omega (arith, most)) (ap Some (sym (counts_same number x (omega (arith, here, there)))))
