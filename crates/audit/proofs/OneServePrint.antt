-- An account has one list of its transcripts in rising number, and so one print of its links.
use Rattle.std.proofs.Common.{◌≡◌, ◌<◌, ◌⊎◌, ℕ, zero, suc, List, [], ◌∷◌, ◌++◌, AllPairs, Contains, IsPermutation, inl, inr, refl, sym, ap, subst, ◌∙◌, arith}
use Rattle.std.specs.List.{AllByRecursion, flat_map}
use Rattle.std.proofs.lemmas.List.Elements.{recursion_from_All, All-from_recursion}
use Rattle.std.proofs.lemmas.List.Sorted.{Contains-permutation, IsPermutation-sym}
use Rattle.audit.specs.declared.account.Account.{Account}
use Rattle.audit.specs.declared.account.Transcript.{Transcript}
use Rattle.audit.specs.Printed.{done_line, link_line, numbered, part_line, transcripts_of}
use Rattle.audit.specs.ServePrint.{IsServePrint}

abbrev Above : Transcript → List Transcript → Type 0
Above x xs = AllByRecursion (λ y. x.number < y.number) xs

abbrev Rises : List Transcript → Type 0
Rises [] = Unit {0}
Rises (x ∷ xs) = Above x xs × Rises xs

rises_of : (xs : List Transcript) → AllPairs (λ a b. a.number < b.number) xs → Rises xs
rises_of [] h = tt
rises_of (x ∷ xs) h =
    (recursion_from_All (λ (y : Transcript). x.number < y.number) xs (λ k d lt. h 0 (suc k) d (omega arith) (omega (arith, lt))), rises_of xs (λ i j d lt within. h (suc i) (suc j) d (omega (arith, lt)) (omega (arith, within))))

-- it is the first, or one of the others
cases_of : (x z : Transcript) (xs : List Transcript) → Contains (x ∷ xs) z → (z ≡ x) ⊎ Contains xs z
cases_of x z xs (zero, lt, e) = inl (sym e)
cases_of x z xs (suc k, lt, e) = inr (k, omega (arith, lt), e)

behind : (x z : Transcript) (xs : List Transcript) → Contains xs z → Contains (x ∷ xs) z
behind x z xs (k, lt, e) = (suc k, omega (arith, lt), e)

above : (x z : Transcript) (xs : List Transcript) → Above x xs → Contains xs z → x.number < z.number
above x z xs h (k, lt, e) = subst (λ (t : Transcript). x.number < t.number) e (All-from_recursion (λ (y : Transcript). x.number < y.number) xs h k z lt)

abbrev HasAll : List Transcript → List Transcript → Type 0
HasAll xs ys = (z : Transcript) → Contains xs z → Contains ys z

same_first : (x y : Transcript) (xs ys : List Transcript) → Rises (x ∷ xs) → Rises (y ∷ ys) → HasAll (x ∷ xs) (y ∷ ys) → HasAll (y ∷ ys) (x ∷ xs) → x ≡ y
same_first x y xs ys up on there back =
    elim (cases_of y x ys (there x (zero, omega arith, refl))) [
      | inl e ↦ e
      | inr later ↦ elim (cases_of x y xs (back y (zero, omega arith, refl))) [
        | inl e ↦ sym e
        | inr other ↦ let a = above y x ys on.0 later in let b = above x y xs up.0 other in absurd (omega (arith, a, b))
      ]
    ]

rest_has : (x y : Transcript) (xs ys : List Transcript) → x ≡ y → Above x xs → HasAll (x ∷ xs) (y ∷ ys) → HasAll xs ys
rest_has x y xs ys e up there z h =
    elim (cases_of y z ys (there z (behind x z xs h))) [
      | inl f ↦ let a = above x z xs up h in let same : z.number ≡ x.number = ap (λ (t : Transcript). t.number) (f ∙ sym e) in absurd (omega (arith, a, same))
      | inr k ↦ k
    ]

same_links : (xs ys : List Transcript) → Rises xs → Rises ys → HasAll xs ys → HasAll ys xs → xs ≡ ys
same_links [] [] up on there back = refl
same_links [] (y ∷ ys) up on there back = let k = back y (zero, omega arith, refl) in absurd (omega (arith, k.1))
same_links (x ∷ xs) [] up on there back = let k = there x (zero, omega arith, refl) in absurd (omega (arith, k.1))
same_links (x ∷ xs) (y ∷ ys) up on there back =
    let e = same_first x y xs ys up on there back in
    ap (λ (t : Transcript). t ∷ xs) e ∙ ap (λ (ts : List Transcript). y ∷ ts) (same_links xs ys up.1 on.1 (rest_has x y xs ys e up.0 there) (rest_has y x ys xs (sym e) on.0 back))

pub print_once : (account : Account) (text other : List ℕ) → IsServePrint account text → IsServePrint account other → text ≡ other
print_once account text other p q =
    let ts = transcripts_of account in
    let over : (xs ys : List Transcript) → IsPermutation ts xs → IsPermutation ts ys → HasAll xs ys =
    λ xs ys a b z h. Contains-permutation ts ys z b (Contains-permutation xs ts z (IsPermutation-sym ts xs a) h) in
    let same = same_links p.links q.links (rises_of p.links p.order.rising) (rises_of q.links q.order.rising) (over p.links q.links p.order.each q.order.each) (over q.links p.links q.order.each p.order.each) in
    p.spelled ∙ ap (λ (links : List Transcript). flat_map link_line links ++ flat_map part_line (numbered 0 account.parts) ++ done_line) same ∙ sym q.spelled
