-- Items one after the other, as a loop reads them.
use Rattle.std.proofs.Common.{◌≡◌, ℕ, suc, ◌+◌, ◌-◌, ◌<◌, ◌≤◌, List, [], ◌∷◌, ◌++◌, Option, Some, None, refl, sym, ap, ◌∙◌, append_assoc, append-nil, arith}
use Rattle.kbatch.specs.Walk.{◌>>=◌}
use Rattle.kbatch.specs.Decode.{list_at}

module _ {X : Type 0} (one : List ℕ → Option (X × List ℕ)) where
  -- what was read so far, and what is left, lead to where all lead
  abbrev pub all_with : List X → ℕ → List ℕ → Option (List X)
  all_with done left bytes = list_at one left bytes >>= λ xs. Some (done ++ xs)

  pushed : (done : List X) (x : X) (o : Option (List X)) → ((o >>= λ xs. Some (x ∷ xs)) >>= λ xs. Some (done ++ xs)) ≡ (o >>= λ xs. Some ((done ++ x ∷ []) ++ xs))
  pushed done x None = refl
  pushed done x (Some xs) = ap (λ (l : List X). Some l) (sym (append_assoc done (x ∷ []) xs))

  same : (o : Option (List X)) → (o >>= λ xs. Some ([] ++ xs)) ≡ o
  same None = refl
  same (Some xs) = refl

  pub list_starts : (count : ℕ) (bytes : List ℕ) → all_with [] (count - 0) bytes ≡ list_at one count bytes
  list_starts count bytes =
      let all : count - 0 ≡ count = omega arith in
      ap (λ n. all_with [] n bytes) all ∙ same (list_at one count bytes)

  module _ (count i : ℕ) (done : List X) (bytes : List ℕ) (total : Option (List X)) where
    pub list_goes_on : (x : X) (after : List ℕ) → i < count → one bytes ≡ Some (x, after) → all_with done (count - i) bytes ≡ total → all_with (done ++ x ∷ []) (count - (i + 1)) after ≡ total
    unfolding list_at
    list_goes_on x after lt h so_far =
        let k : count - i ≡ suc (count - (i + 1)) = omega arith in
        let e = rw (k, h) at so_far in
        sym (pushed done x (list_at one (count - (i + 1)) after)) ∙ e

    pub list_fails : i < count → one bytes ≡ None → all_with done (count - i) bytes ≡ total → total ≡ None
    unfolding list_at
    list_fails lt h so_far =
        let k : count - i ≡ suc (count - (i + 1)) = omega arith in
        let e = rw (k, h) at so_far in
        sym e

    pub list_done : count ≤ i → all_with done (count - i) bytes ≡ total → total ≡ Some done
    unfolding list_at
    list_done le so_far =
        let k : count - i ≡ 0 = omega arith in
        let e = rw k at so_far in
        sym e ∙ ap (λ (l : List X). Some l) (append-nil done)
