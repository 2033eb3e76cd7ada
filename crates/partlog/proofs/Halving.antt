-- What a search among the starts of batches finds.
use Rattle.std.proofs.Common.{◌≡◌, ℕ, zero, suc, ◌+◌, ◌-◌, ◌≤◌, ◌<◌, List, [], ◌∷◌, length, get_or, inl, inr, arith, sym, ap, subst, ◌∙◌, refl}
use Rattle.partlog.specs.declared.batch_start.BatchStart.{BatchStart}
use Rattle.partlog.specs.Batches.{StoredBatch, next_offset}
use Rattle.partlog.specs.Gauges.{bytes_in, batches_below}
use Rattle.partlog.specs.Rows.{IsRising}
use Rattle.partlog.specs.Starts.{AreStarts, starts_from, records_in}
use Rattle.partlog.specs.Taken.{batches_past, fitting}
use Rattle.partlog.proofs.Below.{below-more, below-first}
use Rattle.partlog.proofs.Fronts.{bytes_in-cons, fitting-more, fitting-none, past-more}
use Rattle.std.proofs.lemmas.Bool.{cases_lt}
use Rattle.std.proofs.lemmas.List.Sums.{sum_by-cons}
use Rattle.std.specs.List.Sorted.{IsNonDecreasingBy, IsPartitionPoint}

module _ (d : BatchStart) where
  base-least : (j place base : ℕ) (bs : List StoredBatch) → IsRising base bs → j < length (starts_from place bs) → base ≤ (get_or (starts_from place bs) j d).base
  base-least j place base [] rising within = absurd (omega arith)
  base-least zero place base (b ∷ bs) rising within = let at = rising.0 in omega arith
  base-least (suc j) place base (b ∷ bs) rising within =
      let at = rising.0 in
      let more = base-least j (place + length b.bytes) (next_offset b) bs rising.2 (omega arith) in
      omega arith

  pub base-rises : (i j place base : ℕ) (bs : List StoredBatch) → IsRising base bs → i ≤ j → j < length (starts_from place bs) → (get_or (starts_from place bs) i d).base ≤ (get_or (starts_from place bs) j d).base
  base-rises i j place base [] rising below within = absurd (omega arith)
  base-rises zero j place base (b ∷ bs) rising below within = let at = rising.0 in let least = base-least j place base (b ∷ bs) rising within in omega arith
  base-rises (suc i) zero place base (b ∷ bs) rising below within = absurd (omega arith)
  base-rises (suc i) (suc j) place base (b ∷ bs) rising below within =
      base-rises i j (place + length b.bytes) (next_offset b) bs rising.2 (omega arith) (omega arith)

  place-least : (j place : ℕ) (bs : List StoredBatch) → j < length (starts_from place bs) → place ≤ (get_or (starts_from place bs) j d).place
  place-least j place [] within = absurd (omega arith)
  place-least zero place (b ∷ bs) within = omega arith
  place-least (suc j) place (b ∷ bs) within = let more = place-least j (place + length b.bytes) bs (omega arith) in omega arith

  pub place-rises : (i j place : ℕ) (bs : List StoredBatch) → i ≤ j → j < length (starts_from place bs) → (get_or (starts_from place bs) i d).place ≤ (get_or (starts_from place bs) j d).place
  place-rises i j place [] below within = absurd (omega arith)
  place-rises zero j place (b ∷ bs) below within = place-least j place (b ∷ bs) within
  place-rises (suc i) zero place (b ∷ bs) below within = absurd (omega arith)
  place-rises (suc i) (suc j) place (b ∷ bs) below within = place-rises i j (place + length b.bytes) bs (omega arith) (omega arith)

  -- the last batch that begins at or before an offset which some batch holds
  module _ (offset : ℕ) where
    pub offset-search : (j place base : ℕ) (bs : List StoredBatch) → IsRising base bs → j < length (starts_from place bs) → ((i : ℕ) → i ≤ j → (get_or (starts_from place bs) i d).base ≤ offset) → ((i : ℕ) → j < i → i < length (starts_from place bs) → offset < (get_or (starts_from place bs) i d).base) → offset < base + records_in bs → (get_or (starts_from place bs) j d).place ≡ place + bytes_in (batches_below offset bs)
    offset-search j place base [] rising within low high above = absurd (omega arith)
    offset-search zero place base (b ∷ []) rising within low high above =
        let at = rising.0 in
        let count = sum_by-cons (λ (b : StoredBatch). b.count) b [] in
        let none = ap bytes_in (below-first offset base b [] rising (omega arith)) in
        omega (arith, none)
    offset-search zero place base (b ∷ c ∷ cs) rising within low high above =
        let at = rising.2.0 in
        let next : offset < c.base = high (suc zero) (omega arith) (omega arith) in
        let none = ap bytes_in (below-first offset base b (c ∷ cs) rising (omega arith)) in
        omega (arith, none)
    offset-search (suc j) place base (b ∷ []) rising within low high above = absurd (omega arith)
    offset-search (suc j) place base (b ∷ c ∷ cs) rising within low high above =
        let here = rising.0 in
        let at = rising.2.0 in
        let next : c.base ≤ offset = low (suc zero) (omega arith) in
        let count = sum_by-cons (λ (b : StoredBatch). b.count) b (c ∷ cs) in
        let rest = offset-search j (place + length b.bytes) (next_offset b) (c ∷ cs) rising.2 (omega arith) (λ i le. low (suc i) (omega arith)) (λ i lt in_it. high (suc i) (omega arith) (omega arith)) (omega arith) in
        let more = ap bytes_in (below-more offset b (c ∷ cs) (omega arith)) in
        let size = bytes_in-cons b (batches_below offset (c ∷ cs)) in
        omega arith

    pub offset-some : (place base : ℕ) (bs : List StoredBatch) → IsRising base bs → base ≤ offset → offset < base + records_in bs → (0 < length (starts_from place bs)) × ((get_or (starts_from place bs) 0 d).base ≤ offset)
    offset-some place base [] rising above below = absurd (omega arith)
    offset-some place base (b ∷ bs) rising above below = let at = rising.0 in (omega arith, omega arith)

  -- past all that has records there is nothing above
  pub all-below : (offset base : ℕ) (bs : List StoredBatch) → IsRising base bs → base + records_in bs ≤ offset → batches_below offset bs ≡ bs
  all-below offset base [] rising above = refl
  all-below offset base (b ∷ bs) rising above =
      let at = rising.0 in
      let count = sum_by-cons (λ (b : StoredBatch). b.count) b bs in
      below-more offset b bs (omega arith) ∙ ap (λ l. b ∷ l) (all-below offset (next_offset b) bs rising.2 (omega arith))

  module _ (at : ℕ) where
    -- the first batch that begins at or after a byte place
    pub from-search : (k place : ℕ) (bs : List StoredBatch) → k < length (starts_from place bs) → ((i : ℕ) → i < k → (get_or (starts_from place bs) i d).place < at) → at ≤ (get_or (starts_from place bs) k d).place → (get_or (starts_from place bs) k d).place + bytes_in (batches_past (at - place) bs) ≡ place + bytes_in bs
    from-search k place [] within low high = absurd (omega arith)
    from-search zero place (b ∷ bs) within low high =
        let none : at - place ≡ 0 = omega arith in
        let all = ap (λ n. bytes_in (batches_past n (b ∷ bs))) none in
        omega arith
    from-search (suc k) place (b ∷ bs) within low high =
        let first : place < at = low zero (omega arith) in
        let rest = from-search k (place + length b.bytes) bs (omega arith) (λ i lt. low (suc i) (omega arith)) high in
        let left : (at - place) - length b.bytes ≡ at - (place + length b.bytes) = omega arith in
        let more = ap bytes_in (past-more b bs (at - place) (omega arith) ∙ ap (λ n. batches_past n bs) left) in
        let size = bytes_in-cons b bs in
        omega arith

    pub from-none : (place : ℕ) (bs : List StoredBatch) → ((i : ℕ) → i < length (starts_from place bs) → (get_or (starts_from place bs) i d).place < at) → bytes_in (batches_past (at - place) bs) ≡ 0
    from-none place [] low = refl
    from-none place (b ∷ bs) low =
        let first : place < at = low zero (omega arith) in
        let left : (at - place) - length b.bytes ≡ at - (place + length b.bytes) = omega arith in
        ap bytes_in (past-more b bs (at - place) (omega arith) ∙ ap (λ n. batches_past n bs) left) ∙ from-none (place + length b.bytes) bs (λ i lt. low (suc i) (omega arith))

    -- the last batch that begins at or before a byte place within the log
    pub upto-search : (j place : ℕ) (bs : List StoredBatch) → j < length (starts_from place bs) → ((i : ℕ) → i ≤ j → (get_or (starts_from place bs) i d).place ≤ at) → ((i : ℕ) → j < i → i < length (starts_from place bs) → at < (get_or (starts_from place bs) i d).place) → at < place + bytes_in bs → (get_or (starts_from place bs) j d).place ≡ place + bytes_in (fitting (at - place) bs)
    upto-search j place [] within low high above = absurd (omega arith)
    upto-search zero place (b ∷ []) within low high above =
        let first : place ≤ at = low zero (omega arith) in
        let size = bytes_in-cons b [] in
        let none = ap bytes_in (fitting-none b [] (at - place) (omega arith)) in
        omega (arith, none)
    upto-search zero place (b ∷ c ∷ cs) within low high above =
        let first : place ≤ at = low zero (omega arith) in
        let next : at < place + length b.bytes = high (suc zero) (omega arith) (omega arith) in
        let none = ap bytes_in (fitting-none b (c ∷ cs) (at - place) (omega arith)) in
        omega (arith, none)
    upto-search (suc j) place (b ∷ []) within low high above = absurd (omega arith)
    upto-search (suc j) place (b ∷ c ∷ cs) within low high above =
        let next : place + length b.bytes ≤ at = low (suc zero) (omega arith) in
        let size = bytes_in-cons b (c ∷ cs) in
        let rest = upto-search j (place + length b.bytes) (c ∷ cs) (omega arith) (λ i le. low (suc i) (omega arith)) (λ i lt in_it. high (suc i) (omega arith) (omega arith)) (omega arith) in
        let left : (at - place) - length b.bytes ≡ at - (place + length b.bytes) = omega arith in
        let more = ap bytes_in (fitting-more b (c ∷ cs) (at - place) (omega arith) ∙ ap (λ n. b ∷ fitting n (c ∷ cs)) left) in
        let all = bytes_in-cons b (fitting (at - (place + length b.bytes)) (c ∷ cs)) in
        omega arith

    pub place-some : (place : ℕ) (bs : List StoredBatch) → place ≤ at → at < place + bytes_in bs → (0 < length (starts_from place bs)) × ((get_or (starts_from place bs) 0 d).place ≤ at)
    place-some place [] above below = absurd (omega arith)
    place-some place (b ∷ bs) above below = (omega arith, omega arith)

-- as many bytes as all have take all
pub fitting-all : (n : ℕ) (bs : List StoredBatch) → bytes_in bs ≤ n → fitting n bs ≡ bs
fitting-all n [] room = refl
fitting-all n (b ∷ bs) room =
    let size = bytes_in-cons b bs in
    fitting-more b bs n (omega arith) ∙ ap (λ l. b ∷ l) (fitting-all (n - length b.bytes) bs (omega arith))

module _ (d : BatchStart) (starts : List BatchStart) (next : BatchStart) (bs : List StoredBatch) (are : AreStarts starts next bs) where
  abbrev all : List BatchStart
  all = starts_from 0 bs

  pub bases-rise : IsNonDecreasingBy (λ (s : BatchStart). s.base) starts
  bases-rise =
      let Rise : List BatchStart → Type 0 = λ xs. IsNonDecreasingBy (λ (s : BatchStart). s.base) xs in
      subst Rise (sym are.each) (λ i j e le lt. base-rises e i j 0 0 bs are.rising le lt)

  pub places-rise : IsNonDecreasingBy (λ (s : BatchStart). s.place) starts
  places-rise =
      let Rise : List BatchStart → Type 0 = λ xs. IsNonDecreasingBy (λ (s : BatchStart). s.place) xs in
      subst Rise (sym are.each) (λ i j e le lt. place-rises e i j 0 bs le lt)

  module _ (k : ℕ) (bound : k ≤ length starts) where
    within : k ≤ length all
    within = subst (λ xs. k ≤ length xs) are.each bound

    pub offset-found : (offset : ℕ) → IsPartitionPoint (λ (s : BatchStart). s.base ≤ offset) (λ (s : BatchStart). offset < s.base) starts k → offset < next.base → (0 < k) × ((get_or starts (k - 1) d).place ≡ bytes_in (batches_below offset bs))
    offset-found offset point above =
        let at = subst (λ xs. IsPartitionPoint (λ (s : BatchStart). s.base ≤ offset) (λ (s : BatchStart). offset < s.base) xs k) are.each point in
        let below : offset < 0 + records_in bs = omega (arith, are.base) in
        let some = offset-some d offset 0 0 bs are.rising (omega arith) below in
        let low = within in
        let first : 0 < k = elim (cases_lt 0 k) [ inl some_more ↦ some_more | inr none ↦ let no = at.1 0 d (omega arith) some.0 in absurd (omega (arith, some.1, no)) ] in
        let found = offset-search d offset (k - 1) 0 0 bs are.rising (omega arith) (λ i le. at.0 i d (omega arith) (omega arith)) (λ i lt in_it. at.1 i d (omega arith) in_it) below in
        (first, ap (λ xs. (get_or xs (k - 1) d).place) are.each ∙ found ∙ omega arith)

    pub from-found : (at : ℕ) → IsPartitionPoint (λ (s : BatchStart). s.place < at) (λ (s : BatchStart). at ≤ s.place) starts k → k < length starts → (get_or starts k d).place + bytes_in (batches_past at bs) ≡ bytes_in bs
    from-found at point some =
        let at_it = subst (λ xs. IsPartitionPoint (λ (s : BatchStart). s.place < at) (λ (s : BatchStart). at ≤ s.place) xs k) are.each point in
        let lt : k < length all = subst (λ xs. k < length xs) are.each some in
        let found = from-search d at k 0 bs lt (λ i below. at_it.0 i d (omega arith) below) (at_it.1 k d (omega arith) lt) in
        let same = ap (λ xs. (get_or xs k d).place) are.each in
        let whole : at - 0 ≡ at = omega arith in
        let rest = ap (λ n. bytes_in (batches_past n bs)) whole in
        omega arith

    pub from-nothing : (at : ℕ) → IsPartitionPoint (λ (s : BatchStart). s.place < at) (λ (s : BatchStart). at ≤ s.place) starts k → length starts ≤ k → next.place + bytes_in (batches_past at bs) ≡ bytes_in bs
    from-nothing at point none =
        let at_it = subst (λ xs. IsPartitionPoint (λ (s : BatchStart). s.place < at) (λ (s : BatchStart). at ≤ s.place) xs k) are.each point in
        let le : length all ≤ k = subst (λ xs. length xs ≤ k) are.each none in
        let nothing = from-none d at 0 bs (λ i below. at_it.0 i d (omega arith) (omega arith)) in
        let whole : at - 0 ≡ at = omega arith in
        let rest = ap (λ n. bytes_in (batches_past n bs)) whole in
        omega (arith, are.place)

    pub upto-found : (at : ℕ) → IsPartitionPoint (λ (s : BatchStart). s.place < at + 1) (λ (s : BatchStart). at + 1 ≤ s.place) starts k → at < next.place → (0 < k) × ((get_or starts (k - 1) d).place ≡ bytes_in (fitting at bs))
    upto-found at point above =
        let at_it = subst (λ xs. IsPartitionPoint (λ (s : BatchStart). s.place < at + 1) (λ (s : BatchStart). at + 1 ≤ s.place) xs k) are.each point in
        let below : at < 0 + bytes_in bs = omega (arith, are.place) in
        let some = place-some d at 0 bs (omega arith) below in
        let low = within in
        let first : 0 < k = elim (cases_lt 0 k) [ inl some_more ↦ some_more | inr none ↦ let no = at_it.1 0 d (omega arith) some.0 in absurd (omega (arith, some.1, no)) ] in
        let found = upto-search d at (k - 1) 0 bs (omega arith) (λ i le. let here = at_it.0 i d (omega arith) (omega arith) in omega arith) (λ i lt in_it. let here = at_it.1 i d (omega arith) in_it in omega arith) below in
        let whole : at - 0 ≡ at = omega arith in
        let rest = ap (λ n. bytes_in (fitting n bs)) whole in
        (first, ap (λ xs. (get_or xs (k - 1) d).place) are.each ∙ omega arith)
