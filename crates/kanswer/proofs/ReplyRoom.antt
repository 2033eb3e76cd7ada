-- How many bytes of records a reply takes of one partition, and how many more it may take behind it.
use Rattle.std.proofs.Common.{◌≡◌, ◌≤◌, ◌+◌, ◌-◌, ℕ, ℤ, Bool, true, false, cond, ltb, List, [], ◌∷◌, ◌++◌, length, take, filter, min, length-append, refl, sym, ap, subst, ◌∙◌, arith, inl, inr}
use Rattle.std.proofs.lemmas.Bool.{lt-ltb, cases_lt}
use Rattle.std.proofs.lemmas.List.Sums.{sum_by_push}
use Rattle.partlog.specs.Batches.{StoredBatch}
use Rattle.partlog.specs.Gauges.{bytes_in}
use Rattle.partlog.specs.State.{PartState}
use Rattle.partlog.specs.Taken.{batches_past, fitting, taken, joined}
use Rattle.partlog.proofs.Laws.{bytes_in-cons, fitting-more, fitting-none, past-le, sum_by-filter-le}
use Rattle.kwire.specs.declared.request.FetchPart.{FetchPart}
use Rattle.kanswer.specs.declared.accepted.Budget.{Budget}
use Rattle.kanswer.specs.declared.accepted.Reading.{Reading}
use Rattle.kanswer.specs.Answer.{budget_after, is_readable, read_of}
use Rattle.kanswer.specs.Waiting.{at_least_zero}
use Rattle.kanswer.specs.BytesRead.{bytes_read, most_left}

-- ---- one reading more

pub bytes_push : (readings : List Reading) (reading : Reading) → bytes_read (readings ++ reading ∷ []) ≡ bytes_read readings + length reading.records
bytes_push readings reading = sum_by_push (λ (r : Reading). length r.records) readings reading

-- ---- what is taken

joined_bytes : (bs : List StoredBatch) → length (joined bs) ≡ bytes_in bs
joined_bytes [] = refl
joined_bytes (b ∷ bs) = length-append b.bytes (joined bs) ∙ ap (λ (n : ℕ). length b.bytes + n) (joined_bytes bs) ∙ sym (bytes_in-cons b bs)

fitting_within : (limit : ℕ) (bs : List StoredBatch) → bytes_in (fitting limit bs) ≤ limit
fitting_within limit [] = omega arith
fitting_within limit (b ∷ bs) =
    let rest = fitting_within (limit - length b.bytes) bs in
    elim (cases_lt limit (length b.bytes)) as (λ _. bytes_in (fitting limit (b ∷ bs)) ≤ limit) [
      | inl lt ↦ let none = ap bytes_in (fitting-none b bs limit lt) in omega arith
      | inr le ↦ let more = ap bytes_in (fitting-more b bs limit le) in omega (arith, bytes_in-cons b (fitting (limit - length b.bytes) bs))
    ]

first_within : (bs : List StoredBatch) → bytes_in (take 1 bs) ≤ bytes_in bs
first_within [] = omega arith
first_within (b ∷ bs) = omega (arith, bytes_in-cons b [], bytes_in-cons b bs)

none_joined : (bs : List StoredBatch) → ltb 0 (length bs) ≡ false → length (joined bs) ≡ 0
none_joined [] e = refl
none_joined (b ∷ bs) e = let some : true ≡ false = sym (lt-ltb 0 (length (b ∷ bs)) (omega arith)) ∙ e in absurd cc

slack_step : (left len : ℕ) (some : Bool) → len ≤ left + 67108864 → (some ≡ false → len ≡ 0) → len + ((left - len) + cond some 0 67108864) ≤ left + 67108864
slack_step left len true le none = omega arith
slack_step left len false le none = let z : len ≡ 0 = none refl in omega arith

taken_room : (limit left : ℕ) (any : Bool) (bs : List StoredBatch) → limit ≤ left → bytes_in bs ≤ 67108864
    → length (joined (taken limit any bs)) + most_left (budget_after (taken limit any bs) (record { left = left; any = any })) ≤ most_left (record { left = left; any = any })
taken_room limit left true bs le few = omega (arith, joined_bytes (fitting limit bs), fitting_within limit bs)
taken_room limit left false bs le few =
    let ts : List StoredBatch = taken limit false bs in
    let within : length (joined ts) ≤ left + 67108864 =
    elim (ltb 0 (length (fitting limit bs))) as (λ some. length (joined (cond some (fitting limit bs) (take 1 bs))) ≤ left + 67108864) [
      | true ↦ omega (arith, joined_bytes (fitting limit bs), fitting_within limit bs)
      | false ↦ omega (arith, joined_bytes (take 1 bs), first_within bs)
    ]
    in
    slack_step left (length (joined ts)) (ltb 0 (length ts)) within (none_joined ts)

pub seen_room : (replica : ℤ) (asked : FetchPart) (start : ℕ) (state : PartState) (b new : Budget) (records : List ℕ) → bytes_in state.batches ≤ 67108864
    → records ≡ joined (read_of replica asked start state b) → new ≡ budget_after (read_of replica asked start state b) b → length records + most_left new ≤ most_left b
seen_room replica asked start state b new records few e1 e2 =
    let read = read_of replica asked start state b in
    let bs = filter (is_readable replica state) (batches_past start state.batches) in
    let less = sum_by-filter-le (λ (x : StoredBatch). length x.bytes) (is_readable replica state) (batches_past start state.batches) in
    let past = past-le start state.batches in
    let r = taken_room (min (at_least_zero asked.most) b.left) b.left b.any bs (omega arith) (omega arith) in
    subst (λ (n : Budget). length records + most_left n ≤ most_left b) (sym e2)
    (subst (λ (rs : List ℕ). length rs + most_left (budget_after read b) ≤ most_left b) (sym e1) r)
