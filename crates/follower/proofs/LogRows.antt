-- The batches of a history whose entries can be put into an empty log again: each begins where the one before it ends, those before an entry
-- are the first of all, and the log is their bytes.
use Rattle.std.proofs.Common.{◌≡◌, ℕ, zero, suc, ◌+◌, ◌≤◌, ◌<◌, ◌^◌, pos, List, [], ◌∷◌, ◌++◌, length, take, drop, min, get_or, refl, sym, ap, subst, ◌∙◌, append-nil, arith}
use Rattle.std.specs.Int.{w64, from_be_bytes, cast_signed}
use Rattle.std.proofs.lemmas.Int.{to_z-of_z}
use Rattle.std.proofs.lemmas.List.{take-append-drop, take-take, take_at, take_min}
use Rattle.std.proofs.lemmas.List.Sums.{sum_by_push, sum_by-take-le}
use Rattle.std.proofs.lemmas.Option.{slice_get-get_or}
use Rattle.std.proofs.Math.Seq.{take-suc, take-add, take-length}
use Rattle.kbytes.specs.Field.{Int32, field, integer}
use Rattle.kbytes.proofs.Laws.{wide_64}
use Rattle.kbatch.specs.Kept.{count_of}
use Rattle.kbatch.specs.Stamp.{stamped}
use Rattle.kbatch.proofs.Laws.{batch_count, batch_stamped}
use Rattle.partlog.specs.declared.event.PartEvent.{PartEvent}
use Rattle.partlog.specs.declared.event.PartEvent.TheVariants.{Append, Follow, Look, Shrink}
use Rattle.partlog.specs.Added.{added_bytes, added_count, bytes_of, log_end_of}
use Rattle.partlog.specs.Batches.{StoredBatch, batches_after, batches_of, next_offset}
use Rattle.partlog.specs.History.{History}
use Rattle.partlog.specs.State.{state_before}
use Rattle.partlog.proofs.Laws.{batches-append, batches-take}
use Rattle.audit.specs.retelling.Playable.{CanPlay, IsPlayable, put_at}
use Rattle.follower.specs.Logs.{IsSomeBatch, base_of, joined}
use Rattle.follower.proofs.Stored.{AreStored, divided, rows, rows_append, stored_append, stored_grows}
use Rattle.follower.proofs.Taking.{joined_append}

-- the base offset that is stamped into a batch
stamped_base : (base : ℕ) (bytes : List ℕ) → base < 2 ^ 63 → base_of (stamped base bytes) ≡ pos base
stamped_base base bytes lt =
    let rest : List ℕ = take 4 (drop 8 bytes) ++ (field (Int32 (pos 0)) ++ drop 16 bytes) in
    let front : take 8 (integer w64 (pos base) ++ rest) ≡ integer w64 (pos base) = take_at (integer w64 (pos base)) rest 8 (wide_64.len base) in
    ap (λ (part : List ℕ). cast_signed w64 (from_be_bytes w64 part)) front
    ∙ ap (cast_signed w64) (wide_64.again base (omega (arith, lt)))
    ∙ to_z-of_z w64 (pos base) (record { sfits = omega (arith, lt) })

same_end : (from d e : ℕ) (bs : List StoredBatch) → AreStored from bs d → AreStored from bs e → d ≡ e
same_end from d e [] p q = sym p ∙ q
same_end from d e (b ∷ bs) p q = same_end (next_offset b) d e bs p.4 q.4

module _ (h : History) (plays : IsPlayable h) (short : log_end_of h.events ≤ 67108864) where
  abbrev es : List PartEvent
  es = h.events

  -- the batches of the entries before a place, and their log end
  abbrev pub up_to : ℕ → List StoredBatch
  up_to k = batches_of (take k es) h.log

  abbrev pub end_at : ℕ → ℕ
  end_at k = log_end_of (take k es)

  -- what the entry at that place adds
  abbrev added : ℕ → PartEvent → List StoredBatch
  added k e = batches_after (take k es) (e ∷ []) (drop (bytes_of (take k es)) h.log)

  module _ (k : ℕ) (e : PartEvent) (more : take (suc k) es ≡ take k es ++ e ∷ []) where
    up_on : up_to (suc k) ≡ up_to k ++ added k e
    up_on = ap (λ (l : List PartEvent). batches_of l h.log) more ∙ batches-append [] (take k es) (e ∷ []) h.log

    end_on : end_at (suc k) ≡ end_at k + added_count e
    end_on = ap log_end_of more ∙ sum_by_push added_count (take k es) e

    bytes_on : bytes_of (take (suc k) es) ≡ bytes_of (take k es) + added_bytes e
    bytes_on = ap bytes_of more ∙ sum_by_push added_bytes (take k es) e

  added_stored : (k : ℕ) (e : PartEvent) → take (suc k) es ≡ take k es ++ e ∷ [] → CanPlay h k e → AreStored (end_at k) (added k e) (end_at (suc k))
  added_stored k (Append by seq count len) more put =
      let base : ℕ = end_at k in
      let small : base < 2 ^ 63 = omega (arith, sum_by-take-le added_count es k, short) in
      let is = batch_stamped base put.batch put.records small put.is in
      let counted = batch_count (stamped base put.batch) put.records is in (
        subst IsSomeBatch (sym put.stands) (put.records, is),
        ap base_of put.stands ∙ stamped_base base put.batch small,
        refl,
        put.counted ∙ sym counted ∙ ap count_of (sym put.stands),
        sym (end_on k (Append by seq count len) more),
      )
  added_stored k (Follow by seq replica offset t) more put = omega (arith, end_on k (Follow by seq replica offset t) more)
  added_stored k (Look by seq) more put = omega (arith, end_on k (Look by seq) more)
  added_stored k (Shrink by replica t) more put = omega (arith, end_on k (Shrink by replica t) more)

  added_bytes_are : (k : ℕ) (e : PartEvent) → joined (rows (added k e)) ≡ take (added_bytes e) (drop (bytes_of (take k es)) h.log)
  added_bytes_are k (Append by seq count len) = append-nil (put_at h k len)
  added_bytes_are k (Follow by seq replica offset t) = refl
  added_bytes_are k (Look by seq) = refl
  added_bytes_are k (Shrink by replica t) = refl

  next_entry : (k : ℕ) → k < length es → (e : PartEvent) × (take (suc k) es ≡ take k es ++ e ∷ []) × CanPlay h k e
  next_entry k lt =
      let none : PartEvent = Look 0 0 in
      (get_or es k none, take-suc es k none lt, plays.each k (get_or es k none) (slice_get-get_or es k none lt))

  stored_to : (k : ℕ) → k ≤ length es → AreStored 0 (up_to k) (end_at k)
  stored_to zero le = refl
  stored_to (suc k) le =
      let next = next_entry k (omega (arith, le)) in
      subst (λ (bs : List StoredBatch). AreStored 0 bs (end_at (suc k))) (sym (up_on k next.0 next.1))
      (stored_append 0 (end_at k) (end_at (suc k)) (up_to k) (added k next.0) (stored_to k (omega (arith, le))) (added_stored k next.0 next.1 next.2))

  bytes_to : (k : ℕ) → k ≤ length es → joined (rows (up_to k)) ≡ take (bytes_of (take k es)) h.log
  bytes_to zero le = refl
  bytes_to (suc k) le =
      let next = next_entry k (omega (arith, le)) in
      let e = next.0 in
      let n : ℕ = bytes_of (take k es) in
      ap (λ (bs : List StoredBatch). joined (rows bs)) (up_on k e next.1) ∙ ap joined (rows_append (up_to k) (added k e)) ∙ joined_append (rows (up_to k)) (rows (added k e))
      ∙ ap (λ (bytes : List ℕ). bytes ++ joined (rows (added k e))) (bytes_to k (omega (arith, le))) ∙ ap (λ (bytes : List ℕ). take n h.log ++ bytes) (added_bytes_are k e)
      ∙ sym (take-add n (added_bytes e) h.log) ∙ ap (λ (m : ℕ). take m h.log) (sym (bytes_on k e next.1))

  added_few : (k : ℕ) (e : PartEvent) → take (suc k) es ≡ take k es ++ e ∷ [] → CanPlay h k e → bytes_of (take k es) ≤ 67108864 → bytes_of (take (suc k) es) ≤ 67108864
  added_few k (Append by seq count len) more put few = omega (arith, bytes_on k (Append by seq count len) more, put.room)
  added_few k (Follow by seq replica offset t) more put few = omega (arith, bytes_on k (Follow by seq replica offset t) more, few)
  added_few k (Look by seq) more put few = omega (arith, bytes_on k (Look by seq) more, few)
  added_few k (Shrink by replica t) more put few = omega (arith, bytes_on k (Shrink by replica t) more, few)

  few_to : (k : ℕ) → k ≤ length es → bytes_of (take k es) ≤ 67108864
  few_to zero le = omega arith
  few_to (suc k) le =
      let next = next_entry k (omega (arith, le)) in
      added_few k next.0 next.1 next.2 (few_to k (omega (arith, le)))

  pub stored_at : (k : ℕ) → AreStored 0 (up_to k) (end_at k)
  stored_at k =
      subst (λ (l : List PartEvent). AreStored 0 (batches_of l h.log) (log_end_of l)) (take_min k es) (stored_to (min k (length es)) (omega arith))

  -- before a later place there are more of them
  pub record HasMore (j k : ℕ) : Type 0 where
    pub more : List StoredBatch
    pub parts : up_to k ≡ up_to j ++ more
    pub each : AreStored (end_at j) more (end_at k)

  pub more_at : (j k : ℕ) → j ≤ k → HasMore j k
  more_at j k le =
      let rest : List PartEvent = drop j (take k es) in
      let halves : take k es ≡ take j es ++ rest = sym (take-append-drop j (take k es)) ∙ ap (λ (l : List PartEvent). l ++ rest) (take-take j k es le) in
      let more : List StoredBatch = batches_after (take j es) rest (drop (bytes_of (take j es)) h.log) in
      let parts : up_to k ≡ up_to j ++ more = ap (λ (l : List PartEvent). batches_of l h.log) halves ∙ batches-append [] (take j es) rest h.log in
      let cut = divided 0 (end_at k) (up_to j) more (subst (λ (bs : List StoredBatch). AreStored 0 bs (end_at k)) parts (stored_at k)) in
      let mid : cut.mid ≡ end_at j = same_end 0 cut.mid (end_at j) (up_to j) cut.front (stored_at j) in
      record { more = more; parts = parts; each = subst (λ (n : ℕ). AreStored n more (end_at k)) mid cut.back }

  -- all of them
  pub all_are : (k : ℕ) → (more : List StoredBatch) × (batches_of es h.log ≡ up_to k ++ more)
  all_are k = (
    batches_after (take k es) (drop k es) (drop (bytes_of (take k es)) h.log),
    ap (λ (l : List PartEvent). batches_of l h.log) (sym (take-append-drop k es)) ∙ batches-append [] (take k es) (drop k es) h.log,
  )

  pub all_stored : AreStored 0 (batches_of es h.log) (log_end_of es)
  all_stored = subst (λ (l : List PartEvent). AreStored 0 (batches_of l h.log) (log_end_of l)) (take-length es) (stored_at (length es))

  pub log_is : joined (rows (batches_of es h.log)) ≡ h.log
  log_is =
      let whole : take (length es) es ≡ es = take-length es in
      ap (λ (l : List PartEvent). joined (rows (batches_of l h.log))) (sym whole) ∙ bytes_to (length es) (omega arith)
      ∙ ap (λ (l : List PartEvent). take (bytes_of l) h.log) whole ∙ ap (λ (n : ℕ). take n h.log) (sym plays.whole) ∙ take-length h.log

  -- the state before an entry has those of the entries before it
  pub before_is : (k : ℕ) → (state_before h k).batches ≡ up_to k
  before_is k = batches-take (bytes_of (take k es)) [] (take k es) h.log (omega arith)

  pub few_bytes : length (joined (rows (batches_of es h.log))) ≤ 67108864
  few_bytes =
      let whole : take (length es) es ≡ es = take-length es in
      omega (arith, ap (λ (bytes : List ℕ). length bytes) log_is, plays.whole, ap bytes_of whole, few_to (length es) (omega arith))

  pub end_rises : (j k : ℕ) → j ≤ k → end_at j ≤ end_at k
  end_rises j k le =
      let on = more_at j k le in
      stored_grows (end_at j) (end_at k) on.more on.each

  pub end_short : (k : ℕ) → end_at k ≤ 67108864
  end_short k = omega (arith, sum_by-take-le added_count es k, short)
