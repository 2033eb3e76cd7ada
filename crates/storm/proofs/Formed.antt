-- A batch that is written over another.
use Rattle.std.proofs.Common.{◌≡◌, ℕ, ℤ, pos, zero, suc, ◌<◌, ◌≤◌, List, [], ◌∷◌, ◌++◌, length, take, drop, refl, ap, ◌∙◌, arith}
use Rattle.std.proofs.lemmas.List.{length-append, length-drop, length-take-le, take_at}
use Rattle.kbytes.specs.Field.{field, groups, Int16, Int32, Int64, Uint32}
use Rattle.kbatch.specs.Batch.{most_bytes}
use Rattle.kbatch.specs.Crc.{crc32c_of}
use Rattle.kbatch.specs.Head.{head_bytes}
use Rattle.kbatch.specs.Record.{body_bytes}
use Rattle.kbatch.specs.Written.{written, written_with}
use Rattle.storm.specs.Formed.{IsFetchForm, IsFormed, IsProduceForm, fetch_with, frame_with, over_at, produce_with, record_with}
use Rattle.storm.specs.Requests.{value_of, record_of}
use Rattle.storm.proofs.Octets.{value_long}

-- it holds of every list of n elements, whatever these are
ForAll : ℕ → (List ℕ → Type 0) → Type 0
ForAll zero P = P []
ForAll (suc n) P = (x : ℕ) → ForAll n (λ xs. P (x ∷ xs))

by_elements : (n : ℕ) (P : List ℕ → Type 0) → ForAll n P → (xs : List ℕ) → length xs ≡ n → P xs
unfolding ForAll
by_elements zero P all [] is = all
by_elements zero P all (x ∷ xs) is = absurd (omega (arith, is))
by_elements (suc n) P all [] is = absurd (omega (arith, is))
by_elements (suc n) P all (x ∷ xs) is = by_elements n (λ ys. P (x ∷ ys)) (all x) xs (omega (arith, is))

-- the bytes of a batch with another value in it
abbrev pub over : List ℕ → List ℕ → List ℕ
over batch value = take 67 batch ++ (value ++ drop 83 batch)

Covers : ℕ → List ℕ → List ℕ → Type 0
Covers crc before value = drop 21 (over (written_with crc (record_with before ∷ [])) value) ≡ drop 21 (written_with 0 (record_with value ∷ []))

covered_elements : (crc : ℕ) → ForAll 16 (λ before. ForAll 16 (λ value. Covers crc before value))
unfolding ForAll Covers head_bytes body_bytes groups
covered_elements crc = λ a0 a1 a2 a3 a4 a5 a6 a7 a8 a9 a10 a11 a12 a13 a14 a15 b0 b1 b2 b3 b4 b5 b6 b7 b8 b9 b10 b11 b12 b13 b14 b15. refl

covered : (crc : ℕ) (before value : List ℕ) → length before ≡ 16 → length value ≡ 16 → Covers crc before value
covered crc before value long short = by_elements 16 (Covers crc before) (by_elements 16 (λ xs. ForAll 16 (Covers crc xs)) (covered_elements crc) before long) value short

Completes : ℕ → ℕ → List ℕ → List ℕ → Type 0
Completes old crc before value =
    take 17 (over (written_with old (record_with before ∷ [])) value) ++ (field (Uint32 crc) ++ drop 21 (over (written_with old (record_with before ∷ [])) value))
    ≡ written_with crc (record_with value ∷ [])

completed_elements : (old crc : ℕ) → ForAll 16 (λ before. ForAll 16 (λ value. Completes old crc before value))
unfolding ForAll Completes head_bytes body_bytes groups
completed_elements old crc = λ a0 a1 a2 a3 a4 a5 a6 a7 a8 a9 a10 a11 a12 a13 a14 a15 b0 b1 b2 b3 b4 b5 b6 b7 b8 b9 b10 b11 b12 b13 b14 b15. refl

completed : (old crc : ℕ) (before value : List ℕ) → length before ≡ 16 → length value ≡ 16 → Completes old crc before value
completed old crc before value long short =
    by_elements 16 (Completes old crc before) (by_elements 16 (λ xs. ForAll 16 (Completes old crc xs)) (completed_elements old crc) before long) value short

HasSize : ℕ → List ℕ → Type 0
HasSize crc value = length (written_with crc (record_with value ∷ [])) ≡ 84

sized_elements : (crc : ℕ) → ForAll 16 (HasSize crc)
unfolding ForAll HasSize head_bytes body_bytes groups
sized_elements crc = λ a0 a1 a2 a3 a4 a5 a6 a7 a8 a9 a10 a11 a12 a13 a14 a15. refl

-- such a batch has 84 bytes
pub formed_size : (batch : List ℕ) → IsFormed batch → length batch ≡ 84
unfolding HasSize
formed_size batch (crc, value, long, is) = ap (λ (bytes : List ℕ). length bytes) is ∙ by_elements 16 (HasSize crc) (sized_elements crc) value long

-- the batch of this request is such a one
pub written_formed : (i : ℕ) → i < 200000 → IsFormed (written (record_of i ∷ []))
written_formed i few = (crc32c_of (drop 21 (written_with 0 (record_of i ∷ []))), value_of i, value_long i few, refl)

pub written_short : (i : ℕ) → i < 200000 → length (written (record_of i ∷ [])) ≤ most_bytes
written_short i few =
    let size = formed_size (written (record_of i ∷ [])) (written_formed i few) in
    omega (arith, size)

pub over_size : (i : ℕ) (batch valued : List ℕ) → i < 200000 → IsFormed batch → valued ≡ over batch (value_of i) → length valued ≡ 84
over_size i batch valued few formed is =
    let size = formed_size batch formed in
    omega (
      arith,
      size,
      ap (λ (bytes : List ℕ). length bytes) is,
      length-append (take 67 batch) (value_of i ++ drop 83 batch),
      length-append (value_of i) (drop 83 batch),
      length-take-le 67 batch (omega (arith, size)),
      length-drop 83 batch,
      value_long i few,
    )

-- another value and the crc of what then follows make it the batch of another request
pub written_over : (i : ℕ) (batch valued crced : List ℕ) (crc : ℕ) → i < 200000 → IsFormed batch → valued ≡ over batch (value_of i) → crc ≡ crc32c_of (drop 21 valued)
    → crced ≡ take 17 valued ++ (field (Uint32 crc) ++ drop 21 valued) → crced ≡ written (record_of i ∷ [])
unfolding Covers Completes
written_over i batch valued crced crc few (old, before, long, formed) first sum last =
    let whole = written_with old (record_with before ∷ []) in
    let was : valued ≡ over whole (value_of i) = first ∙ ap (λ (bytes : List ℕ). over bytes (value_of i)) formed in
    let short = value_long i few in
    let right : crc ≡ crc32c_of (drop 21 (written_with 0 (record_of i ∷ []))) =
    sum ∙ ap (λ (bytes : List ℕ). crc32c_of (drop 21 bytes)) was ∙ ap crc32c_of (covered old before (value_of i) long short) in
    last ∙ ap (λ (bytes : List ℕ). take 17 bytes ++ (field (Uint32 crc) ++ drop 21 bytes)) was ∙ completed old crc before (value_of i) long short
    ∙ ap (λ (n : ℕ). written_with n (record_of i ∷ [])) right

-- ---- produces

pub produce_size : (frame : List ℕ) → IsProduceForm frame → length frame ≡ 129
produce_size frame (i, p, acks, timeout, batch, formed, is) =
    let size = formed_size batch formed in
    let sized = length-append batch [] in
    omega (arith, size, sized, ap (λ (bytes : List ℕ). length bytes) is)

module _ (i p : ℕ) (acks : ℤ) (timeout : ℕ) where
  abbrev produce_fields : List ℕ → List ℕ
  produce_fields old =
      over_at 37 4 (field (Int32 (pos p))) (over_at 18 4 (field (Int32 (pos timeout))) (over_at 16 2 (field (Int16 acks)) (over_at 8 4 (field (Int32 (pos i))) old)))

  abbrev formed_with : ℕ → List ℕ → List ℕ
  formed_with crc value = written_with crc (record_with value ∷ [])

  module _ (j q : ℕ) (other : ℤ) (waited old : ℕ) where
    abbrev fields_over : List ℕ → List ℕ
    fields_over before = produce_fields (frame_with j (produce_with (formed_with old before) q other waited))

    Keeps : List ℕ → Type 0
    Keeps before = take 84 (drop 45 (fields_over before)) ≡ formed_with old before

    keeps_elements : ForAll 16 Keeps
    unfolding ForAll Keeps head_bytes body_bytes groups
    keeps_elements = λ a0 a1 a2 a3 a4 a5 a6 a7 a8 a9 a10 a11 a12 a13 a14 a15. refl

    Replaces : ℕ → List ℕ → List ℕ → Type 0
    Replaces crc before value =
        take 45 (fields_over before) ++ (formed_with crc value ++ drop 84 (drop 45 (fields_over before))) ≡ frame_with i (produce_with (formed_with crc value) p acks timeout)

    replaces_elements : (crc : ℕ) → ForAll 16 (λ before. ForAll 16 (λ value. Replaces crc before value))
    unfolding ForAll Replaces head_bytes body_bytes groups
    replaces_elements crc = λ a0 a1 a2 a3 a4 a5 a6 a7 a8 a9 a10 a11 a12 a13 a14 a15 b0 b1 b2 b3 b4 b5 b6 b7 b8 b9 b10 b11 b12 b13 b14 b15. refl

    keeps : (before : List ℕ) → length before ≡ 16 → Keeps before
    keeps before long = by_elements 16 Keeps keeps_elements before long

    replaces : (crc : ℕ) (before value : List ℕ) → length before ≡ 16 → length value ≡ 16 → Replaces crc before value
    replaces crc before value long short =
        by_elements 16 (Replaces crc before) (by_elements 16 (λ xs. ForAll 16 (Replaces crc xs)) (replaces_elements crc) before long) value short

  module _ (old n1 n2 n3 n4 : List ℕ) (form : IsProduceForm old) (e1 : n1 ≡ over_at 8 4 (field (Int32 (pos i))) old) (e2 : n2 ≡ over_at 16 2 (field (Int16 acks)) n1)
      (e3 : n3 ≡ over_at 18 4 (field (Int32 (pos timeout))) n2) (e4 : n4 ≡ over_at 37 4 (field (Int32 (pos p))) n3) where
    fields_are : n4 ≡ produce_fields old
    fields_are = e4 ∙ ap (over_at 37 4 (field (Int32 (pos p)))) (e3 ∙ ap (over_at 18 4 (field (Int32 (pos timeout)))) (e2 ∙ ap (over_at 16 2 (field (Int16 acks))) e1))

    -- the batch is that of the other produce
    pub batch_kept : IsFormed (take 84 (drop 45 n4))
    unfolding Keeps
    batch_kept =
        let (j, q, other, waited, batch, (crc, before, long, formed), is) = form in (
          crc,
          before,
          long,
          ap (λ (bytes : List ℕ). take 84 (drop 45 bytes)) (fields_are ∙ ap produce_fields (is ∙ ap (λ (bytes : List ℕ). frame_with j (produce_with bytes q other waited)) formed))
              ∙ keeps j q other waited crc before long,
        )

    -- with the batch of this one in its place
    pub batch_replaced : (crc : ℕ) (value batch : List ℕ) → length value ≡ 16 → batch ≡ written_with crc (record_with value ∷ [])
        → take 45 n4 ++ (batch ++ drop 84 (drop 45 n4)) ≡ frame_with i (produce_with (written_with crc (record_with value ∷ [])) p acks timeout)
    unfolding Replaces
    batch_replaced crc value batch short put =
        let (j, q, other, waited, kept, (sum, before, long, formed), is) = form in
        ap (λ (bytes : List ℕ). take 45 n4 ++ (bytes ++ drop 84 (drop 45 n4))) put
        ∙ ap (λ (bytes : List ℕ). take 45 bytes ++ (formed_with crc value ++ drop 84 (drop 45 bytes))) (fields_are ∙ ap produce_fields (is ∙ ap (λ (bytes : List ℕ). frame_with j (produce_with bytes q other waited)) formed))
        ∙ replaces j q other waited sum crc before value long short

-- ---- fetches

pub fetch_size : (frame : List ℕ) → IsFetchForm frame → length frame ≡ 62
fetch_size frame (i, p, replica, wait, least, offset, is) = ap (λ (bytes : List ℕ). length bytes) is

-- the fields of another fetch, one after the other
pub fetched : (i p : ℕ) (replica : ℤ) (wait least offset : ℕ) (old n1 n2 n3 n4 n5 n6 : List ℕ) → IsFetchForm old
    → n1 ≡ over_at 8 4 (field (Int32 (pos i))) old → n2 ≡ over_at 14 4 (field (Int32 replica)) n1 → n3 ≡ over_at 18 4 (field (Int32 (pos wait))) n2
    → n4 ≡ over_at 22 4 (field (Int32 (pos least))) n3 → n5 ≡ over_at 46 4 (field (Int32 (pos p))) n4 → n6 ≡ over_at 50 8 (field (Int64 (pos offset))) n5
    → n6 ≡ frame_with i (fetch_with p replica wait least offset)
fetched i p replica wait least offset old n1 n2 n3 n4 n5 n6 (j, q, other, waited, asked, from, is) e1 e2 e3 e4 e5 e6 =
    e6 ∙ ap (over_at 50 8 (field (Int64 (pos offset)))) (e5 ∙ ap (over_at 46 4 (field (Int32 (pos p)))) (e4 ∙ ap (over_at 22 4 (field (Int32 (pos least))))
    (e3 ∙ ap (over_at 18 4 (field (Int32 (pos wait)))) (e2 ∙ ap (over_at 14 4 (field (Int32 replica))) (e1 ∙ ap (over_at 8 4 (field (Int32 (pos i)))) is)))))

-- bytes that were lent whole, and written
pub written_back : (old new : List ℕ) → length new ≡ length old → take (length old) (new ++ drop (length new) old) ≡ new
written_back old new size = take_at new (drop (length new) old) (length old) size
