-- Records one after the other, as they are read.
use Rattle.std.proofs.Common.{◌≡◌, ℕ, suc, ◌+◌, ◌-◌, ◌^◌, ◌<◌, ◌≤◌, List, [], ◌∷◌, ◌++◌, length, drop, Some, None, refl, sym, ap, subst, ◌∙◌, append_assoc, arith, inl, inr}
use Rattle.std.specs.List.{AllByRecursion}
use Rattle.std.proofs.lemmas.List.{append-nil, length-append, length-drop}
use Rattle.kbytes.specs.Octets.{IsBytes}
use Rattle.kbytes.proofs.Laws.{IsBytes-drop}
use Rattle.kbatch.specs.declared.record.Record.{Record}
use Rattle.kbatch.specs.Record.{body_bytes, record_bytes, records_from, IsRecord}
use Rattle.kbatch.specs.Batch.{most_bytes}
use Rattle.kbatch.specs.Kept.{count_of}
use Rattle.kbatch.specs.Fault.{NoRecord, StopsAt}
use Rattle.kbatch.specs.Walk.{after_record}
use Rattle.kbatch.proofs.Lengths.{sized_len}
use Rattle.kbatch.proofs.Parts.{then, tail_fits, record_takes, record_again}

-- so many records stand after the header, and this is left
pub record AreRead (bytes : List ℕ) (n : ℕ) (rest : List ℕ) : Type 0 where
  pub before : List Record
  pub each : AllByRecursion IsRecord before
  pub number : length before ≡ n
  pub parts : drop 61 bytes ≡ records_from 0 before ++ rest

pub each_more : (before : List Record) (r : Record) → AllByRecursion IsRecord before → IsRecord r → AllByRecursion IsRecord (before ++ r ∷ [])
each_more [] r each is = (is, tt)
each_more (b ∷ before) r each is = (each.0, each_more before r each.1 is)

pub records_more : (delta : ℕ) (before : List Record) (r : Record) → records_from delta (before ++ r ∷ []) ≡ records_from delta before ++ record_bytes (delta + length before) r
records_more delta [] r =
    let place : delta ≡ delta + 0 = omega arith in
    append-nil (record_bytes delta r) ∙ ap (λ (n : ℕ). record_bytes n r) place
records_more delta (b ∷ before) r =
    let number : suc delta + length before ≡ delta + suc (length before) = omega arith in
    ap (λ (xs : List ℕ). record_bytes delta b ++ xs) (records_more (suc delta) before r ∙ ap (λ (n : ℕ). records_from (suc delta) before ++ record_bytes n r) number)
    ∙ sym (append_assoc (record_bytes delta b) (records_from (suc delta) before) (record_bytes (delta + suc (length before)) r))

pub none_read : (bytes : List ℕ) → AreRead bytes 0 (drop 61 bytes)
none_read bytes = record { before = []; each = tt; number = refl; parts = refl }

pub one_read : (bytes : List ℕ) (n : ℕ) (rest after : List ℕ) → IsBytes bytes → AreRead bytes n rest → after_record n rest ≡ Some after → AreRead bytes (n + 1) after
one_read bytes n rest after fits so_far e =
    let fits_rest = tail_fits (drop 61 bytes) (records_from 0 so_far.before) rest so_far.parts (IsBytes-drop 61 bytes fits) in
    let r = record_takes n rest after fits_rest e in
    let place : 0 + length so_far.before ≡ n = omega (arith, so_far.number) in
    let more : records_from 0 (so_far.before ++ r.0 ∷ []) ≡ records_from 0 so_far.before ++ record_bytes n r.0 =
    records_more 0 so_far.before r.0 ∙ ap (λ (k : ℕ). records_from 0 so_far.before ++ record_bytes k r.0) place in
    record {
      before = so_far.before ++ r.0 ∷ [];
      each = each_more so_far.before r.0 so_far.each r.1;
      number = omega (arith, length-append so_far.before (r.0 ∷ []), so_far.number);
      parts = then (drop 61 bytes) (records_from 0 so_far.before) rest (record_bytes n r.0) after so_far.parts r.2 ∙ ap (λ (xs : List ℕ). xs ++ after) (sym more);
    }

left_len : (bytes rest : List ℕ) (before : List Record) → 61 ≤ length bytes → drop 61 bytes ≡ records_from 0 before ++ rest → length bytes ≡ 61 + length (records_from 0 before) + length rest
left_len bytes rest before le parts = omega (arith, length-drop 61 bytes, ap length parts, length-append (records_from 0 before) rest)

-- the next record doesn't read
pub not_read : (bytes : List ℕ) (count n : ℕ) (rest : List ℕ) → 61 ≤ length bytes → length bytes ≤ most_bytes → count ≡ count_of bytes → count < 2 ^ 31 → n < count → AreRead bytes n rest → after_record n rest ≡ None → StopsAt bytes (length bytes - length rest)
not_read bytes count n rest le most number fits lt so_far e =
    let len = left_len bytes rest so_far.before le so_far.parts in
    let none : NoRecord n rest = λ r after is spelled.
    let short : length (record_bytes n r ++ after) < 2 ^ 31 = omega (arith, ap length spelled, len) in
    let read : after_record n rest ≡ Some after = ap (after_record n) spelled ∙ record_again n r after (omega arith) is short in
    absurd cc in
    record {
      before = so_far.before;
      each = so_far.each;
      rest = rest;
      parts = so_far.parts;
      place = omega (arith, len);
      why = inl (omega (arith, so_far.number), subst (λ (k : ℕ). NoRecord k rest) (sym so_far.number) none);
    }

-- ---- two readings of the same bytes

-- a record stands at the front
pub record Begins (delta : ℕ) (bytes : List ℕ) : Type 0 where
  pub first : Record
  pub is : IsRecord first
  pub after : List ℕ
  pub parts : bytes ≡ record_bytes delta first ++ after

-- the one reading stops before the other, or where it stops
data Meet (delta m n : ℕ) (x y : List ℕ) : Type 0 where
  together : m ≡ n → x ≡ y → Meet delta m n x y
  sooner : m < n → Begins (delta + m) x → Meet delta m n x y
  later : n < m → Begins (delta + n) y → Meet delta m n x y

step : (delta m n : ℕ) (x y : List ℕ) → Meet (suc delta) m n x y → Meet delta (suc m) (suc n) x y
step delta m n x y (together e same) = together (ap suc e) same
step delta m n x y (sooner lt b) = sooner (omega arith) (subst (λ (k : ℕ). Begins k x) (omega arith) b)
step delta m n x y (later lt b) = later (omega arith) (subst (λ (k : ℕ). Begins k y) (omega arith) b)

meet : (delta : ℕ) (xs ys : List Record) (x y : List ℕ) → AllByRecursion IsRecord xs → AllByRecursion IsRecord ys → delta + length (records_from delta xs ++ x) < 2 ^ 31 → records_from delta xs ++ x ≡ records_from delta ys ++ y → Meet delta (length xs) (length ys) x y
meet delta [] [] x y xs_are ys_are lt e = together refl e
meet delta [] (s ∷ ys) x y xs_are ys_are lt e =
    sooner (omega arith) (subst (λ (k : ℕ). Begins k x) (omega arith) (record { first = s; is = ys_are.0; after = records_from (suc delta) ys ++ y; parts = e ∙ append_assoc (record_bytes delta s) (records_from (suc delta) ys) y }))
meet delta (r ∷ xs) [] x y xs_are ys_are lt e =
    later (omega arith) (subst (λ (k : ℕ). Begins k y) (omega arith) (record { first = r; is = xs_are.0; after = records_from (suc delta) xs ++ x; parts = sym e ∙ append_assoc (record_bytes delta r) (records_from (suc delta) xs) x }))
meet delta (r ∷ xs) (s ∷ ys) x y xs_are ys_are lt e =
    let behind_r = records_from (suc delta) xs ++ x in
    let behind_s = records_from (suc delta) ys ++ y in
    let one : records_from delta (r ∷ xs) ++ x ≡ record_bytes delta r ++ behind_r = append_assoc (record_bytes delta r) (records_from (suc delta) xs) x in
    let two : records_from delta (r ∷ xs) ++ x ≡ record_bytes delta s ++ behind_s = e ∙ append_assoc (record_bytes delta s) (records_from (suc delta) ys) y in
    let read_r : after_record delta (records_from delta (r ∷ xs) ++ x) ≡ Some behind_r = ap (after_record delta) one ∙ record_again delta r behind_r (omega arith) xs_are.0 (omega (arith, ap length one)) in
    let read_s : after_record delta (records_from delta (r ∷ xs) ++ x) ≡ Some behind_s = ap (after_record delta) two ∙ record_again delta s behind_s (omega arith) ys_are.0 (omega (arith, ap length two)) in
    let same : behind_r ≡ behind_s = cc in
    let shorter : suc delta + length behind_r < 2 ^ 31 = omega (arith, ap length one, length-append (record_bytes delta r) behind_r, sized_len (body_bytes delta r)) in
    step delta (length xs) (length ys) x y (meet (suc delta) xs ys x y xs_are.1 ys_are.1 shorter same)

-- where a reading stops no record stands that is still owed
owed_none : (bytes : List ℕ) (at : ℕ) (n : ℕ) (s : StopsAt bytes at) → length s.before < n → n ≤ count_of bytes → Begins (length s.before) s.rest → ⊥
owed_none bytes at n s lt le b =
    elim s.why [
      | inl none ↦ none.1 b.first b.after b.is b.parts
      | inr done ↦ omega (arith, done.0)
    ]

count_most : (bytes : List ℕ) (at : ℕ) (s : StopsAt bytes at) → length s.before ≤ count_of bytes
count_most bytes at s = elim s.why [ inl none ↦ omega (arith, none.0) | inr done ↦ omega (arith, done.0) ]

at_zero : (n : ℕ) (x : List ℕ) → Begins (0 + n) x → Begins n x
at_zero n x b = subst (λ (k : ℕ). Begins k x) (omega arith) b

pub stops_once : (bytes : List ℕ) (a b : ℕ) → 61 ≤ length bytes → length bytes ≤ most_bytes → StopsAt bytes a → StopsAt bytes b → a ≡ b
stops_once bytes a b le most s t =
    let whole = left_len bytes s.rest s.before le s.parts in
    let other = left_len bytes t.rest t.before le t.parts in
    let short : 0 + length (records_from 0 s.before ++ s.rest) < 2 ^ 31 = omega (arith, length-append (records_from 0 s.before) s.rest, whole) in
    elim (meet 0 s.before t.before s.rest t.rest s.each t.each short (sym s.parts ∙ t.parts)) [
      | together e same ↦ omega (arith, ap length same, whole, other, s.place, t.place)
      | sooner lt begins ↦ absurd (owed_none bytes a (length t.before) s lt (count_most bytes b t) (at_zero (length s.before) s.rest begins))
      | later lt begins ↦ absurd (owed_none bytes b (length s.before) t lt (count_most bytes a s) (at_zero (length t.before) t.rest begins))
    ]

-- nor does a reading stop within records that are all there
pub stops_not : (bytes : List ℕ) (at : ℕ) (records : List Record) → 61 ≤ length bytes → length bytes ≤ most_bytes → StopsAt bytes at → AllByRecursion IsRecord records → length records ≡ count_of bytes → drop 61 bytes ≡ records_from 0 records → ⊥
stops_not bytes at records le most s each number parts =
    let whole = left_len bytes s.rest s.before le s.parts in
    let short : 0 + length (records_from 0 s.before ++ s.rest) < 2 ^ 31 = omega (arith, length-append (records_from 0 s.before) s.rest, whole) in
    let behind : records_from 0 s.before ++ s.rest ≡ records_from 0 records ++ [] = sym s.parts ∙ parts ∙ sym (append-nil (records_from 0 records)) in
    elim (meet 0 s.before records s.rest [] s.each each short behind) [
      | together e same ↦ elim s.why [ inl none ↦ omega (arith, none.0, e, number) | inr done ↦ done.1 same ]
      | sooner lt begins ↦ owed_none bytes at (length records) s lt (omega (arith, number)) (at_zero (length s.before) s.rest begins)
      | later lt begins ↦ omega (arith, lt, number, count_most bytes at s)
    ]
