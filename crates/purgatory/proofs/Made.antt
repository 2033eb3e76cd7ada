-- How a room is made.
use Rattle.std.proofs.Common.{◌≡◌, ◌∙◌, ℕ, zero, suc, ◌+◌, ◌-◌, ◌<◌, ◌≤◌, List, [], ◌∷◌, ◌++◌, length, get_or, map, ap, refl, subst, sym, arith, append_assoc}
use Rattle.std.specs.List.{range_with_len}
use Rattle.std.proofs.lemmas.List.{get_or-map, length-map, length_push}
use Rattle.std.proofs.lemmas.List.FromFn.{length-map-range_with_len}
use Rattle.room_core.specs.declared.shape.Shape.{Shape}
use Rattle.room_core.specs.Gauges.{IsShape}
use Rattle.room_core.specs.Numbers.{scanner_numbers}
use Rattle.room_table.specs.Handed.{fresh_caller, fresh_callers, fresh_scanner, fresh_scanners, fresh_source, fresh_sources}
use Rattle.room_table.specs.Seats.{ScanView, TableView}
use Rattle.purgatory.specs.scans.Desks.{desk_name}
use Rattle.purgatory.specs.Making.{AreFrom, IsFreshCaller, IsFreshScanner, IsFreshSource, names_of}
use Rattle.purgatory.specs.Rooms.{AreNamed, LockView}

-- seats made by their numbers
made_from : {A : Type 0} (P : ℕ → A → Type 0) (f : ℕ → A) (first n bound : ℕ) → first + n ≡ bound → ((k : ℕ) → k < bound → P k (f k)) → AreFrom P first (map f (range_with_len first n))
made_from P f first zero bound size each = tt
made_from P f first (suc n) bound size each = (each first (omega (arith, size)), made_from P f (first + 1) n bound (omega (arith, size)) each)

-- one more at the end
pub from_more : {A : Type 0} (P : ℕ → A → Type 0) (first : ℕ) (xs : List A) (x : A) → AreFrom P first xs → P (first + length xs) x → AreFrom P first (xs ++ x ∷ [])
from_more P first [] x a p = (subst (λ k. P k x) (omega arith) p, tt)
from_more P first (y ∷ ys) x a p = (a.0, from_more P (first + 1) ys x a.1 (subst (λ k. P k x) (omega arith) p))

-- all but the last, and the last
pub from_pop : {A : Type 0} (P : ℕ → A → Type 0) (first : ℕ) (xs : List A) (x : A) → AreFrom P first (xs ++ x ∷ []) → AreFrom P first xs × P (first + length xs) x
from_pop P first [] x a = (tt, subst (λ k. P k x) (omega arith) a.0)
from_pop P first (y ∷ ys) x a =
    let rest = from_pop P (first + 1) ys x a.1 in
    ((a.0, rest.0), subst (λ k. P k x) (omega arith) rest.1)

pub fresh_sources_from : (table : TableView) → IsShape table.shape → AreFrom IsFreshSource 0 (fresh_sources table)
fresh_sources_from table shape =
    made_from IsFreshSource (fresh_source table) 0 table.shape.gauges table.shape.gauges (omega arith)
    (λ k less. record { number = refl; there = less; few = shape.few_gauges; stored = refl; fresh = refl })

pub fresh_callers_from : (table : TableView) (size : Shape) → size ≡ table.shape → IsShape size → AreFrom (IsFreshCaller size) 0 (fresh_callers table)
fresh_callers_from table size same shape =
    let passes = ap (λ (s : Shape). s.passes) same in
    made_from (IsFreshCaller size) (fresh_caller table) 0 table.shape.passes table.shape.passes (omega arith)
    (λ k less. record { number = refl; shape_is = same; is_shape = shape; there = omega (arith, less, passes); fresh = refl })

pub fresh_scanners_from : (table : TableView) (size : Shape) → size ≡ table.shape → size.scanners ≡ scanner_numbers → AreFrom (IsFreshScanner size) 0 (fresh_scanners table)
fresh_scanners_from table size same all =
    let scanners = ap (λ (s : Shape). s.scanners) same in
    let count : table.shape.scanners - 1 ≡ 16 = omega (arith, scanners, all) in
    from_more (IsFreshScanner size) 0 (map (fresh_scanner table) (range_with_len 0 (table.shape.scanners - 1))) (fresh_scanner table 16)
    (made_from (IsFreshScanner size) (fresh_scanner table) 0 (table.shape.scanners - 1) 16 (omega (arith, count))
    (λ k less. record { number = refl; shape_is = same; few = omega (arith, less); fresh = refl }))
    (record { number = omega (arith, count, length-map-range_with_len (fresh_scanner table) 0 (table.shape.scanners - 1)); shape_is = same; few = omega (arith, count, length-map-range_with_len (fresh_scanner table) 0 (table.shape.scanners - 1)); fresh = refl })

-- the first of what is left of a list, and one more taken of it
pub all_taken : {A : Type 0} (taken rest all : List A) (x : A) (left : List A) → taken ++ rest ≡ all → rest ≡ x ∷ left → (taken ++ x ∷ []) ++ left ≡ all
all_taken taken rest all x left e is = append_assoc taken (x ∷ []) left ∙ ap (λ l. taken ++ l) (sym is) ∙ e

pub none_left : {A : Type 0} (l : List A) → length l ≡ 0 → l ≡ []
none_left [] h = refl
none_left (x ∷ xs) h = absurd (omega (arith, h))

-- the item of a place
pub from_at : {A : Type 0} (P : ℕ → A → Type 0) (first : ℕ) (xs : List A) → AreFrom P first xs → (k : ℕ) (d : A) → k < length xs → P (first + k) (get_or xs k d)
from_at P first [] a k d less = absurd (omega (arith, less))
from_at P first (x ∷ xs) a zero d less = subst (λ n. P n x) (omega arith) a.0
from_at P first (x ∷ xs) a (suc k) d less = subst (λ n. P n (get_or xs k d)) (omega arith) (from_at P (first + 1) xs a.1 k d (omega (arith, less)))

module _ (table : TableView) (all : table.shape.scanners ≡ scanner_numbers) where
  shard_count : length (map (fresh_scanner table) (range_with_len 0 (table.shape.scanners - 1))) ≡ 16
  shard_count =
      let size = length-map-range_with_len (fresh_scanner table) 0 (table.shape.scanners - 1) in
      omega (arith, size, all)

  pub scanners_count : length (fresh_scanners table) ≡ scanner_numbers
  scanners_count = length_push (map (fresh_scanner table) (range_with_len 0 (table.shape.scanners - 1))) (fresh_scanner table 16) ∙ ap (λ n. n + 1) shard_count

  each_is : AreFrom (λ k seat. seat ≡ fresh_scanner table k) 0 (fresh_scanners table)
  each_is =
      let P : ℕ → ScanView → Type 0 = λ k seat. seat ≡ fresh_scanner table k in
      let count = shard_count in
      from_more P 0 (map (fresh_scanner table) (range_with_len 0 (table.shape.scanners - 1))) (fresh_scanner table 16)
      (made_from P (fresh_scanner table) 0 (table.shape.scanners - 1) (table.shape.scanners - 1) (omega arith) (λ k less. refl))
      (ap (fresh_scanner table) (omega (arith, count)))

  -- locks with the names of the scanners' desks
  pub named_so : (locks : List LockView) → map (λ (lock : LockView). lock.name) locks ≡ names_of (fresh_scanners table) → AreNamed table locks
  named_so locks names =
      let seats = fresh_scanners table in
      let name : LockView → List ℕ = λ lock. lock.name in
      let desk : ScanView → List ℕ = λ seat. desk_name seat.table seat.scanner in
      let count : length locks ≡ 17 = sym (length-map locks name) ∙ ap (λ (l : List (List ℕ)). length l) names ∙ length-map seats desk ∙ scanners_count in
      record {
        all = count;
        each = λ k lock less.
            let d = fresh_scanner table 0 in
            let there : k < length seats = subst (λ n. k < n) (sym scanners_count) less in
            let is : get_or seats k d ≡ fresh_scanner table k = subst (λ n. get_or seats k d ≡ fresh_scanner table n) (omega arith) (from_at (λ n seat. seat ≡ fresh_scanner table n) 0 seats each_is k d there) in
            sym (get_or-map name locks k lock lock.name (omega (arith, less, count)))
            ∙ ap (λ (l : List (List ℕ)). get_or l k lock.name) names
            ∙ get_or-map desk seats k d lock.name there
            ∙ ap desk is;
      }

pub callers_count : (table : TableView) → length (fresh_callers table) ≡ table.shape.passes
callers_count table = length-map-range_with_len (fresh_caller table) 0 table.shape.passes

pub is_shape : (gauges passes : ℕ) → 1 ≤ gauges → gauges ≤ 193 → 1 ≤ passes → passes ≤ 80 → IsShape (record { gauges = gauges; passes = passes; scanners = 17 })
is_shape gauges passes a b c d = record {
  some_gauges = omega (arith, a);
  few_gauges = omega (arith, b);
  some_passes = omega (arith, c);
  few_passes = omega (arith, d);
  some_scanners = omega arith;
  few_scanners = omega arith;
}
