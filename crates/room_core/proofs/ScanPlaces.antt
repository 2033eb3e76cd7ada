-- Places in the tables of the scanners and of the descriptions.
use Rattle.std.proofs.Common.{⊎_elim, ◌≡◌, ◌≢◌, ◌<◌, ◌≤◌, ◌⊎◌, ℕ, ◌-◌, ◌==◌, cond, true, false, arith, List, Vec, All, length, get_or, set, sym, subst, ap, ◌∙◌, Some}
use Rattle.std.specs.Prelude.{slice_get}
use Rattle.std.specs.declared.alloc.Global.{Global}
use Rattle.std.proofs.lemmas.List.{get_or_default}
use Rattle.std.proofs.lemmas.List.Elements.{All-get_or}
use Rattle.std.proofs.lemmas.Option.{slice_get-get_or}
use Rattle.room_core.specs.declared.shape.Shape.{Shape}
use Rattle.std.proofs.lemmas.Bool.{eq-eqb, ne_eqb}
use Rattle.room_core.specs.CallerTables.{table}
use Rattle.room_core.specs.Checks.{AreRead, IsOnCheck, IsRead}
use Rattle.room_core.specs.Description.{gauge_of, marked_gauge}
use Rattle.room_core.specs.Gauges.{IsScanner, IsShape, clock_of}
use Rattle.room_core.specs.Meetings.{MayMarkNeed, MayMarkClock, words_of}
use Rattle.room_core.specs.Put.{put}
use Rattle.room_core.specs.State.{Scanner}
use Rattle.room_core.specs.ScannerTables.{row}
use Rattle.room_core.proofs.Views.{table_set, part_set, put_as}

pub scanner_place : (shape : Shape) (k n : ℕ) → IsScanner shape k → shape.scanners ≤ 17 → n ≡ 17 → k < n
scanner_place shape k n is few size =
    ⊎_elim
    (λ (l : k < shape.scanners - 1). omega (arith, l, few, size))
    (λ (e : k ≡ 16). omega (arith, e, size))
    is

-- what stands at a place of a list that is in range
pub here_at : {A : Type 0} (xs : List A) (i : ℕ) (x : A) → i < length xs → x ≡ get_or xs i x → slice_get xs i ≡ Some x
here_at xs i x l e = slice_get-get_or xs i x l ∙ ap Some (sym e)

-- the length of each row is that of the row there
pub row_length : {A : Type 0} (xs : List (Vec A Global)) (n i : ℕ) (x : Vec A Global) → All (λ w. length w.items ≡ n) xs → i < length xs → x ≡ get_or xs i x → length x.items ≡ n
row_length xs n i x all l e = subst (λ w. length w.items ≡ n) (sym e) (All-get_or (λ w. length w.items ≡ n) xs i x l all)

-- a value read in a row is that of the table of tables
pub cell : {A : Type 0} (xs : List (Vec A Global)) (i j : ℕ) (x : Vec A Global) (y none : A) → i < length xs → x ≡ get_or xs i x → j < length x.items → y ≡ get_or x.items j y → y ≡ row (slice_get xs i) none j
cell xs i j x y none l e m f = f ∙ get_or_default x.items j y none m ∙ ap (λ o. row o none j) (sym (here_at xs i x l e))

-- a value written in a row is one given anew in the table of tables
pub cell_set : {A : Type 0} (xs : List (Vec A Global)) (i j : ℕ) (was now : Vec A Global) (x none : A) → i < length xs → was ≡ get_or xs i was → j < length was.items → now.items ≡ set was.items j x
    → (λ g. row (slice_get (set xs i now) g) none) ≡ put (λ g. row (slice_get xs g) none) i (put (row (slice_get xs i) none) j x)
cell_set xs i j was now x none l e m f =
    part_set (λ o. row o none) xs i now l
    ∙ put_as (λ g. row (slice_get xs g) none) i _ _ (ap (λ ys. table ys none) f ∙ table_set was.items j x none m ∙ ap (λ o. put (row o none) j x) (sym (here_at xs i was l e)))

-- what a scanner may mark has its place
pub marked_in : (shape : Shape) (k : ℕ) (scanner : Scanner) (at : ℕ) → IsShape shape → MayMarkNeed shape k scanner at ⊎ MayMarkClock k scanner at → (at ≤ 64) × (marked_gauge shape (words_of scanner) at < shape.gauges)
unfolding marked_gauge
marked_in shape k scanner at is may =
    ⊎_elim
    (λ (n : MayMarkNeed shape k scanner at).
    let few : at ≤ 64 = omega (arith, n.need) in
    let other : (at == 64) ≡ false = ne_eqb at 64 (λ e. omega (arith, n.need, e)) in
    (few, subst (λ b. cond b (clock_of shape) (gauge_of (words_of scanner) at) < shape.gauges) (sym other) n.own.there))
    (λ (m : MayMarkClock k scanner at).
    let same : (at == 64) ≡ true = eq-eqb at 64 m.clock in
    (omega (arith, m.clock), subst (λ b. cond b (clock_of shape) (gauge_of (words_of scanner) at) < shape.gauges) (sym same) (omega (arith, is.some_gauges))))
    may

-- what holds of all holds of the one at a place
pub all_at : {A : Type 0} (P : A → Type 0) (xs : List A) (i : ℕ) (x : A) → All P xs → i < length xs → x ≡ get_or xs i x → P x
all_at P xs i x all l e = subst P (sym e) (All-get_or P xs i x l all)

-- two readings of a place
pub same_at : {A : Type 0} (xs : List A) (i : ℕ) (x y : A) → i < length xs → x ≡ get_or xs i x → y ≡ get_or xs i y → x ≡ y
same_at xs i x y l e f = e ∙ get_or_default xs i x y l ∙ sym f

abbrev pub MayMark : Shape → ℕ → Scanner → ℕ → Type 0
MayMark shape k scanner at = MayMarkNeed shape k scanner at ⊎ MayMarkClock k scanner at

abbrev pub MayLeave : Shape → ℕ → Scanner → ℕ → ℕ → Type 0
MayLeave shape k scanner pass gauge =
    IsOnCheck scanner pass × (k ≢ 16 → AreRead scanner.readings gauge (words_of scanner)) × (k ≡ 16 → IsRead scanner.readings gauge (clock_of shape))
