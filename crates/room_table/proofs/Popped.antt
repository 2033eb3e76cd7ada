-- The last of the seats that are handed out.
use Rattle.std.proofs.Common.{◌≡◌, ℕ, ◌+◌, ◌-◌, List, [], ◌∷◌, ◌++◌, sym, ap, ◌∙◌, arith}
use Rattle.std.specs.Prelude.{map}
use Rattle.std.specs.List.{range_with_len}
use Rattle.std.proofs.lemmas.List.{same_from_push}
use Rattle.std.proofs.lemmas.List.FromFn.{map-range_with_len_more}
use Rattle.room_table.specs.Handed.{fresh_source, fresh_caller, fresh_scanner, fresh_sources, fresh_callers, fresh_scanners}
use Rattle.room_table.specs.Seats.{TableView, SourceView, CallerView, ScanView}

last_of : {A : Type 0} (f : ℕ → A) (count n : ℕ) (before : List A) (x : A) → count ≡ n + 1 → map f (range_with_len 0 count) ≡ before ++ x ∷ [] → x ≡ f n
last_of f count n before x size e =
    let all = ap (λ k. map f (range_with_len 0 k)) (sym size) ∙ e in
    sym (same_from_push (map f (range_with_len 0 n)) before (f n) x (sym (map-range_with_len_more f 0 n n (omega arith)) ∙ all)).1

pub last_source : (table : TableView) (n : ℕ) (all before : List SourceView) (x : SourceView) → table.shape.gauges ≡ n + 1 → all ≡ fresh_sources table → all ≡ before ++ x ∷ [] → x ≡ fresh_source table n
last_source table n all before x size is e = last_of (fresh_source table) table.shape.gauges n before x size (sym is ∙ e)

pub last_caller : (table : TableView) (n : ℕ) (all before : List CallerView) (x : CallerView) → table.shape.passes ≡ n + 1 → all ≡ fresh_callers table → all ≡ before ++ x ∷ [] → x ≡ fresh_caller table n
last_caller table n all before x size is e = last_of (fresh_caller table) table.shape.passes n before x size (sym is ∙ e)

pub last_scanner : (table : TableView) (all before : List ScanView) (x : ScanView) → all ≡ fresh_scanners table → all ≡ before ++ x ∷ [] → x ≡ fresh_scanner table 16
last_scanner table all before x is e =
    sym (same_from_push (map (fresh_scanner table) (range_with_len 0 (table.shape.scanners - 1))) before (fresh_scanner table 16) x (sym is ∙ e)).1

-- the last scanner of a shard, where the clock's is gone
pub last_shard : (table : TableView) (n : ℕ) (all rest before : List ScanView) (x y : ScanView) → table.shape.scanners ≡ n + 2 → all ≡ fresh_scanners table → all ≡ rest ++ y ∷ [] → rest ≡ before ++ x ∷ [] → x ≡ fresh_scanner table n
last_shard table n all rest before x y size is e is_rest =
    let shards = map (fresh_scanner table) (range_with_len 0 (table.shape.scanners - 1)) in
    let left : shards ≡ rest = (same_from_push shards rest (fresh_scanner table 16) y (sym is ∙ e)).0 in
    last_of (fresh_scanner table) (table.shape.scanners - 1) n before x (omega (arith, size)) (left ∙ is_rest)
