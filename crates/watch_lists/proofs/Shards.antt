-- The rows of a shard, one changed.
use Rattle.std.proofs.Common.{⊎_elim, ◌≡◌, ◌≢◌, ℕ, ◌+◌, ◌-◌, ◌*◌, ◌^◌, ◌<◌, ◌≤◌, ◌↔◌, List, [], ◌∷◌, ◌++◌, Vec, Global, Any, Contains, All, filter, length, get_or, set, take, drop, map, replicate, sum_by, vec_capacity, suc, sym, ap, ◌∙◌, refl, subst, arith, length-set, get_or-set_same, get_or-set_other}
use Rattle.std.proofs.lemmas.List.{append-nil, take_all, drop_all, get_or-map, get_or_default, length-map, map-set}
use Rattle.std.proofs.lemmas.List.Sums.{sum_by-le, sum_by-set, sum_by-cons, sum_by_more_le}
use Rattle.std.proofs.lemmas.List.Edits.{map_over_more}
use Rattle.std.proofs.lemmas.Bool.{cases_eq}
use Rattle.watch_lists.specs.declared.watch.Watch.{Watch}
use Rattle.watch_lists.specs.Row.{IsRow}
use Rattle.watch_lists.specs.Rows.{AreRows}
use Rattle.watch_lists.specs.Watches.{Watches, row_of, with_row, is_live}
use Rattle.watch_lists.proofs.Rows.{length-IsRow}

-- what a shard's lists mean
abbrev pub lists_of : List (Vec Watch Global) → List (List Watch)
lists_of rows = map (λ row. row.items) rows

abbrev pub shard_of : ℕ → List (Vec Watch Global) → Watches
shard_of ids rows = record { ids = ids; rows = lists_of rows }

module _ (ids : ℕ) (rows : List (Vec Watch Global)) (are : AreRows ids rows) (key : ℕ) (l : key < length rows) (row : Vec Watch Global) (is : row ≡ get_or rows key row) where
  pub row_is : row.items ≡ get_or (lists_of rows) key []
  row_is = ap (λ (v : Vec Watch Global). v.items) is ∙ sym (get_or-map (λ (v : Vec Watch Global). v.items) rows key row [] l)

  pub row_ok : IsRow key ids row.items
  row_ok = subst (λ (v : Vec Watch Global). IsRow key ids v.items) (sym is) (are.row key row l)

  pub row_room : ids ≤ vec_capacity row
  row_room = subst (λ (v : Vec Watch Global). ids ≤ vec_capacity v) (sym is) (are.room key row l)

  -- the shard with another row
  pub changed : (new : Vec Watch Global) (change : List Watch → List Watch) → new.items ≡ change row.items → shard_of ids (set rows key new) ≡ with_row (shard_of ids rows) key (change (row_of (shard_of ids rows) key))
  changed new change e =
      ap (λ (lists : List (List Watch)). let w : Watches = record { ids = ids; rows = lists } in w)
      (map-set (λ (v : Vec Watch Global). v.items) rows key new ∙ ap (set (lists_of rows) key) (e ∙ ap change row_is))

pub AreRows-set : (ids : ℕ) (rows : List (Vec Watch Global)) (key : ℕ) (new : Vec Watch Global) → AreRows ids rows → key < length rows → IsRow key ids new.items → ids ≤ vec_capacity new → AreRows ids (set rows key new)
AreRows-set ids rows key new are l ok room =
    let long = length-set rows key new in
    record {
      row = λ k d m.
          ⊎_elim
          (λ (e : k ≡ key). subst (λ (n : ℕ). IsRow n ids (get_or (set rows key new) n d).items) (sym e) (subst (λ (v : Vec Watch Global). IsRow key ids v.items) (sym (get_or-set_same rows key new d l)) ok))
          (λ (e : k ≢ key). subst (λ (v : Vec Watch Global). IsRow k ids v.items) (sym (get_or-set_other rows key k new d e)) (are.row k d (omega arith)))
          (cases_eq k key);
      room = λ k d m.
          ⊎_elim
          (λ (e : k ≡ key). subst (λ (n : ℕ). ids ≤ vec_capacity (get_or (set rows key new) n d)) (sym e) (subst (λ (v : Vec Watch Global). ids ≤ vec_capacity v) (sym (get_or-set_same rows key new d l)) room))
          (λ (e : k ≢ key). subst (λ (v : Vec Watch Global). ids ≤ vec_capacity v) (sym (get_or-set_other rows key k new d e)) (are.room k d (omega arith)))
          (cases_eq k key);
      small = rw long are.small;
    }

-- a watcher of an id and a generation is one with the row's key

pub same_watch : (a b : Watch) → a.key ≡ b.key → a.id ≡ b.id → a.generation ≡ b.generation → a ≡ b
same_watch a b e f g = λ i. record { key = e i; id = f i; generation = g i }

pub any_contains : (key ids id generation : ℕ) (row : List Watch) → IsRow key ids row → Any (λ w. (w.id ≡ id) × (w.generation ≡ generation)) row ↔ Contains row (record { key = key; id = id; generation = generation })
any_contains key ids id generation row r = (
  (λ (k, x, l, is, of).
      let watch : Watch = record { key = key; id = id; generation = generation } in
      let keyed : x.key ≡ key = ap (λ (w : Watch). w.key) (sym is) ∙ r.keyed k x l in
      (k, l, get_or_default row k watch x l ∙ is ∙ same_watch x watch keyed of.0 of.1)),
  (λ (k, l, is). let watch : Watch = record { key = key; id = id; generation = generation } in (k, watch, l, is, (refl, refl))),
)

-- how many watchers there can be

pub size_small : (ids : ℕ) (rows : List (Vec Watch Global)) → AreRows ids rows → sum_by (λ row. length row.items) rows ≤ 2 ^ 20
size_small ids rows are =
    let each : All (λ row. length row.items ≤ ids) rows = λ k d l. length-IsRow k ids (get_or rows k d).items (are.row k d l) in
    let a = sum_by-le (λ (row : Vec Watch Global). length row.items) ids rows each in
    let b = are.small in
    omega arith

pub sum_lists : (rows : List (Vec Watch Global)) → sum_by length (lists_of rows) ≡ sum_by (λ row. length row.items) rows
sum_lists [] = refl
sum_lists (row ∷ rows) = sum_by-cons length row.items (lists_of rows) ∙ ap (λ n. length row.items + n) (sum_lists rows) ∙ sym (sum_by-cons (λ (v : Vec Watch Global). length v.items) row rows)

pub key_within : (ids : ℕ) (rows : List (Vec Watch Global)) (w : Watches) (key : ℕ) → shard_of ids rows ≡ w → key < length w.rows → key < length rows
key_within ids rows w key e l =
    let long : length (lists_of rows) ≡ length w.rows = ap (λ (v : Watches). length v.rows) e in
    let same : length (lists_of rows) ≡ length rows = length-map _ _ in
    omega arith

-- a purge, as far as it has come

pub filtered_so_far : (live : List ℕ) (rows old : List (Vec Watch Global)) (key : ℕ) (row new : Vec Watch Global) → key < length old → lists_of rows ≡ map (filter (is_live live)) (take key (lists_of old)) ++ drop key (lists_of old) → row ≡ get_or rows key row → length rows ≡ length old → new.items ≡ filter (is_live live) row.items → lists_of (set rows key new) ≡ map (filter (is_live live)) (take (key + 1) (lists_of old)) ++ drop (key + 1) (lists_of old)
filtered_so_far live rows old key row new l so_far is long e =
    let same : length (lists_of old) ≡ length old = length-map _ _ in
    let at : row.items ≡ get_or (lists_of rows) key row.items = ap (λ (v : Vec Watch Global). v.items) is ∙ sym (get_or-map (λ (v : Vec Watch Global). v.items) rows key row row.items (omega arith)) in
    map-set (λ (v : Vec Watch Global). v.items) rows key new ∙ ap (set (lists_of rows) key) e
    ∙ map_over_more (filter (is_live live)) (lists_of old) (lists_of rows) key row.items (omega arith) so_far at

-- a whole purge
pub filtered_all : (live : List ℕ) (rows old : List (Vec Watch Global)) (key : ℕ) → length old ≤ key → lists_of rows ≡ map (filter (is_live live)) (take key (lists_of old)) ++ drop key (lists_of old) → lists_of rows ≡ map (filter (is_live live)) (lists_of old)
filtered_all live rows old key l so_far =
    let long : length (lists_of old) ≡ length old = length-map _ _ in
    so_far ∙ ap (λ (ys : List (List Watch)). map (filter (is_live live)) ys ++ drop key (lists_of old)) (take_all key (lists_of old) (omega arith))
    ∙ ap (λ (ys : List (List Watch)). map (filter (is_live live)) (lists_of old) ++ ys) (drop_all key (lists_of old) (omega arith))
    ∙ append-nil (map (filter (is_live live)) (lists_of old))

-- how the sizes of the rows change with one
pub sizes-set : (rows : List (Vec Watch Global)) (key : ℕ) (row new : Vec Watch Global) (removed : ℕ) → key < length rows → row ≡ get_or rows key row → removed + length new.items ≡ length row.items → removed + sum_by (λ row. length row.items) (set rows key new) ≡ sum_by (λ row. length row.items) rows
sizes-set rows key row new removed l is e =
    let size = λ (v : Vec Watch Global). length v.items in
    let a : sum_by (λ row. length row.items) (set rows key new) + length (get_or rows key row).items ≡ sum_by (λ row. length row.items) rows + length new.items = sum_by-set size rows key new row l in
    let b : length row.items ≡ length (get_or rows key row).items = ap size is in
    omega arith

-- how the count changes where a row goes from one length to another
pub row_counts : (rows : List (Vec Watch Global)) (key : ℕ) (row : Vec Watch Global) → key < length rows → row ≡ get_or rows key row → length row.items ≤ sum_by (λ row. length row.items) rows
row_counts rows key row l is =
    let size = λ (v : Vec Watch Global). length v.items in
    let a = sum_by_more_le size rows key row l in
    let b : length row.items ≡ length (get_or rows key row).items = ap size is in
    omega arith

pub recounts : (rows : List (Vec Watch Global)) (key : ℕ) (row new : Vec Watch Global) (count : ℕ) → key < length rows → row ≡ get_or rows key row → count ≡ sum_by (λ row. length row.items) rows
    → count - length row.items + length new.items ≡ sum_by (λ row. length row.items) (set rows key new)
recounts rows key row new count l is e =
    let size = λ (v : Vec Watch Global). length v.items in
    let least = row_counts rows key row l is in
    let a : sum_by (λ row. length row.items) (set rows key new) + length (get_or rows key row).items ≡ sum_by (λ row. length row.items) rows + length new.items = sum_by-set size rows key new row l in
    let b : length row.items ≡ length (get_or rows key row).items = ap size is in
    omega arith

pub recounts_small : (ids : ℕ) (rows : List (Vec Watch Global)) (key : ℕ) (row new : Vec Watch Global) (count : ℕ) → key < length rows → row ≡ get_or rows key row → count ≡ sum_by (λ row. length row.items) rows
    → AreRows ids (set rows key new) → count - length row.items + length new.items ≤ 2 ^ 20
recounts_small ids rows key row new count l is e are =
    let now = recounts rows key row new count l is e in
    let small = size_small ids (set rows key new) are in
    omega (arith, now, small)

-- rows with nothing in them
pub sum_none : (rows : List (Vec Watch Global)) → ((k : ℕ) (d : Vec Watch Global) → k < length rows → (get_or rows k d).items ≡ []) → 0 ≡ sum_by (λ row. length row.items) rows
sum_none [] h = refl
sum_none (row ∷ rows) h =
    let here = ap (λ (xs : List Watch). length xs) (h 0 row (omega arith)) in
    let rest = sum_none rows (λ k d l. h (suc k) d (omega arith)) in
    let cons = sum_by-cons (λ (v : Vec Watch Global). length v.items) row rows in
    omega (arith, here, rest, cons)

pub lists_none : (rows : List (Vec Watch Global)) → ((k : ℕ) (d : Vec Watch Global) → k < length rows → (get_or rows k d).items ≡ []) → lists_of rows ≡ replicate (length rows) []
lists_none [] h = refl
lists_none (row ∷ rows) h = rw (h 0 row (omega arith)) (ap (λ (xs : List (List Watch)). [] ∷ xs) (lists_none rows (λ k d l. h (suc k) d (omega arith))))

IsRow-none : (key ids : ℕ) → IsRow key ids []
IsRow-none key ids = record {
  rising = λ i j d l m. absurd (omega arith);
  keyed = λ k d l. absurd (omega arith);
  below = λ k d l. absurd (omega arith);
  numbered = λ k d l. absurd (omega arith);
}

pub AreRows-new : (ids : ℕ) (rows : List (Vec Watch Global)) → ((k : ℕ) (d : Vec Watch Global) → k < length rows → (get_or rows k d).items ≡ []) → ((k : ℕ) (d : Vec Watch Global) → k < length rows → ids ≤ vec_capacity (get_or rows k d)) → length rows * ids ≤ 2 ^ 20 → AreRows ids rows
AreRows-new ids rows none room small = record {
  row = λ k d l. subst (IsRow k ids) (sym (none k d l)) (IsRow-none k ids);
  room = room;
  small = small;
}

-- each key's watchers are a row
pub rows_rise : (ids : ℕ) (rows : List (Vec Watch Global)) → AreRows ids rows → (key : ℕ) → key < length rows → IsRow key ids (row_of (shard_of ids rows) key)
rows_rise ids [] are key l = absurd (omega arith)
rows_rise ids (first ∷ rest) are key l =
    let rows = first ∷ rest in
    subst (IsRow key ids) (sym (get_or-map (λ (v : Vec Watch Global). v.items) rows key first [] l)) (are.row key first l)
