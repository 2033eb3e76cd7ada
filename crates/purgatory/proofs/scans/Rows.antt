-- Watchers that stay in their places as others are taken out.
use Rattle.std.proofs.Common.{⊎_elim, ◌≡◌, ◌≢◌, ◌∙◌, ℕ, zero, suc, ◌<◌, ◌≤◌, List, [], ◌∷◌, Bool, true, Some, cond, filter, get_or, not, ap, refl, subst, sym, arith}
use Rattle.std.specs.Prelude.{◌&&◌, ◌==◌}
use Rattle.std.specs.List.{slice_get}
use Rattle.std.proofs.lemmas.Bool.{cases_eq, cases_lt, ne_eqb}
use Rattle.std.proofs.lemmas.List.{get_or-set_other, get_or-set_same}
use Rattle.std.proofs.lemmas.Option.{get_or_from_slice_get, slice_get_within}
use Rattle.watch_lists.specs.declared.watch.Watch.{Watch}
use Rattle.watch_lists.specs.Row.{IsRow}
use Rattle.watch_lists.specs.Watches.{Watches, is_of, keys_of, row_of, with_row}
use Rattle.purgatory.specs.scans.Shelf.{KeepsLower}
use Rattle.purgatory.proofs.scans.Tables.{some_same}

-- a filter that passes all up to a place
kept_place : (p : Watch → Bool) (row : List Watch) (place : ℕ) (w : Watch) → slice_get row place ≡ Some w
    → ((k : ℕ) (v : Watch) → k ≤ place → slice_get row k ≡ Some v → p v ≡ true) → slice_get (filter p row) place ≡ Some w
kept_place p [] place w e passes = absurd (cc)
kept_place p (x ∷ xs) zero w e passes = subst (λ b. slice_get (cond b (x ∷ filter p xs) (filter p xs)) zero ≡ Some w) (sym (passes 0 x (omega arith) refl)) e
kept_place p (x ∷ xs) (suc place) w e passes =
    subst (λ b. slice_get (cond b (x ∷ filter p xs) (filter p xs)) (suc place) ≡ Some w) (sym (passes 0 x (omega arith) refl))
    (kept_place p xs place w e (λ k v le at. passes (suc k) v (omega (arith, le)) at))

passes_lower : (q generation : ℕ) (w : Watch) → w.id < q → not (is_of q generation w) ≡ true
passes_lower q generation w less = ap (λ b. not (b && (w.generation == generation))) (ne_eqb w.id q (λ e. omega (arith, e, less)))

-- ids rise with their places
pub no_later : (key ids : ℕ) (row : List Watch) → IsRow key ids row → (k place : ℕ) (v w : Watch) → k ≤ place → slice_get row k ≡ Some v → slice_get row place ≡ Some w → v.id ≤ w.id
no_later key ids row r k place v w le at here =
    ⊎_elim
    (λ (less : k < place).
    let rises : (get_or row k w).id < (get_or row place w).id = r.rising k place w less (slice_get_within row place w here) in
    let first : (get_or row k w).id ≡ v.id = ap (λ (x : Watch). x.id) (get_or_from_slice_get row k v w at) in
    let last : (get_or row place w).id ≡ w.id = ap (λ (x : Watch). x.id) (get_or_from_slice_get row place w w here) in
    omega (arith, rises, first, last))
    (λ (more : place ≤ k).
    let same : k ≡ place = omega (arith, le, more) in
    let is : v ≡ w = some_same v w (sym at ∙ ap (slice_get row) same ∙ here) in
    let ids_are : v.id ≡ w.id = ap (λ (x : Watch). x.id) is in
    omega (arith, ids_are))
    (cases_lt k place)

pub earlier : (key ids : ℕ) (row : List Watch) → IsRow key ids row → (k place : ℕ) (v w : Watch) → k < place → slice_get row k ≡ Some v → slice_get row place ≡ Some w → v.id < w.id
earlier key ids row r k place v w less at here =
    let rises : (get_or row k w).id < (get_or row place w).id = r.rising k place w less (slice_get_within row place w here) in
    let first : (get_or row k w).id ≡ v.id = ap (λ (x : Watch). x.id) (get_or_from_slice_get row k v w at) in
    let last : (get_or row place w).id ≡ w.id = ap (λ (x : Watch). x.id) (get_or_from_slice_get row place w w here) in
    omega (arith, rises, first, last)

lower_stays : (key ids q generation : ℕ) (row : List Watch) → IsRow key ids row → (place : ℕ) (w : Watch) → slice_get row place ≡ Some w → w.id < q
    → slice_get (filter (λ v. not (is_of q generation v)) row) place ≡ Some w
lower_stays key ids q generation row r place w here less =
    kept_place (λ v. not (is_of q generation v)) row place w here (λ k v le at. let most = no_later key ids row r k place v w le at here in passes_lower q generation v (omega (arith, most, less)))

pub lower_same : (q : ℕ) (w : Watches) → KeepsLower q w w
lower_same q w key place watch e less = e

pub lower_far : (q : ℕ) (a b c : Watches) → KeepsLower q a b → KeepsLower q b c → KeepsLower q a c
lower_far q a b c g h key place watch e less = h key place watch (g key place watch e less) less

-- one watcher of an id is taken out of a row
pub lower_dropped : (q generation key : ℕ) (w new : Watches) → key < keys_of w → IsRow key w.ids (row_of w key)
    → new ≡ with_row w key (filter (λ v. not (is_of q generation v)) (row_of w key)) → KeepsLower q w new
lower_dropped q generation key w new less r is k place watch e lower =
    let row = filter (λ v. not (is_of q generation v)) (row_of w key) in
    subst (λ (x : Watches). slice_get (row_of x k) place ≡ Some watch) (sym is)
    (⊎_elim
    (λ (here : k ≡ key).
    subst (λ j. slice_get (row_of (with_row w key row) j) place ≡ Some watch) (sym here)
    (subst (λ (xs : List Watch). slice_get xs place ≡ Some watch) (sym (get_or-set_same w.rows key row [] less))
    (lower_stays key w.ids q generation (row_of w key) r place watch (subst (λ j. slice_get (row_of w j) place ≡ Some watch) here e) lower)))
    (λ (there : k ≢ key). subst (λ (xs : List Watch). slice_get xs place ≡ Some watch) (sym (get_or-set_other w.rows key k row [] there)) e)
    (cases_eq k key))
