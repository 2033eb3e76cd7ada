-- Rows in rising order of id: a place, and what stands before and after it.
use Rattle.std.proofs.Common.{⊎_elim, ◌≡◌, ◌≢◌, ℕ, ◌<◌, ◌≤◌, List, [], ◌∷◌, ◌++◌, Bool, true, false, All, Any, AllPairs, filter, length, get_or, set, take, drop, insert, remove, zero, suc, sym, ap, ◌∙◌, refl, arith, ltb, not}
use Rattle.std.proofs.Math.Seq.{take-nil, drop-nil}
use Rattle.std.proofs.lemmas.List.Elements.{All-cons, All-head, All-tail, All-append, All-filter, filter_passes}
use Rattle.std.proofs.lemmas.List.Kept.{AllPairs-cons, AllPairs-filter}
use Rattle.std.proofs.lemmas.Bool.{cases_eq, cases_lt, lt-ltb, le-ltb, ltb-true}
use Rattle.std.proofs.lemmas.Bool.Decides.{nat_tests}
use Rattle.watch_lists.specs.declared.watch.Watch.{Watch}
use Rattle.watch_lists.specs.Row.{IsRow}
use Rattle.watch_lists.specs.Watches.{listing, is_of}

-- filters

-- a filter that passes exactly below a place
filter_front : {X : Type 0} (p : X → Bool) (xs : List X) (place : ℕ) → ((k : ℕ) (d : X) → k < place → k < length xs → p (get_or xs k d) ≡ true) → ((k : ℕ) (d : X) → place ≤ k → k < length xs → p (get_or xs k d) ≡ false) → filter p xs ≡ take place xs
filter_front p [] place in_it out = sym (take-nil place)
filter_front p (x ∷ xs) zero in_it out =
    rw (out 0 x (omega arith) (omega arith)) (filter_front p xs zero (λ k d l. absurd (omega arith)) (λ k d low l. out (suc k) d (omega arith) (omega arith)))
filter_front p (x ∷ xs) (suc place) in_it out =
    rw (in_it 0 x (omega arith) (omega arith)) (ap (λ ys. x ∷ ys) (filter_front p xs place (λ k d l m. in_it (suc k) d (omega arith) (omega arith)) (λ k d low l. out (suc k) d (omega arith) (omega arith))))

-- a filter that passes exactly from a place on
filter_back : {X : Type 0} (p : X → Bool) (xs : List X) (place : ℕ) → ((k : ℕ) (d : X) → k < place → k < length xs → p (get_or xs k d) ≡ false) → ((k : ℕ) (d : X) → place ≤ k → k < length xs → p (get_or xs k d) ≡ true) → filter p xs ≡ drop place xs
filter_back p [] place out in_it = sym (drop-nil place)
filter_back p (x ∷ xs) zero out in_it =
    rw (in_it 0 x (omega arith) (omega arith)) (ap (λ ys. x ∷ ys) (filter_back p xs zero (λ k d l. absurd (omega arith)) (λ k d low l. in_it (suc k) d (omega arith) (omega arith))))
filter_back p (x ∷ xs) (suc place) out in_it =
    rw (out 0 x (omega arith) (omega arith)) (filter_back p xs place (λ k d l m. out (suc k) d (omega arith) (omega arith)) (λ k d low l. in_it (suc k) d (omega arith) (omega arith)))

-- a filter that passes everything
pub filter_whole : {X : Type 0} (p : X → Bool) (xs : List X) → ((k : ℕ) (d : X) → k < length xs → p (get_or xs k d) ≡ true) → filter p xs ≡ xs
filter_whole p xs in_it = filter_back p xs 0 (λ k d l. absurd (omega arith)) (λ k d low l. in_it k d l)

-- a filter that passes all but one place
pub filter_but : {X : Type 0} (p : X → Bool) (xs : List X) (place : ℕ) → place < length xs → ((d : X) → p (get_or xs place d) ≡ false) → ((k : ℕ) (d : X) → k ≢ place → k < length xs → p (get_or xs k d) ≡ true) → filter p xs ≡ remove xs place
filter_but p [] place l out in_it = absurd (omega arith)
filter_but p (x ∷ xs) zero l out in_it = rw (out x) (filter_whole p xs (λ k d m. in_it (suc k) d (omega arith) (omega arith)))
filter_but p (x ∷ xs) (suc place) l out in_it =
    rw (in_it 0 x (omega arith) (omega arith)) (ap (λ ys. x ∷ ys) (filter_but p xs place (omega arith) out (λ k d ne m. in_it (suc k) d (λ e. ne (omega arith)) (omega arith))))

set_parts : {X : Type 0} (xs : List X) (place : ℕ) (y : X) → place < length xs → set xs place y ≡ take place xs ++ y ∷ drop (suc place) xs
set_parts [] place y l = absurd (omega arith)
set_parts (x ∷ xs) zero y l = refl
set_parts (x ∷ xs) (suc place) y l = ap (λ ys. x ∷ ys) (set_parts xs place y (omega arith))

-- a watcher listed

module _ (row : List Watch) (watch : Watch) (place : ℕ) (rising : AllPairs (λ a b. a.id < b.id) row) (before : (k : ℕ) (d : Watch) → k < place → (get_or row k d).id < watch.id) (after : (k : ℕ) (d : Watch) → place ≤ k → k < length row → watch.id ≤ (get_or row k d).id) where
  lower : filter (λ w. ltb w.id watch.id) row ≡ take place row
  lower = filter_front (λ (w : Watch). ltb w.id watch.id) row place (λ k d l m. lt-ltb _ _ (before k d l)) (λ k d low l. le-ltb _ _ (after k d low l))

  -- where the id has no watcher
  pub listing_insert : ((d : Watch) → place < length row → (get_or row place d).id ≢ watch.id) → insert row place watch ≡ listing watch row
  listing_insert other =
      let higher : filter (λ w. ltb watch.id w.id) row ≡ drop place row = filter_back (λ (w : Watch). ltb watch.id w.id) row place
      (λ k d l m. let b = before k d l in le-ltb _ _ (omega arith))
      (λ k d low l.
      let a = after k d low l in
      let up : watch.id < (get_or row k d).id =
      ⊎_elim
      (λ (e : k ≡ place). let o : (get_or row k d).id ≢ watch.id = rw e (other d (omega arith)) in omega arith)
      (λ (e : k ≢ place). let r = rising place k d (omega arith) l in let b = after place d (omega arith) (omega arith) in omega arith)
      (cases_eq k place) in
      lt-ltb _ _ up) in
      rw (lower, higher) refl

  -- in the place of another watcher of the id
  pub listing_set : place < length row → ((d : Watch) → (get_or row place d).id ≡ watch.id) → set row place watch ≡ listing watch row
  listing_set l same =
      let higher : filter (λ w. ltb watch.id w.id) row ≡ drop (suc place) row = filter_back (λ (w : Watch). ltb watch.id w.id) row (suc place)
      (λ k d low m.
      let le : (get_or row k d).id ≤ watch.id =
      ⊎_elim
      (λ (e : k ≡ place). let o : (get_or row k d).id ≡ watch.id = rw e (same d) in omega arith)
      (λ (e : k ≢ place). let b = before k d (omega arith) in omega arith)
      (cases_eq k place) in
      le-ltb _ _ le)
      (λ k d low m. let r = rising place k d (omega arith) m in let s = same d in let up : watch.id < (get_or row k d).id = omega arith in lt-ltb _ _ up) in
      rw (lower, higher) (set_parts row place watch l)

AllPairs-middle : (xs : List Watch) (y : Watch) (ys : List Watch) → AllPairs (λ a b. a.id < b.id) xs → AllPairs (λ a b. a.id < b.id) ys → All (λ a. a.id < y.id) xs → All (λ b. y.id < b.id) ys → AllPairs (λ a b. a.id < b.id) (xs ++ y ∷ ys)
AllPairs-middle [] y ys p q under over = AllPairs-cons (λ (a b : Watch). a.id < b.id) y ys over q
AllPairs-middle (x ∷ xs) y ys p q under over =
    let first : x.id < y.id = All-head (λ (a : Watch). a.id < y.id) x xs under in
    let others : All (λ b. x.id < b.id) xs = λ k d l. p 0 (suc k) d (omega arith) (omega arith) in
    let high : All (λ b. x.id < b.id) ys = λ k d l. let o = over k d l in omega arith in
    AllPairs-cons (λ (a b : Watch). a.id < b.id) x (xs ++ y ∷ ys)
    (All-append (λ (b : Watch). x.id < b.id) xs (y ∷ ys) others (All-cons (λ (b : Watch). x.id < b.id) y ys first high))
    (AllPairs-middle xs y ys (λ i j d l m. p (suc i) (suc j) d (omega arith) (omega arith)) q (All-tail (λ (a : Watch). a.id < y.id) x xs under) over)

All-listing : (P : Watch → Type 0) (watch : Watch) (row : List Watch) → P watch → All P row → All P (listing watch row)
All-listing P watch row one all =
    All-append P (filter (λ (w : Watch). ltb w.id watch.id) row) (watch ∷ filter (λ (w : Watch). ltb watch.id w.id) row) (All-filter (λ (w : Watch). ltb w.id watch.id) P row all) (All-cons P watch (filter (λ (w : Watch). ltb watch.id w.id) row) one (All-filter (λ (w : Watch). ltb watch.id w.id) P row all))

-- a row with one more watcher is one
pub IsRow-listing : (ids : ℕ) (watch : Watch) (row : List Watch) → IsRow watch.key ids row → watch.id < ids → 1 ≤ watch.generation → IsRow watch.key ids (listing watch row)
IsRow-listing ids watch row r low numbered =
    let below = λ (w : Watch). ltb w.id watch.id in
    let above = λ (w : Watch). ltb watch.id w.id in
    record {
      rising = AllPairs-middle (filter below row) watch (filter above row) (AllPairs-filter (λ (a b : Watch). a.id < b.id) below row r.rising) (AllPairs-filter (λ (a b : Watch). a.id < b.id) above row r.rising)
          (λ k d l. ltb-true _ _ (filter_passes below row k d l))
          (λ k d l. ltb-true _ _ (filter_passes above row k d l));
      keyed = All-listing (λ (w : Watch). w.key ≡ watch.key) watch row refl r.keyed;
      below = All-listing (λ (w : Watch). w.id < ids) watch row low r.below;
      numbered = All-listing (λ (w : Watch). 1 ≤ w.generation) watch row numbered r.numbered;
    }

-- a row that is filtered is one
pub IsRow-filter : (p : Watch → Bool) (key ids : ℕ) (row : List Watch) → IsRow key ids row → IsRow key ids (filter p row)
IsRow-filter p key ids row r = record {
  rising = AllPairs-filter (λ (a b : Watch). a.id < b.id) p row r.rising;
  keyed = All-filter p (λ (w : Watch). w.key ≡ key) row r.keyed;
  below = All-filter p (λ (w : Watch). w.id < ids) row r.below;
  numbered = All-filter p (λ (w : Watch). 1 ≤ w.generation) row r.numbered;
}

-- a row has no more watchers than there are ids

id_from_place : (row : List Watch) → AllPairs (λ a b. a.id < b.id) row → (k : ℕ) (d : Watch) → k < length row → k ≤ (get_or row k d).id
id_from_place row rising zero d l = omega arith
id_from_place row rising (suc k) d l = let a = id_from_place row rising k d (omega arith) in let b = rising k (suc k) d (omega arith) l in omega arith

pub length-IsRow : (key ids : ℕ) (row : List Watch) → IsRow key ids row → length row ≤ ids
length-IsRow key ids [] r = omega arith
length-IsRow key ids (x ∷ xs) r =
    let a = id_from_place (x ∷ xs) r.rising (length xs) x (omega arith) in
    let b = r.below (length xs) x (omega arith) in
    omega arith

-- the watcher of an id and a generation

pub of_differs : (id generation : ℕ) (w : Watch) → ((w.id ≡ id) → (w.generation ≡ generation) → ⊥) → not (is_of id generation w) ≡ true
of_differs id generation w h = grind (arith, nat_tests)

pub of_same : (id generation : ℕ) (w : Watch) → w.id ≡ id → w.generation ≡ generation → not (is_of id generation w) ≡ false
of_same id generation w e f = grind (arith, nat_tests)

module _ (row : List Watch) (id place : ℕ) (rising : AllPairs (λ a b. a.id < b.id) row) (before : (k : ℕ) (d : Watch) → k < place → (get_or row k d).id < id) (after : (k : ℕ) (d : Watch) → place ≤ k → k < length row → id ≤ (get_or row k d).id) where
  elsewhere : (k : ℕ) (d : Watch) → k ≢ place → k < length row → (get_or row k d).id ≢ id
  elsewhere k d ne l =
      ⊎_elim
      (λ (low : k < place). let b = before k d low in λ e. absurd (omega arith))
      (λ (high : place ≤ k). let a = after place d (omega arith) (omega arith) in let r = rising place k d (omega arith) l in λ e. absurd (omega arith))
      (cases_lt k place)

  pub take_found : (generation : ℕ) → place < length row → ((d : Watch) → (get_or row place d).id ≡ id) → ((d : Watch) → (get_or row place d).generation ≡ generation) → remove row place ≡ filter (λ w. not (is_of id generation w)) row
  take_found generation l is gen =
      sym (filter_but (λ (w : Watch). not (is_of id generation w)) row place l (λ d. of_same id generation (get_or row place d) (is d) (gen d)) (λ k d ne m. of_differs id generation (get_or row k d) (λ e f. elsewhere k d ne m e)))

  pub take_none : (generation : ℕ) → ((d : Watch) → place < length row → (get_or row place d).id ≡ id → (get_or row place d).generation ≡ generation → ⊥) → row ≡ filter (λ w. not (is_of id generation w)) row
  take_none generation no_one =
      sym (filter_whole (λ (w : Watch). not (is_of id generation w)) row (λ k d m. of_differs id generation (get_or row k d) (λ e f.
      ⊎_elim
      (λ (q : k ≡ place). no_one d (omega arith) (ap (λ n. (get_or row n d).id) (sym q) ∙ e) (ap (λ n. (get_or row n d).generation) (sym q) ∙ f))
      (λ (q : k ≢ place). elsewhere k d q m e)
      (cases_eq k place))))

  pub no_watcher : (generation : ℕ) → ((d : Watch) → place < length row → (get_or row place d).id ≡ id → (get_or row place d).generation ≡ generation → ⊥) → Any (λ w. (w.id ≡ id) × (w.generation ≡ generation)) row → ⊥
  no_watcher generation no_one (k, w, l, is, of) =
      ⊎_elim
      (λ (q : k ≡ place).
      let at : get_or row place w ≡ w = ap (λ n. get_or row n w) (sym q) ∙ is in
      no_one w (omega arith) (ap (λ (x : Watch). x.id) at ∙ of.0) (ap (λ (x : Watch). x.generation) at ∙ of.1))
      (λ (q : k ≢ place). elsewhere k w q l (ap (λ (x : Watch). x.id) is ∙ of.0))
      (cases_eq k place)
