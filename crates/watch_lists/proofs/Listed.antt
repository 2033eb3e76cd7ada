-- Who is listed, after a change of a shard.
use Rattle.std.proofs.Common.{⊎_elim, ◌≡◌, ◌≢◌, ℕ, ◌<◌, ◌≤◌, ◌↔◌, ◌⊎◌, inl, inr, List, Option, Some, None, [], ◌∷◌, Bool, true, false, AllPairs, Contains, filter, length, get_or, map, replicate, zero, suc, not, cond, sym, ap, ◌∙◌, refl, subst, arith, ltb, get_or-set_same, get_or-set_other}
use Rattle.std.specs.List.{slice_get}
use Rattle.std.specs.Option.{IfSome, IfNone}
use Rattle.std.proofs.lemmas.List.{get_or-map, get_or_default, get_or_past, get_or-replicate, length-map, length-replicate}
use Rattle.std.proofs.lemmas.List.Elements.{All-contains, All-filter, All-contains_itself, filter_passes, Contains-append_left, Contains-append_right, Contains-append_cases}
use Rattle.std.proofs.lemmas.Option.{slice_get_within, get_or_from_slice_get, slice_get-get_or}
use Rattle.std.proofs.lemmas.Bool.{cases_eq, cases_lt, lt-ltb, ltb-true, eqb-true, eq-eqb}
use Rattle.watch_lists.specs.declared.watch.Watch.{Watch}
use Rattle.watch_lists.specs.Row.{IsRow}
use Rattle.watch_lists.specs.Watches.{Watches, keys_of, row_of, with_row, listing, is_of, is_live, IsListed}
use Rattle.watch_lists.proofs.Rows.{of_differs, of_same}
use Rattle.watch_lists.proofs.Shards.{same_watch}

-- what a filter keeps

Contains-cons : {X : Type 0} (x : X) (xs : List X) (y : X) → Contains xs y → Contains (x ∷ xs) y
Contains-cons x xs y h = let l = h.1 in (suc h.0, omega arith, h.2)

cons_at : {X : Type 0} (y : X) (ys : List X) (x : X) (k : ℕ) → k < length (y ∷ ys) → get_or (y ∷ ys) k x ≡ x → (y ≡ x) ⊎ Contains ys x
cons_at y ys x zero l is = inl is
cons_at y ys x (suc k) l is = inr (k, omega arith, is)

cons_cases : {X : Type 0} (y : X) (ys : List X) (x : X) → Contains (y ∷ ys) x → (y ≡ x) ⊎ Contains ys x
cons_cases y ys x h = cons_at y ys x h.0 h.1 h.2

kept : {X : Type 0} (p : X → Bool) (xs : List X) (x : X) → Contains xs x → p x ≡ true → Contains (filter p xs) x
kept p [] x h passes = let l = h.1 in absurd (omega arith)
kept p (y ∷ ys) x h passes =
    ⊎_elim
    (λ (is : y ≡ x). subst (λ b. Contains (cond b (y ∷ filter p ys) (filter p ys)) x) (sym (ap p is ∙ passes)) (0, omega arith, is))
    (λ (rest : Contains ys x).
    elim (p y) as (λ b. Contains (cond b (y ∷ filter p ys) (filter p ys)) x) [
      | true ↦ Contains-cons y (filter p ys) x (kept p ys x rest passes)
      | false ↦ kept p ys x rest passes
    ])
    (cons_cases y ys x h)

keeps : {X : Type 0} (p : X → Bool) (xs : List X) (x : X) → Contains (filter p xs) x → Contains xs x × (p x ≡ true)
keeps p xs x h = (
  All-contains (Contains xs) (filter p xs) x (All-filter p (Contains xs) xs (All-contains_itself xs)) h,
  All-contains (λ y. p y ≡ true) (filter p xs) x (filter_passes p xs) h,
)

-- a watcher more

listing_cases : (watch : Watch) (row : List Watch) (x : Watch) → Contains (listing watch row) x → (watch ≡ x) ⊎ (Contains row x × (x.id ≢ watch.id))
listing_cases watch row x h =
    ⊎_elim
    (λ (front : Contains (filter (λ (w : Watch). ltb w.id watch.id) row) x).
    let k = keeps (λ (w : Watch). ltb w.id watch.id) row x front in
    let l = ltb-true x.id watch.id k.1 in
    inr (k.0, λ e. absurd (omega arith)))
    (λ (rest : Contains (watch ∷ filter (λ (w : Watch). ltb watch.id w.id) row) x).
    ⊎_elim
    (λ (is : watch ≡ x). inl is)
    (λ (back : Contains (filter (λ (w : Watch). ltb watch.id w.id) row) x).
    let k = keeps (λ (w : Watch). ltb watch.id w.id) row x back in
    let l = ltb-true watch.id x.id k.1 in
    inr (k.0, λ e. absurd (omega arith)))
    (cons_cases watch (filter (λ (w : Watch). ltb watch.id w.id) row) x rest))
    (Contains-append_cases (filter (λ (w : Watch). ltb w.id watch.id) row) (watch ∷ filter (λ (w : Watch). ltb watch.id w.id) row) x h)

listing_has : (watch : Watch) (row : List Watch) → Contains (listing watch row) watch
listing_has watch row =
    Contains-append_right (filter (λ (w : Watch). ltb w.id watch.id) row) (watch ∷ filter (λ (w : Watch). ltb watch.id w.id) row) watch (0, omega arith, refl)

listing_keeps : (watch : Watch) (row : List Watch) (x : Watch) → Contains row x → x.id ≢ watch.id → Contains (listing watch row) x
listing_keeps watch row x h other =
    let front = filter (λ (w : Watch). ltb w.id watch.id) row in
    let back = filter (λ (w : Watch). ltb watch.id w.id) row in
    ⊎_elim
    (λ (l : x.id < watch.id). Contains-append_left front (watch ∷ back) x (kept (λ (w : Watch). ltb w.id watch.id) row x h (lt-ltb x.id watch.id l)))
    (λ (l : watch.id ≤ x.id). Contains-append_right front (watch ∷ back) x (Contains-cons watch back x (kept (λ (w : Watch). ltb watch.id w.id) row x h (lt-ltb watch.id x.id (omega arith)))))
    (cases_lt x.id watch.id)

-- one row changed

module _ (w : Watches) (key : ℕ) (l : key < keys_of w) (row : List Watch) where
  row_same : row_of (with_row w key row) key ≡ row
  row_same = get_or-set_same w.rows key row [] l

row_other : (w : Watches) (key k : ℕ) (row : List Watch) → k ≢ key → row_of (with_row w key row) k ≡ row_of w k
row_other w key k row other = get_or-set_other w.rows key k row [] other

abbrev watch_of : ℕ → ℕ → ℕ → Watch
watch_of key id generation = record { key = key; id = id; generation = generation }

module _ (w : Watches) (key id generation : ℕ) (l : key < keys_of w) where
  abbrev with_listing : Watches
  with_listing = with_row w key (listing (watch_of key id generation) (row_of w key))

  -- the id is listed with this generation and no other
  pub list_listed : (g : ℕ) → IsListed with_listing key id g ↔ (g ≡ generation)
  list_listed g =
      let watch = watch_of key id generation in
      let row = listing watch (row_of w key) in
      subst (λ (r : List Watch). Contains r (watch_of key id g) ↔ (g ≡ generation)) (sym (row_same w key l row)) (
        (λ h.
            ⊎_elim
            (λ (is : watch ≡ watch_of key id g). sym (ap (λ (x : Watch). x.generation) is))
            (λ (o : Contains (row_of w key) (watch_of key id g) × (id ≢ id)). absurd (o.1 refl))
            (listing_cases watch (row_of w key) (watch_of key id g) h)),
        (λ e. subst (λ n. Contains row (watch_of key id n)) (sym e) (listing_has watch (row_of w key))),
      )

  -- no other id, and no other key, changes
  pub list_others : (k i g : ℕ) → (k ≡ key → i ≢ id) → IsListed with_listing k i g ↔ IsListed w k i g
  list_others k i g apart =
      let watch = watch_of key id generation in
      let row = listing watch (row_of w key) in
      ⊎_elim
      (λ (same : k ≡ key).
      let there : IsListed with_listing key i g ↔ IsListed w key i g =
      subst (λ (r : List Watch). Contains r (watch_of key i g) ↔ IsListed w key i g) (sym (row_same w key l row)) (
        (λ h.
            ⊎_elim
            (λ (is : watch ≡ watch_of key i g). absurd (apart same (sym (ap (λ (x : Watch). x.id) is))))
            (λ (o : Contains (row_of w key) (watch_of key i g) × (i ≢ id)). o.0)
            (listing_cases watch (row_of w key) (watch_of key i g) h)),
        (λ h. listing_keeps watch (row_of w key) (watch_of key i g) h (apart same)),
      ) in
      subst (λ n. IsListed with_listing n i g ↔ IsListed w n i g) (sym same) there)
      (λ (other : k ≢ key). subst (λ (r : List Watch). Contains r (watch_of k i g) ↔ IsListed w k i g) (sym (row_other w key k row other)) (λ h. h, λ h. h))
      (cases_eq k key)

  abbrev without : Watches
  without = with_row w key (filter (λ x. not (is_of id generation x)) (row_of w key))

  -- this watcher goes, and nobody else
  pub drop_others : (k i g : ℕ) → IsListed without k i g ↔ (IsListed w k i g × (k ≡ key → i ≡ id → g ≢ generation))
  drop_others k i g =
      let p = λ (x : Watch). not (is_of id generation x) in
      let row = filter p (row_of w key) in
      ⊎_elim
      (λ (same : k ≡ key).
      let there : IsListed without key i g ↔ (IsListed w key i g × (key ≡ key → i ≡ id → g ≢ generation)) =
      subst (λ (r : List Watch). Contains r (watch_of key i g) ↔ (IsListed w key i g × (key ≡ key → i ≡ id → g ≢ generation))) (sym (row_same w key l row)) (
        (λ h.
            let k = keeps p (row_of w key) (watch_of key i g) h in
            (k.0, λ e f q. let no : true ≡ false = sym k.1 ∙ of_same id generation (watch_of key i g) f q in absurd cc)),
        (λ h. kept p (row_of w key) (watch_of key i g) h.0 (of_differs id generation (watch_of key i g) (λ f q. h.1 refl f q))),
      ) in
      subst (λ n. IsListed without n i g ↔ (IsListed w n i g × (n ≡ key → i ≡ id → g ≢ generation))) (sym same) there)
      (λ (other : k ≢ key).
      subst (λ (r : List Watch). Contains r (watch_of k i g) ↔ (IsListed w k i g × (k ≡ key → i ≡ id → g ≢ generation))) (sym (row_other w key k row other))
      (λ h. (h, λ e. absurd (other e)), λ h. h.0))
      (cases_eq k key)

-- all rows filtered

rows_filtered : (p : Watch → Bool) (rows : List (List Watch)) (k : ℕ) → get_or (map (filter p) rows) k [] ≡ filter p (get_or rows k [])
rows_filtered p rows k =
    ⊎_elim
    (λ (l : k < length rows). get_or-map (filter p) rows k [] [] l)
    (λ (l : length rows ≤ k). get_or_past (map (filter p) rows) k [] (rw length-map l) ∙ sym (ap (filter p) (get_or_past rows k [] l)))
    (cases_lt k (length rows))

abbrev pub purged : List ℕ → Watches → Watches
purged live w = record w { rows = map (filter (is_live live)) w.rows }

-- the live ones stay, and nobody else
pub purge_listed : (live : List ℕ) (w : Watches) (k i g : ℕ) → IsListed (purged live w) k i g ↔ (IsListed w k i g × (g ≡ get_or live i 0))
purge_listed live w k i g =
    subst (λ (r : List Watch). Contains r (watch_of k i g) ↔ (IsListed w k i g × (g ≡ get_or live i 0))) (sym (rows_filtered (is_live live) w.rows k)) (
      (λ h. let k' = keeps (is_live live) (row_of w k) (watch_of k i g) h in (k'.0, eqb-true g (get_or live i 0) k'.1)),
      (λ h. kept (is_live live) (row_of w k) (watch_of k i g) h.0 (eq-eqb g (get_or live i 0) h.1)),
    )

-- a shard with nothing listed

pub none_listed : (ids keys k i g : ℕ) → IsListed (record { ids = ids; rows = replicate keys [] }) k i g → ⊥
none_listed ids keys k i g h =
    let empty : get_or (replicate keys []) k [] ≡ [] =
    ⊎_elim
    (λ (l : k < keys). get_or-replicate keys k [] [] l)
    (λ (l : keys ≤ k). get_or_past (replicate keys []) k [] (rw length-replicate l))
    (cases_lt k keys) in
    let there : Contains [] (watch_of k i g) = subst (λ (r : List Watch). Contains r (watch_of k i g)) empty h in
    let l = there.1 in
    absurd (omega arith)

-- a walk

pub each_listed : (key ids : ℕ) (row : List Watch) → IsRow key ids row → (at : ℕ) (o : Option Watch) → o ≡ slice_get row at → IfSome o (λ x. (x.key ≡ key) × Contains row (record { key = key; id = x.id; generation = x.generation }))
each_listed key ids row r at None e = tt
each_listed key ids row r at (Some x) e =
    let l = slice_get_within row at x (sym e) in
    let is : get_or row at x ≡ x = get_or_from_slice_get row at x x (sym e) in
    let keyed : x.key ≡ key = ap (λ (y : Watch). y.key) (sym is) ∙ r.keyed at x l in
    let watch = watch_of key x.id x.generation in
    (keyed, (at, l, get_or_default row at watch x l ∙ is ∙ same_watch x watch keyed refl refl))

pub each_within : (key ids : ℕ) (row : List Watch) → IsRow key ids row → (at : ℕ) (o : Option Watch) → o ≡ slice_get row at → IfSome o (λ x. (x.id < ids) × (1 ≤ x.generation))
each_within key ids row r at None e = tt
each_within key ids row r at (Some x) e =
    let l = slice_get_within row at x (sym e) in
    let is : get_or row at x ≡ x = get_or_from_slice_get row at x x (sym e) in (
      subst (λ (y : Watch). y.id < ids) is (r.below at x l),
      subst (λ (y : Watch). 1 ≤ y.generation) is (r.numbered at x l),
    )

pub each_all : (key : ℕ) (row : List Watch) (at : ℕ) (o : Option Watch) → o ≡ slice_get row at
    → IfNone o ((id generation : ℕ) → Contains row (record { key = key; id = id; generation = generation }) → (earlier : ℕ) × (earlier < at) × (slice_get row earlier ≡ Some (record { key = key; id = id; generation = generation })))
each_all key row at (Some x) e = tt
each_all key row at None e = λ id generation h.
    let watch = watch_of key id generation in
    let l = h.1 in
    let short : length row ≤ at =
    ⊎_elim
    (λ (m : at < length row). let no : None ≡ Some (get_or row at watch) = e ∙ slice_get-get_or row at watch m in absurd cc)
    (λ (m : length row ≤ at). m)
    (cases_lt at (length row)) in
    (h.0, omega arith, slice_get-get_or row h.0 watch l ∙ ap Some h.2)

-- rows as they stand between calls

pub listed_within : (w : Watches) → ((key : ℕ) → key < keys_of w → IsRow key w.ids (row_of w key)) → (key id generation : ℕ) → IsListed w key id generation
    → (key < keys_of w) × (id < w.ids) × (1 ≤ generation)
listed_within w rows key id generation h =
    let low : key < keys_of w =
    ⊎_elim
    (λ (l : key < keys_of w). l)
    (λ (l : keys_of w ≤ key).
    let there : Contains [] (watch_of key id generation) = subst (λ (r : List Watch). Contains r (watch_of key id generation)) (get_or_past w.rows key [] l) h in
    let m = there.1 in
    absurd (omega arith))
    (cases_lt key (keys_of w)) in
    let r = rows key low in (
      low,
      All-contains (λ (x : Watch). x.id < w.ids) (row_of w key) (watch_of key id generation) r.below h,
      All-contains (λ (x : Watch). 1 ≤ x.generation) (row_of w key) (watch_of key id generation) r.numbered h,
    )

once_in : (row : List Watch) (key id one other : ℕ) → AllPairs (λ a b. a.id < b.id) row → Contains row (watch_of key id one) → Contains row (watch_of key id other) → one ≡ other
once_in row key id one other rising a b =
    let x = watch_of key id one in
    let y = watch_of key id other in
    let la = a.1 in
    let lb = b.1 in
    let at_a : (get_or row a.0 x).id ≡ id = ap (λ (z : Watch). z.id) a.2 in
    let at_b : (get_or row b.0 x).id ≡ id = ap (λ (z : Watch). z.id) (get_or_default row b.0 x y lb ∙ b.2) in
    ⊎_elim
    (λ (same : a.0 ≡ b.0). ap (λ (z : Watch). z.generation) (sym a.2 ∙ ap (λ k. get_or row k x) same ∙ get_or_default row b.0 x y lb ∙ b.2))
    (λ (apart : a.0 ≢ b.0).
    ⊎_elim
    (λ (l : a.0 < b.0). let r = rising a.0 b.0 x l lb in absurd (omega arith))
    (λ (l : b.0 ≤ a.0). let r = rising b.0 a.0 x (omega arith) la in absurd (omega arith))
    (cases_lt a.0 b.0))
    (cases_eq a.0 b.0)

pub listed_once : (w : Watches) → ((key : ℕ) → key < keys_of w → IsRow key w.ids (row_of w key)) → (key id one other : ℕ) → IsListed w key id one → IsListed w key id other → one ≡ other
listed_once w rows key id one other a b =
    let low = (listed_within w rows key id one a).0 in
    once_in (row_of w key) key id one other (rows key low).rising a b
