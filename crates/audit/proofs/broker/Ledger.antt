-- Who left the entries of the histories, as one entry more comes: it stays that each is one point of its call.
use Rattle.std.proofs.Common.{◌≡◌, ◌≢◌, ℕ, zero, suc, ◌+◌, ◌≤◌, ◌<◌, ◌⊎◌, Bool, true, false, ◌&&◌, cond, eqb, List, [], ◌∷◌, ◌++◌, length, map, filter, Option, Some, None, refl, sym, ap, subst, ◌∙◌, arith, inl, inr, append_assoc, append-nil, eq-eqb}
use Rattle.std.proofs.lemmas.Bool.{ne_eqb, eqb-true}
use Rattle.std.proofs.lemmas.Grind.{flat_map-append}
use Rattle.std.proofs.lemmas.List.Sums.{sum_by-cons, sum_by_push}
use Rattle.std.proofs.lemmas.Option.{slice_get_within}
use Rattle.std.specs.Prelude.{slice_get, count_by}
use Rattle.std.specs.List.{AllByRecursion, flat_map}
use Rattle.std.specs.List.Sorted.{IsStrictlyIncreasing}
use Rattle.audit.specs.declared.account.Point.{Point}
use Rattle.audit.specs.Histories.{Owner}
use Rattle.audit.specs.IsLawful.{places_in, is_point}
use Rattle.kbytes.proofs.Laws.{same_or_not, get_seam, get_front, some_is, all_append}
use Rattle.audit.specs.broker.GoesOn.{the_owner}
use Rattle.audit.proofs.broker.Counting.{AllBelow, rises_on, places_append, places_here, places_other}
pub use Rattle.audit.specs.broker.Kept.{IsKept}

-- ---- tables and lists

-- a table with one value given anew
abbrev pub put : {X : Type 0} → (ℕ → X) → ℕ → X → ℕ → X
put f i x j = cond (eqb j i) x (f j)

pub put_same : {X : Type 0} (f : ℕ → X) (i : ℕ) (x : X) (j : ℕ) → j ≡ i → put f i x j ≡ x
put_same {X = X} f i x j same = ap (λ (b : Bool). cond b x (f j)) (eq-eqb j i same)

pub put_other : {X : Type 0} (f : ℕ → X) (i : ℕ) (x : X) (j : ℕ) → j ≢ i → put f i x j ≡ f j
put_other {X = X} f i x j other = ap (λ (b : Bool). cond b x (f j)) (ne_eqb j i other)

-- what was there is given again
pub put_again : {X : Type 0} (f : ℕ → X) (i : ℕ) (x : X) → x ≡ f i → (j : ℕ) → put f i x j ≡ f j
put_again f i x is j = elim (same_or_not j i) [ inl same ↦ put_same f i x j same ∙ is ∙ sym (ap f same) | inr other ↦ put_other f i x j other ]

-- an item of a list with one more behind
pub push_get : {X : Type 0} (xs : List X) (x y : X) (k : ℕ) → slice_get (xs ++ x ∷ []) k ≡ Some y → (slice_get xs k ≡ Some y) ⊎ ((k ≡ length xs) × (y ≡ x))
push_get [] x y zero e = inr (refl, some_is y x (sym e))
push_get [] x y (suc k) e = absurd cc
push_get (z ∷ xs) x y zero e = inl e
push_get (z ∷ xs) x y (suc k) e = elim (push_get xs x y k e) [ inl front ↦ inl front | inr last ↦ inr (ap suc last.0, last.1) ]

pub all_on : {X : Type 0} (P Q : X → Type 0) → ((x : X) → P x → Q x) → (xs : List X) → AllByRecursion P xs → AllByRecursion Q xs
all_on P Q f [] all = tt
all_on P Q f (x ∷ xs) all = (f x all.0, all_on P Q f xs all.1)

all_both : (n : ℕ) (xs ys : List ℕ) → AllBelow n xs → AllBelow n ys → AllBelow n (xs ++ ys)
all_both n [] ys a b = b
all_both n (x ∷ xs) ys a b = (a.0, all_both n xs ys a.1 b)

-- ---- points

abbrev pub IsOwned : (ℕ → List (Option Owner)) → ℕ → ℕ → Point → Type 0
IsOwned owners by seq point = slice_get (owners point.part) point.place ≡ Some (the_owner by seq)

abbrev all_rows : List (List Point) → List Point
all_rows rows = flat_map (λ points. points) rows

not_point : (p k part place : ℕ) → (part ≡ p → place ≢ k) → is_point p k (record { part = part; place = place }) ≡ false
not_point p k part place ne =
    elim (same_or_not part p) [
      | inl same ↦ ap (λ (b : Bool). b && eqb place k) (eq-eqb part p same) ∙ ne_eqb place k (ne same)
      | inr other ↦ ap (λ (b : Bool). b && eqb place k) (ne_eqb part p other)
    ]

the_point : (p k part place : ℕ) → part ≡ p → place ≡ k → is_point p k (record { part = part; place = place }) ≡ true
the_point p k part place same at = ap (λ (b : Bool). b && eqb place k) (eq-eqb part p same) ∙ eq-eqb place k at

count_push : (f : Point → Bool) (points : List Point) (point : Point) → count_by f (points ++ point ∷ []) ≡ count_by f points + cond (f point) 1 0
count_push f points point = sum_by_push (λ x. cond (f x) 1 0) points point

-- none of these stands behind the entries that there are
none_behind : (owners : ℕ → List (Option Owner)) (by seq p k : ℕ) (points : List Point) → AllByRecursion (IsOwned owners by seq) points → length (owners p) ≤ k → count_by (is_point p k) points ≡ 0
none_behind owners by seq p k [] owned past = refl
none_behind owners by seq p k (point ∷ points) owned past =
    let within : point.place < length (owners point.part) = slice_get_within (owners point.part) point.place (the_owner by seq) owned.0 in
    let no : is_point p k point ≡ false =
    not_point p k point.part point.place (λ same at.
    let size : length (owners point.part) ≡ length (owners p) = ap (λ (i : ℕ). length (owners i)) same in
    omega (arith, within, size, past, at)) in
    sum_by-cons (λ x. cond (is_point p k x) 1 0) point points
    ∙ ap (λ (b : Bool). cond b 1 0 + count_by (is_point p k) points) no ∙ omega (arith, none_behind owners by seq p k points owned.1 past)

row_below : (owners : ℕ → List (Option Owner)) (by seq p : ℕ) (points : List Point) → AllByRecursion (IsOwned owners by seq) points → AllBelow (length (owners p)) (places_in p points)
row_below owners by seq p [] owned = tt
row_below owners by seq p (point ∷ points) owned = by_test (eqb point.part p) refl (row_below owners by seq p points owned.1)
  where
    by_test : (b : Bool) → eqb point.part p ≡ b → AllBelow (length (owners p)) (places_in p points)
        → AllBelow (length (owners p)) (map (λ q. q.place) (cond b (point ∷ filter (λ q. eqb q.part p) points) (filter (λ q. eqb q.part p) points)))
    by_test true is rest =
        let same : point.part ≡ p = eqb-true point.part p is in
        (subst (λ (i : ℕ). point.place < length (owners i)) same (slice_get_within (owners point.part) point.place (the_owner by seq) owned.0), rest)
    by_test false is rest = rest

rows_below : (owners : ℕ → List (Option Owner)) (by from p : ℕ) (rows : List (List Point)) → ((seq : ℕ) (points : List Point) → slice_get rows seq ≡ Some points → AllByRecursion (IsOwned owners by (from + seq)) points)
    → AllBelow (length (owners p)) (places_in p (all_rows rows))
rows_below owners by from p [] owned = tt
rows_below owners by from p (points ∷ rows) owned =
    subst (AllBelow (length (owners p))) (sym (places_append p points (all_rows rows)))
    (all_both (length (owners p)) (places_in p points) (places_in p (all_rows rows)) (row_below owners by (from + 0) p points (owned 0 points refl))
    (rows_below owners by (from + 1) p rows (λ seq more e.
    let next : from + suc seq ≡ from + 1 + seq = omega arith in
    subst (λ (n : ℕ). AllByRecursion (IsOwned owners by n) more) next (owned (suc seq) more e))))

last_row : (before : List (List Point)) (points : List Point) → all_rows (before ++ points ∷ []) ≡ all_rows before ++ points
last_row before points = flat_map-append (λ (ps : List Point). ps) before (points ∷ []) ∙ ap (λ (ps : List Point). all_rows before ++ ps) (append-nil points)

same_owner : (by seq b s : ℕ) → the_owner by seq ≡ the_owner b s → (by ≡ b) × (seq ≡ s)
same_owner by seq b s e =
    let o : ◌≡◌ {A = Owner} (record { by = by; seq = seq }) (record { by = b; seq = s }) = some_is (record { by = by; seq = seq }) (record { by = b; seq = s }) e in
    (ap (λ (x : Owner). x.by) o, ap (λ (x : Owner). x.seq) o)

no_owner : (by seq : ℕ) → the_owner by seq ≡ None → ⊥
no_owner by seq e = absurd cc

-- ---- one history has an entry more

module _ (owners owners1 : ℕ → List (Option Owner)) (p : ℕ) (o : Option Owner) (entry : owners1 p ≡ owners p ++ o ∷ []) (elsewhere : (q : ℕ) → q ≢ p → owners1 q ≡ owners q) where
  pub still : (q k : ℕ) (x : Option Owner) → slice_get (owners q) k ≡ Some x → slice_get (owners1 q) k ≡ Some x
  still q k x e =
      elim (same_or_not q p) [
        | inl same ↦
            ap (λ (i : ℕ). slice_get (owners1 i) k) same ∙ ap (λ (xs : List (Option Owner)). slice_get xs k) entry
            ∙ get_front (owners p) (o ∷ []) k x (sym (ap (λ (i : ℕ). slice_get (owners i) k) same) ∙ e)
        | inr other ↦ ap (λ (xs : List (Option Owner)). slice_get xs k) (elsewhere q other) ∙ e
      ]

  pub was_or_new : (q k : ℕ) (x : Option Owner) → slice_get (owners1 q) k ≡ Some x → (slice_get (owners q) k ≡ Some x) ⊎ ((q ≡ p) × (k ≡ length (owners p)) × (x ≡ o))
  was_or_new q k x e =
      elim (same_or_not q p) [
        | inl same ↦
            let there : slice_get (owners p ++ o ∷ []) k ≡ Some x = sym (ap (λ (xs : List (Option Owner)). slice_get xs k) entry) ∙ sym (ap (λ (i : ℕ). slice_get (owners1 i) k) same) ∙ e in
            elim (push_get (owners p) o x k there) [
              | inl front ↦ inl (ap (λ (i : ℕ). slice_get (owners i) k) same ∙ front)
              | inr last ↦ inr (same, last.0, last.1)
            ]
        | inr other ↦ inl (sym (ap (λ (xs : List (Option Owner)). slice_get xs k) (elsewhere q other)) ∙ e)
      ]

  pub still_owned : (by seq : ℕ) (points : List Point) → AllByRecursion (IsOwned owners by seq) points → AllByRecursion (IsOwned owners1 by seq) points
  still_owned by seq points owned = all_on (IsOwned owners by seq) (IsOwned owners1 by seq) (λ point e. still point.part point.place (the_owner by seq) e) points owned

-- ---- nobody's entries came, in all histories

-- these owners, and then nobody's
abbrev pub HasNobodysMore : List (Option Owner) → List (Option Owner) → Type 0
HasNobodysMore os later = (more : List (Option Owner)) × (later ≡ os ++ more) × AllByRecursion (λ o. o ≡ None) more

nobodys_at : (more : List (Option Owner)) (k by seq : ℕ) → AllByRecursion (λ o. o ≡ None) more → slice_get more k ≡ Some (the_owner by seq) → ⊥
nobodys_at [] k by seq none e = absurd cc
nobodys_at (o ∷ more) zero by seq none e = no_owner by seq (sym (some_is o (the_owner by seq) e) ∙ none.0)
nobodys_at (o ∷ more) (suc k) by seq none e = nobodys_at more k by seq none.1 e

owned_before : (os more : List (Option Owner)) (k by seq : ℕ) → AllByRecursion (λ o. o ≡ None) more → slice_get (os ++ more) k ≡ Some (the_owner by seq) → slice_get os k ≡ Some (the_owner by seq)
owned_before [] more k by seq none e = absurd (nobodys_at more k by seq none e)
owned_before (o ∷ os) more zero by seq none e = e
owned_before (o ∷ os) more (suc k) by seq none e = owned_before os more k by seq none e

pub kept_grown : (owners owners1 : ℕ → List (Option Owner)) (ledger : ℕ → List (List Point)) → ((q : ℕ) → HasNobodysMore (owners q) (owners1 q)) → IsKept owners ledger → IsKept owners1 ledger
kept_grown owners owners1 ledger grown kept = record {
  left = λ q k by seq e.
      let g = grown q in
      kept.left q k by seq (owned_before (owners q) g.0 k by seq g.2 (sym (ap (λ (os : List (Option Owner)). slice_get os k) g.1) ∙ e));
  points = λ by seq points e. all_on (IsOwned owners by seq) (IsOwned owners1 by seq) (λ point owned.
      let g = grown point.part in
      ap (λ (os : List (Option Owner)). slice_get os point.place) g.1 ∙ get_front (owners point.part) g.0 point.place (the_owner by seq) owned) points (kept.points by seq points e);
  order = kept.order;
}

-- ---- it is one of the last call of its pass

module _ (owners owners1 : ℕ → List (Option Owner)) (ledger : ℕ → List (List Point)) (by p place : ℕ) (before : List (List Point)) (points : List Point) (here : place ≡ length (owners p)) (entry : owners1 p ≡ owners p ++ the_owner by (length before) ∷ []) (elsewhere : (q : ℕ) → q ≢ p → owners1 q ≡ owners q) (kept : IsKept owners (put ledger by (before ++ points ∷ []))) where
  abbrev point : Point
  point = record { part = p; place = place }

  abbrev rows : ℕ → List (List Point)
  rows = put ledger by (before ++ points ∷ [])

  abbrev rows1 : ℕ → List (List Point)
  rows1 = put ledger by (before ++ (points ++ point ∷ []) ∷ [])

  abbrev Left : ℕ → ℕ → ℕ → ℕ → Type 0
  Left q k b s = (ps : List Point) × (slice_get (rows1 b) s ≡ Some ps) × (count_by (is_point q k) ps ≡ 1)

  at_rows : (b s : ℕ) (ps : List Point) → b ≡ by → slice_get (rows b) s ≡ Some ps → slice_get (before ++ points ∷ []) s ≡ Some ps
  at_rows b s ps same e = sym (ap (λ (xs : List (List Point)). slice_get xs s) (put_same ledger by (before ++ points ∷ []) b same)) ∙ e

  to_rows : (b s : ℕ) (ps : List Point) → b ≡ by → slice_get (before ++ points ∷ []) s ≡ Some ps → slice_get (rows b) s ≡ Some ps
  to_rows b s ps same e = ap (λ (xs : List (List Point)). slice_get xs s) (put_same ledger by (before ++ points ∷ []) b same) ∙ e

  at_rows1 : (b s : ℕ) (ps : List Point) → b ≡ by → slice_get (rows1 b) s ≡ Some ps → slice_get (before ++ (points ++ point ∷ []) ∷ []) s ≡ Some ps
  at_rows1 b s ps same e = sym (ap (λ (xs : List (List Point)). slice_get xs s) (put_same ledger by (before ++ (points ++ point ∷ []) ∷ []) b same)) ∙ e

  to_rows1 : (b s : ℕ) (ps : List Point) → b ≡ by → slice_get (before ++ (points ++ point ∷ []) ∷ []) s ≡ Some ps → slice_get (rows1 b) s ≡ Some ps
  to_rows1 b s ps same e = ap (λ (xs : List (List Point)). slice_get xs s) (put_same ledger by (before ++ (points ++ point ∷ []) ∷ []) b same) ∙ e

  others_same : (b : ℕ) → b ≢ by → rows1 b ≡ rows b
  others_same b other = put_other ledger by (before ++ (points ++ point ∷ []) ∷ []) b other ∙ sym (put_other ledger by (before ++ points ∷ []) b other)

  last_owned : AllByRecursion (IsOwned owners by (length before)) points
  last_owned = kept.points by (length before) points (to_rows by (length before) points refl (get_seam before [] points))

  -- an entry that was there is no new point
  old_left : (q k b s : ℕ) → slice_get (owners q) k ≡ Some (the_owner b s) → Left q k b s
  old_left q k b s e =
      let found = kept.left q k b s e in
      elim (same_or_not b by) [
        | inl same ↦ elim (push_get before points found.0 s (at_rows b s found.0 same found.1)) [
          | inl front ↦ (found.0, to_rows1 b s found.0 same (get_front before ((points ++ point ∷ []) ∷ []) s found.0 front), found.2)
          | inr last ↦
              let within : k < length (owners q) = slice_get_within (owners q) k (the_owner b s) e in
              let no : is_point q k point ≡ false =
              not_point q k p place (λ part at. let size : length (owners p) ≡ length (owners q) = ap (λ (i : ℕ). length (owners i)) part in omega (arith, within, size, here, at)) in
              let once : count_by (is_point q k) points ≡ 1 = sym (ap (count_by (is_point q k)) last.1) ∙ found.2 in
              let all : count_by (is_point q k) (points ++ point ∷ []) ≡ 1 =
              count_push (is_point q k) points point ∙ ap (λ (b : Bool). count_by (is_point q k) points + cond b 1 0) no ∙ omega (arith, once) in
              (points ++ point ∷ [], to_rows1 b s (points ++ point ∷ []) same (ap (slice_get (before ++ (points ++ point ∷ []) ∷ [])) last.0 ∙ get_seam before [] (points ++ point ∷ [])), all)
        ]
        | inr other ↦ (found.0, ap (λ (xs : List (List Point)). slice_get xs s) (others_same b other) ∙ found.1, found.2)
      ]

  new_left : (q k b s : ℕ) → q ≡ p → k ≡ length (owners p) → the_owner b s ≡ the_owner by (length before) → Left q k b s
  new_left q k b s part at owner =
      let is = same_owner b s by (length before) owner in
      let size : length (owners q) ≡ length (owners p) = ap (λ (i : ℕ). length (owners i)) part in
      let none : count_by (is_point q k) points ≡ 0 = none_behind owners by (length before) q k points last_owned (omega (arith, size, at)) in
      let yes : is_point q k point ≡ true = the_point q k p place (sym part) (omega (arith, here, at)) in
      let all : count_by (is_point q k) (points ++ point ∷ []) ≡ 1 =
      count_push (is_point q k) points point ∙ ap (λ (b : Bool). count_by (is_point q k) points + cond b 1 0) yes ∙ omega (arith, none) in
      (points ++ point ∷ [], to_rows1 b s (points ++ point ∷ []) is.0 (ap (slice_get (before ++ (points ++ point ∷ []) ∷ [])) is.1 ∙ get_seam before [] (points ++ point ∷ [])), all)

  points_owned : (b s : ℕ) (ps : List Point) → slice_get (rows1 b) s ≡ Some ps → AllByRecursion (IsOwned owners1 b s) ps
  points_owned b s ps e =
      let on = still_owned owners owners1 p (the_owner by (length before)) entry elsewhere in
      elim (same_or_not b by) [
        | inl same ↦ elim (push_get before (points ++ point ∷ []) ps s (at_rows1 b s ps same e)) [
          | inl front ↦ on b s ps (kept.points b s ps (to_rows b s ps same (get_front before (points ∷ []) s ps front)))
          | inr last ↦
              let new : IsOwned owners1 by (length before) point =
              ap (λ (xs : List (Option Owner)). slice_get xs place) entry ∙ ap (slice_get (owners p ++ the_owner by (length before) ∷ [])) here ∙ get_seam (owners p) [] (the_owner by (length before)) in
              let all : AllByRecursion (IsOwned owners1 by (length before)) (points ++ point ∷ []) =
              all_append (IsOwned owners1 by (length before)) points (point ∷ []) (on by (length before) points last_owned) (new, tt) in
              subst (AllByRecursion (IsOwned owners1 b s)) (sym last.1)
              (subst (λ (i : ℕ). AllByRecursion (IsOwned owners1 i s) (points ++ point ∷ [])) (sym same)
              (subst (λ (i : ℕ). AllByRecursion (IsOwned owners1 by i) (points ++ point ∷ [])) (sym last.0) all))
        ]
        | inr other ↦ on b s ps (kept.points b s ps (sym (ap (λ (xs : List (List Point)). slice_get xs s) (others_same b other)) ∙ e))
      ]

  rises_there : (q : ℕ) → IsStrictlyIncreasing (places_in q (all_rows (before ++ points ∷ []))) → IsStrictlyIncreasing (places_in q (all_rows (before ++ points ∷ []) ++ point ∷ []))
  rises_there q rises =
      let xs = all_rows (before ++ points ∷ []) in
      let split = places_append q xs (point ∷ []) in
      elim (same_or_not q p) [
        | inl same ↦
            let one : places_in q (point ∷ []) ≡ place ∷ [] = ap (λ (i : ℕ). places_in i (point ∷ [])) same ∙ places_here p place [] in
            let below : AllBelow (length (owners q)) (places_in q xs) =
            rows_below owners by 0 q (before ++ points ∷ []) (λ s ps e.
            let zero_is : s ≡ 0 + s = omega arith in
            subst (λ (n : ℕ). AllByRecursion (IsOwned owners by n) ps) zero_is (kept.points by s ps (to_rows by s ps refl e))) in
            let size : length (owners q) ≡ place = ap (λ (i : ℕ). length (owners i)) same ∙ sym here in
            subst IsStrictlyIncreasing (sym (split ∙ ap (λ (ys : List ℕ). places_in q xs ++ ys) one))
            (rises_on place 1 (places_in q xs) rises (subst (λ (n : ℕ). AllBelow n (places_in q xs)) size below))
        | inr other ↦
            subst IsStrictlyIncreasing (sym (split ∙ ap (λ (ys : List ℕ). places_in q xs ++ ys) (places_other q p place [] other) ∙ append-nil (places_in q xs))) rises
      ]

  order_on : (b q : ℕ) → IsStrictlyIncreasing (places_in q (all_rows (rows1 b)))
  order_on b q =
      elim (same_or_not b by) [
        | inl same ↦
            let was : IsStrictlyIncreasing (places_in q (all_rows (before ++ points ∷ []))) =
            subst (λ (xs : List (List Point)). IsStrictlyIncreasing (places_in q (all_rows xs))) (put_same ledger by (before ++ points ∷ []) b same) (kept.order b q) in
            let one : all_rows (before ++ (points ++ point ∷ []) ∷ []) ≡ all_rows (before ++ points ∷ []) ++ point ∷ [] =
            last_row before (points ++ point ∷ []) ∙ sym (append_assoc (all_rows before) points (point ∷ [])) ∙ ap (λ (ps : List Point). ps ++ point ∷ []) (sym (last_row before points)) in
            subst (λ (xs : List (List Point)). IsStrictlyIncreasing (places_in q (all_rows xs))) (sym (put_same ledger by (before ++ (points ++ point ∷ []) ∷ []) b same))
            (subst (λ (ps : List Point). IsStrictlyIncreasing (places_in q ps)) (sym one) (rises_there q was))
        | inr other ↦ subst (λ (xs : List (List Point)). IsStrictlyIncreasing (places_in q (all_rows xs))) (sym (others_same b other)) (kept.order b q)
      ]

  pub kept_entry : IsKept owners1 (put ledger by (before ++ (points ++ record { part = p; place = place } ∷ []) ∷ []))
  kept_entry = record {
    left = λ q k b s e. elim (was_or_new owners owners1 p (the_owner by (length before)) entry elsewhere q k (the_owner b s) e) [
      | inl old ↦ old_left q k b s old
      | inr new ↦ new_left q k b s new.0 new.1 new.2
    ];
    points = points_owned;
    order = order_on;
  }

-- ---- a call begins

pub kept_begun : (owners : ℕ → List (Option Owner)) (ledger : ℕ → List (List Point)) (by : ℕ) → IsKept owners ledger → IsKept owners (put ledger by (ledger by ++ [] ∷ []))
kept_begun owners ledger by kept = record {
  left = λ q k b s e.
      let found = kept.left q k b s e in
      (found.0, there b s found.0 found.1, found.2);
  points = λ b s ps e. elim (same_or_not b by) [
    | inl same ↦ elim (push_get (ledger by) [] ps s (sym (ap (λ (xs : List (List Point)). slice_get xs s) (put_same ledger by (ledger by ++ [] ∷ []) b same)) ∙ e)) [
      | inl front ↦ kept.points b s ps (ap (λ (i : ℕ). slice_get (ledger i) s) same ∙ front)
      | inr last ↦ subst (AllByRecursion (IsOwned owners b s)) (sym last.1) tt
    ]
    | inr other ↦ kept.points b s ps (sym (ap (λ (xs : List (List Point)). slice_get xs s) (put_other ledger by (ledger by ++ [] ∷ []) b other)) ∙ e)
  ];
  order = λ b q. elim (same_or_not b by) [
    | inl same ↦
        let is : all_rows (ledger b) ≡ all_rows (put ledger by (ledger by ++ [] ∷ []) b) =
        ap (λ (i : ℕ). all_rows (ledger i)) same ∙ sym (append-nil (all_rows (ledger by))) ∙ sym (last_row (ledger by) []) ∙ sym (ap (λ (xs : List (List Point)). all_rows xs) (put_same ledger by (ledger by ++ [] ∷ []) b same)) in
        subst (λ (ps : List Point). IsStrictlyIncreasing (places_in q ps)) is (kept.order b q)
    | inr other ↦ subst (λ (xs : List (List Point)). IsStrictlyIncreasing (places_in q (all_rows xs))) (sym (put_other ledger by (ledger by ++ [] ∷ []) b other)) (kept.order b q)
  ];
}
  where
    there : (b s : ℕ) (ps : List Point) → slice_get (ledger b) s ≡ Some ps → slice_get (put ledger by (ledger by ++ [] ∷ []) b) s ≡ Some ps
    there b s ps e =
        elim (same_or_not b by) [
          | inl same ↦
              ap (λ (xs : List (List Point)). slice_get xs s) (put_same ledger by (ledger by ++ [] ∷ []) b same)
              ∙ get_front (ledger by) ([] ∷ []) s ps (sym (ap (λ (i : ℕ). slice_get (ledger i) s) same) ∙ e)
          | inr other ↦ ap (λ (xs : List (List Point)). slice_get xs s) (put_other ledger by (ledger by ++ [] ∷ []) b other) ∙ e
        ]

-- the same of tables that are alike
pub kept_alike : (owners : ℕ → List (Option Owner)) (ledger ledger1 : ℕ → List (List Point)) → ((s : ℕ) → ledger1 s ≡ ledger s) → IsKept owners ledger → IsKept owners ledger1
kept_alike owners ledger ledger1 same kept = record {
  left = λ p k by seq e.
      let found = kept.left p k by seq e in
      (found.0, ap (λ (xs : List (List Point)). slice_get xs seq) (same by) ∙ found.1, found.2);
  points = λ by seq ps e. kept.points by seq ps (sym (ap (λ (xs : List (List Point)). slice_get xs seq) (same by)) ∙ e);
  order = λ by p. subst (λ (xs : List (List Point)). IsStrictlyIncreasing (places_in p (all_rows xs))) (sym (same by)) (kept.order by p);
}
