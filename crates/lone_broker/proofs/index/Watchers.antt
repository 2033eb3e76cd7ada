-- Watchers at the present generations, when one is listed, and in a walk.
use Rattle.std.proofs.Common.{◌≡◌, ◌≢◌, ℕ, ◌+◌, ◌-◌, ◌<◌, ◌↔◌, ◌⊎◌, inl, inr, ⊎_elim, List, Some, Bool, true, false, not, eqb, eqb-true, eq-eqb, filter, length, get_or, sym, ap, ◌∙◌, refl, subst, arith}
use Rattle.std.specs.List.{slice_get}
use Rattle.std.proofs.lemmas.Bool.{and_from, and_parts, cases_Bool, cases_eq}
use Rattle.std.proofs.lemmas.Option.{slice_get_within}
use Rattle.watch_lists.specs.declared.watch.Watch.{Watch}
use Rattle.watch_lists.specs.Watches.{Watches, IsListed, is_of}
use Rattle.lone_broker.specs.index.Sessions.{Has}
use Rattle.lone_broker.specs.index.Shelved.{row_at}
use Rattle.lone_broker.proofs.index.Prefixes.{first_stay, fewer_left}

-- a key and an id are these, or not both
both_or_not : (k key id session : ℕ) → ((k ≡ key) × (id ≡ session)) ⊎ (k ≡ key → id ≢ session)
both_or_not k key id session =
    ⊎_elim
    (λ (same : k ≡ key).
    ⊎_elim
    (λ (is : id ≡ session). let r : ((k ≡ key) × (id ≡ session)) ⊎ (k ≡ key → id ≢ session) = inl (same, is) in r)
    (λ (other : id ≢ session). let r : ((k ≡ key) × (id ≡ session)) ⊎ (k ≡ key → id ≢ session) = inr (λ (_ : k ≡ key). other) in r)
    (cases_eq id session))
    (λ (other : k ≢ key). let r : ((k ≡ key) × (id ≡ session)) ⊎ (k ≡ key → id ≢ session) = inr (λ (e : k ≡ key). absurd (other e)) in r)
    (cases_eq k key)

-- an id is listed in a shard that was purged before or not
module _ (old mid new : Watches) (key session : ℕ) (live : List ℕ)
    (fewer : (k id n : ℕ) → IsListed mid k id n → IsListed old k id n)
    (kept : (k id : ℕ) → IsListed old k id (get_or live id 0) → IsListed mid k id (get_or live id 0))
    (one : (n : ℕ) → IsListed new key session n ↔ (n ≡ get_or live session 0))
    (others : (k id n : ℕ) → (k ≡ key → id ≢ session) → IsListed new k id n ↔ IsListed mid k id n) where
  it : IsListed new key session (get_or live session 0)
  it = (one (get_or live session 0)).1 refl

  pub listed_in : (k id : ℕ) → IsListed new k id (get_or live id 0) ↔ (IsListed old k id (get_or live id 0) ⊎ ((k ≡ key) × (id ≡ session)))
  listed_in k id =
      let n : ℕ = get_or live id 0 in
      ⊎_elim
      (λ (e : (k ≡ key) × (id ≡ session)). (
        (λ (h : IsListed new k id n). let r : IsListed old k id n ⊎ ((k ≡ key) × (id ≡ session)) = inr e in r),
        (λ (h : IsListed old k id n ⊎ ((k ≡ key) × (id ≡ session))).
            subst (λ (a : ℕ). IsListed new a id (get_or live id 0)) (sym e.0) (subst (λ (b : ℕ). IsListed new key b (get_or live b 0)) (sym e.1) it)),
      ))
      (λ (apart : k ≡ key → id ≢ session).
      let stays = others k id n apart in (
        (λ (h : IsListed new k id n). let r : IsListed old k id n ⊎ ((k ≡ key) × (id ≡ session)) = inl (fewer k id n (stays.0 h)) in r),
        (λ (h : IsListed old k id n ⊎ ((k ≡ key) × (id ≡ session))).
            ⊎_elim
            (λ (o : IsListed old k id n). stays.1 (kept k id o))
            (λ (e : (k ≡ key) × (id ≡ session)). absurd (apart e.0 e.1))
            h),
      ))
      (both_or_not k key id session)

  pub only_in : (k id n : ℕ) → IsListed new k id n → IsListed old k id n ⊎ ((id ≡ session) × (n ≡ get_or live session 0))
  only_in k id n h =
      ⊎_elim
      (λ (e : (k ≡ key) × (id ≡ session)).
      let here : IsListed new key session n = subst (λ (b : ℕ). IsListed new key b n) e.1 (subst (λ (a : ℕ). IsListed new a id n) e.0 h) in
      let r : IsListed old k id n ⊎ ((id ≡ session) × (n ≡ get_or live session 0)) = inr (e.1, (one n).0 here) in r)
      (λ (apart : k ≡ key → id ≢ session).
      let r : IsListed old k id n ⊎ ((id ≡ session) × (n ≡ get_or live session 0)) = inl (fewer k id n ((others k id n apart).0 h)) in r)
      (both_or_not k key id session)

-- the first `at` watchers of a gauge are in the set, each with its present generation
abbrev pub ArePassed : List Watches → List ℕ → ℕ → ℕ → ℕ → Type 0
ArePassed shards live gauge found at = (k : ℕ) (w : Watch) → k < at → slice_get (row_at shards gauge) k ≡ Some w → Has found w.id × (w.generation ≡ get_or live w.id 0)

-- one more watcher is passed
pub passed_more : (shards : List Watches) (live : List ℕ) (gauge found found' at : ℕ) (watch : Watch) → ArePassed shards live gauge found at
    → Some watch ≡ slice_get (row_at shards gauge) at → watch.generation ≡ get_or live watch.id 0
    → ((id : ℕ) → Has found' id ↔ (Has found id ⊎ (id ≡ watch.id))) → ArePassed shards live gauge found' (at + 1)
passed_more shards live gauge found found' at watch passed place is more k w l here =
    ⊎_elim
    (λ (same : k ≡ at).
    let it : w ≡ watch = let at_place : slice_get (row_at shards gauge) at ≡ Some w = subst (λ (i : ℕ). slice_get (row_at shards gauge) i ≡ Some w) same here in cc in (
      (more w.id).1 (inr (ap (λ (v : Watch). v.id) it)),
      ap (λ (v : Watch). v.generation) it ∙ is ∙ ap (λ (v : Watch). get_or live v.id 0) (sym it),
    ))
    (λ (other : k ≢ at). let before = passed k w (omega arith) here in ((more w.id).1 (inl before.0), before.1))
    (cases_eq k at)

-- the test by which a stale watcher goes
abbrev pub stays : Watch → Watch → Bool
stays stale w = not (is_of stale.id stale.generation w)

goes_itself : (stale : Watch) → stays stale stale ≡ false
goes_itself stale = ap not (and_from (eqb stale.id stale.id) (eqb stale.generation stale.generation) (eq-eqb stale.id stale.id refl) (eq-eqb stale.generation stale.generation refl))

live_stays : (live : List ℕ) (stale w : Watch) → get_or live stale.id 0 ≢ stale.generation → w.generation ≡ get_or live w.id 0 → stays stale w ≡ true
live_stays live stale w is_stale is =
    ⊎_elim
    (λ (same : is_of stale.id stale.generation w ≡ true).
    let parts = and_parts (eqb w.id stale.id) (eqb w.generation stale.generation) same in
    let id = eqb-true w.id stale.id parts.0 in
    let generation = eqb-true w.generation stale.generation parts.1 in
    absurd (is_stale (ap (λ (i : ℕ). get_or live i 0) (sym id) ∙ sym is ∙ generation)))
    (λ (other : is_of stale.id stale.generation w ≡ false). ap not other)
    (cases_Bool (is_of stale.id stale.generation w))

-- a stale watcher goes, and those that were passed stay in their places
pub passed_stay : (shards shards' : List Watches) (live : List ℕ) (gauge found at : ℕ) (stale : Watch) → ArePassed shards live gauge found at
    → get_or live stale.id 0 ≢ stale.generation → row_at shards' gauge ≡ filter (stays stale) (row_at shards gauge) → ArePassed shards' live gauge found at
passed_stay shards shards' live gauge found at stale passed is_stale row k w l here =
    let same = first_stay (stays stale) (row_at shards gauge) at k (λ i v m is. live_stays live stale v is_stale (passed i v m is).1) l in
    passed k w l (sym same ∙ ap (λ (r : List Watch). slice_get r k) (sym row) ∙ here)

-- how many watchers are left to pass
abbrev pub left : List Watches → ℕ → ℕ → ℕ
left shards gauge at = length (row_at shards gauge) - at

pub left_by_one : (shards : List Watches) (gauge at : ℕ) (watch : Watch) → Some watch ≡ slice_get (row_at shards gauge) at → left shards gauge (at + 1) < left shards gauge at
left_by_one shards gauge at watch place =
    let l = slice_get_within (row_at shards gauge) at watch (sym place) in
    omega arith

pub left_by_stale : (shards shards' : List Watches) (gauge at : ℕ) (stale : Watch) → Some stale ≡ slice_get (row_at shards gauge) at
    → row_at shards' gauge ≡ filter (stays stale) (row_at shards gauge) → left shards' gauge at < left shards gauge at
left_by_stale shards shards' gauge at stale place row =
    let l = slice_get_within (row_at shards gauge) at stale (sym place) in
    let less = fewer_left (stays stale) (row_at shards gauge) at stale (sym place) (goes_itself stale) in
    let long : length (row_at shards' gauge) ≡ length (filter (stays stale) (row_at shards gauge)) = ap (λ (r : List Watch). length r) row in
    omega arith
