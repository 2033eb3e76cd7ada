-- The shards on the shelves, one changed.
use Rattle.std.proofs.Common.{◌≡◌, ◌≢◌, ℕ, ◌/◌, ◌%◌, ◌<◌, ◌≤◌, ◌↔◌, ◌⊎◌, inl, inr, ⊎_elim, List, [], ◌∷◌, ◌++◌, length, get_or, set, sym, ap, ◌∙◌, subst, arith, length-set, get_or-set_same, get_or-set_other}
use Rattle.std.proofs.lemmas.Bool.{cases_eq, cases_lt}
use Rattle.std.proofs.lemmas.List.{get_or_append_left, get_or_default, get_or_push, length_push}
use Rattle.watch_lists.specs.declared.watch.Watch.{Watch}
use Rattle.watch_lists.specs.Watches.{Watches, IsListed, keys_of, row_of, with_row}
use Rattle.lone_broker.specs.index.Index.{IsWatching, shard_of}
use Rattle.lone_broker.specs.index.Shelved.{AreShelved, row_at}

abbrev pub no_shard : Watches
no_shard = record { ids = 0; rows = [] }

pub AreShelved-set : (shards : List Watches) (at : ℕ) (new : Watches) → AreShelved shards → at < 16 → keys_of new ≡ 12 → new.ids ≡ 64 → AreShelved (set shards at new)
AreShelved-set shards at new are l keys ids =
    let sixteen = are.sixteen in
    record {
      sixteen = length-set shards at new ∙ are.sixteen;
      keys = λ k d m.
          ⊎_elim
          (λ (e : k ≡ at). ap (λ (n : ℕ). keys_of (get_or (set shards at new) n d)) e ∙ ap keys_of (get_or-set_same shards at new d (omega arith)) ∙ keys)
          (λ (e : k ≢ at). ap keys_of (get_or-set_other shards at k new d e) ∙ are.keys k d m)
          (cases_eq k at);
      ids = λ k d m.
          ⊎_elim
          (λ (e : k ≡ at). ap (λ (n : ℕ). (get_or (set shards at new) n d).ids) e ∙ ap (λ (w : Watches). w.ids) (get_or-set_same shards at new d (omega arith)) ∙ ids)
          (λ (e : k ≢ at). ap (λ (w : Watches). w.ids) (get_or-set_other shards at k new d e) ∙ are.ids k d m)
          (cases_eq k at);
    }

-- the shard of a gauge, by its place
pub shard_read : (shards : List Watches) (gauge : ℕ) (shard : Watches) → AreShelved shards → shard ≡ get_or shards (gauge % 16) shard → shard ≡ shard_of shards gauge
shard_read shards gauge shard are is =
    let sixteen = are.sixteen in
    is ∙ get_or_default shards (gauge % 16) shard no_shard (omega arith)

-- a shard of another
pub IsWatching-shard : (shards : List Watches) (gauge id generation : ℕ) (shard : Watches) → shard ≡ shard_of shards gauge
    → IsWatching shards gauge id generation ↔ IsListed shard (gauge / 16) id generation
unfolding IsWatching
IsWatching-shard shards gauge id generation shard is = (
  (λ h. subst (λ (w : Watches). IsListed w (gauge / 16) id generation) (sym is) h),
  (λ h. subst (λ (w : Watches). IsListed w (gauge / 16) id generation) is h),
)

pub row_at-shard : (shards : List Watches) (gauge : ℕ) (shard : Watches) → shard ≡ shard_of shards gauge → row_at shards gauge ≡ row_of shard (gauge / 16)
unfolding row_at
row_at-shard shards gauge shard is = sym (ap (λ (w : Watches). row_of w (gauge / 16)) is)

module _ (shards : List Watches) (gauge : ℕ) (are : AreShelved shards) (shard : Watches) (is : shard ≡ get_or shards (gauge % 16) shard) (new : Watches) where
  abbrev changed : List Watches
  changed = set shards (gauge % 16) new

  within : gauge % 16 < length shards
  within = let sixteen = are.sixteen in omega arith

  -- in the changed shard
  here_old : (g : ℕ) → g % 16 ≡ gauge % 16 → (id generation : ℕ) → IsWatching shards g id generation ↔ IsListed shard (g / 16) id generation
  here_old g same id generation =
      IsWatching-shard shards g id generation shard (shard_read shards gauge shard are is ∙ ap (λ k. get_or shards k no_shard) (sym same))

  here_new : (g : ℕ) → g % 16 ≡ gauge % 16 → (id generation : ℕ) → IsWatching changed g id generation ↔ IsListed new (g / 16) id generation
  here_new g same id generation =
      IsWatching-shard changed g id generation new (sym (ap (λ k. get_or changed k no_shard) same ∙ get_or-set_same shards (gauge % 16) new no_shard within))

  -- in any other
  elsewhere : (g : ℕ) → g % 16 ≢ gauge % 16 → (id generation : ℕ) → IsWatching changed g id generation ↔ IsWatching shards g id generation
  unfolding IsWatching
  elsewhere g other id generation =
      let e : shard_of changed g ≡ shard_of shards g = get_or-set_other shards (gauge % 16) (g % 16) new no_shard other in (
        (λ h. subst (λ (w : Watches). IsListed w (g / 16) id generation) e h),
        (λ h. subst (λ (w : Watches). IsListed w (g / 16) id generation) (sym e) h),
      )

  -- the gauge's row in the changed shard
  pub row_changed : row_at changed gauge ≡ row_of new (gauge / 16)
  row_changed = row_at-shard changed gauge new (sym (get_or-set_same shards (gauge % 16) new no_shard within))

  pub row_before : row_at shards gauge ≡ row_of shard (gauge / 16)
  row_before = row_at-shard shards gauge shard (shard_read shards gauge shard are is)

  -- one more is listed, at the present generations
  module _ (live : List ℕ) (session : ℕ) (listed : (k id : ℕ) → IsListed new k id (get_or live id 0) ↔ (IsListed shard k id (get_or live id 0) ⊎ ((k ≡ gauge / 16) × (id ≡ session)))) where
    pub one_more : (g id : ℕ) → IsWatching changed g id (get_or live id 0) ↔ (IsWatching shards g id (get_or live id 0) ⊎ ((g ≡ gauge) × (id ≡ session)))
    one_more g id =
        let n : ℕ = get_or live id 0 in
        ⊎_elim
        (λ (same : g % 16 ≡ gauge % 16).
        let old = here_old g same id n in
        let now = here_new g same id n in
        let step = listed (g / 16) id in (
          (λ (h : IsWatching changed g id n).
              ⊎_elim
              (λ (o : IsListed shard (g / 16) id n). let r : IsWatching shards g id n ⊎ ((g ≡ gauge) × (id ≡ session)) = inl (old.1 o) in r)
              (λ (e : (g / 16 ≡ gauge / 16) × (id ≡ session)). let key = e.0 in let r : IsWatching shards g id n ⊎ ((g ≡ gauge) × (id ≡ session)) = inr (omega arith, e.1) in r)
              (step.0 (now.0 h))),
          (λ (h : IsWatching shards g id n ⊎ ((g ≡ gauge) × (id ≡ session))).
              ⊎_elim
              (λ (o : IsWatching shards g id n). now.1 (step.1 (inl (old.0 o))))
              (λ (e : (g ≡ gauge) × (id ≡ session)). now.1 (step.1 (inr (ap (λ (m : ℕ). m / 16) e.0, e.1))))
              h),
        ))
        (λ (other : g % 16 ≢ gauge % 16).
        let stays = elsewhere g other id n in (
          (λ (h : IsWatching changed g id n). let r : IsWatching shards g id n ⊎ ((g ≡ gauge) × (id ≡ session)) = inl (stays.0 h) in r),
          (λ (h : IsWatching shards g id n ⊎ ((g ≡ gauge) × (id ≡ session))).
              ⊎_elim
              (λ (o : IsWatching shards g id n). stays.1 o)
              (λ (e : (g ≡ gauge) × (id ≡ session)). absurd (other (ap (λ (m : ℕ). m % 16) e.0)))
              h),
        ))
        (cases_eq (g % 16) (gauge % 16))

  -- who is listed was, or is the one
  pub no_other : (session generation : ℕ) → ((k id n : ℕ) → IsListed new k id n → IsListed shard k id n ⊎ ((id ≡ session) × (n ≡ generation)))
      → (g id n : ℕ) → IsWatching changed g id n → IsWatching shards g id n ⊎ ((id ≡ session) × (n ≡ generation))
  no_other session generation listed g id n h =
      ⊎_elim
      (λ (same : g % 16 ≡ gauge % 16).
      ⊎_elim
      (λ (o : IsListed shard (g / 16) id n). let r : IsWatching shards g id n ⊎ ((id ≡ session) × (n ≡ generation)) = inl ((here_old g same id n).1 o) in r)
      (λ (e : (id ≡ session) × (n ≡ generation)). let r : IsWatching shards g id n ⊎ ((id ≡ session) × (n ≡ generation)) = inr e in r)
      (listed (g / 16) id n ((here_new g same id n).0 h)))
      (λ (other : g % 16 ≢ gauge % 16). let r : IsWatching shards g id n ⊎ ((id ≡ session) × (n ≡ generation)) = inl ((elsewhere g other id n).0 h) in r)
      (cases_eq (g % 16) (gauge % 16))

  -- one is taken out
  pub one_less : (session generation : ℕ) → ((k id n : ℕ) → IsListed new k id n ↔ (IsListed shard k id n × (k ≡ gauge / 16 → id ≡ session → n ≢ generation)))
      → (g id n : ℕ) → IsWatching changed g id n ↔ (IsWatching shards g id n × (g ≡ gauge → id ≡ session → n ≢ generation))
  one_less session generation listed g id n =
      ⊎_elim
      (λ (same : g % 16 ≡ gauge % 16).
      let old = here_old g same id n in
      let now = here_new g same id n in
      let step = listed (g / 16) id n in (
        (λ (h : IsWatching changed g id n). let r = step.0 (now.0 h) in (old.1 r.0, λ (e : g ≡ gauge). r.1 (ap (λ (m : ℕ). m / 16) e))),
        (λ (h : IsWatching shards g id n × (g ≡ gauge → id ≡ session → n ≢ generation)). now.1 (step.1 (old.0 h.0, λ (e : g / 16 ≡ gauge / 16). h.1 (omega arith)))),
      ))
      (λ (other : g % 16 ≢ gauge % 16).
      let stays = elsewhere g other id n in (
        (λ (h : IsWatching changed g id n). (stays.0 h, λ (e : g ≡ gauge). absurd (other (ap (λ (m : ℕ). m % 16) e)))),
        (λ (h : IsWatching shards g id n × (g ≡ gauge → id ≡ session → n ≢ generation)). stays.1 h.0),
      ))
      (cases_eq (g % 16) (gauge % 16))

-- shards in which nothing is listed
pub record AreFresh (shards : List Watches) : Type 0 where
  pub keys : (k : ℕ) (d : Watches) → k < length shards → keys_of (get_or shards k d) ≡ 12
  pub ids : (k : ℕ) (d : Watches) → k < length shards → (get_or shards k d).ids ≡ 64
  pub none : (k : ℕ) (d : Watches) → k < length shards → (key id generation : ℕ) → ¬ IsListed (get_or shards k d) key id generation

pub fresh-none : AreFresh []
fresh-none = record {
  keys = λ k d l. absurd (omega arith);
  ids = λ k d l. absurd (omega arith);
  none = λ k d l. absurd (omega arith);
}

-- one shard more
module _ (shards : List Watches) (shard : Watches) (fresh : AreFresh shards) (keys : keys_of shard ≡ 12) (ids : shard.ids ≡ 64) (none : (key id generation : ℕ) → ¬ IsListed shard key id generation) where
  pushed : (k : ℕ) (d : Watches) → k < length (shards ++ shard ∷ []) → ((k < length shards) × (get_or (shards ++ shard ∷ []) k d ≡ get_or shards k d)) ⊎ (get_or (shards ++ shard ∷ []) k d ≡ shard)
  pushed k d l =
      let long = length_push shards shard in
      ⊎_elim
      (λ (before : k < length shards).
      let r : ((k < length shards) × (get_or (shards ++ shard ∷ []) k d ≡ get_or shards k d)) ⊎ (get_or (shards ++ shard ∷ []) k d ≡ shard) =
      inl (before, get_or_append_left shards (shard ∷ []) d k before) in r)
      (λ (after : length shards ≤ k).
      let last : length shards ≡ k = omega arith in
      let r : ((k < length shards) × (get_or (shards ++ shard ∷ []) k d ≡ get_or shards k d)) ⊎ (get_or (shards ++ shard ∷ []) k d ≡ shard) =
      inr (get_or_push shards shard d k last) in r)
      (cases_lt k (length shards))

  pub fresh-push : AreFresh (shards ++ shard ∷ [])
  fresh-push = record {
    keys = λ k d l.
        ⊎_elim
        (λ (old : (k < length shards) × (get_or (shards ++ shard ∷ []) k d ≡ get_or shards k d)). ap keys_of old.1 ∙ fresh.keys k d old.0)
        (λ (new : get_or (shards ++ shard ∷ []) k d ≡ shard). ap keys_of new ∙ keys)
        (pushed k d l);
    ids = λ k d l.
        ⊎_elim
        (λ (old : (k < length shards) × (get_or (shards ++ shard ∷ []) k d ≡ get_or shards k d)). ap (λ (w : Watches). w.ids) old.1 ∙ fresh.ids k d old.0)
        (λ (new : get_or (shards ++ shard ∷ []) k d ≡ shard). ap (λ (w : Watches). w.ids) new ∙ ids)
        (pushed k d l);
    none = λ k d l key id generation h.
        ⊎_elim
        (λ (old : (k < length shards) × (get_or (shards ++ shard ∷ []) k d ≡ get_or shards k d)). fresh.none k d old.0 key id generation (subst (λ (w : Watches). IsListed w key id generation) old.1 h))
        (λ (new : get_or (shards ++ shard ∷ []) k d ≡ shard). none key id generation (subst (λ (w : Watches). IsListed w key id generation) new h))
        (pushed k d l);
  }

pub fresh_shelved : (shards : List Watches) → AreFresh shards → length shards ≡ 16 → AreShelved shards
fresh_shelved shards fresh many = record {
  sixteen = many;
  keys = λ k d l. fresh.keys k d (omega arith);
  ids = λ k d l. fresh.ids k d (omega arith);
}

pub nobody_watches : (shards : List Watches) → AreFresh shards → length shards ≡ 16 → (gauge session generation : ℕ) → ¬ IsWatching shards gauge session generation
unfolding IsWatching
nobody_watches shards fresh many gauge session generation h = fresh.none (gauge % 16) no_shard (omega arith) (gauge / 16) session generation h

-- the watchers of a key that were replaced
pub replaced_row : (shard new : Watches) (key : ℕ) (row : List Watch) → key < keys_of shard → new ≡ with_row shard key row → row_of new key ≡ row
replaced_row shard new key row l is = ap (λ (w : Watches). row_of w key) is ∙ get_or-set_same shard.rows key row [] l

-- how many keys and ids the shard of a gauge has
pub shard_keys : (shards : List Watches) (at : ℕ) (shard : Watches) → AreShelved shards → at < 16 → shard ≡ get_or shards at shard → keys_of shard ≡ 12
shard_keys shards at shard are l is = ap keys_of is ∙ are.keys at shard l

pub shard_ids : (shards : List Watches) (at : ℕ) (shard : Watches) → AreShelved shards → at < 16 → shard ≡ get_or shards at shard → shard.ids ≡ 64
shard_ids shards at shard are l is = ap (λ (w : Watches). w.ids) is ∙ are.ids at shard l
