-- What is kept of all followers, as their history grows by one entry.
use Rattle.std.proofs.Common.{◌≡◌, ◌≢◌, ℕ, suc, ◌+◌, ◌==◌, ◌<◌, ◌≤◌, Bool, true, false, cond, min, List, [], ◌∷◌, ◌++◌, length, map, filter, fold, get_or, set, arith, refl, ap, sym, ◌∙◌, get_or-set_same, get_or-set_other, length-set, inl, inr}
use Rattle.std.specs.List.{range_with_len}
use Rattle.std.proofs.lemmas.Bool.Decides.{eqb_tells}
use Rattle.std.proofs.lemmas.List.{ext_get_or}
use Rattle.std.proofs.lemmas.List.FromFn.{get_or-map-range_with_len, length-map-range_with_len}
use Rattle.partlog.specs.declared.in_sync.standing.Standing.{Standing}
use Rattle.partlog.specs.in_sync.ReplicaEvent.{ReplicaEvent, Appended, Fetched, Left}
use Rattle.partlog.specs.in_sync.LogEnd.{log_end_of}
use Rattle.partlog.specs.in_sync.Position.{position_of}
use Rattle.partlog.specs.in_sync.InSync.{in_sync_of, high_watermark_of}
use Rattle.partlog.specs.in_sync.Lagging.{IsFollower}
use Rattle.partlog.specs.in_sync.Standings.{Standings, standing_of, standings_of}
use Rattle.partlog.specs.in_sync.Steps.{least_of, after_fetch, is_late, first_late}
use Rattle.partlog.proofs.in_sync.Growing.{standing-appended, standing-fetched, standing-left, end-appended, end-fetched, end-left}

-- of those in sync, counted and with their positions
module _ (followers : ℕ) (events : List ReplicaEvent) where
  abbrev each : ℕ → Standing
  each replica = standing_of followers events replica

  pub positions_in_sync : (rs : List ℕ) → map (λ (s : Standing). s.position) (filter (λ (s : Standing). s.in_sync) (map each rs)) ≡ map (position_of events) (filter (in_sync_of followers events) rs)
  positions_in_sync [] = refl
  positions_in_sync (r ∷ rs) = either (in_sync_of followers events r) (positions_in_sync rs)
    where
      either : (b : Bool) → map (λ (s : Standing). s.position) (filter (λ (s : Standing). s.in_sync) (map each rs)) ≡ map (position_of events) (filter (in_sync_of followers events) rs) → map (λ (s : Standing). s.position) (cond b (each r ∷ filter (λ (s : Standing). s.in_sync) (map each rs)) (filter (λ (s : Standing). s.in_sync) (map each rs))) ≡ map (position_of events) (cond b (r ∷ filter (in_sync_of followers events) rs) (filter (in_sync_of followers events) rs))
      either true rest = ap (λ (ps : List ℕ). position_of events r ∷ ps) rest
      either false rest = rest

  pub counted : (rs : List ℕ) → length (filter (λ (s : Standing). s.in_sync) (map each rs)) ≡ length (filter (in_sync_of followers events) rs)
  counted [] = refl
  counted (r ∷ rs) = either (in_sync_of followers events r) (counted rs)
    where
      either : (b : Bool) → length (filter (λ (s : Standing). s.in_sync) (map each rs)) ≡ length (filter (in_sync_of followers events) rs) → length (cond b (each r ∷ filter (λ (s : Standing). s.in_sync) (map each rs)) (filter (λ (s : Standing). s.in_sync) (map each rs))) ≡ length (cond b (r ∷ filter (in_sync_of followers events) rs) (filter (in_sync_of followers events) rs))
      either true rest = ap suc rest
      either false rest = rest

  -- what is kept is the whole of it, where the standings are those of the history
  pub gathered : (log_end high : ℕ) (standings : List Standing) → log_end ≡ log_end_of events → high ≡ least_of log_end standings → standings ≡ map each (range_with_len 1 followers) → ◌≡◌ {A = Standings} (record { log_end = log_end; high_watermark = high; followers = standings }) (standings_of followers events)
  gathered log_end high standings end least all =
      let least_is : high ≡ high_watermark_of followers events =
      least ∙ ap (least_of log_end) all ∙ ap (fold min log_end) (positions_in_sync (range_with_len 1 followers)) ∙ ap (λ (n : ℕ). fold min n (map (position_of events) (filter (in_sync_of followers events) (range_with_len 1 followers)))) end in
      ap (λ (n : ℕ). record { log_end = n; high_watermark = high; followers = standings }) end
      ∙ ap (λ (n : ℕ). record { log_end = log_end_of events; high_watermark = n; followers = standings }) least_is
      ∙ ap (λ (l : List Standing). record { log_end = log_end_of events; high_watermark = high_watermark_of followers events; followers = l }) all

map_same : (f g : ℕ → Standing) → ((r : ℕ) → f r ≡ g r) → (rs : List ℕ) → map f rs ≡ map g rs
map_same f g same [] = refl
map_same f g same (r ∷ rs) = ap (λ (s : Standing). s ∷ map f rs) (same r) ∙ ap (λ (l : List Standing). g r ∷ l) (map_same f g same rs)

-- where one of the followers has another standing, its place in the list is written
module _ (f g : ℕ → Standing) (followers at replica : ℕ) (v d : Standing) (is : replica ≡ at + 1) (there : at < followers) (new : g replica ≡ v) (others : (r : ℕ) → r ≢ replica → g r ≡ f r) where
  abbrev before : List Standing
  before = map f (range_with_len 1 followers)

  abbrev after : List Standing
  after = map g (range_with_len 1 followers)

  same_length : length after ≡ length (set before at v)
  same_length = length-map-range_with_len g 1 followers ∙ sym (length-set before at v ∙ length-map-range_with_len f 1 followers)

  at_each : (i : ℕ) → i < length after → get_or after i d ≡ get_or (set before at v) i d
  at_each i within =
      let lt : i < followers = omega (arith, within, length-map-range_with_len g 1 followers) in
      elim (eqb_tells i at) [
        | inl same ↦
            get_or-map-range_with_len g 1 followers i replica d lt (omega (arith, is, same.1))
            ∙ new
            ∙ sym (get_or-set_same before at v d (omega (arith, there, length-map-range_with_len f 1 followers)))
            ∙ ap (λ k. get_or (set before at v) k d) (sym same.1)
        | inr apart ↦
            get_or-map-range_with_len g 1 followers i (i + 1) d lt (omega arith)
            ∙ others (i + 1) (λ e. apart.1 (omega (arith, e, is)))
            ∙ sym (get_or-map-range_with_len f 1 followers i (i + 1) d lt (omega arith))
            ∙ sym (get_or-set_other before at i v d apart.1)
      ]

  written : set before at v ≡ after
  written = sym (ext_get_or d after (set before at v) same_length at_each)

-- where none of the followers has another standing
none_written : (f g : ℕ → Standing) (followers replica : ℕ) (d : Standing) → (IsFollower replica followers → ⊥) → ((r : ℕ) → r ≢ replica → g r ≡ f r) → map f (range_with_len 1 followers) ≡ map g (range_with_len 1 followers)
none_written f g followers replica d none others =
    ext_get_or d (map f (range_with_len 1 followers)) (map g (range_with_len 1 followers)) (length-map-range_with_len f 1 followers ∙ sym (length-map-range_with_len g 1 followers)) (λ i within.
    let lt : i < followers = omega (arith, within, length-map-range_with_len f 1 followers) in
    get_or-map-range_with_len f 1 followers i (i + 1) d lt (omega arith)
    ∙ sym (others (i + 1) (λ e. none (omega (arith, e), omega (arith, e, lt))))
    ∙ sym (get_or-map-range_with_len g 1 followers i (i + 1) d lt (omega arith)))

-- a test of two numbers that differ, or don't
pub tested : (a b : ℕ) → a ≡ b → (a == b) ≡ true
tested a b same = elim (eqb_tells a b) [ inl is ↦ is.0 | inr not_so ↦ absurd (not_so.1 same) ]

pub untested : (a b : ℕ) → b ≢ a → (a == b) ≡ false
untested a b apart = elim (eqb_tells a b) [ inl is ↦ absurd (apart (sym is.1)) | inr not_so ↦ not_so.0 ]

pub fold-min-le : (a : ℕ) (xs : List ℕ) → fold min a xs ≤ a
fold-min-le a [] = omega arith
fold-min-le a (x ∷ xs) = omega (arith, fold-min-le (min a x) xs)

-- what is kept, where it stands for a history, and what a call makes of it
module _ (followers : ℕ) (events : List ReplicaEvent) (log_end high : ℕ) (standings : List Standing) (stands : ◌≡◌ {A = Standings} (record { log_end = log_end; high_watermark = high; followers = standings }) (standings_of followers events)) where
  abbrev now : ℕ → Standing
  now = standing_of followers events

  end_is : log_end ≡ log_end_of events
  end_is = ap (λ (s : Standings). s.log_end) stands

  high_is : high ≡ high_watermark_of followers events
  high_is = ap (λ (s : Standings). s.high_watermark) stands

  each_is : standings ≡ map now (range_with_len 1 followers)
  each_is = ap (λ (s : Standings). s.followers) stands

  as_many : length standings ≡ followers
  as_many = ap length each_is ∙ length-map-range_with_len now 1 followers

  pub kept-appended : (count added new_high : ℕ) → added ≡ count → new_high ≡ least_of (log_end + added) standings → ◌≡◌ {A = Standings} (record { log_end = log_end + added; high_watermark = new_high; followers = standings }) (standings_of followers (events ++ Appended count ∷ []))
  kept-appended count added new_high same least =
      gathered followers (events ++ Appended count ∷ []) (log_end + added) new_high standings (omega (arith, same, end_is, end-appended events count)) least
      (each_is ∙ map_same now (standing_of followers (events ++ Appended count ∷ [])) (λ r. sym (standing-appended followers events r count)) (range_with_len 1 followers))

  module _ (at replica : ℕ) (is : replica ≡ at + 1) (there : at < length standings) (v new : Standing) (there_is : v ≡ get_or standings at v) where
    there_now : v ≡ now replica
    there_now = there_is ∙ ap (λ l. get_or l at v) each_is ∙ get_or-map-range_with_len now 1 followers at replica v (omega (arith, there, as_many)) (omega (arith, is))

    replaced : (then : ℕ → Standing) → then replica ≡ new → ((r : ℕ) → r ≢ replica → then r ≡ now r) → set standings at new ≡ map then (range_with_len 1 followers)
    replaced then moved others = ap (λ l. set l at new) each_is ∙ written now then followers at replica new v is (omega (arith, there, as_many)) moved others

    pub kept-fetched : (offset t new_high : ℕ) → new ≡ after_fetch v log_end high offset t → new_high ≡ least_of log_end (set standings at new) → ◌≡◌ {A = Standings} (record { log_end = log_end; high_watermark = new_high; followers = set standings at new }) (standings_of followers (events ++ Fetched replica offset t ∷ []))
    kept-fetched offset t new_high new_is least =
        let step : Standing → Standing = λ s. after_fetch s (log_end_of events) (high_watermark_of followers events) offset t in
        let then : ℕ → Standing = standing_of followers (events ++ Fetched replica offset t ∷ []) in
        let moved : then replica ≡ new =
        standing-fetched followers events replica offset t replica ∙ ap (λ b. cond b (step (now replica)) (now replica)) (tested replica replica refl)
        ∙ sym (new_is ∙ ap (λ (n : ℕ). after_fetch v n high offset t) end_is ∙ ap (λ (n : ℕ). after_fetch v (log_end_of events) n offset t) high_is ∙ ap step there_now) in
        gathered followers (events ++ Fetched replica offset t ∷ []) log_end new_high (set standings at new) (end_is ∙ end-fetched events replica offset t) least
        (replaced then moved (λ r apart. standing-fetched followers events r offset t replica ∙ ap (λ b. cond b (step (now r)) (now r)) (untested replica r apart)))

    pub kept-left : (t new_high : ℕ) → new ≡ record v { in_sync = false } → new_high ≡ least_of log_end (set standings at new) → ◌≡◌ {A = Standings} (record { log_end = log_end; high_watermark = new_high; followers = set standings at new }) (standings_of followers (events ++ Left replica t ∷ []))
    kept-left t new_high new_is least =
        let step : Standing → Standing = λ s. record s { in_sync = false } in
        let then : ℕ → Standing = standing_of followers (events ++ Left replica t ∷ []) in
        let moved : then replica ≡ new =
        standing-left followers events replica replica t ∙ ap (λ b. cond b (step (now replica)) (now replica)) (tested replica replica refl)
        ∙ sym (new_is ∙ ap step there_now) in
        gathered followers (events ++ Left replica t ∷ []) log_end new_high (set standings at new) (end_is ∙ end-left events replica t) least
        (replaced then moved (λ r apart. standing-left followers events r replica t ∙ ap (λ b. cond b (step (now r)) (now r)) (untested replica r apart)))

    pub kept-is_late : (t : ℕ) → is_late log_end t v ≡ is_late (log_end_of events) t (now replica)
    kept-is_late t = ap (λ (n : ℕ). is_late n t v) end_is ∙ ap (is_late (log_end_of events) t) there_now

  -- one that is no follower
  pub kept-left-none : (replica t : ℕ) → (IsFollower replica (length standings) → ⊥) → ◌≡◌ {A = Standings} (record { log_end = log_end; high_watermark = high; followers = standings }) (standings_of followers (events ++ Left replica t ∷ []))
  kept-left-none replica t none =
      let then : ℕ → Standing = standing_of followers (events ++ Left replica t ∷ []) in
      let least : high ≡ least_of log_end standings =
      high_is ∙ sym (ap (least_of log_end) each_is ∙ ap (fold min log_end) (positions_in_sync followers events (range_with_len 1 followers)) ∙ ap (λ (n : ℕ). fold min n (map (position_of events) (filter (in_sync_of followers events) (range_with_len 1 followers)))) end_is) in
      gathered followers (events ++ Left replica t ∷ []) log_end high standings (end_is ∙ end-left events replica t) least
      (each_is ∙ none_written now then followers replica (now 0) (λ is. none (is.0, omega (arith, is.1, as_many)))
      (λ r apart. standing-left followers events r replica t ∙ ap (λ b. cond b (record (now r) { in_sync = false }) (now r)) (untested replica r apart)))

  pub kept-count : length (filter (λ (s : Standing). s.in_sync) standings) ≡ length (filter (in_sync_of followers events) (range_with_len 1 followers))
  kept-count = ap (λ (l : List Standing). length (filter (λ (s : Standing). s.in_sync) l)) each_is ∙ counted followers events (range_with_len 1 followers)

  pub kept-length : length standings ≡ followers
  kept-length = as_many

  pub kept-late : (t : ℕ) → first_late log_end t 1 standings ≡ first_late (log_end_of events) t 1 (map now (range_with_len 1 followers))
  kept-late t = ap (λ (n : ℕ). first_late n t 1 standings) end_is ∙ ap (first_late (log_end_of events) t 1) each_is

-- before the first entry
pub fresh : (followers : ℕ) (standings : List Standing) → standings ≡ map (standing_of followers []) (range_with_len 1 followers) → ◌≡◌ {A = Standings} (record { log_end = 0; high_watermark = 0; followers = standings }) (standings_of followers [])
fresh followers standings all =
    gathered followers [] 0 0 standings refl (omega (arith, least_at_most 0 standings)) all
  where
    least_at_most : (n : ℕ) (l : List Standing) → least_of n l ≤ n
    least_at_most n l = fold-min-le n (map (λ (s : Standing). s.position) (filter (λ (s : Standing). s.in_sync) l))
