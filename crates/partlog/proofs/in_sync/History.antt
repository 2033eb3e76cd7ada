-- Who is in sync, and the high watermark, as a history grows.
use Rattle.std.proofs.Common.{◌≡◌, ◌⊎◌, ℕ, ◌+◌, ◌==◌, ◌≤◌, Bool, true, false, cond, nat_le, min, List, [], ◌∷◌, ◌++◌, length, map, filter, fold, arith, refl, ap, sym, ◌∙◌, append-nil, append_assoc, inl, inr}
use Rattle.std.specs.List.{range_with_len}
use Rattle.std.proofs.lemmas.Bool.{leb-true, le-leb, false≢true}
use Rattle.std.proofs.lemmas.List.FromFn.{length-range_with_len}
use Rattle.partlog.specs.declared.in_sync.standing.Standing.{Standing}
use Rattle.partlog.specs.in_sync.ReplicaEvent.{ReplicaEvent, Appended, Fetched, Left}
use Rattle.partlog.specs.in_sync.LogEnd.{log_end_of}
use Rattle.partlog.specs.in_sync.NobodyLeft.{NobodyLeft}
use Rattle.partlog.specs.in_sync.Position.{position_of, positions_of}
use Rattle.partlog.specs.in_sync.InSync.{in_sync_of, high_watermark_of, count_of}
use Rattle.partlog.specs.in_sync.Standings.{standing_of}
use Rattle.partlog.specs.in_sync.Steps.{after_fetch}
use Rattle.partlog.proofs.in_sync.Growing.{standing-appended, standing-fetched, standing-left, end-appended, end-fetched, end-left}
use Rattle.partlog.proofs.in_sync.Kept.{fold-min-le, tested}

pub high-within : (followers : ℕ) (events : List ReplicaEvent) → high_watermark_of followers events ≤ log_end_of events
high-within followers events = fold-min-le (log_end_of events) (map (position_of events) (filter (in_sync_of followers events) (range_with_len 1 followers)))

-- a least that each of the new ones reaches, since it was there before and no lower, or reaches it by itself
module _ (m : ℕ) (p q : ℕ → ℕ) (was is : ℕ → Bool) (reach : (r : ℕ) → is r ≡ true → ((was r ≡ true) × (p r ≤ q r)) ⊎ (m ≤ q r)) where
  first_reaches : (r a : ℕ) (rs : List ℕ) (b : Bool) → was r ≡ b → is r ≡ true → m ≤ fold min a (map p (cond b (r ∷ rs) rs)) → m ≤ q r
  first_reaches r a rs b before now least = by_either (reach r now) b before least
    where
      by_either : (((was r ≡ true) × (p r ≤ q r)) ⊎ (m ≤ q r)) → (c : Bool) → was r ≡ c → m ≤ fold min a (map p (cond c (r ∷ rs) rs)) → m ≤ q r
      by_either (inr le) c before low = le
      by_either (inl kept) true before low = omega (arith, kept.1, low, fold-min-le (min a (p r)) (map p rs))
      by_either (inl kept) false before low = absurd (false≢true (sym before ∙ kept.0))

  rest_low : (r a : ℕ) (rs : List ℕ) (b : Bool) → m ≤ fold min a (map p (cond b (r ∷ rs) rs)) → (a' : ℕ) × (m ≤ fold min a' (map p rs))
  rest_low r a rs true low = (min a (p r), low)
  rest_low r a rs false low = (a, low)

  at_least : (rs : List ℕ) (a b : ℕ) → m ≤ fold min a (map p (filter was rs)) → m ≤ b → m ≤ fold min b (map q (filter is rs))
  at_least [] a b low le = le
  at_least (r ∷ rs) a b low le =
      let rest = rest_low r a (filter was rs) (was r) low in
      choose (is r) refl (λ now. first_reaches r a (filter was rs) (was r) refl now low) (λ c below. at_least rs rest.0 c rest.1 below)
    where
      choose : (c : Bool) → is r ≡ c → (is r ≡ true → m ≤ q r) → ((d : ℕ) → m ≤ d → m ≤ fold min d (map q (filter is rs))) → m ≤ fold min b (map q (cond c (r ∷ filter is rs) (filter is rs)))
      choose true now low_here others = let here : m ≤ q r = low_here now in others (min b (q r)) (omega (arith, here, le))
      choose false now low_here others = others b le

module _ (followers : ℕ) (events : List ReplicaEvent) where
  abbrev high : ℕ
  high = high_watermark_of followers events

  -- how a replica that is in sync after one more entry came to be so
  abbrev Reaches : ReplicaEvent → ℕ → Type 0
  Reaches e r = in_sync_of followers (events ++ e ∷ []) r ≡ true → ((in_sync_of followers events r ≡ true) × (position_of events r ≤ position_of (events ++ e ∷ []) r)) ⊎ (high ≤ position_of (events ++ e ∷ []) r)

  as_before : (e : ReplicaEvent) (r : ℕ) → standing_of followers (events ++ e ∷ []) r ≡ standing_of followers events r → Reaches e r
  as_before e r same now = inl (sym (ap (λ (s : Standing). s.in_sync) same) ∙ now, omega (arith, ap (λ (s : Standing). s.position) same))

  after_left : (other t r : ℕ) (b : Bool) → standing_of followers (events ++ Left other t ∷ []) r ≡ cond b (record (standing_of followers events r) { in_sync = false }) (standing_of followers events r) → Reaches (Left other t) r
  after_left other t r true out now = absurd (false≢true (sym (ap (λ (s : Standing). s.in_sync) out) ∙ now))
  after_left other t r false same now = as_before (Left other t) r same now

  after_fetched : (other offset t r : ℕ) (b : Bool) → standing_of followers (events ++ Fetched other offset t ∷ []) r ≡ cond b (after_fetch (standing_of followers events r) (log_end_of events) high offset t) (standing_of followers events r) → Reaches (Fetched other offset t) r
  after_fetched other offset t r false same now = as_before (Fetched other offset t) r same now
  after_fetched other offset t r true moved now = came (nat_le high offset) refl
    where
      came : (c : Bool) → nat_le high offset ≡ c → ((in_sync_of followers events r ≡ true) × (position_of events r ≤ position_of (events ++ Fetched other offset t ∷ []) r)) ⊎ (high ≤ position_of (events ++ Fetched other offset t ∷ []) r)
      came true le = let far : high ≤ offset = leb-true high offset le in inr (omega (arith, far, ap (λ (s : Standing). s.position) moved))
      came false gt =
          inl (ap (λ c. cond c true (in_sync_of followers events r)) (sym gt) ∙ sym (ap (λ (s : Standing). s.in_sync) moved) ∙ now, omega (arith, ap (λ (s : Standing). s.position) moved))

  reaches : (e : ReplicaEvent) (r : ℕ) → Reaches e r
  reaches (Appended count) r = as_before (Appended count) r (standing-appended followers events r count)
  reaches (Fetched other offset t) r = after_fetched other offset t r (other == r) (standing-fetched followers events r offset t other)
  reaches (Left other t) r = after_left other t r (other == r) (standing-left followers events r other t)

  end-grows : (e : ReplicaEvent) → log_end_of events ≤ log_end_of (events ++ e ∷ [])
  end-grows (Appended count) = omega (arith, end-appended events count)
  end-grows (Fetched other offset t) = omega (arith, end-fetched events other offset t)
  end-grows (Left other t) = omega (arith, end-left events other t)

  high-grows-one : (e : ReplicaEvent) → high ≤ high_watermark_of followers (events ++ e ∷ [])
  high-grows-one e =
      at_least high (position_of events) (position_of (events ++ e ∷ [])) (in_sync_of followers events) (in_sync_of followers (events ++ e ∷ [])) (reaches e) (range_with_len 1 followers) (log_end_of events) (log_end_of (events ++ e ∷ []))
      (omega arith) (omega (arith, high-within followers events, end-grows e))

pub high-grows : (followers : ℕ) (events more : List ReplicaEvent) → high_watermark_of followers events ≤ high_watermark_of followers (events ++ more)
high-grows followers events [] = omega (arith, ap (high_watermark_of followers) (append-nil events))
high-grows followers events (e ∷ more) =
    omega (arith, high-grows-one followers events e, high-grows followers (events ++ e ∷ []) more, ap (high_watermark_of followers) (append_assoc events (e ∷ []) more))

-- ==== while nobody has left

abbrev AreAll : ℕ → List ReplicaEvent → Type 0
AreAll followers events = (r : ℕ) → in_sync_of followers events r ≡ true

fetched-all : (followers : ℕ) (events : List ReplicaEvent) (other offset t : ℕ) → AreAll followers events → AreAll followers (events ++ Fetched other offset t ∷ [])
fetched-all followers events other offset t all r = ap (λ (s : Standing). s.in_sync) (standing-fetched followers events r offset t other) ∙ either (other == r)
  where
    high_or_not : (c : Bool) → cond c true (in_sync_of followers events r) ≡ true
    high_or_not true = refl
    high_or_not false = all r

    either : (b : Bool) → (cond b (after_fetch (standing_of followers events r) (log_end_of events) (high_watermark_of followers events) offset t) (standing_of followers events r)).in_sync ≡ true
    either true = high_or_not (nat_le (high_watermark_of followers events) offset)
    either false = all r

all-after : (followers : ℕ) (events more : List ReplicaEvent) → AreAll followers events → NobodyLeft more → AreAll followers (events ++ more)
all-after followers events [] all nobody r = ap (λ l. in_sync_of followers l r) (append-nil events) ∙ all r
all-after followers events (Appended count ∷ more) all nobody r =
    ap (λ l. in_sync_of followers l r) (sym (append_assoc events (Appended count ∷ []) more))
    ∙ all-after followers (events ++ Appended count ∷ []) more (λ q. ap (λ (s : Standing). s.in_sync) (standing-appended followers events q count) ∙ all q) nobody r
all-after followers events (Fetched other offset t ∷ more) all nobody r =
    ap (λ l. in_sync_of followers l r) (sym (append_assoc events (Fetched other offset t ∷ []) more))
    ∙ all-after followers (events ++ Fetched other offset t ∷ []) more (fetched-all followers events other offset t all) nobody r
all-after followers events (Left other t ∷ more) all nobody r = absurd nobody

pub all-in-sync : (followers : ℕ) (events : List ReplicaEvent) (replica : ℕ) → NobodyLeft events → in_sync_of followers events replica ≡ true
all-in-sync followers events replica nobody = all-after followers [] events (λ r. refl) nobody replica

none_out : (test : ℕ → Bool) → ((r : ℕ) → test r ≡ true) → (rs : List ℕ) → filter test rs ≡ rs
none_out test all [] = refl
none_out test all (r ∷ rs) = ap (λ b. cond b (r ∷ filter test rs) (filter test rs)) (all r) ∙ ap (λ (l : List ℕ). r ∷ l) (none_out test all rs)

pub high-of-all : (followers : ℕ) (events : List ReplicaEvent) → NobodyLeft events → high_watermark_of followers events ≡ fold min (log_end_of events) (positions_of followers events)
high-of-all followers events nobody =
    ap (λ rs. fold min (log_end_of events) (map (position_of events) rs)) (none_out (in_sync_of followers events) (λ r. all-in-sync followers events r nobody) (range_with_len 1 followers))

pub count-of-all : (followers : ℕ) (events : List ReplicaEvent) → NobodyLeft events → count_of followers events ≡ 1 + followers
count-of-all followers events nobody =
    ap (λ (rs : List ℕ). 1 + length rs) (none_out (in_sync_of followers events) (λ r. all-in-sync followers events r nobody) (range_with_len 1 followers))
    ∙ ap (λ n. 1 + n) (length-range_with_len 1 followers)

-- ==== who is back

pub back-from : (followers : ℕ) (events : List ReplicaEvent) (replica offset t : ℕ) → high_watermark_of followers events ≤ offset → in_sync_of followers (events ++ Fetched replica offset t ∷ []) replica ≡ true
back-from followers events replica offset t far =
    let back : Standing = after_fetch (standing_of followers events replica) (log_end_of events) (high_watermark_of followers events) offset t in
    ap (λ (s : Standing). s.in_sync) (standing-fetched followers events replica offset t replica)
    ∙ ap (λ b. (cond b back (standing_of followers events replica)).in_sync) (tested replica replica refl)
    ∙ ap (λ b. cond b true (in_sync_of followers events replica)) (le-leb (high_watermark_of followers events) offset far)
