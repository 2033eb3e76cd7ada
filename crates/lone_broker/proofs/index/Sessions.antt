-- What a call of the index leaves of each session.
use Rattle.std.proofs.Common.{◌≡◌, ◌≢◌, ℕ, ◌<◌, ◌≤◌, ◌↔◌, ◌⊎◌, inl, inr, ⊎_elim, List, Option, Some, None, get_or, set, replicate, option_map, sym, ap, ◌∙◌, refl, subst, arith, length-set, get_or-set_same, get_or-set_other}
use Rattle.std.proofs.lemmas.Bool.{cases_eq, cases_lt}
use Rattle.std.proofs.lemmas.List.{get_or-replicate, get_or_past, length-replicate}
use Rattle.watch_lists.specs.Watches.{Watches}
use Rattle.timing_wheel.specs.declared.timer.Timer.{Timer}
use Rattle.timing_wheel.specs.DueList.{DueList}
use Rattle.timing_wheel.specs.Timers.{Timers, deadline_of, ids_of, with_entry}
use Rattle.opcond.specs.declared.need.Need.{Need}
use Rattle.opcond.specs.Operation.{Operation}
use Rattle.lone_broker.specs.index.Index.{Index, IsWatching}
use Rattle.lone_broker.specs.index.Kept.{IsIndex}
use Rattle.lone_broker.specs.index.Waiting.{IsIdle, Names, WaitsNoMore, WaitsOn, WaitsWith, WatchesOn}
use Rattle.lone_broker.proofs.index.Deadlines.{IsInserted, deadline_same, deadline_other, ids_same}

abbrev pub index_of : List Watches → Timers → List ℕ → List ℕ → ℕ → Index
index_of shards timers live last suspects = record { shards = shards; timers = timers; live = live; last = last; suspects = suspects }

-- the same is watched, by watchers of which none at the present generations went and none came
pub watches_on : (shards shards' : List Watches) (timers timers' : Timers) (live last : List ℕ) (suspects suspects' : ℕ)
    → ((gauge id n : ℕ) → IsWatching shards' gauge id n → IsWatching shards gauge id n)
    → ((gauge id : ℕ) → IsWatching shards gauge id (get_or live id 0) → IsWatching shards' gauge id (get_or live id 0))
    → (session : ℕ) → WatchesOn (index_of shards timers live last suspects) (index_of shards' timers' live last suspects') session
watches_on shards shards' timers timers' live last suspects suspects' fewer kept session = record {
  generation = refl;
  last = refl;
  gauges = λ gauge. (fewer gauge session (get_or live session 0), kept gauge session);
}

pub waits_on : (shards shards' : List Watches) (timers : Timers) (live last : List ℕ) (suspects suspects' : ℕ)
    → ((gauge id n : ℕ) → IsWatching shards' gauge id n → IsWatching shards gauge id n)
    → ((gauge id : ℕ) → IsWatching shards gauge id (get_or live id 0) → IsWatching shards' gauge id (get_or live id 0))
    → (session : ℕ) → WaitsOn (index_of shards timers live last suspects) (index_of shards' timers live last suspects') session
waits_on shards shards' timers live last suspects suspects' fewer kept session = record {
  watches = watches_on shards shards' timers timers live last suspects suspects' fewer kept session;
  coming = refl;
}

-- fewer watchers are numbered as before
pub kept_by_fewer : (shards shards' : List Watches) (timers : Timers) (due : DueList) (live last : List ℕ) → IsIndex shards timers due live last
    → ((gauge id n : ℕ) → IsWatching shards' gauge id n → IsWatching shards gauge id n) → IsIndex shards' timers due live last
kept_by_fewer shards shards' timers due live last is fewer = record {
  live_each = is.live_each;
  last_each = is.last_each;
  timer_each = is.timer_each;
  none_due = is.none_due;
  room = is.room;
  listed = λ gauge id n h. is.listed gauge id n (fewer gauge id n h);
}

-- a session begins to wait
module _ (shards shards' : List Watches) (timers timers' : Timers) (due : DueList) (live last : List ℕ) (suspects suspects' session generation deadline : ℕ) (needs : List Need)
    (is : IsIndex shards timers due live last) (within : session < 64) (later : get_or last session 0 < generation)
    (listed : (gauge id : ℕ) → let n = get_or (set live session generation) id 0 in
    IsWatching shards' gauge id n ↔ (IsWatching shards gauge id n ⊎ (Names needs gauge × (id ≡ session))))
    (only : (gauge id n : ℕ) → IsWatching shards' gauge id n
    → IsWatching shards gauge id n ⊎ ((id ≡ session) × (n ≡ get_or (set live session generation) session 0)))
    (wheels : IsInserted timers timers' session deadline) where
  abbrev live' : List ℕ
  live' = set live session generation

  abbrev last' : List ℕ
  last' = set last session generation

  live_now : get_or live' session 0 ≡ generation
  live_now = let long = is.live_each in get_or-set_same live session generation 0 (omega arith)

  last_now : get_or last' session 0 ≡ generation
  last_now = let long = is.last_each in get_or-set_same last session generation 0 (omega arith)

  -- nobody watched with this generation before
  fresh : (gauge : ℕ) → ¬ IsWatching shards gauge session (get_or live' session 0)
  fresh gauge h = let low = is.listed gauge session (get_or live' session 0) h in let now = live_now in let most = low.1 in omega arith

  coming_now : deadline_of timers' session ≡ deadline_of (with_entry timers session wheels.slot) session
  coming_now = ap (λ (t : Timers). deadline_of t session) wheels.changed

  moment_now : timers'.moment ≡ timers.moment
  moment_now = ap (λ (t : Timers). t.moment) wheels.changed

  inside : session < ids_of timers
  inside = let many = is.timer_each in omega arith

  pub begins_waiting : (op : Operation) → op.needs ≡ needs → op.deadline ≡ deadline → WaitsWith (index_of shards' timers' live' last' suspects') session generation op
  begins_waiting op same_needs same_deadline =
      let moment = moment_now in
      record {
        generation = live_now;
        last = last_now;
        gauges = λ gauge.
            subst (λ (ns : List Need). IsWatching shards' gauge session (get_or live' session 0) ↔ Names ns gauge) (sym same_needs) (
              (λ (h : IsWatching shards' gauge session (get_or live' session 0)).
                  ⊎_elim
                  (λ (old : IsWatching shards gauge session (get_or live' session 0)). absurd (fresh gauge old))
                  (λ (new : Names needs gauge × (session ≡ session)). new.0)
                  ((listed gauge session).0 h)),
              (λ (h : Names needs gauge). (listed gauge session).1 (inr (h, refl))),
            );
        coming = λ ahead. coming_now ∙ deadline_same timers session wheels.slot inside ∙ wheels.ahead (omega arith) ∙ ap Some (sym same_deadline);
        come = λ past. coming_now ∙ deadline_same timers session wheels.slot inside ∙ ap (λ (slot : Option Timer). option_map (λ entry. entry.deadline) slot) (wheels.come (omega arith));
      }

  pub others_wait_on : (other : ℕ) → other ≢ session → WaitsOn (index_of shards timers live last suspects) (index_of shards' timers' live' last' suspects') other
  others_wait_on other differs =
      let same : get_or live' other 0 ≡ get_or live other 0 = get_or-set_other live session other generation 0 differs in
      record {
        watches = record {
          generation = same;
          last = get_or-set_other last session other generation 0 differs;
          gauges = λ gauge.
              subst (λ (n : ℕ). IsWatching shards' gauge other (get_or live' other 0) ↔ IsWatching shards gauge other n) same (
                (λ (h : IsWatching shards' gauge other (get_or live' other 0)).
                    ⊎_elim
                    (λ (old : IsWatching shards gauge other (get_or live' other 0)). old)
                    (λ (new : Names needs gauge × (other ≡ session)). absurd (differs new.1))
                    ((listed gauge other).0 h)),
                (λ (h : IsWatching shards gauge other (get_or live' other 0)). (listed gauge other).1 (inl h)),
              );
        };
        coming = ap (λ (t : Timers). deadline_of t other) wheels.changed ∙ deadline_other timers session wheels.slot other differs;
      }

  pub kept_when_begun : IsIndex shards' timers' due live' last'
  kept_when_begun = record {
    live_each = length-set live session generation ∙ is.live_each;
    last_each = length-set last session generation ∙ is.last_each;
    timer_each = ap (λ (t : Timers). ids_of t) wheels.changed ∙ ids_same timers session wheels.slot ∙ is.timer_each;
    none_due = is.none_due;
    room = is.room;
    listed = λ gauge id n h.
        ⊎_elim
        (λ (old : IsWatching shards gauge id n).
        let before = is.listed gauge id n old in
        let low = before.0 in
        let most = before.1 in
        ⊎_elim
        (λ (same : id ≡ session).
        let a : get_or last id 0 ≡ get_or last session 0 = ap (λ i. get_or last i 0) same in
        let b : get_or last' id 0 ≡ get_or last' session 0 = ap (λ i. get_or last' i 0) same in
        let now = last_now in
        (low, omega arith))
        (λ (differs : id ≢ session). let stays = get_or-set_other last session id generation 0 differs in (low, omega arith))
        (cases_eq id session))
        (λ (new : (id ≡ session) × (n ≡ get_or live' session 0)).
        let is_it = new.1 in
        let live_is = live_now in
        let b : get_or last' id 0 ≡ get_or last' session 0 = ap (λ i. get_or last' i 0) new.0 in
        let now = last_now in
        (omega arith, omega arith))
        (only gauge id n h);
  }

-- a session waits no more
module _ (shards : List Watches) (timers : Timers) (due : DueList) (live last : List ℕ) (suspects suspects' session : ℕ)
    (is : IsIndex shards timers due live last) (within : session < 64) where
  abbrev gone : Timers
  gone = with_entry timers session None

  live_none : get_or (set live session 0) session 0 ≡ 0
  live_none = let long = is.live_each in get_or-set_same live session 0 0 (omega arith)

  pub ends_waiting : WaitsNoMore (index_of shards timers live last suspects) (index_of shards gone (set live session 0) last suspects') session
  ends_waiting = record {
    generation = live_none;
    last = refl;
    gauges = λ gauge h. let low = (is.listed gauge session (get_or (set live session 0) session 0) h).0 in let none = live_none in omega arith;
    coming = deadline_same timers session None (let many = is.timer_each in omega arith);
  }

  pub others_stay : (other : ℕ) → other ≢ session → WaitsOn (index_of shards timers live last suspects) (index_of shards gone (set live session 0) last suspects') other
  others_stay other differs =
      let same : get_or (set live session 0) other 0 ≡ get_or live other 0 = get_or-set_other live session other 0 0 differs in
      record {
        watches = record {
          generation = same;
          last = refl;
          gauges = λ gauge. subst (λ (n : ℕ). IsWatching shards gauge other (get_or (set live session 0) other 0) ↔ IsWatching shards gauge other n) same ((λ h. h), (λ h. h));
        };
        coming = deadline_other timers session None other differs;
      }

  pub kept_when_ended : IsIndex shards gone due (set live session 0) last
  kept_when_ended = record {
    live_each = length-set live session 0 ∙ is.live_each;
    last_each = is.last_each;
    timer_each = ids_same timers session None ∙ is.timer_each;
    none_due = is.none_due;
    room = is.room;
    listed = is.listed;
  }

-- nobody waits yet
all_default : {A : Type 0} (n i : ℕ) (d : A) → get_or (replicate n d) i d ≡ d
all_default n i d =
    ⊎_elim
    (λ (l : i < n). get_or-replicate n i d d l)
    (λ (l : n ≤ i). get_or_past (replicate n d) i d (rw length-replicate l))
    (cases_lt i n)

pub idle : (shards : List Watches) (timers : Timers) (suspects : ℕ) → ((gauge session generation : ℕ) → ¬ IsWatching shards gauge session generation)
    → timers ≡ record { moment = 0; slots = replicate 64 None } → IsIdle (index_of shards timers (replicate 64 0) (replicate 64 0) suspects)
idle shards timers suspects nobody is = record {
  generation = λ session. all_default 64 session 0;
  last = λ session. all_default 64 session 0;
  gauges = λ session gauge. nobody gauge session (get_or (replicate 64 0) session 0);
  coming = λ session. ap (λ (t : Timers). deadline_of t session) is ∙ ap (λ (slot : Option Timer). option_map (λ entry. entry.deadline) slot) (all_default 64 session None);
  moment = ap (λ (t : Timers). t.moment) is;
}
