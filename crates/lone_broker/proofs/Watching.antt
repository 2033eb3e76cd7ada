-- Who waits isn't answerable unless it is a suspect: how that stays so, as one session acts or is answered and as the clock goes on.
use Rattle.std.proofs.Common.{◌≡◌, ◌≢◌, ◌⊎◌, ◌↔◌, ℕ, zero, suc, ◌/◌, ◌<◌, ◌≤◌, Bool, true, false, cond, not, ◌&&◌, List, [], ◌∷◌, length, map, All, Option, Some, None, refl, sym, ap, subst, ◌∙◌, arith, inl, inr}
use Rattle.std.proofs.lemmas.Bool.{cases_lt}
use Rattle.std.proofs.lemmas.Bool.Decides.{leb_tells}
use Rattle.std.specs.Prelude.{is_some, nat_le, slice_get, unwrap_or}
use Rattle.std.specs.List.{AllByRecursion}
use Rattle.partlog.specs.Gauges.{numbers_of}
use Rattle.partlog.specs.History.{History}
use Rattle.partlog.specs.Moment.{moment_of as clock_moment}
use Rattle.partlog.specs.State.{state_of}
use Rattle.partlog.specs.declared.numbers.Numbers.{Numbers}
use Rattle.opcond.specs.Operation.{Operation}
use Rattle.opcond.specs.Tally.{tally}
use Rattle.opcond.specs.declared.need.Need.{Need}
use Rattle.kanswer.specs.Reached.{gauge_in}
use Rattle.kbytes.proofs.Laws.{same_or_not, some_is}
use Rattle.audit.specs.declared.account.CallHow.TheVariants.{Expired, Satisfied}
use Rattle.lone_broker.specs.index.Index.{ComesBy, Index, IsSuspect, coming_of, last_of, moment_of}
use Rattle.lone_broker.specs.index.Sessions.{Has}
use Rattle.lone_broker.specs.index.Waiting.{WaitsNoMore, WaitsOn, WatchesOn}
use Rattle.audit.specs.broker.Acting.{can_act, has_work}
use Rattle.audit.specs.broker.Board.{Board, Seat, empty_seat, history_at, next_call, seat_at, transcript_at}
use Rattle.audit.specs.broker.Completing.{is_overdue_now, is_satisfied_now}
use Rattle.lone_broker.specs.Desks.{next_of}
use Rattle.lone_broker.specs.Kept.{Kept, StandsFor, Stands, parked_at, waiting_in, with_waiting}
use Rattle.audit.specs.broker.Board.{gauge_now}
use Rattle.lone_broker.specs.Looks.{HasGauge, due_in}
use Rattle.lone_broker.specs.Steps.{AnyLeft, IsActed, IsAlone, IsFreed, IsLeft, IsReseated, IsTicked, is_ready, last_points, operation_at, operation_in}
use Rattle.lone_broker.specs.Telling.{AreToldOf}
use Rattle.lone_broker.specs.Watching.{AreTold, AreWatched, IsIndexed, IsQuiet, IsShort, IsTaken, IsWatched, MayWait, WaitsBy, told_value}
use Rattle.lone_broker.specs.declared.parked.Parked.{Parked}
use Rattle.lone_broker.specs.declared.watched.Watched.{Watched}
use Rattle.lone_broker.proofs.Completes.{overdue_as, satisfied_as}
use Rattle.lone_broker.proofs.Dues.{as_many_parts, count_of, due_at, frame_at, gauges_there, is_there, nobody_there}
use Rattle.lone_broker.proofs.Standing.{by_waiting}
use Rattle.lone_broker.proofs.Turning.{acts_as_shown}

-- ---- what was told

told_is : (told : List Numbers) (parts : List History) → AreTold told parts → (needs : List Need) → map (λ (need : Need). told_value told need.gauge) needs ≡ map (gauge_now parts) needs
told_is told parts t [] = refl
told_is told parts t (need ∷ needs) =
    ap (λ (n : Numbers). gauge_in need.gauge n ∷ map (λ (x : Need). told_value told x.gauge) needs) (t.each (need.gauge / 3))
    ∙ ap (λ (vs : List ℕ). gauge_now parts need ∷ vs) (told_is told parts t needs)

-- every state is as it was
pub still_told : (told : List Numbers) (before after : List History) → length after ≡ length before → ((part : ℕ) → state_of (history_at after part) ≡ state_of (history_at before part)) → AreTold told before → AreTold told after
still_told told before after size states t = record { size = t.size ∙ sym size; each = λ part. t.each part ∙ ap numbers_of (sym (states part)) }

-- ---- who isn't answerable isn't due

neither_is : (a b : Bool) → cond a (Some (Satisfied 0)) (cond b (Some (Expired 0)) None) ≡ None → (a ≡ false) × (b ≡ false)
neither_is true b e = absurd cc
neither_is false true e = absurd cc
neither_is false false e = (refl, refl)

not_le : (a b : ℕ) → nat_le a b ≡ false → b < a
not_le a b never = elim (leb_tells a b) [
  | inl le ↦ let other : true ≡ false = sym le.0 ∙ never in absurd cc
  | inr lt ↦ lt.1
]

le_not : (a b : ℕ) → b < a → nat_le a b ≡ false
le_not a b lt = elim (leb_tells a b) [
  | inl le ↦ absurd (omega (arith, lt, le.1))
  | inr never ↦ never.0
]

module _ (kept : Kept) (told : List Numbers) (session : ℕ) (t : AreTold told kept.board.parts) where
  undue_as : (o : Option Parked) → parked_at kept session ≡ o → IsQuiet told (clock_moment kept.board.clock) o → (board : Board) → StandsFor kept board → due_in board (waiting_in board.waiting session) ≡ None
  undue_as None slot quiet = λ board stands. ap (due_in board) (nobody_there kept session slot board stands)
  undue_as (Some parked) slot quiet =
      by_waiting (λ board. due_in board (waiting_in board.waiting session) ≡ None) kept (λ waiting are.
      let w = is_there kept waiting session parked are slot in
      let board = with_waiting kept waiting in
      let short : tally parked.op.needs (map (gauge_now kept.board.parts) parked.op.needs) < parked.op.least =
      subst (λ (vs : List ℕ). tally parked.op.needs vs < parked.op.least) (told_is told kept.board.parts t parked.op.needs) quiet.unreached in
      let sat : is_satisfied_now board w.w ≡ false = satisfied_as board (count_of kept) (frame_at kept session) parked w.w w.kept_of ∙ le_not _ _ short in
      let over : is_overdue_now board w.w ≡ false = overdue_as board (count_of kept) (frame_at kept session) parked w.w w.kept_of ∙ le_not _ _ quiet.early in
      ap (due_in board) w.found ∙ due_at board w.w false false sat over)

  pub undue : IsQuiet told (clock_moment kept.board.clock) (parked_at kept session) → (board : Board) → StandsFor kept board → due_in board (waiting_in board.waiting session) ≡ None
  undue quiet = undue_as (parked_at kept session) refl quiet

  quiet_as : (o : Option Parked) → parked_at kept session ≡ o → Stands kept → ((board : Board) → StandsFor kept board → None ≡ due_in board (waiting_in board.waiting session)) → IsQuiet told (clock_moment kept.board.clock) o
  quiet_as None slot stands due = tt
  quiet_as (Some parked) slot stands due =
      by_waiting (λ board. None ≡ due_in board (waiting_in board.waiting session) → IsShort told (clock_moment kept.board.clock) parked.op) kept (λ waiting are none.
      let w = is_there kept waiting session parked are slot in
      let board = with_waiting kept waiting in
      let both = neither_is (is_satisfied_now board w.w) (is_overdue_now board w.w) (sym (ap (due_in board) w.found) ∙ sym none) in
      let short = not_le _ _ (sym (satisfied_as board (count_of kept) (frame_at kept session) parked w.w w.kept_of) ∙ both.0) in
      record {
        unreached = subst (λ (vs : List ℕ). tally parked.op.needs vs < parked.op.least) (sym (told_is told kept.board.parts t parked.op.needs)) short;
        early = not_le _ _ (sym (overdue_as board (count_of kept) (frame_at kept session) parked w.w w.kept_of) ∙ both.1);
      }) stands.0 stands.1 (due stands.0 stands.1)

  pub undue_quiet : Stands kept → ((board : Board) → StandsFor kept board → None ≡ due_in board (waiting_in board.waiting session)) → IsQuiet told (clock_moment kept.board.clock) (parked_at kept session)
  undue_quiet stands due = quiet_as (parked_at kept session) refl stands due

-- ---- which sessions can act

pub can_as_ready : (kept : Kept) (s : ℕ) → (board : Board) → StandsFor kept board → can_act board s ≡ is_ready kept s
can_as_ready kept s = by_waiting (λ board. can_act board s ≡ is_ready kept s) kept (λ waiting are. acts_as_shown kept waiting s are)

none_there : (o : Option Parked) (works : Bool) → (not (is_some o) && works) ≡ true → o ≡ None
none_there None works e = refl
none_there (Some p) works e = absurd cc

pub ready_idle : (kept : Kept) (s : ℕ) → is_ready kept s ≡ true → parked_at kept s ≡ None
ready_idle kept s e = none_there (parked_at kept s) (has_work (seat_at kept.board s)) e

pub not_true : (b : Bool) → ¬ (b ≡ true) → b ≡ false
not_true true never = absurd (never refl)
not_true false never = refl

ready_same : (before after : Kept) (s : ℕ) → seat_at after.board s ≡ seat_at before.board s → parked_at after s ≡ parked_at before s → is_ready after s ≡ is_ready before s
ready_same before after s seat slot =
    ap (λ (x : Seat). not (is_some (parked_at after s)) && has_work x) seat ∙ ap (λ (o : Option Parked). not (is_some o) && has_work (seat_at before.board s)) slot

-- a set of sessions is that of those that can act
abbrev pub IsReadySet : ℕ → Kept → Type 0
IsReadySet set kept = (s : ℕ) → s < 64 → Has set s ↔ (is_ready kept s ≡ true)

pub ready_on : (session : ℕ) (before after : Kept) (set next : ℕ) → IsAlone session before after → IsReadySet set before → (Has next session ↔ (is_ready after session ≡ true)) → ((s : ℕ) → s ≢ session → Has next s ↔ Has set s) → IsReadySet next after
ready_on session before after set next alone ready own others s there = elim (same_or_not s session) [
  | inl same ↦ subst (λ (k : ℕ). Has next k ↔ (is_ready after k ≡ true)) (sym same) own
  | inr other ↦
      let as_before = ready_same before after s (alone.seats s other) (alone.parked s other) in
      (λ has. as_before ∙ (ready s there).0 ((others s other).0 has), λ is. (others s other).1 ((ready s there).1 (sym as_before ∙ is)))
]

-- ---- the index goes on

pub indexed_on : (before after : Index) (s : ℕ) (o : Option Parked) → WaitsOn before after s → moment_of after ≡ moment_of before → IsIndexed before s o → IsIndexed after s o
indexed_on before after s None on moment i = record { gauges = λ g waits. i.gauges g ((on.watches.gauges g).0 waits); coming = on.coming ∙ i.coming }
indexed_on before after s (Some parked) on moment i = record {
  gauges = λ g. (λ waits. (i.gauges g).0 ((on.watches.gauges g).0 waits), λ names. (on.watches.gauges g).1 ((i.gauges g).1 names));
  coming = λ early. on.coming ∙ i.coming (subst (λ (m : ℕ). m < parked.op.deadline) moment early);
}

-- a suspect was looked at, and isn't answerable
pub cleared_watched : (w : Watched) (next : Index) (session : ℕ) → IsWatched w → ((board : Board) → StandsFor w.engine board → None ≡ due_in board (waiting_in board.waiting session))
    → ((other : ℕ) → IsSuspect next other ↔ (IsSuspect w.waiters other × (other ≢ session))) → ((other : ℕ) → WaitsOn w.waiters next other) → moment_of next ≡ moment_of w.waiters
    → IsWatched (record w { waiters = next })
cleared_watched w next session h due suspects on moment =
    let quiet_here : IsQuiet w.told (clock_moment w.engine.board.clock) (parked_at w.engine session) = undue_quiet w.engine w.told session h.told h.stands due in
    record {
      stands = h.stands;
      told = h.told;
      moment = moment ∙ h.moment;
      waits = record {
        indexed = λ s. indexed_on w.waiters next s (parked_at w.engine s) (on s) moment (h.waits.indexed s);
        quiet = λ s never. elim (same_or_not s session) [
          | inl same ↦ subst (λ (k : ℕ). IsQuiet w.told (moment_of next) (parked_at w.engine k)) (sym same) (subst (λ (m : ℕ). IsQuiet w.told m (parked_at w.engine session)) (sym (moment ∙ h.moment)) quiet_here)
          | inr other ↦ subst (λ (m : ℕ). IsQuiet w.told m (parked_at w.engine s)) (sym moment) (h.waits.quiet s (λ was. never ((suspects s).1 (was, other))))
        ];
      };
      generations = λ s. omega (arith, (on s).watches.last, h.generations s);
      ready = h.ready;
    }

-- a session was answered
pub freed_watched : (w : Watched) (engine : Kept) (next : Index) (set session : ℕ) → IsWatched w → Stands engine → IsFreed session w.engine engine
    → WaitsNoMore w.waiters next session → ((other : ℕ) → other ≢ session → WaitsOn w.waiters next other) → ((other : ℕ) → IsSuspect next other ↔ (IsSuspect w.waiters other × (other ≢ session))) → moment_of next ≡ moment_of w.waiters
    → (Has set session ↔ (is_ready engine session ≡ true)) → ((s : ℕ) → s ≢ session → Has set s ↔ Has w.ready s)
    → IsWatched (record { engine = engine; told = w.told; waiters = next; ready = set })
freed_watched w engine next set session h stands freed done on suspects moment own others = record {
  stands = stands;
  told = still_told w.told w.engine.board.parts engine.board.parts freed.size freed.states h.told;
  moment = moment ∙ h.moment ∙ sym freed.alone.moment;
  waits = record {
    indexed = λ s. elim (same_or_not s session) [
      | inl same ↦ subst (λ (k : ℕ). IsIndexed next k (parked_at engine k)) (sym same) (subst (IsIndexed next session) (sym freed.free) (record { gauges = done.gauges; coming = done.coming }))
      | inr other ↦ subst (IsIndexed next s) (sym (freed.alone.parked s other)) (indexed_on w.waiters next s (parked_at w.engine s) (on s other) moment (h.waits.indexed s))
    ];
    quiet = λ s never. elim (same_or_not s session) [
      | inl same ↦ subst (λ (k : ℕ). IsQuiet w.told (moment_of next) (parked_at engine k)) (sym same) (subst (IsQuiet w.told (moment_of next)) (sym freed.free) tt)
      | inr other ↦ subst (IsQuiet w.told (moment_of next)) (sym (freed.alone.parked s other))
          (subst (λ (m : ℕ). IsQuiet w.told m (parked_at w.engine s)) (sym moment) (h.waits.quiet s (λ was. never ((suspects s).1 (was, other)))))
    ];
  };
  generations = λ s. elim (same_or_not s session) [
    | inl same ↦ subst (λ (k : ℕ). last_of next k ≤ next_call engine.board k) (sym same) (omega (arith, done.last, h.generations session, freed.alone.calls session))
    | inr other ↦ omega (arith, (on s other).watches.last, h.generations s, freed.alone.calls s)
  ];
  ready = ready_on session w.engine engine w.ready set freed.alone h.ready own others;
}

-- ---- a session acted

still_early : (m d : ℕ) → ¬ (d ≤ m) → m < d
still_early m d never = elim (cases_lt m d) [
  | inl lt ↦ lt
  | inr come ↦ absurd (never come)
]

-- its gauges are those of 64 partitions at most
pub few_parts : (kept : Kept) → Stands kept → length kept.board.parts ≤ 64
few_parts kept stands = omega (arith, as_many_parts kept stands.0.waiting stands.1.kept_of, stands.1.kept_of.declared.few)

all_few : (n : ℕ) → n ≤ 64 → (needs : List Need) → AllByRecursion (HasGauge n) needs → All (λ need. need.gauge < 192) needs
all_few n few [] all i d lt = absurd (omega (arith, lt))
all_few n few (need ∷ needs) all zero d lt = omega (arith, few, all.0)
all_few n few (need ∷ needs) all (suc i) d lt = all_few n few needs all.1 i d (omega (arith, lt))

pub few_gauges : (kept : Kept) (session : ℕ) (op : Operation) → Stands kept → operation_at kept session ≡ Some op → All (λ need. need.gauge < 192) op.needs
few_gauges kept session op stands is = by_slot (parked_at kept session) refl is
  where
    by_slot : (o : Option Parked) → parked_at kept session ≡ o → operation_in o ≡ Some op → All (λ need. need.gauge < 192) op.needs
    by_slot None slot none = absurd cc
    by_slot (Some parked) slot some =
        subst (λ (o : Operation). All (λ need. need.gauge < 192) o.needs) (some_is parked.op op some)
        (all_few (length kept.board.parts) (few_parts kept stands) parked.op.needs (gauges_there kept session parked kept.board.parts stands slot refl))

pub few_told : (w : Watched) → IsWatched w → length w.told ≤ 64
few_told w h = omega (arith, h.told.size, few_parts w.engine h.stands)

-- it may wait from now on
pub may_wait : (before after : Kept) (index : Index) (session : ℕ) → moment_of index ≡ clock_moment after.board.clock → last_of index session ≤ next_call before.board session → AnyLeft session before after (parked_at after session)
    → MayWait session (next_call after.board session) index (operation_at after session)
may_wait before after index session moment last left = by_slot (parked_at after session) left
  where
    by_slot : (o : Option Parked) → AnyLeft session before after o → MayWait session (next_call after.board session) index (operation_in o)
    by_slot None left = tt
    by_slot (Some parked) left = (omega (arith, last, left.counted), omega (arith, moment, left.near))

-- those who wait were told what changed
pub acted_told : (before after : Kept) (session : ℕ) (told later : List Numbers) → AreTold told before.board.parts → IsActed session before after
    → AreToldOf after.board.parts (last_points (transcript_at after.board session).calls) told later → AreTold later after.board.parts
acted_told before after session told later t acted of = record {
  size = of.size ∙ t.size ∙ sym acted.size;
  each = λ part. elim (acted.asked part) [
    | inl same ↦ elim (of.still part) [
      | inl was ↦ was ∙ t.each part ∙ ap (λ (h : History). numbers_of (state_of h)) (sym same)
      | inr now ↦ now
    ]
    | inr has ↦ of.said part has
  ];
}

module _ (w : Watched) (engine : Kept) (told : List Numbers) (first next : Index) (session : ℕ) (h : IsWatched w) (acted : IsActed session w.engine engine) (idle : parked_at w.engine session ≡ None) (are : AreTold told engine.board.parts)
    (watched : AreWatched first told (parked_at w.engine)) (at : moment_of first ≡ clock_moment engine.board.clock) (moment : moment_of next ≡ moment_of first) where
  taken_indexed : (generation : ℕ) (o : Option Parked) → parked_at engine session ≡ o → IsTaken session generation first next (operation_in o) → IsIndexed next session (parked_at engine session)
  taken_indexed generation None slot same =
      subst (IsIndexed next session) (sym slot) (subst (λ (i : Index). IsIndexed i session None) (sym same) (subst (IsIndexed first session) idle (watched.indexed session)))
  taken_indexed generation (Some parked) slot taken =
      let by : WaitsBy next session parked.op = record { gauges = taken.0.gauges; coming = taken.0.coming } in
      subst (IsIndexed next session) (sym slot) by

  taken_quiet : (generation : ℕ) (o : Option Parked) → parked_at engine session ≡ o → IsTaken session generation first next (operation_in o) → ¬ IsSuspect next session → IsQuiet told (moment_of next) (parked_at engine session)
  taken_quiet generation None slot same never = subst (IsQuiet told (moment_of next)) (sym slot) tt
  taken_quiet generation (Some parked) slot taken never =
      let left : IsLeft session w.engine engine parked = subst (AnyLeft session w.engine engine) slot acted.left in
      let short : IsShort told (moment_of next) parked.op = record {
        unreached = subst (λ (vs : List ℕ). tally parked.op.needs vs < parked.op.least) (sym (told_is told engine.board.parts are parked.op.needs)) left.unreached;
        early = subst (λ (m : ℕ). m < parked.op.deadline) (sym moment) (still_early (moment_of first) parked.op.deadline (λ come. never (taken.1.1 come)));
      } in
      subst (IsQuiet told (moment_of next)) (sym slot) short

  pub acted_waits : (generation : ℕ) → IsTaken session generation first next (operation_at engine session) → ((other : ℕ) → other ≢ session → WaitsOn first next other)
      → ((other : ℕ) → other ≢ session → IsSuspect next other ↔ IsSuspect first other) → AreWatched next told (parked_at engine)
  acted_waits generation taken on suspects = record {
    indexed = λ s. elim (same_or_not s session) [
      | inl same ↦ subst (λ (k : ℕ). IsIndexed next k (parked_at engine k)) (sym same) (taken_indexed generation (parked_at engine session) refl taken)
      | inr other ↦ subst (IsIndexed next s) (sym (acted.alone.parked s other)) (indexed_on first next s (parked_at w.engine s) (on s other) moment (watched.indexed s))
    ];
    quiet = λ s never. elim (same_or_not s session) [
      | inl same ↦ subst (λ (k : ℕ). IsQuiet told (moment_of next) (parked_at engine k)) (sym same) (taken_quiet generation (parked_at engine session) refl taken (subst (λ (k : ℕ). ¬ IsSuspect next k) same never))
      | inr other ↦ subst (IsQuiet told (moment_of next)) (sym (acted.alone.parked s other))
          (subst (λ (m : ℕ). IsQuiet told m (parked_at w.engine s)) (sym moment) (watched.quiet s (λ was. never ((suspects s other).1 was))))
    ];
  }

  pub acted_watched : (generation set : ℕ) → Stands engine → IsTaken session generation first next (operation_at engine session) → generation ≡ next_call engine.board session → ((other : ℕ) → other ≢ session → WaitsOn first next other)
      → ((other : ℕ) → other ≢ session → IsSuspect next other ↔ IsSuspect first other) → ((s : ℕ) → last_of first s ≡ last_of w.waiters s)
      → (Has set session ↔ (is_ready engine session ≡ true)) → ((s : ℕ) → s ≢ session → Has set s ↔ Has w.ready s)
      → IsWatched (record { engine = engine; told = told; waiters = next; ready = set })
  acted_watched generation set stands taken by_call on suspects last own others = record {
    stands = stands;
    told = are;
    moment = moment ∙ at;
    waits = acted_waits generation taken on suspects;
    generations = λ s. elim (same_or_not s session) [
      | inl same ↦ subst (λ (k : ℕ). last_of next k ≤ next_call engine.board k) (sym same) (by_slot (operation_at engine session) taken)
      | inr other ↦ omega (arith, (on s other).watches.last, last s, h.generations s, acted.alone.calls s)
    ];
    ready = ready_on session w.engine engine w.ready set acted.alone h.ready own others;
  }
    where
      by_slot : (o : Option Operation) → IsTaken session generation first next o → last_of next session ≤ next_call engine.board session
      by_slot None same = subst (λ (i : Index). last_of i session ≤ next_call engine.board session) (sym same) (omega (arith, last session, h.generations session, acted.alone.calls session))
      by_slot (Some op) taken = omega (arith, taken.0.last, by_call)

-- ---- what a line brings

-- the same is kept of each request that waits
same_waits : (index : Index) (told : List Numbers) (parked other : ℕ → Option Parked) → ((s : ℕ) → other s ≡ parked s) → AreWatched index told parked → AreWatched index told other
same_waits index told parked other same h = record {
  indexed = λ s. subst (IsIndexed index s) (sym (same s)) (h.indexed s);
  quiet = λ s never. subst (IsQuiet told (moment_of index)) (sym (same s)) (h.quiet s never);
}

pub reseated_watched : (w : Watched) (engine : Kept) (set session : ℕ) → IsWatched w → Stands engine → IsReseated session w.engine engine
    → (Has set session ↔ (is_ready engine session ≡ true)) → ((s : ℕ) → s ≢ session → Has set s ↔ Has w.ready s)
    → IsWatched (record { engine = engine; told = w.told; waiters = w.waiters; ready = set })
reseated_watched w engine set session h stands r own others =
    let slots : (s : ℕ) → parked_at engine s ≡ parked_at w.engine s = λ s. elim (same_or_not s session) [
      | inl same ↦ subst (λ (k : ℕ). parked_at engine k ≡ parked_at w.engine k) (sym same) r.slot
      | inr other ↦ r.alone.parked s other
    ] in
    record {
      stands = stands;
      told = subst (AreTold w.told) (sym r.parts) h.told;
      moment = h.moment ∙ sym r.alone.moment;
      waits = same_waits w.waiters w.told (parked_at w.engine) (parked_at engine) slots h.waits;
      generations = λ s. omega (arith, h.generations s, r.alone.calls s);
      ready = ready_on session w.engine engine w.ready set r.alone h.ready own others;
    }

-- the clock's moment is later
ticked_indexed : (before after : Index) (t s : ℕ) (o : Option Parked) → moment_of before ≤ t → moment_of after ≡ t → WatchesOn before after s
    → ((deadline : ℕ) → (coming_of after s ≡ Some deadline) ↔ ((coming_of before s ≡ Some deadline) × (t < deadline))) → IsIndexed before s o → IsIndexed after s o
ticked_indexed before after t s None later at on coming i = record { gauges = λ g waits. i.gauges g ((on.gauges g).0 waits); coming = by_coming (coming_of after s) refl }
  where
    by_coming : (o : Option ℕ) → coming_of after s ≡ o → coming_of after s ≡ None
    by_coming None is = is
    by_coming (Some d) is = absurd (let was : Some d ≡ None = sym ((coming d).0 is).0 ∙ i.coming in cc)
ticked_indexed before after t s (Some parked) later at on coming i = record {
  gauges = λ g. (λ waits. (i.gauges g).0 ((on.gauges g).0 waits), λ names. (on.gauges g).1 ((i.gauges g).1 names));
  coming = λ early. let past : t < parked.op.deadline = omega (arith, at, early) in (coming parked.op.deadline).1 (i.coming (omega (arith, later, past)), past);
}

ticked_quiet : (told : List Numbers) (before after : Index) (t s : ℕ) (o : Option Parked) → moment_of before ≤ t → moment_of after ≡ t → IsIndexed before s o → ¬ ComesBy t before s → IsQuiet told (moment_of before) o → IsQuiet told (moment_of after) o
ticked_quiet told before after t s None later at i never quiet = tt
ticked_quiet told before after t s (Some parked) later at i never quiet = record {
  unreached = quiet.unreached;
  early = subst (λ (m : ℕ). m < parked.op.deadline) (sym at) (still_early t parked.op.deadline (λ come. never (parked.op.deadline, i.coming quiet.early, come)));
}

-- the index was told which gauges rose as followers left, and then the moment
pub ticked_watched : (w : Watched) (engine : Kept) (told : List Numbers) (first next : Index) (t : ℕ) → IsWatched w → Stands engine → IsTicked w.engine engine → AreTold told engine.board.parts → AreWatched first told (parked_at w.engine)
    → moment_of first ≡ moment_of w.waiters → ((s : ℕ) → last_of first s ≡ last_of w.waiters s) → t ≡ clock_moment engine.board.clock → moment_of next ≡ t
    → ((s : ℕ) → IsSuspect next s ↔ (IsSuspect first s ⊎ ComesBy t first s)) → ((s : ℕ) → WatchesOn first next s)
    → ((s deadline : ℕ) → (coming_of next s ≡ Some deadline) ↔ ((coming_of first s ≡ Some deadline) × (t < deadline)))
    → IsWatched (record { engine = engine; told = told; waiters = next; ready = w.ready })
ticked_watched w engine told first next t h stands ticked are watched same last now at suspects on coming =
    let later : moment_of first ≤ t = omega (arith, same, h.moment, ticked.later, now) in
    let slots : (s : ℕ) → parked_at engine s ≡ parked_at w.engine s = λ s. ap (λ (slots : List (Option Parked)). unwrap_or (slice_get slots s) None) ticked.parked in
    let seats : (s : ℕ) → seat_at engine.board s ≡ seat_at w.engine.board s = λ s. ap (λ (seats : List Seat). unwrap_or (slice_get seats s) empty_seat) ticked.seats in
    record {
      stands = stands;
      told = are;
      moment = at ∙ now;
      waits = same_waits next told (parked_at w.engine) (parked_at engine) slots (record {
        indexed = λ s. ticked_indexed first next t s (parked_at w.engine s) later at (on s) (coming s) (watched.indexed s);
        quiet = λ s never. ticked_quiet told first next t s (parked_at w.engine s) later at (watched.indexed s) (λ comes. never ((suspects s).1 (inr comes))) (watched.quiet s (λ was. never ((suspects s).1 (inl was))));
      });
      generations = λ s. subst (λ (x : Seat). last_of next s ≤ next_of s x) (sym (seats s)) (omega (arith, (on s).last, last s, h.generations s));
      ready = λ s there.
          let same = ready_same w.engine engine s (seats s) (slots s) in
          (λ has. same ∙ (h.ready s there).0 has, λ is. (h.ready s there).1 (sym same ∙ is));
    }
