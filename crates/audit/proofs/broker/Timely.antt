-- What the entries of a pass have to do with the clock, as histories and the clock go on.
use Rattle.std.proofs.Common.{◌≡◌, ℕ, ◌+◌, ◌≤◌, ◌<◌, ◌⊎◌, max, ℤ, List, [], ◌∷◌, ◌++◌, length, map, set, take, drop, Contains, Option, Some, None, unwrap_or, refl, sym, ap, subst, ◌∙◌, arith, inl, inr, append-nil, length-append}
use Rattle.std.proofs.lemmas.Bool.{cases_lt}
use Rattle.std.proofs.lemmas.List.{length-map, take-append-drop, take-append-le}
use Rattle.std.proofs.lemmas.List.Elements.{Contains-append_left, Contains-append_right, Contains-push, filter_map-append}
use Rattle.std.proofs.lemmas.List.Sums.{fold-append}
use Rattle.std.proofs.lemmas.Option.{slice_get_within}
use Rattle.std.specs.Prelude.{slice_get, count_by}
use Rattle.std.specs.List.{AllByRecursion, fold, filter_map}
use Rattle.partlog.specs.declared.clock_event.ClockEvent.{ClockEvent}
use Rattle.partlog.specs.declared.clock_event.ClockEvent.TheVariants as clocks
use Rattle.partlog.specs.declared.event.PartEvent.{PartEvent}
use Rattle.partlog.specs.declared.event.PartEvent.TheVariants.{Append, Follow, Look, Shrink}
use Rattle.partlog.specs.History.{History}
use Rattle.partlog.specs.Moment.{moment_of, tick_of}
use Rattle.audit.specs.declared.account.Point.{Point}
use Rattle.audit.specs.Histories.{AreNotLater, IsToldMoment, Owner, clock_owner_of, clock_part, owner_of, ticks_of}
use Rattle.audit.specs.IsLawful.{is_point}
use Rattle.kanswer.specs.Decisions.{Entry, Put, Followed, Looked}
use Rattle.kbytes.proofs.Laws.{get_set_other, get_set_same, get_within, same_or_not}
use Rattle.audit.specs.broker.Board.{empty_history, history_at}
use Rattle.audit.specs.broker.GoesOn.{AllLonger, HaveGrown, the_owner}
use Rattle.audit.specs.broker.Kept.{IsKept, owners_at}
use Rattle.audit.proofs.broker.Growth.{event_of}
use Rattle.audit.proofs.broker.Entries.{slice_map}
use Rattle.audit.proofs.broker.Accepting.{owners_part}
use Rattle.audit.proofs.broker.Going.{grown_parts}
use Rattle.audit.proofs.broker.Ledger.{push_get, put, put_same, put_other}
pub use Rattle.audit.specs.broker.Timely.{IsTimely, events_at, pass_of}

-- ---- the clock's moment and its ticks

fold_above : (least : ℕ) (ts : List ℕ) → least ≤ fold max least ts
fold_above least [] = omega arith
fold_above least (t ∷ ts) = omega (arith, fold_above (max least t) ts)

-- it never falls
pub moment_grows : (clock more : List ClockEvent) → moment_of clock ≤ moment_of (clock ++ more)
moment_grows clock more =
    let all : moment_of (clock ++ more) ≡ fold max (moment_of clock) (filter_map tick_of more) =
    ap (fold max 0) (filter_map-append tick_of clock more) ∙ fold-append max 0 (filter_map tick_of clock) (filter_map tick_of more) in
    omega (arith, all, fold_above (moment_of clock) (filter_map tick_of more))

pub moment_before : (n : ℕ) (clock : List ClockEvent) → moment_of (take n clock) ≤ moment_of clock
moment_before n clock = subst (λ (events : List ClockEvent). moment_of (take n clock) ≤ moment_of events) (take-append-drop n clock) (moment_grows (take n clock) (drop n clock))

pub ticks_append : (clock more : List ClockEvent) → ticks_of (clock ++ more) ≡ ticks_of clock ++ ticks_of more
ticks_append [] more = refl
ticks_append (clocks.Tick t ∷ clock) more = ap (λ (ts : List ℕ). t ∷ ts) (ticks_append clock more)
ticks_append (clocks.Look by seq ∷ clock) more = ticks_append clock more

-- a moment that the clock was told stays one
pub tick_stays : (clock more : List ClockEvent) (t : ℕ) → Contains (ticks_of clock) t → Contains (ticks_of (clock ++ more)) t
tick_stays clock more t has = subst (λ (ts : List ℕ). Contains ts t) (sym (ticks_append clock more)) (Contains-append_left (ticks_of clock) (ticks_of more) t has)

pub tick_told : (clock : List ClockEvent) (t : ℕ) → Contains (ticks_of (clock ++ clocks.Tick t ∷ [])) t
tick_told clock t = subst (λ (ts : List ℕ). Contains ts t) (sym (ticks_append clock (clocks.Tick t ∷ []))) (Contains-push (ticks_of clock) t)

pub told_stays : (clock more : List ClockEvent) (t : ℕ) → IsToldMoment clock t → IsToldMoment (clock ++ more) t
told_stays clock more t (inl none) = inl none
told_stays clock more t (inr has) = inr (tick_stays clock more t has)

told_from : (least : ℕ) (clock : List ClockEvent)
    → (fold max least (filter_map tick_of clock) ≡ least) ⊎ Contains (ticks_of clock) (fold max least (filter_map tick_of clock))
told_from least [] = inl refl
told_from least (clocks.Tick t ∷ clock) =
    let all = fold max (max least t) (filter_map tick_of clock) in
    elim (told_from (max least t) clock) [
      | inl none ↦ elim (cases_lt least t) [
        | inl lt ↦
            let is : all ≡ t = none ∙ omega (arith, lt) in
            inr (subst (Contains (t ∷ ticks_of clock)) (sym is) (Contains-append_left (t ∷ []) (ticks_of clock) t (Contains-push [] t)))
        | inr le ↦ inl (none ∙ omega (arith, le))
      ]
      | inr has ↦ inr (Contains-append_right (t ∷ []) (ticks_of clock) all has)
    ]
told_from least (clocks.Look by seq ∷ clock) = told_from least clock

-- the clock's moment is 0 or was told
pub moment_told : (clock : List ClockEvent) → IsToldMoment clock (moment_of clock)
moment_told clock = told_from 0 clock

-- none of these points is later than the clock as it is
pub none_later : (clock : List ClockEvent) (points : List Point) → AreNotLater clock (moment_of clock) points
none_later clock [] = tt
none_later clock (point ∷ points) = (λ _. moment_before (point.place + 1) clock, none_later clock points)

-- ---- points that the clock has

abbrev pub IsSeen : List ClockEvent → Point → Type 0
IsSeen clock point = point.part ≡ clock_part → point.place < length clock

-- what these calls saw of the clock is there
abbrev pub AreSeen : List ClockEvent → List (List Point) → Type 0
AreSeen clock rows = (seq : ℕ) (points : List Point) → slice_get rows seq ≡ Some points → AllByRecursion (IsSeen clock) points

not_later_on : (clock more : List ClockEvent) (t : ℕ) (points : List Point) → AllByRecursion (IsSeen clock) points → AreNotLater clock t points → AreNotLater (clock ++ more) t points
not_later_on clock more t [] seen before = tt
not_later_on clock more t (point ∷ points) seen before = (
  λ is.
      let n : ℕ = point.place + 1 in
      let same : take n (clock ++ more) ≡ take n clock = take-append-le n clock more (omega (arith, seen.0 is)) in
      subst (λ (events : List ClockEvent). moment_of events ≤ t) (sym same) (before.0 is),
  not_later_on clock more t points seen.1 before.1,
)

-- so it is with points that are entries of their calls
pub rows_seen : (number : ℕ) (parts : List History) (clock : List ClockEvent) (rows : List (List Point))
    → ((seq : ℕ) (points : List Point) → slice_get rows seq ≡ Some points
    → AllByRecursion (λ point. slice_get (owners_at parts clock point.part) point.place ≡ Some (the_owner number seq)) points)
    → AreSeen clock rows
rows_seen number parts clock rows owned seq points e = all_seen points (owned seq points e)
  where
    all_seen : (points : List Point) → AllByRecursion (λ point. slice_get (owners_at parts clock point.part) point.place ≡ Some (the_owner number seq)) points → AllByRecursion (IsSeen clock) points
    all_seen [] all = tt
    all_seen (point ∷ points) all = (
      λ is.
          let there : slice_get (owners_at parts clock 64) point.place ≡ Some (the_owner number seq) =
          subst (λ (part : ℕ). slice_get (owners_at parts clock part) point.place ≡ Some (the_owner number seq)) is all.0 in
          let lt : point.place < length (map clock_owner_of clock) = slice_get_within (map clock_owner_of clock) point.place (the_owner number seq) there in
          omega (arith, lt, length-map clock clock_owner_of),
      all_seen points all.1,
    )

-- ---- one entry

-- what a pass's calls ask of an entry, where it is this pass's
abbrev pub IsTimelyEvent : ℕ → List ClockEvent → List (List Point) → PartEvent → Type 0
IsTimelyEvent number clock rows (Append by seq count len) = Unit {0}
IsTimelyEvent number clock rows (Follow by seq replica offset t) = by ≡ number
    → IsToldMoment clock t × ((earlier : ℕ) (points : List Point) → earlier < seq → slice_get rows earlier ≡ Some points → AreNotLater clock t points)
IsTimelyEvent number clock rows (Look by seq) = Unit {0}
IsTimelyEvent number clock rows (Shrink by replica t) = by ≡ number → Contains (ticks_of clock) t

-- of another pass's nothing is asked
pub others_timely : (number : ℕ) (clock : List ClockEvent) (rows : List (List Point)) (event : PartEvent) → (pass_of event ≡ number → ⊥) → IsTimelyEvent number clock rows event
others_timely number clock rows (Append by seq count len) other = tt
others_timely number clock rows (Follow by seq replica offset t) other = λ own. absurd (other own)
others_timely number clock rows (Look by seq) other = tt
others_timely number clock rows (Shrink by replica t) other = λ own. absurd (other own)

-- the entry of a call at the clock's moment is as it should be
pub entry_timely : (number by seq : ℕ) (clock : List ClockEvent) (rows : List (List Point)) (entry : Entry) → IsTimelyEvent number clock rows (event_of by seq (moment_of clock) entry)
entry_timely number by seq clock rows (Put count batch) = tt
entry_timely number by seq clock rows (Followed replica offset) = λ own. (moment_told clock, λ earlier points lt e. none_later clock points)
entry_timely number by seq clock rows Looked = tt

pub event_on : (number : ℕ) (clock more : List ClockEvent) (rows : List (List Point)) (event : PartEvent) → AreSeen clock rows → IsTimelyEvent number clock rows event → IsTimelyEvent number (clock ++ more) rows event
event_on number clock more rows (Append by seq count len) seen was = tt
event_on number clock more rows (Follow by seq replica offset t) seen was = λ own. (
  told_stays clock more t (was own).0,
  λ earlier points lt e. not_later_on clock more t points (seen earlier points e) ((was own).1 earlier points lt e),
)
event_on number clock more rows (Look by seq) seen was = tt
event_on number clock more rows (Shrink by replica t) seen was = λ own. tick_stays clock more t (was own)

-- ---- all entries

pub timely_event : (number : ℕ) (parts : List History) (clock : List ClockEvent) (rows : List (List Point)) → IsTimely number parts clock rows
    → (part place : ℕ) (event : PartEvent) → slice_get (events_at parts part) place ≡ Some event → IsTimelyEvent number clock rows event
timely_event number parts clock rows h part place (Append by seq count len) e = tt
timely_event number parts clock rows h part place (Follow by seq replica offset t) e = λ own.
    let own_entry : slice_get (events_at parts part) place ≡ Some (Follow number seq replica offset t) =
    subst (λ (b : ℕ). slice_get (events_at parts part) place ≡ Some (Follow b seq replica offset t)) own e in
    (h.told part place seq offset t replica own_entry, h.late part place seq offset t replica own_entry)
timely_event number parts clock rows h part place (Look by seq) e = tt
timely_event number parts clock rows h part place (Shrink by replica t) e = λ own.
    h.shrinks part place t replica (subst (λ (b : ℕ). slice_get (events_at parts part) place ≡ Some (Shrink b replica t)) own e)

pub timely_events : (number : ℕ) (parts : List History) (clock : List ClockEvent) (rows : List (List Point))
    → ((part place : ℕ) (event : PartEvent) → slice_get (events_at parts part) place ≡ Some event → IsTimelyEvent number clock rows event)
    → IsTimely number parts clock rows
timely_events number parts clock rows all = record {
  shrinks = λ part place t replica e. all part place (Shrink number replica t) e refl;
  told = λ part place seq offset t replica e. (all part place (Follow number seq replica offset t) e refl).0;
  late = λ part place seq offset t replica e. (all part place (Follow number seq replica offset t) e refl).1;
}

-- a history with an entry is one of those that are there
pub events_there : (parts : List History) (part place : ℕ) → place < length (events_at parts part) → (h : History) × (slice_get parts part ≡ Some h)
events_there parts part place lt = some_or_none (slice_get parts part) lt
  where
    some_or_none : (o : Option History) → place < length (unwrap_or o (empty_history 0)).events → (h : History) × (o ≡ Some h)
    some_or_none None lt = absurd (omega (arith, lt))
    some_or_none (Some h) lt = (h, refl)

pub events_of_part : (parts : List History) (part : ℕ) (h : History) → slice_get parts part ≡ Some h → events_at parts part ≡ h.events
events_of_part parts part h e = ap (λ (o : Option History). (unwrap_or o (empty_history 0)).events) e

-- an entry of the front was there
pub was_there : (parts later : List History) → AllLonger parts later → (part place : ℕ) (event : PartEvent) → place < length (events_at parts part)
    → slice_get (events_at later part) place ≡ Some event → slice_get (events_at parts part) place ≡ Some event
was_there parts later longer part place event lt e =
    let found = events_there parts part place lt in
    let l = longer part found.0 found.1 in
    let before : events_at parts part ≡ found.0.events = events_of_part parts part found.0 found.1 in
    let after : events_at later part ≡ found.0.events ++ l.2.more = events_of_part later part l.0 l.1 ∙ l.2.events in
    ap (λ (es : List PartEvent). slice_get es place) before
    ∙ sym (get_within found.0.events l.2.more place (omega (arith, lt, ap length before)))
    ∙ sym (ap (λ (es : List PartEvent). slice_get es place) after) ∙ e

-- the entries that later histories have more
abbrev pub NewEvents : List History → List History → (PartEvent → Type 0) → Type 0
NewEvents parts later P = (part place : ℕ) (event : PartEvent) → slice_get (events_at later part) place ≡ Some event → length (events_at parts part) ≤ place → P event

-- histories and the clock go on
pub timely_more : (number : ℕ) (parts later : List History) (clock behind : List ClockEvent) (rows : List (List Point)) → HaveGrown parts clock later behind → AreSeen clock rows
    → NewEvents parts later (IsTimelyEvent number behind rows) → IsTimely number parts clock rows → IsTimely number later behind rows
timely_more number parts later clock behind rows grown seen new h = timely_events number later behind rows (λ part place event e.
    elim (cases_lt place (length (events_at parts part))) [
      | inl lt ↦
          let was : IsTimelyEvent number clock rows event = timely_event number parts clock rows h part place event (was_there parts later grown.each part place event lt e) in
          subst (λ (events : List ClockEvent). IsTimelyEvent number events rows event) (sym grown.events) (event_on number clock grown.more rows event seen was)
      | inr past ↦ new part place event e past
    ])

-- what came is others' alone
pub timely_others : (number : ℕ) (parts later : List History) (clock behind : List ClockEvent) (rows : List (List Point)) → HaveGrown parts clock later behind → AreSeen clock rows
    → ((part place : ℕ) (event : PartEvent) → slice_get (events_at later part) place ≡ Some event → pass_of event ≡ number → place < length (events_at parts part))
    → IsTimely number parts clock rows → IsTimely number later behind rows
timely_others number parts later clock behind rows grown seen within h =
    timely_more number parts later clock behind rows grown seen (λ part place event e past.
    others_timely number behind rows event (λ own. omega (arith, within part place event e own, past))) h

-- nothing but the clock goes on: it was looked at, or told a moment
pub timely_clock : (number : ℕ) (parts : List History) (clock : List ClockEvent) (event : ClockEvent) (rows : List (List Point)) → AreSeen clock rows
    → IsTimely number parts clock rows → IsTimely number parts (clock ++ event ∷ []) rows
timely_clock number parts clock event rows seen h = timely_events number parts (clock ++ event ∷ []) rows (λ part place e there.
    event_on number clock (event ∷ []) rows e seen (timely_event number parts clock rows h part place e there))

-- ---- calls

-- the entries of the pass's followers are of calls below this one
abbrev pub FollowsBelow : ℕ → List History → ℕ → Type 0
FollowsBelow number parts n = (part place seq offset t : ℕ) (replica : ℤ) → slice_get (events_at parts part) place ≡ Some (Follow number seq replica offset t) → seq < n

pub owner_there : (parts : List History) (clock : List ClockEvent) (part place : ℕ) (event : PartEvent) → length parts ≤ 64 → slice_get (events_at parts part) place ≡ Some event
    → slice_get (owners_at parts clock part) place ≡ Some (owner_of event)
owner_there parts clock part place event few e =
    let found = events_there parts part place (slice_get_within (events_at parts part) place event e) in
    let small : part < 64 = omega (arith, few, slice_get_within parts part found.0 found.1) in
    ap (λ (os : List (Option Owner)). slice_get os place) (owners_part parts clock part found.0 small found.1)
    ∙ slice_map found.0.events place event (sym (ap (λ (es : List PartEvent). slice_get es place) (events_of_part parts part found.0 found.1)) ∙ e)

-- so they are where each entry is one of its call's
pub follows_below : (number : ℕ) (parts : List History) (clock : List ClockEvent) (rows : List (List Point)) → length parts ≤ 64
    → ((part place seq : ℕ) → slice_get (owners_at parts clock part) place ≡ Some (the_owner number seq) → (points : List Point) × (slice_get rows seq ≡ Some points) × (count_by (is_point part place) points ≡ 1))
    → FollowsBelow number parts (length rows)
follows_below number parts clock rows few left part place seq offset t replica e =
    let found = left part place seq (owner_there parts clock part place (Follow number seq replica offset t) few e) in
    slice_get_within rows seq found.0 found.1

-- the calls from the last on that left anything are told in another way
pub timely_rows : (number : ℕ) (parts : List History) (clock : List ClockEvent) (before last next : List (List Point)) → FollowsBelow number parts (length before + 1)
    → IsTimely number parts clock (before ++ last) → IsTimely number parts clock (before ++ next)
timely_rows number parts clock before last next below h = record {
  shrinks = h.shrinks;
  told = h.told;
  late = λ part place seq offset t replica e earlier points lt there.
      let within : earlier < length before = omega (arith, lt, below part place seq offset t replica e) in
      h.late part place seq offset t replica e earlier points lt (get_within before last earlier within ∙ sym (get_within before next earlier within) ∙ there);
}

-- a call begins
pub timely_begun : (number : ℕ) (parts : List History) (clock : List ClockEvent) (before next : List (List Point)) → FollowsBelow number parts (length before + 1)
    → IsTimely number parts clock before → IsTimely number parts clock (before ++ next)
timely_begun number parts clock before next below h =
    timely_rows number parts clock before [] next below (subst (IsTimely number parts clock) (sym (append-nil before)) h)

-- the last rows of one pass change, as histories and the clock go on
pub timely_changed : (parts later : List History) (clock behind : List ClockEvent) (ledger : ℕ → List (List Point)) (s : ℕ) (before last next : List (List Point)) → ledger s ≡ before ++ last
    → length next ≤ 1 → length later ≤ 64 → HaveGrown parts clock later behind → IsKept (owners_at parts clock) ledger → IsKept (owners_at later behind) (put ledger s (before ++ next))
    → ((r : ℕ) → NewEvents parts later (IsTimelyEvent r behind (ledger r))) → ((r : ℕ) → IsTimely r parts clock (ledger r))
    → (r : ℕ) → IsTimely r later behind (put ledger s (before ++ next) r)
timely_changed parts later clock behind ledger s before last next rows one few grown kept kept1 new h r =
    let grew : IsTimely r later behind (ledger r) = timely_more r parts later clock behind (ledger r) grown (rows_seen r parts clock (ledger r) (kept.points r)) (new r) (h r) in
    elim (same_or_not r s) [
      | inl same ↦
          let changed : put ledger s (before ++ next) r ≡ before ++ next = put_same ledger s (before ++ next) r same in
          let was : ledger r ≡ before ++ last = ap ledger same ∙ rows in
          let below : FollowsBelow r later (length (put ledger s (before ++ next) r)) =
          follows_below r later behind (put ledger s (before ++ next) r) few (λ part place seq e. kept1.left part place r seq e) in
          let size : length (put ledger s (before ++ next) r) ≡ length before + length next = ap length changed ∙ length-append before next in
          subst (IsTimely r later behind) (sym changed)
          (timely_rows r later behind before last next (λ part place seq offset t replica e. omega (arith, below part place seq offset t replica e, size, one)) (subst (IsTimely r later behind) was grew))
      | inr other ↦ subst (IsTimely r later behind) (sym (put_other ledger s (before ++ next) r other)) grew
    ]

-- ---- a new history in one place

-- of one partition an entry came
pub set_new : (parts : List History) (part : ℕ) (left : History) (event : PartEvent) (P : PartEvent → Type 0) → part < length parts → left.events ≡ (history_at parts part).events ++ event ∷ []
    → P event → NewEvents parts (set parts part left) P
set_new parts part left event P within events holds q place e there past =
    elim (same_or_not q part) [
      | inl same ↦
          let at : events_at (set parts part left) q ≡ events_at parts part ++ event ∷ [] =
          ap (events_at (set parts part left)) same ∙ events_of_part (set parts part left) part left (get_set_same parts part left within) ∙ events in
          let here : slice_get (events_at parts part ++ event ∷ []) place ≡ Some e = sym (ap (λ (es : List PartEvent). slice_get es place) at) ∙ there in
          let size : length (events_at parts q) ≡ length (events_at parts part) = ap (λ (i : ℕ). length (events_at parts i)) same in
          elim (push_get (events_at parts part) event e place here) [
            | inl front ↦ absurd (omega (arith, slice_get_within (events_at parts part) place e front, past, size))
            | inr last ↦ subst P (sym last.1) holds
          ]
      | inr other ↦
          let at : events_at (set parts part left) q ≡ events_at parts q = ap (λ (o : Option History). (unwrap_or o (empty_history 0)).events) (get_set_other parts part q left other) in
          let here : slice_get (events_at parts q) place ≡ Some e = sym (ap (λ (es : List PartEvent). slice_get es place) at) ∙ there in
          absurd (omega (arith, slice_get_within (events_at parts q) place e here, past))
    ]

-- it took followers out, at a moment that the clock was told
pub timely_shrunk : (number : ℕ) (parts later : List History) (clock : List ClockEvent) (rows : List (List Point)) (t : ℕ) → AllLonger parts later → AreSeen clock rows → Contains (ticks_of clock) t
    → NewEvents parts later (λ event. pass_of event ≡ number → (replica : ℤ) × (event ≡ Shrink number replica t)) → IsTimely number parts clock rows → IsTimely number later clock rows
timely_shrunk number parts later clock rows t longer seen told left h =
    timely_more number parts later clock clock rows (grown_parts parts later clock longer) seen (λ part place event e past. one event (left part place event e past)) h
  where
    shrink_timely : (event : PartEvent) (replica : ℤ) → event ≡ Shrink number replica t → IsTimelyEvent number clock rows event
    shrink_timely event replica is = subst (IsTimelyEvent number clock rows) (sym is) (λ own. told)

    one : (event : PartEvent) → (pass_of event ≡ number → (replica : ℤ) × (event ≡ Shrink number replica t)) → IsTimelyEvent number clock rows event
    one event is = elim (same_or_not (pass_of event) number) [ inl own ↦ let left = is own in shrink_timely event left.0 left.1 | inr other ↦ others_timely number clock rows event other ]
