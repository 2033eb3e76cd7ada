-- The entries of a pass are its own and in time, as others' entries come, as a call begins, and as the pass leaves entries.
use Rattle.std.proofs.Common.{◌≡◌, ℕ, ◌+◌, ◌≤◌, ◌<◌, Bool, true, false, cond, eqb, List, [], ◌∷◌, ◌++◌, length, map, Option, Some, None, refl, sym, ap, ◌∙◌, arith, inl, inr, length-append}
use Rattle.std.proofs.lemmas.Bool.{cases_lt}
use Rattle.std.proofs.lemmas.List.{length-map}
use Rattle.std.proofs.lemmas.Option.{slice_get_within}
use Rattle.std.specs.Prelude.{Contains, slice_get}
use Rattle.partlog.specs.declared.clock_event.ClockEvent.{ClockEvent}
use Rattle.partlog.specs.declared.clock_event.ClockEvent.TheVariants as clocks
use Rattle.partlog.specs.declared.event.PartEvent.{PartEvent}
use Rattle.partlog.specs.declared.event.PartEvent.TheVariants.{Append, Follow, Look, Shrink}
use Rattle.partlog.specs.History.{History}
use Rattle.partlog.specs.Moment.{moment_of}
use Rattle.audit.specs.declared.account.Point.{Point}
use Rattle.audit.specs.Histories.{Owner, clock_owner_of, owner_of, ticks_of}
use Rattle.audit.specs.LawfulCall.{step_points}
use Rattle.kbytes.proofs.Laws.{get_there, some_is}
use Rattle.kanswer.specs.Decisions.{Decision}
use Rattle.audit.specs.broker.Board.{empty_history, history_at}
use Rattle.audit.specs.broker.Entering.{accept_all, steps_of}
use Rattle.audit.specs.broker.GoesOn.{HaveGrown, the_owner}
use Rattle.audit.specs.broker.Kept.{owners_at, owners_here}
use Rattle.audit.specs.broker.Timely.{IsTimely, events_at, pass_of}
use Rattle.audit.proofs.broker.Laws.{AreSeen, FollowsBelow, IsFair, accepted_longer, accepted_size, accepted_timely, clock_point, events_of_part, follows_below, get_map, grown_parts, rows_seen, timely_begun, timely_clock, timely_more, timely_others, timely_rows, timely_shrunk}
use Rattle.audit.specs.broker.books.Owned.{AreOwn, OwnWithin}
use Rattle.audit.specs.broker.books.TakenOut.{HasTakenOut}
use Rattle.audit.proofs.broker.books.Owning.{CallsWithin, own_begun, own_carried, own_look, own_others}

pub record OwnsInTime (number : ℕ) (parts : List History) (clock : List ClockEvent) (rows : List (List Point)) : Type 0 where
  pub own : AreOwn (owners_at parts clock) number rows
  pub timely : IsTimely number parts clock rows

-- what the calls saw of the clock is there
seen : (number : ℕ) (parts : List History) (clock : List ClockEvent) (rows : List (List Point)) → AreOwn (owners_at parts clock) number rows → AreSeen clock rows
seen number parts clock rows own = rows_seen number parts clock rows own.points

-- the fetches of followers are of the calls that there are
below : (number : ℕ) (parts : List History) (clock : List ClockEvent) (rows : List (List Point)) (n : ℕ) → length parts ≤ 64 → length rows ≤ n → AreOwn (owners_at parts clock) number rows → FollowsBelow number parts n
below number parts clock rows n few le own part place seq offset t replica e =
    let less = follows_below number parts clock rows few own.left part place seq offset t replica e in
    omega (arith, less, le)

-- ---- others' entries, and a call that begins

pub in_time_others : (number : ℕ) (rows : List (List Point)) (parts later : List History) (clock behind : List ClockEvent) → HaveGrown parts clock later behind → OwnWithin number parts clock later behind
    → OwnsInTime number parts clock rows → OwnsInTime number later behind rows
in_time_others number rows parts later clock behind grown within h = record {
  own = own_others number rows parts later clock behind grown within.calls h.own;
  timely = timely_others number parts later clock behind rows grown (seen number parts clock rows h.own) within.entries h.timely;
}

pub in_time_begun : (number : ℕ) (rows : List (List Point)) (parts : List History) (clock : List ClockEvent) → length parts ≤ 64 → OwnsInTime number parts clock rows → OwnsInTime number parts clock (rows ++ [] ∷ [])
in_time_begun number rows parts clock few h = record {
  own = own_begun (owners_at parts clock) number rows h.own;
  timely = timely_begun number parts clock rows ([] ∷ []) (below number parts clock rows (length rows + 1) few (omega arith) h.own) h.timely;
}

-- ---- one entry more, of the last call

pub in_time_look : (parts : List History) (clock : List ClockEvent) (number seq : ℕ) (before : List (List Point)) (points : List Point) → seq ≡ length before → length parts ≤ 64
    → OwnsInTime number parts clock (before ++ points ∷ []) → OwnsInTime number parts (clock ++ clocks.Look number seq ∷ []) (before ++ (points ++ clock_point clock ∷ []) ∷ [])
in_time_look parts clock number seq before points is few h =
    let rows : List (List Point) = before ++ points ∷ [] in
    let behind : List ClockEvent = clock ++ clocks.Look number seq ∷ [] in
    record {
      own = own_look parts clock number seq before points is h.own;
      timely = timely_rows number parts behind before (points ∷ []) ((points ++ clock_point clock ∷ []) ∷ [])
          (below number parts clock rows (length before + 1) few (omega (arith, length-append before (points ∷ []))) h.own)
          (timely_clock number parts clock (clocks.Look number seq) rows (seen number parts clock rows h.own) h.timely);
    }

-- what was decided of one partition is carried out, at the moment of the clock
pub in_time_carried : (parts : List History) (clock : List ClockEvent) (number seq : ℕ) (decision : Decision) (before : List (List Point)) (points : List Point) → seq ≡ length before → length parts ≤ 64 → IsFair (length parts) decision
    → OwnsInTime number parts clock (before ++ points ∷ [])
    → OwnsInTime number (accept_all number seq (moment_of clock) (decision ∷ []) parts).1 clock (before ++ (points ++ step_points (steps_of (accept_all number seq (moment_of clock) (decision ∷ []) parts).0)) ∷ [])
in_time_carried parts clock number seq decision before points is few fair h =
    let t = moment_of clock in
    let n = length parts in
    let rows : List (List Point) = before ++ points ∷ [] in
    let came = accept_all number seq t (decision ∷ []) parts in
    let more : List Point = points ++ step_points (steps_of came.0) in
    let own = own_carried parts clock number seq t decision before points is few fair h.own in
    let size = accepted_size number seq t n (decision ∷ []) parts in
    record {
      own = own;
      timely = timely_rows number came.1 clock before (points ∷ []) (more ∷ [])
          (below number came.1 clock (before ++ more ∷ []) (length before + 1) (omega (arith, size, few)) (omega (arith, length-append before (more ∷ []))) own)
          (timely_more number parts came.1 clock clock rows (grown_parts parts came.1 clock (accepted_longer number seq t n (decision ∷ []) parts refl (fair, tt))) (seen number parts clock rows h.own)
          (accepted_timely number number seq n clock clock rows (decision ∷ []) parts refl (fair, tt) refl) h.timely);
    }

-- ---- followers were taken out

owner_names : (event : PartEvent) (number seq : ℕ) → owner_of event ≡ the_owner number seq → pass_of event ≡ number
owner_names (Append by s count len) number seq e = ap (λ (x : Owner). x.by) (some_is (record { by = by; seq = s }) (record { by = number; seq = seq }) e)
owner_names (Follow by s replica offset t) number seq e = ap (λ (x : Owner). x.by) (some_is (record { by = by; seq = s }) (record { by = number; seq = seq }) e)
owner_names (Look by s) number seq e = ap (λ (x : Owner). x.by) (some_is (record { by = by; seq = s }) (record { by = number; seq = seq }) e)
owner_names (Shrink by replica t) number seq e = absurd cc

-- that is the entry of no call
taken_within : (number t : ℕ) (parts later : List History) (clock : List ClockEvent) → HasTakenOut number t parts later → length later ≡ length parts → CallsWithin number parts clock later clock
taken_within number t parts later clock out size part place seq e = by_test (eqb part 64) (slice_get later part) refl e
  where
    by_test : (b : Bool) (o : Option History) → slice_get later part ≡ o → slice_get (cond b (map clock_owner_of clock) (owners_here o)) place ≡ Some (the_owner number seq)
        → place < length (cond b (map clock_owner_of clock) (owners_here (slice_get parts part)))
    by_test true o is f = slice_get_within (map clock_owner_of clock) place (the_owner number seq) f
    by_test false None is f = absurd cc
    by_test false (Some l) is f =
        let found = get_map owner_of l.events place (the_owner number seq) f in
        let event = found.0 in
        let there : slice_get (events_at later part) place ≡ Some event = ap (λ (events : List PartEvent). slice_get events place) (events_of_part later part l is) ∙ found.1 in
        let less = slice_get_within later part l is in
        let h = history_at parts part in
        let was : slice_get parts part ≡ Some h = get_there parts part (empty_history 0) (omega (arith, less, size)) in
        let same : owners_here (slice_get parts part) ≡ map owner_of h.events = ap owners_here was in
        elim (cases_lt place (length h.events)) [
          | inl lt ↦ omega (arith, lt, ap length same, length-map h.events owner_of)
          | inr past ↦
              let left = out.taken part place event there (owner_names event number seq found.2) past in
              let nobody : None ≡ the_owner number seq = sym (ap owner_of left.1) ∙ found.2 in
              absurd cc
        ]

pub in_time_taken : (number t : ℕ) (rows : List (List Point)) (parts later : List History) (clock : List ClockEvent) → HasTakenOut number t parts later → Contains (ticks_of clock) t → length later ≡ length parts
    → OwnsInTime number parts clock rows → OwnsInTime number later clock rows
in_time_taken number t rows parts later clock out told size h = record {
  own = own_others number rows parts later clock clock (grown_parts parts later clock out.grown) (taken_within number t parts later clock out size) h.own;
  timely = timely_shrunk number parts later clock rows t out.grown (seen number parts clock rows h.own) told (λ part place event e past whose. out.taken part place event e whose past) h.timely;
}
