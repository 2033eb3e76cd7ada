-- What comes to one history between two turns of a pass is others', and what is known of all histories then.
use Rattle.std.proofs.Common.{◌≡◌, ◌≢◌, ℕ, zero, suc, ◌+◌, ◌-◌, ◌≤◌, ◌<◌, Bool, true, false, cond, eqb, List, [], ◌∷◌, ◌++◌, length, map, filter, set, Option, Some, None, unwrap_or, refl, sym, ap, subst, ◌∙◌, arith, inl, inr, append-nil, length-append, eq-eqb}
use Rattle.std.proofs.lemmas.Bool.{cases_lt}
use Rattle.std.proofs.lemmas.List.{length-set, map-append}
use Rattle.std.proofs.lemmas.List.Elements.{filter-append}
use Rattle.std.proofs.lemmas.Option.{slice_get_past, slice_get_within}
use Rattle.std.specs.Prelude.{slice_get}
use Rattle.std.specs.List.{AllByRecursion}
use Rattle.std.specs.List.Sorted.{IsStrictlyIncreasing}
use Rattle.partlog.specs.declared.clock_event.ClockEvent.{ClockEvent}
use Rattle.partlog.specs.declared.clock_event.ClockEvent.TheVariants as clocks
use Rattle.partlog.specs.declared.event.PartEvent.{PartEvent}
use Rattle.partlog.specs.declared.event.PartEvent.TheVariants.{Append, Follow, Look, Shrink}
use Rattle.partlog.specs.History.{History}
use Rattle.audit.specs.Histories.{Owner, owner_of, clock_owner_of, ticks_of}
use Rattle.kbytes.proofs.Laws.{same_or_not, get_behind, get_set_same, get_set_other, some_is}
use Rattle.kwire.specs.Configuration.{Configuration}
use Rattle.audit.specs.broker.GoesOn.{HaveGrown, IsWhole, Longer, the_owner}
use Rattle.audit.specs.broker.Board.{empty_history}
use Rattle.audit.specs.broker.Kept.{owners_here, owners_at}
use Rattle.audit.specs.broker.Sound.{AreHistories}
use Rattle.audit.specs.broker.Timely.{events_at, pass_of}
use Rattle.audit.proofs.broker.Laws.{all_get, all_on, set_same, set_whole}
use Rattle.audit.specs.broker.books.Owned.{NotOf, OthersAlone, OwnWithin}

-- ---- entries of others

-- as many entries of a pass as were seen: so none of it stands behind
pub others_behind : {E : Type 0} (by : E → ℕ) (number : ℕ) (seen more : List E) → filter (λ e. eqb (by e) number) (seen ++ more) ≡ filter (λ e. eqb (by e) number) seen → AllByRecursion (λ e. by e ≢ number) more
others_behind {E = E} by number seen more same =
    let split : filter (λ e. eqb (by e) number) seen ++ filter (λ e. eqb (by e) number) more ≡ filter (λ e. eqb (by e) number) seen = sym (filter-append (λ (e : E). eqb (by e) number) seen more) ∙ same in
    none_left more (no_more (filter (λ e. eqb (by e) number) seen) (filter (λ e. eqb (by e) number) more) split)
  where
    no_more : (xs ys : List E) → xs ++ ys ≡ xs → ys ≡ []
    no_more xs [] e = refl
    no_more xs (y ∷ ys) e = absurd (omega (arith, length-append xs (y ∷ ys), ap length e))

    none_left : (es : List E) → filter (λ e. eqb (by e) number) es ≡ [] → AllByRecursion (λ e. by e ≢ number) es
    none_left [] none = tt
    none_left (e ∷ es) none = by_test (eqb (by e) number) refl none (none_left es)
      where
        by_test : (b : Bool) → eqb (by e) number ≡ b → cond b (e ∷ filter (λ x. eqb (by x) number) es) (filter (λ x. eqb (by x) number) es) ≡ []
            → (filter (λ x. eqb (by x) number) es ≡ [] → AllByRecursion (λ x. by x ≢ number) es) → (by e ≢ number) × AllByRecursion (λ x. by x ≢ number) es
        by_test true is f on = absurd cc
        by_test false is f on = (λ same_pass. let yes : eqb (by e) number ≡ true = eq-eqb (by e) number same_pass in absurd (cc (yes, is)), on f)

same_pass : (by seq number s : ℕ) → the_owner by seq ≡ the_owner number s → by ≡ number
same_pass by seq number s e = ap (λ (x : Owner). x.by) (some_is (record { by = by; seq = seq }) (record { by = number; seq = s }) e)

not_of : (number : ℕ) (event : PartEvent) → pass_of event ≢ number → NotOf number (owner_of event)
not_of number (Append by seq count len) other s e = other (same_pass by seq number s e)
not_of number (Follow by seq replica offset t) other s e = other (same_pass by seq number s e)
not_of number (Look by seq) other s e = other (same_pass by seq number s e)
not_of number (Shrink by replica t) other s e = absurd cc

-- entries that name other passes are others'
pub events_of_others : (number : ℕ) (events : List PartEvent) → AllByRecursion (λ event. pass_of event ≢ number) events → AllByRecursion (λ event. NotOf number (owner_of event)) events
events_of_others number events others = all_on (λ (event : PartEvent). pass_of event ≢ number) (λ (event : PartEvent). NotOf number (owner_of event)) (λ event other. not_of number event other) events others

-- entries behind those that were seen: where none is the pass's, its entries lie within what it saw
within_front : (number : ℕ) (seen more : List (Option Owner)) → AllByRecursion (NotOf number) more → (place seq : ℕ) → slice_get (seen ++ more) place ≡ Some (the_owner number seq) → place < length seen
within_front number seen more others place seq e =
    elim (cases_lt place (length seen)) [
      | inl lt ↦ lt
      | inr past ↦
          let at : length seen + (place - length seen) ≡ place = omega (arith, past) in
          let behind : slice_get more (place - length seen) ≡ Some (the_owner number seq) =
          sym (get_behind seen more (place - length seen)) ∙ ap (slice_get (seen ++ more)) at ∙ e in
          absurd (all_get (NotOf number) more (place - length seen) (the_owner number seq) others behind seq refl)
    ]

owners_of_others : {X : Type 0} (owner : X → Option Owner) (number : ℕ) (events : List X) → AllByRecursion (λ event. NotOf number (owner event)) events → AllByRecursion (NotOf number) (map owner events)
owners_of_others owner number [] others = tt
owners_of_others owner number (event ∷ events) others = (others.0, owners_of_others owner number events others.1)

-- ---- histories go on by others' entries

pub others_grown : (number : ℕ) (parts later : List History) (clock behind : List ClockEvent) → OthersAlone number parts clock later behind → HaveGrown parts clock later behind
others_grown number parts later clock behind came = record {
  each = λ p h e. let l = came.each p h e in (l.0, l.1, l.2);
  more = came.more;
  events = came.events;
}

none_past : (hs : List History) (i : ℕ) → slice_get hs i ≡ None → length hs ≤ i
none_past [] i none = omega arith
none_past (h ∷ hs) zero none = absurd cc
none_past (h ∷ hs) (suc i) none = omega (arith, none_past hs i none)

calls_within : (number : ℕ) (parts later : List History) (clock behind : List ClockEvent) → OthersAlone number parts clock later behind → length later ≡ length parts
    → (part place seq : ℕ) → slice_get (owners_at later behind part) place ≡ Some (the_owner number seq) → place < length (owners_at parts clock part)
calls_within number parts later clock behind came size part place seq e = by_test (eqb part 64) (slice_get parts part) refl e
  where
    by_test : (b : Bool) (o : Option History) → slice_get parts part ≡ o → slice_get (cond b (map clock_owner_of behind) (owners_here (slice_get later part))) place ≡ Some (the_owner number seq)
        → place < length (cond b (map clock_owner_of clock) (owners_here o))
    by_test true o is f =
        let all : map clock_owner_of behind ≡ map clock_owner_of clock ++ map clock_owner_of came.more = ap (map clock_owner_of) came.events ∙ map-append clock_owner_of clock came.more in
        within_front number (map clock_owner_of clock) (map clock_owner_of came.more) (owners_of_others clock_owner_of number came.more came.others) place seq
        (sym (ap (λ (os : List (Option Owner)). slice_get os place) all) ∙ f)
    by_test false None is f =
        let past : length parts ≤ part = none_past parts part is in
        let none : slice_get later part ≡ None = slice_get_past later part (omega (arith, past, size)) in
        let nothing : slice_get [] place ≡ Some (the_owner number seq) = sym (ap (λ (o : Option History). slice_get (owners_here o) place) none) ∙ f in
        absurd cc
    by_test false (Some h) is f =
        let l = came.each part h is in
        let all : map owner_of l.0.events ≡ map owner_of h.events ++ map owner_of l.2.more = ap (map owner_of) l.2.events ∙ map-append owner_of h.events l.2.more in
        within_front number (map owner_of h.events) (map owner_of l.2.more) (owners_of_others owner_of number l.2.more (events_of_others number l.2.more l.3)) place seq
        (sym (ap (λ (os : List (Option Owner)). slice_get os place) all) ∙ sym (ap (λ (o : Option History). slice_get (owners_here o) place) l.1) ∙ f)

-- nor does one that names the pass stand behind them
entry_front : (number : ℕ) (seen more : List PartEvent) → AllByRecursion (λ event. pass_of event ≢ number) more → (place : ℕ) (event : PartEvent) → slice_get (seen ++ more) place ≡ Some event → pass_of event ≡ number → place < length seen
entry_front number seen more others place event e whose =
    elim (cases_lt place (length seen)) [
      | inl lt ↦ lt
      | inr past ↦
          let at : length seen + (place - length seen) ≡ place = omega (arith, past) in
          let behind : slice_get more (place - length seen) ≡ Some event = sym (get_behind seen more (place - length seen)) ∙ ap (slice_get (seen ++ more)) at ∙ e in
          absurd (all_get (λ (event : PartEvent). pass_of event ≢ number) more (place - length seen) event others behind whose)
    ]

entries_within : (number : ℕ) (parts later : List History) (clock behind : List ClockEvent) → OthersAlone number parts clock later behind → length later ≡ length parts
    → (part place : ℕ) (event : PartEvent) → slice_get (events_at later part) place ≡ Some event → pass_of event ≡ number → place < length (events_at parts part)
entries_within number parts later clock behind came size part place event e whose = by_case (slice_get parts part) refl
  where
    by_case : (o : Option History) → slice_get parts part ≡ o → place < length ((unwrap_or o (empty_history 0)).events)
    by_case None is =
        let past : length parts ≤ part = none_past parts part is in
        let none : slice_get later part ≡ None = slice_get_past later part (omega (arith, past, size)) in
        let nothing : slice_get [] place ≡ Some event = sym (ap (λ (o : Option History). slice_get ((unwrap_or o (empty_history 0)).events) place) none) ∙ e in
        absurd cc
    by_case (Some h) is =
        let l = came.each part h is in
        let all : events_at later part ≡ h.events ++ l.2.more = ap (λ (o : Option History). (unwrap_or o (empty_history 0)).events) l.1 ∙ l.2.events in
        entry_front number h.events l.2.more l.3 place event (sym (ap (λ (events : List PartEvent). slice_get events place) all) ∙ e) whose

pub others_within : (number : ℕ) (parts later : List History) (clock behind : List ClockEvent) → OthersAlone number parts clock later behind → length later ≡ length parts → OwnWithin number parts clock later behind
others_within number parts later clock behind came size = record {
  calls = calls_within number parts later clock behind came size;
  entries = entries_within number parts later clock behind came size;
}

-- ---- the turn of one partition, or of the clock

-- nothing came to it
abbrev as_it_was : (h : History) → Longer h h
as_it_was h = record { followers = refl; more = []; bytes = []; events = sym (append-nil h.events); log = sym (append-nil h.log) }

-- one partition's history went on by others' entries
pub part_came : (number : ℕ) (parts : List History) (clock : List ClockEvent) (p : ℕ) (h later : History) → slice_get parts p ≡ Some h → (longer : Longer h later)
    → AllByRecursion (λ event. pass_of event ≢ number) longer.more → OthersAlone number parts clock (set parts p later) clock
part_came number parts clock p h later there longer others = record {
  each = λ q k e. elim (same_or_not q p) [
    | inl same ↦
        let is : h ≡ k = some_is h k (sym there ∙ sym (ap (slice_get parts) same) ∙ e) in
        let at : slice_get (set parts p later) q ≡ Some later = ap (slice_get (set parts p later)) same ∙ get_set_same parts p later (slice_get_within parts p h there) in
        subst (λ (x : History). (l : History) × (slice_get (set parts p later) q ≡ Some l) × (longer : Longer x l) × AllByRecursion (λ event. pass_of event ≢ number) longer.more) is (later, at, longer, others)
    | inr other ↦ (k, get_set_other parts p q later other ∙ e, as_it_was k, tt)
  ];
  more = [];
  events = sym (append-nil clock);
  others = tt;
}

-- the clock's did
pub clock_came : (number : ℕ) (parts : List History) (clock more : List ClockEvent) → AllByRecursion (λ event. NotOf number (clock_owner_of event)) more → OthersAlone number parts clock parts (clock ++ more)
clock_came number parts clock more others = record {
  each = λ p h e. (h, e, as_it_was h, tt);
  more = more;
  events = refl;
  others = others;
}

-- the partition's log is that of its entries, as its lock keeps it
pub part_histories : (config : Configuration) (parts : List History) (clock : List ClockEvent) (p : ℕ) (h later : History) → slice_get parts p ≡ Some h → IsWhole later → later.followers ≡ h.followers
    → AreHistories config parts clock → AreHistories config (set parts p later) clock
part_histories config parts clock p h later there whole followers histories = record {
  whole = set_whole parts p later histories.whole (slice_get_within parts p h there) whole;
  few = omega (arith, histories.few, length-set parts p later);
  followers = set_same (λ (x : History). x.followers) parts p h later there followers ∙ histories.followers;
  ticks = histories.ticks;
}

pub clock_histories : (config : Configuration) (parts : List History) (clock behind : List ClockEvent) → IsStrictlyIncreasing (0 ∷ ticks_of behind) → AreHistories config parts clock → AreHistories config parts behind
clock_histories config parts clock behind ticks histories = record { whole = histories.whole; few = histories.few; followers = histories.followers; ticks = ticks }
