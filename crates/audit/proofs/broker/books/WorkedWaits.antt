-- The books of three passes that waited: each comes of the moves of its pass, turn by turn.
use Rattle.std.proofs.Common.{◌≡◌, ◌≢◌, ℕ, zero, suc, ◌≤◌, ◌<◌, negsuc, true, false, eqb, List, [], ◌∷◌, ◌++◌, map, Some, None, unwrap_or, refl, sym, ap, subst, arith, inl, inr, eq-eqb}
use Rattle.std.proofs.lemmas.Bool.{ne_eqb}
use Rattle.std.proofs.lemmas.List.{map-append}
use Rattle.std.specs.Prelude.{slice_get, count_by}
use Rattle.std.specs.List.{AllByRecursion}
use Rattle.std.specs.List.Sorted.{IsStrictlyIncreasing}
use Rattle.partlog.specs.declared.clock_event.ClockEvent.{ClockEvent}
use Rattle.partlog.specs.declared.clock_event.ClockEvent.TheVariants as clocks
use Rattle.partlog.specs.declared.event.PartEvent.TheVariants.{Look}
use Rattle.partlog.specs.History.{History}
use Rattle.partlog.specs.Lagging.{LeftLate}
use Rattle.partlog.specs.State.{state_of}
use Rattle.audit.specs.declared.account.CallHow.TheVariants.{Cut, Expired, Parked}
use Rattle.audit.specs.Histories.{owner_of, clock_owner_of, clock_part}
use Rattle.audit.specs.IsLawful.{IsLawful, is_won_by}
use Rattle.audit.specs.Worked.{at, fetch_both, fetch_one, from_start, three_waits, two_parts}
use Rattle.kbytes.proofs.Laws.{some_is}
use Rattle.kanswer.specs.Decisions.{AskLog, Decision, Outcome, fetch_outcome}
use Rattle.kwire.specs.IsRequest.{IsRequest}
use Rattle.audit.specs.broker.Board.{Waiting}
use Rattle.audit.specs.broker.Entering.{Noted}
use Rattle.audit.specs.broker.GoesOn.{Longer, the_owner}
use Rattle.audit.specs.broker.Sound.{AreHistories}
use Rattle.audit.specs.broker.Timely.{pass_of}
use Rattle.audit.specs.broker.books.Accepting.{IsAccepting, clock_seen, left_waiting}
use Rattle.audit.specs.broker.books.Book.{Book, opening_book}
use Rattle.audit.specs.broker.books.Finishing.{IsDelayed, late_seen}
use Rattle.audit.specs.broker.books.IsBook.{IsBook}
use Rattle.audit.specs.broker.books.Owned.{NotOf, OthersAlone}
use Rattle.audit.specs.broker.books.Together.{AreTogether, GoesWith, IsAnswerableIn, all_calls_in}
use Rattle.audit.specs.broker.books.Turns.{accepted_there, looked_there, noted_there}
use Rattle.audit.specs.broker.books.Underway.{Underway, begun_amid, with_end}
use Rattle.audit.specs.broker.books.WorkedWaits.{clock_at, cut_book, expired_book, fetch_waits, last_clock, last_parts, looks_by, parked_book, second_waits, three_books}
use Rattle.audit.proofs.broker.books.Acceptings.{accepting_delayed, called_accepting}
use Rattle.audit.proofs.broker.books.Closing.{books_lawful}
use Rattle.audit.proofs.broker.books.Coming.{clock_came, clock_histories, part_histories}
use Rattle.audit.proofs.broker.books.Finishings.{delayed_as, delayed_parked, finishing_as, finishing_cut, finishing_expired, finishing_late}
use Rattle.audit.proofs.broker.books.Opening.{opened}
use Rattle.audit.proofs.broker.books.Passing.{IsOfSome, all_entries_known, all_known, goes_with, others_amid_accepting, others_amid_delayed}
use Rattle.audit.proofs.broker.books.Turning.{accepting_turn, finishing_turn}
use Rattle.audit.proofs.broker.books.Underways.{begun}
use Rattle.audit.proofs.broker.books.WorkedBooks.{IsNoLeave, another, nobody_left, owner_below}

differ : (a b : ℕ) → eqb a b ≡ false → a ≢ b
differ a b apart same = let equal : eqb a b ≡ true = eq-eqb a b same in absurd (cc (equal, apart))

no_tick : (number t : ℕ) → NotOf number (clock_owner_of (clocks.Tick t))
no_tick number t seq e = absurd cc

pub rises_none : IsStrictlyIncreasing (0 ∷ [])
rises_none k lt = absurd (omega (arith, lt))

rises_once : IsStrictlyIncreasing (0 ∷ 100 ∷ [])
rises_once zero lt = omega arith
rises_once (suc k) lt = absurd (omega (arith, lt))

small : 2 ≤ 64
small = omega arith

-- a fetch of a consumer asks for this partition from its start on
abbrev asks : ℕ → Decision
asks part = AskLog part (fetch_outcome 0 (negsuc 0) (from_start part) part)

abbrev outcome_at : ℕ → History → Outcome
outcome_at part found = fetch_outcome 0 (negsuc 0) (from_start part) part (state_of found)

abbrev started : ℕ → List ℕ → Underway
started number frame = begun_amid (opening_book two_parts number) [] (record { number = number; first = 0; calls = []; end = None }) frame

-- ---- the fetch that expired

module _ (one : List ℕ) (is_request : IsRequest one fetch_one) where
  abbrev asked_first : Underway
  asked_first = accepted_there (started 0 one) 0 (looks_by []) (outcome_at 0 (looks_by []))

  abbrev noted_first : List Noted
  noted_first = noted_there (started 0 one) 0 (looks_by []) (outcome_at 0 (looks_by [])) ∷ []

  first_accepted : IsAccepting asked_first fetch_one (asks 0 ∷ []) 1 noted_first
  first_accepted =
      accepting_turn (started 0 one) 0 (looks_by [])
      (record { seen = looks_by []; there = refl; longer = record { followers = refl; more = []; bytes = []; events = refl; log = refl }; others = tt; whole = refl })
      fetch_one (asks 0 ∷ []) 0 [] (fetch_outcome 0 (negsuc 0) (from_start 0) 0)
      (called_accepting (opening_book two_parts 0) [] (record { number = 0; first = 0; calls = []; end = None }) one fetch_one (asks 0 ∷ []) refl refl is_request refl
      (begun (opening_book two_parts 0) 0 (opened two_parts 0 small)))
      refl

  first_delayed : IsDelayed (clock_seen asked_first) (left_waiting asked_first fetch_one noted_first)
  first_delayed = accepting_delayed asked_first fetch_one (asks 0 ∷ []) noted_first first_accepted refl

  -- the clock told 100
  abbrev told_first : Underway
  told_first = record (clock_seen asked_first) { clock = clock_at [] }

  first_told : IsDelayed told_first (left_waiting asked_first fetch_one noted_first)
  first_told =
      let u = clock_seen asked_first in
      others_amid_delayed u (left_waiting asked_first fetch_one noted_first) u.parts (clock_at []) (clock_came 0 u.parts u.clock (clocks.Look 2 0 ∷ clocks.Tick 100 ∷ []) (another 0 2 0 (differ 2 0 refl), (no_tick 0 100, tt)))
      (clock_histories two_parts u.parts u.clock (clock_at []) rises_once first_delayed.underway.histories) first_delayed

  pub expired : IsBook (expired_book one) None
  expired =
      let w = left_waiting asked_first fetch_one noted_first in
      let late = finishing_late told_first w first_told refl (omega arith) in
      let seen = looks_by (0 ∷ 2 ∷ []) in
      let looked =
      finishing_turn (late_seen told_first) 0 seen (record {
        seen = looks_by (0 ∷ []);
        there = refl;
        longer = record { followers = refl; more = Look 2 0 ∷ []; bytes = []; events = refl; log = refl };
        others = (differ 2 0 refl, tt);
        whole = refl;
      }) w (Some (at clock_part 3)) [] late refl (λ none all. absurd cc) in
      let end = looked_there (late_seen told_first) 0 seen in
      finishing_expired (with_end end (Expired 0)) w (state_of seen ∷ []) 0 (at clock_part 3) (finishing_as end w (Some (at clock_part 3)) (state_of seen ∷ []) (Expired 0) looked) refl refl

-- ---- the fetch that waits still

module _ (one : List ℕ) (is_request : IsRequest one fetch_one) where
  -- four looks came first
  abbrev four : History
  four = looks_by (0 ∷ 2 ∷ 0 ∷ 2 ∷ [])

  others_four : AllByRecursion (λ event. pass_of event ≢ 1) four.events
  others_four = (differ 0 1 refl, (differ 2 1 refl, (differ 0 1 refl, (differ 2 1 refl, tt))))

  abbrev asked_second : Underway
  asked_second = accepted_there (started 1 one) 0 four (outcome_at 0 four)

  abbrev noted_second : List Noted
  noted_second = noted_there (started 1 one) 0 four (outcome_at 0 four) ∷ []

  second_accepted : IsAccepting asked_second fetch_one (asks 0 ∷ []) 1 noted_second
  second_accepted =
      accepting_turn (started 1 one) 0 four
      (record { seen = looks_by []; there = refl; longer = record { followers = refl; more = four.events; bytes = []; events = refl; log = refl }; others = others_four; whole = refl })
      fetch_one (asks 0 ∷ []) 0 [] (fetch_outcome 0 (negsuc 0) (from_start 0) 0)
      (called_accepting (opening_book two_parts 1) [] (record { number = 1; first = 0; calls = []; end = None }) one fetch_one (asks 0 ∷ []) refl refl is_request refl
      (begun (opening_book two_parts 1) 1 (opened two_parts 1 small)))
      refl

  -- and five entries of the clock
  abbrev clock_second : List ClockEvent
  clock_second = clock_at (0 ∷ 2 ∷ [])

  others_five : AllByRecursion (λ event. NotOf 1 (clock_owner_of event)) clock_second
  others_five = (another 1 0 0 (differ 0 1 refl), (another 1 2 0 (differ 2 1 refl), (no_tick 1 100, (another 1 0 0 (differ 0 1 refl), (another 1 2 0 (differ 2 1 refl), tt)))))

  second_told : IsAccepting (record asked_second { clock = clock_second }) fetch_one (asks 0 ∷ []) 1 noted_second
  second_told =
      others_amid_accepting asked_second fetch_one (asks 0 ∷ []) 1 noted_second asked_second.parts clock_second (clock_came 1 asked_second.parts [] clock_second others_five)
      (clock_histories two_parts asked_second.parts [] clock_second rises_once second_accepted.underway.histories) second_accepted

  pub parked : IsBook (parked_book one) (Some fetch_waits)
  parked =
      let u = record asked_second { clock = clock_second } in
      let delayed : IsDelayed (clock_seen u) fetch_waits = accepting_delayed u fetch_one (asks 0 ∷ []) noted_second second_told refl in
      delayed_parked (with_end (clock_seen u) Parked) fetch_waits (delayed_as (clock_seen u) fetch_waits Parked delayed) refl refl

-- ---- the fetch that was cut off

module _ (both : List ℕ) (is_request : IsRequest both fetch_both) where
  abbrev ask_both : List Decision
  ask_both = asks 0 ∷ asks 1 ∷ []

  abbrev first_asked : Underway
  first_asked = accepted_there (started 2 both) 0 (looks_by (0 ∷ [])) (outcome_at 0 (looks_by (0 ∷ [])))

  abbrev both_asked : Underway
  both_asked = accepted_there first_asked 1 (looks_by []) (outcome_at 1 (looks_by []))

  abbrev first_noted : List Noted
  first_noted = noted_there (started 2 both) 0 (looks_by (0 ∷ [])) (outcome_at 0 (looks_by (0 ∷ []))) ∷ []

  abbrev both_noted : List Noted
  both_noted = first_noted ++ noted_there first_asked 1 (looks_by []) (outcome_at 1 (looks_by [])) ∷ []

  both_accepted : IsAccepting both_asked fetch_both ask_both 2 both_noted
  both_accepted =
      accepting_turn first_asked 1 (looks_by [])
      (record { seen = looks_by []; there = refl; longer = record { followers = refl; more = []; bytes = []; events = refl; log = refl }; others = tt; whole = refl })
      fetch_both ask_both 1 first_noted (fetch_outcome 0 (negsuc 0) (from_start 1) 1)
      (accepting_turn (started 2 both) 0 (looks_by (0 ∷ []))
      (record {
        seen = looks_by [];
        there = refl;
        longer = record { followers = refl; more = Look 0 0 ∷ []; bytes = []; events = refl; log = refl };
        others = (differ 0 2 refl, tt);
        whole = refl;
      })
      fetch_both ask_both 0 [] (fetch_outcome 0 (negsuc 0) (from_start 0) 0)
      (called_accepting (opening_book two_parts 2) [] (record { number = 2; first = 0; calls = []; end = None }) both fetch_both ask_both refl refl is_request refl
      (begun (opening_book two_parts 2) 2 (opened two_parts 2 small)))
      refl)
      refl

  -- the clock was looked at before it
  abbrev looked_before : Underway
  looked_before = record both_asked { clock = clocks.Look 0 0 ∷ [] }

  both_looked : IsAccepting looked_before fetch_both ask_both 2 both_noted
  both_looked =
      others_amid_accepting both_asked fetch_both ask_both 2 both_noted both_asked.parts (clocks.Look 0 0 ∷ []) (clock_came 2 both_asked.parts [] (clocks.Look 0 0 ∷ []) (another 2 0 0 (differ 0 2 refl), tt))
      (clock_histories two_parts both_asked.parts [] (clocks.Look 0 0 ∷ []) rises_none both_accepted.underway.histories) both_accepted

  abbrev w : Waiting
  w = left_waiting looked_before fetch_both both_noted

  both_delayed : IsDelayed (clock_seen looked_before) w
  both_delayed = accepting_delayed looked_before fetch_both ask_both both_noted both_looked refl

  -- it told 100
  abbrev told_both : Underway
  told_both = record (clock_seen looked_before) { clock = clock_at (0 ∷ []) }

  both_told : IsDelayed told_both w
  both_told =
      let u = clock_seen looked_before in
      others_amid_delayed u w u.parts (clock_at (0 ∷ [])) (clock_came 2 u.parts u.clock (clocks.Tick 100 ∷ clocks.Look 0 0 ∷ []) (no_tick 2 100, (another 2 0 0 (differ 0 2 refl), tt)))
      (clock_histories two_parts u.parts u.clock (clock_at (0 ∷ [])) rises_once both_delayed.underway.histories) both_delayed

  pub cut : IsBook (cut_book both) None
  cut =
      let late = finishing_late told_both w both_told refl (omega arith) in
      let found = looks_by (0 ∷ 2 ∷ 0 ∷ []) in
      let looked =
      finishing_turn (late_seen told_both) 0 found (record {
        seen = looks_by (0 ∷ 2 ∷ []);
        there = refl;
        longer = record { followers = refl; more = Look 0 0 ∷ []; bytes = []; events = refl; log = refl };
        others = (differ 0 2 refl, tt);
        whole = refl;
      }) w (Some (at clock_part 4)) [] late refl (λ none all. absurd cc) in
      let end = looked_there (late_seen told_both) 0 found in
      finishing_cut (with_end end (Cut (Some 0))) w (state_of found ∷ []) 0 (Some (at clock_part 4)) (finishing_as end w (Some (at clock_part 4)) (state_of found ∷ []) (Cut (Some 0)) looked) refl

-- ---- they go together

as_others : (number : ℕ) (later : List ℕ) → AllByRecursion (λ by. by ≢ number) later → AllByRecursion (λ event. pass_of event ≢ number) (map (λ by. Look by 0) later)
as_others number [] apart = tt
as_others number (by ∷ later) apart = (apart.0, as_others number later apart.1)

clock_others : (number : ℕ) (later : List ℕ) → AllByRecursion (λ by. by ≢ number) later → AllByRecursion (λ event. NotOf number (clock_owner_of event)) (map (λ by. clocks.Look by 0) later)
clock_others number [] apart = tt
clock_others number (by ∷ later) apart = (another number by 0 apart.0, clock_others number later apart.1)

-- two partitions that were looked at, and then by these others
looked_on : (number : ℕ) (first more second others : List ℕ) (clock behind : List ClockEvent) → AllByRecursion (λ by. by ≢ number) more → AllByRecursion (λ by. by ≢ number) others
    → AllByRecursion (λ event. NotOf number (clock_owner_of event)) behind
    → OthersAlone number (looks_by first ∷ looks_by second ∷ []) clock (looks_by (first ++ more) ∷ looks_by (second ++ others) ∷ []) (clock ++ behind)
looked_on number first more second others clock behind a b c = record { each = λ p h e. by_part p h e; more = behind; events = refl; others = c }
  where
    one : (xs ys : List ℕ) → AllByRecursion (λ by. by ≢ number) ys → (longer : Longer (looks_by xs) (looks_by (xs ++ ys))) × AllByRecursion (λ event. pass_of event ≢ number) longer.more
    one xs ys apart =
        (record { followers = refl; more = map (λ by. Look by 0) ys; bytes = []; events = map-append (λ (by : ℕ). Look by 0) xs ys; log = refl }, as_others number ys apart)

    by_part : (p : ℕ) (h : History) → slice_get (looks_by first ∷ looks_by second ∷ []) p ≡ Some h
        → (l : History) × (slice_get (looks_by (first ++ more) ∷ looks_by (second ++ others) ∷ []) p ≡ Some l) × (longer : Longer h l) × AllByRecursion (λ event. pass_of event ≢ number) longer.more
    by_part zero h e =
        let l = one first more a in
        subst (λ (x : History). (y : History) × (Some (looks_by (first ++ more)) ≡ Some y) × (longer : Longer x y) × AllByRecursion (λ event. pass_of event ≢ number) longer.more) (some_is (looks_by first) h e)
        (looks_by (first ++ more), refl, l.0, l.1)
    by_part (suc zero) h e =
        let l = one second others b in
        subst (λ (x : History). (y : History) × (Some (looks_by (second ++ others)) ≡ Some y) × (longer : Longer x y) × AllByRecursion (λ event. pass_of event ≢ number) longer.more) (some_is (looks_by second) h e)
        (looks_by (second ++ others), refl, l.0, l.1)
    by_part (suc (suc p)) h e = absurd cc

pub of_some : (a n : ℕ) → a < n → IsOfSome n (the_owner a 0)
of_some a n lt by seq e = owner_below a 0 by seq n lt (ap Some e)

pub of_nobody : (n : ℕ) → IsOfSome n None
of_nobody n by seq e = absurd cc

module _ (one both : List ℕ) (first : IsRequest one fetch_one) (second : IsRequest both fetch_both) where
  last_histories : AreHistories two_parts last_parts last_clock
  last_histories = part_histories two_parts (parked_book one).parts last_clock 1 (looks_by []) (looks_by (2 ∷ [])) refl refl refl (parked one first).histories

  each_with : (k : ℕ) (book : Book) → slice_get (three_books one both) k ≡ Some book → GoesWith two_parts last_parts last_clock k book (second_waits k)
  each_with zero book e =
      subst (λ (b : Book). GoesWith two_parts last_parts last_clock 0 b None) (some_is (expired_book one) book e)
      (goes_with two_parts last_parts last_clock 0 (expired_book one) None refl refl (expired one first)
      (looked_on 0 (0 ∷ 2 ∷ 0 ∷ []) (2 ∷ 1 ∷ []) [] (2 ∷ []) (clock_at (0 ∷ [])) (clocks.Look 2 0 ∷ clocks.Look 1 0 ∷ []) (differ 2 0 refl, (differ 1 0 refl, tt)) (differ 2 0 refl, tt)
      (clock_others 0 (2 ∷ 1 ∷ []) (differ 2 0 refl, (differ 1 0 refl, tt))))
      last_histories (λ w none. absurd cc))
  each_with (suc zero) book e =
      subst (λ (b : Book). GoesWith two_parts last_parts last_clock 1 b (Some fetch_waits)) (some_is (parked_book one) book e)
      (goes_with two_parts last_parts last_clock 1 (parked_book one) (Some fetch_waits) refl refl (parked one first)
      (looked_on 1 (0 ∷ 2 ∷ 0 ∷ 2 ∷ 1 ∷ []) [] [] (2 ∷ []) last_clock [] tt (differ 2 1 refl, tt) tt)
      last_histories (λ w is answerable. unanswered (subst (IsAnswerableIn last_parts last_clock) (sym (some_is fetch_waits w is)) answerable)))
    where
      unanswered : IsAnswerableIn last_parts last_clock fetch_waits → ⊥
      unanswered (inl enough) = let few : 1 ≤ 0 = enough in absurd (omega (arith, few))
      unanswered (inr late) = let early : 200 ≤ 100 = late in absurd (omega (arith, early))
  each_with (suc (suc zero)) book e =
      subst (λ (b : Book). GoesWith two_parts last_parts last_clock 2 b None) (some_is (cut_book both) book e)
      (goes_with two_parts last_parts last_clock 2 (cut_book both) None refl refl (cut both second)
      (looked_on 2 (0 ∷ 2 ∷ 0 ∷ 2 ∷ []) (1 ∷ []) (2 ∷ []) [] (clock_at (0 ∷ 2 ∷ [])) (clocks.Look 1 0 ∷ []) (differ 1 2 refl, tt) tt (clock_others 2 (1 ∷ []) (differ 1 2 refl, tt)))
      last_histories (λ w none. absurd cc))
  each_with (suc (suc (suc k))) book e = absurd cc

  each_known : (p : ℕ) (h : History) → slice_get last_parts p ≡ Some h → AllByRecursion (λ event. IsOfSome 3 (owner_of event)) h.events
  each_known zero h e =
      subst (λ (x : History). AllByRecursion (λ event. IsOfSome 3 (owner_of event)) x.events) (some_is (looks_by (0 ∷ 2 ∷ 0 ∷ 2 ∷ 1 ∷ [])) h e)
      (of_some 0 3 (omega arith), (of_some 2 3 (omega arith), (of_some 0 3 (omega arith), (of_some 2 3 (omega arith), (of_some 1 3 (omega arith), tt)))))
  each_known (suc zero) h e = subst (λ (x : History). AllByRecursion (λ event. IsOfSome 3 (owner_of event)) x.events) (some_is (looks_by (2 ∷ [])) h e) (of_some 2 3 (omega arith), tt)
  each_known (suc (suc p)) h e = absurd cc

  each_entry : (p : ℕ) (h : History) → slice_get last_parts p ≡ Some h → AllByRecursion (λ event. pass_of event < 3) h.events
  each_entry zero h e =
      subst (λ (x : History). AllByRecursion (λ event. pass_of event < 3) x.events) (some_is (looks_by (0 ∷ 2 ∷ 0 ∷ 2 ∷ 1 ∷ [])) h e)
      (omega arith, (omega arith, (omega arith, (omega arith, (omega arith, tt)))))
  each_entry (suc zero) h e = subst (λ (x : History). AllByRecursion (λ event. pass_of event < 3) x.events) (some_is (looks_by (2 ∷ [])) h e) (omega arith, tt)
  each_entry (suc (suc p)) h e = absurd cc

  -- nobody left
  no_leaves : (passes : List ℕ) → AllByRecursion IsNoLeave (looks_by passes).events
  no_leaves [] = tt
  no_leaves (by ∷ passes) = ((λ b t replica is. absurd cc), no_leaves passes)

  none_left : (p : ℕ) (h : History) → slice_get last_parts p ≡ Some h → LeftLate h.followers h.events
  none_left zero h e =
      let looks : List ℕ = 0 ∷ 2 ∷ 0 ∷ 2 ∷ 1 ∷ [] in
      subst (λ (x : History). LeftLate x.followers x.events) (some_is (looks_by looks) h e) (nobody_left 0 (looks_by looks).events (no_leaves looks))
  none_left (suc zero) h e = subst (λ (x : History). LeftLate x.followers x.events) (some_is (looks_by (2 ∷ [])) h e) (nobody_left 0 (looks_by (2 ∷ [])).events (no_leaves (2 ∷ [])))
  none_left (suc (suc p)) h e = absurd cc

  clock_known : AllByRecursion (λ event. IsOfSome 3 (clock_owner_of event)) last_clock
  clock_known =
      (of_some 0 3 (omega arith), (of_some 2 3 (omega arith), (of_nobody 3, (of_some 0 3 (omega arith), (of_some 2 3 (omega arith), (of_some 1 3 (omega arith), tt))))))

  counted : (winner : ℕ) → unwrap_or (slice_get (2 ∷ []) winner) 0 ≡ count_by (is_won_by winner) (all_calls_in (three_books one both))
  counted zero = refl
  counted (suc winner) = rw (ne_eqb 0 (suc winner) (λ e. omega (arith, e))) refl

  pub three_together : AreTogether two_parts (three_books one both) second_waits last_parts last_clock (2 ∷ [])
  three_together = record {
    histories = last_histories;
    each = each_with;
    known = all_known last_parts last_clock 3 each_known clock_known;
    known_entries = all_entries_known last_parts 3 each_entry;
    late = none_left;
    counts = counted;
  }

  pub three_each : (k : ℕ) (book : Book) → slice_get (three_books one both) k ≡ Some book → IsBook book (second_waits k)
  three_each zero book e = subst (λ (b : Book). IsBook b None) (some_is (expired_book one) book e) (expired one first)
  three_each (suc zero) book e = subst (λ (b : Book). IsBook b (Some fetch_waits)) (some_is (parked_book one) book e) (parked one first)
  three_each (suc (suc zero)) book e = subst (λ (b : Book). IsBook b None) (some_is (cut_book both) book e) (cut both second)
  three_each (suc (suc (suc k))) book e = absurd cc

  pub three_lawful : IsLawful (three_waits one both)
  three_lawful = books_lawful two_parts (three_books one both) second_waits last_parts last_clock (2 ∷ []) three_together three_each
