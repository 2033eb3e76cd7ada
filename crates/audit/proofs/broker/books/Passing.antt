-- What others do changes nothing that a pass knows, between its calls and amid one.
use Rattle.std.proofs.Common.{◌≡◌, ℕ, ◌<◌, Bool, true, false, cond, eqb, List, map, Option, Some, None, unwrap_or, refl, subst, [], ◌∷◌, ◌++◌}
use Rattle.std.specs.Prelude.{slice_get}
use Rattle.std.specs.List.{AllByRecursion}
use Rattle.partlog.specs.declared.clock_event.ClockEvent.{ClockEvent}
use Rattle.partlog.specs.declared.clock_event.ClockEvent.TheVariants as clocks
use Rattle.partlog.specs.declared.event.PartEvent.{PartEvent}
use Rattle.partlog.specs.History.{History}
use Rattle.partlog.specs.Moment.{moment_of}
use Rattle.partlog.specs.State.{PartState as State}
use Rattle.audit.specs.declared.account.Point.{Point}
use Rattle.audit.specs.Histories.{Owner, owner_of, clock_owner_of}
use Rattle.kanswer.specs.Decisions.{Decision}
use Rattle.kwire.specs.Configuration.{Configuration}
use Rattle.kwire.specs.declared.request.Request.{Request}
use Rattle.audit.specs.broker.Board.{Waiting, empty_history}
use Rattle.audit.specs.broker.Entering.{Noted}
use Rattle.audit.specs.broker.GoesOn.{the_owner}
use Rattle.audit.specs.broker.Kept.{owners_here, owners_at}
use Rattle.audit.specs.broker.Sound.{AreHistories}
use Rattle.audit.specs.broker.Timely.{events_at, pass_of}
use Rattle.audit.proofs.broker.Laws.{all_get, get_map, ticks_rise}
use Rattle.audit.specs.broker.books.Accepting.{IsAccepting}
use Rattle.audit.specs.broker.books.Book.{Book}
use Rattle.audit.specs.broker.books.Finishing.{IsDelayed, IsFinishing}
use Rattle.audit.specs.broker.books.IsBook.{IsBook}
use Rattle.audit.specs.broker.books.Owned.{NotOf, OthersAlone, OwnWithin}
use Rattle.audit.specs.broker.books.Together.{GoesWith, IsAnswerableIn}
use Rattle.audit.specs.broker.books.Underway.{Underway}
use Rattle.audit.proofs.broker.books.Acceptings.{others_accepting}
use Rattle.audit.proofs.broker.books.Coming.{clock_came, clock_histories, others_grown, others_within}
use Rattle.audit.proofs.broker.books.Finishings.{others_delayed, others_finishing}
use Rattle.audit.proofs.broker.books.Growing.{as_many}
use Rattle.audit.proofs.broker.books.Underways.{others_came}

within : (config : Configuration) (number : ℕ) (parts later : List History) (clock behind : List ClockEvent) → OthersAlone number parts clock later behind → AreHistories config parts clock → AreHistories config later behind
    → OwnWithin number parts clock later behind
within config number parts later clock behind came was histories = others_within number parts later clock behind came (as_many config parts later clock behind was histories)

pub others_between : (book : Book) (waits : Option Waiting) (later : List History) (behind : List ClockEvent) → OthersAlone book.number book.parts book.clock later behind → AreHistories book.config later behind → IsBook book waits
    → IsBook (record book { parts = later; clock = behind }) waits
others_between book waits later behind came histories h =
    others_came book waits later behind (others_grown book.number book.parts later book.clock behind came) (within book.config book.number book.parts later book.clock behind came h.histories histories) histories h

-- the pass tells the clock a later moment; a tick is nobody's
pub ticked : (book : Book) (waits : Option Waiting) (t : ℕ) → moment_of book.clock < t → IsBook book waits → IsBook (record book { clock = book.clock ++ clocks.Tick t ∷ [] }) waits
ticked book waits t later h =
    others_between book waits book.parts (book.clock ++ clocks.Tick t ∷ []) (clock_came book.number book.parts book.clock (clocks.Tick t ∷ []) (nobodys_tick, tt))
    (clock_histories book.config book.parts book.clock (book.clock ++ clocks.Tick t ∷ []) (ticks_rise book.clock t h.histories.ticks later) h.histories) h
  where
    nobodys_tick : NotOf book.number (clock_owner_of (clocks.Tick t))
    nobodys_tick seq e = absurd cc

pub others_amid_accepting : (u : Underway) (request : Request) (decisions : List Decision) (reached : ℕ) (noted : List Noted) (later : List History) (behind : List ClockEvent) → OthersAlone u.number u.parts u.clock later behind
    → AreHistories u.config later behind → IsAccepting u request decisions reached noted → IsAccepting (record u { parts = later; clock = behind }) request decisions reached noted
others_amid_accepting u request decisions reached noted later behind came histories h =
    others_accepting u request decisions reached noted later behind (others_grown u.number u.parts later u.clock behind came)
    (within u.config u.number u.parts later u.clock behind came h.underway.histories histories) histories h

pub others_amid_delayed : (u : Underway) (w : Waiting) (later : List History) (behind : List ClockEvent) → OthersAlone u.number u.parts u.clock later behind → AreHistories u.config later behind → IsDelayed u w
    → IsDelayed (record u { parts = later; clock = behind }) w
others_amid_delayed u w later behind came histories h =
    others_delayed u w later behind (others_grown u.number u.parts later u.clock behind came) (within u.config u.number u.parts later u.clock behind came h.underway.histories histories) histories h

pub others_amid_finishing : (u : Underway) (w : Waiting) (late : Option Point) (states : List State) (later : List History) (behind : List ClockEvent) → OthersAlone u.number u.parts u.clock later behind
    → AreHistories u.config later behind → IsFinishing u w late states → IsFinishing (record u { parts = later; clock = behind }) w late states
others_amid_finishing u w late states later behind came histories h =
    others_finishing u w late states later behind (others_grown u.number u.parts later u.clock behind came)
    (within u.config u.number u.parts later u.clock behind came h.delayed.underway.histories histories) histories h

-- ---- as the run is closed

-- what came behind what the pass saw is others'
pub goes_with : (config : Configuration) (finals : List History) (clock : List ClockEvent) (k : ℕ) (book : Book) (waits : Option Waiting) → book.number ≡ k → book.config ≡ config → IsBook book waits
    → OthersAlone k book.parts book.clock finals clock → AreHistories config finals clock → ((w : Waiting) → waits ≡ Some w → IsAnswerableIn finals clock w → ⊥) → GoesWith config finals clock k book waits
goes_with config finals clock k book waits number same h came histories still = record {
  number = number;
  same = same;
  grown = others_grown k book.parts finals book.clock clock came;
  within = within config k book.parts finals book.clock clock came (subst (λ (c : Configuration). AreHistories c book.parts book.clock) same h.histories) histories;
  still = still;
}

-- an entry of one of so many passes, or of nobody
abbrev pub IsOfSome : ℕ → Option Owner → Type 0
IsOfSome n owner = (by seq : ℕ) → owner ≡ the_owner by seq → by < n

owner_known : {X : Type 0} (owner : X → Option Owner) (n : ℕ) (events : List X) (place by seq : ℕ) → AllByRecursion (λ event. IsOfSome n (owner event)) events → slice_get (map owner events) place ≡ Some (the_owner by seq) → by < n
owner_known {X = X} owner n events place by seq all e =
    let event = get_map owner events place (the_owner by seq) e in
    all_get (λ (x : X). IsOfSome n (owner x)) events place event.0 all event.1 by seq event.2

pub all_known : (finals : List History) (clock : List ClockEvent) (n : ℕ) → ((p : ℕ) (h : History) → slice_get finals p ≡ Some h → AllByRecursion (λ event. IsOfSome n (owner_of event)) h.events)
    → AllByRecursion (λ event. IsOfSome n (clock_owner_of event)) clock → (part place by seq : ℕ) → slice_get (owners_at finals clock part) place ≡ Some (the_owner by seq) → by < n
all_known finals clock n parts ticks part place by seq e = by_test (eqb part 64) (slice_get finals part) refl e
  where
    by_test : (b : Bool) (o : Option History) → slice_get finals part ≡ o → slice_get (cond b (map clock_owner_of clock) (owners_here o)) place ≡ Some (the_owner by seq) → by < n
    by_test true o is f = owner_known clock_owner_of n clock place by seq ticks f
    by_test false None is f = absurd cc
    by_test false (Some h) is f = owner_known owner_of n h.events place by seq (parts part h is) f

-- every entry of a partition names one of so many passes, whether a call left it or not
pub all_entries_known : (finals : List History) (n : ℕ) → ((p : ℕ) (h : History) → slice_get finals p ≡ Some h → AllByRecursion (λ event. pass_of event < n) h.events)
    → (part place : ℕ) (event : PartEvent) → slice_get (events_at finals part) place ≡ Some event → pass_of event < n
all_entries_known finals n parts part place event e = by_case (slice_get finals part) refl e
  where
    by_case : (o : Option History) → slice_get finals part ≡ o → slice_get ((unwrap_or o (empty_history 0)).events) place ≡ Some event → pass_of event < n
    by_case None is f = absurd cc
    by_case (Some h) is f = all_get (λ (event : PartEvent). pass_of event < n) h.events place event (parts part h is) f
