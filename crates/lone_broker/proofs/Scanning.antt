-- A scan goes through the suspects alone, and the next to act is the least that can.
use Rattle.std.proofs.Common.{◌≡◌, ℕ, zero, suc, ◌+◌, ◌-◌, ◌<◌, ◌≤◌, Bool, true, false, not, ◌&&◌, List, [], ◌∷◌, length, map, replicate, Option, Some, None, unwrap_or, refl, sym, ap, subst, ◌∙◌, arith}
use Rattle.std.proofs.lemmas.List.{length-map}
use Rattle.std.specs.Prelude.{is_some, slice_get}
use Rattle.partlog.specs.Gauges.{numbers_of}
use Rattle.partlog.specs.History.{History}
use Rattle.partlog.specs.Moment.{moment_of as clock_moment}
use Rattle.partlog.specs.State.{state_of}
use Rattle.partlog.specs.declared.numbers.Numbers.{Numbers}
use Rattle.kwire.specs.Configuration.{Configuration}
use Rattle.lone_broker.specs.index.Index.{Index, IsSuspect, moment_of}
use Rattle.lone_broker.specs.index.Sessions.{Has, IsLeastFrom}
use Rattle.lone_broker.specs.index.Waiting.{IsIdle}
use Rattle.audit.specs.broker.Acting.{has_work, next_to_act}
use Rattle.audit.specs.broker.Board.{Board, Seat, empty_seat, opening, seat_at}
use Rattle.audit.specs.broker.Completing.{answered_in}
use Rattle.lone_broker.specs.Kept.{Kept, MatchesWaiting, StandsFor, TurnsBy, parked_at}
use Rattle.lone_broker.specs.Steps.{is_ready}
use Rattle.lone_broker.specs.Watching.{AreTold, IsIndexed, IsQuiet, IsWatched, numbers_now, told_at}
use Rattle.lone_broker.specs.declared.parked.Parked.{Parked}
use Rattle.lone_broker.specs.declared.watched.Watched.{Watched}
use Rattle.lone_broker.proofs.Completes.{nothing_due}
use Rattle.lone_broker.proofs.Turning.{ScannedBelow, its_turn, nobodys_turn, scanned_more, turned, turns_none, turns_on}
use Rattle.lone_broker.proofs.Watching.{can_as_ready, not_true, undue}

-- ---- who is no suspect isn't answered

unsuspected : (w : Watched) (s : ℕ) → IsWatched w → ¬ IsSuspect w.waiters s → (board : Board) → StandsFor w.engine board → answered_in board s ≡ turned board []
unsuspected w s h never board stands =
    nothing_due board s (undue w.engine w.told s h.told (subst (λ (m : ℕ). IsQuiet w.told m (parked_at w.engine s)) h.moment (h.waits.quiet s never)) board stands)

skip_one : (w : Watched) (start : Kept) (text more : List ℕ) (n : ℕ) → IsWatched w → ¬ IsSuspect w.waiters n → TurnsBy (ScannedBelow n) start w.engine text more → TurnsBy (ScannedBelow (n + 1)) start w.engine text more
skip_one w start text more n h never turns =
    turns_on (ScannedBelow n) (λ board t. t ≡ answered_in board n) (ScannedBelow (n + 1)) start w.engine w.engine text more more (λ x p q. scanned_more n x p q) turns
    (turns_none (λ board t. t ≡ answered_in board n) w.engine more (λ board stands. sym (unsuspected w n h never board stands)))

skip_on : (w : Watched) (start : Kept) (text more : List ℕ) (from d : ℕ) → IsWatched w → ((j : ℕ) → from ≤ j → j < from + d → ¬ IsSuspect w.waiters j)
    → TurnsBy (ScannedBelow from) start w.engine text more → TurnsBy (ScannedBelow (from + d)) start w.engine text more
skip_on w start text more from zero h none turns =
    let same : from ≡ from + 0 = omega arith in
    subst (λ (n : ℕ). TurnsBy (ScannedBelow n) start w.engine text more) same turns
skip_on w start text more from (suc d) h none turns =
    let front = skip_on w start text more from d h (λ j low less. none j low (omega (arith, less))) turns in
    let next : from + d + 1 ≡ from + suc d = omega arith in
    subst (λ (n : ℕ). TurnsBy (ScannedBelow n) start w.engine text more) next (skip_one w start text more (from + d) h (none (from + d) (omega arith) (omega arith)) front)

-- up to this session nobody is a suspect
pub skipped : (w : Watched) (start : Kept) (text more : List ℕ) (from session : ℕ) → IsWatched w → from ≤ session → ((j : ℕ) → from ≤ j → j < session → ¬ IsSuspect w.waiters j)
    → TurnsBy (ScannedBelow from) start w.engine text more → TurnsBy (ScannedBelow session) start w.engine text more
skipped w start text more from session h low none turns =
    let all : from + (session - from) ≡ session = omega (arith, low) in
    subst (λ (n : ℕ). TurnsBy (ScannedBelow n) start w.engine text more) all
    (skip_on w start text more from (session - from) h (λ j at less. none j at (omega (arith, low, less))) turns)

-- before the least suspect there is none
pub none_before : (w : Watched) (from session : ℕ) → IsLeastFrom w.waiters.suspects from session → (j : ℕ) → from ≤ j → j < session → ¬ IsSuspect w.waiters j
none_before w from session found j low less was = absurd (omega (arith, less, found.least j low was))

-- ---- whose turn it is

pub turn_of : (w : Watched) (session : ℕ) → IsWatched w → IsLeastFrom w.ready 0 session → session < 64 → (board : Board) → StandsFor w.engine board → next_to_act board ≡ Some session
turn_of w session h found there board stands =
    its_turn board session there (can_as_ready w.engine session board stands ∙ (h.ready session there).0 found.member)
    (λ j less. can_as_ready w.engine j board stands ∙ not_true (is_ready w.engine j) (λ is. before j less (found.least j (omega arith) ((h.ready j (omega (arith, less, there))).1 is))))
  where
    before : (j : ℕ) → j < session → session ≤ j → ⊥
    before j less at = absurd (omega (arith, less, at))

pub nobody_of : (w : Watched) → IsWatched w → ((session : ℕ) → ¬ Has w.ready session) → (board : Board) → StandsFor w.engine board → next_to_act board ≡ None
nobody_of w h none board stands =
    nobodys_turn board (λ j less. can_as_ready w.engine j board stands ∙ not_true (is_ready w.engine j) (λ is. none j ((h.ready j less).1 is)))

-- ---- before the first line

told_map : (parts : List History) (part : ℕ) → told_at (map (λ (h : History). numbers_of (state_of h)) parts) part ≡ numbers_now parts part
told_map [] part = refl
told_map (h ∷ parts) zero = refl
told_map (h ∷ parts) (suc part) = told_map parts part

all_told : (parts : List History) (told : List Numbers) → told ≡ map (λ (h : History). numbers_of (state_of h)) parts → AreTold told parts
all_told parts told is = record {
  size = ap (λ (ns : List Numbers). length ns) is ∙ length-map parts (λ (h : History). numbers_of (state_of h));
  each = λ part. ap (λ (ns : List Numbers). told_at ns part) is ∙ told_map parts part;
}

nothing_kept : (parts : ℕ) (frame : List ℕ) (o : Option Parked) → MatchesWaiting parts frame o None → o ≡ None
nothing_kept parts frame None m = refl
nothing_kept parts frame (Some p) m = absurd m

empty_at : (n s : ℕ) → unwrap_or (slice_get (replicate n empty_seat) s) empty_seat ≡ empty_seat
empty_at zero s = refl
empty_at (suc n) zero = refl
empty_at (suc n) (suc s) = empty_at n s

and_false : (b : Bool) → (b && false) ≡ false
and_false true = refl
and_false false = refl

pub opened_watched : (engine : Kept) (config : Configuration) (told : List Numbers) (index : Index) (set : ℕ) → StandsFor engine (opening config) → told ≡ map (λ (h : History). numbers_of (state_of h)) engine.board.parts
    → IsIdle index → ((s : ℕ) → ¬ IsSuspect index s) → ((s : ℕ) → ¬ Has set s) → IsWatched (record { engine = engine; told = told; waiters = index; ready = set })
opened_watched engine config told index set stands is idle no_suspect nobody =
    let clock : [] ≡ engine.board.clock = ap (λ (b : Board). b.clock) stands.same in
    let seats : replicate 64 empty_seat ≡ engine.board.seats = ap (λ (b : Board). b.seats) stands.same in
    let free : (s : ℕ) → parked_at engine s ≡ None = λ s. nothing_kept _ _ (parked_at engine s) (stands.kept_of.waits s) in
    let seat : (s : ℕ) → seat_at engine.board s ≡ empty_seat = λ s. sym (ap (λ (ss : List Seat). unwrap_or (slice_get ss s) empty_seat) seats) ∙ empty_at 64 s in
    let quiet_seat : (s : ℕ) → is_ready engine s ≡ false = λ s. ap (λ (x : Seat). not (is_some (parked_at engine s)) && has_work x) (seat s) ∙ and_false (not (is_some (parked_at engine s))) in
    record {
      stands = (opening config, stands);
      told = all_told engine.board.parts told is;
      moment = idle.moment ∙ ap clock_moment clock;
      waits = record {
        indexed = λ s. subst (IsIndexed index s) (sym (free s)) (record { gauges = idle.gauges s; coming = idle.coming s });
        quiet = λ s never. subst (IsQuiet told (moment_of index)) (sym (free s)) tt;
      };
      generations = λ s. omega (arith, idle.last s);
      ready = λ s there. (λ has. absurd (nobody s has), λ e. let other : true ≡ false = sym e ∙ quiet_seat s in absurd cc);
    }
