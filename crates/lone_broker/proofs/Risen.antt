-- What a clock line leaves where the moment rises: in each partition those who lag have left, and the clock has the tick.
use Rattle.std.proofs.Common.{◌≡◌, ℕ, ◌<◌, ◌≤◌, ◌+◌, Bool, true, false, cond, List, [], ◌∷◌, ◌++◌, length, get_or, take, drop, map, max, fold, set, Option, refl, sym, ap, subst, ◌∙◌, append-nil, arith}
use Rattle.std.proofs.lemmas.Bool.Decides.{nat_tests}
use Rattle.std.proofs.lemmas.List.{drop_all, length-map, take_all}
use Rattle.std.proofs.lemmas.List.Edits.{map_over_more}
use Rattle.std.proofs.lemmas.List.Elements.{filter_map-append}
use Rattle.std.proofs.lemmas.List.Sums.{fold_push}
use Rattle.std.specs.List.{filter_map}
use Rattle.std.specs.Prelude.{nat_lt}
use Rattle.partlog.specs.declared.clock_event.ClockEvent.{ClockEvent}
use Rattle.partlog.specs.declared.clock_event.ClockEvent.TheVariants.{Tick}
use Rattle.partlog.specs.History.{History}
use Rattle.partlog.specs.Moment.{moment_of, tick_of}
use Rattle.partlog.specs.Shrunk.{all_shrunk}
use Rattle.partlog.specs.Ticked.{ticked}
use Rattle.kwire.specs.Configuration.{Configuration}
use Rattle.trace_file.specs.declared.line.Line.TheVariants.{Clock}
use Rattle.audit.specs.broker.Board.{Board, Seat, Waiting}
use Rattle.audit.specs.broker.Play.{brought, ticked as risen}
use Rattle.lone_broker.specs.Kept.{AreKept, Kept, StandsFor, with_waiting}
use Rattle.lone_broker.specs.Steps.{IsTicked}
use Rattle.lone_broker.specs.declared.parked.Parked.{Parked}
use Rattle.lone_broker.proofs.Standing.{by_waiting, kept_as, stands_of, written}

-- ---- one partition after the other

abbrev pub shrunk_all : ℕ → List History → List History
shrunk_all t parts = map (λ (h : History). all_shrunk h 0 t) parts

pub shrunk_more : (t : ℕ) (before parts : List History) (i : ℕ) (h left : History) → i < length before → parts ≡ shrunk_all t (take i before) ++ drop i before → h ≡ get_or parts i h → left ≡ all_shrunk h 0 t
    → set parts i left ≡ shrunk_all t (take (i + 1) before) ++ drop (i + 1) before
shrunk_more t before parts i h left lt is at shrunk =
    ap (set parts i) shrunk ∙ map_over_more (λ (x : History). all_shrunk x 0 t) before parts i h lt is at

pub all_through : (t : ℕ) (before parts : List History) (i : ℕ) → length before ≤ i → parts ≡ shrunk_all t (take i before) ++ drop i before → parts ≡ shrunk_all t before
all_through t before parts i all is =
    is ∙ ap (λ (rest : List History). shrunk_all t (take i before) ++ rest) (drop_all i before all) ∙ append-nil (shrunk_all t (take i before)) ∙ ap (shrunk_all t) (take_all i before all)

shrunk_followers : (t : ℕ) (parts : List History) → map (λ (h : History). h.followers) (shrunk_all t parts) ≡ map (λ (h : History). h.followers) parts
shrunk_followers t [] = refl
shrunk_followers t (h ∷ parts) = ap (λ (ns : List ℕ). h.followers ∷ ns) (shrunk_followers t parts)

-- ---- what is kept then

-- the moment rose to this one
abbrev pub risen_to : Kept → ℕ → Kept
risen_to kept t = record kept { board = record kept.board { parts = shrunk_all t kept.board.parts; clock = kept.board.clock ++ Tick t ∷ [] } }

rises_so : (m t : ℕ) → m < t → nat_lt m t ≡ true
rises_so m t rises = grind (arith, nat_tests)

stays : (m t : ℕ) → ¬ (m < t) → nat_lt m t ≡ false
stays m t never = grind (arith, nat_tests)

are_risen : (kept : Kept) (waiting : List Waiting) (t : ℕ) → AreKept kept waiting → AreKept (risen_to kept t) waiting
are_risen kept waiting t are = record {
  waits = are.waits;
  seats = are.seats;
  parked = are.parked;
  followers = shrunk_followers t kept.board.parts ∙ are.followers;
  declared = are.declared;
}

pub risen_stands : (kept : Kept) (t : ℕ) → moment_of kept.board.clock < t → (board : Board) → StandsFor kept board → StandsFor (risen_to kept t) (brought board (Clock t))
risen_stands kept t rises =
    let next = risen_to kept t in
    by_waiting (λ board. StandsFor next (brought board (Clock t))) kept (λ waiting are.
    subst (λ (b : Bool). StandsFor next (cond b (risen (with_waiting kept waiting) t) (with_waiting kept waiting))) (sym (rises_so (moment_of kept.board.clock) t rises))
    (stands_of next waiting (are_risen kept waiting t are)))

pub still_stands : (kept : Kept) (t : ℕ) → ¬ (moment_of kept.board.clock < t) → (board : Board) → StandsFor kept board → StandsFor kept (brought board (Clock t))
still_stands kept t never =
    by_waiting (λ board. StandsFor kept (brought board (Clock t))) kept (λ waiting are.
    subst (λ (b : Bool). StandsFor kept (cond b (risen (with_waiting kept waiting) t) (with_waiting kept waiting))) (sym (stays (moment_of kept.board.clock) t never))
    (stands_of kept waiting are))

pub risen_ticked : (kept : Kept) (t : ℕ) → moment_of kept.board.clock < t → IsTicked kept (risen_to kept t)
risen_ticked kept t rises =
    let clock = kept.board.clock in
    let told : moment_of (clock ++ Tick t ∷ []) ≡ max (moment_of clock) t = ap (λ (l : List ℕ). fold max 0 l) (filter_map-append tick_of clock (Tick t ∷ [])) ∙ fold_push max 0 (filter_map tick_of clock) t in
    record {
      seats = refl;
      parked = refl;
      size = length-map kept.board.parts (λ (h : History). all_shrunk h 0 t);
      later = omega (arith, told);
    }

pub still_ticked : (kept : Kept) → IsTicked kept kept
still_ticked kept = record { seats = refl; parked = refl; size = refl; later = omega arith }

-- the histories and the clock are written back
pub risen_written : (config : Configuration) (parts lent after : List History) (clock later : List ClockEvent) (desks : List Seat) (parked : List (Option Parked)) (kept : Kept) (t : ℕ) → kept_as config parts clock desks parked ≡ kept
    → lent ≡ parts → after ≡ shrunk_all t lent → later ≡ ticked clock t → moment_of clock < t
    → kept_as config (take (length parts) (after ++ drop (length after) parts)) later desks parked ≡ risen_to kept t
risen_written config parts lent after clock later desks parked kept t view value is told rises =
    let same : after ≡ shrunk_all t parts = is ∙ ap (shrunk_all t) value in
    let size : length after ≡ length parts = ap length same ∙ length-map parts (λ (h : History). all_shrunk h 0 t) in
    let clock_is : later ≡ clock ++ Tick t ∷ [] = told ∙ ap (λ (b : Bool). cond b (clock ++ Tick t ∷ []) clock) (rises_so (moment_of clock) t rises) in
    ap (λ (ps : List History). kept_as config ps later desks parked) (written parts after size ∙ same)
    ∙ ap (λ (cs : List ClockEvent). kept_as config (shrunk_all t parts) cs desks parked) clock_is
    ∙ subst (λ (k : Kept). kept_as config (shrunk_all t parts) (clock ++ Tick t ∷ []) desks parked ≡ risen_to k t) view refl

-- nothing is, where the moment didn't rise
pub still_written : (config : Configuration) (parts : List History) (clock later : List ClockEvent) (desks : List Seat) (parked : List (Option Parked)) (kept : Kept) (t : ℕ) → kept_as config parts clock desks parked ≡ kept
    → later ≡ ticked clock t → ¬ (moment_of clock < t) → kept_as config parts later desks parked ≡ kept
still_written config parts clock later desks parked kept t view told never =
    ap (λ (cs : List ClockEvent). kept_as config parts cs desks parked) (told ∙ ap (λ (b : Bool). cond b (clock ++ Tick t ∷ []) clock) (stays (moment_of clock) t never)) ∙ view
