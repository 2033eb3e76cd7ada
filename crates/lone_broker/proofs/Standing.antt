-- What is kept stands for a board: how it goes on to where one session's seat changes, and what is written back into the fields.
use Rattle.std.proofs.Common.{◌≡◌, ◌≢◌, ℕ, ◌<◌, List, [], ◌++◌, length, get_or, take, drop, map, set, Option, Some, None, unwrap_or, refl, sym, ap, subst, ◌∙◌, arith, inl, inr}
use Rattle.std.proofs.lemmas.List.{length-set, set-get_or, take_at}
use Rattle.std.proofs.lemmas.Option.{unwrap_or-slice_get}
use Rattle.std.specs.Prelude.{slice_get}
use Rattle.partlog.specs.declared.clock_event.ClockEvent.{ClockEvent}
use Rattle.partlog.specs.History.{History}
use Rattle.kwire.specs.Configuration.{Configuration, partitions_of}
use Rattle.audit.specs.declared.account.Call.{Call}
use Rattle.audit.specs.broker.Board.{Board, Seat, Waiting, empty_seat, seat_at, transcript_at}
use Rattle.lone_broker.specs.Desks.{transcript_of}
use Rattle.lone_broker.specs.Kept.{AreKept, Kept, MatchesWaiting, StandsFor, last_frame, parked_at, waiting_in, with_waiting}
use Rattle.lone_broker.specs.declared.parked.Parked.{Parked}
use Rattle.kbytes.proofs.Laws.{same_or_not, get_set_same, get_set_other, get_there}

-- ---- fields

abbrev pub kept_as : Configuration → List History → List ClockEvent → List Seat → List (Option Parked) → Kept
kept_as config parts clock seats parked =
    record { board = record { config = config; parts = parts; clock = clock; seats = seats; waiting = [] }; parked = parked }

-- what was lent and comes back
pub written : {X : Type 0} (old new : List X) → length new ≡ length old → take (length old) (new ++ drop (length new) old) ≡ new
written old new len = take_at new (drop (length new) old) (length old) len

pub one_written : {X : Type 0} (old lent : List X) (s : ℕ) (x : X) → lent ≡ old → take (length old) (set lent s x ++ drop (length (set lent s x)) old) ≡ set old s x
one_written old lent s x e = written old (set lent s x) (length-set lent s x ∙ ap length e) ∙ ap (λ (xs : List _). set xs s x) e

-- the seat that is shown at a place
pub seat_shown : (kept view : Kept) (shown : List Seat) (s : ℕ) (seat : Seat) → view ≡ kept → shown ≡ view.board.seats → s < length kept.board.seats → seat ≡ get_or shown s seat → seat_at kept.board s ≡ seat
seat_shown kept view shown s seat is shows lt at =
    let all : shown ≡ kept.board.seats = shows ∙ ap (λ (k : Kept). k.board.seats) is in
    let here : seat ≡ get_or kept.board.seats s seat = at ∙ ap (λ (xs : List Seat). get_or xs s seat) all in
    ap (λ (o : Option Seat). unwrap_or o empty_seat) (get_there kept.board.seats s seat lt ∙ ap Some (unwrap_or-slice_get kept.board.seats s seat ∙ sym here))

-- what is kept of the request that waits there
pub parked_shown : (kept view : Kept) (shown : List (Option Parked)) (s : ℕ) (slot : Option Parked) → view ≡ kept → shown ≡ view.parked → s < length kept.parked → slot ≡ get_or shown s slot → parked_at kept s ≡ slot
parked_shown kept view shown s slot is shows lt at =
    let all : shown ≡ kept.parked = shows ∙ ap (λ (k : Kept). k.parked) is in
    let here : slot ≡ get_or kept.parked s slot = at ∙ ap (λ (xs : List (Option Parked)). get_or xs s slot) all in
    ap (λ (o : Option (Option Parked)). unwrap_or o None) (get_there kept.parked s slot lt ∙ ap Some (unwrap_or-slice_get kept.parked s slot ∙ sym here))

-- a session's seat is another
abbrev pub reseated : Kept → ℕ → Seat → Kept
reseated kept session seat = record kept { board = record kept.board { seats = set kept.board.seats session seat } }

pub desk_changed : (config : Configuration) (parts : List History) (clock : List ClockEvent) (desks lent : List Seat) (parked : List (Option Parked)) (kept : Kept) (session : ℕ) (change : Seat → Seat) (shown desk : Seat)
    → kept_as config parts clock desks parked ≡ kept → session < length kept.board.seats → lent ≡ desks → shown ≡ get_or lent session shown → desk ≡ change (get_or lent session shown)
    → kept_as config parts clock (take (length desks) (set lent session desk ++ drop (length (set lent session desk)) desks)) parked ≡ reseated kept session (change (seat_at kept.board session))
desk_changed config parts clock desks lent parked kept session change shown desk view there value at takes =
    let seat = seat_shown kept (kept_as config parts clock desks parked) lent session shown view value there at in
    let took : desk ≡ change (seat_at kept.board session) = takes ∙ ap change (sym (seat ∙ at)) in
    ap (λ (ss : List Seat). kept_as config parts clock ss parked) (one_written desks lent session desk value ∙ ap (set desks session) took)
    ∙ subst (λ (k : Kept). kept_as config parts clock (set desks session (change (seat_at k.board session))) parked ≡ reseated k session (change (seat_at k.board session))) view refl

-- ---- seats

pub seat_set_same : (seats : List Seat) (s : ℕ) (seat : Seat) → s < length seats → unwrap_or (slice_get (set seats s seat) s) empty_seat ≡ seat
seat_set_same seats s seat lt = ap (λ (o : Option Seat). unwrap_or o empty_seat) (get_set_same seats s seat lt)

pub seat_set_other : (seats : List Seat) (s t : ℕ) (seat : Seat) → t ≢ s → unwrap_or (slice_get (set seats s seat) t) empty_seat ≡ unwrap_or (slice_get seats t) empty_seat
seat_set_other seats s t seat ne = ap (λ (o : Option Seat). unwrap_or o empty_seat) (get_set_other seats s t seat ne)

-- ---- what is kept goes on to stand for a board

-- for whatever holds of the boards
pub by_waiting : (P : Board → Type 0) (kept : Kept) → ((waiting : List Waiting) → AreKept kept waiting → P (with_waiting kept waiting)) → (board : Board) → StandsFor kept board → P board
by_waiting P kept all board stands = subst P (sym stands.same) (all board.waiting stands.kept_of)

pub stands_of : (kept : Kept) (waiting : List Waiting) → AreKept kept waiting → StandsFor kept (with_waiting kept waiting)
stands_of kept waiting are = record { same = refl; kept_of = are }

-- the histories, one session's seat and its request that waits are others
abbrev pub moved : Kept → List History → List ClockEvent → ℕ → Seat → Option Parked → Kept
moved kept parts clock session seat slot = record {
  board = record kept.board { parts = parts; clock = clock; seats = set kept.board.seats session seat };
  parked = set kept.parked session slot;
}

module _ (kept : Kept) (waiting later : List Waiting) (parts : List History) (clock : List ClockEvent) (session : ℕ) (seat : Seat) (slot : Option Parked) (are : AreKept kept waiting) (there : session < 64) where
  abbrev next : Kept
  next = moved kept parts clock session seat slot

  abbrev Matches : List Call → Option Parked → Option Waiting → Type 0
  Matches calls o w = MatchesWaiting (partitions_of kept.board.config.topics) (last_frame calls) o w

  here : Matches (transcript_of session seat).calls slot (waiting_in later session) → (s : ℕ) → s ≡ session → Matches (transcript_at next.board s).calls (parked_at next s) (waiting_in later s)
  here matches s same =
      let sat : seat_at next.board session ≡ seat = seat_set_same kept.board.seats session seat (omega (arith, are.seats, there)) in
      let kept_there : parked_at next session ≡ slot = ap (λ (o : Option (Option Parked)). unwrap_or o None) (get_set_same kept.parked session slot (omega (arith, are.parked, there))) in
      subst (λ (k : ℕ). Matches (transcript_at next.board k).calls (parked_at next k) (waiting_in later k)) (sym same)
      (subst (λ (x : Seat). Matches (transcript_of session x).calls (parked_at next session) (waiting_in later session)) (sym sat)
      (subst (λ (o : Option Parked). Matches (transcript_of session seat).calls o (waiting_in later session)) (sym kept_there) matches))

  elsewhere : ((s : ℕ) → s ≢ session → waiting_in later s ≡ waiting_in waiting s) → (s : ℕ) → s ≢ session → Matches (transcript_at next.board s).calls (parked_at next s) (waiting_in later s)
  elsewhere others s other =
      let sat : seat_at next.board s ≡ seat_at kept.board s = seat_set_other kept.board.seats session s seat other in
      let kept_there : parked_at next s ≡ parked_at kept s = ap (λ (o : Option (Option Parked)). unwrap_or o None) (get_set_other kept.parked session s slot other) in
      subst (λ (x : Seat). Matches (transcript_of s x).calls (parked_at next s) (waiting_in later s)) (sym sat)
      (subst (λ (o : Option Parked). Matches (transcript_at kept.board s).calls o (waiting_in later s)) (sym kept_there)
      (subst (λ (w : Option Waiting). Matches (transcript_at kept.board s).calls (parked_at kept s) w) (sym (others s other)) (are.waits s)))

  pub are_moved : map (λ (h : History). h.followers) parts ≡ map (λ (h : History). h.followers) kept.board.parts → Matches (transcript_of session seat).calls slot (waiting_in later session)
      → ((s : ℕ) → s ≢ session → waiting_in later s ≡ waiting_in waiting s) → AreKept (moved kept parts clock session seat slot) later
  are_moved followers matches others = record {
    waits = λ s. elim (same_or_not s session) [ inl same ↦ here matches s same | inr other ↦ elsewhere others s other ];
    seats = length-set kept.board.seats session seat ∙ are.seats;
    parked = length-set kept.parked session slot ∙ are.parked;
    followers = followers ∙ are.followers;
    declared = are.declared;
  }

-- nothing else of it changes
same_slot : (kept : Kept) (session : ℕ) → set kept.parked session (parked_at kept session) ≡ kept.parked
same_slot kept session = ap (set kept.parked session) (unwrap_or-slice_get kept.parked session None) ∙ set-get_or kept.parked session None

pub still_kept : (kept : Kept) (session : ℕ) (seat : Seat) (parts : List History) (clock : List ClockEvent)
    → moved kept parts clock session seat (parked_at kept session) ≡ record kept { board = record kept.board { parts = parts; clock = clock; seats = set kept.board.seats session seat } }
still_kept kept session seat parts clock =
    ap (λ (slots : List (Option Parked)). let k : Kept = record { board = record kept.board { parts = parts; clock = clock; seats = set kept.board.seats session seat }; parked = slots } in k) (same_slot kept session)

pub are_reseated : (kept : Kept) (waiting : List Waiting) (session : ℕ) (seat : Seat) → AreKept kept waiting → session < 64
    → last_frame (transcript_of session seat).calls ≡ last_frame (transcript_at kept.board session).calls → AreKept (reseated kept session seat) waiting
are_reseated kept waiting session seat are there same =
    subst (λ (k : Kept). AreKept k waiting) (still_kept kept session seat kept.board.parts kept.board.clock)
    (are_moved kept waiting waiting kept.board.parts kept.board.clock session seat (parked_at kept session) are there refl
    (subst (λ (frame : List ℕ). MatchesWaiting (partitions_of kept.board.config.topics) frame (parked_at kept session) (waiting_in waiting session)) (sym same) (are.waits session))
    (λ s other. refl))

-- the histories, one session's seat and what is kept of its request are written back
pub all_written : (config : Configuration) (parts after : List History) (clock later : List ClockEvent) (desks lent : List Seat) (slots lent_slots : List (Option Parked)) (kept : Kept) (session : ℕ) (change : Seat → Seat) (shown desk : Seat) (slot : Option Parked)
    → kept_as config parts clock desks slots ≡ kept → session < length kept.board.seats → length after ≡ length parts → lent ≡ desks → shown ≡ get_or lent session shown → desk ≡ change (get_or lent session shown) → lent_slots ≡ slots
    → kept_as config (take (length parts) (after ++ drop (length after) parts)) later (take (length desks) (set lent session desk ++ drop (length (set lent session desk)) desks)) (take (length slots) (set lent_slots session slot ++ drop (length (set lent_slots session slot)) slots))
    ≡ moved kept after later session (change (seat_at kept.board session)) slot
all_written config parts after clock later desks lent slots lent_slots kept session change shown desk slot view there size value at takes slots_are =
    let seat = seat_shown kept (kept_as config parts clock desks slots) lent session shown view value there at in
    let took : desk ≡ change (seat_at kept.board session) = takes ∙ ap change (sym (seat ∙ at)) in
    let d = one_written desks lent session desk value ∙ ap (set desks session) took in
    let o = one_written slots lent_slots session slot slots_are in
    ap (λ (ps : List History). kept_as config ps later (take (length desks) (set lent session desk ++ drop (length (set lent session desk)) desks)) (take (length slots) (set lent_slots session slot ++ drop (length (set lent_slots session slot)) slots))) (written parts after size)
    ∙ ap (λ (ds : List Seat). kept_as config after later ds (take (length slots) (set lent_slots session slot ++ drop (length (set lent_slots session slot)) slots))) d
    ∙ ap (kept_as config after later (set desks session (change (seat_at kept.board session)))) o
    ∙ subst (λ (k : Kept). kept_as config after later (set desks session (change (seat_at k.board session))) (set slots session slot) ≡ moved k after later session (change (seat_at k.board session)) slot) view refl
