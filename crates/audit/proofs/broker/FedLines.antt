-- What a board is to the lines that it was fed: what each session received is the frames of its calls, and what follows them.
use Rattle.std.proofs.Common.{◌≡◌, ◌≢◌, ℕ, suc, ◌+◌, ◌<◌, Bool, true, false, ◌||◌, cond, eqb, max, List, [], ◌∷◌, ◌++◌, length, drop, set, Option, Some, None, unwrap_or, MatchBool, refl, sym, ap, subst, ◌∙◌, arith, inl, inr, append-nil, append_assoc, eq-eqb}
use Rattle.std.proofs.lemmas.Bool.{or_cases, eqb-true, cases_Bool, ne_eqb, or_right, ltb-true}
use Rattle.std.proofs.Math.Bool.{or-false}
use Rattle.std.proofs.lemmas.List.{length-set, length-replicate}
use Rattle.std.proofs.lemmas.List.Folds.{list_any-append}
use Rattle.std.proofs.lemmas.List.Sums.{fold-append}
use Rattle.std.proofs.lemmas.List.Elements.{filter_map-append}
use Rattle.std.proofs.lemmas.Grind.{flat_map-append}
use Rattle.std.specs.Prelude.{slice_get, nat_lt}
use Rattle.std.specs.List.{AllByRecursion, filter_map, flat_map, fold}
use Rattle.partlog.specs.declared.clock_event.ClockEvent.{ClockEvent}
use Rattle.partlog.specs.declared.clock_event.ClockEvent.TheVariants as clocks
use Rattle.partlog.specs.Moment.{moment_of, tick_of}
use Rattle.audit.specs.declared.account.Transcript.{Transcript}
use Rattle.audit.specs.declared.account.Call.{Call}
use Rattle.audit.specs.declared.account.CallHow.{CallHow}
use Rattle.audit.specs.declared.account.Point.{Point}
use Rattle.audit.specs.declared.account.SessionEnd.{SessionEnd}
use Rattle.audit.specs.declared.account.SessionEnd.TheVariants.{Closed, Truncated, FrameTooLong, Refused, CallsFull, ReadFault, WriteFault, NoMemory}
use Rattle.audit.specs.Fits.{EndFits}
use Rattle.audit.specs.Histories.{ticks_of}
use Rattle.kbytes.proofs.Laws.{same_or_not, get_set_same, get_set_other, all_append}
use Rattle.kwire.specs.declared.frame.Frame.TheVariants.{Whole, TooLong}
use Rattle.kwire.specs.Configuration.{Configuration}
use Rattle.kwire.specs.Frames.{framed, IsFrameBody, next_frame_of}
use Rattle.kwire.proofs.Laws.{frame_kept}
use Rattle.trace_file.specs.declared.line.Line.{Line}
use Rattle.trace_file.specs.declared.line.Line.TheVariants.{Topic, Feed, Shut, Clock, End}
use Rattle.trace_file.specs.Contents.{bytes_in, names, shuts, input_of, is_named, is_shut, sessions_of, rising_from}
use Rattle.audit.specs.broker.Acting.{is_there, shows_work}
use Rattle.audit.specs.broker.Board.{Board, Seat, empty_seat, new_transcript, seat_at, transcript_at, opening}
use Rattle.audit.specs.broker.Completing.{finish_last}
use Rattle.audit.specs.broker.Play.{brought, ticked}
use Rattle.audit.specs.broker.Turns.{seat_with}
use Rattle.audit.proofs.broker.Cases.{neither, no_end}
use Rattle.audit.proofs.broker.Playing.{empty_there, ticks_more}

-- ---- the lines

pub input_unnamed : (s : ℕ) (lines : List Line) → is_named s lines ≡ false → input_of s lines ≡ []
input_unnamed s [] missing = refl
input_unnamed s (Topic n p f m ∷ lines) missing = input_unnamed s lines missing
input_unnamed s (Feed session bytes ∷ lines) missing =
    let parts = neither (eqb session s) (is_named s lines) missing in
    rw parts.0 (input_unnamed s lines parts.1)
input_unnamed s (Shut session ∷ lines) missing = input_unnamed s lines (neither (eqb session s) (is_named s lines) missing).1
input_unnamed s (Clock t ∷ lines) missing = input_unnamed s lines missing
input_unnamed s (End ∷ lines) missing = input_unnamed s lines missing

pub shut_unnamed : (s : ℕ) (lines : List Line) → is_named s lines ≡ false → is_shut s lines ≡ false
shut_unnamed s [] missing = refl
shut_unnamed s (Topic n p f m ∷ lines) missing = shut_unnamed s lines missing
shut_unnamed s (Feed session bytes ∷ lines) missing = shut_unnamed s lines (neither (eqb session s) (is_named s lines) missing).1
shut_unnamed s (Shut session ∷ lines) missing =
    let parts = neither (eqb session s) (is_named s lines) missing in
    rw parts.0 (shut_unnamed s lines parts.1)
shut_unnamed s (Clock t ∷ lines) missing = shut_unnamed s lines missing
shut_unnamed s (End ∷ lines) missing = shut_unnamed s lines missing

named_here : (s session n : ℕ) (rest : Bool) → (rest ≡ true → s < n) → (eqb session s || rest) ≡ true → s < max (session + 1) n
named_here s session n rest later found =
    elim (or_cases (eqb session s) rest found) [
      | inl this ↦ let e : session ≡ s = eqb-true session s this in omega arith
      | inr behind ↦ let lt : s < n = later behind in omega arith
    ]

pub named_below : (s : ℕ) (lines : List Line) → is_named s lines ≡ true → s < sessions_of lines
named_below s [] found = absurd cc
named_below s (Topic n p f m ∷ lines) found = named_below s lines found
named_below s (Feed session bytes ∷ lines) found = named_here s session (sessions_of lines) (is_named s lines) (λ e. named_below s lines e) found
named_below s (Shut session ∷ lines) found = named_here s session (sessions_of lines) (is_named s lines) (λ e. named_below s lines e) found
named_below s (Clock t ∷ lines) found = named_below s lines found
named_below s (End ∷ lines) found = named_below s lines found

last_here : (s session n : ℕ) (rest : Bool) → (n ≡ suc s → rest ≡ true) → max (session + 1) n ≡ suc s → (eqb session s || rest) ≡ true
last_here s session n rest later e =
    elim (same_or_not session s) [
      | inl same ↦ rw (eq-eqb session s same) refl
      | inr other ↦ or_right (eqb session s) rest (later (omega arith))
    ]

-- the greatest session that is named is named
pub last_named : (s : ℕ) (lines : List Line) → sessions_of lines ≡ suc s → is_named s lines ≡ true
last_named s [] e = absurd (omega (arith, e))
last_named s (Topic n p f m ∷ lines) e = last_named s lines e
last_named s (Feed session bytes ∷ lines) e = last_here s session (sessions_of lines) (is_named s lines) (λ d. last_named s lines d) e
last_named s (Shut session ∷ lines) e = last_here s session (sessions_of lines) (is_named s lines) (λ d. last_named s lines d) e
last_named s (Clock t ∷ lines) e = last_named s lines e
last_named s (End ∷ lines) e = last_named s lines e

named_more : (s : ℕ) (fed : List Line) (line : Line) → is_named s (fed ++ line ∷ []) ≡ (is_named s fed || names s line)
named_more s fed line = list_any-append (names s) fed (line ∷ []) ∙ ap (λ (b : Bool). is_named s fed || b) (or-false (names s line))

named_same : (s : ℕ) (fed : List Line) (line : Line) → names s line ≡ false → is_named s (fed ++ line ∷ []) ≡ is_named s fed
named_same s fed line missing = named_more s fed line ∙ ap (λ (b : Bool). is_named s fed || b) missing ∙ or-false (is_named s fed)

input_more : (s : ℕ) (fed : List Line) (line : Line) → input_of s (fed ++ line ∷ []) ≡ input_of s fed ++ bytes_in s line
input_more s fed line = flat_map-append (bytes_in s) fed (line ∷ []) ∙ ap (λ (t : List ℕ). input_of s fed ++ t) (append-nil (bytes_in s line))

shut_more : (s : ℕ) (fed : List Line) (line : Line) → is_shut s (fed ++ line ∷ []) ≡ (is_shut s fed || shuts s line)
shut_more s fed line = list_any-append (shuts s) fed (line ∷ []) ∙ ap (λ (b : Bool). is_shut s fed || b) (or-false (shuts s line))

shut_same : (s : ℕ) (fed : List Line) (line : Line) → shuts s line ≡ false → is_shut s (fed ++ line ∷ []) ≡ is_shut s fed
shut_same s fed line missing = shut_more s fed line ∙ ap (λ (b : Bool). is_shut s fed || b) missing ∙ or-false (is_shut s fed)

input_same : (s : ℕ) (fed : List Line) (line : Line) → bytes_in s line ≡ [] → input_of s (fed ++ line ∷ []) ≡ input_of s fed
input_same s fed line missing = input_more s fed line ∙ ap (λ (t : List ℕ). input_of s fed ++ t) missing ∙ append-nil (input_of s fed)

-- ---- what a board is to the lines

-- the frames of calls, one after the other
abbrev pub framed_calls : List Call → List ℕ
framed_calls calls = flat_map (λ call. framed call.frame) calls

-- an end that the input of a session brings
abbrev pub IsInputEnd : SessionEnd → Type 0
IsInputEnd Closed = Unit {0}
IsInputEnd (Truncated got) = Unit {0}
IsInputEnd (FrameTooLong size) = Unit {0}
IsInputEnd (Refused why) = Unit {0}
IsInputEnd CallsFull = Unit {0}
IsInputEnd ReadFault = ⊥
IsInputEnd WriteFault = ⊥
IsInputEnd NoMemory = ⊥

-- What follows the frames of the calls: while the session goes on, what nobody has handled yet, also where its last call waits.
-- Once it has ended, so much more may have come as its end still fits.
abbrev pub IsRest : List ℕ → Bool → Transcript → List ℕ → Option SessionEnd → Type 0
IsRest inbox shut transcript rest None = rest ≡ inbox
IsRest inbox shut transcript rest (Some end) = EndFits rest shut transcript (Some end) × IsInputEnd end

abbrev pub transcript_in : ℕ → Seat → Transcript
transcript_in session seat = unwrap_or seat.transcript (new_transcript session)

abbrev pub Known : Seat → Type 0
Known seat = (t : Transcript) × (seat.transcript ≡ Some t)

-- a session's seat, where this is all that it received, this says whether its input ended, and this whether it was named
pub record IsFedSeat (s : ℕ) (input : List ℕ) (shut named : Bool) (seat : Seat) : Type 0 where
  pub is_shut : seat.is_shut ≡ shut
  pub there : MatchBool named (Known seat) (seat.transcript ≡ None)
  pub each : AllByRecursion (λ call. IsFrameBody call.frame) (transcript_in s seat).calls
  pub rest : List ℕ
  pub parts : input ≡ framed_calls (transcript_in s seat).calls ++ rest
  pub ends : IsRest seat.inbox shut (transcript_in s seat) rest (transcript_in s seat).end

abbrev pub IsOneOf : ℕ → List Line → Seat → Type 0
IsOneOf s fed seat = IsFedSeat s (input_of s fed) (is_shut s fed) (is_named s fed) seat

-- the ticks so far, and those that any further lines bring
abbrev pub HasTicks : List Line → List ClockEvent → Type 0
HasTicks fed clock = (more : List Line) → ticks_of clock ++ rising_from (moment_of clock) more ≡ rising_from 0 (fed ++ more)

pub record IsFedBy (fed : List Line) (board : Board) : Type 0 where
  pub size : length board.seats ≡ 64
  pub ticks : HasTicks fed board.clock
  pub few : (s : ℕ) → is_named s fed ≡ true → s < 64
  pub seats : (s : ℕ) → s < 64 → IsOneOf s fed (seat_at board s)

recast : (s : ℕ) (seat : Seat) (i j : List ℕ) (a b n m : Bool) → i ≡ j → a ≡ b → n ≡ m → IsFedSeat s j b m seat → IsFedSeat s i a n seat
recast s seat i j a b n m e f g h =
    subst (λ (k : List ℕ). IsFedSeat s k a n seat) (sym e) (subst (λ (x : Bool). IsFedSeat s j x n seat) (sym f) (subst (λ (x : Bool). IsFedSeat s j b x seat) (sym g) h))

pub seat_named_is : (s : ℕ) (input : List ℕ) (shut named : Bool) (seat : Seat) → named ≡ true → IsFedSeat s input shut named seat → Known seat
seat_named_is s input shut named seat found h = subst (λ (b : Bool). MatchBool b (Known seat) (seat.transcript ≡ None)) found h.there

pub seat_unnamed : (s : ℕ) (input : List ℕ) (shut named : Bool) (seat : Seat) → named ≡ false → IsFedSeat s input shut named seat → seat.transcript ≡ None
seat_unnamed s input shut named seat missing h = subst (λ (b : Bool). MatchBool b (Known seat) (seat.transcript ≡ None)) missing h.there

seat_there : (b : Bool) (seat : Seat) → b ≡ true → Known seat → MatchBool b (Known seat) (seat.transcript ≡ None)
seat_there b seat e known = subst (λ (x : Bool). MatchBool x (Known seat) (seat.transcript ≡ None)) (sym e) known

-- ---- before the first line

none_there : (s : ℕ) → IsOneOf s [] empty_seat
none_there s = record { is_shut = refl; there = refl; each = tt; rest = []; parts = refl; ends = refl }

-- nothing was fed yet
pub fed_opening : (config : Configuration) → IsFedBy [] (opening config)
fed_opening config = record {
  size = length-replicate 64 empty_seat;
  ticks = λ more. refl;
  few = λ s found. absurd cc;
  seats = λ s lt. subst (IsOneOf s []) (sym (empty_there 64 s)) (none_there s);
}

-- ---- the clock

-- looks change no ticks
pub ticks_alike : (fed : List Line) (clock later : List ClockEvent) → ticks_of later ≡ ticks_of clock → moment_of later ≡ moment_of clock → HasTicks fed clock → HasTicks fed later
ticks_alike fed clock later ticks moment h more =
    ap (λ (ts : List ℕ). ts ++ rising_from (moment_of later) more) ticks ∙ ap (λ (m : ℕ). ticks_of clock ++ rising_from m more) moment ∙ h more

-- nor does a line that tells no time
ticks_line : (fed : List Line) (clock : List ClockEvent) (line : Line) → ((m : ℕ) (more : List Line) → rising_from m (line ∷ more) ≡ rising_from m more) → HasTicks fed clock → HasTicks (fed ++ line ∷ []) clock
ticks_line fed clock line still h more =
    ap (λ (ts : List ℕ). ticks_of clock ++ ts) (sym (still (moment_of clock) more)) ∙ h (line ∷ more) ∙ ap (rising_from 0) (sym (append_assoc fed (line ∷ []) more))

told_moment : (clock : List ClockEvent) (t : ℕ) → moment_of clock < t → moment_of (clock ++ clocks.Tick t ∷ []) ≡ t
told_moment clock t lt =
    ap (fold max 0) (filter_map-append tick_of clock (clocks.Tick t ∷ [])) ∙ fold-append max 0 (filter_map tick_of clock) (t ∷ []) ∙ omega (arith, lt)

-- a moment that is later than all before
ticks_told : (fed : List Line) (clock : List ClockEvent) (t : ℕ) → nat_lt (moment_of clock) t ≡ true → HasTicks fed clock → HasTicks (fed ++ Clock t ∷ []) (clock ++ clocks.Tick t ∷ [])
ticks_told fed clock t test h more =
    let lt : moment_of clock < t = ltb-true (moment_of clock) t test in
    let was : ticks_of clock ++ (t ∷ rising_from t more) ≡ rising_from 0 (fed ++ Clock t ∷ more) =
    ap (λ (b : Bool). ticks_of clock ++ cond b (t ∷ rising_from t more) (rising_from (moment_of clock) more)) (sym test) ∙ h (Clock t ∷ more) in
    ap (λ (ts : List ℕ). ts ++ rising_from (moment_of (clock ++ clocks.Tick t ∷ [])) more) (ticks_more clock t)
    ∙ ap (λ (m : ℕ). (ticks_of clock ++ t ∷ []) ++ rising_from m more) (told_moment clock t lt)
    ∙ append_assoc (ticks_of clock) (t ∷ []) (rising_from t more) ∙ was ∙ ap (rising_from 0) (sym (append_assoc fed (Clock t ∷ []) more))

-- one that isn't
ticks_same : (fed : List Line) (clock : List ClockEvent) (t : ℕ) → nat_lt (moment_of clock) t ≡ false → HasTicks fed clock → HasTicks (fed ++ Clock t ∷ []) clock
ticks_same fed clock t test h more =
    ap (λ (b : Bool). ticks_of clock ++ cond b (t ∷ rising_from t more) (rising_from (moment_of clock) more)) (sym test) ∙ h (Clock t ∷ more)
    ∙ ap (rising_from 0) (sym (append_assoc fed (Clock t ∷ []) more))

-- a line that names no session
fed_same : (fed : List Line) (board : Board) (line : Line) (clock : List ClockEvent) → ((s : ℕ) → names s line ≡ false) → ((s : ℕ) → bytes_in s line ≡ []) → ((s : ℕ) → shuts s line ≡ false)
    → HasTicks (fed ++ line ∷ []) clock → IsFedBy fed board → IsFedBy (fed ++ line ∷ []) (record board { clock = clock })
fed_same fed board line clock nobody nothing unshut ticks h = record {
  size = h.size;
  ticks = ticks;
  few = λ s found. h.few s (sym (named_same s fed line (nobody s)) ∙ found);
  seats = λ s lt. recast s (seat_at board s) (input_of s (fed ++ line ∷ [])) (input_of s fed) (is_shut s (fed ++ line ∷ [])) (is_shut s fed) (is_named s (fed ++ line ∷ [])) (is_named s fed)
      (input_same s fed line (nothing s)) (shut_same s fed line (unshut s)) (named_same s fed line (nobody s)) (h.seats s lt);
}

-- ---- one seat

-- one seat changes as these lines tell of its session, and they tell nothing new of the others
fed_set : (fed more : List Line) (board left : Board) (i : ℕ) (seat : Seat) → IsFedBy fed board → i < 64 → left.seats ≡ set board.seats i seat → HasTicks more left.clock
    → IsOneOf i more seat → ((s : ℕ) → s ≢ i → (is_named s more ≡ is_named s fed) × (input_of s more ≡ input_of s fed) × (is_shut s more ≡ is_shut s fed)) → IsFedBy more left
fed_set fed more board left i seat h lt seats ticks here others = record {
  size = ap length seats ∙ length-set board.seats i seat ∙ h.size;
  ticks = ticks;
  few = λ s e. elim (same_or_not s i) [
    | inl same ↦ omega (arith, same, lt)
    | inr other ↦ h.few s (sym (others s other).0 ∙ e)
  ];
  seats = λ s small. subst (λ (xs : List Seat). IsOneOf s more (unwrap_or (slice_get xs s) empty_seat)) (sym seats) (elim (same_or_not s i) [
    | inl same ↦
        subst (λ (k : ℕ). IsOneOf k more (unwrap_or (slice_get (set board.seats i seat) k) empty_seat)) (sym same)
        (subst (λ (o : Option Seat). IsOneOf i more (unwrap_or o empty_seat)) (sym (get_set_same board.seats i seat (omega (arith, lt, h.size)))) here)
    | inr other ↦
        subst (λ (o : Option Seat). IsOneOf s more (unwrap_or o empty_seat)) (sym (get_set_other board.seats i s seat other))
        (recast s (seat_at board s) (input_of s more) (input_of s fed) (is_shut s more) (is_shut s fed) (is_named s more) (is_named s fed) (others s other).1 (others s other).2 (others s other).0 (h.seats s small))
  ]);
}

-- once the session has ended, its end fits also what comes later
rest_more : (inbox rest bytes : List ℕ) (t : Transcript) (end : Option SessionEnd) → IsRest inbox false t rest end → IsRest (cond (is_there end) inbox (inbox ++ bytes)) false t (rest ++ bytes) end
rest_more inbox rest bytes t None same = ap (λ (x : List ℕ). x ++ bytes) same
rest_more inbox rest bytes t (Some Closed) h = absurd (cc h.0.0)
rest_more inbox rest bytes t (Some (Truncated got)) h = absurd (cc h.0.0)
rest_more inbox rest bytes t (Some (FrameTooLong size)) h = (frame_kept rest bytes (TooLong size) (λ f. absurd cc) h.0, tt)
rest_more inbox rest bytes t (Some (Refused why)) h =
    let r = h.0 in
    ((r.0, r.1 ++ bytes, ap (λ (x : List ℕ). x ++ bytes) r.2 ∙ append_assoc (framed r.0) r.1 bytes, r.3, r.4), tt)
rest_more inbox rest bytes t (Some CallsFull) h = (((h.0.0.0, frame_kept rest bytes (Whole h.0.0.0) (λ f. absurd cc) h.0.0.1), h.0.1), tt)
rest_more inbox rest bytes t (Some ReadFault) h = absurd h.1
rest_more inbox rest bytes t (Some WriteFault) h = absurd h.1
rest_more inbox rest bytes t (Some NoMemory) h = absurd h.1

-- and where its input ends only then
rest_shut : (inbox rest : List ℕ) (t : Transcript) (end : Option SessionEnd) → IsRest inbox false t rest end → IsRest inbox true t rest end
rest_shut inbox rest t None same = same
rest_shut inbox rest t (Some Closed) h = absurd (cc h.0.0)
rest_shut inbox rest t (Some (Truncated got)) h = absurd (cc h.0.0)
rest_shut inbox rest t (Some (FrameTooLong size)) h = h
rest_shut inbox rest t (Some (Refused why)) h = h
rest_shut inbox rest t (Some CallsFull) h = h
rest_shut inbox rest t (Some ReadFault) h = absurd h.1
rest_shut inbox rest t (Some WriteFault) h = absurd h.1
rest_shut inbox rest t (Some NoMemory) h = absurd h.1

abbrev seat_fed : Board → ℕ → List ℕ → Seat
seat_fed board session bytes = record {
  inbox = cond (is_there (transcript_at board session).end) (seat_at board session).inbox ((seat_at board session).inbox ++ bytes);
  is_shut = (seat_at board session).is_shut;
  transcript = Some (transcript_at board session);
}

abbrev seat_closed : Board → ℕ → Seat
seat_closed board session = record { inbox = (seat_at board session).inbox; is_shut = true; transcript = Some (transcript_at board session) }

-- bytes come for a session
fed_feed : (fed : List Line) (board : Board) (session : ℕ) (bytes : List ℕ) → IsFedBy fed board → session < 64 → is_shut session fed ≡ false → IsFedBy (fed ++ Feed session bytes ∷ []) (brought board (Feed session bytes))
fed_feed fed board session bytes h lt unshut =
    let line = Feed session bytes in
    let more = fed ++ line ∷ [] in
    let old = h.seats session lt in
    let t = transcript_at board session in
    let inbox = (seat_at board session).inbox in
    let seat = seat_fed board session bytes in
    let this : eqb session session ≡ true = eq-eqb session session refl in
    let found : is_named session more ≡ true = named_more session fed line ∙ or_right (is_named session fed) (eqb session session) this in
    let still : is_shut session more ≡ is_shut session fed = shut_same session fed line refl in
    let input : input_of session more ≡ framed_calls t.calls ++ (old.rest ++ bytes) =
    input_more session fed line ∙ ap (λ (b : Bool). input_of session fed ++ cond b bytes []) this ∙ ap (λ (x : List ℕ). x ++ bytes) old.parts ∙ append_assoc (framed_calls t.calls) old.rest bytes in
    let ends : IsRest seat.inbox (is_shut session more) t (old.rest ++ bytes) t.end =
    subst (λ (b : Bool). IsRest seat.inbox b t (old.rest ++ bytes) t.end) (sym (still ∙ unshut)) (rest_more inbox old.rest bytes t t.end (subst (λ (b : Bool). IsRest inbox b t old.rest t.end) unshut old.ends)) in
    let here : IsOneOf session more seat = record {
      is_shut = old.is_shut ∙ sym still;
      there = seat_there (is_named session more) seat found (t, refl);
      each = old.each;
      rest = old.rest ++ bytes;
      parts = input;
      ends = ends;
    } in
    fed_set fed more board (brought board line) session seat h lt refl (ticks_line fed board.clock line (λ m more. refl) h.ticks) here
    (λ s other.
    let another : eqb session s ≡ false = ne_eqb session s (λ e. other (sym e)) in
    (named_same s fed line another, input_same s fed line (ap (λ (b : Bool). cond b bytes []) another), shut_same s fed line refl))

-- the input of a session ends
fed_shut : (fed : List Line) (board : Board) (session : ℕ) → IsFedBy fed board → session < 64 → is_shut session fed ≡ false → IsFedBy (fed ++ Shut session ∷ []) (brought board (Shut session))
fed_shut fed board session h lt unshut =
    let line = Shut session in
    let more = fed ++ line ∷ [] in
    let old = h.seats session lt in
    let t = transcript_at board session in
    let inbox = (seat_at board session).inbox in
    let seat = seat_closed board session in
    let this : eqb session session ≡ true = eq-eqb session session refl in
    let found : is_named session more ≡ true = named_more session fed line ∙ or_right (is_named session fed) (eqb session session) this in
    let shut : is_shut session more ≡ true = shut_more session fed line ∙ or_right (is_shut session fed) (eqb session session) this in
    let ends : IsRest inbox (is_shut session more) t old.rest t.end =
    subst (λ (b : Bool). IsRest inbox b t old.rest t.end) (sym shut) (rest_shut inbox old.rest t t.end (subst (λ (b : Bool). IsRest inbox b t old.rest t.end) unshut old.ends)) in
    let here : IsOneOf session more seat = record {
      is_shut = sym shut;
      there = seat_there (is_named session more) seat found (t, refl);
      each = old.each;
      rest = old.rest;
      parts = input_same session fed line refl ∙ old.parts;
      ends = ends;
    } in
    fed_set fed more board (brought board line) session seat h lt refl (ticks_line fed board.clock line (λ m more. refl) h.ticks) here
    (λ s other.
    let another : eqb session s ≡ false = ne_eqb session s (λ e. other (sym e)) in
    (named_same s fed line another, input_same s fed line refl, shut_same s fed line another))

-- what a line brings
pub record MayCome (fed : List Line) (line : Line) : Type 0 where
  pub named : (s : ℕ) → names s line ≡ true → (s < 64) × (is_shut s fed ≡ false)

pub fed_line : (fed : List Line) (board : Board) (line : Line) → IsFedBy fed board → MayCome fed line → IsFedBy (fed ++ line ∷ []) (brought board line)
fed_line fed board (Topic name partitions followers least) h may =
    let line = Topic name partitions followers least in
    fed_same fed board line board.clock (λ s. refl) (λ s. refl) (λ s. refl) (ticks_line fed board.clock line (λ m more. refl) h.ticks) h
fed_line fed board (Feed session bytes) h may = let n = may.named session (eq-eqb session session refl) in fed_feed fed board session bytes h n.0 n.1
fed_line fed board (Shut session) h may = let n = may.named session (eq-eqb session session refl) in fed_shut fed board session h n.0 n.1
fed_line fed board (Clock t) h may = by_test (nat_lt (moment_of board.clock) t) refl
  where
    by_test : (b : Bool) → nat_lt (moment_of board.clock) t ≡ b → IsFedBy (fed ++ Clock t ∷ []) (cond b (ticked board t) board)
    by_test true is =
        let told = fed_same fed board (Clock t) (board.clock ++ clocks.Tick t ∷ []) (λ s. refl) (λ s. refl) (λ s. refl) (ticks_told fed board.clock t is h.ticks) h in
        record { size = told.size; ticks = told.ticks; few = told.few; seats = told.seats }
    by_test false is = fed_same fed board (Clock t) board.clock (λ s. refl) (λ s. refl) (λ s. refl) (ticks_same fed board.clock t is h.ticks) h
fed_line fed board End h may = fed_same fed board End board.clock (λ s. refl) (λ s. refl) (λ s. refl) (ticks_line fed board.clock End (λ m more. refl) h.ticks) h

-- ---- what a session does

-- what a session that goes on hasn't handled yet is what follows the frames of its calls
rest_of_open : (inbox rest : List ℕ) (shut : Bool) (t : Transcript) (end : Option SessionEnd) → IsRest inbox shut t rest end → is_there end ≡ false → rest ≡ inbox
rest_of_open inbox rest shut t None same going = same
rest_of_open inbox rest shut t (Some end) h going = absurd cc

-- a session that has a transcript was named
pub known_named : (fed : List Line) (board : Board) (s : ℕ) → IsFedBy fed board → s < 64 → ((seat_at board s).transcript ≡ None → ⊥) → is_named s fed ≡ true
known_named fed board s h lt known = elim (cases_Bool (is_named s fed)) [
  | inl there ↦ there
  | inr missing ↦ absurd (known (seat_unnamed s (input_of s fed) (is_shut s fed) (is_named s fed) (seat_at board s) missing (h.seats s lt)))
]

-- so was one that shows something to do
pub works_named : (fed : List Line) (board : Board) (s : ℕ) → IsFedBy fed board → s < 64 → is_there (transcript_at board s).end ≡ false → shows_work (seat_at board s).is_shut (next_frame_of (seat_at board s).inbox) ≡ true → is_named s fed ≡ true
works_named fed board s h lt going works = elim (cases_Bool (is_named s fed)) [
  | inl there ↦ there
  | inr missing ↦
      let old = h.seats s lt in
      let seat = seat_at board s in
      let none : seat.transcript ≡ None = seat_unnamed s (input_of s fed) (is_shut s fed) (is_named s fed) seat missing old in
      let no_calls : framed_calls (transcript_in s seat).calls ≡ [] = ap (λ (o : Option Transcript). framed_calls (unwrap_or o (new_transcript s)).calls) none in
      let all : input_of s fed ≡ old.rest = old.parts ∙ ap (λ (x : List ℕ). x ++ old.rest) no_calls in
      let empty : seat.inbox ≡ [] = sym (rest_of_open seat.inbox old.rest (is_shut s fed) (transcript_in s seat) (transcript_in s seat).end old.ends going) ∙ sym all ∙ input_unnamed s fed missing in
      let unshut : seat.is_shut ≡ false = old.is_shut ∙ shut_unnamed s fed missing in
      let nothing : shows_work false (next_frame_of []) ≡ true = subst (λ (x : List ℕ). shows_work false (next_frame_of x) ≡ true) empty (subst (λ (b : Bool). shows_work b (next_frame_of seat.inbox) ≡ true) unshut works) in
      absurd cc
]

-- a session's calls become others with the same frames, and what follows them is less by so much
module _ (fed : List Line) (board left : Board) (s : ℕ) (h : IsFedBy fed board) (lt : s < 64) (clock : HasTicks fed left.clock) (found : is_named s fed ≡ true) where
  abbrev t : Transcript
  t = transcript_at board s

  abbrev inbox : List ℕ
  inbox = (seat_at board s).inbox

  going_rest : is_there t.end ≡ false → (h.seats s lt).rest ≡ inbox
  going_rest going = rest_of_open inbox (h.seats s lt).rest (is_shut s fed) t t.end (h.seats s lt).ends going

  -- a whole frame at the front of what came becomes a call
  pub fed_call : (body : List ℕ) (call : Call) → left.seats ≡ set board.seats s (seat_with board s body call) → is_there t.end ≡ false → IsFrameBody body → call.frame ≡ body
      → inbox ≡ framed body ++ drop (4 + length body) inbox → IsFedBy fed left
  fed_call body call seats going small is front =
      let old = h.seats s lt in
      let rest = drop (4 + length body) inbox in
      let later : Transcript = record t { calls = t.calls ++ call ∷ [] } in
      let frames : framed_calls (t.calls ++ call ∷ []) ≡ framed_calls t.calls ++ framed body =
      flat_map-append (λ (c : Call). framed c.frame) t.calls (call ∷ []) ∙ ap (λ (x : List ℕ). framed_calls t.calls ++ x) (append-nil (framed call.frame) ∙ ap framed is) in
      let here : IsOneOf s fed (seat_with board s body call) = record {
        is_shut = old.is_shut;
        there = seat_there (is_named s fed) (seat_with board s body call) found (later, refl);
        each = all_append (λ (c : Call). IsFrameBody c.frame) t.calls (call ∷ []) old.each (subst IsFrameBody (sym is) small, tt);
        rest = rest;
        parts = old.parts ∙ ap (λ (x : List ℕ). framed_calls t.calls ++ x) (going_rest going ∙ front) ∙ sym (append_assoc (framed_calls t.calls) (framed body) rest) ∙ ap (λ (x : List ℕ). x ++ rest) (sym frames);
        ends = subst (λ (e : Option SessionEnd). IsRest rest (is_shut s fed) later rest e) (sym (no_end t.end going)) refl;
      } in
      fed_set fed fed board left s (seat_with board s body call) h lt seats clock here (λ r other. (refl, refl, refl))

  -- it ends as its input shows
  pub fed_ended : (end : SessionEnd) → left.seats ≡ set board.seats s (record (seat_at board s) { transcript = Some (record t { end = Some end }) }) → is_there t.end ≡ false
      → EndFits inbox (is_shut s fed) (record t { end = Some end }) (Some end) → IsInputEnd end → IsFedBy fed left
  fed_ended end seats going fits of_input =
      let old = h.seats s lt in
      let later : Transcript = record t { end = Some end } in
      let seat : Seat = record (seat_at board s) { transcript = Some later } in
      let here : IsOneOf s fed seat = record {
        is_shut = old.is_shut;
        there = seat_there (is_named s fed) seat found (later, refl);
        each = old.each;
        rest = inbox;
        parts = old.parts ∙ ap (λ (x : List ℕ). framed_calls t.calls ++ x) (going_rest going);
        ends = (fits, of_input);
      } in
      fed_set fed fed board left s seat h lt seats clock here (λ r other. (refl, refl, refl))

  finished_frames : (finish : List Point) (how : CallHow) (calls : List Call) → framed_calls (finish_last finish how calls) ≡ framed_calls calls
  finished_frames finish how [] = refl
  finished_frames finish how (c ∷ []) = refl
  finished_frames finish how (c ∷ d ∷ calls) = ap (λ (x : List ℕ). framed c.frame ++ x) (finished_frames finish how (d ∷ calls))

  finished_each : (finish : List Point) (how : CallHow) (calls : List Call) → AllByRecursion (λ c. IsFrameBody c.frame) calls → AllByRecursion (λ c. IsFrameBody c.frame) (finish_last finish how calls)
  finished_each finish how [] each = tt
  finished_each finish how (c ∷ []) each = each
  finished_each finish how (c ∷ d ∷ calls) each = (each.0, finished_each finish how (d ∷ calls) each.1)

  -- its last call is completed
  pub fed_finished : (finish : List Point) (how : CallHow) → left.seats ≡ set board.seats s (record (seat_at board s) { transcript = Some (record t { calls = finish_last finish how t.calls }) })
      → t.end ≡ None → IsFedBy fed left
  fed_finished finish how seats going =
      let old = h.seats s lt in
      let later : Transcript = record t { calls = finish_last finish how t.calls } in
      let seat : Seat = record (seat_at board s) { transcript = Some later } in
      let here : IsOneOf s fed seat = record {
        is_shut = old.is_shut;
        there = seat_there (is_named s fed) seat found (later, refl);
        each = finished_each finish how t.calls old.each;
        rest = old.rest;
        parts = old.parts ∙ ap (λ (x : List ℕ). x ++ old.rest) (sym (finished_frames finish how t.calls));
        ends = subst (λ (e : Option SessionEnd). IsRest inbox (is_shut s fed) later old.rest e) (sym going) (going_rest (ap is_there going));
      } in
      fed_set fed fed board left s seat h lt seats clock here (λ r other. (refl, refl, refl))
