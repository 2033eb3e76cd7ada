-- What a replay comes to, from what was read and what was played.
use Rattle.std.proofs.Common.{◌≡◌, ◌≤◌, ◌<◌, ◌+◌, ◌-◌, ◌⊎◌, ℕ, zero, suc, Bool, false, eqb, List, [], ◌∷◌, ◌++◌, length, take, drop, append_assoc, get_or, Option, Some, None, IfSome, IsSome, inl, inr, refl, sym, ap, subst, ◌∙◌, arith, append-nil, length-append}
use Rattle.std.proofs.KnownBytes.{Appends-trans, Consumes-trans}
use Rattle.std.proofs.lemmas.List.{nil_from_length, take_all, take-append-le}
use Rattle.std.specs.Io.KnownBytes.{Appends, Consumes, IsAtEnd}
use Rattle.std.specs.List.{count_by, AllByRecursion, AllZip}
use Rattle.audit.specs.declared.account.Account.{Account}
use Rattle.trace_file.specs.declared.line.Line.{Line}
use Rattle.audit.specs.broker.Board.{Board, opening, account_of}
use Rattle.kwire.specs.Configuration.{Configuration}
use Rattle.audit.specs.broker.Turns.{Turned}
use Rattle.commands.specs.LinesFront.{IsLinesFront, LinesPlayed}
use Rattle.audit.specs.broker.Play.{Plays, PlaysLine, IsPlay}
use Rattle.audit.specs.Printable.{IsPrintable}
use Rattle.audit.proofs.retelling.Laws.{printable}
use Rattle.audit.specs.Printed.{summary_of}
use Rattle.commands.specs.Replay.{IsReplayOf, IsReplay, IsReplayFront, IsFirstBadOf, HasTrace}
use Rattle.trace_file.specs.Contents.{configuration_of}
use Rattle.commands.specs.Streams.{IsInput}
use Rattle.trace_file.specs.IsLine.{IsLine}
use Rattle.trace_file.specs.Trace.{IsTrace, pieces_of}
use Rattle.trace_file.specs.declared.line.Line.TheVariants.{Topic, Feed, Shut, Clock, End}
use Rattle.lone_broker.specs.Kept.{IsPlayable, Kept, TurnsBy}
use Rattle.audit.proofs.broker.Laws.{play_is_lawful, play_is_run, trace_declared, play_is_one, front_of_play, trace_plays, plays_on}
use Rattle.trace_file.specs.declared.line.TheConstants.{MOST_TRACE_BYTES, REPLAY_PORT}
use Rattle.trace_file.specs.declared.line.LineFault.{LineFault}
use Rattle.trace_file.specs.declared.line.TraceFault.{TraceFault}
use Rattle.trace_file.specs.declared.line.TraceFault.TheVariants.{Bad, NoMemory}
use Rattle.trace_file.specs.declared.trace_reader.TraceReader.{TraceReader}
use Rattle.trace_file.specs.TextRead.{HasTaken}
use Rattle.trace_file.specs.FirstBad.{IsFirstBad, TellsFirstBad}
use Rattle.trace_file.proofs.Laws.{trace_has_none}
use Rattle.commands.specs.declared.exit.Stop.{Stop}
use Rattle.commands.specs.declared.exit.Stop.TheVariants.{Usage, BadLine, ReadFault, WriteFault, NoMemory as OutOfMemory}
use Rattle.commands.specs.Codes.{bad_line_of, exit_code_of, stop_of}

-- ---- what was read

-- all that the source had was read, or the text is too long
read_whole : (left new : Option (List ℕ)) (text : List ℕ) → IsInput left new text → length text ≤ MOST_TRACE_BYTES → IsAtEnd new
read_whole left new text input size =
    elim input.whole [ inl at ↦ at | inr long ↦ absurd (omega arith) ]

-- a text that is too long stays so, whatever comes after it
long_front : (text rest : List ℕ) (only_topics : Bool) (fault : LineFault) → length text ≡ MOST_TRACE_BYTES + 1 → IsFirstBad text only_topics fault → IsFirstBad (text ++ rest) only_topics fault
long_front text rest only_topics fault len (inl bad) =
    let same : take MOST_TRACE_BYTES (text ++ rest) ≡ take MOST_TRACE_BYTES text = take-append-le MOST_TRACE_BYTES text rest (omega arith) in
    inl (record {
      long = omega (arith, bad.long, length-append text rest);
      line = bad.line ∙ ap (λ (front : List ℕ). count_by (λ byte. eqb byte 10) front + 1) (sym same);
      kind = bad.kind;
    })
long_front text rest only_topics fault len (inr (inl bad)) = absurd (omega (arith, bad.size))
long_front text rest only_topics fault len (inr (inr bad)) = absurd (omega (arith, bad.size))

-- the first bad line of what was read is that of what the source had
pub first_bad_of : (left new : Option (List ℕ)) (text : List ℕ) (only_topics : Bool) (fault : LineFault) → IsInput left new text → IsFirstBad text only_topics fault
    → IsFirstBadOf left only_topics fault
first_bad_of None new text only_topics fault input bad = tt
first_bad_of (Some trace) None text only_topics fault input bad = absurd input.consumed
first_bad_of (Some trace) (Some rest) text only_topics fault input bad =
    elim input.whole [
      | inl at ↦ subst (λ (t : List ℕ). IsFirstBad t only_topics fault) (sym (input.consumed ∙ ap (λ (r : List ℕ). text ++ r) at ∙ append-nil text)) bad
      | inr long ↦ subst (λ (t : List ℕ). IsFirstBad t only_topics fault) (sym input.consumed) (long_front text rest only_topics fault long bad)
    ]

-- and so it is told
pub bad_line_told : (left new : Option (List ℕ)) (text : List ℕ) (only_topics : Bool) (fault : TraceFault) → IsInput left new text → TellsFirstBad text only_topics fault
    → IfSome (bad_line_of (stop_of fault)) (IsFirstBadOf left only_topics)
bad_line_told left new text only_topics (Bad fault) input bad = first_bad_of left new text only_topics fault input bad
bad_line_told left new text only_topics NoMemory input bad = tt

-- the text of a trace that was read is what the source had
pub text_of : (left new : Option (List ℕ)) (text : List ℕ) → IsInput left new text → length text ≤ MOST_TRACE_BYTES → IsAtEnd new × IfSome left (λ trace. trace ≡ text)
text_of left new text input size = (read_whole left new text input size, told left new text input.consumed (read_whole left new text input size))
  where
    told : (left new : Option (List ℕ)) (text : List ℕ) → Consumes left new text → IsAtEnd new → IfSome left (λ trace. trace ≡ text)
    told None new text consumed at = tt
    told (Some trace) None text consumed at = absurd consumed
    told (Some trace) (Some rest) text consumed at = consumed ∙ ap (λ (r : List ℕ). text ++ r) at ∙ append-nil text

-- one part more was read, and it is the last
pub part_read : (left mid new : Option (List ℕ)) (text part : List ℕ) (want room : ℕ) → Consumes left mid text → Consumes mid new part → length text ≤ MOST_TRACE_BYTES
    → room ≡ (MOST_TRACE_BYTES + 1) - length text → length part ≤ want → want ≤ room → (length part < want → IsAtEnd new)
    → (length part < want) ⊎ ((MOST_TRACE_BYTES + 1) - length (text ++ part) ≡ 0) → IsInput left new (text ++ part)
part_read left mid new text part want room before came few left_over most within ended last = record {
  consumed = Consumes-trans left mid new text part before came;
  whole = elim last [ inl less ↦ inl (ended less) | inr full ↦ inr (omega (arith, length-append text part, few, left_over, most, within, full)) ];
}

-- what a reader has room for
pub room_left : (only_topics : Bool) (text : List ℕ) (reader : TraceReader) → HasTaken only_topics text reader → (MOST_TRACE_BYTES + 1) - reader.length ≡ (MOST_TRACE_BYTES + 1) - length text
room_left only_topics text reader (inl short) = omega (arith, short.length_is)
room_left only_topics text reader (inr long) = omega (arith, long.length_is, long.size)

-- ---- the lines

playable : (piece : List ℕ) (line : Line) → IsLine piece line → IsPlayable line
playable piece (Topic name partitions followers least) is = tt
playable piece (Feed session bytes) is = is.in_range
playable piece (Shut session) is = is.in_range
playable piece (Clock t) is = is.in_range
playable piece End is = tt

lines_playable : (pieces : List (List ℕ)) (lines : List Line) → AllZip IsLine pieces lines → AllByRecursion IsPlayable lines
lines_playable [] [] each = tt
lines_playable [] (line ∷ lines) each = absurd each
lines_playable (piece ∷ pieces) [] each = absurd each
lines_playable (piece ∷ pieces) (line ∷ lines) each = (playable piece line each.0, lines_playable pieces lines each.1)

-- the lines of a trace can be played
pub trace_playable : (text : List ℕ) (lines : List Line) → IsTrace text lines → AllByRecursion IsPlayable lines
trace_playable text lines trace = lines_playable (pieces_of text) lines trace.spelled

-- so can the one at hand
pub playable_among : (lines done : List Line) (line : Line) (next : List Line) → AllByRecursion IsPlayable lines → done ++ line ∷ next ≡ lines → IsPlayable line
playable_among lines [] line next all is = (subst (AllByRecursion IsPlayable) (sym is) all).0
playable_among lines (first ∷ done) line next all is = playable_among (done ++ line ∷ next) done line next (subst (AllByRecursion IsPlayable) (sym is) all).1 refl

-- those that are left, once one more was taken
pub lines_whole : (lines done : List Line) (line : Line) (left next : List Line) → left ≡ line ∷ next → done ++ left ≡ lines → (done ++ line ∷ []) ++ next ≡ lines
lines_whole lines done line left next steps whole = append_assoc done (line ∷ []) next ∙ ap (λ (ls : List Line). done ++ ls) (sym steps) ∙ whole

-- all lines, once none is left
pub all_yielded : (lines done left : List Line) → length left ≡ 0 → done ++ left ≡ lines → done ≡ lines
all_yielded lines done left none whole = sym (append-nil done) ∙ ap (λ (ls : List Line). done ++ ls) (sym (nil_from_length left none)) ∙ whole

-- ---- what was played

-- a line more was played, and what it prints was written
pub played_more : (before between after : Option (List ℕ)) (kept mid later : Kept) (done : List Line) (line : Line) (empty text shown : List ℕ) → LinesPlayed before between kept mid done
    → TurnsBy (λ board. PlaysLine board line) mid later empty text → empty ≡ [] → shown ≡ text → Appends between after shown → LinesPlayed before after kept later (done ++ line ∷ [])
played_more before between after kept mid later done line empty text shown played turns none is written = λ start stands.
    let h = played start stands in
    let here = turns h.0.board h.2 in
    let part : shown ≡ here.0.text = is ∙ here.3 ∙ ap (λ (xs : List ℕ). xs ++ here.0.text) none in (
      record { board = here.0.board; text = h.0.text ++ here.0.text },
      plays_on start done line h.0 here.0 h.1 here.1,
      here.2,
      Appends-trans before between after h.0.text here.0.text h.3 (subst (λ (xs : List ℕ). Appends between after xs) part written),
    )

-- the account and the text to which the lines were played
pub replayed : (text : List ℕ) (lines : List Line) (account : Account) (printed : List ℕ) → IsTrace text lines → IsPlay (configuration_of REPLAY_PORT lines) lines account printed
    → IsReplayOf lines account printed
replayed text lines account printed trace played =
    let config = configuration_of REPLAY_PORT lines in record {
      lawful = play_is_lawful config lines account printed (trace_declared text lines REPLAY_PORT trace) played;
      run = play_is_run text lines REPLAY_PORT account printed trace played;
      played = played;
      only = λ other more p. play_is_one config lines other account more printed p played;
    }

-- the lines were played from the opening board of their configuration
pub played_from : (lines : List Line) (config : Configuration) (last : Turned) → config ≡ configuration_of REPLAY_PORT lines → Plays (opening config) lines last
    → Plays (opening (configuration_of REPLAY_PORT lines)) lines last
played_from lines config last is played = subst (λ (c : Configuration). Plays (opening c) lines last) is played

-- the account at their end is that of their play, with this text
pub play_of : (lines : List Line) (last : Turned) (account : Account) → Plays (opening (configuration_of REPLAY_PORT lines)) lines last → account ≡ account_of last.board
    → IsPlay (configuration_of REPLAY_PORT lines) lines account (last.text ++ summary_of account)
play_of lines last account played is = record { last = last; played = played; accounted = is; printed = refl }

-- and it may be printed
pub printable_play : (text : List ℕ) (lines : List Line) (account : Account) (printed : List ℕ) → IsTrace text lines → IsPlay (configuration_of REPLAY_PORT lines) lines account printed → IsPrintable account
printable_play text lines account printed trace played =
    let came = replayed text lines account printed trace played in
    printable lines REPLAY_PORT [] [] account came.lawful came.run tt

-- all that the lines up to here print stands written
pub front_of_lines : (start : Board) (lines done more : List Line) (last : Turned) → lines ≡ done ++ more → Plays start done last → IsLinesFront start lines last.text
front_of_lines start lines done more last parts played = record { done = done; more = more; parts = parts; last = last; played = played; count = length last.text; front = sym (take_all (length last.text) last.text (omega arith)) }

-- the front of it
pub front_within : (start : Board) (lines done more : List Line) (last : Turned) (n : ℕ) → lines ≡ done ++ more → Plays start done last → IsLinesFront start lines (take n last.text)
front_within start lines done more last n parts played = record { done = done; more = more; parts = parts; last = last; played = played; count = n; front = refl }

-- it is one of the text of the play, to which these lines come
pub front_of_text : (text : List ℕ) (lines : List Line) (written : List ℕ) → IsTrace text lines → IsLinesFront (opening (configuration_of REPLAY_PORT lines)) lines written → IsReplayFront (Some text) written
front_of_text text lines written trace f =
    let config = configuration_of REPLAY_PORT lines in
    let play = trace_plays config text lines trace in
    let k = front_of_play config lines f.done f.more f.last f.count play.0 play.1 f.parts f.played play.2 in
    record { lines = lines; read = text; trace = trace; told = refl; account = play.0; text = play.1; played = play.2; count = k.0; front = f.front ∙ k.1 }

-- what the lines that were read came to
pub replay_of : (left : Option (List ℕ)) (text : List ℕ) (lines slice : List Line) (account : Account) (printed : List ℕ) → IsTrace text lines → slice ≡ lines → IfSome left (λ had. had ≡ text)
    → IsReplayOf slice account printed → IsReplay left account printed
replay_of left text lines slice account printed trace same told h =
    record { lines = lines; read = text; trace = trace; told = told; replay = subst (λ (ls : List Line). IsReplayOf ls account printed) same h }

-- where the source tells what it had, that is the text that was read
pub front_of_source : (left : Option (List ℕ)) (text written : List ℕ) → IfSome left (λ had. had ≡ text) → IsReplayFront (Some text) written → IsReplayFront left written
front_of_source left text written told f =
    record {
      lines = f.lines;
      read = f.read;
      trace = f.trace;
      told = subst (λ (t : List ℕ). IfSome left (λ had. had ≡ t)) f.told told;
      account = f.account;
      text = f.text;
      played = f.played;
      count = f.count;
      front = f.front;
    }

-- ---- a trace is replayed

-- what has a trace has no bad line
pub has_no_bad_line : (left : Option (List ℕ)) (line : Option LineFault) → HasTrace left → IsSome line → IfSome line (IsFirstBadOf left false) → ⊥
has_no_bad_line None line has some bad = has
has_no_bad_line (Some text) None has some bad = absurd cc
has_no_bad_line (Some text) (Some fault) has some bad = trace_has_none text false has.0 fault (record { trace = has.1; declares = λ yes. absurd cc }) bad

-- what stops the replay of a trace, where no count rose, is running out of memory
pub stopped_by : {R W : Type 0} (left : Option (List ℕ)) (stop : Stop) → (stop ≡ Usage → ⊥) → (stop ≡ ReadFault → R) → (stop ≡ WriteFault → W) → IfSome (bad_line_of stop) (IsFirstBadOf left false)
    → HasTrace left → (R → ⊥) → (W → ⊥) → (exit_code_of stop ≡ 0) ⊎ (exit_code_of stop ≡ 6)
stopped_by left Usage words read write bad has quiet still = absurd (words refl)
stopped_by left (BadLine fault) words read write bad has quiet still = absurd (has_no_bad_line left (Some fault) has refl bad)
stopped_by left ReadFault words read write bad has quiet still = absurd (quiet (read refl))
stopped_by left WriteFault words read write bad has quiet still = absurd (still (write refl))
stopped_by left OutOfMemory words read write bad has quiet still = inr refl
