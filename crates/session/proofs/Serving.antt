-- A session as it goes on, and as it ends.
use Rattle.std.proofs.Common.{◌≡◌, ℕ, ◌+◌, ◌-◌, ◌^◌, ◌<◌, ◌≤◌, ℤ, Bool, true, false, List, [], ◌∷◌, ◌++◌, length, take, Option, Some, None, refl, sym, ap, subst, ◌∙◌, arith, inl, inr, append-nil}
use Rattle.std.specs.Prelude.{is_some, option_to_list}
use Rattle.std.proofs.lemmas.List.{length-append}
use Rattle.std.proofs.Math.Nat.{le-min, min-le_left, min-le_right}
use Rattle.std.proofs.lemmas.Option.{same_Some}
use Rattle.std.proofs.lemmas.List.Concat.{flat_map-append}
use Rattle.std.specs.Io.KnownBytes.{IsAtEnd}
use Rattle.audit.specs.declared.account.Call.{Call}
use Rattle.audit.specs.declared.account.SessionEnd.{SessionEnd}
use Rattle.audit.specs.declared.account.SessionEnd.TheVariants.{Closed, Truncated, FrameTooLong, Refused, CallsFull, ReadFault, WriteFault, NoMemory}
use Rattle.audit.specs.declared.account.TheConstants.{MOST_CALLS}
use Rattle.audit.specs.declared.account.Transcript.{Transcript}
use Rattle.audit.specs.Fits.{IsUnfinished, is_answered}
use Rattle.audit.specs.Histories.{calls_in}
use Rattle.kwire.specs.declared.frame.Frame.TheVariants.{NotYet, TooLong, Whole}
use Rattle.kwire.specs.Frames.{IsFrameBody, framed, next_frame_of}
use Rattle.outside.specs.Causes.{Rose}
use Rattle.outside.specs.Count.{one_more}
use Rattle.audit.specs.broker.books.Told.{is_cut, last_is_cut}
use Rattle.session.specs.Asked.{AreReads, Reading}
use Rattle.session.specs.declared.intake.TheConstants.{MOST_READ}
use Rattle.session.specs.Answering.{HasAnswered, HasOneMore, HasOnlyLooked, IsAnsweredBy}
use Rattle.session.specs.declared.answers.Answered.{Answered}
use Rattle.session.specs.Causes.{HasItsCause, IsShown}
use Rattle.session.specs.Flows.{HasEndedSo, HasFlowed, LinkView}
use Rattle.session.specs.Onwards.{HasGoneOn}
use Rattle.session.specs.Reading.{EndsInput, HasRead}
use Rattle.session.specs.Replies.{AreCutReplies, AreReplies, IsWritten}
use Rattle.session.specs.Served.{HasServed, IsKept, ended_so}
use Rattle.session.specs.Handled.{HasFrames}
use Rattle.session.specs.Standing.{HasBegun, HasStepped, IsEnding, IsServing, Start, began}
use Rattle.session.proofs.Flowing.{flowed_in, flowed_none, flowed_out, flowed_still}
use Rattle.session.proofs.Going.{on_self, on_twice}
use Rattle.session.proofs.Lasting.{frames_longer, frames_more, last_cut, no_frames, reads_before}
use Rattle.session.proofs.Replying.{replies_cut, replies_more, replies_none, replies_on, replies_same, reply_on}
use Rattle.session.proofs.Shown.{ended_is, ended_now, has_ended, memory_cause, read_cause, shown_cause, shown_fits, write_cause}
use Rattle.shared_broker.specs.declared.parked.Parked.{Parked}
use Rattle.shared_broker.specs.Calling.{IsEndFor}
use Rattle.shared_broker.specs.Passes.{PassView, calls_made}
use Rattle.shared_broker.specs.Sessions.{HasEnded, is_cut_off, with_begun}
use Rattle.shared_broker.specs.Standing.{IsOfGoing}

-- ---- it begins

begins : (number : ℕ) (told : ℕ) (old : PassView) (link : LinkView) → old.waits ≡ None
    → IsServing (began number old link) told (with_begun old number) link []
begins number told old link none = record {
  transcript = record { number = number; first = length (calls_in old.ended); calls = []; end = None };
  begun = record { on = on_same told old number; ended = refl; going = refl; waits = none; number = refl; first = refl; open_still = refl };
  uncut = refl;
  input = [];
  output = [];
  flowed = flowed_none link;
  handled = no_frames;
  reads = [];
  asked = refl;
  written = replies_none (with_begun old number);
}
  where
    on_same : (told : ℕ) (old : PassView) (number : ℕ) → HasGoneOn told old (with_begun old number)
    on_same told old number = let o = on_self told old in record { number = refl; made = refl; grown = o.grown; ticked = o.ticked }

-- nothing waits where no transcript is begun
idle : (waits : Option Parked) (going : Option Transcript) → IsOfGoing waits going → going ≡ None → waits ≡ None
idle None going of none = refl
idle (Some parked) going of none = let e : false ≡ true = ap is_some (sym none) ∙ of in absurd cc

pub opens : (number told : ℕ) (old new : PassView) (link : LinkView) → IsOfGoing old.waits old.going → old.going ≡ None → new ≡ with_begun old number
    → IsServing (began number old link) told new link []
opens number told old new link of none is =
    subst (λ (p : PassView). IsServing (began number old link) told p link []) (sym is) (begins number told old link (idle old.waits old.going of none))

-- ---- how often its link has failed

rose_since : (a b c : ℕ) → a ≤ b → Rose b c → Rose a c
rose_since a b c le up =
    let most = 2 ^ 64 - 1 in
    let first : one_more a ≤ one_more b = le-min (omega (arith, le, min-le_left (a + 1) most)) (min-le_right (a + 1) most) in
    omega (arith, first, up)

-- ---- one call more

module _ (start : Start) (t u : ℕ) (old new : PassView) (le : t ≤ u) where
  looked_begun : (transcript : Transcript) → HasOnlyLooked u old new → HasBegun start t transcript old → HasBegun start u transcript new
  looked_begun transcript l b = record {
    on = on_twice t u start.pass old new le b.on l.on;
    ended = l.ended ∙ b.ended;
    going = l.going ∙ b.going;
    waits = l.waits ∙ b.waits;
    number = b.number;
    first = b.first;
    open_still = b.open_still;
  }

  more_begun : (frame : List ℕ) (transcript : Transcript) → (c : HasOneMore u frame old new) → HasBegun start t transcript old → HasBegun start u (record transcript { calls = transcript.calls ++ c.call ∷ [] }) new
  more_begun frame transcript c b =
      let same : c.transcript ≡ transcript = same_Some c.transcript transcript (sym c.going ∙ b.going) in
      record {
        on = on_twice t u start.pass old new le b.on c.on;
        ended = c.ended ∙ b.ended;
        going = c.called ∙ ap (λ (x : Transcript). Some (record x { calls = x.calls ++ c.call ∷ [] })) same;
        waits = c.waits;
        number = b.number;
        first = b.first;
        open_still = b.open_still;
      }

-- ---- it ends, out of memory or by what the rest shows

module _ (start : Start) (told : ℕ) (transcript : Transcript) (pass : PassView) (link : LinkView) (begun : HasBegun start told transcript pass)
    (input output : List ℕ) (flowed : HasFlowed input output start.link link) (rest : List ℕ) (handled : HasFrames input transcript.calls rest)
    (reads : List Reading) (asked : AreReads reads input transcript.calls) where
  forgets : AreReplies pass transcript.calls output → IsEnding start told NoMemory pass link
  forgets written = record {
    transcript = transcript;
    begun = begun;
    cut = λ e. refl;
    input = input;
    output = output;
    flowed = flowed;
    rest = rest;
    handled = handled;
    reads = reads;
    asked = asked;
    ended = has_ended link.left;
    ended_is = ended_is link.left;
    fits = tt;
    written = written;
    cause = memory_cause rest (has_ended link.left) transcript (Rose start.link.faults link.faults);
  }

  cut_not : last_is_cut transcript.calls ≡ false → (end : SessionEnd) → last_is_cut transcript.calls ≡ true → end ≡ NoMemory
  cut_not uncut end cut = let e : false ≡ true = sym uncut ∙ cut in absurd cc

  -- what is written where the rest shows an end
  shown_written : (ended : Bool) (end : SessionEnd) → IsShown rest ended transcript end → AreReplies pass transcript.calls output → IsWritten end pass transcript.calls output
  shown_written ended Closed h w = w
  shown_written ended (Truncated got) h w = w
  shown_written ended (FrameTooLong size) h w = w
  shown_written ended (Refused why) h w = w
  shown_written ended CallsFull h w = w
  shown_written ended ReadFault h w = w
  shown_written ended WriteFault h w = absurd h
  shown_written ended NoMemory h w = w

  shows : last_is_cut transcript.calls ≡ false → AreReplies pass transcript.calls output → (ended : Bool) → HasEndedSo link.left ended → (end : SessionEnd) → IsShown rest ended transcript end
      → IsShown rest ended (ended_so end transcript) end → IsEnding start told end pass link
  shows uncut written ended is end here there = record {
    transcript = transcript;
    begun = begun;
    cut = cut_not uncut end;
    input = input;
    output = output;
    flowed = flowed;
    rest = rest;
    handled = handled;
    reads = reads;
    asked = asked;
    ended = ended;
    ended_is = is;
    fits = shown_fits rest ended (ended_so end transcript) end there;
    written = shown_written ended end here written;
    cause = shown_cause rest ended transcript (Rose start.link.faults link.faults) end here;
  }

-- ---- a frame is served

-- how many calls the pass has made
made_is : (start : Start) (told : ℕ) (transcript : Transcript) (pass : PassView) → HasBegun start told transcript pass → calls_made pass ≡ transcript.first + length transcript.calls
made_is start told transcript pass b =
    let ended = start.pass.ended in
    ap (λ (going : Option Transcript). length (calls_in (pass.ended ++ option_to_list going))) b.going
    ∙ ap (λ (ts : List Transcript). length (calls_in (ts ++ transcript ∷ []))) b.ended
    ∙ ap (λ (cs : List Call). length cs) (flat_map-append (λ (t : Transcript). t.calls) ended (transcript ∷ []))
    ∙ length-append (calls_in ended) (transcript.calls ++ [])
    ∙ ap (λ (cs : List Call). length (calls_in ended) + length cs) (append-nil transcript.calls)
    ∙ ap (λ (n : ℕ). n + length transcript.calls) (sym b.first)

module _ (start : Start) (t u : ℕ) (old new : PassView) (le : t ≤ u) (link : LinkView) (inbox body left : List ℕ) (small : IsFrameBody body) (parts : inbox ≡ framed body ++ left)
    (s : IsServing start t old link inbox) where
  -- the transcript with this call more
  abbrev longer : Call → Transcript
  longer call = record s.transcript { calls = s.transcript.calls ++ call ∷ [] }

  frames_on : (c : HasOneMore u body old new) → HasFrames s.input (s.transcript.calls ++ c.call ∷ []) left
  frames_on c = frames_more s.input s.transcript.calls c.call inbox body left s.handled small parts c.frame_is

  asked_on : (c : HasOneMore u body old new) → AreReads s.reads s.input (s.transcript.calls ++ c.call ∷ [])
  asked_on c = reads_before s.reads s.input s.transcript.calls c.call s.asked

  written_before : (c : HasOneMore u body old new) → AreReplies new s.transcript.calls s.output
  written_before c = replies_on u old new s.transcript.calls s.output c.on s.written

  -- its reply was written whole
  pub replied : (c : HasOneMore u body old new) (frame : List ℕ) (now : LinkView) → IsAnsweredBy new c.call frame → HasFlowed [] frame link now → IsServing start u new now left
  replied c frame now a flow = record {
    transcript = longer c.call;
    begun = more_begun start t u old new le body s.transcript c s.begun;
    uncut = last_cut s.transcript.calls c.call ∙ a.uncut;
    input = s.input;
    output = s.output ++ frame;
    flowed = flowed_out s.input s.output frame start.link link now s.flowed flow;
    handled = frames_on c;
    reads = s.reads;
    asked = asked_on c;
    written = replies_more new s.transcript.calls c.call s.output frame (written_before c) a.answered a.replied;
  }

  -- in part
  pub replied_in_part : (c : HasOneMore u body old new) (frame : List ℕ) (count : ℕ) (now : LinkView) → IsAnsweredBy new c.call frame → count < length frame → HasFlowed [] (take count frame) link now
      → Rose link.faults now.faults → IsEnding start u WriteFault new now
  replied_in_part c frame count now a less flow up =
      let whole = longer c.call in
      let ended = has_ended now.left in
      let uncut : last_is_cut whole.calls ≡ false = last_cut s.transcript.calls c.call ∙ a.uncut in
      record {
        transcript = whole;
        begun = more_begun start t u old new le body s.transcript c s.begun;
        cut = λ cut. let e : false ≡ true = sym uncut ∙ cut in absurd cc;
        input = s.input;
        output = s.output ++ take count frame;
        flowed = flowed_out s.input s.output (take count frame) start.link link now s.flowed flow;
        rest = left;
        handled = frames_on c;
        reads = s.reads;
        asked = asked_on c;
        ended = ended;
        ended_is = ended_is now.left;
        fits = tt;
        written = replies_cut new s.transcript.calls c.call s.output frame count (written_before c) a.replied less;
        cause = write_cause left ended whole (Rose start.link.faults now.faults) (rose_since start.link.faults link.faults now.faults s.flowed.later up);
      }

  -- it asks for none
  pub hushed : (c : HasOneMore u body old new) → is_answered c.call.how ≡ false → is_cut c.call.how ≡ false → IsServing start u new link left
  hushed c none whole = record {
    transcript = longer c.call;
    begun = more_begun start t u old new le body s.transcript c s.begun;
    uncut = last_cut s.transcript.calls c.call ∙ whole;
    input = s.input;
    output = s.output;
    flowed = s.flowed;
    handled = frames_on c;
    reads = s.reads;
    asked = asked_on c;
    written = replies_same new s.transcript.calls c.call s.output (written_before c) none;
  }

  -- or the session is to end
  forgotten : HasOnlyLooked u old new → IsEnding start u NoMemory new link
  forgotten l =
      forgets start u s.transcript new link (looked_begun start t u old new le s.transcript l s.begun) s.input s.output s.flowed inbox s.handled s.reads s.asked
      (replies_on u old new s.transcript.calls s.output l.on s.written)

  cut_off : (c : HasOneMore u body old new) → is_answered c.call.how ≡ false → IsEnding start u NoMemory new link
  cut_off c none =
      forgets start u (longer c.call) new link (more_begun start t u old new le body s.transcript c s.begun) s.input s.output s.flowed left (frames_on c) s.reads (asked_on c)
      (replies_same new s.transcript.calls c.call s.output (written_before c) none)

  shown_here : HasOnlyLooked u old new → (end : SessionEnd) → ((transcript : Transcript) → transcript.first ≡ s.transcript.first → transcript.calls ≡ s.transcript.calls
      → IsShown inbox (has_ended link.left) transcript end) → IsEnding start u end new link
  shown_here l end here =
      shows start u s.transcript new link (looked_begun start t u old new le s.transcript l s.begun) s.input s.output s.flowed inbox s.handled s.reads s.asked s.uncut
      (replies_on u old new s.transcript.calls s.output l.on s.written) (has_ended link.left) (ended_is link.left) end (here s.transcript refl refl)
      (here (ended_so end s.transcript) refl refl)

  uncalled : (at : ℕ) → next_frame_of inbox ≡ Whole at → HasOnlyLooked u old new → (end : SessionEnd) → IsEndFor body (calls_made old) end → IsEnding start u end new link
  uncalled at whole l end (inl full) =
      let all : s.transcript.first + length s.transcript.calls ≡ MOST_CALLS = sym (made_is start t s.transcript old s.begun) ∙ full.1 in
      subst (λ (e : SessionEnd). IsEnding start u e new link) (sym full.0)
      (shown_here l CallsFull (λ transcript first calls. ((at, whole), ap (λ (n : ℕ). n + length transcript.calls) first ∙ ap (λ (cs : List Call). s.transcript.first + length cs) calls ∙ all)))
  uncalled at whole l end (inr refused) =
      let why = refused.0 in
      let few : s.transcript.first + length s.transcript.calls < MOST_CALLS = omega (arith, made_is start t s.transcript old s.begun, refused.2) in
      subst (λ (e : SessionEnd). IsEnding start u e new link) (sym refused.1)
      (shown_here l (Refused why) (λ transcript first calls. (
        (body, left, parts, small, refused.3),
        subst (λ (n : ℕ). n < MOST_CALLS) (sym (ap (λ (n : ℕ). n + length transcript.calls) first ∙ ap (λ (cs : List Call). s.transcript.first + length cs) calls)) few,
      )))

  pub stops : (at : ℕ) → next_frame_of inbox ≡ Whole at → (end : SessionEnd) → HasAnswered u body (Answered.Ended end) old new → IsEnding start u end new link
  stops at whole end (inl (l, inl memory)) = subst (λ (e : SessionEnd). IsEnding start u e new link) (sym memory) (forgotten l)
  stops at whole end (inl (l, inr because)) = uncalled at whole l end because
  stops at whole end (inr cut) = subst (λ (e : SessionEnd). IsEnding start u e new link) (sym cut.0) (cut_off cut.1 cut.2)

-- ---- more is read

unfinished : (rest : List ℕ) → next_frame_of rest ≡ NotYet → IsUnfinished rest
unfinished rest less = record {
  not_whole = λ whole. let e : NotYet ≡ Whole whole.0 = sym less ∙ whole.1 in absurd cc;
  not_too_long = λ long. let e : NotYet ≡ TooLong long.0 = sym less ∙ long.1 in absurd cc;
}

module _ (start : Start) (told : ℕ) (pass : PassView) (link now : LinkView) (inbox : List ℕ) (s : IsServing start told pass link inbox) where
  pub too_long : (size : ℤ) → next_frame_of inbox ≡ TooLong size → IsEnding start told (FrameTooLong size) pass link
  too_long size long =
      shows start told s.transcript pass link s.begun s.input s.output s.flowed inbox s.handled s.reads s.asked s.uncut s.written (has_ended link.left) (ended_is link.left) (FrameTooLong size) long long

  -- memory ran out
  pub gives_up : IsEnding start told NoMemory pass link
  gives_up = forgets start told s.transcript pass link s.begun s.input s.output s.flowed inbox s.handled s.reads s.asked s.written

  came : next_frame_of inbox ≡ NotYet → (piece : List ℕ) → HasFlowed piece [] link now → length piece ≤ MOST_READ → IsServing start told pass now (inbox ++ piece)
  came less piece flow small = record {
    transcript = s.transcript;
    begun = s.begun;
    uncut = s.uncut;
    input = s.input ++ piece;
    output = s.output;
    flowed = flowed_in s.input piece s.output start.link link now s.flowed flow;
    handled = frames_longer s.input s.transcript.calls inbox piece s.handled;
    reads = record { before = s.input; piece = piece; earlier = s.transcript.calls; left = inbox } ∷ s.reads;
    asked = (refl, small, ([], sym (append-nil s.transcript.calls)), s.handled, less, s.asked);
    written = s.written;
  }

  still : HasFlowed [] [] link now → HasFlowed s.input s.output start.link now
  still flow = flowed_still s.input s.output start.link link now s.flowed flow

  failed : next_frame_of inbox ≡ NotYet → HasFlowed [] [] link now → Rose link.faults now.faults → IsEnding start told ReadFault pass now
  failed less flow up =
      let ended = has_ended now.left in
      record {
        transcript = s.transcript;
        begun = s.begun;
        cut = λ cut. let e : false ≡ true = sym s.uncut ∙ cut in absurd cc;
        input = s.input;
        output = s.output;
        flowed = still flow;
        rest = inbox;
        handled = s.handled;
        reads = s.reads;
        asked = s.asked;
        ended = ended;
        ended_is = ended_is now.left;
        fits = unfinished inbox less;
        written = s.written;
        cause = read_cause inbox ended s.transcript (Rose start.link.faults now.faults) (rose_since start.link.faults link.faults now.faults s.flowed.later up);
      }

  over : HasFlowed [] [] link now → IsAtEnd now.left → (end : SessionEnd) → EndsInput inbox end → IsEnding start told end pass now
  over flow none end shown =
      shows start told s.transcript pass now s.begun s.input s.output (still flow) inbox s.handled s.reads s.asked s.uncut s.written true (ended_now now.left none) end (shown s.transcript)
      (shown (ended_so end s.transcript))

  pub read_on : next_frame_of inbox ≡ NotYet → (result : Option SessionEnd) (later : List ℕ) → HasRead result inbox later link now → HasStepped start told result pass now later
  read_on less None later r = subst (IsServing start told pass now) (sym r.3) (came less r.0 r.1 r.2)
  read_on less (Some end) later (inl (flow, inl fault)) = subst (λ (e : SessionEnd). IsEnding start told e pass now) (sym fault.0) (failed less flow fault.1)
  read_on less (Some end) later (inl (flow, inr ends)) = over flow ends.0 end ends.1
  read_on less (Some end) later (inr memory) =
      let c = came less memory.0 memory.1 memory.2 in
      subst (λ (e : SessionEnd). IsEnding start told e pass now) (sym memory.3)
      (forgets start told c.transcript pass now c.begun c.input c.output c.flowed (inbox ++ memory.0) c.handled c.reads c.asked c.written)

-- ---- it has ended

cut_on : (told : ℕ) (old new : PassView) (calls : List Call) (bytes : List ℕ) → HasGoneOn told old new → AreCutReplies old calls bytes → AreCutReplies new calls bytes
cut_on told old new calls bytes on h = record {
  earlier = h.earlier;
  last = h.last;
  calls_are = h.calls_are;
  whole = h.whole;
  before = replies_on told old new h.earlier h.whole on h.before;
  reply = h.reply;
  replied = reply_on told old new h.last h.reply on h.replied;
  part = h.part;
  missing = h.missing;
  spelled = h.spelled;
  proper = h.proper;
  bytes_are = h.bytes_are;
}

written_on : (told : ℕ) (old new : PassView) (end : SessionEnd) (calls : List Call) (bytes : List ℕ) → HasGoneOn told old new → IsWritten end old calls bytes → IsWritten end new calls bytes
written_on told old new Closed calls bytes on w = replies_on told old new calls bytes on w
written_on told old new (Truncated got) calls bytes on w = replies_on told old new calls bytes on w
written_on told old new (FrameTooLong size) calls bytes on w = replies_on told old new calls bytes on w
written_on told old new (Refused why) calls bytes on w = replies_on told old new calls bytes on w
written_on told old new CallsFull calls bytes on w = replies_on told old new calls bytes on w
written_on told old new ReadFault calls bytes on w = replies_on told old new calls bytes on w
written_on told old new WriteFault calls bytes on w = cut_on told old new calls bytes on w
written_on told old new NoMemory calls bytes on w = replies_on told old new calls bytes on w

module _ (start : Start) (told : ℕ) (end : SessionEnd) (pass new : PassView) (link now : LinkView) (e : IsEnding start told end pass link)
    (flow : HasFlowed [] [] link now) (left : now.left ≡ link.left) (faults : now.faults ≡ link.faults) (on : HasGoneOn told pass new) where
  serves : (answer : SessionEnd) → IsKept answer end e.transcript start.pass new → HasServed start.number answer start.pass new start.link now
  serves answer kept =
      record {
        end = end;
        transcript = e.transcript;
        number_is = e.begun.number;
        first = e.begun.first;
        open_still = e.begun.open_still;
        kept = kept;
        input = e.input;
        output = e.output;
        flowed = flowed_still e.input e.output start.link link now e.flowed flow;
        ended = e.ended;
        ended_is = subst (λ (o : Option (List ℕ)). HasEndedSo o e.ended) (sym left) e.ended_is;
        fits = record { rest = e.rest; frames = e.handled.frames; each = e.handled.each; end = e.fits };
        reads = e.reads;
        asked = e.asked;
        written = written_on told pass new end e.transcript.calls e.output on e.written;
        cause = subst (λ (n : ℕ). HasItsCause e.rest e.ended e.transcript (Rose start.link.faults n) end) (sym faults) e.cause;
      }

-- what its end is to rest on
pub is_begun : (start : Start) (told : ℕ) (end : SessionEnd) (pass : PassView) (link : LinkView) → IsEnding start told end pass link → is_some pass.going ≡ true
is_begun start told end pass link e = ap is_some e.begun.going

pub may_end : (start : Start) (told : ℕ) (end : SessionEnd) (pass : PassView) (link : LinkView) → IsEnding start told end pass link → is_cut_off pass.going ≡ true → end ≡ NoMemory
may_end start told end pass link e cut = e.cut (ap is_cut_off (sym e.begun.going) ∙ cut)

-- its transcript was ended
pub ended_on : (told : ℕ) (end : SessionEnd) (old new : PassView) → HasEnded end old new → HasGoneOn told old new
ended_on told end old new h =
    let o = on_self told old in
    subst (HasGoneOn told old) (sym h.new_is) (record { number = refl; made = refl; grown = o.grown; ticked = o.ticked })

-- nothing waits then
pub ended_idle : (end : SessionEnd) (old new : PassView) → HasEnded end old new → old.waits ≡ None → new.waits ≡ None
ended_idle end old new h none = ap (λ (p : PassView). p.waits) h.new_is ∙ none

pub same_idle : (old new : PassView) → new ≡ old → old.waits ≡ None → new.waits ≡ None
same_idle old new same none = ap (λ (p : PassView). p.waits) same ∙ none

pub has_served : (start : Start) (told : ℕ) (end : SessionEnd) (pass new : PassView) (link now : LinkView) → IsEnding start told end pass link → HasFlowed [] [] link now → now.left ≡ link.left
    → now.faults ≡ link.faults → HasEnded end pass new → HasServed start.number end start.pass new start.link now
has_served start told end pass new link now e flow left faults h =
    let same : h.transcript ≡ e.transcript = same_Some h.transcript e.transcript (sym h.going ∙ e.begun.going) in
    serves start told end pass new link now e flow left faults (ended_on told end pass new h) end
    (inl (
      refl,
      ap (λ (p : PassView). p.ended) h.new_is ∙ ap (λ (ts : List Transcript). ts ++ ended_so end h.transcript ∷ []) e.begun.ended
          ∙ ap (λ (x : Transcript). start.pass.ended ++ ended_so end x ∷ []) same,
      ap (λ (p : PassView). p.going) h.new_is,
    ))

pub has_left_open : (start : Start) (told : ℕ) (end : SessionEnd) (pass new : PassView) (link now : LinkView) → IsEnding start told end pass link → HasFlowed [] [] link now → now.left ≡ link.left
    → now.faults ≡ link.faults → new ≡ pass → HasServed start.number NoMemory start.pass new start.link now
has_left_open start told end pass new link now e flow left faults same =
    serves start told end pass new link now e flow left faults (subst (HasGoneOn told pass) (sym same) (on_self told pass)) NoMemory
    (inr (refl, ap (λ (p : PassView). p.ended) same ∙ e.begun.ended, ap (λ (p : PassView). p.going) same ∙ e.begun.going))
