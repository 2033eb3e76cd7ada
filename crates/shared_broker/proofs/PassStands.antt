-- What is so of a pass whose last call was written down, or came to its end.
use Rattle.std.proofs.Common.{◌≡◌, ℕ, ◌+◌, ◌<◌, false, cond, List, [], ◌∷◌, ◌++◌, length, Option, Some, None, Result, Ok, Err, refl, sym, ap, subst, ◌∙◌, arith, append-nil, inr, Bool}
use Rattle.std.specs.Prelude.{count_by, option_to_list}
use Rattle.std.proofs.lemmas.Grind.{flat_map-append}
use Rattle.std.proofs.lemmas.List.{length-append}
use Rattle.audit.specs.declared.account.Call.{Call}
use Rattle.audit.specs.declared.account.TheConstants.{MOST_CALLS}
use Rattle.audit.specs.declared.account.Transcript.{Transcript}
use Rattle.audit.specs.Histories.{calls_in}
use Rattle.audit.specs.IsLawful.{is_won_as, is_won_by}
use Rattle.shared_logs.specs.Amid.{amid}
use Rattle.shared_logs.specs.Left.{AreLeft}
use Rattle.shared_logs.proofs.Laws.{operation_self, went_self}
use Rattle.kanswer.specs.Decisions.{Decides, Decision}
use Rattle.kwire.specs.Configuration.{Configuration}
use Rattle.kwire.specs.declared.request.Request.{Request}
use Rattle.kwire.specs.IsRequest.{IsRequest}
use Rattle.audit.specs.broker.books.IsBook.{IsBook}
use Rattle.audit.specs.broker.books.Told.{last_is_cut}
use Rattle.audit.proofs.broker.books.Laws.{accepting_cut, called_accepting, calls_with, won_amid}
use Rattle.audit.proofs.broker.Laws.{grown_self}
use Rattle.room_core.specs.declared.parts.Stage.{Stage}
use Rattle.room_table.specs.Seats.{caller_now}
use Rattle.shared_broker.specs.declared.calling.Became.{Became}
use Rattle.shared_broker.specs.declared.calling.Handled.{Handled}
use Rattle.shared_broker.specs.declared.parked.Parked.{Parked}
use Rattle.shared_broker.specs.Calling.{HasCalled, HasHandledAs}
use Rattle.shared_broker.specs.Passes.{BrokerView, PassView, book_of, calls_made}
use Rattle.shared_broker.specs.Serving.{HasCome, HasGoneOn, HasServed, IsWritten, WasWritten, fresh_call, with_last}
use Rattle.shared_broker.specs.Standing.{HoldsBook, IsGoing, IsOfGoing, Sits, Stands}
use Rattle.shared_logs.specs.Seen.{HasSeen}
use Rattle.shared_logs.specs.Shared.{LogPassView, SharedView, followers_in}
use Rattle.shared_broker.proofs.Steps.{cut_come}

pub calls_behind : (ended : List Transcript) (transcript : Transcript) → calls_in (ended ++ transcript ∷ []) ≡ calls_in ended ++ transcript.calls
calls_behind ended transcript =
    flat_map-append (λ (t : Transcript). t.calls) ended (transcript ∷ []) ∙ ap (λ (cs : List Call). calls_in ended ++ cs) (append-nil transcript.calls)

pub of_going : (waits : Option Parked) (transcript : Transcript) → IsOfGoing waits (Some transcript)
of_going None transcript = tt
of_going (Some parked) transcript = refl

module _ (old : PassView) (stood : Stands old) (transcript : Transcript) (going : old.going ≡ Some transcript) where
  pub calls_are : calls_made old ≡ length (calls_in old.ended ++ transcript.calls)
  calls_are =
      ap (λ (o : Option Transcript). length (calls_in (old.ended ++ option_to_list o))) going ∙ ap (λ (cs : List Call). length cs) (calls_behind old.ended transcript)

  pub no_end : transcript.end ≡ None
  no_end = subst IsGoing going stood.going

  -- its call came to its end so
  pub came_stands : (Was : List Transcript → Transcript → Type 0) (new : LogPassView) (waits : Option Parked) (before after : Call) → HasCome old.config Was waits old.logs new before after → Was old.ended transcript
      → HasSeen new → calls_made old < MOST_CALLS → Stands (record old { logs = new; going = Some (with_last transcript after); waits = waits })
  came_stands Was new waits before after h was seen few =
      let more : length (calls_in (old.ended ++ with_last transcript after ∷ [])) ≡ length (calls_in old.ended ++ transcript.calls) + 1 =
      ap (λ (cs : List Call). length cs) (calls_with old.ended transcript after) ∙ length-append (calls_in old.ended ++ transcript.calls) (after ∷ []) in
      record {
        seen = seen;
        topics = stood.topics;
        followers = ap followers_in h.on.made ∙ stood.followers;
        book = h.book old.ended transcript was;
        going = no_end;
        ended = stood.ended;
        begun = of_going waits (with_last transcript after);
        sits = h.seat.sits;
        paid = h.seat.paid;
        few = omega (arith, more, few, calls_are);
        opened = omega (arith, more, calls_are, h.seat.opened, stood.opened);
        taken = λ by.
            h.seat.taken by
            ∙ ap (λ (n : ℕ). n + cond (is_won_as by after.how) 1 0) (stood.taken by ∙ ap (λ (o : Option Transcript). count_by (is_won_by by) (calls_in (old.ended ++ option_to_list o))) going ∙ ap (count_by (is_won_by by)) (calls_behind old.ended transcript))
            ∙ sym (won_amid (amid old.config old.ended transcript new after) by);
      }

  -- none waits
  module _ (none : old.waits ≡ None) where
    pub is_idle : (caller_now old.logs.seat).stage ≡ Stage.Idle
    is_idle = subst (Sits (caller_now old.logs.seat)) none stood.sits

    old_book : IsBook (record (book_of old) { transcripts = old.ended ++ transcript ∷ [] }) None
    old_book =
        subst (λ (o : Option Transcript). IsBook (record (book_of old) { transcripts = old.ended ++ option_to_list o }) None) going
        (subst (HoldsBook (book_of old)) none stood.book)

    module _ (frame : List ℕ) (request : Request) (seq : ℕ) (whole : last_is_cut transcript.calls ≡ false) (number : seq ≡ calls_made old) (asked : IsRequest frame request) (decisions : List Decision)
        (decided : Decides old.config request.ask decisions) where
      pub is_written : IsWritten old.config seq request old.logs (fresh_call frame) old.ended transcript
      is_written = record {
        number = sym (number ∙ calls_are);
        cut = refl;
        decisions = decisions;
        accepting = called_accepting (book_of old) old.ended transcript frame request decisions no_end whole asked decided old_book;
      }

      -- it is written down
      pub written_stands : calls_made old < MOST_CALLS → Stands (record old { going = Some (with_last transcript (fresh_call frame)) })
      written_stands few =
          let Was = IsWritten old.config seq request old.logs (fresh_call frame) in
          let on : HasGoneOn old.logs old.logs = record { number = refl; made = refl; ticked = refl; grown = grown_self old.logs.parts old.logs.clock; went = went_self old.logs.seat } in
          subst (λ (o : Option Parked). Stands (record old { going = Some (with_last transcript (fresh_call frame)); waits = o })) (sym none)
          (came_stands Was old.logs None (fresh_call frame) (fresh_call frame)
          (cut_come old.config Was old.logs old.logs (fresh_call frame) (fresh_call frame) on (operation_self _) is_idle stood.paid refl refl
          (λ f t w. accepting_cut (amid old.config f t old.logs (fresh_call frame)) request w.decisions 0 [] w.accepting w.cut))
          is_written stood.seen few)

-- ---- it is served

module _ {E : Type 0} where
  abbrev pub waits_by : Result Became E → Option Parked
  waits_by (Ok (Became.Answered bytes)) = None
  waits_by (Ok Became.Quiet) = None
  waits_by (Ok (Became.Parked parked)) = Some parked
  waits_by (Err e) = None

  abbrev pub handled_by : Result Became E → Handled
  handled_by (Ok (Became.Answered bytes)) = Handled.Reply bytes
  handled_by (Ok Became.Quiet) = Handled.Quiet
  handled_by (Ok (Became.Parked parked)) = Handled.Parked parked.op.deadline
  handled_by (Err e) = Handled.NoMemory

  come_by : (is_sent : Bool) (config : Configuration) (seq : ℕ) (request : Request) (Was : List Transcript → Transcript → Type 0) (r : Result Became E) (old new : LogPassView) (before after : Call) → HasServed is_sent config seq request Was r old new before after
      → HasCome config Was (waits_by r) old new before after
  come_by is_sent config seq request Was (Ok (Became.Answered bytes)) old new before after h = h.0
  come_by is_sent config seq request Was (Ok Became.Quiet) old new before after h = h.0
  come_by is_sent config seq request Was (Ok (Became.Parked parked)) old new before after h = h.0
  come_by is_sent config seq request Was (Err e) old new before after h = h.0

  module _ (is_sent : Bool) (frame : List ℕ) (request : Request) (seq : ℕ) (before now : PassView) (w : WasWritten frame request seq before now) (r : Result Became E) (new : LogPassView) (after : Call)
      (h : HasServed is_sent before.config seq request (IsWritten before.config seq request before.logs (fresh_call frame)) r before.logs new (fresh_call frame) after) where
    abbrev Was : List Transcript → Transcript → Type 0
    Was = IsWritten before.config seq request before.logs (fresh_call frame)

    was : IsWritten before.config seq request before.logs (fresh_call frame) before.ended w.transcript
    was = is_written before w.stood w.transcript w.going w.none frame request seq w.whole w.number w.asked w.decisions w.decided

    abbrev come : HasCome before.config (IsWritten before.config seq request before.logs (fresh_call frame)) (waits_by r) before.logs new (fresh_call frame) after
    come = come_by is_sent before.config seq request (IsWritten before.config seq request before.logs (fresh_call frame)) r before.logs new (fresh_call frame) after h

    pub served_stands : HasSeen new → Stands (record before { logs = new; going = Some (with_last w.transcript after); waits = waits_by r })
    served_stands seen =
        came_stands before w.stood w.transcript w.going (IsWritten before.config seq request before.logs (fresh_call frame)) new (waits_by r) (fresh_call frame) after come was seen (subst (λ n. n < MOST_CALLS) w.number w.few)

    abbrev called : (waits : Option Parked) → HasCalled frame before (record before { logs = new; going = Some (with_last w.transcript after); waits = waits })
    called waits = record {
      transcript = w.transcript;
      call = after;
      request = request;
      asked = w.asked;
      frame_is = come.frame;
      going = w.going;
      called = refl;
      ended = refl;
      number = come.on.number;
      made = ap (λ (m : SharedView). let made : BrokerView = record { config = before.config; logs = m } in made) come.on.made;
      grown = come.on.grown;
      seat = come.on.went;
      ticked = come.on.ticked;
    }

  module _ (is_sent : Bool) (frame : List ℕ) (request : Request) (seq : ℕ) (before now : PassView) (w : WasWritten frame request seq before now) (new : LogPassView) (after : Call) where
    pub served_handled : (r : Result Became E) → HasServed is_sent before.config seq request (IsWritten before.config seq request before.logs (fresh_call frame)) r before.logs new (fresh_call frame) after
        → HasHandledAs is_sent frame (handled_by r) before (record before { logs = new; going = Some (with_last w.transcript after); waits = waits_by r })
    served_handled (Ok (Became.Answered bytes)) h =
        let told = h.4 before.ended w.transcript (was is_sent frame request seq before now w (Ok (Became.Answered bytes)) new after h) in
        (called is_sent frame request seq before now w (Ok (Became.Answered bytes)) new after h None, h.1, h.2, record { reply = told.reply; spelled = told.spelled; replied = told.replied }, subst (λ (n : ℕ). AreLeft n before.logs new) w.number h.3, refl)
    served_handled (Ok Became.Quiet) h =
        (called is_sent frame request seq before now w (Ok Became.Quiet) new after h None, h.1, h.2, subst (λ (n : ℕ). AreLeft n before.logs new) w.number h.3, refl)
    served_handled (Ok (Became.Parked parked)) h =
        (called is_sent frame request seq before now w (Ok (Became.Parked parked)) new after h (Some parked), h.1, parked, refl, refl, h.2, subst (λ (n : ℕ). AreLeft n before.logs new) w.number h.3)
    served_handled (Err e) h = inr (called is_sent frame request seq before now w (Err e) new after h None, h.1, refl)
