-- The lines that a session keeps of its replies, as calls come and are answered and as its pass sees more, and what they are in the account.
use Rattle.std.proofs.Common.{◌≡◌, ℕ, true, false, List, [], ◌∷◌, ◌++◌, Option, Some, None, sym, ap, subst, ◌∙◌, append-nil}
use Rattle.std.specs.Prelude.{is_some, slice_get}
use Rattle.std.specs.List.{AllZip}
use Rattle.std.proofs.lemmas.List.Concat.{flat_map-append}
use Rattle.audit.specs.declared.account.Account.{Account}
use Rattle.audit.specs.declared.account.Call.{Call}
use Rattle.audit.specs.declared.account.CallHow.TheVariants.{Parked}
use Rattle.audit.specs.Fits.{IsReplyOf, answered_of, is_answered}
use Rattle.audit.specs.broker.GoesOn.{Carried, HaveGrown}
use Rattle.audit.proofs.Laws.{answered_more, answered_same, zip_push}
use Rattle.audit.proofs.broker.Laws.{carried_on}
use Rattle.kwire.specs.Configuration.{Configuration}
use Rattle.shared_broker.specs.Calling.{IsMadeOfReply}
use Rattle.shared_broker.specs.Passes.{PassView}
use Rattle.trace_file.specs.PrintedLine.{reply_line}
use Rattle.trace_workers.specs.declared.print_part.PrintPart.{PrintPart}
use Rattle.trace_workers.specs.Telling.{AreKept, AreLinesOf, AreSame, HasPut, IsFresh, frame_line, joined, lines_of}

-- ---- the pass goes on

pub kept_none : (kept : Option (List PrintPart)) (session : ℕ) (pass : PassView) → IsFresh kept → AreKept kept session pass []
kept_none None session pass fresh = tt
kept_none (Some parts) session pass fresh = ([], λ account on. (tt, fresh account))

-- it has seen more
pub kept_on : (kept : Option (List PrintPart)) (session : ℕ) (old new : PassView) (calls : List Call) → new.config ≡ old.config → HaveGrown old.logs.parts old.logs.clock new.logs.parts new.logs.clock
    → AreKept kept session old calls → AreKept kept session new calls
kept_on None session old new calls config grown h = tt
kept_on (Some parts) session old new calls config grown h =
    let Told : Account → Type 0 = λ account. AreLinesOf account session calls h.0 (joined account parts) in
    (h.0, subst (λ (c : Configuration). Carried c new.logs.parts new.logs.clock Told) (sym config) (carried_on old.config old.logs.parts new.logs.parts old.logs.clock new.logs.clock Told grown h.1))

-- it has seen nothing
pub kept_still : (kept : Option (List PrintPart)) (session : ℕ) (old new : PassView) (calls : List Call) → new.config ≡ old.config → new.logs.parts ≡ old.logs.parts → new.logs.clock ≡ old.logs.clock
    → AreKept kept session old calls → AreKept kept session new calls
kept_still None session old new calls config parts clock h = tt
kept_still (Some kept) session old new calls config parts clock h = (
  h.0,
  λ account on. h.1 account (record {
    same = on.same ∙ config;
    follows = λ p x at. on.follows p x (ap (λ ps. slice_get ps p) parts ∙ at);
    more = on.more;
    events = on.events ∙ ap (λ es. es ++ on.more) clock;
  }),
)

-- the lines are the same wherever it may lead
pub kept_alike : (kept now : Option (List PrintPart)) (session : ℕ) (pass : PassView) (calls : List Call) → AreSame pass kept now → AreKept kept session pass calls → AreKept now session pass calls
kept_alike None now session pass calls same h = subst (λ (o : Option (List PrintPart)). AreKept o session pass calls) (sym same) tt
kept_alike (Some parts) now session pass calls same h =
    subst (λ (o : Option (List PrintPart)). AreKept o session pass calls) (sym same.1)
    (h.0, λ account on. ((h.1 account on).0, same.2 account on ∙ (h.1 account on).1))

-- ---- one call more

-- that has no reply
pub kept_same : (kept : Option (List PrintPart)) (session : ℕ) (pass : PassView) (calls : List Call) (call : Call) → is_answered call.how ≡ false
    → AreKept kept session pass calls → AreKept kept session pass (calls ++ call ∷ [])
kept_same None session pass calls call none h = tt
kept_same (Some parts) session pass calls call none h = (
  h.0,
  λ account on. (subst (λ (cs : List Call). AllZip (IsReplyOf account) cs h.0) (sym (answered_same calls call none)) (h.1 account on).0, (h.1 account on).1),
)

-- that has one, and its line was put
pub kept_more : (kept now : Option (List PrintPart)) (session : ℕ) (pass : PassView) (calls : List Call) (call : Call) (frame : List ℕ) → is_answered call.how ≡ true
    → IsMadeOfReply (is_some kept) pass call frame → HasPut session frame kept now → AreKept kept session pass calls → AreKept now session pass (calls ++ call ∷ [])
kept_more None now session pass calls call frame has made put h = subst (λ (o : Option (List PrintPart)). AreKept o session pass (calls ++ call ∷ [])) (sym put) tt
kept_more (Some parts) now session pass calls call frame has made put h =
    let r = made.reply in
    subst (λ (o : Option (List PrintPart)). AreKept o session pass (calls ++ call ∷ [])) (sym put.1) (
      h.0 ++ r ∷ [],
      λ account on. (
        subst (λ (cs : List Call). AllZip (IsReplyOf account) cs (h.0 ++ r ∷ [])) (sym (answered_more calls call has))
            (zip_push (IsReplyOf account) (answered_of calls) h.0 call r (h.1 account on).0 (made.replied account on)),
        put.2 account ∙ ap (λ (bytes : List ℕ). joined account parts ++ frame_line session bytes) made.spelled
            ∙ ap (λ (t : List ℕ). t ++ reply_line session r) (h.1 account on).1 ∙ ap (λ (t : List ℕ). lines_of session h.0 ++ t) (sym (append-nil (reply_line session r)))
            ∙ sym (flat_map-append (reply_line session) h.0 (r ∷ [])),
      ),
    )

-- without the last call, which waits
pub kept_front : (kept : Option (List PrintPart)) (session : ℕ) (pass : PassView) (front : List Call) (call : Call) → call.how ≡ Parked
    → AreKept kept session pass (front ++ call ∷ []) → AreKept kept session pass front
kept_front None session pass front call waits h = tt
kept_front (Some parts) session pass front call waits h = (
  h.0,
  λ account on. (subst (λ (cs : List Call). AllZip (IsReplyOf account) cs h.0) (answered_same front call (ap is_answered waits)) (h.1 account on).0, (h.1 account on).1),
)
