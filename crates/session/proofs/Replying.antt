-- The replies of a session, as calls come and the pass sees more of the histories.
use Rattle.std.proofs.Common.{◌≡◌, ◌≢◌, ℕ, ◌<◌, true, false, List, [], ◌∷◌, ◌++◌, length, take, drop, refl, sym, ap, subst, ◌∙◌, arith, append-nil, length-drop, take-append-drop}
use Rattle.std.specs.List.{AllZip}
use Rattle.std.proofs.lemmas.List.Concat.{flat_map-append}
use Rattle.audit.specs.declared.account.Call.{Call}
use Rattle.audit.specs.Fits.{HasReplies, IsReplyOf, answered_of, is_answered, sent}
use Rattle.audit.specs.broker.GoesOn.{Carried}
use Rattle.audit.proofs.Laws.{answered_more, answered_same, zip_push}
use Rattle.audit.proofs.broker.Laws.{carried_on}
use Rattle.kwire.specs.Configuration.{Configuration}
use Rattle.kwire.specs.declared.reply.Reply.{Reply}
use Rattle.kwire.specs.Spelling.{spelling}
use Rattle.session.specs.Onwards.{HasGoneOn}
use Rattle.session.specs.Replies.{AreCutReplies, AreReplies}
use Rattle.shared_broker.specs.Calling.{IsRepliedTo}
use Rattle.shared_broker.specs.Passes.{BrokerView, PassView}

-- ---- the pass has seen more

pub same_config : (told : ℕ) (old new : PassView) → HasGoneOn told old new → new.config ≡ old.config
same_config told old new on = ap (λ (b : BrokerView). b.config) on.made

pub reply_on : (told : ℕ) (old new : PassView) (call : Call) (reply : Reply) → HasGoneOn told old new → Carried old.config old.logs.parts old.logs.clock (λ account. IsReplyOf account call reply)
    → Carried new.config new.logs.parts new.logs.clock (λ account. IsReplyOf account call reply)
reply_on told old new call reply on h =
    subst (λ (config : Configuration). Carried config new.logs.parts new.logs.clock (λ account. IsReplyOf account call reply)) (sym (same_config told old new on))
    (carried_on old.config old.logs.parts new.logs.parts old.logs.clock new.logs.clock (λ account. IsReplyOf account call reply) on.grown h)

pub replies_on : (told : ℕ) (old new : PassView) (calls : List Call) (bytes : List ℕ) → HasGoneOn told old new → AreReplies old calls bytes → AreReplies new calls bytes
replies_on told old new calls bytes on h = record {
  replies = h.replies;
  replied = subst (λ (config : Configuration). Carried config new.logs.parts new.logs.clock (λ account. HasReplies account calls h.replies)) (sym (same_config told old new on))
      (carried_on old.config old.logs.parts new.logs.parts old.logs.clock new.logs.clock (λ account. HasReplies account calls h.replies) on.grown h.replied);
  bytes_are = h.bytes_are;
}

-- ---- one call more

pub replies_none : (pass : PassView) → AreReplies pass [] []
replies_none pass = record { replies = []; replied = λ account on. tt; bytes_are = refl }

-- that has a reply
pub replies_more : (pass : PassView) (calls : List Call) (call : Call) (bytes frame : List ℕ) → AreReplies pass calls bytes → is_answered call.how ≡ true → IsRepliedTo pass call frame
    → AreReplies pass (calls ++ call ∷ []) (bytes ++ frame)
replies_more pass calls call bytes frame h has r = record {
  replies = h.replies ++ r.reply ∷ [];
  replied = λ account on. subst (λ (cs : List Call). AllZip (IsReplyOf account) cs (h.replies ++ r.reply ∷ [])) (sym (answered_more calls call has))
      (zip_push (IsReplyOf account) (answered_of calls) h.replies call r.reply (h.replied account on) (r.replied account on));
  bytes_are = ap (λ (bs : List ℕ). bs ++ frame) h.bytes_are ∙ ap (λ (bs : List ℕ). sent h.replies ++ bs) (r.spelled ∙ sym (append-nil (spelling r.reply)))
      ∙ sym (flat_map-append spelling h.replies (r.reply ∷ []));
}

-- that has none
pub replies_same : (pass : PassView) (calls : List Call) (call : Call) (bytes : List ℕ) → AreReplies pass calls bytes → is_answered call.how ≡ false → AreReplies pass (calls ++ call ∷ []) bytes
replies_same pass calls call bytes h none = record {
  replies = h.replies;
  replied = λ account on. subst (λ (cs : List Call). AllZip (IsReplyOf account) cs h.replies) (sym (answered_same calls call none)) (h.replied account on);
  bytes_are = h.bytes_are;
}

-- whose reply was written in part
missing_some : (frame : List ℕ) (count : ℕ) → count < length frame → drop count frame ≢ []
missing_some frame count less none =
    let size : length (drop count frame) ≡ 0 = ap (λ (bs : List ℕ). length bs) none in
    omega (arith, less, size, length-drop count frame)

pub replies_cut : (pass : PassView) (calls : List Call) (call : Call) (bytes frame : List ℕ) (count : ℕ) → AreReplies pass calls bytes → IsRepliedTo pass call frame → count < length frame
    → AreCutReplies pass (calls ++ call ∷ []) (bytes ++ take count frame)
replies_cut pass calls call bytes frame count h r less = record {
  earlier = calls;
  last = call;
  calls_are = refl;
  whole = bytes;
  before = h;
  reply = r.reply;
  replied = r.replied;
  part = take count frame;
  missing = drop count frame;
  spelled = sym r.spelled ∙ sym (take-append-drop count frame);
  proper = missing_some frame count less;
  bytes_are = refl;
}
