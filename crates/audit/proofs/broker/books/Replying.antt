-- The reply of a call, by what its pass knows: in every account that goes on it is the same.
use Rattle.std.proofs.Common.{◌≡◌, ℕ, false, List, length, Some, None, sym, ap, subst, ◌∙◌}
use Rattle.partlog.specs.State.{PartState as State}
use Rattle.audit.specs.declared.account.CallHow.{CallHow}
use Rattle.audit.specs.declared.account.CallHow.TheVariants.{AtOnce, Satisfied, Expired}
use Rattle.audit.specs.declared.account.Point.{Point}
use Rattle.audit.specs.Fits.{IsReplyOf, ShowsFor}
use Rattle.audit.specs.LawfulCall.{shown_as_completed}
use Rattle.kanswer.specs.Answer.{answer}
use Rattle.kanswer.specs.Decisions.{Decision}
use Rattle.kanswer.specs.Waiting.{becomes_delayed}
use Rattle.kwire.specs.Configuration.{Configuration}
use Rattle.kwire.specs.declared.request.Request.{Request}
use Rattle.audit.specs.broker.Board.{Waiting}
use Rattle.audit.specs.broker.Entering.{Noted, shown_of, steps_of}
use Rattle.audit.specs.broker.GoesOn.{Carried}
use Rattle.audit.specs.broker.books.Underway.{Underway}
use Rattle.audit.specs.broker.books.Accepting.{IsAccepting}
use Rattle.audit.specs.broker.books.Finishing.{IsFinishing, shown_with}
use Rattle.audit.proofs.broker.books.Acceptings.{accepted_in}
use Rattle.audit.proofs.broker.books.Finishings.{shown_completed}

-- it is Kafka's answer at the states that its own entries found
pub answered_reply : (u : Underway) (request : Request) (decisions : List Decision) (noted : List Noted) → IsAccepting u request decisions (length decisions) noted → becomes_delayed request.ask (shown_of noted) ≡ false
    → u.call.how ≡ AtOnce → Carried u.config u.parts u.clock (λ account. IsReplyOf account u.call (answer u.config request (shown_of noted)))
answered_reply u request decisions noted h at_once how account on = record {
  whole = accepted_in u request decisions noted h at_once account on;
  shown = shown_of noted;
  shows = subst (λ (end : CallHow). ShowsFor account (steps_of noted) u.call.finish end (shown_of noted)) (sym how) (sym (h.shown account on));
  answered = ap (λ (c : Configuration). answer c request (shown_of noted)) (sym on.same);
}

-- or at the states at its looks
pub satisfied_reply : (u : Underway) (w : Waiting) (states : List State) (by : ℕ) → IsFinishing u w None states → u.call.how ≡ Satisfied by
    → Carried u.config u.parts u.clock (λ account. IsReplyOf account u.call (answer u.config w.request (shown_with w.steps states)))
satisfied_reply u w states by h how account on =
    let d = h.delayed.delayed account on in
    let shown : shown_with w.steps states ≡ shown_as_completed account w.steps u.call.finish =
    sym (ap (shown_with w.steps) (h.seen account on)) ∙ sym (shown_completed account w.steps h.looks) ∙ ap (shown_as_completed account w.steps) (sym h.finish) in
    record {
      whole = record { request = w.request; steps = w.steps; looks = d.looks; accepted = d.accepted; entries = d.entries };
      shown = shown_with w.steps states;
      shows = subst (λ (end : CallHow). ShowsFor account w.steps u.call.finish end (shown_with w.steps states)) (sym how) shown;
      answered = ap (λ (c : Configuration). answer c w.request (shown_with w.steps states)) (sym on.same);
    }

pub expired_reply : (u : Underway) (w : Waiting) (late : Point) (states : List State) (by : ℕ) → IsFinishing u w (Some late) states → u.call.how ≡ Expired by
    → Carried u.config u.parts u.clock (λ account. IsReplyOf account u.call (answer u.config w.request (shown_with w.steps states)))
expired_reply u w late states by h how account on =
    let d = h.delayed.delayed account on in
    let shown : shown_with w.steps states ≡ shown_as_completed account w.steps h.looks = sym (ap (shown_with w.steps) (h.seen account on)) ∙ sym (shown_completed account w.steps h.looks) in
    record {
      whole = record { request = w.request; steps = w.steps; looks = d.looks; accepted = d.accepted; entries = d.entries };
      shown = shown_with w.steps states;
      shows = subst (λ (end : CallHow). ShowsFor account w.steps u.call.finish end (shown_with w.steps states)) (sym how) (late, h.looks, h.finish, shown);
      answered = ap (λ (c : Configuration). answer c w.request (shown_with w.steps states)) (sym on.same);
    }
