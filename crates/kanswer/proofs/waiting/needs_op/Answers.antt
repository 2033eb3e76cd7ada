use Rattle.std.proofs.Common.{◌≡◌, ℕ, Bool, true, ◌&&◌, nat_lt, List, sym, ap, subst, ◌∙◌}
use Rattle.kwire.specs.declared.request.Ask.{Ask}
use Rattle.kwire.specs.declared.request.Request.{Request}
use Rattle.kwire.specs.Views.{ask_of}
use Rattle.kanswer.specs.declared.accepted.Accepted.{Accepted}
use Rattle.kanswer.specs.MayWait.{may_wait}
use Rattle.kanswer.specs.Reached.{reached_by}
use Rattle.kanswer.specs.Waiting.{becomes_delayed, least_of, needs_by_part, needs_of}
use Rattle.kanswer.proofs.Waits.{delayed_is}
use Rattle.kanswer.proofs.waiting.needs_op.Goals as goal

pub returns-then-may_wait : goal.returns-then-may_wait
returns-then-may_wait c = λ shown same own.
    let ask : Ask = ask_of c.request.inside.ask in
    let asked = ap (λ (r : Request). r.ask) c.request.view_is in
    let may : may_wait ask c.args.accepted.now ≡ true = sym c.may_wait.ensures ∙ c.if-may_wait.true in
    let Delayed : List Accepted → Type 0 = λ rs. (may_wait ask rs && nat_lt (reached_by (needs_by_part ask rs) c.args.numbers.now) (least_of ask (needs_of ask rs))) ≡ becomes_delayed ask shown in
    let is : Delayed c.args.accepted.now = subst Delayed same (delayed_is ask c.args.numbers.now shown own) in
    ap (λ (t : ℕ). nat_lt t c.least_of.result) c.reached.ensures
    ∙ ap (λ (m : ℕ). nat_lt (reached_by (needs_by_part ask c.args.accepted.now) c.args.numbers.now) m) c.least_of.ensures.least
    ∙ sym (ap (λ (b : Bool). b && nat_lt (reached_by (needs_by_part ask c.args.accepted.now) c.args.numbers.now) (least_of ask (needs_of ask c.args.accepted.now))) may)
    ∙ is ∙ ap (λ (a : Ask). becomes_delayed a shown) asked
