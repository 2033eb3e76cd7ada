use Rattle.std.proofs.Common.{◌≡◌, ◌<◌, arith, sym, subst, ◌∙◌}
use Rattle.kwire.specs.declared.view.AskView.{AskView}
use Rattle.kwire.specs.Views.{ask_of}
use Rattle.kanswer.specs.Results.{AreResults}
use Rattle.kanswer.specs.Waiting.{least_of, needs_of}
use Rattle.kanswer.proofs.Needs.{few_needs}
use Rattle.kanswer.proofs.Waits.{appended_needs}
use Rattle.kanswer.proofs.waiting.least_of.Goals as goal

pub returns-in-Produce-clause-least : goal.returns-in-Produce-clause-least
returns-in-Produce-clause-least c =
    let Is : AskView → Type 0 = λ v. c.appended_count.result ≡ least_of (ask_of v) (needs_of (ask_of v) c.args.accepted.now) in
    subst Is (sym c.in-Produce.is) (c.appended_count.ensures ∙ appended_needs c.args.accepted.now)

pub returns-in-Produce-clause-limit : goal.returns-in-Produce-clause-limit
returns-in-Produce-clause-limit c =
    let Few : AskView → Type 0 = λ v. AreResults (ask_of v) c.args.accepted.now → c.appended_count.result < 2147483648 in
    subst Few (sym c.in-Produce.is) (λ are. omega (arith, c.appended_count.ensures, appended_needs c.args.accepted.now, few_needs _ c.args.accepted.now are)) c.requires
