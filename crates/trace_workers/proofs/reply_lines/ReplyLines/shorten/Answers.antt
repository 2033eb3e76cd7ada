use Rattle.std.proofs.Common.{◌≡◌, ◌∙◌, ◌∷◌, ◌++◌, ℕ, List, [], ap, rules, sym}
use Rattle.std.proofs.lemmas.Result.{on_ok_weaker}
use Rattle.shared_broker.proofs.Laws.{caught_up_still}
use Rattle.trace_workers.specs.declared.print_part.PrintPart.{PrintPart}
use Rattle.trace_workers.specs.Telling.{joined}
use Rattle.trace_workers.proofs.Parts.{part_then_text}
use Rattle.trace_workers.proofs.reply_lines.ReplyLines.shorten.Goals as goal

pub returns-then-not-is_empty-clause-others : goal.returns-then-not-is_empty-clause-others
returns-then-not-is_empty-clause-others g c = caught_up_still c.args.pass.now

pub returns-in_default-clause-others : goal.returns-in_default-clause-others
returns-in_default-clause-others g c = caught_up_still c.args.pass.now

pub returns-clause-same : goal.returns-clause-same
returns-clause-same g c =
    let i = c.self.inside in
    let front = c.pop.new.self in
    let before = c.in-Some.part in
    let now = c.in_ok-part.part in
    let new = c.push.new.self in
    let popped : front ++ before ∷ [] ≡ i.parts = search rules in
    on_ok_weaker c.push.result
    (λ (pushed : new ≡ front ++ now ∷ []) account on.
    ap (λ (ps : List PrintPart). joined account (ps ++ PrintPart.Text i.last ∷ [])) pushed ∙ part_then_text account front now i.last
    ∙ ap (λ (t : List ℕ). (joined account front ++ t) ++ i.last) (c.in_ok-part.ensures.same account on) ∙ sym (part_then_text account front before i.last)
    ∙ ap (λ (ps : List PrintPart). joined account (ps ++ PrintPart.Text i.last ∷ [])) popped ∙ ap (joined account) c.self.view_is)
    c.push.ensures.ok
