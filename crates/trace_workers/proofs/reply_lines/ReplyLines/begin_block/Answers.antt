use Rattle.std.proofs.Common.{◌≡◌, ◌∙◌, ◌++◌, ℕ, List, [], ap, append-nil, rules, sym}
use Rattle.std.proofs.lemmas.Result.{on_ok_weaker}
use Rattle.trace_workers.specs.declared.print_part.PrintPart.{PrintPart}
use Rattle.trace_workers.specs.Telling.{joined}
use Rattle.trace_workers.proofs.Parts.{one_more_part}
use Rattle.trace_workers.proofs.reply_lines.ReplyLines.begin_block.Goals as goal

pub returns : goal.returns
returns c =
    let i = c.self.inside in
    let parts = c.end_block.new.parts in
    let none : c.replace-full.new.dest ≡ [] = search rules in
    let full : c.replace-full.result ≡ i.last = search rules in
    on_ok_weaker c.end_block.result
    (λ put account.
    one_more_part account parts (PrintPart.Text c.replace-full.new.dest) ∙ ap (λ (t : List ℕ). joined account parts ++ t) none ∙ append-nil (joined account parts) ∙ put account
    ∙ ap (λ (t : List ℕ). joined account i.parts ++ t) full ∙ sym (one_more_part account i.parts (PrintPart.Text i.last)) ∙ ap (joined account) c.self.view_is)
    c.end_block.ensures
