use Rattle.std.proofs.Common.{◌≡◌, ◌∙◌, ◌∷◌, ◌++◌, ℕ, List, [], ap, append-nil, rules, sym}
use Rattle.std.proofs.lemmas.Result.{on_ok_weaker}
use Rattle.trace_workers.specs.declared.print_part.PrintPart.{PrintPart}
use Rattle.trace_workers.specs.Telling.{joined, part_text}
use Rattle.trace_workers.proofs.Parts.{one_more_part, part_then_text}
use Rattle.trace_workers.proofs.reply_lines.ReplyLines.put_long.Goals as goal

pub returns : goal.returns
returns c =
    let i = c.self.inside in
    let parts = c.end_block.new.parts in
    let new = c.push.new.self in
    let last = c.replace-full.new.dest in
    let long : PrintPart = PrintPart.Reply c.args.session c.args.frame in
    let none : last ≡ [] = search rules in
    let full : c.replace-full.result ≡ i.last = search rules in
    on_ok_weaker c.push.result
    (λ (pushed : new ≡ parts ++ long ∷ []) account.
    ap (λ (ps : List PrintPart). joined account (ps ++ PrintPart.Text last ∷ [])) pushed ∙ part_then_text account parts long last
    ∙ ap (λ (t : List ℕ). (joined account parts ++ part_text account long) ++ t) none ∙ append-nil (joined account parts ++ part_text account long)
    ∙ ap (λ (t : List ℕ). t ++ part_text account long)
    (c.in_ok-end_block.ensures account ∙ ap (λ (t : List ℕ). joined account i.parts ++ t) full ∙ sym (one_more_part account i.parts (PrintPart.Text i.last)) ∙ ap (joined account) c.self.view_is))
    c.push.ensures.ok
