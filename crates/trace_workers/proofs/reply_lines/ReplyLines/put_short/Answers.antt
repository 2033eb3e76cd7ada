use Rattle.std.proofs.Common.{◌≡◌, ◌∙◌, ◌++◌, ℕ, List, ap, append_assoc, sym}
use Rattle.std.proofs.lemmas.Result.{on_ok_weaker}
use Rattle.trace_workers.specs.declared.print_part.PrintPart.{PrintPart}
use Rattle.trace_workers.specs.Telling.{frame_line, joined}
use Rattle.trace_workers.proofs.Parts.{one_more_part}
use Rattle.trace_workers.proofs.reply_lines.ReplyLines.put_short.Goals as goal

pub returns : goal.returns
returns c =
    let i = c.self.inside in
    let line = frame_line c.args.session c.args.frame.now in
    let new = c.put_reply_line.new.out in
    on_ok_weaker c.put_reply_line.result
    (λ (put : new ≡ i.last ++ line) account.
    one_more_part account i.parts (PrintPart.Text new) ∙ ap (λ (t : List ℕ). joined account i.parts ++ t) put ∙ sym (append_assoc (joined account i.parts) i.last line)
    ∙ ap (λ (t : List ℕ). t ++ line) (sym (one_more_part account i.parts (PrintPart.Text i.last)) ∙ ap (joined account) c.self.view_is ∙ c.in_ok-make_room.ensures account))
    c.put_reply_line.ensures.ok
