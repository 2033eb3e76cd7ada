use Rattle.std.proofs.Common.{◌∙◌, ◌++◌, ℕ, List, ap}
use Rattle.std.proofs.lemmas.Result.{on_ok_weaker}
use Rattle.trace_workers.specs.Telling.{frame_line, joined}
use Rattle.trace_workers.proofs.reply_lines.ReplyLines.put.Goals as goal

pub returns-else-len-gt-LONG_FRAME : goal.returns-else-len-gt-LONG_FRAME
returns-else-len-gt-LONG_FRAME c =
    on_ok_weaker c.put_short.result
    (λ put account. put account ∙ ap (λ (bytes : List ℕ). joined account c.args.self.now ++ frame_line c.args.session bytes) c.as_slice.ensures)
    c.put_short.ensures
