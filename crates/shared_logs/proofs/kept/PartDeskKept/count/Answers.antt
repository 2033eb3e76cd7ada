use Rattle.std.proofs.Common.{sym, ap, ◌∙◌, length}
use Rattle.partlog.specs.History.{History}
use Rattle.shared_logs.proofs.Beside.{entries_length}
use Rattle.shared_logs.proofs.kept.PartDeskKept.count.Goals as goal

pub returns : goal.returns
returns c = ap length (c.events.ensures ∙ ap (λ (h : History). h.events) c.log.ensures) ∙ sym (entries_length c.args.self.now.history.events c.args.self.now.history.log)
