use Rattle.std.proofs.Common.{sym, ap, ◌∙◌, length}
use Rattle.shared_logs.proofs.Beside.{clock_length}
use Rattle.shared_logs.proofs.kept.MomentDeskKept.count.Goals as goal

pub returns : goal.returns
returns c = ap length c.events.ensures ∙ sym (clock_length c.args.self.now.events c.args.self.now.tickers)
