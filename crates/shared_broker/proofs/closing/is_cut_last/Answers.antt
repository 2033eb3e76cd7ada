use Rattle.std.proofs.Common.{sym, ap, ◌∙◌}
use Rattle.audit.specs.broker.books.Told.{is_cut}
use Rattle.shared_broker.proofs.ClosingSheets.{last_cut, not_cut}
use Rattle.shared_broker.proofs.closing.is_cut_last.Goals as goal

pub returns-in-Cut : goal.returns-in-Cut
returns-in-Cut c = sym (last_cut c.args.calls.now c.in-Some.call.now (sym c.in-Some.ensures.value) ∙ ap is_cut c.in-Cut.is)

pub returns-in_default : goal.returns-in_default
returns-in_default c = sym (last_cut c.args.calls.now c.in-Some.call.now (sym c.in-Some.ensures.value) ∙ not_cut c.in-Some.call.now.how c.in_default.not-Cut)
