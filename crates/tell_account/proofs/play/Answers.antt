use Rattle.trace_file.specs.declared.line.TheConstants.{REPLAY_PORT}
use Rattle.tell_account.proofs.Tellable.{tellable}
use Rattle.tell_account.proofs.play.Goals as goal

pub print_workers-requires : goal.print_workers-requires
print_workers-requires g c =
    tellable c.in_ok-lines.lines c.as_slice.result.now REPLAY_PORT c.args.order.drain c.in_ok-account.account c.in_ok-lines.ensures c.as_slice.ensures c.in_ok-account.ensures
