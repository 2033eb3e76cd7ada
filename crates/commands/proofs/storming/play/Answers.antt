use Rattle.storm.specs.Lines.{storm_lines}
use Rattle.commands.proofs.Stormings.{storm_printable}
use Rattle.commands.proofs.storming.play.Goals as goal

pub print_storm-requires : goal.print_storm-requires
print_storm-requires g c = storm_printable (storm_lines c.args.load.seed c.args.load.requests) c.in_ok-account.account c.in_ok-account.ensures
