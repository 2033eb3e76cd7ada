use Rattle.audit.proofs.OneServePrint.{print_once}
use Rattle.audit.proofs.promises.one_serve_print.Goals as goal

pub returns : goal.returns
returns c = print_once
