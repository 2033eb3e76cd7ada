use Rattle.link_lanes.proofs.books.Apart.{printable}
use Rattle.link_lanes.proofs.books.promises.served_accounts_are_printable.Goals as goal

pub returns : goal.returns
returns c = printable
