use Rattle.audit.proofs.broker.books.Closing.{books_lawful}
use Rattle.audit.proofs.broker.books.books_are_lawful.Goals as goal

pub returns : goal.returns
returns c = books_lawful
