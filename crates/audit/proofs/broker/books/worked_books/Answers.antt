use Rattle.audit.proofs.broker.books.WorkedBooks.{answerable_apart, cut_lawful, follower_answered, miscounted_apart, producer_satisfied, producer_waits, satisfied_lawful, satisfied_together, unseen_apart, waits_lawful}
use Rattle.audit.proofs.broker.books.worked_books.Goals as goal

pub returns-clause-waits : goal.returns-clause-waits
returns-clause-waits c = producer_waits

pub returns-clause-satisfied : goal.returns-clause-satisfied
returns-clause-satisfied c = producer_satisfied

pub returns-clause-answered : goal.returns-clause-answered
returns-clause-answered c = follower_answered

pub returns-clause-together : goal.returns-clause-together
returns-clause-together c = satisfied_together

pub returns-clause-lawful : goal.returns-clause-lawful
returns-clause-lawful c = satisfied_lawful

pub returns-clause-parked : goal.returns-clause-parked
returns-clause-parked c = waits_lawful

pub returns-clause-cut : goal.returns-clause-cut
returns-clause-cut c = cut_lawful

pub returns-clause-unseen : goal.returns-clause-unseen
returns-clause-unseen c = unseen_apart

pub returns-clause-answerable : goal.returns-clause-answerable
returns-clause-answerable c = answerable_apart

pub returns-clause-miscounted : goal.returns-clause-miscounted
returns-clause-miscounted c = miscounted_apart
