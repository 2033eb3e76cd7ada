use Rattle.audit.proofs.broker.books.Replying.{answered_reply, expired_reply, satisfied_reply}
use Rattle.audit.proofs.broker.books.replies_stay.Goals as goal

pub returns-clause-answered : goal.returns-clause-answered
returns-clause-answered c = answered_reply

pub returns-clause-satisfied : goal.returns-clause-satisfied
returns-clause-satisfied c = satisfied_reply

pub returns-clause-expired : goal.returns-clause-expired
returns-clause-expired c = expired_reply
