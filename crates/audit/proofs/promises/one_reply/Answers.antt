use Rattle.audit.proofs.ReplyOnce.{reply_once}
use Rattle.audit.proofs.Prints.{reply_answered, reply_there}
use Rattle.audit.proofs.promises.one_reply.Goals as goal

pub returns-clause-once : goal.returns-clause-once
returns-clause-once c = reply_once

pub returns-clause-answered : goal.returns-clause-answered
returns-clause-answered c = reply_answered

pub returns-clause-there : goal.returns-clause-there
returns-clause-there c = reply_there
