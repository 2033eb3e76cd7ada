use Rattle.audit.proofs.WorkedRequests.{one_body, both_body, now_body, leader_body, all_body}
use Rattle.audit.proofs.promises.worked_requests.Goals as goal

pub returns-clause-one : goal.returns-clause-one
returns-clause-one c = one_body

pub returns-clause-both : goal.returns-clause-both
returns-clause-both c = both_body

pub returns-clause-now : goal.returns-clause-now
returns-clause-now c = now_body

pub returns-clause-leader : goal.returns-clause-leader
returns-clause-leader c = leader_body

pub returns-clause-all : goal.returns-clause-all
returns-clause-all c = all_body
