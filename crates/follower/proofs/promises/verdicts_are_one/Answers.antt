use Rattle.follower.proofs.Verdicts.{one_refusal, one_taking, taken_or_refused}
use Rattle.follower.proofs.promises.verdicts_are_one.Goals as goal

pub returns-clause-refused : goal.returns-clause-refused
returns-clause-refused c = one_refusal

pub returns-clause-taken : goal.returns-clause-taken
returns-clause-taken c = one_taking

pub returns-clause-not_both : goal.returns-clause-not_both
returns-clause-not_both c = taken_or_refused
