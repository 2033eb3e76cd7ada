use Rattle.std.proofs.Common.{refl}
use Rattle.follower.specs.declared.fault.TakeFault.TheVariants.{Refused}
use Rattle.std.proofs.Common.{pos}
use Rattle.follower.proofs.Followed.{copied, refused}
use Rattle.follower.proofs.promises.lawful_logs_are_copied.Goals as goal

pub returns-clause-prefix : goal.returns-clause-prefix
returns-clause-prefix c = copied

pub returns-clause-refused : goal.returns-clause-refused
returns-clause-refused c = λ account session old new bodies asked body rest more fault small gone short one f why.
    (refused account session old new bodies asked body rest more fault small gone short one f why).0

pub returns-clause-empty : goal.returns-clause-empty
returns-clause-empty c = λ account session old new bodies asked body rest more small gone short one f none why.
    (refused account session old new bodies asked body rest more (Refused (pos 1)) small gone short one f why).1 none refl
