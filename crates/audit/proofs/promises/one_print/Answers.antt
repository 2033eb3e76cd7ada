use Rattle.std.proofs.Common.{ap}
use Rattle.audit.specs.Fits.{sent}
use Rattle.kwire.proofs.Laws.{sent_frames}
use Rattle.audit.proofs.Prints.{print_there, print_once}
use Rattle.audit.proofs.ReplyOnce.{replies_once}
use Rattle.audit.proofs.promises.one_print.Goals as goal

pub returns-clause-there : goal.returns-clause-there
returns-clause-there c = print_there

pub returns-clause-once : goal.returns-clause-once
returns-clause-once c = print_once

pub returns-clause-bytes : goal.returns-clause-bytes
returns-clause-bytes c = λ account calls replies others h k. ap sent (replies_once account calls replies others h k)

pub returns-clause-frames : goal.returns-clause-frames
returns-clause-frames c = sent_frames
