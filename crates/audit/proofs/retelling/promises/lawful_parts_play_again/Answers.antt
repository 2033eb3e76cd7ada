use Rattle.std.proofs.Common.{arith}
use Rattle.audit.proofs.retelling.LawfulParts.{all_playable, parts_long}
use Rattle.audit.proofs.retelling.promises.lawful_parts_play_again.Goals as goal

pub returns : goal.returns
returns c = λ account lawful few. all_playable account lawful (omega (arith, parts_long account lawful.logs, few))
