use Rattle.storm.proofs.Blocks.{one_block_more}
use Rattle.storm.proofs.promises.each_block_is_counted.Goals as goal

pub returns-clause-next : goal.returns-clause-next
returns-clause-next c = one_block_more
