use Rattle.std.proofs.Common.{codes}
use Rattle.commands.proofs.Spellings.{only_item, is_word}
use Rattle.commands.proofs.command.is_replay.Goals as goal

pub returns-in-len1 : goal.returns-in-len1
returns-in-len1 c =
    let one = only_item c.args.words.now c.word-item.result c.in-len1.len_at_least c.in-len1.len_below c.word-item.is in
    rw one (rw c.as_str.ensures.value at (is_word c.as_str.result.now (codes "replay") c.eq.result c.eq.ensures))
