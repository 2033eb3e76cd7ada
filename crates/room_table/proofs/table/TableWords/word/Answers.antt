use Rattle.std.proofs.Common.{◌∙◌, ap, get_or}
use Rattle.room_table.proofs.Ends.{at_index}
use Rattle.room_table.proofs.table.TableWords.word.Goals as goal

pub returns : goal.returns
returns c = at_index _ c.args.at c.word.result 0 c.word.ensures ∙ ap (λ xs. get_or xs c.args.at 0) c.self.view_is
