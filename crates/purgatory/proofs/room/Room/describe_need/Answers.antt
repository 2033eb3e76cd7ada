use Rattle.std.proofs.Common.{ℕ, subst}
use Rattle.room_core.specs.Description.{gauge_word}
use Rattle.purgatory.specs.Listed.{HasWritten}
use Rattle.purgatory.proofs.Describing.{need_written}
use Rattle.purgatory.proofs.room.Room.describe_need.Goals as goal

pub returns : goal.returns
returns c =
    let old = c.args.owner.now in
    let first = c.describe.new.self in
    let at = gauge_word c.args.i in
    need_written old first c.describe-2.new.self c.describe-3.new.self at c.args.need
    (subst (λ (word : ℕ). HasWritten at word old first) c.from.ensures c.describe.ensures) c.describe-2.ensures c.describe-3.ensures
