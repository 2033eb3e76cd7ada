use Rattle.std.proofs.Common.{refl}
use Rattle.lone_broker.proofs.index.shelves.make_room.Goals as goal

pub returns-then-len-ge-FULL-clause-fewer : goal.returns-then-len-ge-FULL-clause-fewer
returns-then-len-ge-FULL-clause-fewer c = λ key id generation h. ((c.purge.ensures.listed key id generation).0 h).0

pub returns-then-len-ge-FULL-clause-kept : goal.returns-then-len-ge-FULL-clause-kept
returns-then-len-ge-FULL-clause-kept c = λ key id h. (c.purge.ensures.listed key id _).1 (h, refl)

pub returns-then-len-ge-FULL-clause-purged : goal.returns-then-len-ge-FULL-clause-purged
returns-then-len-ge-FULL-clause-purged c = λ full key id generation h. ((c.purge.ensures.listed key id generation).0 h).1
