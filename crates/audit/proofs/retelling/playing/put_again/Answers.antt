use Rattle.audit.proofs.retelling.playing.put_again.Goals as goal

pub unreachable-requires : goal.unreachable-requires
unreachable-requires c =
    let e = c.in_default.ensures.only c.requires.batch.0 c.requires.batch.1 in
    absurd cc
