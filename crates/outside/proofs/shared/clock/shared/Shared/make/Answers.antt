use Rattle.std.proofs.Common.{◌∙◌, ap}
use Rattle.turn_lock.specs.Locks.{lock_id}
use Rattle.outside.specs.shared.clock.Fresh.{fresh_passes}
use Rattle.outside.proofs.shared.clock.KeysMade.{fresh_keys}
use Rattle.outside.proofs.shared.clock.shared.Shared.make.Goals as goal

pub clock_passes-requires-clause-keys : goal.clock_passes-requires-clause-keys
clock_passes-requires-clause-keys g c =
    let id = lock_id c.in_ok-lock.lock in
    (id, fresh_keys id c.in_ok-lock.keys c.in_ok-lock.ensures.passes.1)

pub returns-clause-passes : goal.returns-clause-passes
returns-clause-passes g c =
    let id = lock_id c.in_ok-lock.lock in
    c.in_ok-passes.ensures id (fresh_keys id c.in_ok-lock.keys c.in_ok-lock.ensures.passes.1) ∙ ap (fresh_passes id) c.in_ok-lock.ensures.passes.0
