use Rattle.std.proofs.Common.{◌<◌, length, true, false, arith}
use Rattle.room_core.specs.Tables.{state_of}
use Rattle.room_core.proofs.Views.{table_set}
use Rattle.room_core.proofs.core_state.CoreState.store.Goals as goal

pub returns-clause-yes : goal.returns-clause-yes
returns-clause-yes c =
    let l : c.args.gauge < length c.args.self.now.value.items = omega (arith, c.args.self.now.sized.value_size) in
    let m : c.args.gauge < length c.args.self.now.source.items = omega (arith, c.args.self.now.sized.source_size) in
    λ d. record (state_of c.args.self.now) {
      value = table_set c.args.self.now.value.items c.args.gauge c.args.value 0 l d;
      source = table_set c.args.self.now.source.items c.args.gauge (record { stored = c.args.value; loud = true }) (record { stored = 0; loud = false }) m d;
    }
