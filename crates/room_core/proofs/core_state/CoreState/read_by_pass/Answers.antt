use Rattle.std.proofs.Common.{◌≡◌, ◌<◌, length, get_or, arith, ◌∙◌, ap}
use Rattle.std.proofs.lemmas.List.{get_or_default}
use Rattle.room_core.specs.State.{Caller}
use Rattle.room_core.specs.CallerTables.{caller_of}
use Rattle.room_core.specs.Checks.{caller_reads}
use Rattle.room_core.specs.Tables.{state_of}
use Rattle.room_core.proofs.CallerViews.{caller_set}
use Rattle.room_core.proofs.core_state.CoreState.read_by_pass.Goals as goal

pub returns-clause-yes : goal.returns-clause-yes
returns-clause-yes c =
    let l : c.args.pass < length c.args.self.now.caller.items = omega (arith, c.args.self.now.sized.caller_size) in
    let m : c.args.gauge < length c.args.self.now.value.items = omega (arith, c.args.self.now.sized.value_size) in
    let value : c.index-value.result.now ≡ get_or c.args.self.now.value.items c.args.gauge 0 = c.index-value.ensures ∙ get_or_default c.args.self.now.value.items c.args.gauge _ 0 m in
    let new : caller_of c.reads.new.self ≡ caller_reads (caller_of c.index_mut-caller.result.now) c.args.gauge (get_or c.args.self.now.value.items c.args.gauge 0) =
    c.reads.ensures.part ∙ ap (caller_reads (caller_of c.index_mut-caller.result.now) c.args.gauge) value in
    λ d. record (state_of c.args.self.now) {
      caller = caller_set (λ (caller : Caller). caller_reads caller c.args.gauge (get_or c.args.self.now.value.items c.args.gauge 0)) c.args.self.now.caller.items c.args.pass c.index_mut-caller.result.now c.reads.new.self l c.index_mut-caller.ensures.value new d;
    }
