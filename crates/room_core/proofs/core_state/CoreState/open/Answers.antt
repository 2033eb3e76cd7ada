use Rattle.std.proofs.Common.{◌+◌, ◌<◌, length, get_or, arith, ◌∙◌, ap, sym}
use Rattle.room_core.specs.declared.parts.Phase.TheVariants.{Open}
use Rattle.room_core.specs.State.{Caller}
use Rattle.room_core.specs.Passes.{caller_opens}
use Rattle.room_core.specs.Tables.{state_of}
use Rattle.room_core.proofs.Views.{table_set, put_as}
use Rattle.room_core.proofs.CallerViews.{caller_here, caller_set, no_session}
use Rattle.room_core.proofs.core_state.CoreState.open.Goals as goal

pub returns-clause-yes : goal.returns-clause-yes
returns-clause-yes c =
    let l : c.args.pass < length c.args.self.now.caller.items = omega (arith, c.args.self.now.sized.caller_size) in
    let m : c.args.pass < length c.args.self.now.session.items = omega (arith, c.args.self.now.words.session_size) in
    let word = ap (λ (caller : Caller). record { generation = caller.generation + 1; phase = Open }) (sym (caller_here c.args.self.now.caller.items c.args.pass c.index-2.result.now l c.index-2.ensures)) in
    λ d. record (state_of c.args.self.now) {
      session = (table_set c.args.self.now.session.items c.args.pass (record { generation = c.index-2.result.now.generation + 1; phase = Open }) no_session m ∙ put_as (λ i. get_or c.args.self.now.session.items i no_session) c.args.pass _ _ word) d;
      caller = caller_set caller_opens c.args.self.now.caller.items c.args.pass c.index_mut-caller.result.now c.opens.new.self l c.index_mut-caller.ensures.value c.opens.ensures.part d;
    }
