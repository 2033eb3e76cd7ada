use Rattle.std.proofs.Common.{◌≡◌, ◌<◌, length, arith, refl}
use Rattle.std.specs.Vec.{with_item}
use Rattle.room_core.specs.State.{Caller}
use Rattle.room_core.specs.Passes.{caller_describes}
use Rattle.room_core.specs.Tables.{state_of}
use Rattle.room_core.proofs.CallerViews.{caller_set, row_set, row_size}
use Rattle.room_core.proofs.core_state.CoreState.describe.Goals as goal

pub returns-clause-yes : goal.returns-clause-yes
returns-clause-yes c =
    let l : c.args.pass < length c.args.self.now.caller.items = omega (arith, c.args.self.now.sized.caller_size) in
    let m : c.args.pass < length c.args.self.now.description.items = omega (arith, c.args.self.now.words.description_size) in
    let size : length c.index_mut-words.result.now.items ≡ 195 = row_size c.args.self.now.description.items c.args.pass c.index_mut-words.result.now 195 m c.index_mut-words.ensures.value c.args.self.now.words.description_rows in
    let at : c.args.at < length c.index_mut-words.result.now.items = omega (arith, size) in
    λ d. record (state_of c.args.self.now) {
      description = row_set c.args.self.now.description.items c.args.pass c.index_mut-words.result.now (with_item c.index_mut-words.result.now c.args.at c.args.word) c.args.at c.args.word 0 m c.index_mut-words.ensures.value at refl d;
      caller = caller_set (λ (caller : Caller). caller_describes caller c.args.at c.args.word) c.args.self.now.caller.items c.args.pass c.index_mut-caller.result.now c.describes.new.self l c.index_mut-caller.ensures.value c.describes.ensures.part d;
    }
