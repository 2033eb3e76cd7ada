use Rattle.std.proofs.Common.{◌≡◌, ◌<◌, length, arith, ◌∙◌, ap}
use Rattle.std.specs.Prelude.{slice_get}
use Rattle.room_core.specs.CallerTables.{caller_of}
use Rattle.room_core.specs.Passes.{caller_sees_mark}
use Rattle.room_core.specs.ScannerTables.{row}
use Rattle.room_core.specs.Tables.{state_of}
use Rattle.room_core.proofs.CallerViews.{caller_set, row_here}
use Rattle.room_core.proofs.core_state.CoreState.see_mark.Goals as goal

pub returns-clause-yes : goal.returns-clause-yes
returns-clause-yes c =
    let l : c.args.pass < length c.args.self.now.caller.items = omega (arith, c.args.self.now.sized.caller_size) in
    let m : c.args.pass < length c.args.self.now.marks.items = omega (arith, c.args.self.now.words.marks_size) in
    let mark : c.index-mark.result.now ≡ row (slice_get c.args.self.now.marks.items c.args.pass) 0 c.args.at =
    row_here c.args.self.now.marks.items c.args.pass c.index-2.result.now 65 c.args.at c.index-mark.result.now 0 m c.index-2.ensures c.args.self.now.words.marks_rows (omega arith) c.index-mark.ensures in
    let new : caller_of c.sees_mark.new.self ≡ caller_sees_mark (caller_of c.index_mut-caller.result.now) c.args.at (row (slice_get c.args.self.now.marks.items c.args.pass) 0 c.args.at) =
    c.sees_mark.ensures.part ∙ ap (caller_sees_mark (caller_of c.index_mut-caller.result.now) c.args.at) mark in
    λ d. record (state_of c.args.self.now) {
      caller = caller_set (λ caller. caller_sees_mark caller c.args.at (row (slice_get c.args.self.now.marks.items c.args.pass) 0 c.args.at)) c.args.self.now.caller.items c.args.pass c.index_mut-caller.result.now c.sees_mark.new.self l c.index_mut-caller.ensures.value new d;
    }
