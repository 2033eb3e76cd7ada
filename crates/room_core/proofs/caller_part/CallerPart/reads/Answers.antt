use Rattle.std.proofs.Common.{◌≡◌, ◌<◌, Bool, true, false, Some, None, length, cond, arith, ◌∙◌, sym, ap}
use Rattle.room_core.specs.CallerTables.{caller_of, table}
use Rattle.room_core.specs.Checks.{is_checking}
use Rattle.room_core.specs.Put.{put}
use Rattle.room_core.proofs.CallerViews.{risen}
use Rattle.room_core.proofs.Views.{table_set}
use Rattle.room_core.proofs.caller_part.CallerPart.reads.Goals as goal

pub returns-then-not-is_checking-clause-part : goal.returns-then-not-is_checking-clause-part
returns-then-not-is_checking-clause-part c =
    let l : c.args.gauge < length c.args.self.now.greatest.items = omega (arith, c.requires, c.args.self.now.sized.greatest_size) in
    let no : is_checking c.args.self.now.stage ≡ false = sym c.is_checking.ensures ∙ c.if-not-is_checking.true in
    let readings = ap (λ (b : Bool). cond b (put (table c.args.self.now.readings.items None) c.args.gauge (Some c.args.value)) (table c.args.self.now.readings.items None)) (sym no) in
    λ d. record (caller_of c.args.self.now) {
      greatest = risen c.args.self.now.greatest.items c.args.gauge c.index-greatest.result.now c.max.result c.args.value l c.index-greatest.ensures c.max.ensures d;
      readings = readings d;
    }

pub returns-clause-part : goal.returns-clause-part
returns-clause-part c =
    let l : c.args.gauge < length c.args.self.now.greatest.items = omega (arith, c.requires, c.args.self.now.sized.greatest_size) in
    let m : c.args.gauge < length c.args.self.now.readings.items = omega (arith, c.requires, c.args.self.now.whole.readings_size) in
    let yes : is_checking c.args.self.now.stage ≡ true = sym c.is_checking.ensures ∙ c.if-not-is_checking.false in
    let readings = table_set c.args.self.now.readings.items c.args.gauge (Some c.args.value) None m ∙ ap (λ (b : Bool). cond b (put (table c.args.self.now.readings.items None) c.args.gauge (Some c.args.value)) (table c.args.self.now.readings.items None)) (sym yes) in
    λ d. record (caller_of c.args.self.now) {
      greatest = risen c.args.self.now.greatest.items c.args.gauge c.index-greatest.result.now c.max.result c.args.value l c.index-greatest.ensures c.max.ensures d;
      readings = readings d;
    }
