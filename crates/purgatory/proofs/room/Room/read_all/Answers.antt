use Rattle.std.proofs.Common.{◌∙◌, ◌-◌, ◌<◌, List, ap, length, subst, sym, take}
use Rattle.std.specs.Prelude.{All}
use Rattle.opcond.specs.declared.need.Need.{Need}
use Rattle.room_core.specs.declared.shape.Shape.{Shape}
use Rattle.room_core.specs.Gauges.{clock_of}
use Rattle.room_table.specs.declared.part.CallerStep.{CallerStep}
use Rattle.room_table.specs.Seats.{TableView, caller_did, caller_now}
use Rattle.purgatory.specs.Listed.{HasReadAll, IsDescribed}
use Rattle.purgatory.specs.Rooms.{RoomView}
use Rattle.purgatory.proofs.Reading.{are_read}
use Rattle.purgatory.proofs.room.Room.read_all.Goals as goal

pub leave-requires-clause-read : goal.leave-requires-clause-read
leave-requires-clause-read c =
    let a = c.read_needs.new.owner in
    let needs = c.needs.result.now in
    let values = take (length needs) c.read_needs.new.values in
    let all = subst (λ (xs : List Need). HasReadAll xs values c.args.owner.now a) c.needs.ensures.items c.read_needs.ensures in
    let words = subst (IsDescribed c.args.op.now) (sym all.keeps.account.description) c.requires.words in
    are_read c.args.op.now values (c.self.inside.shape.gauges - 1) (caller_now a) words all.taken

pub returns : goal.returns
returns c =
    let a = c.read_needs.new.owner in
    let values = c.read_needs.new.values in
    let all = subst (λ (xs : List Need). HasReadAll xs (take (length xs) values) c.args.owner.now a) c.needs.ensures.items c.read_needs.ensures in
    let table = ap (λ (r : RoomView). r.table) c.self.view_is ∙ sym c.requires.table ∙ sym all.keeps.went.table in
    let shape = c.self.invariant.0 ∙ ap (λ (t : TableView). t.shape) table in
    record {
      last = a;
      described = c.requires.words;
      before_clock = subst (λ (t : TableView). All (λ (need : Need). need.gauge < clock_of t.shape) c.args.op.now.needs) (sym c.requires.table ∙ sym all.keeps.went.table) c.requires.gauges;
      needs = all;
      clock = c.leave.ensures ∙ ap (λ (s : Shape). caller_did a (CallerStep.Left (s.gauges - 1) c.leave.result)) shape;
    }
