use Rattle.std.proofs.Common.{◌<◌, ap, subst, sym}
use Rattle.std.specs.Prelude.{All}
use Rattle.opcond.specs.declared.need.Need.{Need}
use Rattle.room_core.specs.Gauges.{clock_of}
use Rattle.room_table.specs.Seats.{TableView, caller_now}
use Rattle.purgatory.specs.Rooms.{RoomView}
use Rattle.purgatory.proofs.Describing.{may_open}
use Rattle.purgatory.proofs.Runs.{checked, ended, opened, opened_still}
use Rattle.purgatory.proofs.room.Room.run.Goals as goal

pub open-requires-clause-operation : goal.open-requires-clause-operation
open-requires-clause-operation g c =
    let table = ap (λ (r : RoomView). r.table) c.self.view_is in
    may_open c.self.inside.table.shape c.args.op.now (caller_now c.describe.new.owner).description c.describe.ensures.words c.describe.ensures.valid
    (subst (λ (t : TableView). All (λ (need : Need). need.gauge < clock_of t.shape) c.args.op.now.needs) (sym table) c.requires.gauges)

pub returns-in-Some-clause-went : goal.returns-in-Some-clause-went
returns-in-Some-clause-went g c =
    let o = opened c.args.op.now c.args.owner.now c.describe.new.owner c.open.new.self c.describe.ensures.describes c.describe.ensures.words c.open.ensures in
    (ended c.args.op.now c.args.owner.now c.open.new.self c.list_needs.new.owner c.in-Some.done o c.in-Some.ensures.some).went

pub returns-in-Some-clause-owed : goal.returns-in-Some-clause-owed
returns-in-Some-clause-owed g c =
    let o = opened c.args.op.now c.args.owner.now c.describe.new.owner c.open.new.self c.describe.ensures.describes c.describe.ensures.words c.open.ensures in
    (ended c.args.op.now c.args.owner.now c.open.new.self c.list_needs.new.owner c.in-Some.done o c.in-Some.ensures.some).owed

pub returns-in-Some-clause-registered : goal.returns-in-Some-clause-registered
returns-in-Some-clause-registered g c =
    let o = opened c.args.op.now c.args.owner.now c.describe.new.owner c.open.new.self c.describe.ensures.describes c.describe.ensures.words c.open.ensures in
    (ended c.args.op.now c.args.owner.now c.open.new.self c.list_needs.new.owner c.in-Some.done o c.in-Some.ensures.some).registered

pub returns-in-Some-list_deadline-clause-went : goal.returns-in-Some-list_deadline-clause-went
returns-in-Some-list_deadline-clause-went g c =
    let op = c.args.op.now in
    let old = c.args.owner.now in
    let o = opened op old c.describe.new.owner c.open.new.self c.describe.ensures.describes c.describe.ensures.words c.open.ensures in
    let l = opened_still op old c.open.new.self c.list_needs.new.owner o c.in_default.ensures.none.0.keeps in
    (ended op old c.list_needs.new.owner c.list_deadline.new.owner c.in-Some-list_deadline.done l c.in-Some-list_deadline.ensures.some).went

pub returns-in-Some-list_deadline-clause-owed : goal.returns-in-Some-list_deadline-clause-owed
returns-in-Some-list_deadline-clause-owed g c =
    let op = c.args.op.now in
    let old = c.args.owner.now in
    let o = opened op old c.describe.new.owner c.open.new.self c.describe.ensures.describes c.describe.ensures.words c.open.ensures in
    let l = opened_still op old c.open.new.self c.list_needs.new.owner o c.in_default.ensures.none.0.keeps in
    (ended op old c.list_needs.new.owner c.list_deadline.new.owner c.in-Some-list_deadline.done l c.in-Some-list_deadline.ensures.some).owed

pub returns-in-Some-list_deadline-clause-registered : goal.returns-in-Some-list_deadline-clause-registered
returns-in-Some-list_deadline-clause-registered g c =
    let op = c.args.op.now in
    let old = c.args.owner.now in
    let o = opened op old c.describe.new.owner c.open.new.self c.describe.ensures.describes c.describe.ensures.words c.open.ensures in
    let l = opened_still op old c.open.new.self c.list_needs.new.owner o c.in_default.ensures.none.0.keeps in
    (ended op old c.list_needs.new.owner c.list_deadline.new.owner c.in-Some-list_deadline.done l c.in-Some-list_deadline.ensures.some).registered

pub returns-clause-went : goal.returns-clause-went
returns-clause-went g c =
    let op = c.args.op.now in
    let old = c.args.owner.now in
    let o = opened op old c.describe.new.owner c.open.new.self c.describe.ensures.describes c.describe.ensures.words c.open.ensures in
    let l = opened_still op old c.open.new.self c.list_needs.new.owner o c.in_default.ensures.none.0.keeps in
    let b = c.in_default-list_deadline.ensures.none in
    let d = opened_still op old c.list_needs.new.owner c.list_deadline.new.owner l b.keeps in
    (checked op old c.list_deadline.new.owner c.check.new.owner c.check.result d b.checking c.check.ensures).went

pub returns-clause-owed : goal.returns-clause-owed
returns-clause-owed g c =
    let op = c.args.op.now in
    let old = c.args.owner.now in
    let o = opened op old c.describe.new.owner c.open.new.self c.describe.ensures.describes c.describe.ensures.words c.open.ensures in
    let l = opened_still op old c.open.new.self c.list_needs.new.owner o c.in_default.ensures.none.0.keeps in
    let b = c.in_default-list_deadline.ensures.none in
    let d = opened_still op old c.list_needs.new.owner c.list_deadline.new.owner l b.keeps in
    (checked op old c.list_deadline.new.owner c.check.new.owner c.check.result d b.checking c.check.ensures).owed

pub returns-clause-registered : goal.returns-clause-registered
returns-clause-registered g c =
    let op = c.args.op.now in
    let old = c.args.owner.now in
    let o = opened op old c.describe.new.owner c.open.new.self c.describe.ensures.describes c.describe.ensures.words c.open.ensures in
    let l = opened_still op old c.open.new.self c.list_needs.new.owner o c.in_default.ensures.none.0.keeps in
    let b = c.in_default-list_deadline.ensures.none in
    let d = opened_still op old c.list_needs.new.owner c.list_deadline.new.owner l b.keeps in
    (checked op old c.list_deadline.new.owner c.check.new.owner c.check.result d b.checking c.check.ensures).registered
