use Rattle.std.proofs.Common.{List, length, subst, sym, take}
use Rattle.opcond.specs.declared.need.Need.{Need}
use Rattle.purgatory.specs.Listed.{HasReadings}
use Rattle.purgatory.proofs.Leaving.{check_earned, check_left, check_tried, tried_busy}
use Rattle.purgatory.proofs.room.Room.check.Goals as goal

pub returns-in_default : goal.returns-in_default
returns-in_default g c =
    let op = c.args.op.now in
    let values = c.read_all-moment.new.values in
    let moment = c.read_all-moment.result in
    let old = c.args.owner.now in
    let now = c.read_all-moment.new.owner in
    let h = subst (λ (xs : List Need). HasReadings op (take (length xs) values) moment old now) (sym c.needs-count.ensures.items) c.read_all-moment.ensures in
    check_left op (take (length c.needs-count.result.now) values) moment old now h c.in_default.ensures.none.0 c.in_default.ensures.none.1

pub win-requires-clause-checking : goal.win-requires-clause-checking
win-requires-clause-checking g c =
    let op = c.args.op.now in
    let values = c.read_all-moment.new.values in
    let moment = c.read_all-moment.result in
    let old = c.args.owner.now in
    let now = c.read_all-moment.new.owner in
    let h = subst (λ (xs : List Need). HasReadings op (take (length xs) values) moment old now) (sym c.needs-count.ensures.items) c.read_all-moment.ensures in
    (check_earned op (take (length c.needs-count.result.now) values) moment old now h c.in-Some.how c.in-Some.ensures.some).0

pub win-requires-clause-may : goal.win-requires-clause-may
win-requires-clause-may g c =
    let op = c.args.op.now in
    let values = c.read_all-moment.new.values in
    let moment = c.read_all-moment.result in
    let old = c.args.owner.now in
    let now = c.read_all-moment.new.owner in
    let h = subst (λ (xs : List Need). HasReadings op (take (length xs) values) moment old now) (sym c.needs-count.ensures.items) c.read_all-moment.ensures in
    (check_earned op (take (length c.needs-count.result.now) values) moment old now h c.in-Some.how c.in-Some.ensures.some).1

pub take_end-requires-clause-busy : goal.take_end-requires-clause-busy
take_end-requires-clause-busy g c =
    let op = c.args.op.now in
    let values = c.read_all-moment.new.values in
    let moment = c.read_all-moment.result in
    let old = c.args.owner.now in
    let now = c.read_all-moment.new.owner in
    let h = subst (λ (xs : List Need). HasReadings op (take (length xs) values) moment old now) (sym c.needs-count.ensures.items) c.read_all-moment.ensures in
    tried_busy now c.win.new.self c.in-Some.how c.win.ensures.0 (check_earned op (take (length c.needs-count.result.now) values) moment old now h c.in-Some.how c.in-Some.ensures.some).0 c.win.ensures.1

pub returns : goal.returns
returns g c =
    let op = c.args.op.now in
    let values = c.read_all-moment.new.values in
    let moment = c.read_all-moment.result in
    let old = c.args.owner.now in
    let now = c.read_all-moment.new.owner in
    let h = subst (λ (xs : List Need). HasReadings op (take (length xs) values) moment old now) (sym c.needs-count.ensures.items) c.read_all-moment.ensures in
    check_tried op (take (length c.needs-count.result.now) values) moment old now h c.in-Some.how c.win.ensures.0 c.win.new.self c.take_end.new.owner c.take_end.result c.win.ensures.1 c.take_end.ensures
