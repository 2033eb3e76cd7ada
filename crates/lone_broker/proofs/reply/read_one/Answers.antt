use Rattle.std.proofs.Common.{◌≡◌, ◌<◌, ◌≤◌, length, get_or, subst, arith, rules, to_z, of_z}
use Rattle.std.proofs.lemmas.Int.{to_z-of_z}
use Rattle.std.proofs.lemmas.List.{get_or_default}
use Rattle.std.specs.Int.{w32}
use mir.Val.{SFits}
use Rattle.partlog.specs.History.{History}
use Rattle.partlog.specs.State.{PartState, state_of}
use Rattle.partlog.specs.Gauges.{bytes_in}
use Rattle.kanswer.proofs.Laws.{log_bytes, seen_room}
use Rattle.audit.proofs.Laws.{on_ok}
use Rattle.lone_broker.specs.Replying.{HasLog}
use Rattle.lone_broker.proofs.ReadForReply.{if_ok_two, if_ok_both, seen_read, seen_left}
use Rattle.lone_broker.proofs.reply.read_one.Goals as goal

pub returns-in-Seen-clause-left : goal.returns-in-Seen-clause-left
returns-in-Seen-clause-left c =
    let reader = c.args.reader.now in
    let parts = reader.parts.now in
    let part = c.in-Seen.part in
    let fits : SFits w32 reader.replica = search rules in
    let lt : part < length parts = subst (HasLog (length parts)) c.in-Seen.is c.requires in
    let h : History = get_or parts part c.index-reader-part.result in
    let at : h ≡ get_or parts part h = get_or_default parts part c.index-reader-part.result h lt in
    on_ok c.read_asked.result c.read_asked.ensures.lowered (seen_left parts (to_z w32 (of_z w32 reader.replica)) reader.replica c.args.asked.now c.args.became.now part c.in-Seen.start h c.args.budget.now c.read_asked.new.budget (to_z-of_z w32 reader.replica fits) c.in-Seen.is c.requires at)

pub returns-in-Seen-clause-read : goal.returns-in-Seen-clause-read
returns-in-Seen-clause-read c =
    let reader = c.args.reader.now in
    let parts = reader.parts.now in
    let part = c.in-Seen.part in
    let fits : SFits w32 reader.replica = search rules in
    let lt : part < length parts = subst (HasLog (length parts)) c.in-Seen.is c.requires in
    let h : History = get_or parts part c.index-reader-part.result in
    let at : h ≡ get_or parts part h = get_or_default parts part c.index-reader-part.result h lt in
    if_ok_both c.read_asked.result c.read_asked.ensures.numbers c.read_asked.ensures.records (λ reading numbers records.
    seen_read parts (to_z w32 (of_z w32 reader.replica)) reader.replica c.args.asked.now c.args.became.now part c.in-Seen.start h c.args.budget.now reading
    (to_z-of_z w32 reader.replica fits) c.in-Seen.is c.requires at numbers records)

pub returns-in-Seen-clause-room : goal.returns-in-Seen-clause-room
returns-in-Seen-clause-room c =
    let reader = c.args.reader.now in
    let h : History = get_or reader.parts.now c.in-Seen.part c.index-reader-part.result in
    let state : PartState = state_of h in
    let kept = c.read_asked.ensures.kept in
    let few : bytes_in state.batches ≤ 67108864 = omega (arith, log_bytes h kept, kept.bounded) in
    if_ok_two c.read_asked.result c.read_asked.ensures.records c.read_asked.ensures.lowered (λ reading e1 e2. seen_room (to_z w32 (of_z w32 reader.replica)) c.args.asked.now c.in-Seen.start state c.args.budget.now c.read_asked.new.budget reading.records few e1 e2)
