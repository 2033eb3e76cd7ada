use Rattle.std.proofs.Common.{◌≡◌, length, inr, sym, subst}
use Rattle.std.specs.Int.{w32}
use Rattle.std.proofs.lemmas.Int.{to_z_pos}
use Rattle.follower.specs.Commands.{IsOrdered, Order, empty_copy, said}
use Rattle.follower.specs.Copies.{Copy}
use Rattle.follower.specs.Course.{HasFollowed}
use Rattle.follower.specs.Dialling.{dial_by}
use Rattle.follower.specs.Flows.{link_by}
use Rattle.follower.specs.Running.{HasFollowedOver, line_of, sink_of}
use Rattle.follower.proofs.Runs.{one_order, own_fault}
use Rattle.follower.proofs.run.run_follower.Goals as goal

pub returns-clause-run : goal.returns-clause-run
returns-clause-run g c = λ order is.
    let see = link_by g.D.Link.Link.taken g.D.Link.Link.left g.D.Link.Link.written g.D.Link.Link.faults in
    let orders : Order = record { port = c.orders.inside.port; topic = c.orders.inside.topic.now; index = c.orders.inside.index; replica = c.orders.inside.replica; rounds = c.orders.inside.rounds } in
    let some : IsOrdered (said c.args.words.now) orders = subst (IsOrdered (said c.args.words.now)) (sym c.orders.view_is) c.in-Some.ensures.some in
    let same : orders ≡ order = one_order (said c.args.words.now) orders order some is in
    let start = c.in-Ok-dial.link in
    let finish = c.follow-end.new.link in
    let copy = c.follow-end.new.replica in
    let end = c.follow-end.result in
    let begun : c.in-Ok.replica ≡ empty_copy orders =
    rw (to_z_pos w32 orders.index some.1.index, to_z_pos w32 orders.replica some.1.replica) at c.in-Ok.ensures in
    let followed : HasFollowed orders.rounds (empty_copy orders) copy end (see start) (see finish) =
    subst (λ (k : Copy). HasFollowed orders.rounds k copy end (see start) (see finish)) begun c.follow-end.ensures.followed in
    let before = sink_of (g.K.Sink.written c.args.sink.now) (g.K.Sink.faults c.args.sink.now) in
    let after = sink_of (g.K.Sink.written c.tell.new.sink) (g.K.Sink.faults c.tell.new.sink) in
    let dial = dial_by g.D.Dial.faults g.D.Dial.dialled g.D.Dial.retired c.args.dial.now in
    let dial' = dial_by g.D.Dial.faults g.D.Dial.dialled g.D.Dial.retired c.retire.new.self in
    let fresh = c.in-Ok-dial.ensures.link in
    let run : HasFollowedOver see orders c.tell.result before after dial dial' = record {
      start = start;
      finish = finish;
      fresh = record { untaken = fresh.untaken; unwritten = fresh.unwritten; faultless = fresh.faultless };
      copy = copy;
      end = end;
      followed = followed;
      retired = rw (c.dial.ensures.retired, c.dial.ensures.dialled) at c.retire.ensures.retired;
      told = c.tell.ensures;
      fault = own_fault end orders.rounds (empty_copy orders) copy (see start) (see finish) (line_of copy.end (length copy.log)) c.tell.result before after followed fresh.faultless c.tell.ensures;
    } in
    inr (inr (subst (λ (o : Order). HasFollowedOver see o c.tell.result before after dial dial') same run))
