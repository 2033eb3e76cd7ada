use Rattle.std.proofs.Common.{◌∙◌, ◌<◌, arith}
use Rattle.purgatory.proofs.Marks.{listing_far, listing_open, need_marks, need_seen}
use Rattle.purgatory.proofs.room.Room.list_need.Goals as goal

pub returns-then-sees_mark-clause-none : goal.returns-then-sees_mark-clause-none
returns-then-sees_mark-clause-none g c =
    let goes = c.loop.invariant.goes in
    let now = c.loop.owner in
    let new = c.sees_mark.new.self in
    let m = c.sees_mark.ensures in
    let there = c.requires.need in
    let few = c.requires.needs.1 in
    let less : c.args.at < 64 = omega (arith, there, few) in
    record {
      goes = listing_far c.args.owner.now now new goes (need_marks now new c.args.at m.0 m.1 less goes.clock);
      seen = need_seen now new c.args.at m.0 m.1 (m.2.0 c.if-sees_mark.true);
    }

pub returns-in-Some-poll-clause-some : goal.returns-in-Some-poll-clause-some
returns-in-Some-poll-clause-some g c =
    let goes = c.loop.invariant.goes in
    let now = c.loop.owner in
    let new = c.sees_mark.new.self in
    let m = c.sees_mark.ensures in
    let there = c.requires.need in
    let few = c.requires.needs.1 in
    let less : c.args.at < 64 = omega (arith, there, few) in
    record {
      before = new;
      keeps = (listing_far c.args.owner.now now new goes (need_marks now new c.args.at m.0 m.1 less goes.clock)).keeps;
      steps = c.in-Some-poll.ensures;
    }

pub loop-preserved : goal.loop-preserved
loop-preserved g c =
    let goes = c.loop.invariant.goes in
    let now = c.loop.owner in
    let new = c.sees_mark.new.self in
    let m = c.sees_mark.ensures in
    let there = c.requires.need in
    let few = c.requires.needs.1 in
    let less : c.args.at < 64 = omega (arith, there, few) in
    let next = need_marks now new c.args.at m.0 m.1 less goes.clock in
    record {
      goes =
          listing_far c.args.owner.now new c.poll.new.self
          (listing_far c.args.owner.now now new goes next)
          (listing_open new c.poll.new.self c.in_default.ensures next.listing next.clock);
      keys = c.list_needs.ensures ∙ c.loop.invariant.keys;
    }
