use Rattle.std.proofs.Common.{ℕ, [], sym, subst, arith}
use Rattle.follower.specs.Copies.{Copy}
use Rattle.follower.specs.Course.{HasFollowed}
use Rattle.follower.specs.Flows.{LinkView, link_of}
use Rattle.follower.specs.declared.fault.FollowEnd.TheVariants.{Done, NoMemory}
use Rattle.follower.proofs.Going.{broken_asking, followed_broken, followed_done, going_none, going_on}
use Rattle.follower.proofs.course.follow.Goals as goal

pub returns-then-rounds-eq0 : goal.returns-then-rounds-eq0
returns-then-rounds-eq0 g c =
    let a : LinkView = link_of (g.L.Link.taken c.args.link.now) (g.L.Link.left c.args.link.now) (g.L.Link.written c.args.link.now) (g.L.Link.faults c.args.link.now) in
    let copy = c.args.replica.now in
    record { followed = subst (λ (n : ℕ). HasFollowed n copy copy Done a a) (sym c.if-rounds-eq0.true) (followed_done 0 copy copy [] a a (going_none copy a)) }

pub returns-in_default : goal.returns-in_default
returns-in_default g c =
    let a : LinkView = link_of (g.L.Link.taken c.args.link.now) (g.L.Link.left c.args.link.now) (g.L.Link.written c.args.link.now) (g.L.Link.faults c.args.link.now) in
    let copy = c.args.replica.now in
    record { followed = followed_broken c.args.rounds 0 copy copy NoMemory [] a a a (omega (arith, c.if-rounds-eq0.false)) (going_none copy a) (broken_asking 0 copy [] a) }

pub returns-in-Some : goal.returns-in-Some
returns-in-Some g c =
    let a : LinkView = link_of (g.L.Link.taken c.args.link.now) (g.L.Link.left c.args.link.now) (g.L.Link.written c.args.link.now) (g.L.Link.faults c.args.link.now) in
    let b : LinkView = link_of (g.L.Link.taken c.loop-round.link) (g.L.Link.left c.loop-round.link) (g.L.Link.written c.loop-round.link) (g.L.Link.faults c.loop-round.link) in
    let d : LinkView = link_of (g.L.Link.taken c.make_round.new.link) (g.L.Link.left c.make_round.new.link) (g.L.Link.written c.make_round.new.link) (g.L.Link.faults c.make_round.new.link) in
    let copy = c.args.replica.now in
    record {
      followed = subst (λ (k : Copy). HasFollowed c.args.rounds copy k c.in-Some.end a d) (sym c.in-Some.ensures.same)
          (followed_broken c.args.rounds c.loop-round.round copy c.loop-round.replica c.in-Some.end c.loop-round.intake.inbox a b d c.loop-round-test.true c.loop-round.invariant c.in-Some.ensures.broken);
    }

pub loop-round-preserved : goal.loop-round-preserved
loop-round-preserved g c =
    let a : LinkView = link_of (g.L.Link.taken c.args.link.now) (g.L.Link.left c.args.link.now) (g.L.Link.written c.args.link.now) (g.L.Link.faults c.args.link.now) in
    let b : LinkView = link_of (g.L.Link.taken c.loop-round.link) (g.L.Link.left c.loop-round.link) (g.L.Link.written c.loop-round.link) (g.L.Link.faults c.loop-round.link) in
    let d : LinkView = link_of (g.L.Link.taken c.make_round.new.link) (g.L.Link.left c.make_round.new.link) (g.L.Link.written c.make_round.new.link) (g.L.Link.faults c.make_round.new.link) in
    going_on c.args.replica.now c.loop-round.replica c.make_round.new.replica c.loop-round.round c.loop-round.intake.inbox c.make_round.new.intake.inbox a b d c.loop-round.invariant
    c.in_default-make_round.ensures.made
