use Rattle.std.proofs.Common.{arith, ℕ}
use Rattle.audit.specs.broker.Play.{Rests}
use Rattle.lone_broker.proofs.LessWork.{act_leaves, scan_leaves}
use Rattle.lone_broker.proofs.Scanning.{nobody_of, turn_of}
use Rattle.lone_broker.proofs.Turning.{Comes, IsLast, TakesTurn, comes_nowhere, comes_on, comes_to_rest, last_turn, takes_turn, turns_none, turns_on}
use Rattle.lone_broker.proofs.Watching.{ready_idle}
use Rattle.lone_broker.proofs.watched.Watched.settle.Goals as goal

pub loop-self-init : goal.loop-self-init
loop-self-init c = record {
  comes = turns_none Comes c.args.self.now.engine c.args.out.now (λ board stands. comes_nowhere board);
  watched = c.requires;
}

pub scan-requires : goal.scan-requires
scan-requires c = c.loop-self.invariant.watched

pub act-requires-clause-idle : goal.act-requires-clause-idle
act-requires-clause-idle c =
    let after = c.in_ok-scan.ensures.watched in
    ready_idle c.scan.new.self.engine c.in-Some.session ((after.ready c.in-Some.session c.in-Some.ensures.within).0 c.in-Some.ensures.found.member)

pub loop-self-smaller : goal.loop-self-smaller
loop-self-smaller c =
    let before = c.loop-self.invariant.watched in
    let after = c.in_ok-scan.ensures.watched in
    let turn = turn_of c.scan.new.self c.in-Some.session after c.in-Some.ensures.found c.in-Some.ensures.within in
    let same = scan_leaves c.loop-self.self.engine c.scan.new.self.engine c.loop-self.out c.scan.new.out before.stands c.in_ok-scan.ensures.scans in
    let less = act_leaves c.scan.new.self.engine c.act.new.self.engine c.in-Some.session c.scan.new.out c.act.new.out after.stands turn c.in_ok-act.ensures.acts in
    omega (arith, same, less)

pub loop-self-preserved : goal.loop-self-preserved
loop-self-preserved c =
    let after = c.in_ok-scan.ensures.watched in
    let turn = turn_of c.scan.new.self c.in-Some.session after c.in-Some.ensures.found c.in-Some.ensures.within in
    record {
      comes = turns_on Comes TakesTurn Comes c.args.self.now.engine c.loop-self.self.engine c.act.new.self.engine c.args.out.now c.loop-self.out c.act.new.out (λ x p q. comes_on x p q) c.loop-self.invariant.comes
          (takes_turn c.loop-self.self.engine c.scan.new.self.engine c.act.new.self.engine c.in-Some.session c.loop-self.out c.scan.new.out c.act.new.out c.in_ok-scan.ensures.scans turn c.in_ok-act.ensures.acts);
      watched = c.in_ok-act.ensures.watched;
    }

pub returns-in_default-clause-rests : goal.returns-in_default-clause-rests
returns-in_default-clause-rests c =
    let after = c.in_ok-scan.ensures.watched in
    turns_on Comes IsLast (λ board t. (acts : ℕ) × Rests acts board t) c.args.self.now.engine c.loop-self.self.engine c.scan.new.self.engine c.args.out.now c.loop-self.out c.scan.new.out (λ x p q. comes_to_rest x p q) c.loop-self.invariant.comes
    (last_turn c.loop-self.self.engine c.scan.new.self.engine c.loop-self.out c.scan.new.out c.in_ok-scan.ensures.scans (nobody_of c.scan.new.self after c.in_default.ensures.none))
