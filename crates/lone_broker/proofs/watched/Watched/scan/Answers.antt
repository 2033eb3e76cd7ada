use Rattle.std.proofs.Common.{◌≡◌, ◌+◌, arith, refl}
use Rattle.audit.specs.broker.Completing.{answered_in}
use Rattle.lone_broker.proofs.Scanning.{none_before, skipped}
use Rattle.lone_broker.proofs.Turning.{ScannedBelow, scanned_more, turns_none, turns_on}
use Rattle.lone_broker.proofs.watched.Watched.scan.Goals as goal

pub loop-session-init : goal.loop-session-init
loop-session-init c = record {
  scans = turns_none (ScannedBelow 0) c.args.self.now.engine c.args.out.now (λ board stands. refl);
  watched = c.requires;
  within = omega arith;
}

pub look-requires-clause-watched : goal.look-requires-clause-watched
look-requires-clause-watched c = c.loop-session.invariant.watched

pub loop-session-smaller : goal.loop-session-smaller
loop-session-smaller c = omega (arith, c.in-Some.ensures.found.above, c.in-Some.ensures.within)

pub loop-session-preserved : goal.loop-session-preserved
loop-session-preserved c =
    let s = c.in-Some.session in
    let w = c.loop-session.self in
    let inv = c.loop-session.invariant in
    let start = c.args.self.now.engine in
    let first = c.args.out.now in
    let skip = skipped w start first c.loop-session.out c.loop-session.from s inv.watched c.in-Some.ensures.found.above (none_before w c.loop-session.from s c.in-Some.ensures.found) inv.scans in
    record {
      scans = turns_on (ScannedBelow s) (λ board t. t ≡ answered_in board s) (ScannedBelow (s + 1)) start w.engine c.look.new.self.engine first c.loop-session.out c.look.new.out (λ x p q. scanned_more s x p q) skip c.in_ok-look.ensures.answers;
      watched = c.in_ok-look.ensures.watched;
      within = omega (arith, c.in-Some.ensures.within);
    }

pub returns-clause-scans : goal.returns-clause-scans
returns-clause-scans c =
    let w = c.loop-session.self in
    let inv = c.loop-session.invariant in
    skipped w c.args.self.now.engine c.args.out.now c.loop-session.out c.loop-session.from 64 inv.watched inv.within (λ j at less. c.in_default.ensures.none j at) inv.scans

pub returns-clause-watched : goal.returns-clause-watched
returns-clause-watched c = c.loop-session.invariant.watched
