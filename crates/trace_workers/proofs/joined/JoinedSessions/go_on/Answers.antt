use Rattle.std.proofs.Common.{◌∙◌}
use Rattle.trace_workers.proofs.joined.JoinedSessions.go_on.Goals as goal

pub round-requires : goal.round-requires
round-requires g c = let r = c.requires.whole in record { whole = (r.0, r.1, c.loop.invariant.whole r.0 r.1 r.2) }

pub returns-then-not-branch-clause-whole : goal.returns-then-not-branch-clause-whole
returns-then-not-branch-clause-whole g c lines count h = c.in_ok-round.ensures.whole lines count (c.loop.invariant.whole lines count h)

pub returns-then-not-branch-clause-kept : goal.returns-then-not-branch-clause-kept
returns-then-not-branch-clause-kept g c keeps all = c.round.ensures.kept keeps (c.loop.invariant.kept keeps all)

pub returns-in_err-round-clause-kept : goal.returns-in_err-round-clause-kept
returns-in_err-round-clause-kept g c keeps all = c.round.ensures.kept keeps (c.loop.invariant.kept keeps all)

pub loop-preserved : goal.loop-preserved
loop-preserved g c = record {
  clock = c.round.ensures.clock ∙ c.loop.invariant.clock;
  whole = λ lines count h. c.in_ok-round.ensures.whole lines count (c.loop.invariant.whole lines count h);
  kept = λ keeps all. c.round.ensures.kept keeps (c.loop.invariant.kept keeps all);
}
