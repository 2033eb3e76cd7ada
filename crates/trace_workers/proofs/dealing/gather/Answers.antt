use Rattle.std.proofs.Common.{◌≡◌, ◌∙◌, List, subst, sym}
use Rattle.std.specs.Prelude.{All, Some}
use Rattle.trace_workers.specs.Gathered.{first_clock}
use Rattle.trace_workers.specs.Joined.{HasJoined}
use Rattle.trace_workers.specs.Sessions.{KeepsLines, SessionView}
use Rattle.trace_workers.proofs.Gathering.{all_sessions, clock_there, gathered}
use Rattle.trace_workers.proofs.dealing.gather.Goals as goal

pub unreachable-requires : goal.unreachable-requires
unreachable-requires c =
    let r = c.requires in
    let there = clock_there r.0 r.1 r.2 r.3 c.args.workers r.4 r.5 in
    c.in_default.not-Some there.0 (c.in_ok-sessions.ensures.clock ∙ there.1)

pub returns-clause-joined : goal.returns-clause-joined
returns-clause-joined c broker lines count worker_count some h =
    let all = c.in_ok-sessions.ensures in
    let clock = c.in-Some.clock in
    let is : first_clock c.args.workers ≡ Some clock = sym all.clock ∙ c.in-Some.is in
    subst (λ (ss : List SessionView). HasJoined broker lines count (record { sessions = ss; clock = clock })) (sym all.sessions)
    (gathered broker lines count worker_count c.args.workers some h clock all.running is)

pub returns-clause-kept : goal.returns-clause-kept
returns-clause-kept c keeps all = subst (All (KeepsLines keeps)) (sym c.in_ok-sessions.ensures.sessions) (all_sessions (KeepsLines keeps) c.args.workers all)
