use Rattle.std.proofs.Common.{◌∙◌, get_or, length, ap, arith}
use Rattle.trace_workers.proofs.Deals.{clock_dealt, clock_keeps, with_clock}
use Rattle.trace_workers.proofs.dealing.deal_clock.Goals as goal

pub returns-clause-dealt : goal.returns-clause-dealt
returns-clause-dealt c broker count fresh =
    let workers = c.args.workers.now in
    let d = c.index-workers-0.result in
    clock_dealt broker count (length workers) workers c.set_clock.new.worker d c.requires.some (c.set_clock.ensures ∙ ap (with_clock (get_or workers 0 d)) fresh)

pub returns-clause-kept : goal.returns-clause-kept
returns-clause-kept c keeps all = clock_keeps keeps c.args.workers.now c.set_clock.new.worker c.index-workers-0.result c.args.clock (omega (arith, c.requires.some)) c.set_clock.ensures all
