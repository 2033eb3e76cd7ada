use Rattle.std.proofs.Common.{◌∙◌, ap}
use Rattle.turn_lock.specs.Locks.{known}
use Rattle.turn_lock.specs.Passes.{ended}
use Rattle.shared_logs.specs.Entries.{entry_by}
use Rattle.shared_logs.specs.Turned.{part_entries}
use Rattle.shared_logs.proofs.Keys.{begun_first, found_first, more_self, more_turned}
use Rattle.shared_logs.proofs.part_turns.late_turn.Goals as goal

pub loop-init : goal.loop-init
loop-init g c = record { of_lock = c.requires.key; more = more_self (known c.args.key.now) }

pub loop-preserved : goal.loop-preserved
loop-preserved g c =
    let t = c.part_turn-turn in
    record {
      of_lock = c.end.ensures.pass;
      more = more_turned part_entries entry_by (known c.args.key.now) (known c.loop.key) (known c.end.new.pass) t.result.ticket t.result.value c.loop.invariant.more t.ensures.found
          (c.end.ensures.seen ∙ ap (ended part_entries t.result.value) t.ensures.begun);
    }

pub returns-then-value-late-clause-found : goal.returns-then-value-late-clause-found
returns-then-value-late-clause-found g c =
    let t = c.part_turn-turn in
    found_first part_entries entry_by (known c.args.key.now) (known c.loop.key) t.result.value c.loop.invariant.more t.ensures.found

pub returns-then-value-late-clause-begun : goal.returns-then-value-late-clause-begun
returns-then-value-late-clause-begun g c =
    let t = c.part_turn-turn in
    t.ensures.begun ∙ begun_first part_entries entry_by (known c.args.key.now) (known c.loop.key) t.result.ticket t.result.value c.loop.invariant.more
