use Rattle.std.proofs.Common.{None, Option, ap, ◌∙◌, refl}
use Rattle.std.proofs.lemmas.List.{length-replicate}
use Rattle.timing_wheel.specs.declared.timer.Timer.{Timer}
use Rattle.timing_wheel.specs.DueList.{DueList}
use Rattle.timing_wheel.specs.Timers.{Timers, ids_of}
use Rattle.lone_broker.proofs.index.Sessions.{idle}
use Rattle.lone_broker.proofs.index.Waits.{waiting_none}
use Rattle.lone_broker.proofs.index.waiters.Waiters.new.Goals as goal

pub invariant_of-result : goal.invariant_of-result
invariant_of-result c =
    let none : Option Timer = None in
    let start = idle c.in_ok-shelves.shelves c.in_ok-wheels.wheels c.none.result c.in_ok-shelves.ensures c.in_ok-wheels.ensures in (
      record {
        live_each = refl;
        last_each = refl;
        timer_each = ap (λ (t : Timers). ids_of t) c.in_ok-wheels.ensures ∙ length-replicate 64 none;
        none_due = ap (λ (d : DueList). d.ids) c.in_ok-due.ensures;
        room = ap (λ (d : DueList). d.room) c.in_ok-due.ensures;
        listed = λ gauge session generation h. absurd (c.in_ok-shelves.ensures gauge session generation h);
      },
      waiting_none c.in_ok-wheels.wheels _ c.none.result start.coming c.none.ensures,
    )

pub returns-clause-idle : goal.returns-clause-idle
returns-clause-idle c = idle c.in_ok-shelves.shelves c.in_ok-wheels.wheels c.none.result c.in_ok-shelves.ensures c.in_ok-wheels.ensures
