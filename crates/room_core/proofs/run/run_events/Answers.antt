use Rattle.std.proofs.Common.{◌≡◌, ◌<◌, ◌≤◌, ◌+◌, ◌∷◌, ◌++◌, [], length, take, arith, sym, subst, get_or, add-one}
use Rattle.std.proofs.Math.Seq.{take-suc}
use Rattle.std.proofs.lemmas.List.{take_all}
use Rattle.room_core.specs.declared.event.CoreEvent.TheVariants.{Store}
use Rattle.room_core.specs.Run.{IsRun}
use Rattle.room_core.specs.Start.{start_of}
use Rattle.room_core.specs.Tables.{state_of}
use Rattle.room_core.proofs.Runs.{run_more}
use Rattle.room_core.proofs.Steps.{runs_keep}
use Rattle.room_core.proofs.Quiets.{unsatisfied, in_time}
use Rattle.room_core.proofs.run.run_events.Goals as goal

pub loop-event-preserved : goal.loop-event-preserved
loop-event-preserved c =
    let xs = c.args.events.now in
    let i = c.loop-event.event-index in
    let l : i < length xs = omega (arith, c.loop-event-test.true) in
    let t : take (i + 1) xs ≡ take i xs ++ get_or xs i (Store 0 0) ∷ [] = rw add-one (take-suc xs i (Store 0 0) l) in
    subst (λ ys. IsRun (start_of c.args.shape) ys (state_of c.step.new.self)) (sym t)
    (run_more (start_of c.args.shape) (take i xs) c.loop-event.state c.step.new.self (get_or xs i (Store 0 0)) c.in_ok-_made._made c.loop-event.invariant c.in_ok-_made.ensures.allowed c.in_ok-_made.ensures.yes c.in_ok-_made.ensures.no)

pub returns-clause-run : goal.returns-clause-run
returns-clause-run c =
    let past : length c.args.events.now ≤ c.loop-event.event-index = omega arith in
    subst (λ xs. IsRun (start_of c.args.shape) xs (state_of c.loop-event.state)) (take_all c.loop-event.event-index c.args.events.now past) c.loop-event.invariant

pub returns-clause-carried : goal.returns-clause-carried
returns-clause-carried c = runs_keep c.args.shape c.args.events.now (state_of c.loop-event.state) c.requires (returns-clause-run c)

pub returns-clause-sound : goal.returns-clause-sound
returns-clause-sound c = (returns-clause-carried c).sound

pub returns-clause-quiet : goal.returns-clause-quiet
returns-clause-quiet c =
    let s = state_of c.loop-event.state in
    let sound = (returns-clause-carried c).sound in
    λ quiet pass still. (unsatisfied s sound quiet pass still, in_time s sound quiet pass still)
