use Rattle.std.proofs.Common.{◌≡◌, ◌∙◌, [], ◌∷◌, ◌++◌, List, append_assoc, arith, ap, length, subst, sym}
use Rattle.std.specs.List.{flat_map}
use Rattle.std.specs.Option.{option_or}
use Rattle.std.specs.Prelude.{All, Option}
use Rattle.std.specs.Vec.Iter.{into_iter_items}
use Rattle.std.proofs.lemmas.List.{flat_map_more}
use Rattle.shared_broker.specs.Passes.{PassView}
use Rattle.trace_workers.specs.Gathered.{IsRunning, first_clock, sessions_in}
use Rattle.trace_workers.specs.Sessions.{SessionView}
use Rattle.trace_workers.specs.Workers.{WorkerView}
use Rattle.trace_workers.proofs.Gathering.{all_workers, clock_more, running_more}
use Rattle.trace_workers.proofs.dealing.gather_all.Goals as goal

pub loop-worker-preserved : goal.loop-worker-preserved
loop-worker-preserved c =
    let i = c.loop-worker.invariant in
    let front = c.loop-worker.yielded in
    let worker = c.in-Some.worker in
    let next = into_iter_items c.next.new.self in
    let steps : into_iter_items c.loop-worker.worker-iterator ≡ worker ∷ next = c.in-Some.ensures.steps.0 in
    let gone = c.in-Some.ensures.steps.1 in
    let shorter = ap (λ (ls : List WorkerView). length ls) steps in
    let len = i.len in
    let took = c.in_ok-gather_worker.ensures in
    record {
      running = running_more front worker i.running took.running;
      sessions = took.sessions ∙ ap (λ (ss : List SessionView). ss ++ worker.sessions) i.sessions ∙ flat_map_more sessions_in [] front worker;
      clock = took.clock ∙ ap (λ (o : Option PassView). option_or o worker.clock) i.clock ∙ sym (clock_more front worker);
      len = omega (arith, len, gone, shorter);
      whole = append_assoc front (worker ∷ []) next ∙ ap (λ (ls : List WorkerView). front ++ ls) (sym steps) ∙ i.whole;
    }

pub returns : goal.returns
returns c =
    let i = c.loop-worker.invariant in
    let all = all_workers c.loop-worker.yielded (into_iter_items c.loop-worker.worker-iterator) c.args.workers (omega (arith, i.len, c.in-None.ensures.steps.0)) i.whole in
    record {
      running = subst (All IsRunning) all i.running;
      sessions = i.sessions ∙ ap (flat_map sessions_in) all;
      clock = i.clock ∙ ap first_clock all;
    }
