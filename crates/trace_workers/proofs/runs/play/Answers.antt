use Rattle.std.proofs.Common.{◌+◌, ◌∙◌, ℕ, ap, arith, length, refl, subst, sym}
use Rattle.std.proofs.lemmas.Result.{IfOk-weaker}
use Rattle.std.specs.Prelude.{All, IfOk}
use Rattle.trace_file.specs.Contents.{sessions_of}
use Rattle.trace_workers.specs.Closed.{CameTo}
use Rattle.trace_workers.specs.ToPlay.{lines_in}
use Rattle.trace_workers.specs.Sessions.{KeepsLines}
use Rattle.trace_workers.specs.Workers.{AllKeep}
use Rattle.trace_workers.proofs.Begun.{begun}
use Rattle.trace_workers.proofs.Counting.{few_counted}
use Rattle.trace_workers.proofs.Kept.{all_kept, have_desks}
use Rattle.trace_workers.proofs.WorkerRun.{worker_run}
use Rattle.trace_workers.proofs.Working.{worked_again, written}
use Rattle.trace_workers.proofs.runs.play.Goals as goal

pub overflow_add-count : goal.overflow_add-count
overflow_add-count g c =
    let count_is = c.sessions-count.ensures in
    omega (arith, few_counted (lines_in c.args.to_play) c.requires.traced, count_is)

pub make-requires : goal.make-requires
make-requires g c =
    let count_is = c.sessions-count.ensures in
    let few = few_counted (lines_in c.args.to_play) c.requires.traced in
    record { passes = (omega arith, omega (arith, few, count_is)) }

pub deal-requires-clause-fresh : goal.deal-requires-clause-fresh
deal-requires-clause-fresh g c =
    let count_is = c.sessions-count.ensures in
    let few = few_counted (lines_in c.args.to_play) c.requires.traced in
    (c.in_ok-broker.broker, c.sessions-count.result, c.in_ok-broker.ensures.passes, omega (arith, few, count_is))

pub gather-requires : goal.gather-requires
gather-requires g c =
    let broker = c.in_ok-broker.broker in
    let lines = lines_in c.args.to_play in
    let count = sessions_of lines in
    let size = (c.in_ok-workers.ensures.dealt broker c.sessions-count.result c.in_ok-broker.ensures.passes).size in
    let worked = worked_again broker lines count c.with_sessions-worker_count.result c.in_ok-workers.workers c.as_mut_slice.result.now c.play_by.new.workers size c.as_mut_slice.ensures.value c.play_by.auto.workers c.play_by.ensures.worked in
    (broker, lines, count, c.with_sessions-worker_count.result, c.with_sessions-worker_count.ensures.some, worked)

pub close-requires : goal.close-requires
close-requires g c =
    let broker = c.in_ok-broker.broker in
    let lines = lines_in c.args.to_play in
    let count = sessions_of lines in
    let size = (c.in_ok-workers.ensures.dealt broker c.sessions-count.result c.in_ok-broker.ensures.passes).size in
    let worked = worked_again broker lines count c.with_sessions-worker_count.result c.in_ok-workers.workers c.as_mut_slice.result.now c.play_by.new.workers size c.as_mut_slice.ensures.value c.play_by.auto.workers c.play_by.ensures.worked in
    let run = begun broker lines count c.args.manner.drain c.in_ok-joined.joined (c.in_ok-joined.ensures.joined broker lines count c.with_sessions-worker_count.result c.with_sessions-worker_count.ensures.some worked) in
    let count_is = c.sessions-count.ensures in
    (lines, count, run, c.in_ok-broker.ensures.size ∙ ap (λ (n : ℕ). n + 1) count_is)

pub returns : goal.returns
returns g c =
    let broker = c.in_ok-broker.broker in
    let lines = lines_in c.args.to_play in
    let count = sessions_of lines in
    let drain = c.args.manner.drain in
    let keeps = c.args.manner.keeps_lines in
    let joined = c.in_ok-joined.joined in
    let workers = c.in_ok-workers.workers in
    let worked = c.play_by.new.workers in
    let lent_is = c.as_mut_slice.ensures.value in
    let size = (c.in_ok-workers.ensures.dealt broker c.sessions-count.result c.in_ok-broker.ensures.passes).size in
    let done = worked_again broker lines count c.with_sessions-worker_count.result workers c.as_mut_slice.result.now worked size lent_is c.play_by.auto.workers c.play_by.ensures.worked in
    let run = begun broker lines count drain joined (c.in_ok-joined.ensures.joined broker lines count c.with_sessions-worker_count.result c.with_sessions-worker_count.ensures.some done) in
    let config = c.in_ok-broker.ensures.config ∙ c.in_ok-config.ensures in
    let all = c.play_by.ensures.kept keeps (subst (All (AllKeep keeps)) (sym lent_is) c.in_ok-workers.ensures.kept) in
    let again = subst (All (AllKeep keeps)) (sym (written workers worked (c.play_by.auto.workers ∙ ap length lent_is))) all in
    let still : All (KeepsLines keeps) joined.sessions = c.in_ok-joined.ensures.kept keeps again in
    let came : IfOk c.close.result (CameTo broker lines count drain) = IfOk-weaker c.close.result _ (CameTo broker lines count drain) (λ played goes. goes lines count run) c.close.ensures.come in
    record {
      run = IfOk-weaker c.close.result (CameTo broker lines count drain) _ (λ played is. worker_run broker lines c.args.manner.port count drain played c.requires.traced refl config is) came;
      kept = IfOk-weaker c.close.result (CameTo broker lines count drain) _ (λ played is. all_kept broker lines count drain played is) came;
      lines = IfOk-weaker c.close.result _ _ (λ played goes. goes keeps still) c.close.ensures.kept;
      desks = IfOk-weaker c.close.result (CameTo broker lines count drain) _ (λ played is. have_desks broker lines count drain played is) came;
    }
