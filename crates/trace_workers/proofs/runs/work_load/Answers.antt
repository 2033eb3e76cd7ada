use Rattle.std.proofs.Common.{ℕ, ◌<◌, get_or, length}
use denote.Exit.{no}
use denote.Param.Send.{arg_send, param_send}
use Rattle.storm.specs.Lines.{storm_lines}
use Rattle.trace_file.specs.Contents.{sessions_of}
use Rattle.trace_workers.specs.Workers.{WorkerView}
use Rattle.trace_workers.proofs.SentWorker.{worker_is_send}
use Rattle.trace_workers.proofs.Working.{IsPlayed, all_keep, all_worked, played}
use Rattle.trace_workers.proofs.runs.work_load.Goals as goal

pub for_each_mut-requires-send-T : goal.for_each_mut-requires-send-T
for_each_mut-requires-send-T g c κs _ = param_send 1 _ (arg_send _ no _ worker_is_send)

pub returns : goal.returns
returns g c =
    let broker = c.args.broker.now in
    let lines = storm_lines c.args.load.seed c.args.load.requests in
    let before = c.args.workers.now in
    let after = c.for_each_mut.new.s in
    let size = c.for_each_mut.auto.s in
    let each : (k : ℕ) (d : WorkerView) → k < length before → IsPlayed broker lines (get_or before k d) (get_or after k d) = λ k d less.
    let at = (c.for_each_mut.ensures k d less).1 in
    played broker lines (get_or before k d) (get_or after k d) at.argument.now at.after_call.now at.argument_is at.left at.call.0 at.call.1 in
    record {
      worked = all_worked broker lines (sessions_of lines) (length before) before after size each c.requires.dealt;
      kept = λ keeps all. all_keep broker lines keeps before after size each all;
    }
