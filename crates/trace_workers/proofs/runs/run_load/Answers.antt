use Rattle.std.specs.List.{flat_map}
use Rattle.storm.specs.Lines.{storm_lines}
use Rattle.trace_file.specs.PrintedLine.{text_of}
use Rattle.trace_workers.proofs.runs.run_load.Goals as goal

pub play-requires-clause-traced : goal.play-requires-clause-traced
play-requires-clause-traced g c κs within =
    let seed = c.args.load.seed in
    let n = c.args.load.requests in
    (flat_map text_of (storm_lines seed n), c.loads_are_traces.ensures seed n c.requires.most)
