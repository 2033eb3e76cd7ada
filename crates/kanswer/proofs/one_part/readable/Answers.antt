use Rattle.std.proofs.Common.{ℕ, ℤ, Bool, List, ap, ◌∙◌}
use Rattle.std.proofs.lemmas.Int.{to_z-of_z}
use Rattle.std.specs.Int.{w32}
use Rattle.std.specs.Prelude.{if◌then◌else◌}
use Rattle.partlog.specs.Batches.{StoredBatch}
use Rattle.partlog.specs.State.{PartState, state_of}
use Rattle.partlog.specs.declared.numbers.Numbers.{Numbers}
use Rattle.partlog.specs.Taken.{batches_past, batches_upto, joined, taken}
use Rattle.partlog.proofs.Laws.{readable-now}
use Rattle.kanswer.specs.Waiting.{is_consumer}
use Rattle.kanswer.proofs.PartBatches.{replica_reads, not_not}
use Rattle.kanswer.proofs.one_part.readable.Goals as goal

pub returns : goal.returns
returns c =
    let log = c.args.log.now in
    let start = c.args.start in
    let state : PartState = state_of log in
    let reads = replica_reads c.args.replica start state (readable-now log c.numbers.ensures.kept) in
    let asked : ℤ → ℕ = λ replica. if is_consumer replica then c.numbers.result.visible else c.numbers.result.bytes in
    let upto = c.upto-upto.ensures ∙ ap asked (to_z-of_z w32 c.args.replica c.ranges.replica) ∙ ap (λ (n : Numbers). if is_consumer c.args.replica then n.visible else n.bytes) c.numbers.ensures.numbers in
    c.read.ensures.bytes
    ∙ ap (λ (b : Bool). joined (taken c.args.limit b (batches_past start (batches_upto c.upto-upto.result state.batches)))) (not_not c.args.any)
    ∙ ap (λ (n : ℕ). joined (taken c.args.limit c.args.any (batches_past start (batches_upto n state.batches)))) upto
    ∙ ap (λ (bs : List StoredBatch). joined (taken c.args.limit c.args.any bs)) reads
