use Rattle.std.proofs.Common.{◌+◌, ℕ, ℤ, Bool, List, ap, ◌∙◌}
use Rattle.std.proofs.lemmas.Int.{to_z-of_z}
use Rattle.std.specs.Int.{w32}
use Rattle.std.specs.Prelude.{if◌then◌else◌}
use Rattle.partlog.specs.Batches.{StoredBatch}
use Rattle.partlog.specs.History.{History}
use Rattle.partlog.specs.State.{PartState, state_of, state_at}
use Rattle.partlog.specs.declared.numbers.Numbers.{Numbers}
use Rattle.partlog.specs.Taken.{batches_past, batches_upto, joined, taken}
use Rattle.kanswer.specs.Waiting.{is_consumer}
use Rattle.kanswer.proofs.Laws.{not_not}
use Rattle.audit.proofs.retelling.Befores.{replica_read}
use Rattle.audit.proofs.retelling.past.Past.readable_at.Goals as goal

pub returns : goal.returns
returns c =
    let h : History = c.args.self.now in
    let start = c.args.start in
    let bs : List StoredBatch = (state_of h).batches in
    let state : PartState = state_at h c.args.place in
    let reads = replica_read c.args.replica start bs state (c.visible_is_readable.ensures.before h (c.args.place + 1) c.at.ensures.kept) in
    let asked : ℤ → ℕ = λ replica. if is_consumer replica then c.at.result.visible else c.at.result.bytes in
    let upto = c.upto-upto.ensures ∙ ap asked (to_z-of_z w32 c.args.replica c.ranges.replica) ∙ ap (λ (n : Numbers). if is_consumer c.args.replica then n.visible else n.bytes) c.at.ensures.numbers in
    c.read.ensures.bytes
    ∙ ap (λ (b : Bool). joined (taken c.args.budget.left b (batches_past start (batches_upto c.upto-upto.result (state_of c.self.inside.log).batches)))) (not_not c.args.budget.any)
    ∙ ap (λ (g : History). joined (taken c.args.budget.left c.args.budget.any (batches_past start (batches_upto c.upto-upto.result (state_of g).batches)))) c.self.view_is
    ∙ ap (λ (n : ℕ). joined (taken c.args.budget.left c.args.budget.any (batches_past start (batches_upto n bs)))) upto
    ∙ ap (λ (ys : List StoredBatch). joined (taken c.args.budget.left c.args.budget.any ys)) reads
