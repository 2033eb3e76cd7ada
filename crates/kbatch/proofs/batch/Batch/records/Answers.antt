use Rattle.std.proofs.Common.{◌≡◌, ℕ, List, length, drop, Some, None, Err, sym, ap, subst, ◌∙◌, arith}
use Rattle.kbatch.specs.declared.decode.Stop.{Stop}
use Rattle.kbatch.specs.declared.record.Record.{Record}
use Rattle.kbatch.specs.Batch.{IsBatch}
use Rattle.kbatch.specs.Decode.{Decodes, list_at, record_at}
use Rattle.kbatch.specs.Kept.{count_of}
use Rattle.kbatch.proofs.Batches.{batch_len}
use Rattle.kbatch.proofs.Decoding.{batch_reads}
use Rattle.kbatch.proofs.Parts.{same_some}
use Rattle.kbatch.proofs.batch.Batch.records.Goals as goal

-- what the call below reads
read : (bytes rest : List ℕ) (count : ℕ) (records : List Record) → IsBatch bytes records → count ≡ count_of bytes → rest ≡ drop 61 bytes → list_at record_at count rest ≡ Some records
read bytes rest count records is number after =
    ap (λ n. list_at record_at n rest) number ∙ ap (list_at record_at (count_of bytes)) after ∙ batch_reads bytes records is

pub split_at-requires : goal.split_at-requires
split_at-requires c =
    let inv = c.self.invariant in
    omega (arith, ap length c.as_slice.ensures, batch_len c.self.inside.bytes inv.0 inv.1)

pub unreachable-requires : goal.unreachable-requires
unreachable-requires c =
    let inv = c.self.invariant in
    let is : IsBatch c.args.self.now inv.0 = subst (λ (b : List ℕ). IsBatch b inv.0) c.self.view_is inv.1 in
    let after = c.split_at.ensures.back ∙ ap (λ (b : List ℕ). drop 61 b) (c.as_slice.ensures ∙ c.self.view_is) in
    let found = read c.args.self.now c.split_at.result.1.now c.count.result inv.0 is c.count.ensures.kept after in
    let total = list_at record_at c.count.result c.split_at.result.1.now in
    let none : total ≡ None = subst (λ r. Decodes r total) (c.in-Err-Unread.is ∙ ap (λ (e : Stop). Err e) c.in-Err-Unread.field-0-is) c.records.ensures in
    cc

pub returns-in-Ok-clause-records : goal.returns-in-Ok-clause-records
returns-in-Ok-clause-records c =
    let inv = c.self.invariant in
    let is : IsBatch c.args.self.now inv.0 = subst (λ (b : List ℕ). IsBatch b inv.0) c.self.view_is inv.1 in
    let after = c.split_at.ensures.back ∙ ap (λ (b : List ℕ). drop 61 b) (c.as_slice.ensures ∙ c.self.view_is) in
    let found = read c.args.self.now c.split_at.result.1.now c.count.result inv.0 is c.count.ensures.kept after in
    let same : inv.0 ≡ c.in-Ok.records = same_some inv.0 c.in-Ok.records (sym found ∙ c.in-Ok.ensures) in
    subst (λ (rs : List Record). IsBatch c.args.self.now rs) same is

pub returns-in-Ok-clause-only : goal.returns-in-Ok-clause-only
returns-in-Ok-clause-only c = λ records is.
    let after = c.split_at.ensures.back ∙ ap (λ (b : List ℕ). drop 61 b) (c.as_slice.ensures ∙ c.self.view_is) in
    let found = read c.args.self.now c.split_at.result.1.now c.count.result records is c.count.ensures.kept after in
    same_some c.in-Ok.records records (sym c.in-Ok.ensures ∙ found)
