use Rattle.std.proofs.Common.{◌≡◌, ◌<◌, ◌^◌, ◌++◌, List, ℕ, length, take, drop, ap, ◌∙◌, sym, subst, arith}
use Rattle.std.proofs.lemmas.List.{take_at}
use Rattle.kbatch.specs.declared.record.Record.{Record}
use Rattle.kbatch.specs.Batch.{IsBatch}
use Rattle.kbatch.specs.Stamp.{stamped}
use Rattle.kbatch.proofs.Batches.{batch_len, batch_stamped}
use Rattle.kbatch.proofs.batch.Batch.stamp.Goals as goal

-- as many bytes are written back as were lent, and they are a batch of the same records
written_back : (base : ℕ) (old new : List ℕ) (records : List Record) → base < 2 ^ 63 → length new ≡ length old → new ≡ stamped base old → IsBatch old records → IsBatch (take (length old) (new ++ drop (length new) old)) records
written_back base old new records lt len e is =
    let all : take (length old) (new ++ drop (length new) old) ≡ stamped base old = take_at new (drop (length new) old) (length old) len ∙ e in
    subst (λ (bytes : List ℕ). IsBatch bytes records) (sym all) (batch_stamped base old records lt is)

pub stamp-requires : goal.stamp-requires
stamp-requires c =
    let inv = c.self.invariant in
    omega (arith, ap length c.as_mut_slice.ensures.value, ap length c.self.view_is, batch_len c.self.inside.bytes inv.0 inv.1)

pub invariant_of-self : goal.invariant_of-self
invariant_of-self c =
    let inv = c.self.invariant in
    let len : length c.stamp.new.bytes ≡ length c.self.inside.bytes = c.stamp.auto.bytes ∙ ap length c.as_mut_slice.ensures.value in
    (inv.0, written_back c.args.base c.self.inside.bytes c.stamp.new.bytes inv.0 c.requires len (c.stamp.ensures ∙ ap (stamped c.args.base) c.as_mut_slice.ensures.value) inv.1)

pub returns-clause-records : goal.returns-clause-records
returns-clause-records c records is =
    let len : length c.stamp.new.bytes ≡ length c.self.inside.bytes = c.stamp.auto.bytes ∙ ap length c.as_mut_slice.ensures.value in
    written_back c.args.base c.self.inside.bytes c.stamp.new.bytes records c.requires len (c.stamp.ensures ∙ ap (stamped c.args.base) c.as_mut_slice.ensures.value)
    (subst (λ (bytes : List ℕ). IsBatch bytes records) (sym c.self.view_is) is)
