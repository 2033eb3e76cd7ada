use Rattle.std.proofs.Common.{◌++◌, drop, refl, sym, ap, ◌∙◌, inr}
use Rattle.std.proofs.lemmas.List.{take-append-drop}
use Rattle.follower.specs.Logs.{base_of}
use Rattle.follower.proofs.Rows.{small_offset}
use Rattle.follower.proofs.batches.next_batch.Goals as goal

pub returns-in-Err-clause-fault : goal.returns-in-Err-clause-fault
returns-in-Err-clause-fault c = (refl, inr (c.in-Some.size, c.in-Some.ensures.some, (c.in-Err.ensures.fault c.in-Err.why).0 refl))

pub returns-clause-batch : goal.returns-clause-batch
returns-clause-batch c =
    let rest = c.args.rest.now in
    let size = c.in-Some.size in
    record {
      after = drop size rest;
      parts = sym (take-append-drop size rest) ∙ ap (λ bytes. bytes ++ drop size rest) (sym c.in-Ok.ensures.bytes);
      is_batch = c.bytes.ensures.batch;
      base = ap base_of (sym c.bytes.ensures.bytes) ∙ sym c.base_offset-found.ensures
          ∙ small_offset c.base_offset-found.result c.args.end (record { sfits = c.base_offset-found.type_inv }) c.requires.end c.if-found-end.false;
    }
