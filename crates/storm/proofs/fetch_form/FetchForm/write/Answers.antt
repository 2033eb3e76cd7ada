use Rattle.std.proofs.Common.{◌∙◌, List, ℕ, ap, length, subst, sym}
use Rattle.storm.specs.Formed.{IsFetchForm}
use Rattle.storm.specs.Places.{partition_of}
use Rattle.storm.proofs.Formed.{written_back}
use Rattle.storm.proofs.fetch_form.FetchForm.write.Goals as goal

pub write_over-requires-clause-form : goal.write_over-requires-clause-form
write_over-requires-clause-form c = subst IsFetchForm (sym c.as_mut_slice.ensures.value) c.self.invariant

pub invariant_of-self : goal.invariant_of-self
invariant_of-self c =
    let wish = c.args.wish in (
      c.args.i,
      partition_of c.args.i,
      wish.replica,
      wish.wait,
      wish.least,
      wish.offset,
      written_back c.self.inside.frame c.write_over.new.frame (c.write_over.auto.frame ∙ ap (λ (bytes : List ℕ). length bytes) c.as_mut_slice.ensures.value) ∙ c.write_over.ensures,
    )
