use Rattle.std.proofs.Common.{◌∙◌, List, ℕ, ℤ, [], ◌∷◌, ap, length, subst, sym, rules}
use Rattle.std.specs.Int.{w16}
use Rattle.std.proofs.lemmas.Int.{to_z-of_z}
use Rattle.kbatch.specs.Written.{written}
use Rattle.storm.specs.Formed.{IsProduceForm, frame_with}
use Rattle.storm.specs.Places.{partition_of}
use Rattle.storm.specs.Requests.{record_of, produce_of}
use Rattle.storm.proofs.Formed.{produce_size, written_back, written_formed}
use Rattle.storm.proofs.produce_form.ProduceForm.write.Goals as goal

pub write_over-requires-clause-size : goal.write_over-requires-clause-size
write_over-requires-clause-size c = ap (λ (bytes : List ℕ). length bytes) c.as_mut_slice.ensures.value ∙ produce_size c.self.inside.frame c.self.invariant

pub write_over-requires-clause-form : goal.write_over-requires-clause-form
write_over-requires-clause-form c = subst IsProduceForm (sym c.as_mut_slice.ensures.value) c.self.invariant

pub invariant_of-self : goal.invariant_of-self
invariant_of-self c = (
  c.args.i,
  partition_of c.args.i,
  c.args.acks,
  c.args.timeout,
  written (record_of c.args.i ∷ []),
  written_formed c.args.i c.requires.place,
  written_back c.self.inside.frame c.write_over.new.frame (c.write_over.auto.frame ∙ ap (λ (bytes : List ℕ). length bytes) c.as_mut_slice.ensures.value) ∙ c.write_over.ensures ∙ ap (λ (z : ℤ). frame_with c.args.i (produce_of c.args.i z c.args.timeout)) (to_z-of_z w16 c.args.acks (search rules)),
)
