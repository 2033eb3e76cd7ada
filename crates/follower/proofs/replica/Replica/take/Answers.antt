use Rattle.std.proofs.Common.{◌≡◌, ◌++◌, ℕ, List, Result, Ok, Err, refl, sym, subst}
use Rattle.std.specs.Int.{w32}
use Rattle.std.proofs.lemmas.Int.{to_z-of_z}
use Rattle.follower.specs.Copies.{Copy}
use Rattle.follower.specs.Kept.{IsKept}
use Rattle.follower.specs.declared.fault.TakeFault.{TakeFault}
use Rattle.follower.specs.declared.fault.TakeFault.TheVariants.{NoMemory}
use Rattle.follower.proofs.Taking.{never_refused, refused_exactly}
use Rattle.follower.proofs.replica.Replica.take.Goals as goal

pub returns-in-Err-clause-refused : goal.returns-in-Err-clause-refused
returns-in-Err-clause-refused c = λ f memory.
    let result : Result ℕ TakeFault = Err c.in-Err.fault in
    refused_exactly c.args.self.now c.args.correlation c.args.body.now result c.in-Err.fault f refl (rw (to_z-of_z w32 c.args.correlation c.ranges.correlation) at c.in-Err.ensures.refused)

pub invariant_of-self : goal.invariant_of-self
invariant_of-self c =
    subst (λ (log : List ℕ). IsKept (record { topic = c.self.inside.topic; index = c.self.inside.index; id = c.self.inside.id; log = log; end = c.self.inside.end; high = c.self.inside.high }))
    (sym c.in_default.ensures.err) c.self.invariant

pub returns-in_default-clause-refused : goal.returns-in_default-clause-refused
returns-in_default-clause-refused c = λ f memory.
    let result : Result ℕ TakeFault = Err NoMemory in
    never_refused c.args.self.now c.args.correlation c.args.body.now c.in-Ok.brought.count _ result f (rw (to_z-of_z w32 c.args.correlation c.ranges.correlation) at c.in-Ok.ensures.brought)
    (λ told. let same : f ≡ NoMemory = cc in memory same)

pub invariant_of-self-2 : goal.invariant_of-self-2
invariant_of-self-2 c =
    let inside : Copy = record { topic = c.self.inside.topic; index = c.self.inside.index; id = c.self.inside.id; log = c.self.inside.log; end = c.self.inside.end; high = c.self.inside.high } in
    subst (λ (log : List ℕ). IsKept (record inside { log = log; end = c.in-Ok.brought.end; high = c.in-Ok.brought.high })) (sym c.in-Ok-extend.ensures.ok)
    (subst (λ (k : Copy). IsKept (record k { log = k.log ++ c.in-Ok.brought.records.now; end = c.in-Ok.brought.end; high = c.in-Ok.brought.high })) (sym c.self.view_is) c.in-Ok.ensures.kept)

pub returns-clause-refused : goal.returns-clause-refused
returns-clause-refused c = λ f memory.
    let result : Result ℕ TakeFault = Ok c.in-Ok.brought.count in
    never_refused c.args.self.now c.args.correlation c.args.body.now c.in-Ok.brought.count _ result f (rw (to_z-of_z w32 c.args.correlation c.ranges.correlation) at c.in-Ok.ensures.brought)
    (λ told. absurd cc)
