use Rattle.std.proofs.Common.{◌≡◌, List, None, length, ap, subst, sym}
use Rattle.audit.specs.declared.account.Transcript.{Transcript}
use Rattle.audit.specs.Histories.{calls_in}
use Rattle.kwire.specs.Configuration.{Configuration}
use Rattle.shared_broker.specs.Fresh.{pass_with}
use Rattle.shared_broker.specs.Standing.{Stands}
use Rattle.shared_broker.proofs.MakingPasses.{fresh_stands}
use Rattle.shared_broker.proofs.SessionsStand.{pass_of}
use Rattle.shared_broker.proofs.broker.fresh.Goals as goal

pub invariant_of-result : goal.invariant_of-result
invariant_of-result c =
    let config : c.of.result.value ≡ c.args.config.now = c.of.ensures in
    let stands = fresh_stands c.args.config.now c.args.logs c.requires.topics c.requires.followers c.requires.fresh c.keeps.ensures in (
      subst (λ (ended : List Transcript). Stands (pass_of c.of.result.value c.args.logs ended None None)) (sym c.new.ensures)
          (subst (λ (k : Configuration). Stands (pass_with k c.args.logs)) (sym config) stands),
      ap (λ (ended : List Transcript). length (calls_in ended)) (sym c.new.ensures),
    )
