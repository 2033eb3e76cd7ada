use Rattle.std.proofs.Common.{◌≡◌, ◌∙◌, ℕ, List, length, ap, arith, map, sym, subst}
use Rattle.std.specs.Prelude.{All}
use Rattle.audit.proofs.broker.Laws.{followers_size}
use Rattle.kwire.specs.Configuration.{partitions_of}
use Rattle.shared_broker.specs.Fresh.{IsNewOf, pass_with}
use Rattle.shared_broker.proofs.MakingPasses.{made_passes, new_passes}
use Rattle.shared_broker.proofs.broker.Broker.make.Goals as goal

pub make-requires-clause-parts : goal.make-requires-clause-parts
make-requires-clause-parts c =
    let same : length c.in_ok-followers.followers ≡ partitions_of c.args.config.topics = ap (λ (fs : List ℕ). length fs) c.in_ok-followers.ensures ∙ followers_size c.args.config.topics in
    omega (arith, same, c.parts.ensures.few, ap (λ (fs : List ℕ). length fs) c.as_slice.ensures)

pub fresh_all-requires-clause-each : goal.fresh_all-requires-clause-each
fresh_all-requires-clause-each c =
    let made = c.in_ok-logs.ensures in
    let followers = made.followers ∙ c.as_slice.ensures ∙ c.in_ok-followers.ensures in
    subst (All (IsNewOf c.args.config)) (sym made.passes) (new_passes c.args.config c.in_ok-logs.logs c.args.passes followers)

pub returns-clause-passes : goal.returns-clause-passes
returns-clause-passes c =
    c.in_ok-passes.ensures ∙ ap (map (pass_with c.args.config)) c.in_ok-logs.ensures.passes ∙ made_passes (record { config = c.args.config; logs = c.in_ok-logs.logs }) c.args.passes
