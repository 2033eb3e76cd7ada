-- What became of the partitions that a call names, computed again.
use Rattle.std.specs.Prelude.{ℕ, ◌+◌, ◌≡◌, List, ◌++◌, length, map, drop, Option, Some, None}
use Rattle.std.specs.List.{AllZip}
use Rattle.partlog.specs.History.{History}
use Rattle.kwire.specs.declared.request.ProduceTopic.{ProduceTopic}
use Rattle.kwire.specs.Configuration.{Configuration}
use Rattle.kanswer.specs.declared.accepted.Accepted.{Accepted}
use Rattle.kanswer.specs.declared.terms.Terms.{Terms}
use Rattle.kanswer.specs.OnTerms.{OnTerms}
use Rattle.kanswer.specs.Decisions.{Decision, ProduceDecides, produce_parts}
use Rattle.audit.specs.declared.account.Account.{Account}
use Rattle.audit.specs.declared.account.Point.{Point}
use Rattle.audit.specs.Histories.{history_of}
use Rattle.audit.specs.LawfulCall.{IsStep, Step, step_points}

-- a result for each partition so far, the place of its entry, or 0, and how many points were taken
pub record SoFar : Type 0 where
  pub accepted : List Accepted
  pub places : List ℕ
  pub taken : ℕ

abbrev pub place_of : Option Point → ℕ
place_of None = 0
place_of (Some point) = point.place

-- these steps were computed after those before
pub record IsRetold (steps : List Step) (before after : SoFar) : Type 0 where
  pub accepted : after.accepted ≡ before.accepted ++ map (λ step. step.result) steps
  pub places : after.places ≡ before.places ++ map (λ step. place_of step.point) steps
  pub taken : after.taken ≡ before.taken + length (step_points steps)

-- in each account whose partitions have these pasts, the steps of these decisions whose points come next were computed
pub record Retells (pasts : List History) (points : List Point) (decisions : List Decision) (before after : SoFar) : Type 0 where
  pub each : (account : Account) (steps : List Step) (rest : List Point) → map history_of account.parts ≡ pasts → AllZip (IsStep account) decisions steps
      → drop before.taken points ≡ step_points steps ++ rest → IsRetold steps before after

-- the partitions that these topics of a produce name were computed, for each transactional id that it may have
pub record RetellsProduce (config : Configuration) (terms : Terms) (pasts : List History) (points : List Point) (topics : List ProduceTopic) (before after : SoFar) : Type 0 where
  pub decisions : List Decision
  pub decided : OnTerms terms (λ id. AllZip (ProduceDecides config terms.version id terms.acks) (produce_parts topics) decisions)
  pub retold : Retells pasts points decisions before after
