-- Decisions were carried out at a moment: the histories are those that accepting leaves, and its results and points stand after those
-- that came before.
use Rattle.std.specs.Prelude.{◌≡◌, ℕ, List, [], ◌∷◌, ◌++◌, length}
use Rattle.std.specs.List.{AllZip}
use Rattle.partlog.specs.History.{History}
use Rattle.audit.specs.declared.account.Point.{Point}
use Rattle.kanswer.specs.declared.accepted.Accepted.{Accepted}
use Rattle.kanswer.specs.declared.terms.Terms.{Terms}
use Rattle.kanswer.specs.OnTerms.{OnTerms}
use Rattle.kwire.specs.declared.request.ProduceTopic.{ProduceTopic}
use Rattle.kwire.specs.Configuration.{Configuration}
use Rattle.partlog.specs.State.{PartState as State, state_of}
use Rattle.kanswer.specs.Decisions.{Outcome, Decision, ProduceDecides, produce_parts}
use Rattle.kanswer.specs.WithEntry.{entered}
use Rattle.audit.specs.broker.Entering.{accept_all, steps_of, shown_of}
use Rattle.kanswer.specs.Waiting.{results_of}
use Rattle.audit.specs.LawfulCall.{step_points}

-- what came of a request so far: a result for each partition that was named, and the points of the entries that were left
pub record Came : Type 0 where
  pub accepted : List Accepted
  pub points : List Point

-- the log of a partition was asked: its history has the entry of the outcome, whose result and point stand after those that came before
pub record IsEntered (by seq t part : ℕ) (outcome : State → Outcome) (before after : History) (came later : Came) : Type 0 where
  pub history : after ≡ entered before by seq t (outcome (state_of before)).entry
  pub accepted : later.accepted ≡ came.accepted ++ (outcome (state_of before)).result ∷ []
  pub points : later.points ≡ came.points ++ record { part = part; place = length before.events } ∷ []

pub record IsCarried (by seq t : ℕ) (decisions : List Decision) (before after : List History) (came later : Came) : Type 0 where
  pub histories : after ≡ (accept_all by seq t decisions before).1
  pub accepted : later.accepted ≡ came.accepted ++ results_of (shown_of (accept_all by seq t decisions before).0)
  pub points : later.points ≡ came.points ++ step_points (steps_of (accept_all by seq t decisions before).0)

-- the partitions that these topics name were decided and carried out
pub record HasProduced (config : Configuration) (terms : Terms) (by seq t : ℕ) (topics : List ProduceTopic) (before after : List History) (came later : Came) : Type 0 where
  pub decisions : List Decision
  pub decided : OnTerms terms (λ id. AllZip (ProduceDecides config terms.version id terms.acks) (produce_parts topics) decisions)
  pub carried : IsCarried by seq t decisions before after came later
