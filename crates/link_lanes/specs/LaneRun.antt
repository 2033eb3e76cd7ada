-- A run of lanes: what its account, its port and its clock say together.
use Rattle.std.specs.Prelude.{◌≡◌, ◌≤◌, ◌⊎◌, ℕ, Bool, true, false, List, Some, IfSome, length, map}
use Rattle.audit.specs.declared.account.Account.{Account}
use Rattle.audit.specs.IsLawful.{IsLawful}
use Rattle.kwire.specs.Configuration.{Configuration}
use Rattle.link_lanes.specs.books.Shown.{ShownLink}
use Rattle.link_lanes.specs.books.Together.{AreServed}
use Rattle.outside.specs.shared.port.History.{PortFacts}
use Rattle.link_lanes.specs.Seen.{seen_with}
use Rattle.outside.specs.Causes.{Rose}
use Rattle.partlog.specs.Moment.{moment_of}

-- with what a run begins: the topics, the number under which the port is to be opened, the most links that it may give, and its count of faults
pub record Plan : Type 0 where
  pub config : Configuration
  pub number : ℕ
  pub most : ℕ
  pub before : ℕ

-- The account is lawful, and of these topics. A port that gave a link was opened with this number; it gave no more than it may, and took each back once, under
-- the numbers 0, 1 and so on. The account has one transcript of each of these numbers and no other, which is that of the session over the link. No tick is past
-- the moment that the clock gave last. Where the port didn't fail, it gave as many links as it may or said that no more come; it has failed only where its count
-- rose.
pub record IsLaneRun {L : Type 0} (see : L → ShownLink) (plan : Plan) (account : Account) (port : PortFacts L) (moment : ℕ) (failed : Bool) : Type 0 where
  pub lawful : IsLawful account
  pub config : account.config ≡ plan.config
  pub opened : (port.given ≡ 0) ⊎ (port.opened_with ≡ Some plan.number)
  pub limit : port.given ≤ plan.most
  pub links : List (ℕ × L)
  pub count : port.retired_count ≡ length links
  pub told : IfSome port.retired (λ told. told ≡ links)
  pub served : AreServed account port.given (map (seen_with see) links)
  pub ticks : moment_of account.clock ≤ moment
  pub over : failed ≡ false → (port.given ≡ plan.most) ⊎ (port.is_ended ≡ true)
  pub cause : failed ≡ true → Rose plan.before port.faults
