-- How far the acceptance of a request has come, between two of the partitions that it names, and what came of some of them.
use Rattle.std.specs.Prelude.{◌≡◌, ℕ, ℤ, List, [], ◌++◌, length, map}
use Rattle.std.specs.List.{AllZip}
use Rattle.partlog.specs.declared.numbers.Numbers.{Numbers}
use Rattle.partlog.specs.State.{PartState as State}
use Rattle.audit.specs.declared.account.Point.{Point}
use Rattle.kanswer.specs.declared.accepted.Accepted.{Accepted}
use Rattle.kanswer.specs.declared.accepted.Accepted.TheVariants.{Refused, Appended, Seen}
use Rattle.kanswer.specs.declared.accepted.Budget.{Budget}
use Rattle.kanswer.specs.declared.accepted.Reading.{Reading}
use Rattle.kanswer.specs.Answer.{budget_behind}
use Rattle.kanswer.specs.Decisions.{AskLog, Decision, ProduceDecides, Refuse}
use Rattle.kanswer.specs.LogReadings.{FetchReadings, ProduceReadings}
use Rattle.kanswer.specs.Numbered.{AreNumbers}
use Rattle.kanswer.specs.Waiting.{results_of}
use Rattle.kwire.specs.Configuration.{Configuration}
use Rattle.kwire.specs.declared.request.FetchPart.{FetchPart}
use Rattle.kwire.specs.declared.request.FetchTopic.{FetchTopic}
use Rattle.kwire.specs.declared.request.ProducePart.{ProducePart}
use Rattle.kwire.specs.declared.request.ProduceTopic.{ProduceTopic}
use Rattle.kanswer.specs.OnTerms.{OnTerms}
use Rattle.kanswer.specs.declared.terms.Terms.{Terms}
use Rattle.audit.specs.broker.Entering.{Noted, shown_of}
use Rattle.shared_logs.specs.Shared.{LogPassView}
use Rattle.shared_calls.specs.Came.{CameView}
use Rattle.shared_calls.specs.Carried.{HasCarried, HasStopped}

-- the pass, the points of the call, and what came of the partitions so far
pub record Stand : Type 0 where
  pub pass : LogPassView
  pub points : List Point
  pub came : CameView

abbrev pub stand : LogPassView → List Point → CameView → Stand
stand pass points came = record { pass = pass; points = points; came = came }

-- of each partition that was named there are its numbers and what was read of it
pub record IsEven (came : CameView) : Type 0 where
  pub numbers : length came.numbers ≡ length came.accepted
  pub readings : length came.readings ≡ length came.accepted

-- the result is that of the decision, in some state
abbrev pub IsResultOf : Decision → Accepted → Type 0
IsResultOf (Refuse code) result = result ≡ Refused code
IsResultOf (AskLog part outcome) result = (state : State) × (result ≡ (outcome state).result)

-- the records that the reply takes of a partition, where these were read: it takes none of one that isn't seen
abbrev pub records_as : Accepted → List ℕ → List ℕ
records_as (Refused code) read = []
records_as (Appended part base count) read = []
records_as (Seen part start) read = read

-- these decisions were carried out, and their results and numbers were noted
pub record HasCome (config : Configuration) (seq : ℕ) (next : List Decision) (old new : Stand) (noted : List Noted) : Type 0 where
  pub carried : HasCarried config seq next old.pass old.points new.pass new.points noted
  pub results : AllZip IsResultOf next (results_of (shown_of noted))
  pub accepted : new.came.accepted ≡ old.came.accepted ++ results_of (shown_of noted)
  pub numbers : List Numbers
  pub numbers_are : new.came.numbers ≡ old.came.numbers ++ numbers
  pub numbered : AreNumbers numbers (shown_of noted)

-- of a produce the readings have the numbers alone
pub record HasProduced (config : Configuration) (seq : ℕ) (next : List Decision) (old new : Stand) : Type 0 where
  pub noted : List Noted
  pub come : HasCome config seq next old new noted
  pub readings : List Reading
  pub readings_are : new.came.readings ≡ old.came.readings ++ readings
  pub read : ProduceReadings (results_of (shown_of noted)) readings (shown_of noted)

-- of a fetch they are what the reply takes, and the budget is handed on
pub record HasFetched (config : Configuration) (seq : ℕ) (next : List Decision) (replica : ℤ) (asked : List FetchPart)
    (old : Stand) (left : Budget) (new : Stand) (behind : Budget) : Type 0 where
  pub noted : List Noted
  pub come : HasCome config seq next old new noted
  pub readings : List Reading
  pub readings_are : new.came.readings ≡ old.came.readings ++ readings
  pub read : FetchReadings replica asked (results_of (shown_of noted)) readings (shown_of noted) left
  pub behind_is : behind ≡ budget_behind replica asked (shown_of noted) left

-- it was stopped on the way
abbrev pub IsStopped : Configuration → ℕ → List Decision → Stand → LogPassView → List Point → Type 0
IsStopped config seq next old pass points = HasStopped config seq next old.pass old.points pass points

-- the named partitions of one topic
abbrev pub produce_named : ProduceTopic → List (List ℕ × ProducePart)
produce_named topic = map (λ part. (topic.name, part)) topic.parts

abbrev pub fetch_named : FetchTopic → List (List ℕ × FetchPart)
fetch_named topic = map (λ part. (topic.name, part)) topic.parts

-- whatever is decided of these partitions of a produce on these terms
abbrev pub OnProduce : Configuration → Terms → List (List ℕ × ProducePart) → (List Decision → Type 0) → Type 0
OnProduce config terms named P =
    OnTerms terms (λ id. (next : List Decision) → AllZip (ProduceDecides config terms.version id terms.acks) named next → P next)
