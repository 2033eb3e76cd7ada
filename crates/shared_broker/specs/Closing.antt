-- How a broker is closed.
use Rattle.std.specs.Prelude.{◌≡◌, ◌+◌, ◌↔◌, ℕ, List, All, Any, Contains, Some, fold, length, map, max, slice_get, ⊤}
use Rattle.std.specs.List.{flat_map}
use Rattle.audit.specs.Histories.{ticks_of}
use Rattle.audit.specs.declared.account.Account.{Account}
use Rattle.audit.specs.IsLawful.{IsLawful}
use Rattle.partlog.specs.Moment.{moment_of}
use Rattle.audit.specs.broker.GoesOn.{GoesOn}
use Rattle.audit.specs.broker.books.Told.{told}
use Rattle.purgatory.specs.Ends.{IsUntaken}
use Rattle.room_core.specs.Numbers.{scanner_numbers}
use Rattle.shared_broker.specs.declared.closing.BrokerEnd.{BrokerEnd}
use Rattle.shared_broker.specs.Passes.{BrokerView, PassView, transcripts_of}
use Rattle.shared_broker.specs.Standing.{Stands}
use Rattle.shared_logs.specs.Closing.{in_room}

-- The account is lawful. It is of the broker's topics; its histories go on from what each pass has seen, and its lists are the passes'
-- transcripts, by their numbers; there is a winner for each scanner and for each pass; and a moment is among its ticks exactly if a pass has ticked it.
-- Each pass was given back as a pass is between any two calls.
pub record IsAccountOf (broker : BrokerView) (passes : List PassView) (account : Account) : Type 0 where
  pub lawful : IsLawful account
  pub stood : All Stands passes
  pub config : account.config ≡ broker.config
  pub goes_on : All (λ (pass : PassView). GoesOn broker.config pass.logs.parts pass.logs.clock account) passes
  pub count : length account.passes ≡ length passes
  pub winners : length account.wins ≡ scanner_numbers + length account.passes
  pub transcripts : All (λ (pass : PassView). slice_get account.passes pass.logs.number ≡ Some (map told (transcripts_of pass))) passes
  pub ticks : (t : ℕ) → Contains (ticks_of account.clock) t ↔ Any (λ (pass : PassView). Contains pass.logs.ticked t) passes
  pub moment : moment_of account.clock ≡ fold max 0 (flat_map (λ (pass : PassView). pass.logs.ticked) passes)

abbrev pub HasClosed : BrokerView → List PassView → BrokerEnd → Type 0
HasClosed broker passes (BrokerEnd.Closed account) = IsAccountOf broker passes account
HasClosed broker passes (BrokerEnd.Untaken again back) =
    (again ≡ broker) × (back ≡ passes) × IsUntaken broker.logs.room (map (λ (pass : PassView). in_room pass.logs) passes)
HasClosed broker passes BrokerEnd.NoMemory = ⊤
