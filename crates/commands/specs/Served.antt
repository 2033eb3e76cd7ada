-- What a service comes to: the source's topics, connections served by lanes, and what is written of them.
use Rattle.std.specs.Prelude.{ℕ, ◌≡◌, ◌↔◌, ◌⊎◌, Bool, true, List, take, Option, Some, None, IfSome, IsSome}
use Rattle.std.specs.Io.KnownBytes.{Appends, Keeps}
use Rattle.outside.specs.Causes.{Rose}
use Rattle.audit.specs.declared.account.Account.{Account}
use Rattle.audit.specs.ServePrint.{IsServePrint}
use Rattle.trace_file.specs.declared.line.Line.{Line}
use Rattle.trace_file.specs.Contents.{configuration_of}
use Rattle.trace_file.specs.FirstBad.{IsTraceRead}
use Rattle.link_lanes.specs.books.Shown.{ShownLink}
use Rattle.outside.specs.shared.port.History.{PortFacts}
use Rattle.link_lanes.specs.LaneRun.{IsLaneRun}
use Rattle.commands.specs.declared.command.Service.{Service}

-- what a clause sees of a port, by the meanings of its trait
abbrev pub facts_by : {P L : Type 0} → (P → ℕ) → (P → Option ℕ) → (P → ℕ) → (P → Bool) → (P → ℕ) → (P → Option (List (ℕ × L))) → P → PortFacts L
facts_by faults opened_with given is_ended retired_count retired port =
    record { faults = faults port; opened_with = opened_with port; given = given port; is_ended = is_ended port; retired_count = retired_count port; retired = retired port }

-- The lines are those of a text that was read, which has topics and its end alone; `left` is what the source had, if it shows its bytes, and that is this text.
pub record AreTopicsOf (left : Option (List ℕ)) (lines : List Line) : Type 0 where
  pub read : List ℕ
  pub topics : IsTraceRead read true lines
  pub told : IfSome left (λ had. had ≡ read)

-- the source shows its bytes, and what it had is a text of topics and its end alone
abbrev pub HasTopics : Option (List ℕ) → Type 0
HasTopics None = ⊥
HasTopics (Some text) = (lines : List Line) × IsTraceRead text true lines

-- These came of a run of lanes with the topics that were read and this port's number in its configuration, and that port was opened. The port has failed
-- exactly with code 5.
pub record IsServiceRun {L : Type 0} (see : L → ShownLink) (service : Service) (before : ℕ) (left : Option (List ℕ)) (code : ℕ) (account : Account) (port : PortFacts L) (moment : ℕ) : Type 0 where
  pub lines : List Line
  pub topics : AreTopicsOf left lines
  pub failed : Bool
  pub fault : (code ≡ 5) ↔ (failed ≡ true)
  pub run : IsLaneRun see (record { config = configuration_of service.port lines; number = service.port; most = service.connections; before = before }) account port moment failed

-- By the exit code: the account, and what is handed back of the port and the clock. `before` is the port's count of faults as it was handed in.
pub record IsServed {L : Type 0} (see : L → ShownLink) (service : Service) (before : ℕ) (left : Option (List ℕ)) (code : ℕ) (account : Option Account) (port : Option (PortFacts L)) (moment : Option ℕ) : Type 0 where
  pub there : IsSome account ↔ ((code ≡ 0) ⊎ (code ≡ 4) ⊎ (code ≡ 5))
  pub back : (IsSome port × IsSome moment) ⊎ (code ≡ 6)
  pub run : IfSome account (λ a. IfSome port (λ p. IfSome moment (λ m. IsServiceRun see service before left code a p m)))

-- what is printed of the account was written
abbrev pub IsTold : Account → Option (List ℕ) → Option (List ℕ) → Type 0
IsTold account before after = (text : List ℕ) × IsServePrint account text × Appends before after text

-- a prefix of that was written
abbrev pub IsToldInPart : Account → Option (List ℕ) → Option (List ℕ) → Type 0
IsToldInPart account before after = (text : List ℕ) × (count : ℕ) × IsServePrint account text × Appends before after (take count text)

-- By the exit code: what the sink had before and after, if it shows its bytes, and its counts of faults.
pub record AreLinksTold (code : ℕ) (account : Option Account) (before after : Option (List ℕ)) (faults faults' : ℕ) : Type 0 where
  -- what is printed of the account was written, and after a write fault a prefix of that
  pub told : code ≡ 0 → IfSome account (λ a. IsTold a before after)
  pub told_in_part : code ≡ 4 → IfSome account (λ a. IsToldInPart a before after)
  -- where the port has failed too: all of it, or a prefix after a write fault
  pub told_after_fault : code ≡ 5 → IfSome account (λ a. IsTold a before after ⊎ (IsToldInPart a before after × Rose faults faults'))
  -- nothing where memory ran out
  pub untold : code ≡ 6 → Keeps before after
