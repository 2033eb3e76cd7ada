-- Histories that go on, and the accounts that go on from them. A pass knows of a history only that it begins with what the pass
-- saw; what it knows of its calls is what holds in every account that goes on from there.
use Rattle.std.specs.Prelude.{ℕ, ◌≡◌, List, ◌++◌, length, Option, Some, slice_get}
use Rattle.partlog.specs.declared.event.PartEvent.{PartEvent}
use Rattle.partlog.specs.declared.clock_event.ClockEvent.{ClockEvent}
use Rattle.partlog.specs.Added.{bytes_of}
use Rattle.partlog.specs.History.{History}
use Rattle.audit.specs.declared.account.Account.{Account}
use Rattle.audit.specs.declared.account.PartAccount.{PartAccount}
use Rattle.audit.specs.Histories.{Owner, history_of}
use Rattle.kwire.specs.Configuration.{Configuration}

-- the later history goes on from the earlier one
pub record Longer (h later : History) : Type 0 where
  pub followers : later.followers ≡ h.followers
  pub more : List PartEvent
  pub bytes : List ℕ
  pub events : later.events ≡ h.events ++ more
  pub log : later.log ≡ h.log ++ bytes

-- the log is the bytes of the appends
abbrev pub IsWhole : History → Type 0
IsWhole h = bytes_of h.events ≡ length h.log

abbrev pub the_owner : ℕ → ℕ → Option Owner
the_owner by seq = Some (record { by = by; seq = seq })

abbrev pub AllWhole : List History → Type 0
AllWhole parts = (p : ℕ) (h : History) → slice_get parts p ≡ Some h → IsWhole h

-- an account whose parts go on from these
abbrev pub Follows : Account → List History → Type 0
Follows account parts = (p : ℕ) (h : History) → slice_get parts p ≡ Some h → (pa : PartAccount) × (slice_get account.parts p ≡ Some pa) × Longer h (history_of pa)

-- later histories that go on from these, each from that of its number
abbrev pub AllLonger : List History → List History → Type 0
AllLonger parts later = (p : ℕ) (h : History) → slice_get parts p ≡ Some h → (l : History) × (slice_get later p ≡ Some l) × Longer h l

pub record HaveGrown (parts : List History) (clock : List ClockEvent) (later : List History) (behind : List ClockEvent) : Type 0 where
  pub each : AllLonger parts later
  pub more : List ClockEvent
  pub events : behind ≡ clock ++ more

-- an account of this configuration whose histories go on from these
pub record GoesOn (config : Configuration) (parts : List History) (clock : List ClockEvent) (account : Account) : Type 0 where
  pub same : account.config ≡ config
  pub follows : Follows account parts
  pub more : List ClockEvent
  pub events : account.clock ≡ clock ++ more

-- what holds in every account that goes on from here
abbrev pub Carried : Configuration → List History → List ClockEvent → (Account → Type 0) → Type 0
Carried config parts clock P = (account : Account) → GoesOn config parts clock account → P account
