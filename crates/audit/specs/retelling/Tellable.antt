-- An account that can be printed session by session: each of its sessions has a number of 32 bits.
use Rattle.std.specs.Prelude.{◌<◌, ◌^◌}
use Rattle.std.specs.List.{AllByRecursion}
use Rattle.audit.specs.declared.account.Account.{Account}
use Rattle.audit.specs.declared.account.Transcript.{Transcript}
use Rattle.audit.specs.LawfulCall.{IsLawfulCall}
use Rattle.audit.specs.Printable.{IsPrintable}
use Rattle.audit.specs.Printed.{transcripts_of}

pub record IsTellable (account : Account) : Type 0 where
  pub printable : IsPrintable account
  pub numbered : AllByRecursion (λ transcript. transcript.number < 2 ^ 32) (transcripts_of account)

-- a session whose calls are lawful, with such a number
pub record IsTold (account : Account) (transcript : Transcript) : Type 0 where
  pub calls : AllByRecursion (IsLawfulCall account) transcript.calls
  pub number : transcript.number < 2 ^ 32
