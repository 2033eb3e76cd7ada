-- An account that may be printed: a lawful one, in which no session was refused because memory ran out, which isn't a fault of
-- its request, and no two sessions have one number.
use Rattle.std.specs.Prelude.{◌≢◌, AllPairs, Some}
use Rattle.std.specs.List.{AllByRecursion}
use Rattle.kwire.specs.declared.frame.WireFault.TheVariants as refusals
use Rattle.audit.specs.declared.account.Account.{Account}
use Rattle.audit.specs.declared.account.SessionEnd.TheVariants.{Refused}
use Rattle.audit.specs.IsLawful.{IsLawful}
use Rattle.audit.specs.Printed.{transcripts_of}

pub record IsPrintable (account : Account) : Type 0 where
  pub lawful : IsLawful account
  pub told : AllByRecursion (λ transcript. transcript.end ≢ Some (Refused refusals.NoMemory)) (transcripts_of account)
  pub once : AllPairs (λ a b. a.number ≢ b.number) (transcripts_of account)
