-- What is printed of an account whose sessions are links that were served.
use Rattle.std.specs.Prelude.{ℕ, ◌≡◌, ◌<◌, ◌++◌, List, AllPairs, IsPermutation}
use Rattle.std.specs.List.{flat_map}
use Rattle.audit.specs.declared.account.Account.{Account}
use Rattle.audit.specs.declared.account.Transcript.{Transcript}
use Rattle.audit.specs.Printed.{done_line, link_line, numbered, part_line, transcripts_of}

-- each transcript of the account once, in rising number
pub record AreRisingLinks (account : Account) (links : List Transcript) : Type 0 where
  pub each : IsPermutation (transcripts_of account) links
  pub rising : AllPairs (λ a b. a.number < b.number) links

-- link by link what became of it, then every partition, and `done`
pub record IsServePrint (account : Account) (text : List ℕ) : Type 0 where
  pub links : List Transcript
  pub order : AreRisingLinks account links
  pub spelled : text ≡ flat_map link_line links ++ flat_map part_line (numbered 0 account.parts) ++ done_line
