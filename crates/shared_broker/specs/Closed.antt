-- Passes taken apart for the close: what they have of the logs, and what else they have.
use Rattle.std.specs.Prelude.{◌≡◌, List, [], ◌∷◌, ◌++◌, Some, length, map, option_to_list, slice_get}
use Rattle.audit.specs.declared.account.Transcript.{Transcript}
use Rattle.audit.specs.Histories.{calls_in}
use Rattle.audit.specs.broker.books.Told.{told}
use Rattle.shared_broker.specs.declared.closing.Sheet.{Sheet}
use Rattle.shared_broker.specs.Passes.{PassView}
use Rattle.shared_broker.specs.Standing.{Stands}
use Rattle.shared_logs.specs.Shared.{LogPassView}

-- the pass of these
abbrev pub joined : LogPassView → Sheet → PassView
joined logs sheet = record { config = sheet.config.value; logs = logs; ended = sheet.ended; going = sheet.going; waits = sheet.waits }

pub record IsJoined (logs : LogPassView) (sheet : Sheet) : Type 0 where
  pub stands : Stands (joined logs sheet)
  pub first : sheet.first ≡ length (calls_in sheet.ended)
  pub number : sheet.number ≡ logs.number

-- the passes of these, in their order
abbrev pub gathered : List LogPassView → List Sheet → List PassView
gathered [] sheets = []
gathered (one ∷ logs) [] = []
gathered (one ∷ logs) (sheet ∷ sheets) = joined one sheet ∷ gathered logs sheets

abbrev pub transcripts_in : Sheet → List Transcript
transcripts_in sheet = sheet.ended ++ option_to_list sheet.going

-- the list of the sheet's number has its transcripts, as an account has them
abbrev pub IsPutFrom : List (List Transcript) → Sheet → Type 0
IsPutFrom passes sheet = slice_get passes sheet.number ≡ Some (map told (transcripts_in sheet))
