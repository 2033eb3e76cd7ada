-- Transcripts that are lent.
use Rattle.std.specs.Prelude.{List, map}
use Rattle.std.specs.Borrow.{Bor}
use Rattle.audit.specs.declared.account.Transcript.{Transcript}

abbrev pub lent : List (Bor Transcript) → List Transcript
lent links = map (λ link. link.now) links
