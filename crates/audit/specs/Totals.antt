-- Sums over sessions.
use Rattle.std.specs.Prelude.{◌≡◌, List, length, sum_by}
use Rattle.audit.specs.declared.account.Transcript.{Transcript}
use Rattle.audit.specs.declared.totals.Totals.{Totals}
use Rattle.audit.specs.Printed.{parked_of, replies_in}

-- the number of sessions, and their calls, replies and parked calls
pub record AreTotals (transcripts : List Transcript) (totals : Totals) : Type 0 where
  pub sessions : totals.sessions ≡ length transcripts
  pub calls : totals.calls ≡ sum_by (λ t. length t.calls) transcripts
  pub replies : totals.replies ≡ sum_by replies_in transcripts
  pub parked : totals.parked ≡ sum_by (λ t. parked_of t.calls) transcripts
