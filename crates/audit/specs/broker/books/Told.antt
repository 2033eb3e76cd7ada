-- A transcript as it is told in an account: where its last call was cut off and nobody has ended it, its end is running out of memory.
use Rattle.std.specs.Prelude.{Bool, true, false, List, [], ◌∷◌, Option, Some, None}
use Rattle.audit.specs.declared.account.Call.{Call}
use Rattle.audit.specs.declared.account.CallHow.{CallHow}
use Rattle.audit.specs.declared.account.CallHow.TheVariants.{Quiet, AtOnce, Satisfied, Expired, Parked, Cut}
use Rattle.audit.specs.declared.account.SessionEnd.{SessionEnd}
use Rattle.audit.specs.declared.account.SessionEnd.TheVariants.{NoMemory}
use Rattle.audit.specs.declared.account.Transcript.{Transcript}

abbrev pub is_cut : CallHow → Bool
is_cut Quiet = false
is_cut AtOnce = false
is_cut (Satisfied by) = false
is_cut (Expired by) = false
is_cut Parked = false
is_cut (Cut won) = true

abbrev pub last_is_cut : List Call → Bool
last_is_cut [] = false
last_is_cut (call ∷ []) = is_cut call.how
last_is_cut (call ∷ next ∷ calls) = last_is_cut (next ∷ calls)

abbrev pub told_end : Bool → Option SessionEnd → Option SessionEnd
told_end cut (Some end) = Some end
told_end true None = Some NoMemory
told_end false None = None

abbrev pub told : Transcript → Transcript
told transcript = record transcript { end = told_end (last_is_cut transcript.calls) transcript.end }
