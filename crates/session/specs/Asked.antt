-- When the bytes of a session were asked for.
use Rattle.std.specs.Prelude.{◌≡◌, ◌≤◌, ℕ, List, [], ◌∷◌, ◌++◌, length}
use Rattle.audit.specs.declared.account.Call.{Call}
use Rattle.kwire.specs.declared.frame.Frame.TheVariants.{NotYet}
use Rattle.kwire.specs.Frames.{next_frame_of}
use Rattle.session.specs.declared.intake.TheConstants.{MOST_READ}
use Rattle.session.specs.Handled.{HasFrames}

-- a read: the bytes that were there before it, those that it brought, the calls that were made before it, and the bytes that were left then
pub record Reading : Type 0 where
  pub before : List ℕ
  pub piece : List ℕ
  pub earlier : List Call
  pub left : List ℕ

-- The input came in these reads, the newest first. Each was made where the frames of the calls made by then had left no whole frame, and
-- none that is too long.
abbrev pub AreReads : List Reading → List ℕ → List Call → Type 0
AreReads [] input calls = input ≡ []
AreReads (r ∷ reads) input calls =
    (input ≡ r.before ++ r.piece) × (length r.piece ≤ MOST_READ) × ((later : List Call) × (calls ≡ r.earlier ++ later))
    × HasFrames r.before r.earlier r.left × (next_frame_of r.left ≡ NotYet) × AreReads reads r.before r.earlier
