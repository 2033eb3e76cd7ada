-- What a clause sees of a session of a trace, and what stays as it goes on.
use Rattle.std.specs.Prelude.{◌≡◌, ℕ, Bool, List, Option, is_some}
use Rattle.shared_broker.specs.Passes.{PassView, made_with}
use Rattle.trace_workers.specs.declared.print_part.PrintPart.{PrintPart}

-- the session's number and its pass; what it received and nobody has handled yet, whether its input ended, and whether a line named it; and the parts
-- that are the lines of its replies in the account of the run, where they are kept
pub record SessionView : Type 0 where
  pub number : ℕ
  pub pass : PassView
  pub inbox : List ℕ
  pub is_shut : Bool
  pub is_named : Bool
  pub kept : Option (List PrintPart)

-- the session without its pass
pub record DeskView : Type 0 where
  pub number : ℕ
  pub inbox : List ℕ
  pub is_shut : Bool
  pub is_named : Bool
  pub kept : Option (List PrintPart)

abbrev pub desk_of : SessionView → DeskView
desk_of s = record { number = s.number; inbox = s.inbox; is_shut = s.is_shut; is_named = s.is_named; kept = s.kept }

-- and again with a pass
abbrev pub session_at : DeskView → PassView → SessionView
session_at desk pass = record { number = desk.number; pass = pass; inbox = desk.inbox; is_shut = desk.is_shut; is_named = desk.is_named; kept = desk.kept }

-- the session keeps the lines of its replies, or none, as this says
abbrev pub KeepsLines : Bool → SessionView → Type 0
KeepsLines keeps s = is_some s.kept ≡ keeps

-- and so at its desk
abbrev pub HasLines : Bool → DeskView → Type 0
HasLines keeps desk = is_some desk.kept ≡ keeps

-- the same session, of the same broker, which has not moved the clock; it keeps lines if it did before, and else none
pub record IsSameSession (old new : SessionView) : Type 0 where
  pub number : new.number ≡ old.number
  pub pass : new.pass.logs.number ≡ old.pass.logs.number
  pub made : made_with new.pass ≡ made_with old.pass
  pub ticked : new.pass.logs.ticked ≡ old.pass.logs.ticked
  pub kept : is_some new.kept ≡ is_some old.kept
