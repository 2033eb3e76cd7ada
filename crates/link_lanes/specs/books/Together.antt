-- What the books of all lanes say together.
use Rattle.std.specs.Prelude.{◌≡◌, ◌≢◌, ◌+◌, ℕ, Any, Contains, List, [], ◌∷◌, Some, IsSome, map, ⊤}
use Rattle.std.specs.List.{AllByRecursion}
use Rattle.audit.specs.declared.account.Account.{Account}
use Rattle.audit.specs.declared.account.SessionEnd.TheVariants.{Refused}
use Rattle.audit.specs.declared.account.Transcript.{Transcript}
use Rattle.audit.specs.Printed.{transcripts_of}
use Rattle.kwire.specs.declared.frame.WireFault.TheVariants.{NoMemory as OutOfMemory}
use Rattle.link_lanes.specs.books.LaneBook.{IsLaneBook, LaneBook, retired_numbers}
use Rattle.link_lanes.specs.books.LinkSession.{IsSessionOver}
use Rattle.link_lanes.specs.books.Shown.{ShownLink}
use Rattle.link_lanes.specs.books.Times.{once_below, times, total}
use Rattle.shared_broker.specs.Closing.{IsAccountOf}
use Rattle.shared_broker.specs.Passes.{BrokerView}

-- their passes have the numbers from this one on, in order
abbrev pub AreInOrder : ℕ → List LaneBook → Type 0
AreInOrder first [] = ⊤
AreInOrder first (book ∷ books) = (book.pass.logs.number ≡ first) × AreInOrder (first + 1) books

-- The books of all lanes of a run whose account this is, once every link that was accepted was retired: the numbers that they accepted are those below `given`,
-- each once, all that was put into the queue was taken from it, and the links that the port took back are those of the lanes.
pub record AreAllBooks (broker : BrokerView) (books : List LaneBook) (account : Account) (given : ℕ) (retired : List (ℕ × ShownLink)) : Type 0 where
  pub each : AllByRecursion (IsLaneBook broker []) books
  pub order : AreInOrder 0 books
  pub closed : IsAccountOf broker (map (λ (book : LaneBook). book.pass) books) account
  pub accepted : (n : ℕ) → total (λ (book : LaneBook). times n book.accepted) books ≡ once_below given n
  pub handed_on : (n : ℕ) → total (λ (book : LaneBook). times n book.put) books ≡ total (λ (book : LaneBook). times n book.taken) books
  pub back : (n : ℕ) → times n (map (λ (one : ℕ × ShownLink). one.0) retired) ≡ total (λ (book : LaneBook). times n (retired_numbers book)) books
  pub found : AllByRecursion (λ one. Any (λ (book : LaneBook). Contains book.retired one) books) retired

-- The account has one transcript of each number below `given` and no other, and each has an end, which is no refusal because memory ran out. Each number was retired once, and the transcript of its number
-- is that of the session over the link.
pub record AreServed (account : Account) (given : ℕ) (retired : List (ℕ × ShownLink)) : Type 0 where
  pub one : (n : ℕ) → times n (map (λ (t : Transcript). t.number) (transcripts_of account)) ≡ once_below given n
  pub ended : AllByRecursion (λ (t : Transcript). IsSome t.end) (transcripts_of account)
  pub told : AllByRecursion (λ (t : Transcript). t.end ≢ Some (Refused OutOfMemory)) (transcripts_of account)
  pub once : (n : ℕ) → times n (map (λ (one : ℕ × ShownLink). one.0) retired) ≡ once_below given n
  pub over : AllByRecursion (λ (one : ℕ × ShownLink). Any (λ (t : Transcript). (t.number ≡ one.0) × IsSessionOver account one.1 t) (transcripts_of account)) retired
