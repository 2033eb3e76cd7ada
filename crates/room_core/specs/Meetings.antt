-- The events of a scanner that meets a pass: it looks whether the operation is open, learns it, and lists it.
use Rattle.std.specs.Prelude.{◌≡◌, ◌≢◌, ◌⊎◌, ℕ, ◌+◌, ◌*◌, ◌<◌, Bool, true, false, ◌&&◌, ◌==◌, if◌then◌else◌, Option, Some, None, IsSome}
use Rattle.room_core.specs.Numbers.{description_words, most_needs, clock_mark, clock_scanner}
use Rattle.room_core.specs.declared.shape.Shape.{Shape}
use Rattle.room_core.specs.declared.parts.Phase.{Phase}
use Rattle.room_core.specs.declared.parts.Phase.TheVariants.{Open, Won}
use Rattle.room_core.specs.declared.parts.Session.{Session}
use Rattle.room_core.specs.declared.parts.Entry.{Entry}
use Rattle.room_core.specs.declared.parts.Duty.{Duty}
use Rattle.room_core.specs.declared.parts.Meeting.{Meeting}
use Rattle.room_core.specs.Put.{put}
use Rattle.room_core.specs.Gauges.{IsPass, IsScanner, IsGaugeOf, clock_of}
use Rattle.room_core.specs.Description.{gauge_word, needs_of, deadline_of, gauge_of, marked_gauge}
use Rattle.room_core.specs.Readings.{unread, read_only}
use Rattle.room_core.specs.State.{State, Scanner}

abbrev pub is_open : Phase → Bool
is_open Open = true
is_open Phase.Idle = false
is_open (Won how by) = false

-- the word is open at this generation
abbrev pub is_live : Session → ℕ → Bool
is_live session generation = is_open session.phase && (session.generation == generation)

unfoldable pub met : Session → ℕ → Option Meeting
met session pass = if is_open session.phase then Some (record { pass = pass; generation = session.generation }) else None

unfoldable pub live_entry : Session → Option Entry → Option Entry
live_entry session None = None
live_entry session (Some entry) = if is_live session entry.generation then Some entry else None

unfoldable pub live_duty : Session → Option Duty → Option Duty
live_duty session None = None
live_duty session (Some duty) = if is_live session duty.generation then Some duty else None

-- Meet: a new meeting where the word is open, else none. Entries and duties of the pass at a generation that the word shows
-- not open are dropped.
abbrev pub scanner_meets : Scanner → ℕ → Session → Scanner
scanner_meets scanner pass session = record scanner {
  meeting = met session pass;
  learned = unread;
  readings = unread;
  listing = λ gauge. put (scanner.listing gauge) pass (live_entry session (scanner.listing gauge pass));
  duties = put scanner.duties pass (live_duty session (scanner.duties pass));
}

abbrev pub CanMeet : State → ℕ → ℕ → Type 0
CanMeet s scanner pass = IsScanner s.shape scanner × IsPass s.shape pass

abbrev pub scanner_meeting : State → ℕ → ℕ → State
scanner_meeting s scanner pass = record s { scanner = put s.scanner scanner (scanner_meets (s.scanner scanner) pass (s.session pass)) }

-- the meeting is of this pass
abbrev pub IsMet : Option Meeting → ℕ → Type 0
IsMet None pass = ⊥
IsMet (Some meeting) pass = meeting.pass ≡ pass

abbrev pub generation_met : Option Meeting → ℕ
generation_met None = 0
generation_met (Some meeting) = meeting.generation

-- Learn: the meeting is of this pass. The word is learned.
abbrev pub scanner_learns : Scanner → ℕ → ℕ → Scanner
scanner_learns scanner at word = record scanner { learned = put scanner.learned at (Some word) }

abbrev pub MayLearn : Shape → ℕ → Scanner → ℕ → ℕ → Type 0
MayLearn shape k scanner pass at = IsScanner shape k × IsPass shape pass × (at < description_words) × IsMet scanner.meeting pass

abbrev pub CanLearn : State → ℕ → ℕ → ℕ → Type 0
CanLearn s scanner pass at = MayLearn s.shape scanner (s.scanner scanner) pass at

abbrev pub learning : State → ℕ → ℕ → ℕ → State
learning s scanner pass at = record s { scanner = put s.scanner scanner (scanner_learns (s.scanner scanner) at (s.description pass at)) }

abbrev pub IsLearned : Scanner → ℕ → Type 0
IsLearned scanner at = IsSome (scanner.learned at)

-- the words learned, and 0 for the others
abbrev pub words_of : Scanner → ℕ → ℕ
words_of scanner = read_only scanner.learned

-- the number of needs was learned and is above the mark's number, and the need's gauge was learned and is the scanner's
pub record MayMarkNeed (shape : Shape) (k : ℕ) (scanner : Scanner) (at : ℕ) : Type 0 where
  pub need : at < most_needs
  pub count : IsLearned scanner 2
  pub within : at < needs_of (words_of scanner)
  pub gauge : IsLearned scanner (gauge_word at)
  pub own : IsGaugeOf shape k (gauge_of (words_of scanner) at)
  pub no_clock : gauge_of (words_of scanner) at ≢ clock_of shape

-- the mark of the clock's listing: the deadline was learned, and it is the clock's scanner
pub record MayMarkClock (k : ℕ) (scanner : Scanner) (at : ℕ) : Type 0 where
  pub clock : at ≡ clock_mark
  pub deadline : IsLearned scanner 1
  pub own : k ≡ clock_scanner

-- the entry of a mark
abbrev pub entry_for : Scanner → ℕ → Entry
entry_for scanner at = record {
  generation = generation_met scanner.meeting;
  deadline = if at == clock_mark then deadline_of (words_of scanner) else 0;
}

-- Mark: the meeting is of this pass, and its generation is marked. The entry stands in the listing in place of an older one
-- of this gauge and pass.
abbrev pub scanner_marks : Shape → Scanner → ℕ → ℕ → Scanner
scanner_marks shape scanner pass at =
    let gauge = marked_gauge shape (words_of scanner) at in
    record scanner { listing = put scanner.listing gauge (put (scanner.listing gauge) pass (Some (entry_for scanner at))) }

abbrev pub MayMark : Shape → ℕ → Scanner → ℕ → ℕ → Type 0
MayMark shape k scanner pass at = IsScanner shape k × IsPass shape pass × IsMet scanner.meeting pass × (MayMarkNeed shape k scanner at ⊎ MayMarkClock k scanner at)

abbrev pub CanMark : State → ℕ → ℕ → ℕ → Type 0
CanMark s scanner pass at = MayMark s.shape scanner (s.scanner scanner) pass at

abbrev pub marking : State → ℕ → ℕ → ℕ → State
marking s scanner pass at = record s {
  marks = put s.marks pass (put (s.marks pass) at (generation_met (s.scanner scanner).meeting));
  scanner = put s.scanner scanner (scanner_marks s.shape (s.scanner scanner) pass at);
}
