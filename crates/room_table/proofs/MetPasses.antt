-- The meeting of a scanner that has met a pass.
use Rattle.std.proofs.Common.{◌≡◌, ℕ, Bool, true, false, cond, Option, Some, None, sym, ap, refl}
use Rattle.room_core.specs.declared.parts.Meeting.{Meeting}
use Rattle.room_core.specs.declared.parts.Session.{Session}
use Rattle.room_core.specs.Meetings.{IsMet, generation_met, is_open, met, words_of}
use Rattle.room_core.specs.declared.shape.Shape.{Shape}
use Rattle.room_core.specs.Checks.{scanner_takes, scanner_lets_go, scanner_leaves, scanner_answers}
use Rattle.room_core.specs.Put.{put}
use Rattle.room_core.specs.Scans.{number_heard}
use Rattle.room_core.specs.State.{Scanner}
use Rattle.room_table.specs.Tells.{pass_met}

pub met_pass : (o : Option Meeting) (pass : ℕ) → IsMet o pass → pass_met o ≡ pass
met_pass None pass h = absurd h
met_pass (Some x) pass h = h

pub met_with : (o : Option Meeting) (pass : ℕ) → IsMet o pass → o ≡ Some (record { pass = pass; generation = generation_met o })
met_with None pass h = absurd h
met_with (Some x) pass h = ap (λ p. Some (record { pass = p; generation = x.generation })) h

-- a look at the word of a pass leaves a meeting of its generation with that pass
pub met_at : (w : Session) (pass : ℕ) (meeting : Meeting) → met w pass ≡ Some meeting → (meeting.generation ≡ w.generation) × (meeting.pass ≡ pass)
unfolding met
met_at w pass meeting = at (is_open w.phase) where
  at : (b : Bool) → cond b (Some (record { pass = pass; generation = w.generation })) None ≡ Some meeting → (meeting.generation ≡ w.generation) × (meeting.pass ≡ pass)
  at true e = let is : record { pass = pass; generation = w.generation } ≡ meeting = cc in (ap (λ m. m.generation) (sym is), ap (λ m. m.pass) (sym is))
  at false e = absurd (cc)

-- who leaves a check keeps what it heard, and has its meeting or none
heard_either : (b : Bool) (scanner : Scanner) (pass gauge value : ℕ) → (cond b (scanner_takes scanner gauge value) (scanner_lets_go scanner pass)).heard ≡ scanner.heard
heard_either true scanner pass gauge value = refl
heard_either false scanner pass gauge value = refl

met_either : (b : Bool) (scanner : Scanner) (pass gauge value : ℕ) (meeting : Meeting) → (cond b (scanner_takes scanner gauge value) (scanner_lets_go scanner pass)).meeting ≡ Some meeting → scanner.meeting ≡ Some meeting
met_either true scanner pass gauge value meeting e = e
met_either false scanner pass gauge value meeting e = absurd (cc)

pub left_heard : (shape : Shape) (k : ℕ) (scanner : Scanner) (pass gauge value : ℕ) → number_heard (scanner_leaves shape k scanner pass gauge value).heard ≡ number_heard scanner.heard
left_heard shape k scanner pass gauge value =
    ap number_heard (heard_either (scanner_answers shape k (words_of scanner) (put scanner.readings gauge (Some value))) scanner pass gauge value)

pub left_met : (shape : Shape) (k : ℕ) (scanner : Scanner) (pass gauge value : ℕ) (meeting : Meeting) → (scanner_leaves shape k scanner pass gauge value).meeting ≡ Some meeting → scanner.meeting ≡ Some meeting
left_met shape k scanner pass gauge value = met_either (scanner_answers shape k (words_of scanner) (put scanner.readings gauge (Some value))) scanner pass gauge value
