-- A scanner that drops duties and entries.
use Rattle.std.proofs.Common.{◌≡◌, ℕ, sym, ap, refl, ◌∙◌, Option, Some, None}
use Rattle.room_core.specs.declared.parts.Duty.{Duty}
use Rattle.room_core.specs.declared.parts.Entry.{Entry}
use Rattle.room_core.specs.declared.parts.Meeting.{Meeting}
use Rattle.room_core.specs.Put.{put}
use Rattle.room_core.specs.Meetings.{IsMet, generation_met, IsLearned, words_of}
use Rattle.room_core.specs.Checks.{IsDuty}
use Rattle.room_core.specs.Readings.{unread}
use Rattle.std.specs.Prelude.{unwrap_or, IsSome}
use Rattle.room_core.specs.Duty.{IsOpen, met_readings}
use Rattle.room_core.specs.Sound.{IsEntry}
use Rattle.room_core.specs.State.{State}
use Rattle.room_core.proofs.Puts.{at-put}
use Rattle.room_core.proofs.Kept.{IsKept}
use Rattle.std.proofs.Common.{cond}
use Rattle.std.proofs.lemmas.Bool.{eq-eqb}

-- where one is dropped, the others were there before
pub dropped : {A : Type 0} (f : ℕ → Option A) (i : ℕ) (j : ℕ) (x : A) → put f i None j ≡ Some x → f j ≡ Some x
dropped f i j x = at-put f i None (λ q o. o ≡ Some x → f q ≡ Some x) (λ e. absurd (cc)) (λ q n e. e) j

pub is_entry : (o : Option Entry) (entry : Entry) (generation : ℕ) → o ≡ Some entry → entry.generation ≡ generation → IsEntry o generation
is_entry None entry generation e g = absurd (cc)
is_entry (Some x) entry generation e g = let q : x ≡ entry = cc in ap (λ y. y.generation) q ∙ g

pub entry_is : (o : Option Entry) (entry : Entry) (generation : ℕ) → o ≡ Some entry → IsEntry o generation → entry.generation ≡ generation
entry_is None entry generation e g = absurd g
entry_is (Some x) entry generation e g = let q : x ≡ entry = cc in ap (λ y. y.generation) (sym q) ∙ g

pub duty_is : (o : Option Duty) (a b : ℕ) → IsDuty o a → IsDuty o b → a ≡ b
duty_is None a b d e = absurd d
duty_is (Some x) a b d e = sym d ∙ e

pub no_duty : (o : Option Duty) (generation : ℕ) → o ≡ None → IsDuty o generation → ⊥
no_duty None generation e d = d
no_duty (Some x) generation e d = absurd (cc)

-- the meeting, where a pass was met
pub meeting_with : (o : Option Meeting) (pass : ℕ) → IsMet o pass → o ≡ Some (record { pass = pass; generation = generation_met o })
meeting_with None pass m = absurd m
meeting_with (Some x) pass m = ap (λ p. Some (record { pass = p; generation = x.generation })) m

pub met_is : (o : Option Meeting) (pass : ℕ) (readings : ℕ → Option ℕ) → IsMet o pass → met_readings o readings pass ≡ readings
unfolding met_readings
met_is None pass readings m = absurd m
met_is (Some x) pass readings m = ap (λ b. cond b readings unread) (eq-eqb x.pass pass m)

some_is : (o : Option ℕ) (x : ℕ) → IsSome o → ((y : ℕ) → o ≡ Some y → y ≡ x) → unwrap_or o 0 ≡ x
some_is None x i h = absurd (cc)
some_is (Some y) x i h = h y refl

-- what was learned of an open operation is its description
pub learned_is : (s : State) (k pass at : ℕ) → IsKept s → IsMet (s.scanner k).meeting pass → IsOpen s pass
    → (s.session pass).generation ≡ generation_met (s.scanner k).meeting → IsLearned (s.scanner k) at → words_of (s.scanner k) at ≡ s.description pass at
learned_is s k pass at r m o g i =
    some_is ((s.scanner k).learned at) (s.description pass at) i
    (λ y e. r.generations.learned k at y (record { pass = pass; generation = generation_met (s.scanner k).meeting }) (meeting_with (s.scanner k).meeting pass m) o g e)
