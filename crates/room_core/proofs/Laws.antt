-- What the crates above may cite.
use Rattle.std.proofs.Common.{⊎_elim, inl, inr, ◌≡◌, ◌≢◌, ◌⊎◌, ℕ, zero, suc, ◌+◌, ◌<◌, Option, Some, None, true, false, ap, refl, ◌∙◌, arith}
use Rattle.std.proofs.lemmas.Bool.{eq-eqb}
use Rattle.opcond.specs.Tally.{counted}
use Rattle.room_core.specs.declared.event.CoreEvent.{CoreEvent}
use Rattle.room_core.specs.declared.event.How.{How}
use Rattle.room_core.specs.declared.parts.Duty.{Duty}
use Rattle.room_core.specs.declared.parts.Phase.TheVariants.{Open, Won}
use Rattle.room_core.specs.declared.parts.Session.{Session}
use Rattle.room_core.specs.declared.shape.Shape.{Shape}
use Rattle.room_core.specs.Carried.{IsCarried}
use Rattle.room_core.specs.Checks.{exchanged}
use Rattle.room_core.specs.Description.{gauge_of, need_of, tally_below}
use Rattle.room_core.specs.Gauges.{IsShape}
use Rattle.room_core.specs.Meetings.{is_live, live_duty, met}
use Rattle.room_core.specs.Packing.{packed, unpacked, winner_number}
use Rattle.room_core.specs.Put.{put}
use Rattle.room_core.specs.Start.{start_of}
use Rattle.room_core.specs.State.{State}
use Rattle.room_core.specs.Step.{IsAllowed, changed}
use Rattle.room_core.proofs.Counting.{tally-more, tally-none}
use Rattle.room_core.proofs.Few.{winners_few}
use Rattle.room_core.proofs.Packings.{unpacked-packed}
use Rattle.room_core.proofs.Puts as puts
use Rattle.room_core.proofs.Steps.{keeps, begins}
use Rattle.room_core.proofs.Tests.{live_open, live_generation}
use Rattle.room_core.proofs.Words.{exchanged_or}
-- what stands in a winner's wins: how much of it, where it stands, and that it stands there once
pub use Rattle.room_core.proofs.Counts.{wins_counted}
pub use Rattle.room_core.proofs.Once.{stands, taken_stands}
pub use Rattle.room_core.proofs.Prizes.{no_prize, prize_made, wins_of-pass, wins_of-scanner}
pub use Rattle.room_core.proofs.Starting.{no_prizes}
-- in a sound and quiet state no open operation is answerable
pub use Rattle.room_core.proofs.Quiets.{in_time, unsatisfied}
-- the operation that words describe
pub use Rattle.room_core.proofs.Described.{tally_is}
-- sums of the first terms
pub use Rattle.room_core.proofs.Sums.{sum_both, sum_none, sum_same}
-- small numbers
pub use Rattle.room_core.proofs.Once.{one_at_most}
pub use Rattle.room_core.proofs.Packings.{packed_small, phase_few}
-- what a scanner has heard
pub use Rattle.room_core.proofs.Beginning.{heard_is}

-- the start meets what is carried
pub start_carried : (shape : Shape) → IsShape shape → IsCarried (start_of shape)
start_carried = begins

-- every event keeps it
pub event_carried : (s : State) (event : CoreEvent) → IsCarried s → IsAllowed s event → IsCarried (changed s event)
event_carried = keeps

-- winners have numbers below 97
pub winner_below : (s : State) → IsCarried s → (pass : ℕ) → winner_number (s.session pass).phase < 97
winner_below = winners_few

-- a session word comes out of its number as it was
pub unpacks : (session : Session) → winner_number session.phase < 256 → unpacked (packed session) ≡ session
unpacks = unpacked-packed

-- a table with one value given anew
pub put_here : {A : Type 0} (f : ℕ → A) (i : ℕ) (x : A) → put f i x i ≡ x
put_here = puts.put-same

pub put_else : {A : Type 0} (f : ℕ → A) (i : ℕ) (x : A) (j : ℕ) → j ≢ i → put f i x j ≡ f j
put_else = puts.put-other

-- what holds of the new value at its place, and of the old ones elsewhere
pub at_put : {A : Type 0} (f : ℕ → A) (i : ℕ) (x : A) (P : ℕ → A → Type 0) → P i x → ((j : ℕ) → j ≢ i → P j (f j)) → (j : ℕ) → P j (put f i x j)
at_put = puts.at-put

-- one value of a table of tables
pub place_here : {A : Type 0} (f : ℕ → ℕ → A) (i p : ℕ) (x : A) → put f i (put (f i) p x) i p ≡ x
place_here = puts.place-same

-- a word is open at the generation, and an exchange wins it; or it isn't, and an exchange leaves it
pub exchange_cases : (w : Session) (generation : ℕ) (how : How) (by : ℕ)
    → ((is_live w generation ≡ true) × (w ≡ record { generation = generation; phase = Open }) × (exchanged w generation how by ≡ record { generation = generation; phase = Won how by }))
    ⊎ ((is_live w generation ≡ false) × (exchanged w generation how by ≡ w))
exchange_cases w generation how by =
    ⊎_elim
    (λ (e : (is_live w generation ≡ true) × (exchanged w generation how by ≡ record { generation = w.generation; phase = Won how by })).
    inl (
      e.0,
      (λ i. record { generation = live_generation w generation e.0 i; phase = live_open w generation e.0 i }),
      e.1 ∙ ap (λ g. record { generation = g; phase = Won how by }) (live_generation w generation e.0),
    ))
    (λ (e : (is_live w generation ≡ false) × (exchanged w generation how by ≡ w)). inr e)
    (exchanged_or w generation how by)

pub open_is_live : (generation : ℕ) → is_live (record { generation = generation; phase = Open }) generation ≡ true
open_is_live generation = eq-eqb generation generation refl

-- a pass that is met at an open word, and one on which there was no duty
pub met_open : (pass generation : ℕ) → met (record { generation = generation; phase = Open }) pass ≡ Some (record { pass = pass; generation = generation })
unfolding met
met_open pass generation = refl

pub no_duty_lives : (w : Session) (o : Option Duty) → o ≡ None → live_duty w o ≡ None
unfolding live_duty
no_duty_lives w o e = ap (live_duty w) e

-- a tally of no needs, and of one more
pub tally_none : (words value : ℕ → ℕ) → tally_below words value 0 ≡ 0
tally_none = tally-none

pub tally_more : (words value : ℕ → ℕ) (n : ℕ) → tally_below words value (n + 1) ≡ tally_below words value n + counted (need_of words n) (value (gauge_of words n))
tally_more = tally-more

-- a number below one
pub below_one : (P : ℕ → Type 0) → P 0 → (i : ℕ) → i < 1 → P i
below_one P a zero h = a
below_one P a (suc n) h = absurd (omega (arith, h))
