-- Peek: the word, where it is won, is what Over says.
use Rattle.std.proofs.Common.{◌≡◌, ◌≢◌, ℕ, sym, refl, subst}
use Rattle.room_core.specs.declared.parts.Phase.{Phase}
use Rattle.room_core.specs.declared.parts.Phase.TheVariants.{Open, Won}
use Rattle.room_core.specs.declared.parts.Stage.{Stage}
use Rattle.room_core.specs.declared.parts.Stage.TheVariants.{Listing}
use Rattle.room_core.specs.Duty.{IsOpen, OwnerFinds, FindsTally, FindsTime}
use Rattle.room_core.specs.Sound.{Agree}
use Rattle.room_core.specs.Passes.{CanPeek, peeking, peeked, caller_peeks}
use Rattle.room_core.specs.Carried.{IsUpheld}
use Rattle.room_core.specs.State.{State}
use Rattle.room_core.proofs.Kept.{IsKept, kept_of, carried}
use Rattle.room_core.proofs.Callers.{CallerStays, kept_by_caller}
use Rattle.room_core.proofs.Winners.{caller_wins_nothing}

pub peeked_agrees : (phase : Phase) (stage : Stage) → Agree stage phase → Agree (peeked phase stage) phase
unfolding peeked
peeked_agrees (Won how by) stage a = refl
peeked_agrees Phase.Idle stage a = a
peeked_agrees Open stage a = a

-- an open word tells nothing new
pub peeked_open : (phase : Phase) (stage : Stage) → phase ≡ Open → peeked phase stage ≡ stage
unfolding peeked
peeked_open (Won how by) stage e = absurd (cc)
peeked_open Phase.Idle stage e = refl
peeked_open Open stage e = refl

module _ (s : State) (pass : ℕ) (k : IsKept s) (busy : (s.caller pass).stage ≢ Stage.Idle) where
  as_before : (P : Stage → Type 0) → IsOpen s pass → P (s.caller pass).stage → P (peeked (s.session pass).phase (s.caller pass).stage)
  as_before P o = subst P (sym (peeked_open (s.session pass).phase (s.caller pass).stage o))

  pub stays : CallerStays s pass (caller_peeks (s.caller pass) (s.session pass).phase)
  stays = record {
    owed = k.debts.owed pass;
    owes = λ g l h. h;
    greatest = k.readings.greatest pass;
    readings = k.readings.owner pass;
    generation = refl;
    description = λ at. refl;
    stage = peeked_agrees (s.session pass).phase (s.caller pass).stage (k.owners.stage pass);
    busy = λ b. busy;
    seen = k.listings.seen pass;
    complete = λ i o n m. k.listings.complete pass i o (λ e. n (as_before (λ st. st ≡ Listing) o e)) m;
    tally = λ o f. as_before (λ st. OwnerFinds (FindsTally (s.description pass) s.value) (record (s.caller pass) { stage = st })) o f;
    time = λ o f. as_before (λ st. OwnerFinds (FindsTime s.shape (s.description pass) s.value) (record (s.caller pass) { stage = st })) o f;
    taken = refl;
  }

pub keeps : (s : State) (pass : ℕ) → IsUpheld s → CanPeek s pass → IsUpheld (peeking s pass)
keeps s pass c can =
    carried _ (kept_by_caller s pass _ (kept_of s c) (stays s pass (kept_of s c) can.1)) (caller_wins_nothing s pass _ refl refl c.sound.wins)
