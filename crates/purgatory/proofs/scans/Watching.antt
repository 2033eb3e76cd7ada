-- A watcher that is checked.
use Rattle.std.proofs.Common.{◌≡◌, ◌≢◌, ◌∙◌, ℕ, ◌≤◌, Bool, true, false, Option, Some, None, cond, ap, refl, subst, sym}
use Rattle.room_core.specs.declared.parts.Duty.{Duty}
use Rattle.room_core.specs.declared.parts.Meeting.{Meeting}
use Rattle.room_core.specs.declared.parts.Session.{Session}
use Rattle.room_core.specs.Checks.{IsDuty}
use Rattle.room_core.specs.Meetings.{IsMet, generation_met, is_live, live_duty, met}
use Rattle.room_core.specs.Put.{put}
use Rattle.room_core.proofs.Laws.{met_open, put_else, put_here}
use Rattle.room_table.specs.declared.part.ScannerStep.{ScannerStep}
use Rattle.room_table.specs.Seats.{ScanView, scanner_did, scanner_now}
use Rattle.watch_lists.specs.Watches.{Watches}
use Rattle.purgatory.specs.scans.Checked.{HasLooked}
use Rattle.purgatory.specs.scans.Desks.{ShardView}
use Rattle.purgatory.specs.scans.Going.{GoesOn}
use Rattle.purgatory.specs.scans.Shelf.{IsAtCheck, KeepsLower, WasChecked, open_generation}
use Rattle.purgatory.proofs.scans.Goes.{goes_by, goes_far, stays}
use Rattle.purgatory.proofs.scans.Rows.{lower_far, lower_same}
use Rattle.purgatory.proofs.scans.Sessions.{is_live_at, is_open_at, not_live}

pub check_starts : (gauge id generation : ℕ) (a : ShardView) → (scanner_now a.seat).duties id ≡ Some (record { gauge = gauge; generation = generation }) → IsAtCheck gauge id generation a a
check_starts gauge id generation a duty = record { went = stays a.seat; began = refl; duty = duty; others = λ other n. refl; lower = lower_same id a.watches }

-- what a meeting leaves of a duty
pub duty_left : (w : Session) (gauge generation : ℕ) (b : Bool) → is_live w generation ≡ b
    → live_duty w (Some (record { gauge = gauge; generation = generation })) ≡ cond b (Some (record { gauge = gauge; generation = generation })) None
unfolding live_duty
duty_left w gauge generation b e = ap (λ x. cond x (Some (let d : Duty = record { gauge = gauge; generation = generation } in d)) None) e

module _ (gauge id generation : ℕ) (a b : ShardView) (new : ShardView) (found : Session) (i : IsAtCheck gauge id generation a b) (some : 1 ≤ generation)
    (step : new.seat ≡ scanner_did b.seat (ScannerStep.Met id found)) (lower : KeepsLower id b.watches new.watches) where
  duty_now : (live : Bool) → is_live found generation ≡ live → (scanner_now new.seat).duties id ≡ cond live (Some (record { gauge = gauge; generation = generation })) None
  duty_now live e =
      ap (λ (v : ScanView). (scanner_now v).duties id) step
      ∙ put_here (scanner_now b.seat).duties id (live_duty found ((scanner_now b.seat).duties id))
      ∙ ap (live_duty found) i.duty
      ∙ duty_left found gauge generation live e

  others_now : (other : ℕ) → other ≢ id → (scanner_now new.seat).duties other ≡ (scanner_now a.seat).duties other
  others_now other n =
      ap (λ (v : ScanView). (scanner_now v).duties other) step
      ∙ put_else (scanner_now b.seat).duties id (live_duty found ((scanner_now b.seat).duties id)) other n
      ∙ i.others other n

  began_now : (scanner_now new.seat).began ≡ (scanner_now a.seat).began
  began_now = ap (λ (v : ScanView). (scanner_now v).began) step ∙ i.began

  -- the pass is open at the generation
  pub check_met : open_generation found ≡ generation → IsAtCheck gauge id generation a new
  check_met e = record {
    went = goes_by a.seat b.seat new.seat (ScannerStep.Met id found) i.went step;
    began = began_now;
    duty = duty_now true (is_live_at found generation some (sym e));
    others = others_now;
    lower = lower_far id a.watches b.watches new.watches i.lower lower;
  }

  meeting_now : open_generation found ≡ generation → (scanner_now new.seat).meeting ≡ Some (record { pass = id; generation = generation })
  meeting_now e = ap (λ (v : ScanView). (scanner_now v).meeting) step ∙ ap (λ (w : Session). met w id) (is_open_at found generation some e) ∙ met_open id generation

  pub meets_pass : open_generation found ≡ generation → IsMet (scanner_now new.seat).meeting id
  meets_pass e = subst (λ (m : Option Meeting). IsMet m id) (sym (meeting_now e)) refl

  pub meets_generation : open_generation found ≡ generation → generation_met (scanner_now new.seat).meeting ≡ generation
  meets_generation e = ap generation_met (meeting_now e)

  pub meets_duty : open_generation found ≡ generation → IsDuty ((scanner_now new.seat).duties id) (generation_met (scanner_now new.seat).meeting)
  meets_duty e =
      subst (λ (d : Option Duty). IsDuty d (generation_met (scanner_now new.seat).meeting)) (sym (duty_now true (is_live_at found generation some (sym e))))
      (sym (meets_generation e))

  -- it isn't
  pub check_over : open_generation found ≢ generation → WasChecked id a new
  check_over n = record {
    went = goes_by a.seat b.seat new.seat (ScannerStep.Met id found) i.went step;
    began = began_now;
    freed = record { gone = duty_now false (not_live found generation n); others = others_now };
    lower = lower_far id a.watches b.watches new.watches i.lower lower;
  }

-- the scanner looked, and found nothing clear
pub check_looked : (gauge id generation : ℕ) (a b : ShardView) (seat : ScanView) → IsAtCheck gauge id generation a b → GoesOn b.seat seat → HasLooked (scanner_now b.seat) (scanner_now seat)
    → IsAtCheck gauge id generation a (record { seat = seat; watches = b.watches })
check_looked gauge id generation a b seat i went looked = record {
  went = goes_far a.seat b.seat seat i.went went;
  began = looked.began ∙ i.began;
  duty = ap (λ (d : ℕ → Option Duty). d id) looked.duties ∙ i.duty;
  others = λ other n. ap (λ (d : ℕ → Option Duty). d other) looked.duties ∙ i.others other n;
  lower = i.lower;
}

-- its duty is gone
pub check_freed : (gauge id generation : ℕ) (a b : ShardView) (seat : ScanView) (less : Watches) → IsAtCheck gauge id generation a b → GoesOn b.seat seat
    → (scanner_now seat).began ≡ (scanner_now b.seat).began → (scanner_now seat).duties ≡ put (scanner_now b.seat).duties id None → KeepsLower id b.watches less
    → WasChecked id a (record { seat = seat; watches = less })
check_freed gauge id generation a b seat less i went began duties lower = record {
  went = goes_far a.seat b.seat seat i.went went;
  began = began ∙ i.began;
  freed = record {
    gone = ap (λ (d : ℕ → Option Duty). d id) duties ∙ put_here (scanner_now b.seat).duties id None;
    others = λ other n. ap (λ (d : ℕ → Option Duty). d other) duties ∙ put_else (scanner_now b.seat).duties id None other n ∙ i.others other n;
  };
  lower = lower_far id a.watches b.watches less i.lower lower;
}

-- a scanner that met a pass open at a generation
pub meeting_is : (a b : ScanView) (pass generation : ℕ) (found : Session) → 1 ≤ generation → b ≡ scanner_did a (ScannerStep.Met pass found) → open_generation found ≡ generation
    → (scanner_now b).meeting ≡ Some (record { pass = pass; generation = generation })
meeting_is a b pass generation found some step e =
    ap (λ (v : ScanView). (scanner_now v).meeting) step ∙ ap (λ (w : Session). met w pass) (is_open_at found generation some e) ∙ met_open pass generation
