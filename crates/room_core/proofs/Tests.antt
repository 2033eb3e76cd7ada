-- Tests, and the phases and stages that they tell.
use Rattle.std.proofs.Common.{◌≡◌, ℕ, Bool, true, false, ap, refl}
use Rattle.std.specs.Prelude.{◌&&◌, ◌||◌}
use Rattle.std.proofs.lemmas.Bool.{eqb-true}
use Rattle.room_core.specs.declared.parts.Phase.{Phase}
use Rattle.room_core.specs.declared.parts.Phase.TheVariants.{Open, Won}
use Rattle.room_core.specs.declared.parts.Session.{Session}
use Rattle.room_core.specs.declared.parts.Stage.{Stage}
use Rattle.room_core.specs.declared.parts.Stage.TheVariants.{Listing, Checking, Waiting, Over}
use Rattle.room_core.specs.Meetings.{is_open, is_live}
use Rattle.room_core.specs.Checks.{is_checking}

pub and_left : (a b : Bool) → (a && b) ≡ true → a ≡ true
and_left true b e = refl
and_left false b e = e

pub and_right : (a b : Bool) → (a && b) ≡ true → b ≡ true
and_right true b e = e
and_right false b e = absurd (cc)

pub or_false : (a b : Bool) → (a || b) ≡ false → (a ≡ false) × (b ≡ false)
or_false true b e = absurd (cc)
or_false false b e = (refl, e)

pub open_phase : (phase : Phase) → is_open phase ≡ true → phase ≡ Open
open_phase Phase.Idle e = absurd (cc)
open_phase Open e = refl
open_phase (Won how by) e = absurd (cc)

pub phase_open : (phase : Phase) → phase ≡ Open → is_open phase ≡ true
phase_open phase e = ap is_open e

pub live_open : (session : Session) (generation : ℕ) → is_live session generation ≡ true → session.phase ≡ Open
live_open session generation e = open_phase session.phase (and_left _ _ e)

pub live_generation : (session : Session) (generation : ℕ) → is_live session generation ≡ true → session.generation ≡ generation
live_generation session generation e = eqb-true _ _ (and_right (is_open session.phase) _ e)

pub stage_checking : (stage : Stage) → is_checking stage ≡ true → stage ≡ Checking
stage_checking Stage.Idle e = absurd (cc)
stage_checking Listing e = absurd (cc)
stage_checking Checking e = refl
stage_checking Waiting e = absurd (cc)
stage_checking (Over how by) e = absurd (cc)
