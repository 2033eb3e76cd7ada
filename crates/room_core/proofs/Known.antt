-- What is known by readings that were taken, or lost.
use Rattle.std.proofs.Common.{⊎_elim, ◌≡◌, ℕ, ◌≤◌, Bool, true, false, cond, ap, refl, arith, Option, Some, None}
use Rattle.std.specs.Prelude.{unwrap_or, IsSome}
use Rattle.room_core.specs.declared.parts.Stage.{Stage}
use Rattle.room_core.specs.declared.parts.Stage.TheVariants.{Checking}
use Rattle.room_core.specs.declared.parts.Meeting.{Meeting}
use Rattle.room_core.specs.Put.{put}
use Rattle.room_core.specs.Readings.{known, read_only, unread}
use Rattle.room_core.specs.Checks.{is_checking, IsRead}
use Rattle.room_core.specs.Duty.{owner_readings, met_readings, is_met}
use Rattle.room_core.proofs.Puts.{at-put}
use Rattle.room_core.proofs.Tallies.{known_below}

-- what holds of both branches holds of the choice
pub of_either : {A : Type 0} (P : A → Type 0) (b : Bool) (x y : A) → (b ≡ true → P x) → (b ≡ false → P y) → P (cond b x y)
of_either P true x y h k = h refl
of_either P false x y h k = k refl

-- readings are at most the values
abbrev pub AreBelow : (ℕ → Option ℕ) → (ℕ → ℕ) → Type 0
AreBelow readings value = (g x : ℕ) → readings g ≡ Some x → x ≤ value g

pub unread_below : (value : ℕ → ℕ) → AreBelow unread value
unread_below value g x e = absurd (cc)

-- the present value was read
pub taken_below : (readings : ℕ → Option ℕ) (value : ℕ → ℕ) (gauge : ℕ) → AreBelow readings value → AreBelow (put readings gauge (Some (value gauge))) value
taken_below readings value gauge h g x =
    at-put readings gauge (Some (value gauge)) (λ j o. o ≡ Some x → x ≤ value j) (λ e. let q : value gauge ≡ x = cc in omega arith) (λ j n. h j x) g

-- to take the present value as a reading never lowers what is known
pub known_taken : (readings : ℕ → Option ℕ) (value : ℕ → ℕ) (gauge : ℕ) → AreBelow readings value → (g : ℕ) → known readings value g ≤ known (put readings gauge (Some (value gauge))) value g
known_taken readings value gauge h =
    at-put readings gauge (Some (value gauge)) (λ j o. known readings value j ≤ unwrap_or o (value j)) (known_below readings value h gauge) (λ j n. omega arith)

some_read : (o : Option ℕ) (v : ℕ) → IsSome o → unwrap_or o v ≤ unwrap_or o 0
some_read None v e = absurd (cc)
some_read (Some x) v e = omega arith

-- where all that is wanted was read but one gauge, and that is read now, no more was known before
pub known_read : (readings : ℕ → Option ℕ) (value : ℕ → ℕ) (gauge : ℕ) → AreBelow readings value → (g : ℕ) → IsRead readings gauge g → known readings value g ≤ read_only (put readings gauge (Some (value gauge))) g
known_read readings value gauge h =
    at-put readings gauge (Some (value gauge)) (λ j o. IsRead readings gauge j → known readings value j ≤ unwrap_or o 0) (λ r. known_below readings value h gauge)
    (λ j n. ⊎_elim (λ (is : IsSome (readings j)). some_read (readings j) (value j) is) (λ (e : j ≡ gauge). absurd (n e)))

-- readings that are kept in one case only, taken in another only
known_some : (c d : Bool) (r q : ℕ → Option ℕ) (value : ℕ → ℕ) → ((g : ℕ) → known r value g ≤ known q value g) → (g : ℕ) → known (cond c r unread) value g ≤ known (cond c (cond d q r) unread) value g
known_some true true r q value h g = h g
known_some true false r q value h g = omega arith
known_some false d r q value h g = omega arith

pub owner_takes : (stage : Stage) (r q : ℕ → Option ℕ) (value : ℕ → ℕ) → ((g : ℕ) → known r value g ≤ known q value g) → (g : ℕ) → known (owner_readings stage r) value g ≤ known (owner_readings stage (cond (is_checking stage) q r)) value g
unfolding owner_readings
owner_takes stage r q value h = known_some (is_checking stage) (is_checking stage) r q value h

pub met_takes : (meeting : Option Meeting) (pass : ℕ) (d : Bool) (r q : ℕ → Option ℕ) (value : ℕ → ℕ) → ((g : ℕ) → known r value g ≤ known q value g) → (g : ℕ) → known (met_readings meeting r pass) value g ≤ known (met_readings meeting (cond d q r) pass) value g
unfolding met_readings
met_takes meeting pass d r q value h = known_some (is_met meeting pass) d r q value h

known_lost : (c d : Bool) (r : ℕ → Option ℕ) (value : ℕ → ℕ) → AreBelow r value → (g : ℕ) → known (cond c r unread) value g ≤ known (cond d unread unread) value g
known_lost true true r value h g = known_below r value h g
known_lost true false r value h g = known_below r value h g
known_lost false true r value h g = omega arith
known_lost false false r value h g = omega arith

-- who has no readings knows the values
pub owner_forgets : (stage now : Stage) (r : ℕ → Option ℕ) (value : ℕ → ℕ) → AreBelow r value → (g : ℕ) → known (owner_readings stage r) value g ≤ known (owner_readings now unread) value g
unfolding owner_readings
owner_forgets stage now r value h = known_lost (is_checking stage) (is_checking now) r value h

pub met_forgets : (meeting now : Option Meeting) (pass : ℕ) (r : ℕ → Option ℕ) (value : ℕ → ℕ) → AreBelow r value → (g : ℕ) → known (met_readings meeting r pass) value g ≤ known (met_readings now unread pass) value g
unfolding met_readings
met_forgets meeting now pass r value h = known_lost (is_met meeting pass) (is_met now pass) r value h

-- the readings of a check
pub owner_checking : (stage : Stage) (r : ℕ → Option ℕ) → stage ≡ Checking → owner_readings stage r ≡ r
unfolding owner_readings
owner_checking stage r e = ap (λ st. cond (is_checking st) r unread) e
