-- What holds either way, and what the tests of a board tell.
use Rattle.std.proofs.Common.{◌≡◌, Bool, true, false, ◌||◌, cond, Option, Some, None, refl}
use Rattle.audit.specs.declared.account.SessionEnd.{SessionEnd}
use Rattle.audit.specs.broker.Acting.{is_there}

-- what holds of both holds of the one that is taken
pub either_way : {X : Type 0} (P : X → Type 0) (b : Bool) (x y : X) → P x → P y → P (cond b x y)
either_way P true x y p q = p
either_way P false x y p q = q

pub neither : (x y : Bool) → (x || y) ≡ false → (x ≡ false) × (y ≡ false)
neither true y e = absurd cc
neither false y e = (refl, e)

-- a session that goes on has no end
pub no_end : (end : Option SessionEnd) → is_there end ≡ false → end ≡ None
no_end None going = refl
no_end (Some end) going = absurd cc
