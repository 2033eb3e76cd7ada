-- A result that is an error.
use Rattle.std.proofs.Common.{Result, Ok, Err}
use Rattle.std.specs.Result.{IsErr}

pub if_err : {T E : Type 0} (P : Result T E → Type 0) (r : Result T E) → IsErr r → ((e : E) → P (Err e)) → P r
if_err P (Ok x) is f = absurd cc
if_err P (Err e) is f = f e
