-- The request with which a replica asks is one that a broker reads.
use Rattle.std.proofs.Common.{◌≢◌, ℤ, [], ◌∷◌, refl, arith}
use Rattle.std.specs.Prelude.{AllPairs}
use Rattle.kwire.specs.IsRequest.{IsWhole, Named}
use Rattle.kwire.specs.Layouts.{followed_by, times}
use Rattle.follower.specs.Asking.{IsAskable, asked_body, request_of}
use Rattle.follower.specs.Copies.{Copy}

alone : (a : Named) → AllPairs (λ x y. x ≢ y) (a ∷ [])
alone a i j d lt within = absurd (omega (arith, lt, within))

pub asked_whole : (copy : Copy) (correlation : ℤ) → IsAskable copy correlation → IsWhole (asked_body copy correlation) (request_of copy correlation)
unfolding followed_by times
asked_whole copy correlation fits = record {
  whole = record { spelled = refl; version = refl; laid_out = record { named = 1; lead = (((_, refl), record { sfits = omega arith }), (((_, refl), record { sfits = omega arith }), (((_, refl), fits.number), (((_, refl), tt), (((_, refl), fits.id), (((_, refl), record { sfits = omega arith }), (((_, refl), record { sfits = omega arith }), (((_, refl), record { sfits = omega arith }), (((_, refl, (0, omega arith, refl)), record { sfits = omega arith }), (((_, refl), omega arith, omega arith), (((_, refl), omega (arith, fits.named)), (((_, refl), omega arith, omega arith), (((_, refl), fits.index), (((_, refl), record { sfits = omega (arith, fits.end) }), (((_, refl), record { sfits = omega arith }), (refl, refl)))))))))))))))) }; fitting = ((λ untold. refl, tt), tt) };
  once = alone (record { topic = copy.topic; index = copy.index });
}
