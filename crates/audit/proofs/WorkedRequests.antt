-- The worked requests have bodies.
use Rattle.std.proofs.Common.{◌≡◌, ◌≢◌, ℕ, zero, suc, ◌<◌, ◌^◌, pos, negsuc, List, [], ◌∷◌, length, inl, refl, ap, arith}
use Rattle.std.specs.Prelude.{AllPairs}
use Rattle.kbytes.specs.Field.{fields}
use Rattle.kwire.specs.IsRequest.{IsRequest, Named, request_fields}
use Rattle.kwire.specs.Layouts.{followed_by, times}
use Rattle.audit.specs.Worked.{fetch_one, fetch_both, fetch_now, produce_of}

other_parts : (topic : List ℕ) → ◌≢◌ {A = Named} (record { topic = topic; index = pos 0 }) (record { topic = topic; index = pos 1 })
other_parts topic e = let index : pos 0 ≡ pos 1 = ap (λ (named : Named). named.index) e in absurd cc

alone : (a : Named) → AllPairs (λ x y. x ≢ y) (a ∷ [])
alone a i j d lt within = absurd (omega (arith, lt, within))

pair : (a b : Named) → a ≢ b → AllPairs (λ x y. x ≢ y) (a ∷ b ∷ [])
pair a b ne zero zero d lt within = absurd (omega (arith, lt))
pair a b ne zero (suc zero) d lt within = ne
pair a b ne zero (suc (suc j)) d lt within = absurd (omega (arith, within))
pair a b ne (suc i) j d lt within = absurd (omega (arith, lt, within))

pub one_body : IsRequest (fields (request_fields fetch_one)) fetch_one
unfolding followed_by times
one_body = inl (record {
  whole = record { spelled = refl; version = refl; laid_out = record { named = 1; lead = (((_, refl), record { sfits = omega arith }), (((_, refl), record { sfits = omega arith }), (((_, refl), record { sfits = omega arith }), (((_, refl), tt), (((_, refl), record { sfits = omega arith }), (((_, refl), record { sfits = omega arith }), (((_, refl), record { sfits = omega arith }), (((_, refl), record { sfits = omega arith }), (((_, refl, (0, omega arith, refl)), record { sfits = omega arith }), (((_, refl), omega arith, omega arith), (((_, refl), omega arith), (((_, refl), omega arith, omega arith), (((_, refl), record { sfits = omega arith }), (((_, refl), record { sfits = omega arith }), (((_, refl), record { sfits = omega arith }), (refl, refl)))))))))))))))) }; fitting = ((λ untold. refl, tt), tt) };
  once = alone (record { topic = 116 ∷ []; index = pos 0 });
})

pub now_body : IsRequest (fields (request_fields fetch_now)) fetch_now
unfolding followed_by times
now_body = inl (record {
  whole = record { spelled = refl; version = refl; laid_out = record { named = 1; lead = (((_, refl), record { sfits = omega arith }), (((_, refl), record { sfits = omega arith }), (((_, refl), record { sfits = omega arith }), (((_, refl), tt), (((_, refl), record { sfits = omega arith }), (((_, refl), record { sfits = omega arith }), (((_, refl), record { sfits = omega arith }), (((_, refl), record { sfits = omega arith }), (((_, refl, (0, omega arith, refl)), record { sfits = omega arith }), (((_, refl), omega arith, omega arith), (((_, refl), omega arith), (((_, refl), omega arith, omega arith), (((_, refl), record { sfits = omega arith }), (((_, refl), record { sfits = omega arith }), (((_, refl), record { sfits = omega arith }), (refl, refl)))))))))))))))) }; fitting = ((λ untold. refl, tt), tt) };
  once = alone (record { topic = 116 ∷ []; index = pos 0 });
})

pub both_body : IsRequest (fields (request_fields fetch_both)) fetch_both
unfolding followed_by times
both_body = inl (record {
  whole = record { spelled = refl; version = refl; laid_out = record { named = 2; lead = (((_, refl), record { sfits = omega arith }), (((_, refl), record { sfits = omega arith }), (((_, refl), record { sfits = omega arith }), (((_, refl), tt), (((_, refl), record { sfits = omega arith }), (((_, refl), record { sfits = omega arith }), (((_, refl), record { sfits = omega arith }), (((_, refl), record { sfits = omega arith }), (((_, refl, (0, omega arith, refl)), record { sfits = omega arith }), (((_, refl), omega arith, omega arith), (((_, refl), omega arith), (((_, refl), omega arith, omega arith), (((_, refl), record { sfits = omega arith }), (((_, refl), record { sfits = omega arith }), (((_, refl), record { sfits = omega arith }), (((_, refl), record { sfits = omega arith }), (((_, refl), record { sfits = omega arith }), (((_, refl), record { sfits = omega arith }), (refl, refl))))))))))))))))))) }; fitting = ((λ untold. refl, (λ untold. refl, tt)), tt) };
  once = pair (record { topic = 116 ∷ []; index = pos 0 }) (record { topic = 116 ∷ []; index = pos 1 }) (other_parts (116 ∷ []));
})

pub leader_body : (batch : List ℕ) → length batch < 2 ^ 31 → IsRequest (fields (request_fields (produce_of (pos 1) batch))) (produce_of (pos 1) batch)
unfolding followed_by times
leader_body batch small = inl (record {
  whole = record { spelled = refl; version = refl; laid_out = record { named = 1; lead = (((_, refl), record { sfits = omega arith }), (((_, refl), record { sfits = omega arith }), (((_, refl), record { sfits = omega arith }), (((_, refl), tt), (((_, refl), tt), (((_, refl), record { sfits = omega arith }), (((_, refl), record { sfits = omega arith }), (((_, refl), omega arith, omega arith), (((_, refl), omega arith), (((_, refl), omega arith, omega arith), (((_, refl), record { sfits = omega arith }), (((_, refl), small), (refl, refl))))))))))))) }; fitting = tt };
  once = alone (record { topic = 116 ∷ []; index = pos 0 });
})

pub all_body : (batch : List ℕ) → length batch < 2 ^ 31 → IsRequest (fields (request_fields (produce_of (negsuc 0) batch))) (produce_of (negsuc 0) batch)
unfolding followed_by times
all_body batch small = inl (record {
  whole = record { spelled = refl; version = refl; laid_out = record { named = 1; lead = (((_, refl), record { sfits = omega arith }), (((_, refl), record { sfits = omega arith }), (((_, refl), record { sfits = omega arith }), (((_, refl), tt), (((_, refl), tt), (((_, refl), record { sfits = omega arith }), (((_, refl), record { sfits = omega arith }), (((_, refl), omega arith, omega arith), (((_, refl), omega arith), (((_, refl), omega arith, omega arith), (((_, refl), record { sfits = omega arith }), (((_, refl), small), (refl, refl))))))))))))) }; fitting = tt };
  once = alone (record { topic = 116 ∷ []; index = pos 0 });
})
