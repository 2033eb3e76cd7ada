-- The states of the generator, and the draws before a request.
use Rattle.std.proofs.Common.{◌≡◌, ℕ, zero, suc, ◌+◌, refl, ap, ◌∙◌, arith}
use Rattle.storm.specs.Generator.{next_state, state_after}
use Rattle.storm.specs.Places.{draws_of, draws_before}

states_meet : (x a b : ℕ) → state_after (state_after x a) b ≡ state_after x (a + b)
unfolding state_after
states_meet x a zero = let e : a ≡ a + 0 = omega arith in ap (state_after x) e
states_meet x a (suc b) = let e : suc (a + b) ≡ a + suc b = omega arith in ap next_state (states_meet x a b) ∙ ap (state_after x) e

draws_more : (i : ℕ) → draws_before i + draws_of i ≡ draws_before (i + 1)
unfolding draws_before
draws_more i = let e : suc i ≡ i + 1 = omega arith in ap draws_before e

pub drawn_more : (seed i : ℕ) → state_after (state_after seed (draws_before i)) (draws_of i) ≡ state_after seed (draws_before (i + 1))
drawn_more seed i = states_meet seed (draws_before i) (draws_of i) ∙ ap (state_after seed) (draws_more i)

pub none_drawn : (seed : ℕ) → seed ≡ state_after seed (draws_before 0)
unfolding state_after draws_before
none_drawn seed = refl
