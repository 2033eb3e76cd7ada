-- A run: its words order one thing, and status 3 has its cause in the link.
use Rattle.std.proofs.Common.{◌≡◌, ℕ, ◌<◌, true, false, cond, eqb, Bool, List, inl, inr, refl, sym, ap, ◌∙◌, arith}
use Rattle.std.proofs.lemmas.Fmt.{decimal_injective}
use Rattle.outside.specs.Causes.{Rose}
use Rattle.follower.specs.Commands.{IsOrdered, Order, order_words}
use Rattle.follower.specs.Copies.{Copy}
use Rattle.follower.specs.Course.{HasFollowed}
use Rattle.follower.specs.Flows.{LinkView}
use Rattle.follower.specs.Running.{IsTold, SinkView, status_of}
use Rattle.follower.specs.declared.fault.FollowEnd.{FollowEnd}
use Rattle.follower.specs.declared.fault.FollowEnd.TheVariants.{Done, Closed, Truncated, FrameTooLong, Take, ReadFault, WriteFault, NoMemory}

pub one_order : (words : List (List ℕ)) (order other : Order) → IsOrdered words order → IsOrdered words other → order ≡ other
one_order words order other a b =
    let same : order_words order ≡ order_words other = sym a.0 ∙ b.0 in
    let topic : order.topic ≡ other.topic = cc in
    let port : order.port ≡ other.port = decimal_injective order.port other.port (omega (arith, a.1.port)) (omega (arith, b.1.port)) cc in
    let index : order.index ≡ other.index = decimal_injective order.index other.index (omega (arith, a.1.index)) (omega (arith, b.1.index)) cc in
    let replica : order.replica ≡ other.replica = decimal_injective order.replica other.replica (omega (arith, a.1.replica)) (omega (arith, b.1.replica)) cc in
    let rounds : order.rounds ≡ other.rounds = decimal_injective order.rounds other.rounds (omega (arith, a.1.rounds)) (omega (arith, b.1.rounds)) cc in
    ap (λ (n : ℕ). record order { port = n }) port ∙ ap (λ (t : List ℕ). record order { port = other.port; topic = t }) topic
    ∙ ap (λ (n : ℕ). record other { index = n; replica = order.replica; rounds = order.rounds }) index ∙ ap (λ (n : ℕ). record other { replica = n; rounds = order.rounds }) replica
    ∙ ap (λ (n : ℕ). record other { rounds = n }) rounds

-- ---- status 3

cut_three : (due status : ℕ) (none : Bool) → eqb due 0 ≡ none → status ≡ cond none 4 due → status ≡ 3 → due ≡ 3
cut_three due status true test is three = absurd (omega (arith, is, three))
cut_three due status false test is three = omega (arith, is, three)

told_three : (due : ℕ) (line : List ℕ) (status : ℕ) (before now : SinkView) → IsTold due line status before now → status ≡ 3 → due ≡ 3
told_three due line status before now (inl whole) three = omega (arith, whole.1, three)
told_three due line status before now (inr (inl cut)) three = cut_three due status (eqb due 0) refl cut.1 three
told_three due line status before now (inr (inr none)) three = absurd (omega (arith, none.0, three))

fault_rose : (end : FollowEnd) (rounds : ℕ) (old new : Copy) (before now : LinkView) → status_of end ≡ 3 → HasFollowed rounds old new end before now → Rose before.faults now.faults
fault_rose Done rounds old new before now is followed = absurd (omega (arith, is))
fault_rose Closed rounds old new before now is followed = absurd (omega (arith, is))
fault_rose (Truncated got) rounds old new before now is followed = absurd (omega (arith, is))
fault_rose (FrameTooLong size) rounds old new before now is followed = absurd (omega (arith, is))
fault_rose (Take fault) rounds old new before now is followed = absurd (omega (arith, is))
fault_rose ReadFault rounds old new before now is followed =
    elim followed.ends [
      | inl done ↦ let other : ReadFault ≡ Done = done.end_is in absurd cc
      | inr broken ↦ broken.why.2
    ]
fault_rose WriteFault rounds old new before now is followed =
    elim followed.ends [
      | inl done ↦ let other : WriteFault ≡ Done = done.end_is in absurd cc
      | inr broken ↦ broken.why.3
    ]
fault_rose NoMemory rounds old new before now is followed = absurd (omega (arith, is))

pub own_fault : (end : FollowEnd) (rounds : ℕ) (old new : Copy) (a b : LinkView) (line : List ℕ) (status : ℕ) (before now : SinkView) → HasFollowed rounds old new end a b → a.faults ≡ 0
    → IsTold (status_of end) line status before now → status ≡ 3 → 0 < b.faults
own_fault end rounds old new a b line status before now followed none told three =
    let rose = fault_rose end rounds old new a b (told_three (status_of end) line status before now told three) followed in
    omega (arith, rose, none)
