-- A won word stands once in the wins of the winner that it names, and in no other's.
use Rattle.std.proofs.Common.{◌≡◌, ◌≢◌, ℕ, zero, suc, ◌+◌, ◌≤◌, List, [], ◌∷◌, Bool, true, false, cond, sym, ap, refl, subst, ◌∙◌, arith}
use Rattle.std.specs.Prelude.{◌&&◌, ◌==◌, Some, slice_get}
use Rattle.std.proofs.lemmas.Bool.{eq-eqb, ne_eqb, eqb-true}
use Rattle.room_core.specs.declared.event.How.{How}
use Rattle.room_core.specs.declared.event.How.TheVariants.{Satisfied, Expired}
use Rattle.room_core.specs.declared.parts.Phase.{Phase}
use Rattle.room_core.specs.declared.parts.Phase.TheVariants.{Open, Won}
use Rattle.room_core.specs.declared.parts.Session.{Session}
use Rattle.room_core.specs.declared.parts.Taken.{Taken}
use Rattle.room_core.specs.Sound.{IsSound}
use Rattle.room_core.specs.Wins.{prizes_as, taken_as, won_as, taken_at, won_at, wins_of, same_how, is_won, is_won_as}
use Rattle.room_core.specs.State.{State}
use Rattle.room_core.proofs.Winners.{taken_as-more, taken_at-more}
use Rattle.room_core.proofs.Prizes.{prize_by}

pub one_at_most : (b : Bool) → cond b 1 0 ≤ 1
one_at_most true = omega arith
one_at_most false = omega arith

below_and : (a b : Bool) → 0 + cond (a && b) 1 0 ≤ 0 + cond a 1 0
below_and true true = omega arith
below_and true false = omega arith
below_and false b = omega arith

single : (x : Taken) (generation : ℕ) (how : How) (by : ℕ) → taken_as (x ∷ []) generation how by ≤ taken_at (x ∷ []) generation
unfolding taken_as taken_at
single x generation how by = below_and (x.generation == generation) (same_how x.how how && (x.by == by))

none : (generation : ℕ) (how : How) (by : ℕ) → taken_as [] generation how by ≤ taken_at [] generation
unfolding taken_as taken_at
none generation how by = omega arith

nothing : (generation : ℕ) (how way : How) (by other : ℕ) → taken_as [] generation how by + taken_as [] generation way other ≤ taken_at [] generation
unfolding taken_as taken_at
nothing generation how way by other = omega arith

as_below : (xs : List Taken) (generation : ℕ) (how : How) (by : ℕ) → taken_as xs generation how by ≤ taken_at xs generation
as_below [] generation how by = none generation how by
as_below (x ∷ xs) generation how by =
    omega (arith, taken_as-more (x ∷ []) xs generation how by, taken_at-more (x ∷ []) xs generation, single x generation how by, as_below xs generation how by)

same : (how : How) → same_how how how ≡ true
same Satisfied = refl
same Expired = refl

here_as : (generation : ℕ) (how : How) (by : ℕ) → won_as (record { generation = generation; phase = Won how by }) generation how by ≡ 1
unfolding won_as
here_as generation how by =
    ap (λ b. cond (b && (same_how how how && (by == by))) 1 0) (eq-eqb generation generation refl)
    ∙ ap (λ b. cond (b && (by == by)) 1 0) (same how) ∙ ap (λ b. cond b 1 0) (eq-eqb by by refl)

here_at : (generation : ℕ) (how : How) (by : ℕ) → won_at (record { generation = generation; phase = Won how by }) generation ≡ 1
unfolding won_at
here_at generation how by = ap (λ b. cond (b && true) 1 0) (eq-eqb generation generation refl)

module _ (s : State) (h : IsSound s) (pass : ℕ) (how : How) (by : ℕ) (won : (s.session pass).phase ≡ Won how by) where
  untaken : (way : How) (other : ℕ) → taken_as (s.caller pass).taken (s.session pass).generation way other ≡ 0
  untaken way other =
      let at : won_at (s.session pass) (s.session pass).generation ≡ 1 =
      ap (λ p. won_at (record { generation = (s.session pass).generation; phase = p }) (s.session pass).generation) won ∙ here_at (s.session pass).generation how by in
      omega (arith, at, h.wins.once pass (s.session pass).generation, as_below (s.caller pass).taken (s.session pass).generation way other)

  pub stands : prizes_as (wins_of s.scanner s.caller by) pass (s.session pass).generation how ≡ 1
  stands =
      let e : won_as (s.session pass) (s.session pass).generation how by ≡ 1 =
      ap (λ p. won_as (record { generation = (s.session pass).generation; phase = p }) (s.session pass).generation how by) won ∙ here_as (s.session pass).generation how by in
      omega (arith, e, untaken how by, h.wins.counted by pass (s.session pass).generation how)

  pub nowhere_else : (other : ℕ) (way : How) → other ≢ by → prizes_as (wins_of s.scanner s.caller other) pass (s.session pass).generation way ≡ 0
  nowhere_else other way n =
      let e : won_as (s.session pass) (s.session pass).generation way other ≡ 0 =
      ap (λ p. won_as (record { generation = (s.session pass).generation; phase = p }) (s.session pass).generation way other) won ∙ prize_by (s.session pass).generation how by other (s.session pass).generation way n in
      omega (arith, e, untaken way other, h.wins.counted other pass (s.session pass).generation way)

-- an item that was taken counts
item_here : (x : Taken) → taken_as (x ∷ []) x.generation x.how x.by ≡ 1
unfolding taken_as
item_here x =
    ap (λ b. 0 + cond (b && (same_how x.how x.how && (x.by == x.by))) 1 0) (eq-eqb x.generation x.generation refl)
    ∙ ap (λ b. 0 + cond (b && (x.by == x.by)) 1 0) (same x.how) ∙ ap (λ b. 0 + cond b 1 0) (eq-eqb x.by x.by refl) ∙ omega arith

as_one : (xs : List Taken) (at : ℕ) (x : Taken) → slice_get xs at ≡ Some x → 1 ≤ taken_as xs x.generation x.how x.by
as_one [] at x e = absurd (cc)
as_one (y ∷ ys) zero x e =
    let is : y ≡ x = cc in
    let one : 1 ≤ taken_as (y ∷ []) x.generation x.how x.by = subst (λ z. 1 ≤ taken_as (z ∷ []) x.generation x.how x.by) (sym is) (omega (arith, item_here x)) in
    omega (arith, one, taken_as-more (y ∷ []) ys x.generation x.how x.by)
as_one (y ∷ ys) (suc at) x e = omega (arith, as_one ys at x e, taken_as-more (y ∷ []) ys x.generation x.how x.by)

only_and : (b : Bool) (phase : Phase) (how : How) (by : ℕ) → cond (b && is_won_as phase how by) 1 0 ≤ cond (b && is_won phase) 1 0
only_and true (Won how' by') how by = one_at_most (same_how how' how && (by' == by))
only_and true Phase.Idle how by = omega arith
only_and true Open how by = omega arith
only_and false phase how by = omega arith

won_below : (w : Session) (generation : ℕ) (how : How) (by : ℕ) → won_as w generation how by ≤ won_at w generation
unfolding won_as won_at
won_below w generation how by = only_and (w.generation == generation) w.phase how by

-- no item names two winners
not_both : (a p q x y : Bool) → (x ≡ true → y ≡ false) → cond (a && (p && x)) 1 0 + cond (a && (q && y)) 1 0 ≤ cond a 1 0
not_both true true true true true h = let e : true ≡ false = h refl in absurd (cc)
not_both true true true true false h = omega arith
not_both true true true false true h = omega arith
not_both true true true false false h = omega arith
not_both true true false x y h = omega (arith, one_at_most x)
not_both true false true x y h = omega (arith, one_at_most y)
not_both true false false x y h = omega arith
not_both false p q x y h = omega arith

two_single : (x : Taken) (generation : ℕ) (how way : How) (by other : ℕ) → other ≢ by → taken_as (x ∷ []) generation how by + taken_as (x ∷ []) generation way other ≤ taken_at (x ∷ []) generation
unfolding taken_as taken_at
two_single x generation how way by other n =
    let less = not_both (x.generation == generation) (same_how x.how how) (same_how x.how way) (x.by == by) (x.by == other)
    (λ e. ne_eqb x.by other (λ o. n (sym o ∙ eqb-true x.by by e))) in
    omega (arith, less)

two_below : (xs : List Taken) (generation : ℕ) (how way : How) (by other : ℕ) → other ≢ by → taken_as xs generation how by + taken_as xs generation way other ≤ taken_at xs generation
two_below [] generation how way by other n = nothing generation how way by other
two_below (x ∷ xs) generation how way by other n =
    omega (
      arith,
      two_single x generation how way by other n,
      two_below xs generation how way by other n,
      taken_as-more (x ∷ []) xs generation how by,
      taken_as-more (x ∷ []) xs generation way other,
      taken_at-more (x ∷ []) xs generation,
    )

module _ (s : State) (h : IsSound s) (pass at : ℕ) (item : Taken) (there : slice_get (s.caller pass).taken at ≡ Some item) where
  pub taken_stands : prizes_as (wins_of s.scanner s.caller item.by) pass item.generation item.how ≡ 1
  taken_stands =
      omega (
        arith,
        as_one (s.caller pass).taken at item there,
        as_below (s.caller pass).taken item.generation item.how item.by,
        won_below (s.session pass) item.generation item.how item.by,
        h.wins.once pass item.generation,
        h.wins.counted item.by pass item.generation item.how,
      )

  pub taken_nowhere_else : (other : ℕ) (way : How) → other ≢ item.by → prizes_as (wins_of s.scanner s.caller other) pass item.generation way ≡ 0
  taken_nowhere_else other way n =
      omega (
        arith,
        as_one (s.caller pass).taken at item there,
        two_below (s.caller pass).taken item.generation item.how way item.by other n,
        won_below (s.session pass) item.generation way other,
        h.wins.once pass item.generation,
        h.wins.counted other pass item.generation way,
      )
