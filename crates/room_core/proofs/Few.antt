-- Who won a word is a scanner or a pass of the shape.
use Rattle.std.proofs.Common.{⊎_elim, ◌≡◌, ℕ, ◌+◌, ◌-◌, ◌<◌, ◌≤◌, [], true, cond, ap, refl, ◌∙◌, arith}
use Rattle.std.proofs.lemmas.Bool.{cases_lt, eq-eqb, le-ltb}
use Rattle.room_core.specs.declared.event.How.{How}
use Rattle.room_core.specs.declared.event.How.TheVariants.{Satisfied, Expired}
use Rattle.room_core.specs.declared.parts.Phase.{Phase}
use Rattle.room_core.specs.declared.parts.Phase.TheVariants.{Open, Won}
use Rattle.room_core.specs.Packing.{winner_number}
use Rattle.room_core.specs.Wins.{prizes_as, taken_as, won_as, wins_of, same_how}
use Rattle.room_core.specs.Carried.{IsCarried}
use Rattle.room_core.specs.State.{State}
use Rattle.room_core.proofs.Starting.{no_prizes}

same : (how : How) → same_how how how ≡ true
same Satisfied = refl
same Expired = refl

won_here : (s : State) (pass : ℕ) (how : How) (by : ℕ) → (s.session pass).phase ≡ Won how by → won_as (s.session pass) (s.session pass).generation how by ≡ 1
unfolding won_as
won_here s pass how by e = rw (e, eq-eqb (s.session pass).generation (s.session pass).generation refl, same how, eq-eqb by by refl) refl

-- a winner past the last pass has no wins
no_wins : (s : State) → IsCarried s → (by : ℕ) → 97 ≤ by → wins_of s.scanner s.caller by ≡ []
unfolding wins_of
no_wins s c by l =
    ap (λ b. cond b (s.scanner by).wins (s.caller (by - 17)).wins) (le-ltb by 17 (omega arith))
    ∙ ap (λ x. x.wins) (c.within.passes.caller (by - 17) (omega (arith, c.shape.few_passes)))

winner_few : (s : State) → IsCarried s → (pass : ℕ) (how : How) (by : ℕ) → (s.session pass).phase ≡ Won how by → by < 97
winner_few s c pass how by e =
    ⊎_elim (λ (l : by < 97). l)
    (λ (l : 97 ≤ by).
    let g : ℕ = (s.session pass).generation in
    let counted : prizes_as (wins_of s.scanner s.caller by) pass g how ≡ taken_as (s.caller pass).taken g how by + won_as (s.session pass) g how by = c.sound.wins.counted by pass g how in
    let none : prizes_as (wins_of s.scanner s.caller by) pass g how ≡ 0 = ap (λ x. prizes_as x pass g how) (no_wins s c by l) ∙ no_prizes pass g how in
    absurd (omega (arith, counted, none, won_here s pass how by e)))
    (cases_lt by 97)

by_phase : (s : State) → IsCarried s → (pass : ℕ) (phase : Phase) → (s.session pass).phase ≡ phase → winner_number phase < 97
by_phase s c pass Phase.Idle e = omega arith
by_phase s c pass Open e = omega arith
by_phase s c pass (Won how by) e = winner_few s c pass how by e

pub winners_few : (s : State) → IsCarried s → (pass : ℕ) → winner_number (s.session pass).phase < 97
winners_few s c pass = by_phase s c pass (s.session pass).phase refl
