-- Session words as numbers, and the exchange of one.
use Rattle.std.proofs.Common.{⊎_elim, ◌≡◌, ◌≢◌, ℕ, ◌%◌, ◌^◌, ◌<◌, true, false, sym, refl, ap, ◌∙◌, subst, arith}
use Rattle.std.specs.Prelude.{◌==◌, ◌↔◌, IsTrue}
use Rattle.std.proofs.lemmas.Bool.{eq-eqb, eqb-true, ne_eqb, false≢true}
use prog.Atomic.{either}
use Rattle.room_core.specs.declared.event.How.{How}
use Rattle.room_core.specs.declared.event.How.TheVariants.{Satisfied, Expired}
use Rattle.room_core.specs.declared.parts.Phase.{Phase}
use Rattle.room_core.specs.declared.parts.Phase.TheVariants.{Open, Won}
use Rattle.room_core.specs.declared.parts.Session.{Session}
use Rattle.room_core.specs.declared.parts.Stage.{Stage}
use Rattle.room_core.specs.declared.parts.Stage.TheVariants.{Listing, Checking, Waiting, Over}
use Rattle.room_core.specs.Carried.{IsCarried}
use Rattle.room_core.specs.Checks.{exchanged}
use Rattle.room_core.specs.Meetings.{is_live}
use Rattle.room_core.specs.Packing.{packed, unpacked, winner_number, how_number}
use Rattle.room_core.specs.Sound.{Agree}
use Rattle.room_core.specs.State.{State, Caller}
use Rattle.room_core.proofs.Laws.{exchange_cases, open_is_live, packed_small, unpacks, winner_below}
use Rattle.room_table.specs.Tells.{IsSessionWord, IsOwnWord}

pub below_256 : (s : State) → IsCarried s → (pass : ℕ) → winner_number (s.session pass).phase < 256
below_256 s c pass = omega (arith, winner_below s c pass)

-- the number of a session word of a carried state
pub session_word : (s : State) → IsCarried s → (pass : ℕ) → IsSessionWord (packed (s.session pass))
session_word s c pass =
    let back : unpacked (packed (s.session pass)) ≡ s.session pass = unpacks (s.session pass) (below_256 s c pass) in
    record {
      again = ap packed back;
      generation = subst (λ w. w.generation < 2 ^ 32) (sym back) (c.within.passes.generation pass);
      winner = subst (λ w. winner_number w.phase < 97) (sym back) (winner_below s c pass);
    }

not_idle : (stage : Stage) (phase : Phase) → Agree stage phase → stage ≢ Stage.Idle → phase ≢ Phase.Idle
not_idle Stage.Idle phase agree n = absurd (n refl)
not_idle Listing phase agree n = agree
not_idle Checking phase agree n = agree
not_idle Waiting phase agree n = agree
not_idle (Over how by) phase agree n = λ e. cc

pub own_word : (s : State) → IsCarried s → (pass : ℕ) (caller : Caller) → s.caller pass ≡ caller → (s.caller pass).stage ≢ Stage.Idle → IsOwnWord caller (packed (s.session pass))
own_word s c pass caller is busy =
    let back : unpacked (packed (s.session pass)) ≡ s.session pass = unpacks (s.session pass) (below_256 s c pass) in
    record {
      session = session_word s c pass;
      own = ap (λ w. w.generation) back ∙ c.sound.owners.generation pass ∙ ap (λ x. x.generation) is;
      busy = subst (λ w. w.phase ≢ Phase.Idle) (sym back) (not_idle (s.caller pass).stage (s.session pass).phase (c.sound.owners.stage pass) busy);
    }

-- to exchange the number is to exchange the word
pub exchange_is : (w : Session) (generation : ℕ) (how : How) (by : ℕ) → winner_number w.phase < 256
    → either (packed w == packed (record { generation = generation; phase = Open })) (packed (record { generation = generation; phase = Won how by })) (packed w) ≡ packed (exchanged w generation how by)
exchange_is w generation how by few =
    let open_word : Session = record { generation = generation; phase = Open } in
    let won_word : Session = record { generation = generation; phase = Won how by } in
    ⊎_elim
    (λ (t : (is_live w generation ≡ true) × (w ≡ record { generation = generation; phase = Open }) × (exchanged w generation how by ≡ record { generation = generation; phase = Won how by })).
    subst (λ b. either b (packed won_word) (packed w) ≡ packed (exchanged w generation how by)) (sym (eq-eqb (packed w) (packed open_word) (ap packed t.1))) (sym (ap packed t.2)))
    (λ (t : (is_live w generation ≡ false) × (exchanged w generation how by ≡ w)).
    let apart : packed w ≢ packed open_word = λ e.
    (let is : w ≡ open_word = sym (unpacks w few) ∙ ap unpacked e ∙ unpacks open_word (omega arith) in
    false≢true (sym t.0 ∙ ap (λ x. is_live x generation) is ∙ open_is_live generation)) in
    subst (λ b. either b (packed won_word) (packed w) ≡ packed (exchanged w generation how by)) (sym (ne_eqb (packed w) (packed open_word) apart)) (sym (ap packed t.1)))
    (exchange_cases w generation how by)

pub number_how : (a b : How) → how_number a ≡ how_number b → a ≡ b
number_how Satisfied Satisfied e = refl
number_how Satisfied Expired e = absurd (omega arith)
number_how Expired Satisfied e = absurd (omega arith)
number_how Expired Expired e = refl

how_few : (how : How) → how_number how < 4
how_few Satisfied = omega arith
how_few Expired = omega arith

pub rest_is : (generation : ℕ) (how : How) (by : ℕ) → packed (record { generation = generation; phase = Won how by }) % 4 ≡ how_number how
unfolding packed
rest_is generation how by = let few = how_few how in omega arith

-- the number of a session word is below 2^42
pub session_small : (word : ℕ) → IsSessionWord word → word < 2 ^ 42
session_small word is = subst (λ n. n < 2 ^ 42) is.again (packed_small (unpacked word) is.generation is.winner)

live_word : (w : Session) (g : ℕ) → is_live w g ≡ true → w ≡ record { generation = g; phase = Open }
live_word w g live = ⊎_elim
    (λ (t : (is_live w g ≡ true) × (w ≡ record { generation = g; phase = Open }) × (exchanged w g Satisfied 0 ≡ record { generation = g; phase = Won Satisfied 0 })). t.1)
    (λ (t : (is_live w g ≡ false) × (exchanged w g Satisfied 0 ≡ w)). absurd (false≢true (sym t.0 ∙ live)))
    (exchange_cases w g Satisfied 0)

-- an exchange found the word that it wanted exactly where that was open at the generation
pub won_where : (found wanted g : ℕ) → IsSessionWord found → wanted ≡ packed (record { generation = g; phase = Open }) → IsTrue (found == wanted) ↔ (is_live (unpacked found) g ≡ true)
won_where found wanted g is same =
    let open_word : Session = record { generation = g; phase = Open } in (
      (λ e.
          let equal : found ≡ wanted = eqb-true found wanted e in
          ap (λ w. is_live w g) (ap unpacked (equal ∙ same) ∙ unpacks open_word (omega arith)) ∙ open_is_live g),
      (λ live. eq-eqb found wanted (sym is.again ∙ ap packed (live_word (unpacked found) g live) ∙ sym same)),
    )
