-- Session words, and the generation at which one is open.
use Rattle.std.proofs.Common.{◌≡◌, ◌≢◌, ℕ, ◌≤◌, Bool, true, false, ap, refl, sym, arith}
use Rattle.std.proofs.lemmas.Bool.{eq-eqb, eqb-true}
use Rattle.room_core.specs.declared.parts.Phase.{Phase}
use Rattle.room_core.specs.declared.parts.Phase.TheVariants.{Open, Won}
use Rattle.room_core.specs.declared.parts.Session.{Session}
use Rattle.room_core.specs.Meetings.{is_live}
use Rattle.purgatory.specs.scans.Listing.{open_at}
use Rattle.purgatory.specs.scans.Shelf.{open_generation}

-- an entry's generation is at least 1: it is live exactly where the word is open at it
pub live_generation : (phase : Phase) (word generation : ℕ) → 1 ≤ generation
    → (let w : Session = record { generation = word; phase = phase } in generation ≡ open_generation w) → (let w : Session = record { generation = word; phase = phase } in is_live w generation ≡ true)
live_generation Phase.Idle word generation some e = absurd (omega (arith, some, e))
live_generation Open word generation some e = eq-eqb word generation (sym e)
live_generation (Won how by) word generation some e = absurd (omega (arith, some, e))

pub is_live_at : (w : Session) (generation : ℕ) → 1 ≤ generation → generation ≡ open_generation w → is_live w generation ≡ true
is_live_at w generation some e = live_generation w.phase w.generation generation some e

live_open : (phase : Phase) (word generation : ℕ) → (let w : Session = record { generation = word; phase = phase } in is_live w generation ≡ true)
    → (let w : Session = record { generation = word; phase = phase } in generation ≡ open_generation w)
live_open Phase.Idle word generation e = absurd (cc)
live_open Open word generation e = sym (eqb-true word generation e)
live_open (Won how by) word generation e = absurd (cc)

pub live_at : (w : Session) (generation : ℕ) → is_live w generation ≡ true → generation ≡ open_generation w
live_at w generation e = live_open w.phase w.generation generation e

pub dead_at : (b : Bool) → (b ≡ true → ⊥) → b ≡ false
dead_at true n = absurd (n refl)
dead_at false n = refl

pub not_live : (w : Session) (generation : ℕ) → open_generation w ≢ generation → is_live w generation ≡ false
not_live w generation n = dead_at (is_live w generation) (λ e. n (sym (live_at w generation e)))

-- a word that is open at a generation is no other
word_open : (phase : Phase) (word generation : ℕ) → 1 ≤ generation → (let w : Session = record { generation = word; phase = phase } in open_generation w ≡ generation)
    → (let w : Session = record { generation = word; phase = phase } in w ≡ open_at generation)
word_open Phase.Idle word generation some e = absurd (omega (arith, some, e))
word_open Open word generation some e = ap open_at e
word_open (Won how by) word generation some e = absurd (omega (arith, some, e))

pub is_open_at : (w : Session) (generation : ℕ) → 1 ≤ generation → open_generation w ≡ generation → w ≡ open_at generation
is_open_at w generation some e = word_open w.phase w.generation generation some e
