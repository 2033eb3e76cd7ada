-- A seat of one part, before a step and after it.
use Rattle.std.proofs.Common.{◌≡◌, ℕ, ◌^◌, ◌<◌, List, [], ◌∷◌, sym, ap, ◌∙◌, subst, arith}
use Rattle.atomic_table.specs.Seated.{TableId}
use Rattle.std.specs.Prelude.{Some}
use Rattle.room_core.specs.declared.parts.Meeting.{Meeting}
use Rattle.room_core.specs.declared.parts.Source.{Source}
use Rattle.room_core.specs.declared.shape.Shape.{Shape}
use Rattle.room_core.specs.declared.word.Word.{Word}
use Rattle.room_core.specs.Meetings.{IsMet, generation_met}
use Rattle.room_core.specs.Scans.{number_heard}
use Rattle.room_core.specs.State.{Caller, Scanner}
use Rattle.room_core.specs.Words.{IsWord}
use Rattle.room_table.specs.declared.part.Part.{Part}
use Rattle.room_table.specs.declared.part.SourceStep.{SourceStep}
use Rattle.room_table.specs.declared.part.CallerStep.{CallerStep}
use Rattle.room_table.specs.declared.part.ScannerStep.{ScannerStep}
use Rattle.room_table.specs.Layout.{place_of, size_of}
use Rattle.room_table.specs.Parts.{source_of, caller_of, scanner_of, caller_after, scanner_after}
use Rattle.room_table.specs.Seats.{TableView, table_view, SourceView, CallerView, ScanView, source_now, caller_now, scanner_now, source_view, caller_view, scan_view, source_did, caller_did, scanner_did, HasSource, HasCaller, HasScanner, CallerIs, ScannerIs}
use Rattle.room_table.specs.Tells.{Sat, shape_in, pass_in, pass_met, caller_in, scanner_in, source_steps, caller_steps, scanner_steps, source_made, caller_made, scanner_made}
use Rattle.room_table.proofs.MetPasses.{met_pass, met_with}
use Rattle.room_table.proofs.Places.{place_small}

-- the seat's shape is the table's
pub shape_is : (id : TableId) (parts : List Part) (table : TableView) → table_view id (shape_in parts) ≡ table → shape_in parts ≡ table.shape
shape_is id parts table e = ap (λ t. t.shape) e

pub source_at : (gauge : ℕ) (m : Sat) (room : Shape) → HasSource gauge m → shape_in m.0 ≡ room → m ≡ (Part.Source room gauge (source_steps m.0) ∷ [], [])
source_at gauge m room has is = has ∙ ap (λ s. (Part.Source s gauge (source_steps m.0) ∷ [], [])) is

pub caller_at : (pass : ℕ) (m : Sat) (room : Shape) → HasCaller pass m → shape_in m.0 ≡ room → m ≡ (Part.Caller room pass (caller_steps m.0) ∷ [], [])
caller_at pass m room has is = has ∙ ap (λ s. (Part.Caller s pass (caller_steps m.0) ∷ [], [])) is

pub scanner_at : (k : ℕ) (m : Sat) (room : Shape) → HasScanner k m → shape_in m.0 ≡ room → m ≡ (Part.Scanner room k (scanner_steps m.0) ∷ [], [])
scanner_at k m room has is = has ∙ ap (λ s. (Part.Scanner s k (scanner_steps m.0) ∷ [], [])) is

-- with a step more it still has the one part
source_more : (gauge : ℕ) (m m' : Sat) (step : SourceStep) → HasSource gauge m → m' ≡ (source_made step m.0, m.1) → m' ≡ (Part.Source (shape_in m.0) gauge (step ∷ source_steps m.0) ∷ [], [])
source_more gauge m m' step has told = told ∙ ap (λ (z : Sat). (source_made step z.0, z.1)) has

pub source_kept : (gauge : ℕ) (m m' : Sat) (step : SourceStep) → HasSource gauge m → m' ≡ (source_made step m.0, m.1) → HasSource gauge m'
source_kept gauge m m' step has told =
    let is = source_more gauge m m' step has told in
    is ∙ sym (ap (λ (z : Sat). (Part.Source (shape_in z.0) gauge (source_steps z.0) ∷ [], [])) is)

pub source_seen : (id id' : TableId) (gauge : ℕ) (m m' : Sat) (step : SourceStep) → HasSource gauge m → id' ≡ id → m' ≡ (source_made step m.0, m.1)
    → source_view id' gauge m'.0 ≡ source_did (source_view id gauge m.0) step
source_seen id id' gauge m m' step has same told =
    let is = source_more gauge m m' step has told in
    ap (λ (z : Sat). source_view id' gauge z.0) is ∙ ap (λ j. record { table = table_view j (shape_in m.0); gauge = gauge; steps = step ∷ source_steps m.0 }) same

caller_more : (pass : ℕ) (m m' : Sat) (step : CallerStep) → HasCaller pass m → m' ≡ (caller_made step m.0, m.1) → m' ≡ (Part.Caller (shape_in m.0) pass (step ∷ caller_steps m.0) ∷ [], [])
caller_more pass m m' step has told = told ∙ ap (λ (z : Sat). (caller_made step z.0, z.1)) has

pub caller_kept : (pass : ℕ) (m m' : Sat) (step : CallerStep) → HasCaller pass m → m' ≡ (caller_made step m.0, m.1) → HasCaller pass m'
caller_kept pass m m' step has told =
    let is = caller_more pass m m' step has told in
    is ∙ sym (ap (λ (z : Sat). (Part.Caller (shape_in z.0) pass (caller_steps z.0) ∷ [], [])) is)

pub caller_seen : (id id' : TableId) (pass : ℕ) (m m' : Sat) (step : CallerStep) → HasCaller pass m → id' ≡ id → m' ≡ (caller_made step m.0, m.1)
    → caller_view id' pass m'.0 ≡ caller_did (caller_view id pass m.0) step
caller_seen id id' pass m m' step has same told =
    let is = caller_more pass m m' step has told in
    ap (λ (z : Sat). caller_view id' pass z.0) is ∙ ap (λ j. record { table = table_view j (shape_in m.0); pass = pass; steps = step ∷ caller_steps m.0 }) same

scanner_more : (k : ℕ) (m m' : Sat) (step : ScannerStep) → HasScanner k m → m' ≡ (scanner_made step m.0, m.1) → m' ≡ (Part.Scanner (shape_in m.0) k (step ∷ scanner_steps m.0) ∷ [], [])
scanner_more k m m' step has told = told ∙ ap (λ (z : Sat). (scanner_made step z.0, z.1)) has

pub scanner_kept : (k : ℕ) (m m' : Sat) (step : ScannerStep) → HasScanner k m → m' ≡ (scanner_made step m.0, m.1) → HasScanner k m'
scanner_kept k m m' step has told =
    let is = scanner_more k m m' step has told in
    is ∙ sym (ap (λ (z : Sat). (Part.Scanner (shape_in z.0) k (scanner_steps z.0) ∷ [], [])) is)

pub scanner_seen : (id id' : TableId) (k : ℕ) (m m' : Sat) (step : ScannerStep) → HasScanner k m → id' ≡ id → m' ≡ (scanner_made step m.0, m.1)
    → scan_view id' k m'.0 ≡ scanner_did (scan_view id k m.0) step
scanner_seen id id' k m m' step has same told =
    let is = scanner_more k m m' step has told in
    ap (λ (z : Sat). scan_view id' k z.0) is ∙ ap (λ j. record { table = table_view j (shape_in m.0); scanner = k; steps = step ∷ scanner_steps m.0 }) same

-- what a call on the table knows of it and of the seat
pub record SourceStands (key shape : Shape) (board own : TableId) (gauge : ℕ) (m : Sat) (table : TableView) (seat : SourceView) : Type 0 where
  pub rule : key ≡ shape
  pub words : board.words ≡ size_of shape
  pub self_is : table_view board shape ≡ table
  pub seat_is : source_view own gauge m.0 ≡ seat
  pub of_table : seat.table ≡ table
  pub has : HasSource gauge m

pub record CallerStands (key shape : Shape) (board own : TableId) (pass : ℕ) (m : Sat) (table : TableView) (seat : CallerView) : Type 0 where
  pub rule : key ≡ shape
  pub words : board.words ≡ size_of shape
  pub self_is : table_view board shape ≡ table
  pub seat_is : caller_view own pass m.0 ≡ seat
  pub of_table : seat.table ≡ table
  pub has : HasCaller pass m

pub record ScannerStands (key shape : Shape) (board own : TableId) (k : ℕ) (m : Sat) (table : TableView) (seat : ScanView) : Type 0 where
  pub rule : key ≡ shape
  pub words : board.words ≡ size_of shape
  pub self_is : table_view board shape ≡ table
  pub seat_is : scan_view own k m.0 ≡ seat
  pub of_table : seat.table ≡ table
  pub has : HasScanner k m

pub word_small : (shape : Shape) (words at : ℕ) (w : Word) → words ≡ size_of shape → at ≡ place_of shape w → IsWord shape w → at < words
word_small shape words at w size place is = omega (arith, place_small shape w is)

module _ {key shape : Shape} {board own : TableId} {gauge : ℕ} {m : Sat} {table : TableView} {seat : SourceView} (c : SourceStands key shape board own gauge m table seat) where
  source_tables : table_view own (shape_in m.0) ≡ table_view board shape
  source_tables = ap (λ v. v.table) c.seat_is ∙ c.of_table ∙ sym c.self_is

  pub source_same : own ≡ board
  source_same = ap (λ t. t.id) source_tables

  pub source_here : m ≡ (Part.Source shape gauge (source_steps m.0) ∷ [], [])
  source_here = source_at gauge m shape c.has (ap (λ t. t.shape) source_tables)

  pub source_may : (P : Shape → ℕ → Source → Type 0) → P table.shape seat.gauge (source_now seat) → P shape gauge (source_of (source_steps m.0))
  source_may P may = subst (λ s. P s gauge (source_of (source_steps m.0))) (sym (ap (λ t. t.shape) c.self_is)) (subst (λ v. P table.shape v.gauge (source_now v)) (sym c.seat_is) may)

module _ {key shape : Shape} {board own : TableId} {pass : ℕ} {m : Sat} {table : TableView} {seat : CallerView} (c : CallerStands key shape board own pass m table seat) where
  caller_tables : table_view own (shape_in m.0) ≡ table_view board shape
  caller_tables = ap (λ v. v.table) c.seat_is ∙ c.of_table ∙ sym c.self_is

  pub caller_same : own ≡ board
  caller_same = ap (λ t. t.id) caller_tables

  pub caller_here : m ≡ (Part.Caller shape pass (caller_steps m.0) ∷ [], [])
  caller_here = caller_at pass m shape c.has (ap (λ t. t.shape) caller_tables)

  pub caller_may : (P : Shape → ℕ → Caller → Type 0) → P table.shape seat.pass (caller_now seat) → P shape pass (caller_of shape pass (caller_steps m.0))
  caller_may P may =
      subst (λ (z : Shape × Shape). P z.0 pass (caller_of z.1 pass (caller_steps m.0))) (λ i. (sym (ap (λ t. t.shape) c.self_is) i, ap (λ t. t.shape) caller_tables i))
      (subst (λ v. P table.shape v.pass (caller_now v)) (sym c.seat_is) may)

module _ {key shape : Shape} {board own : TableId} {k : ℕ} {m : Sat} {table : TableView} {seat : ScanView} (c : ScannerStands key shape board own k m table seat) where
  scanner_tables : table_view own (shape_in m.0) ≡ table_view board shape
  scanner_tables = ap (λ v. v.table) c.seat_is ∙ c.of_table ∙ sym c.self_is

  pub scanner_same : own ≡ board
  scanner_same = ap (λ t. t.id) scanner_tables

  pub scanner_here : m ≡ (Part.Scanner shape k (scanner_steps m.0) ∷ [], [])
  scanner_here = scanner_at k m shape c.has (ap (λ t. t.shape) scanner_tables)

  pub scanner_may : (P : Shape → ℕ → Scanner → Type 0) → P table.shape seat.scanner (scanner_now seat) → P shape k (scanner_of shape k (scanner_steps m.0))
  scanner_may P may =
      subst (λ (z : Shape × Shape). P z.0 k (scanner_of z.1 k (scanner_steps m.0))) (λ i. (sym (ap (λ t. t.shape) c.self_is) i, ap (λ t. t.shape) scanner_tables i))
      (subst (λ v. P table.shape v.scanner (scanner_now v)) (sym c.seat_is) may)

-- what a step tells of the word that it was on
module _ {key shape : Shape} {board own : TableId} {pass : ℕ} {m : Sat} {table : TableView} {seat : CallerView} (c : CallerStands key shape board own pass m table seat) where
  caller_shape : shape ≡ shape_in m.0
  caller_shape = sym (ap (λ t. t.shape) (caller_tables c))

  pub caller_on : (w : Word) (at : ℕ) → at ≡ place_of shape w → at ≡ place_of (shape_in m.0) w
  caller_on w at place = place ∙ ap (λ s. place_of s w) caller_shape

  pub caller_on_word : (to at : ℕ) → at ≡ place_of shape (Word.Description pass to) → at ≡ place_of (shape_in m.0) (Word.Description (pass_in m.0) to)
  caller_on_word to at place = place ∙ (λ i. place_of (caller_shape i) (Word.Description (sym (ap (λ (z : Sat). pass_in z.0) c.has) i) to))

  pub caller_on_mark : (to at : ℕ) → at ≡ place_of shape (Word.Mark pass to) → at ≡ place_of (shape_in m.0) (Word.Mark (pass_in m.0) to)
  caller_on_mark to at place = place ∙ (λ i. place_of (caller_shape i) (Word.Mark (sym (ap (λ (z : Sat). pass_in z.0) c.has) i) to))

  -- the place that a seat keeps is the table's
  pub caller_placed : (w : ℕ → Word) (at : ℕ) → at ≡ place_of seat.table.shape (w seat.pass) → at ≡ place_of shape (w pass)
  caller_placed w at is = is ∙ (λ i. place_of (ap (λ t. t.shape) (c.of_table ∙ sym c.self_is) i) (w (sym (ap (λ v. v.pass) c.seat_is) i)))

  -- what it knows is what the call's seat knows
  pub caller_knows : caller_in m.0 ≡ caller_now seat
  caller_knows = ap (λ (z : Sat). caller_in z.0) c.has ∙ ap caller_now c.seat_is

module _ {key shape : Shape} {board own : TableId} {k : ℕ} {m : Sat} {table : TableView} {seat : ScanView} (c : ScannerStands key shape board own k m table seat) where
  scanner_shape : shape ≡ shape_in m.0
  scanner_shape = sym (ap (λ t. t.shape) (scanner_tables c))

  pub scanner_on : (w : Word) (at : ℕ) → at ≡ place_of shape w → at ≡ place_of (shape_in m.0) w
  scanner_on w at place = place ∙ ap (λ s. place_of s w) scanner_shape

  pub scanner_placed : (w : ℕ → Word) (pass at : ℕ) → IsMet (scanner_now seat).meeting pass → ((q : ℕ) → IsMet (scanner_now seat).meeting q → at ≡ place_of seat.table.shape (w q)) → at ≡ place_of shape (w pass)
  scanner_placed w pass at met is = is pass met ∙ ap (λ s. place_of s (w pass)) (ap (λ t. t.shape) (c.of_table ∙ sym c.self_is))

  pub scanner_knows : scanner_in m.0 ≡ scanner_now seat
  scanner_knows = ap (λ (z : Sat). scanner_in z.0) c.has ∙ ap scanner_now c.seat_is

  pub scanner_met : (pass : ℕ) → IsMet (scanner_now seat).meeting pass → pass ≡ pass_met (scanner_in m.0).meeting
  scanner_met pass met = sym (met_pass (scanner_in m.0).meeting pass (subst (λ x. IsMet x.meeting pass) (sym scanner_knows) met))

  pub scanner_on_word : (pass to at : ℕ) → IsMet (scanner_now seat).meeting pass → at ≡ place_of shape (Word.Description pass to) → at ≡ place_of (shape_in m.0) (Word.Description (pass_met (scanner_in m.0).meeting) to)
  scanner_on_word pass to at met place = place ∙ (λ i. place_of (scanner_shape i) (Word.Description (scanner_met pass met i) to))

  pub scanner_on_mark : (pass to at : ℕ) → IsMet (scanner_now seat).meeting pass → at ≡ place_of shape (Word.Mark pass to) → at ≡ place_of (shape_in m.0) (Word.Mark (pass_met (scanner_in m.0).meeting) to)
  scanner_on_mark pass to at met place = place ∙ (λ i. place_of (scanner_shape i) (Word.Mark (scanner_met pass met i) to))

-- what a seat keeps beside its part, after a step
pub caller_is_after : (pass g g' first : ℕ) (m m' : Sat) (step : CallerStep) → CallerIs pass g first m → m' ≡ (caller_made step m.0, m.1)
    → ((caller_of (shape_in m.0) pass (caller_steps m.0)).generation ≡ g → (caller_after (shape_in m.0) pass step (caller_of (shape_in m.0) pass (caller_steps m.0))).generation ≡ g') → CallerIs pass g' first m'
caller_is_after pass g g' first m m' step was told next =
    let more = caller_more pass m m' step was.has told in
    record {
      has = caller_kept pass m m' step was.has told;
      generation_is = ap (λ (z : Sat). (caller_in z.0).generation) more ∙ next (sym (ap (λ (z : Sat). (caller_in z.0).generation) was.has) ∙ was.generation_is);
      first_is = was.first_is ∙ sym (ap (λ (z : Sat). place_of (shape_in z.0) (Word.Session pass)) more);
      first_fits = was.first_fits;
    }

module _ (k heard heard' met first : ℕ) (m m' : Sat) (step : ScannerStep) (was : ScannerIs k heard met first m) (told : m' ≡ (scanner_made step m.0, m.1)) where
  abbrev before : Scanner
  before = scanner_of (shape_in m.0) k (scanner_steps m.0)

  abbrev after : Scanner
  after = scanner_after (shape_in m.0) k step before

  same : scanner_in m.0 ≡ before
  same = ap (λ (z : Sat). scanner_in z.0) was.has

  -- with a meeting of this generation, of the pass whose words begin there, or with none
  pub scanner_is_after : (met' first' : ℕ) → (number_heard before.heard ≡ heard → number_heard after.heard ≡ heard')
      → ((meeting : Meeting) → after.meeting ≡ Some meeting → (meeting.generation ≡ met') × (first' ≡ place_of (shape_in m.0) (Word.Session meeting.pass)))
      → first' < 2 ^ 32 → ScannerIs k heard' met' first' m'
  scanner_is_after met' first' hears meets fits =
      let more = scanner_more k m m' step was.has told in
      let now : scanner_in m'.0 ≡ after = ap (λ (z : Sat). scanner_in z.0) more in
      record {
        has = scanner_kept k m m' step was.has told;
        heard_is = ap (λ x. number_heard x.heard) now ∙ hears (sym (ap (λ x. number_heard x.heard) same) ∙ was.heard_is);
        met_is = λ meeting e. (meets meeting (sym (ap (λ y. y.meeting) now) ∙ e)).0;
        first_is = λ meeting e. (meets meeting (sym (ap (λ y. y.meeting) now) ∙ e)).1 ∙ sym (ap (λ (z : Sat). place_of (shape_in z.0) (Word.Session meeting.pass)) more);
        first_fits = fits;
      }

  -- with no other meeting than before
  pub scanner_is_still : (number_heard before.heard ≡ heard → number_heard after.heard ≡ heard') → ((meeting : Meeting) → after.meeting ≡ Some meeting → before.meeting ≡ Some meeting) → ScannerIs k heard' met first m'
  scanner_is_still hears keeps = scanner_is_after met first hears (λ meeting e. (was.met_is meeting (ap (λ y. y.meeting) same ∙ keeps meeting e), was.first_is meeting (ap (λ y. y.meeting) same ∙ keeps meeting e))) was.first_fits

-- the generation of a meeting
pub met_generation : (k heard met first pass : ℕ) (m : Sat) → ScannerIs k heard met first m → IsMet (scanner_in m.0).meeting pass → generation_met (scanner_in m.0).meeting ≡ met
met_generation k heard met first pass m was is = was.met_is (record { pass = pass; generation = generation_met (scanner_in m.0).meeting }) (met_with (scanner_in m.0).meeting pass is)

-- where the words of the pass met begin
pub scanner_first : (k heard met first pass : ℕ) (id : TableId) (m : Sat) (seat : ScanView) → ScannerIs k heard met first m → scan_view id k m.0 ≡ seat → IsMet (scanner_now seat).meeting pass → first ≡ place_of seat.table.shape (Word.Session pass)
scanner_first k heard met first pass id m seat was seen is =
    let knows : scanner_in m.0 ≡ scanner_now seat = ap (λ (z : Sat). scanner_in z.0) was.has ∙ ap scanner_now seen in
    let here : IsMet (scanner_in m.0).meeting pass = subst (λ x. IsMet x.meeting pass) (sym knows) is in
    was.first_is (record { pass = pass; generation = generation_met (scanner_in m.0).meeting }) (met_with (scanner_in m.0).meeting pass here) ∙ ap (λ v. place_of v.table.shape (Word.Session pass)) seen
