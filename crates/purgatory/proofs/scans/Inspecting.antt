-- An inspector after a step of its scanner.
use Rattle.std.proofs.Common.{◌≡◌, ◌∙◌, ℕ, ◌<◌, List, [], ◌∷◌, ◌++◌, Bool, true, false, Option, Some, None, arith, length, length-set, set, ap, refl, subst, sym}
use Rattle.std.specs.Prelude.{IsTrue, ◌↔◌, ◌+◌, if◌then◌else◌, is_some}
use Rattle.std.proofs.lemmas.Bool.{false≢true}
use Rattle.std.proofs.lemmas.List.{length_push}
use Rattle.room_core.specs.declared.event.How.{How}
use Rattle.room_core.specs.declared.parts.Meeting.{Meeting}
use Rattle.room_core.specs.declared.parts.Prize.{Prize}
use Rattle.room_core.specs.declared.parts.Session.{Session}
use Rattle.room_core.specs.declared.shape.Shape.{Shape}
use Rattle.room_core.specs.Checks.{scanner_answers, scanner_lets_go, scanner_takes, with_prize, scanner_reads}
use Rattle.room_core.specs.Gauges.{IsShape, IsScanner}
use Rattle.room_core.specs.Meetings.{IsMet, generation_met, is_live, words_of}
use Rattle.room_core.specs.Numbers.{description_words}
use Rattle.room_core.specs.Put.{put}
use Rattle.room_core.specs.State.{Scanner}
use Rattle.room_table.specs.declared.part.ScannerStep.{ScannerStep}
use Rattle.room_table.specs.Parts.{scanner_of}
use Rattle.room_table.specs.Seats.{ScanView, scanner_did, scanner_now}
use Rattle.purgatory.specs.scans.Inspected.{IsInspector, Mirrors}
use Rattle.purgatory.proofs.scans.Tables.{mirrors_more, mirrors_none}

-- with a seat that has made no step
pub fresh_inspector : (shape : Shape) (number : ℕ) (words values : List ℕ) (seat : ScanView)
    → shape ≡ seat.table.shape → number ≡ seat.scanner → IsShape shape → IsScanner shape number
    → length words ≡ description_words → length values ≡ shape.gauges → seat.steps ≡ []
    → IsInspector shape number words values 0 seat
fresh_inspector shape number words values seat same is s k few all none = record {
  shape_is = same;
  number_is = is;
  is_shape = s;
  is_scanner = k;
  words_size = few;
  values_size = all;
  learned = subst (λ (steps : List ScannerStep). Mirrors (scanner_of seat.table.shape seat.scanner steps).learned words) (sym none) (mirrors_none words);
  read = subst (λ (steps : List ScannerStep). Mirrors (scanner_of seat.table.shape seat.scanner steps).readings values) (sym none) (mirrors_none values);
  count = subst (λ (steps : List ScannerStep). 0 ≡ length (scanner_of seat.table.shape seat.scanner steps).wins) (sym none) refl;
}

either : (b : Bool) (P : Scanner → Type 0) (s t : Scanner) → P s → P t → P (if b then s else t)
either true P s t p q = p
either false P s t p q = q

-- in a meeting a value read is a reading
reading_taken : (o : Option Meeting) (pass : ℕ) (taken readings : ℕ → Option ℕ) → IsMet o pass → (if is_some o then taken else readings) ≡ taken
reading_taken None pass taken readings met = absurd met
reading_taken (Some meeting) pass taken readings met = refl

pub reads_taken : (s : Scanner) (pass gauge value : ℕ) → IsMet s.meeting pass → (scanner_reads s gauge value).readings ≡ put s.readings gauge (Some value)
reads_taken s pass gauge value met = reading_taken s.meeting pass (put s.readings gauge (Some value)) s.readings met

one_more : (b has_won : Bool) (wins : List Prize) (prize : Prize) → (IsTrue has_won ↔ (b ≡ true)) → length (if b then wins ++ prize ∷ [] else wins) ≡ length wins + (if has_won then 1 else 0)
one_more true true wins prize e = length_push wins prize
one_more true false wins prize e = absurd (false≢true (e.1 refl))
one_more false true wins prize e = absurd (false≢true (e.0 refl))
one_more false false wins prize e = omega arith

prize_counts : (found : Session) (generation : ℕ) (wins : List Prize) (prize : Prize) (has_won : Bool) → (IsTrue has_won ↔ (is_live found generation ≡ true))
    → length (with_prize found generation wins prize) ≡ length wins + (if has_won then 1 else 0)
unfolding with_prize
prize_counts found generation wins prize has_won e = one_more (is_live found generation) has_won wins prize e

module _ (shape : Shape) (number : ℕ) (words values : List ℕ) (wins : ℕ) (seat new : ScanView) (i : IsInspector shape number words values wins seat) where
  -- a step after which the scanner has these words, readings and wins
  with_these : (step : ScannerStep) (kept read_now : List ℕ) (count : ℕ) → length kept ≡ description_words → length read_now ≡ shape.gauges
      → Mirrors (scanner_now (scanner_did seat step)).learned kept
      → Mirrors (scanner_now (scanner_did seat step)).readings read_now
      → count ≡ length (scanner_now (scanner_did seat step)).wins
      → new ≡ scanner_did seat step → IsInspector shape number kept read_now count new
  with_these step kept read_now count few all learned read won e = subst (IsInspector shape number kept read_now count) (sym e) (record {
    shape_is = i.shape_is;
    number_is = i.number_is;
    is_shape = i.is_shape;
    is_scanner = i.is_scanner;
    words_size = few;
    values_size = all;
    learned = learned;
    read = read;
    count = won;
  })

  pub heard : (gauge asked : ℕ) → new ≡ scanner_did seat (ScannerStep.Heard gauge asked) → IsInspector shape number words values wins new
  heard gauge asked e = with_these (ScannerStep.Heard gauge asked) words values wins i.words_size i.values_size i.learned i.read i.count e

  pub began : (gauge begun : ℕ) → new ≡ scanner_did seat (ScannerStep.Began gauge begun) → IsInspector shape number words values wins new
  began gauge begun e = with_these (ScannerStep.Began gauge begun) words values wins i.words_size i.values_size (mirrors_none words) (mirrors_none values) i.count e

  pub met : (pass : ℕ) (found : Session) → new ≡ scanner_did seat (ScannerStep.Met pass found) → IsInspector shape number words values wins new
  met pass found e = with_these (ScannerStep.Met pass found) words values wins i.words_size i.values_size (mirrors_none words) (mirrors_none values) i.count e

  pub listed : (pass at : ℕ) → new ≡ scanner_did seat (ScannerStep.Listed pass at) → IsInspector shape number words values wins new
  listed pass at e = with_these (ScannerStep.Listed pass at) words values wins i.words_size i.values_size i.learned i.read i.count e

  pub learned : (at word : ℕ) → at < description_words
      → new ≡ scanner_did seat (ScannerStep.Learned at word) → IsInspector shape number (set words at word) values wins new
  learned at word less e = with_these (ScannerStep.Learned at word) (set words at word) values wins (length-set words at word ∙ i.words_size) i.values_size
      (mirrors_more (scanner_now seat).learned words at word (subst (λ n. at < n) (sym i.words_size) less) i.learned) i.read i.count e

  pub read : (pass gauge value : ℕ) → IsMet (scanner_now seat).meeting pass → gauge < shape.gauges
      → new ≡ scanner_did seat (ScannerStep.Read gauge value) → IsInspector shape number words (set values gauge value) wins new
  read pass gauge value met less e = with_these (ScannerStep.Read gauge value) words (set values gauge value) wins i.words_size (length-set values gauge value ∙ i.values_size)
      i.learned
      (subst (λ (known : ℕ → Option ℕ). Mirrors known (set values gauge value)) (sym (reads_taken (scanner_now seat) pass gauge value met))
      (mirrors_more (scanner_now seat).readings values gauge value (subst (λ n. gauge < n) (sym i.values_size) less) i.read))
      i.count e

  pub left : (pass gauge value : ℕ) → gauge < shape.gauges
      → new ≡ scanner_did seat (ScannerStep.Left pass gauge value) → IsInspector shape number words (set values gauge value) wins new
  left pass gauge value less e =
      let s = scanner_now seat in
      let kept = set values gauge value in
      let answers = scanner_answers seat.table.shape seat.scanner (words_of s) (put s.readings gauge (Some value)) in
      with_these (ScannerStep.Left pass gauge value) words kept wins i.words_size (length-set values gauge value ∙ i.values_size)
      (either answers (λ (t : Scanner). Mirrors t.learned words) (scanner_takes s gauge value) (scanner_lets_go s pass) i.learned (mirrors_none words))
      (either answers (λ (t : Scanner). Mirrors t.readings kept) (scanner_takes s gauge value) (scanner_lets_go s pass)
      (mirrors_more s.readings values gauge value (subst (λ n. gauge < n) (sym i.values_size) less) i.read) (mirrors_none kept))
      (either answers (λ (t : Scanner). wins ≡ length t.wins) (scanner_takes s gauge value) (scanner_lets_go s pass) i.count i.count) e

  pub won : (pass : ℕ) (how : How) (found : Session) (has_won : Bool) (count : ℕ) → (IsTrue has_won ↔ (is_live found (generation_met (scanner_now seat).meeting) ≡ true))
      → count ≡ wins + (if has_won then 1 else 0)
      → new ≡ scanner_did seat (ScannerStep.Won pass how found) → IsInspector shape number words values count new
  won pass how found has_won count where_live is e =
      let s = scanner_now seat in
      with_these (ScannerStep.Won pass how found) words values count i.words_size i.values_size (mirrors_none words) (mirrors_none values)
      (is ∙ ap (λ n. n + (if has_won then 1 else 0)) i.count ∙ sym (prize_counts found (generation_met s.meeting) s.wins (record { pass = pass; generation = generation_met s.meeting; how = how }) has_won where_live)) e
