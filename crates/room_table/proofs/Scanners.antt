-- The steps of a scanner.
use Rattle.std.proofs.Common.{⊎_elim, ◌≡◌, ℕ, ◌<◌, ◌≤◌, List, [], ◌∷◌, max, sym, refl, ap, ◌∙◌, subst, arith}
use Rattle.std.specs.Prelude.{◌==◌}
use mathlib.Core.Option.{none}
use prog.Atomic.{either}
use Rattle.atomic_table.specs.Table.{step, Allows}
use Rattle.room_core.specs.declared.event.CoreEvent.{CoreEvent}
use Rattle.room_core.specs.declared.event.CoreEvent.TheVariants.{Hear, Begin, Meet, Learn, Read, Leave, Win}
use Rattle.room_core.specs.declared.event.How.{How}
use Rattle.room_core.specs.declared.event.Party.{Party}
use Rattle.room_core.specs.declared.parts.Phase.TheVariants.{Open, Won}
use Rattle.room_core.specs.declared.shape.Shape.{Shape}
use Rattle.room_core.specs.declared.word.Word.{Word}
use Rattle.room_core.specs.Carried.{IsCarried}
use Rattle.room_core.specs.Checks.{ScannerMayLeave, ScannerMayWin, scanner_reads, scanner_leaves, scanner_wins, exchanged, scanner_reading, scanner_leaving, scanner_winning}
use Rattle.room_core.specs.Gauges.{IsGauge, IsPass, IsScanner, IsGaugeOf}
use Rattle.room_core.specs.Gauges.{scanner_of as scanner_number}
use Rattle.room_core.specs.Meetings.{IsMet, MayLearn, MayMark, MayMarkNeed, MayMarkClock, generation_met, scanner_meets, scanner_learns, scanner_marks, scanner_meeting, learning, marking}
use Rattle.room_core.specs.Packing.{packed, unpacked}
use Rattle.room_core.specs.Scans.{MayHear, MayBegin, IsHeard, number_heard, scanner_hears, scanner_begins, hearing, beginning}
use Rattle.room_core.specs.State.{State, Scanner}
use Rattle.room_core.proofs.Laws.{event_carried, heard_is, place_here, put_here, put_else, unpacks}
use Rattle.room_table.specs.declared.part.Part.{Part}
use Rattle.room_table.specs.declared.part.ScannerStep.{ScannerStep}
use Rattle.room_table.specs.Layout.{place_of}
use Rattle.room_table.specs.Parts.{scanner_of}
use Rattle.room_table.specs.Shown.{IsShown}
use Rattle.room_table.specs.Tells.{IsSessionWord, IsNewest, pass_met, heard, began, met_word, learned_word, marked_word, scanner_read, scanner_left, scanner_won}
use Rattle.room_table.proofs.Changes.{words_but, scanner_others, place_else}
use Rattle.room_table.proofs.Exchanges.{below_256, session_word, exchange_is, number_how, rest_is}
use Rattle.room_table.proofs.MetPasses.{met_pass, met_with}
use Rattle.room_table.proofs.Stepping.{allowed}

abbrev MayMeet : Shape → ℕ → ℕ → Type 0
MayMeet shape k pass = IsScanner shape k × IsPass shape pass

abbrev CanBeRead : Shape → ℕ → ℕ → Type 0
CanBeRead shape k gauge = IsScanner shape k × IsGauge shape gauge

-- what was heard is of the scanner's own gauge
pub heard_own : (s : State) → IsCarried s → (k gauge : ℕ) → IsHeard (s.scanner k).heard gauge → IsGaugeOf s.shape k gauge
heard_own s c k gauge h = (c.scanners k).heard (record { gauge = gauge; number = number_heard (s.scanner k).heard }) (heard_is (s.scanner k).heard gauge h)

pub mark_few : (shape : Shape) (k : ℕ) (scanner : Scanner) (pass at : ℕ) → MayMark shape k scanner pass at → at < 65
mark_few shape k scanner pass at may = ⊎_elim (λ (m : MayMarkNeed shape k scanner at). omega (arith, m.need)) (λ (m : MayMarkClock k scanner at). omega (arith, m.clock)) may.3

-- the word's generation is no less than those of the entries, and than the meeting's
newest : (s : State) (c : IsCarried s) (k pass : ℕ) (scanner : Scanner) → s.scanner k ≡ scanner → IsNewest scanner pass (packed (s.session pass))
newest s c k pass scanner is gauge entry e =
    subst (λ w. entry.generation ≤ w.generation) (sym (unpacks (s.session pass) (below_256 s c pass)))
    (c.sound.generations.entry k gauge pass entry (ap (λ x. x.listing gauge pass) is ∙ e))

met_below : (s : State) (c : IsCarried s) (k pass : ℕ) (scanner : Scanner) → s.scanner k ≡ scanner → IsMet scanner.meeting pass → generation_met scanner.meeting ≤ (unpacked (packed (s.session pass))).generation
met_below s c k pass scanner is met =
    subst (λ w. generation_met scanner.meeting ≤ w.generation) (sym (unpacks (s.session pass) (below_256 s c pass)))
    (c.sound.generations.meeting k (record { pass = pass; generation = generation_met scanner.meeting }) (ap (λ x. x.meeting) is ∙ met_with scanner.meeting pass met))

module _ (shape : Shape) (slots id k : ℕ) (steps : List ScannerStep) where
  pub hears : (gauge : ℕ) → MayHear shape k (scanner_of shape k steps) gauge
      → Allows (IsShown shape) slots id (Part.Scanner shape k steps ∷ [], []) (place_of shape (Word.Asked gauge)) (λ n. n)
      (heard (step slots (place_of shape (Word.Asked gauge)) 0 0 none) (Part.Scanner shape k steps ∷ [], []))
  hears gauge may =
      allowed shape slots id (Part.Scanner shape k steps) (Word.Asked gauge) (λ n. n) (λ n. Part.Scanner shape k (ScannerStep.Heard gauge n ∷ steps)) (λ n. (scanner_of shape k steps).began gauge ≤ n)
      (heard (step slots (place_of shape (Word.Asked gauge)) 0 0 none) (Part.Scanner shape k steps ∷ [], []))
      (λ s. hearing s k gauge) may.1.there (λ n. refl)
      (λ s c e shows. (
        record {
          shape = refl;
          carried = event_carried s (Hear k gauge) c (subst (λ sh. MayHear sh k (s.scanner k) gauge) (sym e) (subst (λ x. MayHear shape k x gauge) (sym shows.2) may));
          here = refl;
          words = words_but s (hearing s k gauge) (Word.Asked gauge) (λ g n. refl) (λ g n. refl) (λ g n. refl) (λ p n. refl) (λ p a n. refl) (λ p a n. refl);
          mine = (shows.0, shows.1, put_here s.scanner k (scanner_hears (s.scanner k) gauge (s.asked gauge)) ∙ ap (λ x. scanner_hears x gauge (s.asked gauge)) shows.2);
          others = scanner_others s (hearing s k gauge) refl shape k _ shows.0 refl refl refl;
        },
        (let same : (s.scanner k).began gauge ≡ (scanner_of shape k steps).began gauge = ap (λ x. x.began gauge) shows.2 in
            let own : s.begun gauge ≡ (s.scanner (scanner_number s.shape gauge)).began gauge = c.sound.values.own gauge (subst (λ sh. IsGauge sh gauge) (sym e) may.1.there) in
            let mine : (s.scanner (scanner_number s.shape gauge)).began gauge ≡ (s.scanner k).began gauge = ap (λ j. (s.scanner j).began gauge) (subst (λ sh. scanner_number sh gauge ≡ k) (sym e) may.1.scans) in
            omega (arith, c.sound.values.begun gauge)),
      ))
      (λ n m is says g on.
      let same : gauge ≡ g = omega (arith, on) in
      (subst (λ h. m ≡ (Part.Scanner shape k (ScannerStep.Heard h n ∷ steps) ∷ [], [])) same is, subst (λ h. (scanner_of shape k steps).began h ≤ n) same says))

  pub begins : (gauge : ℕ) → MayBegin shape k (scanner_of shape k steps) gauge
      → Allows (IsShown shape) slots id (Part.Scanner shape k steps ∷ [], []) (place_of shape (Word.Begun gauge)) (λ n. max n (number_heard (scanner_of shape k steps).heard))
      (began (step slots (place_of shape (Word.Begun gauge)) (number_heard (scanner_of shape k steps).heard) 0 none) (Part.Scanner shape k steps ∷ [], []))
  begins gauge may =
      allowed shape slots id (Part.Scanner shape k steps) (Word.Begun gauge) (λ n. max n (number_heard (scanner_of shape k steps).heard)) (λ n. Part.Scanner shape k (ScannerStep.Began gauge n ∷ steps)) (λ n. n ≡ (scanner_of shape k steps).began gauge)
      (began (step slots (place_of shape (Word.Begun gauge)) (number_heard (scanner_of shape k steps).heard) 0 none) (Part.Scanner shape k steps ∷ [], []))
      (λ s. beginning s k gauge) may.1 (λ n. refl)
      (λ s c e shows. (
        record {
          shape = refl;
          carried = event_carried s (Begin k gauge) c (subst (λ sh. MayBegin sh k (s.scanner k) gauge) (sym e) (subst (λ x. MayBegin shape k x gauge) (sym shows.2) may));
          here = put_here s.begun gauge (max (s.begun gauge) (number_heard (s.scanner k).heard)) ∙ ap (λ x. max (s.begun gauge) (number_heard x.heard)) shows.2;
          words = words_but s (beginning s k gauge) (Word.Begun gauge) (λ g n. refl) (λ g n. refl) (λ g n. put_else s.begun gauge (max (s.begun gauge) (number_heard (s.scanner k).heard)) g (λ q. n (ap Word.Begun q))) (λ p n. refl) (λ p a n. refl) (λ p a n. refl);
          mine = (shows.0, shows.1, put_here s.scanner k (scanner_begins s.shape (s.scanner k) gauge (s.begun gauge)) ∙ (λ i. scanner_begins (e i) (shows.2 i) gauge (s.begun gauge)));
          others = scanner_others s (beginning s k gauge) refl shape k _ shows.0 refl refl refl;
        },
        (let own : IsGaugeOf s.shape k gauge = heard_own s c k gauge (subst (λ x. IsHeard x.heard gauge) (sym shows.2) may.2) in
            let same : (s.scanner k).began gauge ≡ (scanner_of shape k steps).began gauge = ap (λ x. x.began gauge) shows.2 in
            c.sound.values.own gauge own.there ∙ ap (λ j. (s.scanner j).began gauge) own.scans ∙ same),
      ))
      (λ n m is says g on.
      let same : gauge ≡ g = omega (arith, on) in
      (subst (λ h. m ≡ (Part.Scanner shape k (ScannerStep.Began h n ∷ steps) ∷ [], [])) same is, subst (λ h. n ≡ (scanner_of shape k steps).began h) same says))

  pub meets : (pass : ℕ) → MayMeet shape k pass
      → Allows (IsShown shape) slots id (Part.Scanner shape k steps ∷ [], []) (place_of shape (Word.Session pass)) (λ n. n)
      (met_word (step slots (place_of shape (Word.Session pass)) 0 0 none) (Part.Scanner shape k steps ∷ [], []))
  meets pass may =
      allowed shape slots id (Part.Scanner shape k steps) (Word.Session pass) (λ n. n) (λ n. Part.Scanner shape k (ScannerStep.Met pass (unpacked n) ∷ steps)) (λ n. IsSessionWord n × IsNewest (scanner_of shape k steps) pass n)
      (met_word (step slots (place_of shape (Word.Session pass)) 0 0 none) (Part.Scanner shape k steps ∷ [], []))
      (λ s. scanner_meeting s k pass) may.1 (λ n. refl)
      (λ s c e shows. (
        record {
          shape = refl;
          carried = event_carried s (Meet k pass) c (subst (λ sh. MayMeet sh k pass) (sym e) may);
          here = refl;
          words = words_but s (scanner_meeting s k pass) (Word.Session pass) (λ g n. refl) (λ g n. refl) (λ g n. refl) (λ p n. refl) (λ p a n. refl) (λ p a n. refl);
          mine = (
            shows.0,
            shows.1,
            put_here s.scanner k (scanner_meets (s.scanner k) pass (s.session pass)) ∙ (λ i. scanner_meets (shows.2 i) pass (sym (unpacks (s.session pass) (below_256 s c pass)) i)),
          );
          others = scanner_others s (scanner_meeting s k pass) refl shape k _ shows.0 refl refl refl;
        },
        (session_word s c pass, newest s c k pass (scanner_of shape k steps) shows.2),
      ))
      (λ n m is says p on.
      let same : pass ≡ p = omega (arith, on) in (
        subst (λ h. m ≡ (Part.Scanner shape k (ScannerStep.Met h (unpacked n) ∷ steps) ∷ [], [])) same is,
        says.0,
        subst (λ h. IsNewest (scanner_of shape k steps) h n) same says.1,
      ))

  pub learns : (pass at : ℕ) → MayLearn shape k (scanner_of shape k steps) pass at
      → Allows (IsShown shape) slots id (Part.Scanner shape k steps ∷ [], []) (place_of shape (Word.Description pass at)) (λ n. n)
      (learned_word (step slots (place_of shape (Word.Description pass at)) 0 0 none) (Part.Scanner shape k steps ∷ [], []))
  learns pass at may =
      allowed shape slots id (Part.Scanner shape k steps) (Word.Description pass at) (λ n. n) (λ n. Part.Scanner shape k (ScannerStep.Learned at n ∷ steps)) (λ n. Unit {0})
      (learned_word (step slots (place_of shape (Word.Description pass at)) 0 0 none) (Part.Scanner shape k steps ∷ [], []))
      (λ s. learning s k pass at) (may.1, may.2) (λ n. refl)
      (λ s c e shows. (
        record {
          shape = refl;
          carried = event_carried s (Learn k pass at) c (subst (λ sh. MayLearn sh k (s.scanner k) pass at) (sym e) (subst (λ x. MayLearn shape k x pass at) (sym shows.2) may));
          here = refl;
          words = words_but s (learning s k pass at) (Word.Description pass at) (λ g n. refl) (λ g n. refl) (λ g n. refl) (λ p n. refl) (λ p a n. refl) (λ p a n. refl);
          mine = (shows.0, shows.1, put_here s.scanner k (scanner_learns (s.scanner k) at (s.description pass at)) ∙ ap (λ x. scanner_learns x at (s.description pass at)) shows.2);
          others = scanner_others s (learning s k pass at) refl shape k _ shows.0 refl refl refl;
        },
        tt,
      ))
      (λ n m is _ to on.
      let met : pass_met (scanner_of shape k steps).meeting ≡ pass = met_pass (scanner_of shape k steps).meeting pass may.3 in
      let same : at ≡ to = omega (arith, on, met) in
      subst (λ h. m ≡ (Part.Scanner shape k (ScannerStep.Learned h n ∷ steps) ∷ [], [])) same is)

  pub marks : (pass at : ℕ) → MayMark shape k (scanner_of shape k steps) pass at
      → Allows (IsShown shape) slots id (Part.Scanner shape k steps ∷ [], []) (place_of shape (Word.Mark pass at)) (λ _. generation_met (scanner_of shape k steps).meeting)
      (λ _. marked_word (step slots (place_of shape (Word.Mark pass at)) (generation_met (scanner_of shape k steps).meeting) 0 none) (Part.Scanner shape k steps ∷ [], []) (generation_met (scanner_of shape k steps).meeting))
  marks pass at may =
      allowed shape slots id (Part.Scanner shape k steps) (Word.Mark pass at) (λ _. generation_met (scanner_of shape k steps).meeting) (λ _. Part.Scanner shape k (ScannerStep.Listed pass at ∷ steps)) (λ _. Unit {0})
      (λ _. marked_word (step slots (place_of shape (Word.Mark pass at)) (generation_met (scanner_of shape k steps).meeting) 0 none) (Part.Scanner shape k steps ∷ [], []) (generation_met (scanner_of shape k steps).meeting))
      (λ s. marking s k pass at) (may.1, mark_few shape k (scanner_of shape k steps) pass at may) (λ n. refl)
      (λ s c e shows. (
        record {
          shape = refl;
          carried = event_carried s (CoreEvent.Mark k pass at) c (subst (λ sh. MayMark sh k (s.scanner k) pass at) (sym e) (subst (λ x. MayMark shape k x pass at) (sym shows.2) may));
          here = place_here s.marks pass at (generation_met (s.scanner k).meeting) ∙ ap (λ x. generation_met x.meeting) shows.2;
          words = words_but s (marking s k pass at) (Word.Mark pass at) (λ g n. refl) (λ g n. refl) (λ g n. refl) (λ p n. refl) (λ p a n. refl) (λ p a n. place_else s.marks pass at (generation_met (s.scanner k).meeting) p a (λ q r. n (λ i. Word.Mark (q i) (r i))));
          mine = (shows.0, shows.1, put_here s.scanner k (scanner_marks s.shape (s.scanner k) pass at) ∙ (λ i. scanner_marks (e i) (shows.2 i) pass at));
          others = scanner_others s (marking s k pass at) refl shape k _ shows.0 refl refl refl;
        },
        tt,
      ))
      (λ n m is _ to on.
      let met : pass_met (scanner_of shape k steps).meeting ≡ pass = met_pass (scanner_of shape k steps).meeting pass may.2 in
      let same : at ≡ to = omega (arith, on, met) in
      subst (λ (z : ℕ × ℕ). m ≡ (Part.Scanner shape k (ScannerStep.Listed z.0 z.1 ∷ steps) ∷ [], [])) (λ i. (sym met i, same i)) is)

  pub reads : (gauge : ℕ) → CanBeRead shape k gauge
      → Allows (IsShown shape) slots id (Part.Scanner shape k steps ∷ [], []) (place_of shape (Word.Value gauge)) (λ n. n)
      (scanner_read (step slots (place_of shape (Word.Value gauge)) 0 0 none) (Part.Scanner shape k steps ∷ [], []))
  reads gauge may =
      allowed shape slots id (Part.Scanner shape k steps) (Word.Value gauge) (λ n. n) (λ n. Part.Scanner shape k (ScannerStep.Read gauge n ∷ steps)) (λ n. (IsGaugeOf shape k gauge → (scanner_of shape k steps).began gauge ≤ n))
      (scanner_read (step slots (place_of shape (Word.Value gauge)) 0 0 none) (Part.Scanner shape k steps ∷ [], []))
      (λ s. scanner_reading s k gauge) may.1 (λ n. refl)
      (λ s c e shows. (
        record {
          shape = refl;
          carried = event_carried s (Read (Party.Scanner k) gauge) c (subst (λ sh. CanBeRead sh k gauge) (sym e) (subst (λ x. CanBeRead shape k gauge) (sym shows.2) may));
          here = refl;
          words = words_but s (scanner_reading s k gauge) (Word.Value gauge) (λ g n. refl) (λ g n. refl) (λ g n. refl) (λ p n. refl) (λ p a n. refl) (λ p a n. refl);
          mine = (shows.0, shows.1, put_here s.scanner k (scanner_reads (s.scanner k) gauge (s.value gauge)) ∙ ap (λ x. scanner_reads x gauge (s.value gauge)) shows.2);
          others = scanner_others s (scanner_reading s k gauge) refl shape k _ shows.0 refl refl refl;
        },
        (λ own.
            let same : (s.scanner k).began gauge ≡ (scanner_of shape k steps).began gauge = ap (λ x. x.began gauge) shows.2 in
            let begun : s.begun gauge ≡ (s.scanner (scanner_number s.shape gauge)).began gauge = c.sound.values.own gauge (subst (λ sh. IsGauge sh gauge) (sym e) own.there) in
            let mine : (s.scanner (scanner_number s.shape gauge)).began gauge ≡ (s.scanner k).began gauge = ap (λ j. (s.scanner j).began gauge) (subst (λ sh. scanner_number sh gauge ≡ k) (sym e) own.scans) in
            omega (arith, c.sound.values.begun gauge, c.sound.values.asked gauge)),
      ))
      (λ n m is says g on.
      let same : gauge ≡ g = omega (arith, on) in
      (subst (λ h. m ≡ (Part.Scanner shape k (ScannerStep.Read h n ∷ steps) ∷ [], [])) same is, subst (λ h. IsGaugeOf shape k h → (scanner_of shape k steps).began h ≤ n) same says))

  pub leaves : (pass gauge : ℕ) → ScannerMayLeave shape k (scanner_of shape k steps) pass gauge
      → Allows (IsShown shape) slots id (Part.Scanner shape k steps ∷ [], []) (place_of shape (Word.Value gauge)) (λ n. n)
      (scanner_left (step slots (place_of shape (Word.Value gauge)) 0 0 none) (Part.Scanner shape k steps ∷ [], []))
  leaves pass gauge may =
      allowed shape slots id (Part.Scanner shape k steps) (Word.Value gauge) (λ n. n) (λ n. Part.Scanner shape k (ScannerStep.Left pass gauge n ∷ steps)) (λ n. (IsGaugeOf shape k gauge → (scanner_of shape k steps).began gauge ≤ n))
      (scanner_left (step slots (place_of shape (Word.Value gauge)) 0 0 none) (Part.Scanner shape k steps ∷ [], []))
      (λ s. scanner_leaving s k pass gauge) may.2 (λ n. refl)
      (λ s c e shows. (
        record {
          shape = refl;
          carried = event_carried s (Leave (Party.Scanner k) pass gauge) c (subst (λ sh. ScannerMayLeave sh k (s.scanner k) pass gauge) (sym e) (subst (λ x. ScannerMayLeave shape k x pass gauge) (sym shows.2) may));
          here = refl;
          words = words_but s (scanner_leaving s k pass gauge) (Word.Value gauge) (λ g n. refl) (λ g n. refl) (λ g n. refl) (λ p n. refl) (λ p a n. refl) (λ p a n. refl);
          mine = (shows.0, shows.1, put_here s.scanner k (scanner_leaves s.shape k (s.scanner k) pass gauge (s.value gauge)) ∙ (λ i. scanner_leaves (e i) k (shows.2 i) pass gauge (s.value gauge)));
          others = scanner_others s (scanner_leaving s k pass gauge) refl shape k _ shows.0 refl refl refl;
        },
        (λ own.
            let same : (s.scanner k).began gauge ≡ (scanner_of shape k steps).began gauge = ap (λ x. x.began gauge) shows.2 in
            let begun : s.begun gauge ≡ (s.scanner (scanner_number s.shape gauge)).began gauge = c.sound.values.own gauge (subst (λ sh. IsGauge sh gauge) (sym e) own.there) in
            let mine : (s.scanner (scanner_number s.shape gauge)).began gauge ≡ (s.scanner k).began gauge = ap (λ j. (s.scanner j).began gauge) (subst (λ sh. scanner_number sh gauge ≡ k) (sym e) own.scans) in
            omega (arith, c.sound.values.begun gauge, c.sound.values.asked gauge)),
      ))
      (λ n m is says g on.
      let met : pass_met (scanner_of shape k steps).meeting ≡ pass = met_pass (scanner_of shape k steps).meeting pass may.3.met in
      let same : gauge ≡ g = omega (arith, on) in (
        subst (λ (z : ℕ × ℕ). m ≡ (Part.Scanner shape k (ScannerStep.Left z.0 z.1 n ∷ steps) ∷ [], [])) (λ i. (sym met i, same i)) is,
        subst (λ h. IsGaugeOf shape k h → (scanner_of shape k steps).began h ≤ n) same says,
      ))

  pub wins : (pass : ℕ) (how : How) → ScannerMayWin shape k (scanner_of shape k steps) pass how
      → Allows (IsShown shape) slots id (Part.Scanner shape k steps ∷ [], []) (place_of shape (Word.Session pass)) (λ n. either (n == packed (record { generation = generation_met (scanner_of shape k steps).meeting; phase = Open })) (packed (record { generation = generation_met (scanner_of shape k steps).meeting; phase = Won how k })) n)
      (scanner_won (step slots (place_of shape (Word.Session pass)) (packed (record { generation = generation_met (scanner_of shape k steps).meeting; phase = Open })) (packed (record { generation = generation_met (scanner_of shape k steps).meeting; phase = Won how k })) none) (Part.Scanner shape k steps ∷ [], []))
  wins pass how may =
      allowed shape slots id (Part.Scanner shape k steps) (Word.Session pass) (λ n. either (n == packed (record { generation = generation_met (scanner_of shape k steps).meeting; phase = Open })) (packed (record { generation = generation_met (scanner_of shape k steps).meeting; phase = Won how k })) n) (λ n. Part.Scanner shape k (ScannerStep.Won pass how (unpacked n) ∷ steps))
      (λ n. IsSessionWord n × (generation_met (scanner_of shape k steps).meeting ≤ (unpacked n).generation))
      (scanner_won (step slots (place_of shape (Word.Session pass)) (packed (record { generation = generation_met (scanner_of shape k steps).meeting; phase = Open })) (packed (record { generation = generation_met (scanner_of shape k steps).meeting; phase = Won how k })) none) (Part.Scanner shape k steps ∷ [], []))
      (λ s. scanner_winning s k pass how) may.1 (λ n. refl)
      (λ s c e shows.
      let same : generation_met (s.scanner k).meeting ≡ generation_met (scanner_of shape k steps).meeting = ap (λ x. generation_met x.meeting) shows.2 in (
        record {
          shape = refl;
          carried = event_carried s (Win (Party.Scanner k) pass how) c (subst (λ sh. ScannerMayWin sh k (s.scanner k) pass how) (sym e) (subst (λ x. ScannerMayWin shape k x pass how) (sym shows.2) may));
          here = ap packed (put_here s.session pass (exchanged (s.session pass) (generation_met (s.scanner k).meeting) how k))
              ∙ ap (λ g. packed (exchanged (s.session pass) g how k)) same
              ∙ sym (exchange_is (s.session pass) (generation_met (scanner_of shape k steps).meeting) how k (below_256 s c pass));
          words = words_but s (scanner_winning s k pass how) (Word.Session pass) (λ g n. refl) (λ g n. refl) (λ g n. refl) (λ p n. put_else s.session pass (exchanged (s.session pass) (generation_met (s.scanner k).meeting) how k) p (λ q. n (ap Word.Session q))) (λ p a n. refl) (λ p a n. refl);
          mine = (
            shows.0,
            shows.1,
            put_here s.scanner k (scanner_wins (s.scanner k) pass how (s.session pass)) ∙ (λ i. scanner_wins (shows.2 i) pass how (sym (unpacks (s.session pass) (below_256 s c pass)) i)),
          );
          others = scanner_others s (scanner_winning s k pass how) refl shape k _ shows.0 refl refl refl;
        },
        (session_word s c pass, met_below s c k pass (scanner_of shape k steps) shows.2 may.2.met),
      ))
      (λ n m is says p way on rest.
      let same : how ≡ way = number_how how way (sym (rest_is (generation_met (scanner_of shape k steps).meeting) how k) ∙ rest) in
      let pass_same : pass ≡ p = omega (arith, on) in
      (subst (λ (z : ℕ × How). m ≡ (Part.Scanner shape k (ScannerStep.Won z.0 z.1 (unpacked n) ∷ steps) ∷ [], [])) (λ i. (pass_same i, same i)) is, says.0, says.1))
