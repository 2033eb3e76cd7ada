-- The steps of a pass.
use Rattle.std.proofs.Common.{◌≡◌, ◌≢◌, ℕ, ◌+◌, ◌<◌, ◌≤◌, List, [], ◌∷◌, max, sym, refl, ap, ◌∙◌, subst, arith}
use Rattle.std.specs.Prelude.{◌==◌}
use mathlib.Core.Option.{none}
use prog.Atomic.{either}
use Rattle.atomic_table.specs.Table.{step, Allows}
use Rattle.room_core.specs.declared.event.CoreEvent.{CoreEvent}
use Rattle.room_core.specs.declared.event.CoreEvent.TheVariants.{Ask, Relieve, Describe, Marked, Read, Leave, Win, Peek}
use Rattle.room_core.specs.declared.event.How.{How}
use Rattle.room_core.specs.declared.event.Party.{Party}
use Rattle.room_core.specs.declared.parts.Phase.{Phase}
use Rattle.room_core.specs.declared.parts.Phase.TheVariants.{Open, Won}
use Rattle.room_core.specs.declared.parts.Stage.{Stage}
use Rattle.room_core.specs.declared.parts.Stage.TheVariants.{Checking}
use Rattle.room_core.specs.declared.shape.Shape.{Shape}
use Rattle.room_core.specs.declared.word.Word.{Word}
use Rattle.room_core.specs.Checks.{OwnerMayLeave, OwnerMayWin, caller_reads, caller_leaves, caller_wins, exchanged, pass_reading, pass_leaving, pass_winning}
use Rattle.room_core.specs.Gauges.{IsGauge, IsPass}
use Rattle.room_core.specs.Numbers.{description_words}
use Rattle.room_core.specs.Packing.{packed, unpacked}
use Rattle.room_core.specs.Passes.{MayDescribe, MayOpen, MaySeeMark, MayPeek, MayIdle, caller_describes, caller_opens, caller_sees_mark, caller_peeks, caller_idles, describing, opening, seeing_mark, peeking, idling}
use Rattle.room_core.specs.Scans.{MayAsk, asking, caller_asks, relieving, caller_relieves}
use Rattle.room_core.proofs.Laws.{event_carried, place_here, put_here, put_else, unpacks}
use Rattle.room_table.specs.declared.part.Part.{Part}
use Rattle.room_table.specs.declared.part.CallerStep.{CallerStep}
use Rattle.room_table.specs.Layout.{place_of}
use Rattle.room_table.specs.Parts.{caller_of}
use Rattle.room_table.specs.Shown.{IsShown}
use Rattle.room_table.specs.Tells.{IsOwnWord, asked, relieved, described, recalled, opened, saw_mark, caller_read, caller_left, caller_won, peeked_own, idled}
use Rattle.room_table.proofs.Changes.{words_but, caller_others, place_else}
use Rattle.room_table.proofs.Exchanges.{below_256, own_word, exchange_is, number_how, rest_is}
use Rattle.room_table.proofs.Stepping.{allowed}

abbrev CanBeRelieved : Shape → ℕ → ℕ → Type 0
CanBeRelieved shape pass gauge = IsPass shape pass × IsGauge shape gauge

abbrev CanBeRead : Shape → ℕ → ℕ → Type 0
CanBeRead shape pass gauge = IsPass shape pass × IsGauge shape gauge

module _ (shape : Shape) (slots id pass : ℕ) (steps : List CallerStep) where
  pub asks : (gauge value : ℕ) → MayAsk shape pass (caller_of shape pass steps) gauge value
      → Allows (IsShown shape) slots id (Part.Caller shape pass steps ∷ [], []) (place_of shape (Word.Asked gauge)) (λ n. max n value)
      (asked (step slots (place_of shape (Word.Asked gauge)) value 0 none) (Part.Caller shape pass steps ∷ [], []))
  asks gauge value may =
      allowed shape slots id (Part.Caller shape pass steps) (Word.Asked gauge) (λ n. max n value) (λ n. Part.Caller shape pass (CallerStep.Asked gauge value ∷ steps)) (λ n. Unit {0})
      (asked (step slots (place_of shape (Word.Asked gauge)) value 0 none) (Part.Caller shape pass steps ∷ [], []))
      (λ s. asking s pass gauge value) may.1 (λ n. refl)
      (λ s c e shows. (
        record {
          shape = refl;
          carried = event_carried s (Ask pass gauge value) c (subst (λ sh. MayAsk sh pass (s.caller pass) gauge value) (sym e) (subst (λ x. MayAsk shape pass x gauge value) (sym shows.2) may));
          here = put_here s.asked gauge (max (s.asked gauge) value);
          words = words_but s (asking s pass gauge value) (Word.Asked gauge) (λ g n. refl) (λ g n. put_else s.asked gauge (max (s.asked gauge) value) g (λ q. n (ap Word.Asked q))) (λ g n. refl) (λ p n. refl) (λ p a n. refl) (λ p a n. refl);
          mine = (shows.0, shows.1, put_here s.caller pass (caller_asks (s.caller pass) gauge value) ∙ ap (λ x. caller_asks x gauge value) shows.2);
          others = caller_others s (asking s pass gauge value) refl shape pass _ shows.0 refl refl refl;
        },
        tt,
      ))
      (λ n m is _ g on.
      let same : gauge ≡ g = omega (arith, on) in
      subst (λ h. m ≡ (Part.Caller shape pass (CallerStep.Asked h value ∷ steps) ∷ [], [])) same is)

  pub relieves : (gauge : ℕ) → CanBeRelieved shape pass gauge
      → Allows (IsShown shape) slots id (Part.Caller shape pass steps ∷ [], []) (place_of shape (Word.Begun gauge)) (λ n. n)
      (relieved (step slots (place_of shape (Word.Begun gauge)) 0 0 none) (Part.Caller shape pass steps ∷ [], []))
  relieves gauge may =
      allowed shape slots id (Part.Caller shape pass steps) (Word.Begun gauge) (λ n. n) (λ n. Part.Caller shape pass (CallerStep.Relieved gauge n ∷ steps)) (λ n. Unit {0})
      (relieved (step slots (place_of shape (Word.Begun gauge)) 0 0 none) (Part.Caller shape pass steps ∷ [], []))
      (λ s. relieving s pass gauge) may.1 (λ n. refl)
      (λ s c e shows. (
        record {
          shape = refl;
          carried = event_carried s (Relieve pass gauge) c (subst (λ sh. CanBeRelieved sh pass gauge) (sym e) (subst (λ x. CanBeRelieved shape pass gauge) (sym shows.2) may));
          here = refl;
          words = words_but s (relieving s pass gauge) (Word.Begun gauge) (λ g n. refl) (λ g n. refl) (λ g n. refl) (λ p n. refl) (λ p a n. refl) (λ p a n. refl);
          mine = (shows.0, shows.1, put_here s.caller pass (caller_relieves (s.caller pass) gauge (s.begun gauge)) ∙ ap (λ x. caller_relieves x gauge (s.begun gauge)) shows.2);
          others = caller_others s (relieving s pass gauge) refl shape pass _ shows.0 refl refl refl;
        },
        tt,
      ))
      (λ n m is _ g on.
      let same : gauge ≡ g = omega (arith, on) in
      subst (λ h. m ≡ (Part.Caller shape pass (CallerStep.Relieved h n ∷ steps) ∷ [], [])) same is)

  pub describes : (at word : ℕ) → MayDescribe shape pass (caller_of shape pass steps) at
      → Allows (IsShown shape) slots id (Part.Caller shape pass steps ∷ [], []) (place_of shape (Word.Description pass at)) (λ _. word)
      (λ _. described (step slots (place_of shape (Word.Description pass at)) word 0 none) (Part.Caller shape pass steps ∷ [], []) word)
  describes at word may =
      allowed shape slots id (Part.Caller shape pass steps) (Word.Description pass at) (λ _. word) (λ n. Part.Caller shape pass (CallerStep.Described at word ∷ steps)) (λ n. Unit {0})
      (λ _. described (step slots (place_of shape (Word.Description pass at)) word 0 none) (Part.Caller shape pass steps ∷ [], []) word)
      (λ s. describing s pass at word) (may.0, may.1) (λ n. refl)
      (λ s c e shows. (
        record {
          shape = refl;
          carried = event_carried s (Describe pass at word) c (subst (λ sh. MayDescribe sh pass (s.caller pass) at) (sym e) (subst (λ x. MayDescribe shape pass x at) (sym shows.2) may));
          here = place_here s.description pass at word;
          words = words_but s (describing s pass at word) (Word.Description pass at) (λ g n. refl) (λ g n. refl) (λ g n. refl) (λ p n. refl) (λ p a n. place_else s.description pass at word p a (λ q r. n (λ i. Word.Description (q i) (r i)))) (λ p a n. refl);
          mine = (shows.0, shows.1, put_here s.caller pass (caller_describes (s.caller pass) at word) ∙ ap (λ x. caller_describes x at word) shows.2);
          others = caller_others s (describing s pass at word) refl shape pass _ shows.0 refl refl refl;
        },
        tt,
      ))
      (λ n m is _ to on.
      let same : at ≡ to = omega (arith, on) in
      subst (λ h. m ≡ (Part.Caller shape pass (CallerStep.Described h word ∷ steps) ∷ [], [])) same is)

  pub recalls : (at : ℕ) → IsPass shape pass × (at < description_words)
      → Allows (IsShown shape) slots id (Part.Caller shape pass steps ∷ [], []) (place_of shape (Word.Description pass at)) (λ n. n)
      (recalled (step slots (place_of shape (Word.Description pass at)) 0 0 none) (Part.Caller shape pass steps ∷ [], []))
  recalls at may =
      allowed shape slots id (Part.Caller shape pass steps) (Word.Description pass at) (λ n. n) (λ n. Part.Caller shape pass steps) (λ n. n ≡ (caller_of shape pass steps).description at)
      (recalled (step slots (place_of shape (Word.Description pass at)) 0 0 none) (Part.Caller shape pass steps ∷ [], []))
      (λ s. s) may (λ n. refl)
      (λ s c e shows. (
        record { shape = refl; carried = c; here = refl; words = λ x n. refl; mine = shows; others = λ q n there. there },
        c.sound.owners.description pass at ∙ ap (λ x. x.description at) shows.2,
      ))
      (λ n m is says to on.
      let same : at ≡ to = omega (arith, on) in
      (is, subst (λ h. n ≡ (caller_of shape pass steps).description h) same says))

  pub opens : MayOpen shape pass (caller_of shape pass steps)
      → Allows (IsShown shape) slots id (Part.Caller shape pass steps ∷ [], []) (place_of shape (Word.Session pass)) (λ _. packed (record { generation = (caller_of shape pass steps).generation + 1; phase = Open }))
      (λ _. opened (step slots (place_of shape (Word.Session pass)) (packed (record { generation = (caller_of shape pass steps).generation + 1; phase = Open })) 0 none) (Part.Caller shape pass steps ∷ [], []) (packed (record { generation = (caller_of shape pass steps).generation + 1; phase = Open })))
  opens may =
      allowed shape slots id (Part.Caller shape pass steps) (Word.Session pass) (λ _. packed (record { generation = (caller_of shape pass steps).generation + 1; phase = Open })) (λ n. Part.Caller shape pass (CallerStep.Opened ∷ steps)) (λ n. Unit {0})
      (λ _. opened (step slots (place_of shape (Word.Session pass)) (packed (record { generation = (caller_of shape pass steps).generation + 1; phase = Open })) 0 none) (Part.Caller shape pass steps ∷ [], []) (packed (record { generation = (caller_of shape pass steps).generation + 1; phase = Open })))
      (λ s. opening s pass) may.0 (λ n. refl)
      (λ s c e shows. (
        record {
          shape = refl;
          carried = event_carried s (CoreEvent.Open pass) c (subst (λ sh. MayOpen sh pass (s.caller pass)) (sym e) (subst (λ x. MayOpen shape pass x) (sym shows.2) may));
          here = ap packed (put_here s.session pass (record { generation = (s.caller pass).generation + 1; phase = Open })) ∙ ap (λ x. packed (record { generation = x.generation + 1; phase = Open })) shows.2;
          words = words_but s (opening s pass) (Word.Session pass) (λ g n. refl) (λ g n. refl) (λ g n. refl) (λ p n. put_else s.session pass (record { generation = (s.caller pass).generation + 1; phase = Open }) p (λ q. n (ap Word.Session q))) (λ p a n. refl) (λ p a n. refl);
          mine = (shows.0, shows.1, put_here s.caller pass (caller_opens (s.caller pass)) ∙ ap caller_opens shows.2);
          others = caller_others s (opening s pass) refl shape pass _ shows.0 refl refl refl;
        },
        tt,
      ))
      (λ n m is _. is)

  pub sees_mark : (at : ℕ) → MaySeeMark shape pass (caller_of shape pass steps) at
      → Allows (IsShown shape) slots id (Part.Caller shape pass steps ∷ [], []) (place_of shape (Word.Mark pass at)) (λ n. n)
      (saw_mark (step slots (place_of shape (Word.Mark pass at)) 0 0 none) (Part.Caller shape pass steps ∷ [], []))
  sees_mark at may =
      allowed shape slots id (Part.Caller shape pass steps) (Word.Mark pass at) (λ n. n) (λ n. Part.Caller shape pass (CallerStep.SawMark at n ∷ steps)) (λ n. n ≤ (caller_of shape pass steps).generation)
      (saw_mark (step slots (place_of shape (Word.Mark pass at)) 0 0 none) (Part.Caller shape pass steps ∷ [], []))
      (λ s. seeing_mark s pass at) (may.0, omega (arith, may.1)) (λ n. refl)
      (λ s c e shows. (
        record {
          shape = refl;
          carried = event_carried s (Marked pass at) c (subst (λ sh. MaySeeMark sh pass (s.caller pass) at) (sym e) (subst (λ x. MaySeeMark shape pass x at) (sym shows.2) may));
          here = refl;
          words = words_but s (seeing_mark s pass at) (Word.Mark pass at) (λ g n. refl) (λ g n. refl) (λ g n. refl) (λ p n. refl) (λ p a n. refl) (λ p a n. refl);
          mine = (shows.0, shows.1, put_here s.caller pass (caller_sees_mark (s.caller pass) at (s.marks pass at)) ∙ ap (λ x. caller_sees_mark x at (s.marks pass at)) shows.2);
          others = caller_others s (seeing_mark s pass at) refl shape pass _ shows.0 refl refl refl;
        },
        (let same : (s.caller pass).generation ≡ (caller_of shape pass steps).generation = ap (λ x. x.generation) shows.2 in omega (arith, c.sound.generations.mark pass at, c.sound.owners.generation pass)),
      ))
      (λ n m is says to on.
      let same : at ≡ to = omega (arith, on) in
      (subst (λ h. m ≡ (Part.Caller shape pass (CallerStep.SawMark h n ∷ steps) ∷ [], [])) same is, says))

  pub reads : (gauge : ℕ) → CanBeRead shape pass gauge
      → Allows (IsShown shape) slots id (Part.Caller shape pass steps ∷ [], []) (place_of shape (Word.Value gauge)) (λ n. n)
      (caller_read (step slots (place_of shape (Word.Value gauge)) 0 0 none) (Part.Caller shape pass steps ∷ [], []))
  reads gauge may =
      allowed shape slots id (Part.Caller shape pass steps) (Word.Value gauge) (λ n. n) (λ n. Part.Caller shape pass (CallerStep.Read gauge n ∷ steps)) (λ n. ((caller_of shape pass steps).greatest gauge ≤ n) × ((caller_of shape pass steps).owed gauge ≤ n))
      (caller_read (step slots (place_of shape (Word.Value gauge)) 0 0 none) (Part.Caller shape pass steps ∷ [], []))
      (λ s. pass_reading s pass gauge) may.1 (λ n. refl)
      (λ s c e shows. (
        record {
          shape = refl;
          carried = event_carried s (Read (Party.Pass pass) gauge) c (subst (λ sh. CanBeRead sh pass gauge) (sym e) (subst (λ x. CanBeRead shape pass gauge) (sym shows.2) may));
          here = refl;
          words = words_but s (pass_reading s pass gauge) (Word.Value gauge) (λ g n. refl) (λ g n. refl) (λ g n. refl) (λ p n. refl) (λ p a n. refl) (λ p a n. refl);
          mine = (shows.0, shows.1, put_here s.caller pass (caller_reads (s.caller pass) gauge (s.value gauge)) ∙ ap (λ x. caller_reads x gauge (s.value gauge)) shows.2);
          others = caller_others s (pass_reading s pass gauge) refl shape pass _ shows.0 refl refl refl;
        },
        (
          (let same : (s.caller pass).greatest gauge ≡ (caller_of shape pass steps).greatest gauge = ap (λ x. x.greatest gauge) shows.2 in omega (arith, c.sound.readings.greatest pass gauge)),
          (let same : (s.caller pass).owed gauge ≡ (caller_of shape pass steps).owed gauge = ap (λ x. x.owed gauge) shows.2 in omega (arith, c.sound.debts.owed pass gauge, c.sound.values.asked gauge)),
        ),
      ))
      (λ n m is says g on.
      let same : gauge ≡ g = omega (arith, on) in (
        subst (λ h. m ≡ (Part.Caller shape pass (CallerStep.Read h n ∷ steps) ∷ [], [])) same is,
        subst (λ h. (caller_of shape pass steps).greatest h ≤ n) same says.0,
        subst (λ h. (caller_of shape pass steps).owed h ≤ n) same says.1,
      ))

  pub leaves : (gauge : ℕ) → OwnerMayLeave shape pass (caller_of shape pass steps) gauge
      → Allows (IsShown shape) slots id (Part.Caller shape pass steps ∷ [], []) (place_of shape (Word.Value gauge)) (λ n. n)
      (caller_left (step slots (place_of shape (Word.Value gauge)) 0 0 none) (Part.Caller shape pass steps ∷ [], []))
  leaves gauge may =
      allowed shape slots id (Part.Caller shape pass steps) (Word.Value gauge) (λ n. n) (λ n. Part.Caller shape pass (CallerStep.Left gauge n ∷ steps)) (λ n. ((caller_of shape pass steps).greatest gauge ≤ n) × ((caller_of shape pass steps).owed gauge ≤ n))
      (caller_left (step slots (place_of shape (Word.Value gauge)) 0 0 none) (Part.Caller shape pass steps ∷ [], []))
      (λ s. pass_leaving s pass gauge) may.1 (λ n. refl)
      (λ s c e shows. (
        record {
          shape = refl;
          carried = event_carried s (Leave (Party.Pass pass) pass gauge) c (refl, subst (λ sh. OwnerMayLeave sh pass (s.caller pass) gauge) (sym e) (subst (λ x. OwnerMayLeave shape pass x gauge) (sym shows.2) may));
          here = refl;
          words = words_but s (pass_leaving s pass gauge) (Word.Value gauge) (λ g n. refl) (λ g n. refl) (λ g n. refl) (λ p n. refl) (λ p a n. refl) (λ p a n. refl);
          mine = (shows.0, shows.1, put_here s.caller pass (caller_leaves s.shape (s.caller pass) gauge (s.value gauge)) ∙ (λ i. caller_leaves (e i) (shows.2 i) gauge (s.value gauge)));
          others = caller_others s (pass_leaving s pass gauge) refl shape pass _ shows.0 refl refl refl;
        },
        (
          (let same : (s.caller pass).greatest gauge ≡ (caller_of shape pass steps).greatest gauge = ap (λ x. x.greatest gauge) shows.2 in omega (arith, c.sound.readings.greatest pass gauge)),
          (let same : (s.caller pass).owed gauge ≡ (caller_of shape pass steps).owed gauge = ap (λ x. x.owed gauge) shows.2 in omega (arith, c.sound.debts.owed pass gauge, c.sound.values.asked gauge)),
        ),
      ))
      (λ n m is says g on.
      let same : gauge ≡ g = omega (arith, on) in (
        subst (λ h. m ≡ (Part.Caller shape pass (CallerStep.Left h n ∷ steps) ∷ [], [])) same is,
        subst (λ h. (caller_of shape pass steps).greatest h ≤ n) same says.0,
        subst (λ h. (caller_of shape pass steps).owed h ≤ n) same says.1,
      ))

  pub wins : (how : How) → OwnerMayWin shape pass (caller_of shape pass steps) how
      → Allows (IsShown shape) slots id (Part.Caller shape pass steps ∷ [], []) (place_of shape (Word.Session pass)) (λ n. either (n == packed (record { generation = (caller_of shape pass steps).generation; phase = Open })) (packed (record { generation = (caller_of shape pass steps).generation; phase = Won how (17 + pass) })) n)
      (caller_won (step slots (place_of shape (Word.Session pass)) (packed (record { generation = (caller_of shape pass steps).generation; phase = Open })) (packed (record { generation = (caller_of shape pass steps).generation; phase = Won how (17 + pass) })) none) (Part.Caller shape pass steps ∷ [], []))
  wins how may =
      allowed shape slots id (Part.Caller shape pass steps) (Word.Session pass) (λ n. either (n == packed (record { generation = (caller_of shape pass steps).generation; phase = Open })) (packed (record { generation = (caller_of shape pass steps).generation; phase = Won how (17 + pass) })) n) (λ n. Part.Caller shape pass (CallerStep.Won how (unpacked n) ∷ steps)) (λ n. IsOwnWord (caller_of shape pass steps) n)
      (caller_won (step slots (place_of shape (Word.Session pass)) (packed (record { generation = (caller_of shape pass steps).generation; phase = Open })) (packed (record { generation = (caller_of shape pass steps).generation; phase = Won how (17 + pass) })) none) (Part.Caller shape pass steps ∷ [], []))
      (λ s. pass_winning s pass how) may.0 (λ n. refl)
      (λ s c e shows.
      let same : (s.caller pass).generation ≡ (caller_of shape pass steps).generation = ap (λ x. x.generation) shows.2 in
      let busy : (s.caller pass).stage ≢ Stage.Idle = λ idle. let is : (caller_of shape pass steps).stage ≡ Checking = may.1 in let was : (s.caller pass).stage ≡ (caller_of shape pass steps).stage = ap (λ x. x.stage) shows.2 in cc in (
        record {
          shape = refl;
          carried = event_carried s (Win (Party.Pass pass) pass how) c (refl, subst (λ sh. OwnerMayWin sh pass (s.caller pass) how) (sym e) (subst (λ x. OwnerMayWin shape pass x how) (sym shows.2) may));
          here = ap packed (put_here s.session pass (exchanged (s.session pass) (s.caller pass).generation how (17 + pass)))
              ∙ ap (λ g. packed (exchanged (s.session pass) g how (17 + pass))) same
              ∙ sym (exchange_is (s.session pass) (caller_of shape pass steps).generation how (17 + pass) (below_256 s c pass));
          words = words_but s (pass_winning s pass how) (Word.Session pass) (λ g n. refl) (λ g n. refl) (λ g n. refl) (λ p n. put_else s.session pass (exchanged (s.session pass) (s.caller pass).generation how (17 + pass)) p (λ q. n (ap Word.Session q))) (λ p a n. refl) (λ p a n. refl);
          mine = (
            shows.0,
            shows.1,
            put_here s.caller pass (caller_wins (s.caller pass) pass how (s.session pass)) ∙ (λ i. caller_wins (shows.2 i) pass how (sym (unpacks (s.session pass) (below_256 s c pass)) i)),
          );
          others = caller_others s (pass_winning s pass how) refl shape pass _ shows.0 refl refl refl;
        },
        own_word s c pass (caller_of shape pass steps) shows.2 busy,
      ))
      (λ n m is says way rest.
      let same : how ≡ way = number_how how way (sym (rest_is (caller_of shape pass steps).generation how (17 + pass)) ∙ rest) in
      (subst (λ h. m ≡ (Part.Caller shape pass (CallerStep.Won h (unpacked n) ∷ steps) ∷ [], [])) same is, says))

  pub peeks : MayPeek shape pass (caller_of shape pass steps)
      → Allows (IsShown shape) slots id (Part.Caller shape pass steps ∷ [], []) (place_of shape (Word.Session pass)) (λ n. n)
      (peeked_own (step slots (place_of shape (Word.Session pass)) 0 0 none) (Part.Caller shape pass steps ∷ [], []))
  peeks may =
      allowed shape slots id (Part.Caller shape pass steps) (Word.Session pass) (λ n. n) (λ n. Part.Caller shape pass (CallerStep.Peeked (unpacked n) ∷ steps)) (λ n. IsOwnWord (caller_of shape pass steps) n)
      (peeked_own (step slots (place_of shape (Word.Session pass)) 0 0 none) (Part.Caller shape pass steps ∷ [], []))
      (λ s. peeking s pass) may.0 (λ n. refl)
      (λ s c e shows. (
        record {
          shape = refl;
          carried = event_carried s (Peek pass) c (subst (λ sh. MayPeek sh pass (s.caller pass)) (sym e) (subst (λ x. MayPeek shape pass x) (sym shows.2) may));
          here = refl;
          words = words_but s (peeking s pass) (Word.Session pass) (λ g n. refl) (λ g n. refl) (λ g n. refl) (λ p n. refl) (λ p a n. refl) (λ p a n. refl);
          mine = (
            shows.0,
            shows.1,
            put_here s.caller pass (caller_peeks (s.caller pass) (s.session pass).phase) ∙ (λ i. caller_peeks (shows.2 i) (sym (unpacks (s.session pass) (below_256 s c pass)) i).phase),
          );
          others = caller_others s (peeking s pass) refl shape pass _ shows.0 refl refl refl;
        },
        own_word s c pass (caller_of shape pass steps) shows.2 (λ idle. may.1 (sym (ap (λ x. x.stage) shows.2) ∙ idle)),
      ))
      (λ n m is says. (is, says))

  pub idles : MayIdle shape pass (caller_of shape pass steps)
      → Allows (IsShown shape) slots id (Part.Caller shape pass steps ∷ [], []) (place_of shape (Word.Session pass)) (λ _. packed (record { generation = (caller_of shape pass steps).generation; phase = Phase.Idle }))
      (λ _. idled (step slots (place_of shape (Word.Session pass)) (packed (record { generation = (caller_of shape pass steps).generation; phase = Phase.Idle })) 0 none) (Part.Caller shape pass steps ∷ [], []) (packed (record { generation = (caller_of shape pass steps).generation; phase = Phase.Idle })))
  idles may =
      allowed shape slots id (Part.Caller shape pass steps) (Word.Session pass) (λ _. packed (record { generation = (caller_of shape pass steps).generation; phase = Phase.Idle })) (λ n. Part.Caller shape pass (CallerStep.Idled ∷ steps)) (λ n. Unit {0})
      (λ _. idled (step slots (place_of shape (Word.Session pass)) (packed (record { generation = (caller_of shape pass steps).generation; phase = Phase.Idle })) 0 none) (Part.Caller shape pass steps ∷ [], []) (packed (record { generation = (caller_of shape pass steps).generation; phase = Phase.Idle })))
      (λ s. idling s pass) may.0 (λ n. refl)
      (λ s c e shows. (
        record {
          shape = refl;
          carried = event_carried s (CoreEvent.Idle pass) c (subst (λ sh. MayIdle sh pass (s.caller pass)) (sym e) (subst (λ x. MayIdle shape pass x) (sym shows.2) may));
          here = ap packed (put_here s.session pass (record { generation = (s.caller pass).generation; phase = Phase.Idle })) ∙ ap (λ x. packed (record { generation = x.generation; phase = Phase.Idle })) shows.2;
          words = words_but s (idling s pass) (Word.Session pass) (λ g n. refl) (λ g n. refl) (λ g n. refl) (λ p n. put_else s.session pass (record { generation = (s.caller pass).generation; phase = Phase.Idle }) p (λ q. n (ap Word.Session q))) (λ p a n. refl) (λ p a n. refl);
          mine = (shows.0, shows.1, put_here s.caller pass (caller_idles (s.caller pass)) ∙ ap caller_idles shows.2);
          others = caller_others s (idling s pass) refl shape pass _ shows.0 refl refl refl;
        },
        tt,
      ))
      (λ n m is _. is)
