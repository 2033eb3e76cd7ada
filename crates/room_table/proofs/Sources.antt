-- The steps of a source.
use Rattle.std.proofs.Common.{◌≡◌, ℕ, ◌≤◌, List, [], ◌∷◌, sym, refl, ap, ◌∙◌, subst, arith}
use mathlib.Core.Option.{none}
use Rattle.atomic_table.specs.Table.{step, Allows}
use Rattle.room_core.specs.declared.event.CoreEvent.TheVariants.{Store, Hush}
use Rattle.room_core.specs.declared.shape.Shape.{Shape}
use Rattle.room_core.specs.declared.word.Word.{Word}
use Rattle.room_core.specs.Gauges.{IsGauge}
use Rattle.room_core.specs.Scans.{MayStore, storing, hushing, source_hushes}
use Rattle.room_core.proofs.Laws.{event_carried, put_here, put_else}
use Rattle.room_table.specs.declared.part.Part.{Part}
use Rattle.room_table.specs.declared.part.SourceStep.{SourceStep}
use Rattle.room_table.specs.Layout.{place_of}
use Rattle.room_table.specs.Parts.{source_of}
use Rattle.room_table.specs.Shown.{IsShown}
use Rattle.room_table.specs.Tells.{stored, hushed}
use Rattle.room_table.proofs.Changes.{words_but, source_others}
use Rattle.room_table.proofs.Stepping.{allowed}

module _ (shape : Shape) (slots id gauge : ℕ) (steps : List SourceStep) where
  pub stores : (value : ℕ) → MayStore shape gauge (source_of steps) value
      → Allows (IsShown shape) slots id (Part.Source shape gauge steps ∷ [], []) (place_of shape (Word.Value gauge)) (λ _. value)
      (λ _. stored (step slots (place_of shape (Word.Value gauge)) value 0 none) (Part.Source shape gauge steps ∷ [], []) value)
  stores value may =
      allowed shape slots id (Part.Source shape gauge steps) (Word.Value gauge) (λ _. value) (λ _. Part.Source shape gauge (SourceStep.Stored value ∷ steps)) (λ _. Unit {0})
      (λ _. stored (step slots (place_of shape (Word.Value gauge)) value 0 none) (Part.Source shape gauge steps ∷ [], []) value)
      (λ s. storing s gauge value) may.0 (λ n. refl)
      (λ s c e shows. (
        record {
          shape = refl;
          carried = event_carried s (Store gauge value) c (subst (λ sh. MayStore sh gauge (s.source gauge) value) (sym e) (subst (λ x. MayStore shape gauge x value) (sym shows.2) may));
          here = put_here s.value gauge value;
          words = words_but s (storing s gauge value) (Word.Value gauge) (λ g n. put_else s.value gauge value g (λ q. n (ap Word.Value q))) (λ g n. refl) (λ g n. refl) (λ p n. refl) (λ p a n. refl) (λ p a n. refl);
          mine = (shows.0, shows.1, put_here s.source gauge (record { stored = value; loud = _ }));
          others = source_others s (storing s gauge value) refl gauge _ refl refl refl;
        },
        tt,
      ))
      (λ n m is _. is)

  pub hushes : IsGauge shape gauge
      → Allows (IsShown shape) slots id (Part.Source shape gauge steps ∷ [], []) (place_of shape (Word.Asked gauge)) (λ n. n)
      (hushed (step slots (place_of shape (Word.Asked gauge)) 0 0 none) (Part.Source shape gauge steps ∷ [], []))
  hushes there =
      allowed shape slots id (Part.Source shape gauge steps) (Word.Asked gauge) (λ n. n) (λ n. Part.Source shape gauge (SourceStep.Hushed n ∷ steps)) (λ n. n ≤ (source_of steps).stored)
      (hushed (step slots (place_of shape (Word.Asked gauge)) 0 0 none) (Part.Source shape gauge steps ∷ [], []))
      (λ s. hushing s gauge) there (λ n. refl)
      (λ s c e shows. (
        record {
          shape = refl;
          carried = event_carried s (Hush gauge) c (subst (λ sh. IsGauge sh gauge) (sym e) there);
          here = refl;
          words = words_but s (hushing s gauge) (Word.Asked gauge) (λ g n. refl) (λ g n. refl) (λ g n. refl) (λ p n. refl) (λ p a n. refl) (λ p a n. refl);
          mine = (shows.0, shows.1, put_here s.source gauge (source_hushes (s.source gauge) (s.asked gauge)) ∙ ap (λ x. source_hushes x (s.asked gauge)) shows.2);
          others = source_others s (hushing s gauge) refl gauge _ refl refl refl;
        },
        (let same : (s.source gauge).stored ≡ (source_of steps).stored = ap (λ x. x.stored) shows.2 in omega (arith, c.sound.values.asked gauge, c.sound.values.stored gauge)),
      ))
      (λ n m is says. (is, says))
