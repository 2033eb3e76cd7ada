-- What an event of the room's machine changes: one word, and one part.
use Rattle.std.proofs.Common.{⊎_elim, ◌≡◌, ◌≢◌, ℕ, ◌+◌, sym, ap, subst, ◌∙◌}
use Rattle.std.proofs.lemmas.Bool.{cases_eq}
use Rattle.room_core.specs.declared.parts.Source.{Source}
use Rattle.room_core.specs.declared.shape.Shape.{Shape}
use Rattle.room_core.specs.declared.word.Word.{Word}
use Rattle.room_core.specs.Carried.{IsCarried}
use Rattle.room_core.specs.Packing.{packed}
use Rattle.room_core.specs.Put.{put}
use Rattle.room_core.specs.State.{State, Caller, Scanner}
use Rattle.room_core.specs.Words.{word_at}
use Rattle.room_core.proofs.Laws.{put_here, put_else}
pub use Rattle.room_core.proofs.Laws.{place_here}
use Rattle.room_table.specs.declared.part.Part.{Part}
use Rattle.room_table.specs.Shown.{Shows, number_of}

pub record Changes (old new : State) (word : Word) (n : ℕ) (part : Part) : Type 0 where
  pub shape : new.shape ≡ old.shape
  pub carried : IsCarried new
  pub here : word_at new word ≡ n
  pub words : (x : Word) → x ≢ word → word_at new x ≡ word_at old x
  pub mine : Shows new part
  pub others : (q : Part) → number_of q ≢ number_of part → Shows old q → Shows new q

-- all words but one are as before, where the tables are
pub words_but : (old new : State) (word : Word)
    → ((g : ℕ) → Word.Value g ≢ word → new.value g ≡ old.value g)
    → ((g : ℕ) → Word.Asked g ≢ word → new.asked g ≡ old.asked g)
    → ((g : ℕ) → Word.Begun g ≢ word → new.begun g ≡ old.begun g)
    → ((p : ℕ) → Word.Session p ≢ word → new.session p ≡ old.session p)
    → ((p at : ℕ) → Word.Description p at ≢ word → new.description p at ≡ old.description p at)
    → ((p at : ℕ) → Word.Mark p at ≢ word → new.marks p at ≡ old.marks p at)
    → (x : Word) → x ≢ word → word_at new x ≡ word_at old x
words_but old new word value asked begun session description marks (Word.Value g) n = value g n
words_but old new word value asked begun session description marks (Word.Asked g) n = asked g n
words_but old new word value asked begun session description marks (Word.Begun g) n = begun g n
words_but old new word value asked begun session description marks (Word.Session p) n = ap packed (session p n)
words_but old new word value asked begun session description marks (Word.Description p at) n = description p at n
words_but old new word value asked begun session description marks (Word.Mark p at) n = marks p at n

-- a place of a table of tables that isn't the one written
pub place_else : {A : Type 0} (f : ℕ → ℕ → A) (i p : ℕ) (x : A) (j q : ℕ) → (j ≡ i → q ≡ p → ⊥) → put f i (put (f i) p x) j q ≡ f j q
place_else f i p x j q n =
    ⊎_elim
    (λ (e : j ≡ i). subst (λ k. put f i (put (f i) p x) k q ≡ f k q) (sym e) (ap (λ row. row q) (put_here f i (put (f i) p x)) ∙ put_else (f i) p x q (n e)))
    (λ (m : j ≢ i). ap (λ row. row q) (put_else f i (put (f i) p x) j m))
    (cases_eq j i)

module _ (old new : State) (shape : new.shape ≡ old.shape) where
  -- where one source changes
  pub source_others : (g : ℕ) (x : Source) → new.source ≡ put old.source g x → new.caller ≡ old.caller → new.scanner ≡ old.scanner
      → (q : Part) → number_of q ≢ g → Shows old q → Shows new q
  source_others g x source caller scanner (Part.Source s h steps) n shows =
      (shows.0 ∙ sym shape, shows.1, ap (λ f. f h) source ∙ put_else old.source g x h n ∙ shows.2)
  source_others g x source caller scanner (Part.Caller s p steps) n shows = (shows.0 ∙ sym shape, shows.1, ap (λ f. f p) caller ∙ shows.2)
  source_others g x source caller scanner (Part.Scanner s k steps) n shows = (shows.0 ∙ sym shape, shows.1, ap (λ f. f k) scanner ∙ shows.2)

  -- where one caller does
  pub caller_others : (own : Shape) (p : ℕ) (x : Caller) → own ≡ old.shape → new.source ≡ old.source → new.caller ≡ put old.caller p x → new.scanner ≡ old.scanner
      → (q : Part) → number_of q ≢ own.gauges + p → Shows old q → Shows new q
  caller_others own p x is source caller scanner (Part.Source s h steps) n shows = (shows.0 ∙ sym shape, shows.1, ap (λ f. f h) source ∙ shows.2)
  caller_others own p x is source caller scanner (Part.Caller s q steps) n shows =
      (shows.0 ∙ sym shape, shows.1, ap (λ f. f q) caller ∙ put_else old.caller p x q (λ e. n (λ i. ((shows.0 ∙ sym is) i).gauges + e i)) ∙ shows.2)
  caller_others own p x is source caller scanner (Part.Scanner s k steps) n shows = (shows.0 ∙ sym shape, shows.1, ap (λ f. f k) scanner ∙ shows.2)

  -- where one scanner does
  pub scanner_others : (own : Shape) (k : ℕ) (x : Scanner) → own ≡ old.shape → new.source ≡ old.source → new.caller ≡ old.caller → new.scanner ≡ put old.scanner k x
      → (q : Part) → number_of q ≢ own.gauges + own.passes + k → Shows old q → Shows new q
  scanner_others own k x is source caller scanner (Part.Source s h steps) n shows = (shows.0 ∙ sym shape, shows.1, ap (λ f. f h) source ∙ shows.2)
  scanner_others own k x is source caller scanner (Part.Caller s p steps) n shows = (shows.0 ∙ sym shape, shows.1, ap (λ f. f p) caller ∙ shows.2)
  scanner_others own k x is source caller scanner (Part.Scanner s j steps) n shows =
      (shows.0 ∙ sym shape, shows.1, ap (λ f. f j) scanner ∙ put_else old.scanner k x j (λ e. n (λ i. ((shows.0 ∙ sym is) i).gauges + ((shows.0 ∙ sym is) i).passes + e i)) ∙ shows.2)
