-- A scanner that learns words and reads values.
use Rattle.std.proofs.Common.{⊎_elim, inl, inr, ◌≡◌, ◌∙◌, ℕ, ◌+◌, ◌*◌, ◌<◌, ◌≤◌, Option, Some, ap, refl, subst, sym, arith}
use Rattle.std.specs.Prelude.{IsSome}
use Rattle.std.proofs.lemmas.Bool.{cases_lt}
use Rattle.room_core.specs.declared.parts.Duty.{Duty}
use Rattle.room_core.specs.declared.parts.Meeting.{Meeting}
use Rattle.room_core.specs.Checks.{IsAllLearned, IsDuty, IsOnCheck, IsRead, scanner_reads}
use Rattle.room_core.specs.Description.{needs_of}
use Rattle.room_core.specs.Meetings.{IsMet, generation_met, scanner_learns, words_of}
use Rattle.room_core.specs.Put.{put}
use Rattle.room_core.specs.Readings.{read_only}
use Rattle.room_core.specs.State.{Scanner}
use Rattle.room_core.proofs.Laws.{put_else}
use Rattle.purgatory.specs.scans.Checked.{HasLooked, HasReadMore}
use Rattle.purgatory.specs.scans.Inspected.{AreLearnedBelow}
use Rattle.purgatory.proofs.scans.Inspecting.{reads_taken}
use Rattle.purgatory.proofs.scans.Tables.{some_here, some_more}

pub looked_same : (s : Scanner) → HasLooked s s
looked_same s = record { began = refl; listing = refl; duties = refl; meeting = refl }

pub looked_far : (a b c : Scanner) → HasLooked a b → HasLooked b c → HasLooked a c
looked_far a b c g h = record { began = h.began ∙ g.began; listing = h.listing ∙ g.listing; duties = h.duties ∙ g.duties; meeting = h.meeting ∙ g.meeting }

-- a word more
pub learns_looked : (s t : Scanner) (at word : ℕ) → t ≡ scanner_learns s at word → HasLooked s t
learns_looked s t at word e = subst (HasLooked s) (sym e) (record { began = refl; listing = refl; duties = refl; meeting = refl })

pub learned_one : (s t : Scanner) (at word : ℕ) → t ≡ scanner_learns s at word → AreLearnedBelow s at → AreLearnedBelow t (at + 1)
learned_one s t at word e a = subst (λ (x : Scanner). AreLearnedBelow x (at + 1)) (sym e) (λ i less.
    ⊎_elim
    (λ (l : i < at). some_more s.learned at word i (a i l))
    (λ (m : at ≤ i). let same : i ≡ at = omega (arith, less, m) in subst (λ j. IsSome (put s.learned at (Some word) j)) (sym same) (some_here s.learned at word))
    (cases_lt i at))

pub learned_kept : (s t : Scanner) (at word i : ℕ) → t ≡ scanner_learns s at word → i < at → words_of t i ≡ words_of s i
learned_kept s t at word i e less =
    ap (λ (x : Scanner). words_of x i) e ∙ ap (λ (o : Option ℕ). read_only (λ j. o) i) (put_else s.learned at (Some word) i (λ same. omega (arith, same, less)))

-- a value more
pub read_same : (s : Scanner) → HasReadMore s s
read_same s = record { looked = looked_same s; learned = refl; kept = λ gauge there. there }

pub read_far : (a b c : Scanner) → HasReadMore a b → HasReadMore b c → HasReadMore a c
read_far a b c g h = record {
  looked = looked_far a b c g.looked h.looked;
  learned = h.learned ∙ g.learned;
  kept = λ gauge there. h.kept gauge (g.kept gauge there);
}

reads_more : (s : Scanner) (gauge value pass : ℕ) → IsMet s.meeting pass → HasReadMore s (scanner_reads s gauge value)
reads_more s gauge value pass met = record {
  looked = record { began = refl; listing = refl; duties = refl; meeting = refl };
  learned = refl;
  kept = λ g there. subst (λ (r : ℕ → Option ℕ). IsSome (r g)) (sym (reads_taken s pass gauge value met)) (some_more s.readings gauge value g there);
}

pub read_one : (s t : Scanner) (gauge value pass : ℕ) → IsMet s.meeting pass → t ≡ scanner_reads s gauge value → HasReadMore s t
read_one s t gauge value pass met e = subst (HasReadMore s) (sym e) (reads_more s gauge value pass met)

pub is_read : (s t : Scanner) (gauge value pass last : ℕ) → IsMet s.meeting pass → t ≡ scanner_reads s gauge value → IsRead t.readings last gauge
is_read s t gauge value pass last met e =
    inl (subst (λ (x : Scanner). IsSome (x.readings gauge)) (sym e) (subst (λ (r : ℕ → Option ℕ). IsSome (r gauge)) (sym (reads_taken s pass gauge value met)) (some_here s.readings gauge value)))

pub read_kept : (a b : Scanner) (last gauge : ℕ) → HasReadMore a b → IsRead a.readings last gauge → IsRead b.readings last gauge
read_kept a b last gauge m r =
    ⊎_elim
    (λ (there : IsSome (a.readings gauge)). inl (m.kept gauge there))
    (λ (is : gauge ≡ last). inr is)
    r

-- what was learned stays learned
pub all_kept : (a b : Scanner) → b.learned ≡ a.learned → IsAllLearned a → IsAllLearned b
all_kept a b e all = record {
  few = subst (λ (l : ℕ → Option ℕ). needs_of (read_only l) ≤ 64) (sym e) all.few;
  words = subst (λ (l : ℕ → Option ℕ). (at : ℕ) → at < 3 + 3 * needs_of (read_only l) → IsSome (l at)) (sym e) all.words;
}

pub words_kept : (a b : Scanner) (i : ℕ) → b.learned ≡ a.learned → words_of b i ≡ words_of a i
words_kept a b i e = ap (λ (l : ℕ → Option ℕ). read_only l i) e

-- a check of the operation that it has met and learned
pub on_check : (a b : Scanner) (pass : ℕ) → IsMet a.meeting pass → IsDuty (a.duties pass) (generation_met a.meeting) → HasLooked a b → IsAllLearned b → IsOnCheck b pass
on_check a b pass met duty looked all = record {
  met = subst (λ (m : Option Meeting). IsMet m pass) (sym looked.meeting) met;
  duty = subst (λ (d : ℕ → Option Duty). IsDuty (d pass) (generation_met b.meeting)) (sym looked.duties) (subst (λ (m : Option Meeting). IsDuty (a.duties pass) (generation_met m)) (sym looked.meeting) duty);
  learned = all;
}
