-- Entries of a pass that are dropped row by row.
use Rattle.std.proofs.Common.{⊎_elim, ◌≡◌, ◌≢◌, ℕ, ◌+◌, ◌<◌, ◌≤◌, List, Vec, Option, Some, None, length, get_or, set, arith, sym, ap, refl, subst, ◌∙◌}
use Rattle.std.specs.Prelude.{slice_get}
use Rattle.std.specs.declared.alloc.Global.{Global}
use Rattle.std.proofs.lemmas.Bool.{cases_eq, cases_lt}
use Rattle.std.proofs.lemmas.Option.{slice_get_past}
use Rattle.room_core.specs.declared.parts.Entry.{Entry}
use Rattle.room_core.specs.declared.parts.Session.{Session}
use Rattle.room_core.specs.CallerTables.{table}
use Rattle.room_core.specs.Checks.{other_entry}
use Rattle.room_core.specs.Meetings.{live_entry}
use Rattle.room_core.specs.Put.{put}
use Rattle.room_core.specs.ScannerTables.{row}
use Rattle.room_core.proofs.Puts.{put-same, put-other}
use Rattle.room_core.proofs.ScanPlaces.{here_at}
use Rattle.room_core.proofs.Views.{got_set, got_other}

-- a row, without its pass's entry if that is dead
abbrev pub kept : Session → ℕ → Option (Vec (Option Entry) Global) → ℕ → Option Entry
kept session pass r j = put (row r None) pass (live_entry session (row r None pass)) j

-- the rows below i are done, and the others are as they were
pub record Dropped (session : Session) (pass i : ℕ) (old new : List (Vec (Option Entry) Global)) : Type 0 where
  pub done : (g j : ℕ) → g < i → row (slice_get new g) None j ≡ kept session pass (slice_get old g) j
  pub rest : (g : ℕ) → i ≤ g → slice_get new g ≡ slice_get old g

pub dropped_none : (session : Session) (pass : ℕ) (xs : List (Vec (Option Entry) Global)) → Dropped session pass 0 xs xs
dropped_none session pass xs = record { done = λ g j l. absurd (omega (arith, l)); rest = λ g l. refl }

pub dropped_more : (session : Session) (pass i : ℕ) (old new : List (Vec (Option Entry) Global)) (was x : Vec (Option Entry) Global)
    → Dropped session pass i old new → i < length new → was ≡ get_or new i was
    → table x.items None ≡ put (table was.items None) pass (live_entry session (table was.items None pass))
    → Dropped session pass (i + 1) old (set new i x)
dropped_more session pass i old new was x so l e row_kept =
    let there : Some was ≡ slice_get old i = sym (here_at new i was l e) ∙ so.rest i (omega arith) in
    let at_i : (j : ℕ) → row (slice_get (set new i x) i) None j ≡ kept session pass (slice_get old i) j =
    λ j. ap (λ o. row o None j) (got_set new i x l) ∙ ap (λ (f : ℕ → Option Entry). f j) row_kept ∙ ap (λ o. kept session pass o j) there in
    record {
      done = λ g j m.
          ⊎_elim
          (λ (same : g ≡ i). subst (λ k. row (slice_get (set new i x) k) None j ≡ kept session pass (slice_get old k) j) (sym same) (at_i j))
          (λ (n : g ≢ i). ap (λ o. row o None j) (got_other new i g x n) ∙ so.done g j (omega (arith, m, n)))
          (cases_eq g i);
      rest = λ g m. got_other new i g x (omega (arith, m)) ∙ so.rest g (omega (arith, m));
    }

abbrev nothing : ℕ → Option Entry
nothing k = None

put_none : (i j : ℕ) → nothing j ≡ put nothing i None j
put_none i j =
    ⊎_elim
    (λ (e : j ≡ i). subst (λ k. nothing j ≡ put nothing i None k) (sym e) (sym (put-same nothing i None)))
    (λ (n : j ≢ i). sym (put-other nothing i None j n))
    (cases_eq j i)

kept_none : (session : Session) (pass j : ℕ) → None ≡ kept session pass None j
unfolding live_entry
kept_none session pass j = put_none pass j

pub dropped_all : (session : Session) (pass n : ℕ) (old new : List (Vec (Option Entry) Global)) → Dropped session pass n old new → length old ≤ n
    → (g j : ℕ) → row (slice_get new g) None j ≡ kept session pass (slice_get old g) j
dropped_all session pass n old new so l g j =
    ⊎_elim
    (λ (m : g < n). so.done g j m)
    (λ (m : n ≤ g).
    let past : slice_get old g ≡ None = slice_get_past old g (omega (arith, l, m)) in
    ap (λ o. row o None j) (so.rest g m ∙ past) ∙ kept_none session pass j ∙ ap (λ o. kept session pass o j) (sym past))
    (cases_lt g n)

-- past the rows nothing is listed, and nothing is dropped
same_past : (r : Option (Vec (Option Entry) Global)) (p generation : ℕ) → r ≡ None → (j : ℕ) → row r None j ≡ put (row r None) p (other_entry (row r None p) generation) j
unfolding other_entry
same_past r p generation e j = subst (λ o. row o None j ≡ put (row o None) p (other_entry (row o None p) generation) j) (sym e) (put_none p j)

past_at : (xs : List (Vec (Option Entry) Global)) (g p generation : ℕ) → length xs ≤ g → (i j : ℕ)
    → row (slice_get xs i) None j ≡ put (λ k. row (slice_get xs k) None) g (put (row (slice_get xs g) None) p (other_entry (row (slice_get xs g) None p) generation)) i j
past_at xs g p generation l i j =
    let new : ℕ → Option Entry = put (row (slice_get xs g) None) p (other_entry (row (slice_get xs g) None p) generation) in
    ⊎_elim
    (λ (e : i ≡ g). subst (λ k. row (slice_get xs k) None j ≡ put (λ m. row (slice_get xs m) None) g new k j) (sym e)
    (same_past (slice_get xs g) p generation (slice_get_past xs g l) j ∙ ap (λ (f : ℕ → Option Entry). f j) (sym (put-same (λ m. row (slice_get xs m) None) g new))))
    (λ (n : i ≢ g). ap (λ (f : ℕ → Option Entry). f j) (sym (put-other (λ m. row (slice_get xs m) None) g new i n)))
    (cases_eq i g)

pub listed_past : (xs : List (Vec (Option Entry) Global)) (g p generation : ℕ) → length xs ≤ g
    → (λ i. row (slice_get xs i) None) ≡ put (λ k. row (slice_get xs k) None) g (put (row (slice_get xs g) None) p (other_entry (row (slice_get xs g) None p) generation))
listed_past xs g p generation l = λ d i j. past_at xs g p generation l i j d
