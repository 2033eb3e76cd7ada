-- The lines that were read of a text, and those of the part that comes next.
use Rattle.std.proofs.Common.{◌≡◌, ℕ, Bool, true, false, List, [], ◌∷◌, ◌++◌, refl, sym, ap, subst, ◌∙◌, append_assoc, inl, inr}
use Rattle.std.specs.Prelude.{Option, Some, None, is_some}
use Rattle.std.specs.List.{AllByRecursion, AllZip}
use Rattle.trace_file.specs.declared.line.Line.{Line}
use Rattle.trace_file.specs.declared.line.Line.TheVariants.{Topic, Feed, Shut, Clock, End}
use Rattle.trace_file.specs.declared.line.LineKind.{LineKind}
use Rattle.trace_file.specs.IsLine.{IsLine}
use Rattle.trace_file.specs.LineFaults.{IsLineFault, IsPlaceFault, IsPieceFault}
use Rattle.trace_file.specs.Sees.{AreRead, NamesOne}
use Rattle.trace_file.specs.TextRead.{AreLinesOf, AreUpToBad, HasRead, StopsAt}
use Rattle.trace_file.specs.declared.reading.PartLines.{PartLines}
use Rattle.trace_file.specs.declared.reading.Reading.{Reading}

pub none_is : {X : Type 0} (fault : Option X) → is_some fault ≡ false → fault ≡ None
none_is None h = refl
none_is (Some x) h = absurd cc

pub none_left : {X : Type 0} (fault : Option X) → ((x : X) → fault ≡ Some x → ⊥) → fault ≡ None
none_left None h = refl
none_left (Some x) h = absurd (h x refl)

zip_append : (pieces more : List (List ℕ)) (lines back : List Line) → AllZip IsLine pieces lines → AllZip IsLine more back → AllZip IsLine (pieces ++ more) (lines ++ back)
zip_append [] more [] back h behind = behind
zip_append [] more (line ∷ lines) back h behind = absurd h
zip_append (piece ∷ pieces) more [] back h behind = absurd h
zip_append (piece ∷ pieces) more (line ∷ lines) back h behind = (h.0, zip_append pieces more lines back h.1 behind)

-- what comes behind a bad piece changes nothing
stop_more : (IsBad : List ℕ → Type 0) (pieces more : List (List ℕ)) (lines : List Line) → StopsAt IsBad pieces lines → StopsAt IsBad (pieces ++ more) lines
stop_more IsBad pieces more lines h = record {
  before = h.before;
  piece = h.piece;
  after = h.after ++ more;
  parts = ap (λ (ps : List (List ℕ)). ps ++ more) h.parts ∙ append_assoc h.before (h.piece ∷ h.after) more;
  spelled = h.spelled;
  bad = h.bad;
}

pub bad_stays : (IsBad : List ℕ → LineKind → Type 0) (pieces more : List (List ℕ)) (lines : List Line) (fault : Option LineKind) → is_some fault ≡ true → AreUpToBad IsBad pieces lines fault
    → AreUpToBad IsBad (pieces ++ more) lines fault
bad_stays IsBad pieces more lines None some h = absurd cc
bad_stays IsBad pieces more lines (Some kind) some h = stop_more (λ piece. IsBad piece kind) pieces more lines h

-- the lines of a part come behind those before it
pub part_joined : (only_topics : Bool) (before pieces : List (List ℕ)) (lines more : List Line) (fault : Option LineKind) → AllZip IsLine before lines → AreUpToBad IsLineFault pieces more fault
    → AreUpToBad (IsPieceFault only_topics (lines ++ more)) (before ++ pieces) (lines ++ more) fault
part_joined only_topics before pieces lines more None zip h = zip_append before pieces lines more zip h
part_joined only_topics before pieces lines more (Some kind) zip h = record {
  before = before ++ h.before;
  piece = h.piece;
  after = h.after;
  parts = ap (λ (ps : List (List ℕ)). before ++ ps) h.parts ∙ sym (append_assoc before h.before (h.piece ∷ h.after));
  spelled = zip_append before h.before lines more zip h.spelled;
  bad = inl h.bad;
}

-- the pieces at the front of a part have its lines
pub front_of : (IsBad : List ℕ → LineKind → Type 0) (pieces : List (List ℕ)) (lines : List Line) (fault : Option LineKind) → AreUpToBad IsBad pieces lines fault
    → (front : List (List ℕ)) × (back : List (List ℕ)) × (pieces ≡ front ++ back) × AllZip IsLine front lines
front_of IsBad pieces lines None h = (pieces, [], sym (end pieces), h)
  where
    end : (ps : List (List ℕ)) → ps ++ [] ≡ ps
    end [] = refl
    end (p ∷ ps) = ap (λ (qs : List (List ℕ)). p ∷ qs) (end ps)
front_of IsBad pieces lines (Some kind) h = (h.before, h.piece ∷ h.after, h.parts, h.spelled)

zip_at : (front : List (List ℕ)) (done rest : List Line) (line : Line) → AllZip IsLine front (done ++ line ∷ rest)
    → (before : List (List ℕ)) × (piece : List ℕ) × (after : List (List ℕ)) × (front ≡ before ++ piece ∷ after) × AllZip IsLine before done × IsLine piece line
zip_at [] [] rest line h = absurd h
zip_at [] (d ∷ done) rest line h = absurd h
zip_at (piece ∷ front) [] rest line h = ([], piece, front, refl, tt, h.0)
zip_at (p ∷ front) (d ∷ done) rest line h =
    let r = zip_at front done rest line h.1 in (p ∷ r.0, r.1, r.2, ap (λ (ps : List (List ℕ)). p ∷ ps) r.3, (h.0, r.4), r.5)

-- a line of the part may not stand at its place
pub misplaced_in : (only_topics : Bool) (before pieces : List (List ℕ)) (lines done rest : List Line) (line : Line) (kind : LineKind) (fault : Option LineKind) → AllZip IsLine before lines
    → AreUpToBad IsLineFault pieces (done ++ line ∷ rest) fault → IsPlaceFault only_topics (lines ++ done) line kind
    → StopsAt (λ piece. IsPieceFault only_topics (lines ++ done) piece kind) (before ++ pieces) (lines ++ done)
misplaced_in only_topics before pieces lines done rest line kind fault zip h bad =
    let f = front_of IsLineFault pieces (done ++ line ∷ rest) fault h in
    let at = zip_at f.0 done rest line f.3 in record {
      before = before ++ at.0;
      piece = at.1;
      after = at.2 ++ f.1;
      parts = ap (λ (ps : List (List ℕ)). before ++ ps) (f.2 ∙ ap (λ (ps : List (List ℕ)). ps ++ f.1) at.3 ∙ append_assoc at.0 (at.1 ∷ at.2) f.1)
          ∙ sym (append_assoc before at.0 (at.1 ∷ (at.2 ++ f.1)));
      spelled = zip_append before at.0 lines done zip at.4;
      bad = inr (line, at.5, bad);
    }

names_one : (piece : List ℕ) (line : Line) → IsLine piece line → NamesOne line
names_one piece (Topic name partitions followers least) h = tt
names_one piece (Feed session bytes) h = h.in_range
names_one piece (Shut session) h = h.in_range
names_one piece (Clock t) h = tt
names_one piece End h = tt

lines_name_one : (pieces : List (List ℕ)) (lines : List Line) → AllZip IsLine pieces lines → AllByRecursion NamesOne lines
lines_name_one [] [] h = tt
lines_name_one [] (line ∷ lines) h = absurd h
lines_name_one (piece ∷ pieces) [] h = absurd h
lines_name_one (piece ∷ pieces) (line ∷ lines) h = (names_one piece line h.0, lines_name_one pieces lines h.1)

-- the lines of a part name sessions that there may be
pub part_names_one : (pieces : List (List ℕ)) (lines : List Line) (fault : Option LineKind) → AreUpToBad IsLineFault pieces lines fault → AllByRecursion NamesOne lines
part_names_one pieces lines fault h = let f = front_of IsLineFault pieces lines fault h in lines_name_one f.0 lines f.3

-- ---- a reading that takes a part

pub read_stays : (only_topics : Bool) (old new : Reading) (fault : Option LineKind) → new ≡ record old { fault = fault } → AreRead only_topics old → AreRead only_topics new
read_stays only_topics old new fault is h = subst (AreRead only_topics) (sym is) (record { good = h.good; config = h.config; sees = h.sees })

-- which had a bad line
pub taken_none : (only_topics : Bool) (before pieces : List (List ℕ)) (reading : Reading) → is_some reading.fault ≡ true → HasRead only_topics before reading → HasRead only_topics (before ++ pieces) reading
taken_none only_topics before pieces reading bad h =
    record { only = h.only; read = h.read; lines = bad_stays (IsPieceFault only_topics reading.lines) before pieces reading.lines reading.fault bad h.lines }

module _ (only_topics : Bool) (before pieces : List (List ℕ)) (old now : Reading) (part : PartLines) (h : HasRead only_topics before old) (none : old.fault ≡ None) (of : AreLinesOf pieces part)
    (only : now.only_topics ≡ old.only_topics) (read : AreRead now.only_topics now) where
  zip : AllZip IsLine before old.lines
  zip = subst (AreUpToBad (IsPieceFault only_topics old.lines) before old.lines) none h.lines

  -- all lines of the part
  pub taken_all : now.lines ≡ old.lines ++ part.lines → now.fault ≡ part.fault → HasRead only_topics (before ++ pieces) now
  taken_all lines fault = record {
    only = only ∙ h.only;
    read = subst (λ (b : Bool). AreRead b now) (only ∙ h.only) read;
    lines = subst (AreUpToBad (IsPieceFault only_topics now.lines) (before ++ pieces) now.lines) (sym fault)
        (subst (λ (ls : List Line). AreUpToBad (IsPieceFault only_topics ls) (before ++ pieces) ls part.fault) (sym lines)
        (part_joined only_topics before pieces old.lines part.lines part.fault zip of));
  }

  -- those before one that may not stand at its place
  pub taken_upto : (done rest : List Line) (line : Line) (kind : LineKind) → now.lines ≡ old.lines ++ done → part.lines ≡ done ++ line ∷ rest → now.fault ≡ Some kind
      → IsPlaceFault now.only_topics now.lines line kind → HasRead only_topics (before ++ pieces) now
  taken_upto done rest line kind lines whole fault bad = record {
    only = only ∙ h.only;
    read = subst (λ (b : Bool). AreRead b now) (only ∙ h.only) read;
    lines = subst (AreUpToBad (IsPieceFault only_topics now.lines) (before ++ pieces) now.lines) (sym fault)
        (subst (λ (ls : List Line). StopsAt (λ piece. IsPieceFault only_topics ls piece kind) (before ++ pieces) ls) (sym lines)
        (misplaced_in only_topics before pieces old.lines done rest line kind part.fault zip (subst (λ (ls : List Line). AreUpToBad IsLineFault pieces ls part.fault) whole of)
        (subst (λ (ls : List Line). IsPlaceFault only_topics ls line kind) lines (subst (λ (b : Bool). IsPlaceFault b now.lines line kind) (only ∙ h.only) bad))));
  }
