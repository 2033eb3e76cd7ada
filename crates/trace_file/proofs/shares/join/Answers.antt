use Rattle.std.proofs.Common.{◌≡◌, List, [], ◌∷◌, ◌++◌, Bor, ℕ, length, refl, sym, ap, subst, ◌∙◌, arith, rules, append-nil, append_assoc}
use Rattle.std.specs.Prelude.{Result}
use Rattle.std.specs.List.{AllZip}
use Rattle.std.specs.Vec.Iter.{into_iter_items}
use Rattle.std.proofs.lemmas.List.{nil_from_length}
use Rattle.kbytes.specs.declared.no_memory.NoMemory.{NoMemory}
use Rattle.trace_file.specs.declared.reading.PartLines.{PartLines}
use Rattle.trace_file.specs.Shares.{IsShareRead, pieces_in}
use Rattle.trace_file.specs.TextRead.{HasRead}
use Rattle.trace_file.specs.Trace.{pieces_of}
use Rattle.trace_file.proofs.Sharing.{next_share, no_share}
use Rattle.trace_file.proofs.shares.join.Goals as goal

pub take-requires-clause-part : goal.take-requires-clause-part
take-requires-clause-part c =
    let i = c.loop-read.invariant in
    let rest = into_iter_items c.next.new.self in
    let next = c.in-Some.ensures.steps.0 ∙ ap (λ (r : Result PartLines NoMemory). r ∷ rest) c.in_ok-lines.was in
    let first = next_share i.left.0 c.in_ok-lines.lines rest (subst (AllZip IsShareRead i.left.0) next i.left.1) in
    (pieces_of first.0.now, first.3)

pub loop-read-init : goal.loop-read-init
loop-read-init c =
    let all = c.into_iter-read-iterator.ensures.into_iter_gives in record {
      len = search rules;
      read = c.requires.read;
      left = (c.requires.shares.0, subst (AllZip IsShareRead c.requires.shares.0) (sym all.0) c.requires.shares.1);
      taken = λ only before shares h zip. (shares, before, subst (AllZip IsShareRead shares) (sym all.0) zip, refl, h);
    }

pub loop-read-preserved : goal.loop-read-preserved
loop-read-preserved c =
    let i = c.loop-read.invariant in
    let rest = into_iter_items c.next.new.self in
    let part = c.in_ok-lines.lines in
    let next = c.in-Some.ensures.steps.0 ∙ ap (λ (r : Result PartLines NoMemory). r ∷ rest) c.in_ok-lines.was in
    let taken = ap (λ (l : List (Result PartLines NoMemory)). length l) c.in-Some.ensures.steps.0 in
    let gone = c.in-Some.ensures.steps.1 in
    let len = i.len in
    let first = next_share i.left.0 part rest (subst (AllZip IsShareRead i.left.0) next i.left.1) in record {
      len = omega (arith, len, gone, taken);
      read = c.in_ok-take.ensures.read;
      left = (first.1, first.4);
      taken = λ only before shares h zip.
          let t = i.taken only before shares h zip in
          let f = next_share t.0 part rest (subst (AllZip IsShareRead t.0) next t.2) in
          let pieces = pieces_of f.0.now in (
            f.1,
            t.1 ++ pieces,
            f.4,
            t.3 ∙ ap (λ (ss : List (Bor (List ℕ))). t.1 ++ pieces_in ss) f.2 ∙ sym (append_assoc t.1 pieces (pieces_in f.1)),
            c.in_ok-take.ensures.taken only t.1 pieces t.4 f.3,
          );
    }

pub returns-clause-taken : goal.returns-clause-taken
returns-clause-taken c = λ only before shares h zip.
    let i = c.loop-read.invariant in
    let none : into_iter_items c.loop-read.read-iterator ≡ [] = nil_from_length (into_iter_items c.loop-read.read-iterator) (omega (arith, i.len, c.in-None.ensures.steps.0)) in
    let t = i.taken only before shares h zip in
    let left : t.0 ≡ [] = no_share t.0 (subst (AllZip IsShareRead t.0) none t.2) in
    let all : before ++ pieces_in shares ≡ t.1 = t.3 ∙ ap (λ (ss : List (Bor (List ℕ))). t.1 ++ pieces_in ss) left ∙ append-nil t.1 in
    subst (λ (ps : List (List ℕ)). HasRead only ps c.loop-read.reading) (sym all) t.4
