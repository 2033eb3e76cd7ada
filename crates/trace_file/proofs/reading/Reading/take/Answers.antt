use Rattle.std.proofs.Common.{◌≡◌, Bool, List, [], ◌∷◌, ◌++◌, length, refl, sym, ap, subst, ◌∙◌, arith, rules, append-nil, append_assoc}
use Rattle.std.specs.Prelude.{Some}
use Rattle.std.specs.List.{AllByRecursion}
use Rattle.std.specs.Vec.Iter.{into_iter_items}
use Rattle.std.proofs.lemmas.List.{nil_from_length}
use Rattle.trace_file.specs.declared.line.Line.{Line}
use Rattle.trace_file.specs.declared.line.LineKind.{LineKind}
use Rattle.trace_file.specs.declared.reading.Reading.{Reading}
use Rattle.trace_file.specs.LineFaults.{IsPlaceFault}
use Rattle.trace_file.specs.Sees.{NamesOne, AreRead}
use Rattle.trace_file.proofs.Refused.{told_bad}
use Rattle.trace_file.proofs.Taking.{none_is, part_names_one, read_stays, taken_all, taken_none, taken_upto}
use Rattle.trace_file.proofs.reading.Reading.take.Goals as goal

pub loop-line-init : goal.loop-line-init
loop-line-init c =
    let all : into_iter_items c.into_iter-line-iterator.result ≡ c.args.part.lines = c.into_iter-line-iterator.ensures.into_iter_gives.0 ∙ c.into_vec-line-items.ensures in record {
      len = search rules;
      read = c.requires.read;
      only = refl;
      good = none_is c.args.self.now.fault (sym c.is_some.ensures ∙ c.if-is_some.false);
      done = [];
      lines = sym (append-nil c.args.self.now.lines);
      whole = sym all;
      named = subst (AllByRecursion NamesOne) (sym all) (part_names_one c.requires.part.0 c.args.part.lines c.args.part.fault c.requires.part.1);
    }

pub loop-line-preserved : goal.loop-line-preserved
loop-line-preserved c =
    let i = c.loop-line.invariant in
    let line = c.in-Some.line in
    let next = c.in-Some.ensures.steps.0 in
    let rest = into_iter_items c.next.new.self in
    let added = c.in-Ok.ensures in
    let taken = ap (λ (l : List Line). length l) next in
    let gone = c.in-Some.ensures.steps.1 in
    let len = i.len in record {
      len = omega (arith, len, gone, taken);
      read = added.read;
      only = added.same.0 ∙ i.only;
      good = added.same.1 ∙ i.good;
      done = i.done ++ line ∷ [];
      lines = added.line ∙ ap (λ (ls : List Line). ls ++ line ∷ []) i.lines ∙ append_assoc c.args.self.now.lines i.done (line ∷ []);
      whole = i.whole ∙ ap (λ (ls : List Line). i.done ++ ls) next ∙ sym (append_assoc i.done (line ∷ []) rest);
      named = (subst (AllByRecursion NamesOne) next i.named).1;
    }

pub returns-in-Err-Bad : goal.returns-in-Err-Bad
returns-in-Err-Bad c =
    let i = c.loop-line.invariant in
    let was = c.loop-line.self in
    let now = c.stop.new.self in
    let e = c.in-Err-Bad.field-0 in
    let kind = c.in-Err-Bad.kind in
    let line = c.in-Some.line in
    let same : c.add.new.self ≡ was = told_bad e kind (λ k. c.add.new.self ≡ was) c.in-Err-Bad.field-0-is c.in-Err-Bad.ensures.refused in
    let bad : IsPlaceFault was.only_topics was.lines line kind = told_bad e kind (IsPlaceFault was.only_topics was.lines line) c.in-Err-Bad.field-0-is c.in-Err-Bad.ensures.fault in
    let only : now.only_topics ≡ was.only_topics = ap (λ (r : Reading). r.only_topics) c.stop.ensures ∙ ap (λ (r : Reading). r.only_topics) same in
    let lines : now.lines ≡ was.lines = ap (λ (r : Reading). r.lines) c.stop.ensures ∙ ap (λ (r : Reading). r.lines) same in
    let fault : now.fault ≡ Some kind = ap (λ (r : Reading). r.fault) c.stop.ensures ∙ ap (λ (k : LineKind). Some k) c.in-Err-Bad.kind-is in
    let read : AreRead now.only_topics now =
    subst (λ (b : Bool). AreRead b now) (sym only)
    (read_stays was.only_topics c.add.new.self now _ c.stop.ensures (subst (AreRead was.only_topics) (sym same) i.read))
    in
    let whole = i.whole ∙ ap (λ (ls : List Line). i.done ++ ls) c.in-Some.ensures.steps.0 in record {
      read = read;
      taken = λ only_topics before pieces h of.
          taken_upto only_topics before pieces c.args.self.now now c.args.part h (none_is c.args.self.now.fault (sym c.is_some.ensures ∙ c.if-is_some.false)) of (only ∙ i.only) read
          i.done (into_iter_items c.next.new.self) line kind (lines ∙ i.lines) whole fault
          (subst (λ (b : Bool). IsPlaceFault b now.lines line kind) (sym only) (subst (λ (ls : List Line). IsPlaceFault was.only_topics ls line kind) (sym lines) bad));
    }

pub returns : goal.returns
returns c =
    let i = c.loop-line.invariant in
    let was = c.loop-line.self in
    let now = c.stop-2.new.self in
    let only : now.only_topics ≡ was.only_topics = ap (λ (r : Reading). r.only_topics) c.stop-2.ensures in
    let lines : now.lines ≡ was.lines = ap (λ (r : Reading). r.lines) c.stop-2.ensures in
    let read : AreRead now.only_topics now =
    subst (λ (b : Bool). AreRead b now) (sym only) (read_stays was.only_topics was now _ c.stop-2.ensures i.read) in
    let none : into_iter_items c.loop-line.line-iterator ≡ [] = nil_from_length (into_iter_items c.loop-line.line-iterator) (omega (arith, i.len, c.in-None.ensures.steps.0)) in
    let done : i.done ≡ c.args.part.lines = sym (i.whole ∙ ap (λ (ls : List Line). i.done ++ ls) none ∙ append-nil i.done) in record {
      read = read;
      taken = λ only_topics before pieces h of.
          taken_all only_topics before pieces c.args.self.now now c.args.part h (none_is c.args.self.now.fault (sym c.is_some.ensures ∙ c.if-is_some.false)) of (only ∙ i.only) read
          (lines ∙ i.lines ∙ ap (λ (ls : List Line). c.args.self.now.lines ++ ls) done) (ap (λ (r : Reading). r.fault) c.stop-2.ensures);
    }

pub returns-then-is_some : goal.returns-then-is_some
returns-then-is_some c = record {
  read = c.requires.read;
  taken = λ only_topics before pieces h of. taken_none only_topics before pieces c.args.self.now (sym c.is_some.ensures ∙ c.if-is_some.true) h;
}
