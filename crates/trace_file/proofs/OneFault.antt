-- A trace has no first bad line, and a text has one at most.
use Rattle.std.proofs.Common.{◌≡◌, ℕ, ◌+◌, ◌<◌, Bool, List, [], ◌∷◌, ◌++◌, length, refl, sym, ap, ◌∙◌, subst, arith, inl, inr, Contains, length-append}
use Rattle.std.specs.List.{AllZip}
use Rattle.std.proofs.lemmas.Bool.{cases_lt}
use Rattle.std.proofs.lemmas.List.{append-nil}
use Rattle.trace_file.specs.declared.line.Line.{Line}
use Rattle.trace_file.specs.declared.line.Line.TheVariants.{End}
use Rattle.trace_file.specs.declared.line.LineKind.{LineKind}
use Rattle.trace_file.specs.declared.line.LineFault.{LineFault}
use Rattle.trace_file.specs.IsLine.{IsLine}
use Rattle.trace_file.specs.Trace.{pieces_of}
use Rattle.trace_file.specs.LineFaults.{IsPieceFault}
use Rattle.trace_file.specs.FirstBad.{IsTraceRead, MayBegin, IsBadLine, IsFirstBad}
use Rattle.trace_file.proofs.Faults.{piece_unfaulty, piece_kind}
use Rattle.trace_file.proofs.Fronts.{begin_parts, end_there}
use Rattle.trace_file.proofs.TextSoFar.{zip_front, one_reading}

fault_same : (a b : LineFault) → a.line ≡ b.line → a.kind ≡ b.kind → a ≡ b
fault_same a b line kind =
    ap (λ (n : ℕ). let f : LineFault = record { line = n; kind = a.kind } in f) line
    ∙ ap (λ (k : LineKind). let f : LineFault = record { line = b.line; kind = k } in f) kind

-- two cuts of a list: a front that is longer has the item
longer_front : (goods more before after : List (List ℕ)) (piece : List ℕ) → goods ++ more ≡ before ++ piece ∷ after → length before < length goods
    → (rest : List (List ℕ)) × (goods ≡ before ++ piece ∷ rest)
longer_front [] more before after piece e lt = absurd (omega arith)
longer_front (good ∷ goods) more [] after piece e lt = (goods, let same : good ≡ piece = cc in ap (λ (p : List ℕ). p ∷ goods) same)
longer_front (good ∷ goods) more (first ∷ before) after piece e lt =
    let same : good ≡ first = cc in
    let tail : goods ++ more ≡ before ++ piece ∷ after = cc in
    let rest = longer_front goods more before after piece tail (omega arith) in
    (rest.0, ap (λ (p : List ℕ). p ∷ goods) same ∙ ap (λ (ps : List (List ℕ)). first ∷ ps) rest.1)

same_front : (before others after more : List (List ℕ)) (piece other : List ℕ) → before ++ piece ∷ after ≡ others ++ other ∷ more → length before ≡ length others
    → (before ≡ others) × (piece ≡ other)
same_front [] [] after more piece other e len = (refl, cc)
same_front [] (o ∷ others) after more piece other e len = absurd (omega arith)
same_front (b ∷ before) [] after more piece other e len = absurd (omega arith)
same_front (b ∷ before) (o ∷ others) after more piece other e len =
    let same : b ≡ o = cc in
    let tail : before ++ piece ∷ after ≡ others ++ other ∷ more = cc in
    let rest = same_front before others after more piece other tail (omega arith) in
    (ap (λ (p : List ℕ). p ∷ before) same ∙ ap (λ (ps : List (List ℕ)). o ∷ ps) rest.0, rest.1)

next_line : (piece : List ℕ) (pieces : List (List ℕ)) (back : List Line) → AllZip IsLine (piece ∷ pieces) back → (line : Line) × (more : List Line) × (back ≡ line ∷ more) × IsLine piece line
next_line piece pieces [] h = absurd h
next_line piece pieces (line ∷ more) h = (line, more, refl, h.0)

-- among good lines none is bad
goods_have_none : (text : List ℕ) (only_topics : Bool) (fault : LineFault) (bad : IsBadLine text only_topics fault) (goods more : List (List ℕ)) (lines : List Line)
    → pieces_of text ≡ goods ++ more → AllZip IsLine goods lines → MayBegin only_topics lines → length bad.before < length goods → ⊥
goods_have_none text only_topics fault bad goods more lines parts spelled good lt =
    let rest = longer_front goods more bad.before bad.after bad.piece (sym parts ∙ bad.parts) lt in
    let back = zip_front bad.before (bad.piece ∷ rest.0) bad.lines lines bad.spelled (subst (λ (ps : List (List ℕ)). AllZip IsLine ps lines) rest.1 spelled) in
    let next = next_line bad.piece rest.0 back.0 back.2 in
    let whole : lines ≡ bad.lines ++ next.0 ∷ next.1 = back.1 ∙ ap (λ (ls : List Line). bad.lines ++ ls) next.2 in
    let may = begin_parts only_topics bad.lines next.1 next.0 (subst (MayBegin only_topics) whole good) in
    piece_unfaulty only_topics bad.lines bad.piece next.0 fault.kind next.3 may.0 may.1 bad.kind

-- a text whose pieces are all good has no bad line
all_good : (text : List ℕ) (only_topics : Bool) (fault : LineFault) (lines : List Line) → IsBadLine text only_topics fault → AllZip IsLine (pieces_of text) lines → MayBegin only_topics lines → ⊥
all_good text only_topics fault lines bad spelled good =
    goods_have_none text only_topics fault bad (pieces_of text) [] lines (sym (append-nil (pieces_of text))) spelled good
    (omega (arith, ap length bad.parts, length-append bad.before (bad.piece ∷ bad.after)))

pub trace_has_none : (text : List ℕ) (only_topics : Bool) (lines : List Line) (fault : LineFault) → IsTraceRead text only_topics lines → IsFirstBad text only_topics fault → ⊥
trace_has_none text only_topics lines fault h (inl long) = absurd (omega (arith, h.trace.size, long.long))
trace_has_none text only_topics lines fault h (inr (inl bad)) =
    all_good text only_topics fault lines bad h.trace.spelled (record { pairs = h.trace.order.pairs; topics = h.trace.order.topics; declares = h.declares })
trace_has_none text only_topics lines fault h (inr (inr open_end)) =
    let same = one_reading (pieces_of text) lines open_end.lines h.trace.spelled open_end.spelled in
    open_end.endless (subst (λ (ls : List Line). Contains ls End) same (end_there lines h.trace.order))

bad_is_one : (text : List ℕ) (only_topics : Bool) (a b : LineFault) → IsBadLine text only_topics a → IsBadLine text only_topics b → a ≡ b
bad_is_one text only_topics a b x y =
    elim (cases_lt (length x.before) (length y.before)) [
      | inl lt ↦ absurd (goods_have_none text only_topics a x y.before (y.piece ∷ y.after) y.lines y.parts y.spelled y.good lt)
      | inr le ↦ elim (cases_lt (length y.before) (length x.before)) [
        | inl lt ↦ absurd (goods_have_none text only_topics b y x.before (x.piece ∷ x.after) x.lines x.parts x.spelled x.good lt)
        | inr ge ↦
            let same = same_front x.before y.before x.after y.after x.piece y.piece (sym x.parts ∙ y.parts) (omega arith) in
            let lines = one_reading y.before x.lines y.lines (subst (λ (ps : List (List ℕ)). AllZip IsLine ps x.lines) same.0 x.spelled) y.spelled in
            let kind : IsPieceFault only_topics y.lines y.piece a.kind =
            subst (λ (p : List ℕ). IsPieceFault only_topics y.lines p a.kind) same.1 (subst (λ (ls : List Line). IsPieceFault only_topics ls x.piece a.kind) lines x.kind)
            in
            fault_same a b (omega (arith, x.line, y.line)) (piece_kind only_topics y.lines y.piece a.kind b.kind kind y.kind)
      ]
    ]

pub first_bad_is_one : (text : List ℕ) (only_topics : Bool) (a b : LineFault) → IsFirstBad text only_topics a → IsFirstBad text only_topics b → a ≡ b
first_bad_is_one text only_topics a b (inl x) (inl y) = fault_same a b (x.line ∙ sym y.line) (x.kind ∙ sym y.kind)
first_bad_is_one text only_topics a b (inl x) (inr (inl y)) = absurd (omega (arith, x.long, y.size))
first_bad_is_one text only_topics a b (inl x) (inr (inr y)) = absurd (omega (arith, x.long, y.size))
first_bad_is_one text only_topics a b (inr (inl x)) (inl y) = absurd (omega (arith, y.long, x.size))
first_bad_is_one text only_topics a b (inr (inl x)) (inr (inl y)) = bad_is_one text only_topics a b x y
first_bad_is_one text only_topics a b (inr (inl x)) (inr (inr y)) = absurd (all_good text only_topics a y.lines x y.spelled y.good)
first_bad_is_one text only_topics a b (inr (inr x)) (inl y) = absurd (omega (arith, y.long, x.size))
first_bad_is_one text only_topics a b (inr (inr x)) (inr (inl y)) = absurd (all_good text only_topics b x.lines y x.spelled x.good)
first_bad_is_one text only_topics a b (inr (inr x)) (inr (inr y)) =
    fault_same a b (x.line ∙ ap (λ (ls : List Line). length ls + 1) (one_reading (pieces_of text) x.lines y.lines x.spelled y.spelled) ∙ sym y.line) (x.kind ∙ sym y.kind)
