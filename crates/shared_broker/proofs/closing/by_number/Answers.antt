use Rattle.std.proofs.Common.{◌≡◌, ◌∙◌, ◌<◌, List, [], ◌∷◌, ◌++◌, length, map, set, ap, arith, append_assoc, sym}
use Rattle.std.proofs.lemmas.List.{length-set}
use Rattle.std.specs.Vec.Iter.{into_iter_items}
use Rattle.audit.specs.declared.account.Transcript.{Transcript}
use Rattle.audit.specs.broker.books.Told.{told}
use Rattle.shared_broker.specs.declared.closing.Sheet.{Sheet}
use Rattle.shared_broker.specs.Closed.{transcripts_in}
use Rattle.shared_broker.proofs.ClosingSheets.{in_middle, put_more}
use Rattle.shared_broker.proofs.closing.by_number.Goals as goal

pub loop-sheet-preserved : goal.loop-sheet-preserved
loop-sheet-preserved c =
    let i = c.loop-sheet.invariant in
    let sheet = c.in-Some.sheet in
    let sheets = c.args.sheets in
    let passes = c.loop-sheet.passes in
    let next = into_iter_items c.next.new.self in
    let done = i.put.0 in
    let steps : into_iter_items c.loop-sheet.sheet-iterator ≡ sheet ∷ next = c.in-Some.ensures.steps.0 in
    let gone = c.in-Some.ensures.steps.1 in
    let shorter = ap (λ (l : List Sheet). length l) steps in
    let len = i.len in
    let e : done ++ sheet ∷ next ≡ sheets = ap (λ (l : List Sheet). done ++ l) (sym steps) ∙ i.put.2 in
    let below : sheet.number < length sheets = in_middle (λ (s : Sheet). s.number < length sheets) done next sheets sheet e c.requires.numbers in
    let later : c.put_at.new.passes ≡ set passes sheet.number (map told (transcripts_in sheet)) = c.put_at.ensures ∙ ap (set passes sheet.number) c.in_ok-transcripts_of.ensures in
    record {
      len = omega (arith, len, gone, shorter);
      size = ap (λ (ps : List (List Transcript)). length ps) later ∙ length-set passes sheet.number (map told (transcripts_in sheet)) ∙ i.size;
      put = (
        done ++ sheet ∷ [],
        put_more done next sheets sheet e (c.requires.one sheet.number below) passes c.put_at.new.passes (omega (arith, below, i.size)) later i.put.1,
        append_assoc done (sheet ∷ []) next ∙ e,
      );
    }
