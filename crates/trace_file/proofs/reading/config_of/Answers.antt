use Rattle.std.proofs.Common.{◌≡◌, ◌+◌, ◌++◌, ◌∷◌, List, take, drop, sym, ap, ◌∙◌}
use Rattle.std.proofs.lemmas.List.{take-append-drop, drop_more}
use Rattle.kwire.specs.Configuration.{Configuration}
use Rattle.trace_file.specs.declared.line.Line.{Line}
use Rattle.trace_file.specs.LineFaults.{IsNewLine}
use Rattle.trace_file.proofs.reading.config_of.Goals as goal

pub unreachable-requires : goal.unreachable-requires
unreachable-requires c =
    let lines = c.args.lines.now in
    let i = c.loop-line.line-index in
    let line = c.line-item.result in
    let parts : lines ≡ take i lines ++ line ∷ drop (i + 1) lines =
    sym (take-append-drop i lines) ∙ ap (λ (ls : List Line). take i lines ++ ls) (drop_more lines i line c.loop-line-test.true)
    ∙ ap (λ (l : Line). take i lines ++ l ∷ drop (i + 1) lines) (sym c.line-item.is)
    in
    let new : IsNewLine (take i lines) line = λ name partitions followers least is.
    c.requires (take i lines) (drop (i + 1) lines) name partitions followers least (parts ∙ ap (λ (l : Line). take i lines ++ l ∷ drop (i + 1) lines) is)
    in
    let told = rw c.in-Err-Bad.field-0-is at c.in-Err-Bad.ensures.fault in
    told.1 (take i lines) (ap (λ (k : Configuration). k.topics) c.loop-line.invariant) new
