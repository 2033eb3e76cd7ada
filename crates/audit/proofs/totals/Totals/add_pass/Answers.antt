use Rattle.std.proofs.Common.{◌≡◌, ◌+◌, ◌++◌, [], ◌∷◌, List, take, ap, subst, sym, ◌∙◌, append_assoc}
use Rattle.std.proofs.lemmas.List.{take_more}
use Rattle.audit.specs.declared.account.Transcript.{Transcript}
use Rattle.audit.specs.Totals.{AreTotals}
use Rattle.audit.proofs.totals.Totals.add_pass.Goals as goal

pub loop-transcript-preserved : goal.loop-transcript-preserved
loop-transcript-preserved c = λ before are.
    let all = c.args.transcripts.now in
    let i = c.loop-transcript.transcript-index in
    let one = c.transcript-item.result in
    let more : before ++ take (i + 1) all ≡ (before ++ take i all) ++ one ∷ [] =
    ap (λ (some : List Transcript). before ++ some) (take_more all i one c.loop-transcript-test.true ∙ ap (λ (t : Transcript). take i all ++ t ∷ []) (sym c.transcript-item.is))
    ∙ sym (append_assoc before (take i all) (one ∷ [])) in
    subst (λ (some : List Transcript). AreTotals some c.add.new.self) (sym more)
    (c.in_ok-add.ensures (before ++ take i all) (c.loop-transcript.invariant before are))
