use Rattle.std.proofs.Common.{◌≡◌, ◌∙◌, ℕ, List, ◌∷◌, ◌++◌, [], sym, ap, subst}
use Rattle.std.proofs.lemmas.Result.{on_ok_weaker}
use Rattle.audit.specs.Printed.{end_line}
use Rattle.trace_workers.specs.declared.print_part.PrintPart.{PrintPart}
use Rattle.trace_workers.specs.Sessions.{DeskView}
use Rattle.trace_workers.specs.Telling.{HasKept, joined}
use Rattle.trace_workers.proofs.Parts.{desks_with, first_none, joined_more, nothing_put, pass_at, session_put}
use Rattle.trace_workers.proofs.played.put_pass.Goals as goal

pub returns-in_default-clause-put : goal.returns-in_default-clause-put
returns-in_default-clause-put c =
    let account = c.args.account.now in
    let ts = c.as_slice-transcripts.result.now in
    let there = pass_at account c.args.number c.as_slice.result.now ts c.index-as_slice-number.result c.as_slice.ensures c.as_slice-transcripts.ensures c.requires.there c.index-as_slice-number.is in
    nothing_put account c.args.number ts (joined account c.args.parts.now) there (first_none ts c.in_default.ensures.value)

pub returns-clause-desks : goal.returns-clause-desks
returns-clause-desks c =
    let desks = c.args.desks.now in
    let at = c.in-Some-place_of.at in
    let d = c.index-desks-at-2.result in
    let same = ap (λ (x : DeskView). x.number) c.in-Some-take_lines.ensures.left in
    on_ok_weaker c.push.result (λ _. desks_with c.args.account.now at desks d c.take_lines.new.self c.in-Some-place_of.ensures.there same c.requires.desks) c.push.ensures.ok

pub returns-clause-put : goal.returns-clause-put
returns-clause-put c =
    let account = c.args.account.now in
    let number = c.args.number in
    let ts = c.as_slice-transcripts.result.now in
    let there = pass_at account number c.as_slice.result.now ts c.index-as_slice-number.result c.as_slice.ensures c.as_slice-transcripts.ensures c.requires.there c.index-as_slice-number.is in
    let found = c.in-Some-place_of in
    let t = c.in-Some.transcript.now in
    let first = c.index-desks-at.result in
    let desk = c.index-desks-at-2.result in
    let same = found.ensures.number first ∙ sym (ap (λ (d : DeskView). d.number) c.index-desks-at-2.is ∙ found.ensures.number desk) in
    let kept = subst (HasKept account) (sym c.index-desks-at-2.is) (c.requires.kept found.at desk found.ensures.there) in
    let old = c.args.parts.now in
    let more = c.in_ok-into_parts.field-0 in
    let end = c.in_ok-end.end in
    let lines = c.in-Some-take_lines.lines in
    let new = c.push.new.self in
    let end_is : end ≡ end_line desk.number t.end = c.in_ok-end.ensures ∙ ap (λ (n : ℕ). end_line n t.end) (c.number-session.ensures ∙ same) in
    let put : c.put_all.new.parts ++ PrintPart.Text end ∷ [] ≡ (old ++ more) ++ PrintPart.Text end ∷ [] = ap (λ (ps : List PrintPart). ps ++ PrintPart.Text end ∷ []) c.in_ok-put_all.ensures in
    let text = joined_more account old more end ∙ ap (λ (x : List ℕ). joined account old ++ (x ++ end)) (c.in_ok-into_parts.ensures account)
    ∙ ap (λ (x : List ℕ). joined account old ++ (joined account lines ++ x)) end_is in
    on_ok_weaker c.push.result
    (λ (pushed : new ≡ c.put_all.new.parts ++ PrintPart.Text end ∷ []).
    session_put account number ts t desk lines (joined account old) (joined account new) there (sym c.in-Some.ensures.value) (ap (λ (d : DeskView). d.number) c.index-desks-at-2.is ∙ found.ensures.number desk) kept
    (ap (λ (d : DeskView). d.kept) c.index-desks-at-2.is ∙ sym c.in-Some-take_lines.ensures.lines) (ap (joined account) (pushed ∙ put) ∙ text))
    c.push.ensures.ok
