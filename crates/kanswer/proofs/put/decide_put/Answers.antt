use Rattle.std.proofs.Common.{◌≡◌, ℕ, ℤ, List, length, Some, refl, sym, ap, subst, ◌∙◌, rules, to_z, of_z, inl, inr}
use Rattle.std.proofs.lemmas.Int.{to_z-of_z}
use mir.Val.{SFits}
use Rattle.std.specs.Int.{w16, w32}
use Rattle.kwire.specs.declared.request.ProducePart.{ProducePart}
use Rattle.kbatch.specs.Kept.{count_of}
use Rattle.kbatch.proofs.Laws.{batch_count}
use Rattle.kanswer.specs.Decisions.{Decision, AskLog, Refuse, BatchDecides, ProduceDecides, append_outcome, needed_insync, least_insync, code_of}
use Rattle.kwire.specs.Configuration.{part_of}
use Rattle.kanswer.proofs.ProduceDecided.{produce_batch}
use Rattle.kanswer.proofs.put.decide_put.Goals as goal

pub returns-in-Ok-clause-put : goal.returns-in-Ok-clause-put
returns-in-Ok-clause-put c = λ id e.
    let index = c.args.part.now.index in
    let number = c.in-Some.number in
    let seen = c.part.inside.index in
    let fits : SFits w32 seen = search rules in
    let same : to_z w32 (of_z w32 seen) ≡ index = to_z-of_z w32 seen fits ∙ ap (λ (p : ProducePart). p.index) c.part.view_is in
    let some : part_of c.args.config.now c.args.topic.now index ≡ Some number = ap (part_of c.args.config.now c.args.topic.now) (sym same) ∙ sym c.in-Some.ensures.number in
    let b = c.in-Ok.ensures.batch in
    let batch = c.in-Ok.batch in
    let bytes : batch ≡ c.records_of.result.now = c.in-Ok.ensures.bytes in
    let count : count_of batch ≡ length b.0 = ap count_of bytes ∙ batch_count c.records_of.result.now b.0 b.1 in
    let least : c.needed_insync.result ≡ least_insync c.args.config.now c.args.terms.acks number = c.needed_insync.ensures ∙ ap (needed_insync c.args.terms.acks) c.min_insync_of.ensures in
    let sent : ℤ → ℕ → Decision = λ v n. AskLog number (append_outcome v n number (count_of batch) batch) in
    let asks : sent c.args.terms.version c.needed_insync.result ≡ AskLog number (append_outcome c.args.terms.version (least_insync c.args.config.now c.args.terms.acks number) number (length b.0) c.records_of.result.now) =
    ap (sent c.args.terms.version) least
    ∙ ap (λ (n : ℕ). AskLog number (append_outcome c.args.terms.version (least_insync c.args.config.now c.args.terms.acks number) number n batch)) count
    ∙ ap (λ (bs : List ℕ). AskLog number (append_outcome c.args.terms.version (least_insync c.args.config.now c.args.terms.acks number) number (length b.0) bs)) bytes
    in
    let version_fits : SFits w16 c.args.terms.version = search rules in
    subst (λ (v : ℤ). ProduceDecides c.args.config.now c.args.terms.version id c.args.terms.acks (c.args.topic.now, c.args.part.now) (sent v c.needed_insync.result)) (sym (to_z-of_z w16 c.args.terms.version version_fits))
    (produce_batch c.args.terms.version c.args.config.now c.args.terms.acks (c.args.topic.now, c.args.part.now) id number _ (e ∙ c.if-terms.false) some (sym c.has_known_acks.ensures ∙ c.if-not-has_known_acks.false)
    (subst (λ (bs : List ℕ). BatchDecides c.args.terms.version (least_insync c.args.config.now c.args.terms.acks number) number bs (sent c.args.terms.version c.needed_insync.result)) c.records_of.ensures (inr (b.0, b.1, asks))))

pub returns-in-Err-clause-refused : goal.returns-in-Err-clause-refused
returns-in-Err-clause-refused c = λ id e.
    let index = c.args.part.now.index in
    let number = c.in-Some.number in
    let seen = c.part.inside.index in
    let fits : SFits w32 seen = search rules in
    let same : to_z w32 (of_z w32 seen) ≡ index = to_z-of_z w32 seen fits ∙ ap (λ (p : ProducePart). p.index) c.part.view_is in
    let some : part_of c.args.config.now c.args.topic.now index ≡ Some number = ap (part_of c.args.config.now c.args.topic.now) (sym same) ∙ sym c.in-Some.ensures.number in
    let short : SFits w16 c.code_of.result = search rules in
    let code : Refuse (to_z w16 (of_z w16 c.code_of.result)) ≡ Refuse (code_of c.in-Err.fault) = ap Refuse (to_z-of_z w16 c.code_of.result short ∙ c.code_of.ensures) in
    produce_batch c.args.terms.version c.args.config.now c.args.terms.acks (c.args.topic.now, c.args.part.now) id number _ (e ∙ c.if-terms.false) some (sym c.has_known_acks.ensures ∙ c.if-not-has_known_acks.false)
    (subst (λ (bs : List ℕ). BatchDecides c.args.terms.version (least_insync c.args.config.now c.args.terms.acks number) number bs (Refuse (to_z w16 (of_z w16 c.code_of.result)))) c.records_of.ensures (inl (c.in-Err.fault, (c.in-Err.ensures.fault c.in-Err.fault).0 refl, code)))
