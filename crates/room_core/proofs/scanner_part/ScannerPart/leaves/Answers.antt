use Rattle.std.proofs.Common.{rules, ◌≡◌, ◌≤◌, cond, true, false, ap, sym, subst, ◌∙◌, Some}
use Rattle.room_core.specs.Checks.{scanner_answers, scanner_lets_go, scanner_takes}
use Rattle.room_core.specs.Description.{needs_of}
use Rattle.room_core.specs.Meetings.{words_of}
use Rattle.room_core.specs.Put.{put}
use Rattle.room_core.specs.ScannerTables.{scanner_of}
use Rattle.room_core.proofs.scanner_part.ScannerPart.leaves.Goals as goal

pub answers-requires-clause-few : goal.answers-requires-clause-few
answers-requires-clause-few c = subst (λ s. needs_of (words_of s) ≤ 64) (sym c.takes.ensures.part) c.requires.few

pub returns-then-not-answers-clause-part : goal.returns-then-not-answers-clause-part
returns-then-not-answers-clause-part c =
    let old = c.args.self.now in
    let was = scanner_of old in
    let mid = scanner_of c.takes.new.self in
    let said : c.answers.result ≡ scanner_answers old.shape c.args.scanner (words_of was) (put was.readings c.args.gauge (Some c.args.value)) =
    c.answers.ensures ∙ ap (λ t. scanner_answers t c.args.scanner (words_of mid) mid.readings) c.takes.ensures.shape
    ∙ ap (λ s. scanner_answers old.shape c.args.scanner (words_of s) s.readings) c.takes.ensures.part in
    let no : c.answers.result ≡ false = search (rules, c.if-not-answers.true) in
    c.lets_go.ensures.part ∙ ap (λ s. scanner_lets_go s c.args.pass) c.takes.ensures.part
    ∙ ap (λ b. cond b (scanner_takes was c.args.gauge c.args.value) (scanner_lets_go was c.args.pass)) (sym no ∙ said)

pub returns-else-not-answers-clause-part : goal.returns-else-not-answers-clause-part
returns-else-not-answers-clause-part c =
    let old = c.args.self.now in
    let was = scanner_of old in
    let mid = scanner_of c.takes.new.self in
    let said : c.answers.result ≡ scanner_answers old.shape c.args.scanner (words_of was) (put was.readings c.args.gauge (Some c.args.value)) =
    c.answers.ensures ∙ ap (λ t. scanner_answers t c.args.scanner (words_of mid) mid.readings) c.takes.ensures.shape
    ∙ ap (λ s. scanner_answers old.shape c.args.scanner (words_of s) s.readings) c.takes.ensures.part in
    let yes : c.answers.result ≡ true = search (rules, c.if-not-answers.false) in
    c.takes.ensures.part
    ∙ ap (λ b. cond b (scanner_takes was c.args.gauge c.args.value) (scanner_lets_go was c.args.pass)) (sym yes ∙ said)
