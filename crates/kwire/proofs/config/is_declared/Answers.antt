use Rattle.std.proofs.Common.{◌≡◌, ◌≢◌, List, Contains, sym, subst, ◌∙◌, refl}
use Rattle.std.specs.Cmp.Lexicographic.{same_text, other_text}
use Rattle.std.proofs.lemmas.List.{take_all}
use Rattle.kwire.specs.Configuration.{names_of}
use Rattle.kwire.specs.declared.config.Topic.{Topic}
use Rattle.kwire.proofs.Names.{named_here, not_named_more}
use Rattle.kwire.proofs.config.is_declared.Goals as goal

pub returns-then-eq : goal.returns-then-eq
returns-then-eq c =
    let name = c.args.name.now in
    let same : c.topic-item.result.name ≡ name = sym c.as_slice.ensures ∙ same_text c.as_slice.result.now name (sym c.if-eq.true ∙ c.eq.ensures) in
    let has = named_here c.args.topics.now c.loop-topic.topic-index c.topic-item.result name c.loop-topic-test.true c.topic-item.is same in
    (λ _. has, λ _. refl)

pub loop-topic-preserved : goal.loop-topic-preserved
loop-topic-preserved c =
    let name = c.args.name.now in
    let other : c.as_slice.result.now ≢ name = other_text c.as_slice.result.now name (sym c.if-eq.false ∙ c.eq.ensures) in
    not_named_more c.args.topics.now c.loop-topic.topic-index c.topic-item.result name c.loop-topic-test.true c.topic-item.is (λ e. other (c.as_slice.ensures ∙ e)) c.loop-topic.invariant

pub returns : goal.returns
returns c =
    let all = take_all c.loop-topic.topic-index c.args.topics.now c.loop-topic-test.false in
    (λ h. cc h, λ h. absurd (c.loop-topic.invariant (subst (λ (ts : List Topic). Contains (names_of ts) c.args.name.now) (sym all) h)))
