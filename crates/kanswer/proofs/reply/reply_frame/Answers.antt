use Rattle.std.proofs.Common.{◌≡◌, refl, sym, ap, subst, ◌∙◌, rules}
use Rattle.std.proofs.lemmas.Result.{IfOk-weaker}
use Rattle.kwire.specs.Views.{ask_of}
use Rattle.kwire.specs.Spelling.{spelling}
use Rattle.kwire.specs.IsSpellable.{IsSpellable}
use Rattle.kwire.specs.declared.request.Request.{Request}
use Rattle.kanswer.specs.Answer.{answer}
use Rattle.kanswer.proofs.Spellable.{answer_spellable}
use Rattle.kanswer.proofs.ToldOnce.{produced_told, fetched_told, answer_told}
use Rattle.kanswer.proofs.reply.reply_frame.Goals as goal

pub produced_frame-requires-clause-spellable : goal.produced_frame-requires-clause-spellable
produced_frame-requires-clause-spellable c =
    let config = c.args.config.now in
    let request = c.args.request.now in
    let results = c.args.accepted.now in
    let readings = c.args.readings.now in
    let shown = c.requires.read.0 in
    let are = c.requires.read.1 in
    let a = c.in-Produce in
    let is = sym (ap (λ (r : Request). r.ask) c.request.view_is) ∙ ap ask_of a.is in
    let told = produced_told config request.ask results readings shown are a.version a.acks a.timeout _ a.topics _ _ is (search rules) (search rules) c.as_slice.ensures refl in
    let whole = answer_told config request shown c.request.inside.correlation _ (search rules) (ap (λ (r : Request). r.correlation) c.request.view_is) told in
    subst IsSpellable (sym whole) (answer_spellable config request c.requires.asked.0 results readings shown c.requires.declared c.requires.asked.1 are c.requires.room)

pub fetched_frame-requires-clause-spellable : goal.fetched_frame-requires-clause-spellable
fetched_frame-requires-clause-spellable c =
    let config = c.args.config.now in
    let request = c.args.request.now in
    let results = c.args.accepted.now in
    let readings = c.args.readings.now in
    let shown = c.requires.read.0 in
    let are = c.requires.read.1 in
    let a = c.in-Fetch in
    let is = sym (ap (λ (r : Request). r.ask) c.request.view_is) ∙ ap ask_of a.is in
    let told = fetched_told config request.ask results readings shown are a.version a.replica a.max_wait a.min_bytes a.max_bytes a.isolation a.topics _ _ is (search rules) (search rules) c.as_slice-in-Fetch.ensures refl in
    let whole = answer_told config request shown c.request.inside.correlation _ (search rules) (ap (λ (r : Request). r.correlation) c.request.view_is) told in
    subst IsSpellable (sym whole) (answer_spellable config request c.requires.asked.0 results readings shown c.requires.declared c.requires.asked.1 are c.requires.room)

pub reply_bytes-requires : goal.reply_bytes-requires
reply_bytes-requires c =
    let config = c.args.config.now in
    let request = c.args.request.now in
    let shown = c.requires.read.0 in
    let is : c.in_ok-reply-in-Metadata.reply ≡ answer config request shown = c.in_ok-reply-in-Metadata.ensures shown c.requires.read.1 in
    subst IsSpellable (sym is) (answer_spellable config request c.requires.asked.0 c.args.accepted.now c.args.readings.now shown c.requires.declared c.requires.asked.1 c.requires.read.1 c.requires.room)

pub returns-in-Produce : goal.returns-in-Produce
returns-in-Produce c =
    let config = c.args.config.now in
    let request = c.args.request.now in
    let a = c.in-Produce in
    let is = sym (ap (λ (r : Request). r.ask) c.request.view_is) ∙ ap ask_of a.is in
    IfOk-weaker c.produced_frame.result _ _
    (λ frame written shown are.
    let told = produced_told config request.ask c.args.accepted.now c.args.readings.now shown are a.version a.acks a.timeout _ a.topics _ _ is (search rules) (search rules) c.as_slice.ensures refl in
    written ∙ ap spelling (answer_told config request shown c.request.inside.correlation _ (search rules) (ap (λ (r : Request). r.correlation) c.request.view_is) told))
    c.produced_frame.ensures

pub returns-in-Fetch : goal.returns-in-Fetch
returns-in-Fetch c =
    let config = c.args.config.now in
    let request = c.args.request.now in
    let a = c.in-Fetch in
    let is = sym (ap (λ (r : Request). r.ask) c.request.view_is) ∙ ap ask_of a.is in
    IfOk-weaker c.fetched_frame.result _ _
    (λ frame written shown are.
    let told = fetched_told config request.ask c.args.accepted.now c.args.readings.now shown are a.version a.replica a.max_wait a.min_bytes a.max_bytes a.isolation a.topics _ _ is (search rules) (search rules) c.as_slice-in-Fetch.ensures refl in
    written ∙ ap spelling (answer_told config request shown c.request.inside.correlation _ (search rules) (ap (λ (r : Request). r.correlation) c.request.view_is) told))
    c.fetched_frame.ensures
