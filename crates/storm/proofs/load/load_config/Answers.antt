use Rattle.std.proofs.Common.{◌≡◌, ◌∙◌, [], ◌∷◌, ap, subst, sym}
use Rattle.std.proofs.lemmas.Result.{IfOk-weaker}
use Rattle.trace_file.specs.declared.line.Line.{Line}
use Rattle.trace_file.specs.Contents.{configuration_of}
use Rattle.trace_file.specs.IsInOrder.{AreNewTopics}
use Rattle.storm.specs.Lines.{topic_line}
use Rattle.storm.proofs.Contents.{storm_declares, topic_is_new}
use Rattle.storm.proofs.load.load_config.Goals as goal

pub config_of-requires : goal.config_of-requires
config_of-requires c =
    let line : c.from_ref.result.now ≡ topic_line ∷ [] = c.from_ref.ensures.value ∙ ap (λ (line : Line). line ∷ []) c.in_ok-topic.ensures in
    subst AreNewTopics (sym line) topic_is_new

pub returns : goal.returns
returns c =
    let port = c.args.port in
    let line : c.from_ref.result.now ≡ topic_line ∷ [] = c.from_ref.ensures.value ∙ ap (λ (line : Line). line ∷ []) c.in_ok-topic.ensures in
    IfOk-weaker c.config_of.result _ _ (λ config is seed n. is ∙ ap (configuration_of port) line ∙ storm_declares port seed n) c.config_of.ensures
