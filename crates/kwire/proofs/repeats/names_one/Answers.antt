use Rattle.std.proofs.Common.{◌≡◌, List, length, ap, ◌∙◌, arith}
use Rattle.std.specs.List.{flat_map}
use Rattle.kwire.specs.declared.request.ProduceTopic.{ProduceTopic}
use Rattle.kwire.specs.declared.request.FetchTopic.{FetchTopic}
use Rattle.kwire.specs.declared.view.AskView.{AskView}
use Rattle.kwire.specs.IsRequest.{named_of}
use Rattle.kwire.specs.Views.{ask_of}
use Rattle.kwire.proofs.TwiceNamed.{named_count}
use Rattle.kwire.proofs.repeats.names_one.Goals as goal

pub returns-in-Produce : goal.returns-in-Produce
returns-in-Produce c = λ one.
    let topics = c.in-Produce.topics in
    let few = c.have_one.ensures one in
    let named = ap (λ (ask : AskView). length (named_of (ask_of ask))) c.in-Produce.is in
    let counted : length (named_of (ask_of c.args.ask.now)) ≡ length (flat_map (λ (t : ProduceTopic). t.parts) topics) =
    named ∙ named_count (λ (t : ProduceTopic). t.parts) (λ t part. record { topic = t.name; index = part.index }) topics in
    omega (arith, few, counted, ap (λ (ts : List ProduceTopic). length (flat_map (λ (t : ProduceTopic). t.parts) ts)) c.as_slice.ensures)

pub returns-in-Fetch : goal.returns-in-Fetch
returns-in-Fetch c = λ one.
    let topics = c.in-Fetch.topics in
    let few = c.have_one-in-Fetch.ensures one in
    let named = ap (λ (ask : AskView). length (named_of (ask_of ask))) c.in-Fetch.is in
    let counted : length (named_of (ask_of c.args.ask.now)) ≡ length (flat_map (λ (t : FetchTopic). t.parts) topics) =
    named ∙ named_count (λ (t : FetchTopic). t.parts) (λ t part. record { topic = t.name; index = part.index }) topics in
    omega (arith, few, counted, ap (λ (ts : List FetchTopic). length (flat_map (λ (t : FetchTopic). t.parts) ts)) c.as_slice-in-Fetch.ensures)
