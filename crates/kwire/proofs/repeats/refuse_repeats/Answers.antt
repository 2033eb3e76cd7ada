use Rattle.std.proofs.Common.{ℕ, [], map, sym, ap, ◌∙◌, rules}
use Rattle.std.specs.Int.{w32}
use mir.Val.{SFits}
use Rattle.std.proofs.lemmas.Int.{to_z-of_z}
use Rattle.kwire.specs.declared.frame.WireFault.TheVariants.{Twice}
use Rattle.kwire.specs.Mentions.{view, repeat_after}
use Rattle.kwire.specs.Refusal.{mentions_of}
use Rattle.kwire.specs.Views.{ask_of}
use Rattle.kwire.proofs.TwiceNamed.{no_two, first_repeat_of}
use Rattle.kwire.proofs.MentionLoops.{no_place, a_place}
use Rattle.kwire.proofs.repeats.refuse_repeats.Goals as goal

pub returns-in-None-clause-once : goal.returns-in-None-clause-once
returns-in-None-clause-once c =
    let found = sym c.first_repeat.ensures ∙ c.in-None.is in
    let read = ap (map view) c.as_slice.ensures ∙ c.in_ok-mentions.ensures in
    no_two (ask_of c.args.ask.now) (sym (ap (repeat_after []) read) ∙ no_place (repeat_after [] (map view c.as_slice.result.now)) found)

pub returns-clause-twice : goal.returns-clause-twice
returns-clause-twice c = λ other.
    let partition = c.in-Some.partition in
    let fits : SFits w32 partition = search rules in
    let found = sym c.first_repeat.ensures ∙ c.in-Some.is in
    let read = ap (map view) c.as_slice.ensures ∙ c.in_ok-mentions.ensures in
    let place = a_place (repeat_after [] (map view c.as_slice.result.now)) c.in-Some.topic partition found in
    let m = place.0 in (
      m,
      first_repeat_of (mentions_of (ask_of c.args.ask.now)) m (sym (ap (repeat_after []) read) ∙ place.1),
      ap (Twice c.in-Some.topic) (to_z-of_z w32 partition fits ∙ sym place.2.1) ∙ ap (λ (e : ℕ). Twice e m.index) (sym place.2.0),
    )
