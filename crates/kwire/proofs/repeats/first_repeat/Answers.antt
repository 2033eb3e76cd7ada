use Rattle.std.proofs.Common.{ℤ, pos, [], get_or, Some, sym, ap, ◌∙◌, rules}
use Rattle.std.specs.Int.{w32}
use mir.Val.{SFits}
use Rattle.std.proofs.lemmas.Int.{to_z-of_z}
use Rattle.kwire.specs.declared.repeats.Mention.{Mention}
use Rattle.kwire.proofs.MentionLoops.{none_start, none_more, repeat_found, none_found}
use Rattle.kwire.proofs.repeats.first_repeat.Goals as goal

-- what is read past the end
abbrev nothing : Mention
nothing = record { entry = 0; topic = record { ref_ptr = (0, 0); now = [] }; index = pos 0 }

pub loop-place-init : goal.loop-place-init
loop-place-init c = none_start c.args.mentions.now

pub returns-then-is_mentioned : goal.returns-then-is_mentioned
returns-then-is_mentioned c =
    let ms = c.args.mentions.now in
    let m = get_or ms c.loop-place.place nothing in
    let fits : SFits w32 m.index = search rules in
    let found = repeat_found ms c.loop-place.place nothing c.loop-place-test.true (sym c.if-is_mentioned.ensures) c.loop-place.invariant in
    ap (λ (z : ℤ). Some (m.entry, z)) (to_z-of_z w32 m.index fits) ∙ sym found

pub loop-place-preserved : goal.loop-place-preserved
loop-place-preserved c = none_more c.args.mentions.now c.loop-place.place nothing c.loop-place-test.true (sym c.if-is_mentioned.ensures) c.loop-place.invariant

pub returns : goal.returns
returns c = sym (none_found c.args.mentions.now c.loop-place.place c.loop-place-test.false c.loop-place.invariant)
