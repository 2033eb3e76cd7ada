use Rattle.std.proofs.Common.{◌∙◌, ℕ, Some, List, [], ◌∷◌, ◌++◌, length, ap, subst, arith}
use Rattle.std.specs.List.{flat_map}
use Rattle.kbytes.specs.Field.{field, String, Array}
use Rattle.kwire.proofs.Laws.{Put, put_start, put_on, then_field, on_ok}
use Rattle.kanswer.specs.ToldParts.{parts_by}
use Rattle.kanswer.proofs.ToldAt.{parts_length}
use Rattle.kanswer.proofs.told_topics.put_topic.Goals as goal

pub overflow_cast-parts : goal.overflow_cast-parts
overflow_cast-parts g c =
    let size = parts_length (g.A.Answered.told c.args.answered.now) _ c.args.accepted.now c.args.readings.now c.requires.accepted c.requires.readings in
    omega (arith, ap length c.parts-parts.ensures, size, c.requires.in_range.1.0)

pub put_array-requires : goal.put_array-requires
put_array-requires g c =
    let size = parts_length (g.A.Answered.told c.args.answered.now) _ c.args.accepted.now c.args.readings.now c.requires.accepted c.requires.readings in
    omega (arith, ap length c.parts-parts.ensures, size, c.requires.in_range.1.0)

pub returns : goal.returns
returns g c =
    let old = c.args.out.now in
    let o1 = c.put_string.new.out in
    let o2 = c.put_array.new.out in
    let o3 = c.put_parts.new.out in
    let name = g.A.Answered.name c.args.topic.now in
    let parts = g.A.Answered.parts c.args.topic.now in
    let tells = g.A.Answered.told c.args.answered.now in
    let kind = g.A.Answered.told_fields c.args.answered.now in
    let told = parts_by tells parts c.args.accepted.now c.args.readings.now in
    let n : ℕ = length told in
    let size = parts_length tells parts c.args.accepted.now c.args.readings.now c.requires.accepted c.requires.readings in
    let p1 = then_field old old o1 [] (String name) (put_start old) (c.in_ok-put_string.ensures.ok ∙ ap (λ (bytes : List ℕ). old ++ field (String bytes)) c.name.ensures) in
    let p2 = then_field old o1 o2 (String name ∷ []) (Array (Some n)) p1 (c.in_ok-put_array.ensures.ok ∙ ap (λ (k : ℕ). o1 ++ field (Array (Some k))) (omega (arith, ap length c.parts-parts.ensures, size))) in
    on_ok c.put_parts.result
    (λ is. put_on old o2 o3 (String name ∷ Array (Some n) ∷ []) (flat_map kind told) p2
    (subst (λ ps. Put o2 o3 (flat_map kind (parts_by tells ps c.args.accepted.now c.args.readings.now))) c.parts-parts.ensures is))
    c.put_parts.ensures
