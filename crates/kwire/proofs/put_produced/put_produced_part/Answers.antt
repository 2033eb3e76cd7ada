use Rattle.std.proofs.Common.{◌∙◌, ℤ, negsuc, [], ◌∷◌, ◌++◌, ap, rules}
use Rattle.std.specs.Int.{w16, w32, w64}
use mir.Val.{SFits, of_z, to_z}
use Rattle.std.proofs.lemmas.Int.{to_z-of_z}
use Rattle.kbytes.specs.Field.{field, fields, Int16, Int32, Int64}
use Rattle.kwire.specs.Apis.{has_log_start}
use Rattle.kwire.specs.IsRequest.{only_field}
use Rattle.kwire.proofs.Spelled.{put_start, put_on, then_field, on_ok}
use Rattle.kwire.proofs.put_produced.put_produced_part.Goals as goal

pub returns : goal.returns
returns c =
    let old = c.args.out.now in
    let part = c.args.part.now in
    let version = c.args.version in
    let o1 = c.put_i32.new.out in
    let o2 = c.put_i16.new.out in
    let o3 = c.put_i64.new.out in
    let o4 = c.put_i64-2.new.out in
    let o5 = c.put_start.new.out in
    let f1 : SFits w32 part.index = search rules in
    let f2 : SFits w16 part.code = search rules in
    let f3 : SFits w64 part.base = search rules in
    let f4 : SFits w64 part.start = search rules in
    let fs3 = Int32 part.index ∷ Int16 part.code ∷ Int64 part.base ∷ [] in
    let p1 = then_field old old o1 [] (Int32 part.index) (put_start old) (c.in_ok-put_i32.ensures.ok ∙ ap (λ (z : ℤ). old ++ field (Int32 z)) (to_z-of_z w32 part.index f1)) in
    let p2 = then_field old o1 o2 (Int32 part.index ∷ []) (Int16 part.code) p1 (c.in_ok-put_i16.ensures.ok ∙ ap (λ (z : ℤ). o1 ++ field (Int16 z)) (to_z-of_z w16 part.code f2)) in
    let p3 = then_field old o2 o3 (Int32 part.index ∷ Int16 part.code ∷ []) (Int64 part.base) p2 (c.in_ok-put_i64.ensures.ok ∙ ap (λ (z : ℤ). o2 ++ field (Int64 z)) (to_z-of_z w64 part.base f3)) in
    let p4 = then_field old o3 o4 fs3 (Int64 (negsuc 0)) p3 c.in_ok-put_i64-2.ensures.ok in
    on_ok c.put_start.result
    (λ is. put_on old o4 o5 (fs3 ++ Int64 (negsuc 0) ∷ []) (only_field (has_log_start version) (Int64 part.start) []) p4 (is
    ∙ ap (λ (v : ℤ). o4 ++ fields (only_field (has_log_start v) (Int64 (to_z w64 (of_z w64 part.start))) [])) (to_z-of_z w16 version c.ranges.version)
    ∙ ap (λ (z : ℤ). o4 ++ fields (only_field (has_log_start version) (Int64 z) [])) (to_z-of_z w64 part.start f4)))
    c.put_start.ensures
