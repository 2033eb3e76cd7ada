use Rattle.std.proofs.Common.{◌∙◌, ℤ, [], ◌∷◌, ◌++◌, ap, rules}
use Rattle.std.specs.Int.{w16, w32, w64}
use mir.Val.{SFits, of_z, to_z}
use Rattle.std.proofs.lemmas.Int.{to_z-of_z}
use Rattle.kbytes.specs.Field.{field, fields, Int32, Int64}
use Rattle.kwire.specs.Apis.{has_log_start}
use Rattle.kwire.specs.IsRequest.{only_field}
use Rattle.kwire.proofs.Spelled.{put_start, put_on, then_field, on_ok, started}
use Rattle.kwire.proofs.put_request.FetchPartWritten.put.Goals as goal

pub returns : goal.returns
returns c =
    let old = c.args.out.now in
    let part = c.args.self.now in
    let version = c.args.version in
    let o1 = c.put_i32.new.out in
    let o2 = c.put_i64.new.out in
    let o3 = c.put_start.new.out in
    let o4 = c.put_i32-2.new.out in
    let f1 : SFits w32 part.index = search rules in
    let f2 : SFits w64 part.offset = search rules in
    let f3 : SFits w64 part.log_start = search rules in
    let f4 : SFits w32 part.most = search rules in
    let fs2 = Int32 part.index ∷ Int64 part.offset ∷ [] in
    let start = only_field (has_log_start version) (Int64 part.log_start) [] in
    let p1 = then_field old old o1 [] (Int32 part.index) (put_start old) (c.in_ok-put_i32.ensures.ok ∙ ap (λ (z : ℤ). old ++ field (Int32 z)) (to_z-of_z w32 part.index f1)) in
    let p2 = then_field old o1 o2 (Int32 part.index ∷ []) (Int64 part.offset) p1 (c.in_ok-put_i64.ensures.ok ∙ ap (λ (z : ℤ). o1 ++ field (Int64 z)) (to_z-of_z w64 part.offset f2)) in
    let p3 = put_on old o2 o3 fs2 start p2 (c.in_ok-put_start.ensures
    ∙ ap (λ (v : ℤ). o2 ++ fields (only_field (has_log_start v) (Int64 (to_z w64 (of_z w64 part.log_start))) [])) (to_z-of_z w16 version c.ranges.version)
    ∙ ap (λ (z : ℤ). o2 ++ fields (only_field (has_log_start version) (Int64 z) [])) (to_z-of_z w64 part.log_start f3)) in
    on_ok c.put_i32-2.result
    (λ is. then_field old o3 o4 (fs2 ++ start) (Int32 part.most) p3 (is ∙ ap (λ (z : ℤ). o3 ++ field (Int32 z)) (to_z-of_z w32 part.most f4))
    ∙ ap (λ fs. old ++ fields (fs2 ++ fs)) (started (has_log_start version) (Int64 part.log_start) (Int32 part.most ∷ [])))
    c.put_i32-2.ensures.ok
