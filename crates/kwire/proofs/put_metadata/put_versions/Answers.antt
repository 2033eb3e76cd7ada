use Rattle.std.proofs.Common.{◌∙◌, ℤ, Some, [], ◌∷◌, ◌++◌, ap}
use Rattle.std.specs.Int.{w16}
use Rattle.std.proofs.lemmas.Int.{to_z-of_z}
use Rattle.kbytes.specs.Field.{field, Int16, Array}
use Rattle.kwire.specs.declared.api.Api.TheVariants.{Produce as ProduceApi, Fetch as FetchApi, Metadata as MetadataApi, Versions as VersionsApi}
use Rattle.kwire.specs.Spelling.{api_fields}
use Rattle.kwire.proofs.Spelled.{put_start, put_on, then_field, on_ok}
use Rattle.kwire.proofs.put_metadata.put_versions.Goals as goal

pub returns : goal.returns
returns c =
    let old = c.args.out.now in
    let o1 = c.put_i16.new.out in
    let o2 = c.put_array.new.out in
    let o3 = c.put_api.new.out in
    let o4 = c.put_api-2.new.out in
    let o5 = c.put_api-3.new.out in
    let o6 = c.put_api-4.new.out in
    let fs1 = Int16 c.args.code ∷ [] in
    let fs2 = Int16 c.args.code ∷ Array (Some 4) ∷ [] in
    let fs3 = fs2 ++ api_fields ProduceApi in
    let fs4 = fs3 ++ api_fields FetchApi in
    let fs5 = fs4 ++ api_fields MetadataApi in
    let p1 = then_field old old o1 [] (Int16 c.args.code) (put_start old) (c.in_ok-put_i16.ensures.ok ∙ ap (λ (z : ℤ). old ++ field (Int16 z)) (to_z-of_z w16 c.args.code c.ranges.code)) in
    let p2 = then_field old o1 o2 fs1 (Array (Some 4)) p1 c.in_ok-put_array.ensures.ok in
    let p3 = put_on old o2 o3 fs2 (api_fields ProduceApi) p2 c.in_ok-put_api.ensures in
    let p4 = put_on old o3 o4 fs3 (api_fields FetchApi) p3 c.in_ok-put_api-2.ensures in
    let p5 = put_on old o4 o5 fs4 (api_fields MetadataApi) p4 c.in_ok-put_api-3.ensures in
    on_ok c.put_api-4.result (λ is. put_on old o5 o6 fs5 (api_fields VersionsApi) p5 is) c.put_api-4.ensures
