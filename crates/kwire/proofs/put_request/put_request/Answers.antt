use Rattle.std.proofs.Common.{◌∙◌, ℕ, ℤ, List, Option, [], ◌∷◌, ◌++◌, ap, rules}
use Rattle.std.specs.Int.{w16, w32}
use mir.Val.{SFits}
use Rattle.std.proofs.lemmas.Int.{to_z-of_z}
use Rattle.kbytes.specs.Field.{field, Int16, Int32, NullableString}
use Rattle.kwire.specs.Apis.{key_of_api}
use Rattle.kwire.specs.IsRequest.{version_of, api_of, ask_fields, head_fields}
use Rattle.kwire.proofs.Spelled.{put_start, put_on, then_field, on_ok}
use Rattle.kwire.proofs.put_request.put_request.Goals as goal

pub returns : goal.returns
returns c =
    let request = c.args.request.now in
    let key = key_of_api (api_of request.ask) in
    let version = version_of request.ask in
    let old = c.args.out.now in
    let o1 = c.put_i16.new.out in
    let o2 = c.put_i16-2.new.out in
    let o3 = c.put_i32.new.out in
    let o4 = c.put_nullable_string.new.out in
    let f1 : SFits w16 c.key_of.result = search rules in
    let f2 : SFits w16 c.asked_version.result = search rules in
    let f3 : SFits w32 request.correlation = search rules in
    let fs1 = Int16 key ∷ [] in
    let fs2 = Int16 key ∷ Int16 version ∷ [] in
    let fs4 = head_fields request ++ NullableString request.client ∷ [] in
    let p1 = then_field old old o1 [] (Int16 key) (put_start old) (c.in_ok-put_i16.ensures.ok ∙ ap (λ (z : ℤ). old ++ field (Int16 z)) (to_z-of_z w16 c.key_of.result f1 ∙ c.key_of.ensures ∙ ap key_of_api c.asked_api-api.ensures)) in
    let p2 = then_field old o1 o2 fs1 (Int16 version) p1 (c.in_ok-put_i16-2.ensures.ok ∙ ap (λ (z : ℤ). o1 ++ field (Int16 z)) (to_z-of_z w16 c.asked_version.result f2 ∙ c.asked_version.ensures)) in
    let p3 = then_field old o2 o3 fs2 (Int32 request.correlation) p2 (c.in_ok-put_i32.ensures.ok ∙ ap (λ (z : ℤ). o2 ++ field (Int32 z)) (to_z-of_z w32 request.correlation f3)) in
    let p4 = then_field old o3 o4 (head_fields request) (NullableString request.client) p3 (c.in_ok-put_nullable_string.ensures.ok ∙ ap (λ (b : Option (List ℕ)). o3 ++ field (NullableString b)) c.slice_of.ensures) in
    on_ok c.put_ask.result (put_on old o4 c.put_ask.new.out fs4 (ask_fields request.ask) p4) c.put_ask.ensures
