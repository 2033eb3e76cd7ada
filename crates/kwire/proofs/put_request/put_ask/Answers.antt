use Rattle.std.proofs.Common.{◌∙◌, ℕ, ℤ, Some, [], ◌∷◌, ◌++◌, length, sym, ap, rules}
use Rattle.std.specs.Int.{w8, w16, w32}
use Rattle.std.specs.List.{flat_map}
use mir.Val.{SFits, of_z, to_z}
use Rattle.std.proofs.lemmas.Int.{to_z-of_z}
use Rattle.kbytes.specs.Field.{field, fields, Int8, Int32, Array}
use Rattle.kwire.specs.declared.request.Ask.{Ask}
use Rattle.kwire.specs.IsRequest.{fetch_topic_fields, ask_fields}
use Rattle.kwire.proofs.Spelled.{put_start, put_on, then_field, on_ok}
use Rattle.kwire.proofs.put_request.put_ask.Goals as goal

pub returns-in_ok-put_array-in-Fetch : goal.returns-in_ok-put_array-in-Fetch
returns-in_ok-put_array-in-Fetch c =
    let old = c.args.out.now in
    let ask = c.in-Fetch in
    let o1 = c.put_i32-in-Fetch.new.out in
    let o2 = c.put_i32-in-Fetch-2.new.out in
    let o3 = c.put_i32-in-Fetch-3.new.out in
    let o4 = c.put_i32-in-Fetch-4.new.out in
    let o5 = c.put_i8.new.out in
    let o6 = c.put_array-in-Fetch.new.out in
    let o7 = c.put_items-in-Fetch.new.out in
    let f1 : SFits w32 ask.replica = search rules in
    let f2 : SFits w32 ask.max_wait = search rules in
    let f3 : SFits w32 ask.min_bytes = search rules in
    let f4 : SFits w32 ask.max_bytes = search rules in
    let f5 : SFits w8 ask.isolation = search rules in
    let fs1 = Int32 ask.replica ∷ [] in
    let fs2 = Int32 ask.replica ∷ Int32 ask.max_wait ∷ [] in
    let fs3 = Int32 ask.replica ∷ Int32 ask.max_wait ∷ Int32 ask.min_bytes ∷ [] in
    let fs4 = Int32 ask.replica ∷ Int32 ask.max_wait ∷ Int32 ask.min_bytes ∷ Int32 ask.max_bytes ∷ [] in
    let fs5 = Int32 ask.replica ∷ Int32 ask.max_wait ∷ Int32 ask.min_bytes ∷ Int32 ask.max_bytes ∷ Int8 ask.isolation ∷ [] in
    let fs6 = Int32 ask.replica ∷ Int32 ask.max_wait ∷ Int32 ask.min_bytes ∷ Int32 ask.max_bytes ∷ Int8 ask.isolation ∷ Array (Some (length ask.topics)) ∷ [] in
    let p1 = then_field old old o1 [] (Int32 ask.replica) (put_start old) (c.in_ok-put_i32-in-Fetch.ensures.ok ∙ ap (λ (z : ℤ). old ++ field (Int32 z)) (to_z-of_z w32 ask.replica f1)) in
    let p2 = then_field old o1 o2 fs1 (Int32 ask.max_wait) p1 (c.in_ok-put_i32-in-Fetch-2.ensures.ok ∙ ap (λ (z : ℤ). o1 ++ field (Int32 z)) (to_z-of_z w32 ask.max_wait f2)) in
    let p3 = then_field old o2 o3 fs2 (Int32 ask.min_bytes) p2 (c.in_ok-put_i32-in-Fetch-3.ensures.ok ∙ ap (λ (z : ℤ). o2 ++ field (Int32 z)) (to_z-of_z w32 ask.min_bytes f3)) in
    let p4 = then_field old o3 o4 fs3 (Int32 ask.max_bytes) p3 (c.in_ok-put_i32-in-Fetch-4.ensures.ok ∙ ap (λ (z : ℤ). o3 ++ field (Int32 z)) (to_z-of_z w32 ask.max_bytes f4)) in
    let p5 = then_field old o4 o5 fs4 (Int8 ask.isolation) p4 (c.in_ok-put_i8-in-Fetch.ensures.ok ∙ ap (λ (z : ℤ). o4 ++ field (Int8 z)) (to_z-of_z w8 ask.isolation f5)) in
    let p6 = then_field old o5 o6 fs5 (Array (Some (length ask.topics))) p5 (c.in_ok-put_array-in-Fetch.ensures.ok ∙ ap (λ (n : ℕ). o5 ++ field (Array (Some n))) c.len-in-Fetch.ensures) in
    let topics = c.as_slice-in-Fetch.result.now in
    let f0 : SFits w16 ask.version = search rules in
    let level = to_z w16 (of_z w16 ask.version) in
    on_ok c.put_items-in-Fetch.result
    (λ is. put_on old o6 o7 fs6 (flat_map (fetch_topic_fields level) topics) p6 is ∙ ap (λ (z : ℤ). old ++ fields (fs6 ++ flat_map (fetch_topic_fields z) topics)) (to_z-of_z w16 ask.version f0) ∙ ap (λ ts. old ++ fields (fs6 ++ flat_map (fetch_topic_fields ask.version) ts)) c.as_slice-in-Fetch.ensures ∙ ap (λ (a : Ask). old ++ fields (ask_fields a)) (sym ask.is))
    c.put_items-in-Fetch.ensures
