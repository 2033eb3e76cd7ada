use Rattle.std.proofs.Common.{◌∙◌, ℤ, Some, [], ◌∷◌, ◌++◌, sym, ap, subst, rules}
use Rattle.std.specs.Prelude.{OnOk}
use Rattle.std.specs.Int.{w8, w16, w32, w64}
use mir.Val.{SFits, of_z, to_z}
use Rattle.std.proofs.lemmas.Int.{to_z-of_z}
use Rattle.kbytes.specs.Field.{field, fields, Int16, Int32, Int64, Array, Records}
use Rattle.kwire.specs.Apis.{has_log_start}
use Rattle.kwire.specs.IsRequest.{only_field}
use Rattle.kwire.specs.declared.reply.FetchedPart.{FetchedPart}
use Rattle.kwire.specs.Spelling.{aborted, fetched_part_fields}
use Rattle.kwire.specs.IsSpellable.{AreInRange}
use Rattle.kwire.proofs.Spelled.{Put, put_start, put_on, then_field, on_ok, started, records_short}
use Rattle.std.proofs.lemmas.List.{append_assoc}
use Rattle.kwire.proofs.put_fetched.put_fetched_part.Goals as goal

pub put_records-requires : goal.put_records-requires
put_records-requires c =
    let told : FetchedPart = record { index = c.part.inside.index; code = c.part.inside.code; high = c.part.inside.high; start = c.part.inside.start; records = c.part.inside.records.now } in
    records_short c.args.version c.args.isolation told (subst (λ (p : FetchedPart). AreInRange (fetched_part_fields c.args.version c.args.isolation p)) (sym c.part.view_is) c.requires)

pub returns : goal.returns
returns c =
    let old = c.args.out.now in
    let seen = c.part.inside in
    let part : FetchedPart = record { index = seen.index; code = seen.code; high = seen.high; start = seen.start; records = seen.records.now } in
    let version = c.args.version in
    let isolation = c.args.isolation in
    let o1 = c.put_i32.new.out in
    let o2 = c.put_i16.new.out in
    let o3 = c.put_i64.new.out in
    let o4 = c.put_i64-2.new.out in
    let o5 = c.put_start.new.out in
    let o6 = c.put_aborted.new.out in
    let o7 = c.put_records.new.out in
    let f1 : SFits w32 part.index = search rules in
    let f2 : SFits w16 part.code = search rules in
    let f3 : SFits w64 part.high = search rules in
    let f4 : SFits w64 part.start = search rules in
    let high = to_z-of_z w64 part.high f3 in
    let fs2 = Int32 part.index ∷ Int16 part.code ∷ [] in
    let fs4 = fs2 ++ Int64 part.high ∷ Int64 part.high ∷ [] in
    let start = only_field (has_log_start version) (Int64 part.start) [] in
    let p1 = then_field old old o1 [] (Int32 part.index) (put_start old) (c.in_ok-put_i32.ensures.ok ∙ ap (λ (z : ℤ). old ++ field (Int32 z)) (to_z-of_z w32 part.index f1)) in
    let p2 = then_field old o1 o2 (Int32 part.index ∷ []) (Int16 part.code) p1 (c.in_ok-put_i16.ensures.ok ∙ ap (λ (z : ℤ). o1 ++ field (Int16 z)) (to_z-of_z w16 part.code f2)) in
    let p3 = then_field old o2 o3 fs2 (Int64 part.high) p2 (c.in_ok-put_i64.ensures.ok ∙ ap (λ (z : ℤ). o2 ++ field (Int64 z)) high) in
    let p4 = then_field old o3 o4 (fs2 ++ Int64 part.high ∷ []) (Int64 part.high) p3 (c.in_ok-put_i64-2.ensures.ok ∙ ap (λ (z : ℤ). o3 ++ field (Int64 z)) high) in
    let p5 = put_on old o4 o5 fs4 start p4 (c.in_ok-put_start.ensures
    ∙ ap (λ (v : ℤ). o4 ++ fields (only_field (has_log_start v) (Int64 (to_z w64 (of_z w64 part.start))) [])) (to_z-of_z w16 version c.ranges.version)
    ∙ ap (λ (z : ℤ). o4 ++ fields (only_field (has_log_start version) (Int64 z) [])) (to_z-of_z w64 part.start f4)) in
    let p6 = then_field old o5 o6 (fs4 ++ start) (Array (aborted isolation)) p5 (c.in_ok-put_aborted.ensures ∙ ap (λ (z : ℤ). o5 ++ field (Array (aborted z))) (to_z-of_z w8 isolation c.ranges.isolation)) in
    let last = Array (aborted isolation) ∷ Records (Some part.records) ∷ [] in
    let whole = append_assoc (fs4 ++ start) (Array (aborted isolation) ∷ []) (Records (Some part.records) ∷ []) ∙ append_assoc fs4 start last ∙ ap (λ fs. fs4 ++ fs) (started (has_log_start version) (Int64 part.start) last) in
    subst (λ (p : FetchedPart). OnOk c.put_records.result (Put old o7 (fetched_part_fields version isolation p))) c.part.view_is
    (on_ok c.put_records.result
    (λ is. then_field old o6 o7 ((fs4 ++ start) ++ Array (aborted isolation) ∷ []) (Records (Some part.records)) p6 is ∙ ap (λ fs. old ++ fields fs) whole)
    c.put_records.ensures.ok)
