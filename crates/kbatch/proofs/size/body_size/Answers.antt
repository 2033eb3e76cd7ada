use Rattle.std.proofs.Common.{◌-◌, ◌^◌, min, length, pos, ap, ◌∙◌, rules}
use Rattle.std.specs.Prelude.{FitsSigned}
use Rattle.std.specs.Int.{w64}
use Rattle.std.proofs.lemmas.Int.{to_z-of_z}
use Rattle.std.specs.List.{flat_map}
use Rattle.kbytes.specs.Field.{field, Varint, Varlong}
use Rattle.kbatch.specs.Record.{header_bytes}
use Rattle.kbatch.proofs.Sizes.{body_counted}
use Rattle.kbatch.proofs.size.body_size.Goals as goal

pub returns-clause-size : goal.returns-clause-size
returns-clause-size c =
    let fits : FitsSigned w64 c.args.record.now.time = search rules in
    let time = c.time_size.ensures.size ∙ ap (λ z. length (field (Varlong z))) (to_z-of_z w64 c.args.record.now.time fits) in
    body_counted (2 ^ 64 - 1) c.args.delta c.args.record.now c.time_size.result c.length_size.result c.length_size-count.result c.nullable_size.result c.nullable_size-2.result c.headers_size.result c.saturating_add.result c.saturating_add-2.result c.saturating_add-3.result
    time c.length_size.ensures.size (c.length_size-count.ensures.size ∙ ap (λ n. length (field (Varint (pos n)))) c.len.ensures) c.nullable_size.ensures c.nullable_size-2.ensures (c.headers_size.ensures ∙ ap (λ hs. min (length (flat_map header_bytes hs)) (2 ^ 64 - 1)) c.as_slice.ensures) c.saturating_add.ensures c.saturating_add-2.ensures c.saturating_add-3.ensures
