use Rattle.std.proofs.Common.{◌∙◌, ℤ, negsuc, Ok, ◌∷◌, [], sym, ap, rules}
use Rattle.std.specs.Int.{w32, w64}
use mir.Val.{SFits, of_z, to_z}
use Rattle.std.proofs.lemmas.Int.{to_z-of_z}
use Rattle.kbytes.specs.Field.{Int32, Int64}
use Rattle.kwire.specs.Apis.{has_log_start}
use Rattle.kwire.specs.IsRequest.{fetch_part_fields, only_field}
use Rattle.kwire.specs.Reading.{ReadFields, layout_at, place_of_fault}
use Rattle.kwire.specs.declared.frame.WireFault.TheVariants.{BadRequest}
use Rattle.kwire.proofs.ItemLoops.{handed_on}
use Rattle.kwire.proofs.FetchParts.{layout_by, part_read, most_refused, start_refused, given_same}
use Rattle.kwire.proofs.read_fetch.FetchPartItem.read.Goals as goal

pub returns-in_err-log_start-clause-exact : goal.returns-in_err-log_start-clause-exact
returns-in_err-log_start-clause-exact c =
    let version = c.args.head.version in
    let named = c.args._named.now in
    let b = has_log_start version in
    let why = c.in_err-log_start.field-0.0 in
    handed_on (fetch_part_fields version) c.from_residual-in_err-log_start.result why named c.read_log_start.new.reader (layout_at (layout_by b) named c.args.reader.now) c.from_residual-in_err-log_start.ensures.1
    (start_refused named c.args.reader.now c.i32.new.self c.i64.new.self c.read_log_start.new.reader c.in_ok-index.index c.in_ok-offset.offset c.in_ok-index.ensures.exact c.in_ok-offset.ensures.exact b why c.in_err-log_start.ensures.told c.in_err-log_start.ensures.untold)

pub returns-in_err-most-clause-exact : goal.returns-in_err-most-clause-exact
returns-in_err-most-clause-exact c =
    let version = c.args.head.version in
    let named = c.args._named.now in
    let b = has_log_start version in
    let why = c.in_err-most.field-0.0 in
    handed_on (fetch_part_fields version) c.from_residual-in_err-most.result (BadRequest (place_of_fault why)) named c.i32-2.new.self (layout_at (layout_by b) named c.args.reader.now) c.from_residual-in_err-most.ensures.1
    (most_refused named c.args.reader.now c.i32.new.self c.i64.new.self c.read_log_start.new.reader c.in_ok-index.index c.in_ok-offset.offset c.in_ok-index.ensures.exact c.in_ok-offset.ensures.exact b c.in_ok-log_start.log_start why c.in_ok-log_start.ensures.told c.in_ok-log_start.ensures.untold c.in_err-most.ensures.exact.0)

pub returns-clause-exact : goal.returns-clause-exact
returns-clause-exact c =
    let version = c.args.head.version in
    let named = c.args._named.now in
    let b = has_log_start version in
    let index = c.in_ok-index.index in
    let offset = c.in_ok-offset.offset in
    let start = c.in_ok-log_start.log_start in
    let most = c.in_ok-most.most in
    let g = c.i32-2.new.self in
    let f1 : SFits w32 index = search rules in
    let f2 : SFits w64 offset = search rules in
    let f3 : SFits w64 start = search rules in
    let f4 : SFits w32 most = search rules in
    let all : ℤ → ℤ → ℤ → ℤ → ReadFields = λ i o s m. Ok (Int32 i ∷ Int64 o ∷ only_field b (Int64 s) (Int32 m ∷ []), named, g) in
    part_read named c.args.reader.now c.i32.new.self c.i64.new.self c.read_log_start.new.reader index offset c.in_ok-index.ensures.exact c.in_ok-offset.ensures.exact b start most g c.in_ok-log_start.ensures.told c.in_ok-log_start.ensures.untold c.in_ok-most.ensures.exact
    ∙ ap (λ (z : ℤ). all z offset start most) (sym (to_z-of_z w32 index f1))
    ∙ ap (λ (z : ℤ). all (to_z w32 (of_z w32 index)) z start most) (sym (to_z-of_z w64 offset f2))
    ∙ ap (λ (z : ℤ). all (to_z w32 (of_z w32 index)) (to_z w64 (of_z w64 offset)) z most) (sym (to_z-of_z w64 start f3))
    ∙ ap (λ (z : ℤ). all (to_z w32 (of_z w32 index)) (to_z w64 (of_z w64 offset)) (to_z w64 (of_z w64 start)) z) (sym (to_z-of_z w32 most f4))

pub returns-clause-fitting : goal.returns-clause-fitting
returns-clause-fitting c = λ untold.
    let start = c.in_ok-log_start.log_start in
    let f : SFits w64 start = search rules in
    to_z-of_z w64 start f ∙ given_same start (negsuc 0) (c.in_ok-log_start.ensures.untold untold).0
