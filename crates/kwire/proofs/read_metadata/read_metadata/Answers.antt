use Rattle.std.proofs.Common.{◌≡◌, ◌∙◌, ℕ, List, ◌∷◌, map, length, Some, Ok, sym, ap}
use Rattle.std.specs.List.{flat_map}
use Rattle.std.proofs.lemmas.List.{length-map}
use Rattle.std.specs.Borrow.{Bor}
use Rattle.kbytes.specs.Reading.{array_at}
use Rattle.kbytes.specs.Field.{Field, Array}
use Rattle.kwire.specs.IsRequest.{name_fields}
use Rattle.kwire.proofs.BodyLaws.{all, names_read, null_read}
use Rattle.kwire.proofs.ItemLoops.{flat_mapped}
use Rattle.kwire.proofs.read_metadata.read_metadata.Goals as goal

pub returns-in_default-clause-exact : goal.returns-in_default-clause-exact
returns-in_default-clause-exact c = null_read c.args.head.version c.args.reader.now c.array.new.self (rw c.in_default.is at c.in_ok-count.ensures.exact)

pub returns-clause-exact : goal.returns-clause-exact
returns-clause-exact c =
    let names = c.in_ok-names.names in
    let see : Bor (List ℕ) → List ℕ = λ name. name.now in
    let e = c.read_items.new.reader in
    let one : array_at c.args.reader.now ≡ Ok (Some c.in-Some.count, c.array.new.self) = rw c.in-Some.is at c.in_ok-count.ensures.exact in
    let read = names_read c.args.head.version c.args.reader.now c.array.new.self e c.in-Some.count c.read_items.new.named (flat_map (λ name. name_fields (see name)) names) one (sym c.refuse_many.ensures.exact ∙ c.in_ok-refuse_many.was) c.in_ok-names.ensures.exact in
    let count : c.in-Some.count ≡ length (map see names) = sym c.in_ok-names.ensures.whole ∙ sym (length-map names see) in
    read ∙ ap (λ (n : ℕ). all (Array (Some n) ∷ flat_map (λ name. name_fields (see name)) names) e) count
    ∙ ap (λ (fs : List Field). all (Array (Some (length (map see names))) ∷ fs) e) (flat_mapped see name_fields names)
