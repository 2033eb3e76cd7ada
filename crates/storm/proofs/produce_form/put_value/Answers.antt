use Rattle.std.proofs.Common.{◌∙◌, ℕ, List, ◌++◌, take, drop, ap}
use Rattle.std.proofs.lemmas.List.{drop-drop}
use Rattle.storm.specs.Requests.{value_of}
use Rattle.storm.proofs.produce_form.put_value.Goals as goal

pub returns : goal.returns
returns c =
    let batch = c.args.batch.now in
    ap (λ (value : List ℕ). take 67 batch ++ (value ++ drop 16 (drop 67 batch))) c.put_digits.ensures ∙ ap (λ (rest : List ℕ). take 67 batch ++ (value_of c.args.i ++ rest)) (drop-drop 16 67 batch)
