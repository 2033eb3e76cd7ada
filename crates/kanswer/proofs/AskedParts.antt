-- What a fetch asks of the partition at a place, as a loop over its topics finds it.
use Rattle.std.proofs.Common.{◌≡◌, ℕ, suc, ◌+◌, ◌-◌, ◌<◌, ◌≤◌, List, ◌∷◌, ◌++◌, length, drop, get_or, Some, sym, ap, ◌∙◌, arith, inl, inr, length-append}
use Rattle.std.specs.List.{slice_get}
use Rattle.std.proofs.Math.ListN.{get_or-append}
use Rattle.std.proofs.Math.Seq.{drop-cons, get_or-append_right}
use Rattle.std.proofs.lemmas.Bool.{cases_lt}
use Rattle.std.proofs.lemmas.List.Concat.{flat_map-cons}
use Rattle.std.proofs.lemmas.Option.{slice_get_past, slice_get-get_or}
use Rattle.kwire.specs.declared.request.FetchPart.{FetchPart}
use Rattle.kwire.specs.declared.request.FetchTopic.{FetchTopic}
use Rattle.kanswer.specs.Answer.{asked_parts}

topics_from : (topics : List FetchTopic) (i : ℕ) (t : FetchTopic) → i < length topics → t ≡ get_or topics i t → asked_parts (drop i topics) ≡ t.parts ++ asked_parts (drop (i + 1) topics)
topics_from topics i t lt is =
    let next : suc i ≡ i + 1 = omega arith in
    ap asked_parts (drop-cons topics i t lt ∙ ap (λ (x : FetchTopic). x ∷ drop (suc i) topics) (sym is) ∙ ap (λ (n : ℕ). t ∷ drop n topics) next)
    ∙ flat_map-cons (λ (topic : FetchTopic). topic.parts) t (drop (i + 1) topics)

here : (ps more : List FetchPart) (left : ℕ) (d : FetchPart) → left < length ps → slice_get (ps ++ more) left ≡ Some (get_or ps left d)
here ps more left d lt =
    slice_get-get_or (ps ++ more) left d (omega (arith, lt, length-append ps more)) ∙ ap Some (get_or-append ps more d left lt)

later : (ps more : List FetchPart) (left : ℕ) (d : FetchPart) → length ps ≤ left → slice_get (ps ++ more) left ≡ slice_get more (left - length ps)
later ps more left d le =
    let both = length-append ps more in
    elim (cases_lt (left - length ps) (length more)) [
      | inl lt ↦
          slice_get-get_or (ps ++ more) left d (omega (arith, lt, le, both)) ∙ ap Some (get_or-append_right ps more left d le) ∙ sym (slice_get-get_or more (left - length ps) d lt)
      | inr ge ↦ slice_get_past (ps ++ more) left (omega (arith, ge, le, both)) ∙ sym (slice_get_past more (left - length ps) ge)
    ]

module _ (topics : List FetchTopic) (i left at : ℕ) (t : FetchTopic) (ps : List FetchPart) (d : FetchPart) (lt : i < length topics) (is : t ≡ get_or topics i t) (own : ps ≡ t.parts) (goes_on : slice_get (asked_parts (drop i topics)) left ≡ slice_get (asked_parts topics) at) where
  from_here : slice_get (asked_parts (drop i topics)) left ≡ slice_get (ps ++ asked_parts (drop (i + 1) topics)) left
  from_here =
      ap (λ (l : List FetchPart). slice_get l left) (topics_from topics i t lt is ∙ ap (λ (l : List FetchPart). l ++ asked_parts (drop (i + 1) topics)) (sym own))

  pub found_here : left < length ps → Some (get_or ps left d) ≡ slice_get (asked_parts topics) at
  found_here within = sym (here ps (asked_parts (drop (i + 1) topics)) left d within) ∙ sym from_here ∙ goes_on

  pub found_later : length ps ≤ left → slice_get (asked_parts (drop (i + 1) topics)) (left - length ps) ≡ slice_get (asked_parts topics) at
  found_later past = sym (later ps (asked_parts (drop (i + 1) topics)) left d past) ∙ sym from_here ∙ goes_on
