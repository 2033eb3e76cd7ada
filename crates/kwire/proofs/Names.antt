-- Looking for a name among topics.
use Rattle.std.proofs.Common.{◌≡◌, ◌≢◌, ℕ, ◌+◌, ◌<◌, List, [], ◌∷◌, ◌++◌, length, get_or, take, Contains, sym, ap, subst, ◌∙◌, inl, inr}
use Rattle.std.proofs.lemmas.List.{get_or-map, length-map, map_more}
use Rattle.std.proofs.lemmas.List.Elements.{Contains-get_or, Contains-push_cases}
use Rattle.kwire.specs.declared.config.Topic.{Topic}
use Rattle.kwire.specs.Configuration.{names_of}

abbrev name_of : Topic → List ℕ
name_of topic = topic.name

pub named_here : (topics : List Topic) (i : ℕ) (topic : Topic) (name : List ℕ) → i < length topics → topic ≡ get_or topics i topic → topic.name ≡ name → Contains (names_of topics) name
named_here topics i topic name lt is same =
    let at : get_or (names_of topics) i [] ≡ name = get_or-map name_of topics i topic [] lt ∙ ap name_of (sym is) ∙ same in
    let within : i < length (names_of topics) = rw (length-map topics name_of) lt in
    subst (λ (n : List ℕ). Contains (names_of topics) n) at (Contains-get_or (names_of topics) i [] within)

pub not_named_more : (topics : List Topic) (i : ℕ) (topic : Topic) (name : List ℕ) → i < length topics → topic ≡ get_or topics i topic → topic.name ≢ name
    → ¬ Contains (names_of (take i topics)) name → ¬ Contains (names_of (take (i + 1) topics)) name
not_named_more topics i topic name lt is other none has =
    let more : names_of (take (i + 1) topics) ≡ names_of (take i topics) ++ (get_or topics i topic).name ∷ [] = map_more name_of topics i topic lt in
    let cases = Contains-push_cases (names_of (take i topics)) (get_or topics i topic).name name (subst (λ (ns : List (List ℕ)). Contains ns name) more has) in
    elim cases [ inl before ↦ none before | inr here ↦ other (ap name_of is ∙ here) ]
