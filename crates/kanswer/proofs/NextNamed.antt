-- The partitions that a produce or a fetch names, one more at a time, and one more topic at a time.
use Rattle.std.proofs.Common.{◌≡◌, ℕ, ◌+◌, ◌<◌, List, [], ◌∷◌, ◌++◌, length, get_or, map, take, sym, ap, ◌∙◌, append-nil}
use Rattle.std.proofs.lemmas.List.{map-append, take_more}
use Rattle.std.proofs.lemmas.Grind.{flat_map-append}
use Rattle.std.specs.List.{flat_map}
use Rattle.kwire.specs.declared.request.ProducePart.{ProducePart}
use Rattle.kwire.specs.declared.request.ProduceTopic.{ProduceTopic}
use Rattle.kwire.specs.declared.request.FetchPart.{FetchPart}
use Rattle.kwire.specs.declared.request.FetchTopic.{FetchTopic}
use Rattle.kanswer.specs.Decisions.{produce_parts, fetch_parts}

one_topic : {P D : Type 0} (f : P → D) (xs : List P) (i : ℕ) (x : P) → i < length xs → x ≡ get_or xs i x → map f (take (i + 1) xs) ++ [] ≡ (map f (take i xs) ++ []) ++ (f x ∷ [])
one_topic f xs i x lt is =
    let more : take (i + 1) xs ≡ take i xs ++ x ∷ [] = take_more xs i x lt ∙ ap (λ (y : _). take i xs ++ y ∷ []) (sym is) in
    append-nil (map f (take (i + 1) xs)) ∙ ap (map f) more ∙ map-append f (take i xs) (x ∷ []) ∙ ap (λ (ys : List _). ys ++ f x ∷ []) (sym (append-nil (map f (take i xs))))

-- the first partitions of a topic, and the next
pub produce_next : (name : List ℕ) (parts : List ProducePart) (i : ℕ) (part : ProducePart) → i < length parts → part ≡ get_or parts i part
    → produce_parts (record { name = name; parts = take (i + 1) parts } ∷ []) ≡ produce_parts (record { name = name; parts = take i parts } ∷ []) ++ produce_parts (record { name = name; parts = part ∷ [] } ∷ [])
produce_next name parts i part lt is = one_topic (λ (p : ProducePart). (name, p)) parts i part lt is

pub fetch_next : (name : List ℕ) (parts : List FetchPart) (i : ℕ) (part : FetchPart) → i < length parts → part ≡ get_or parts i part
    → fetch_parts (record { name = name; parts = take (i + 1) parts } ∷ []) ≡ fetch_parts (record { name = name; parts = take i parts } ∷ []) ++ fetch_parts (record { name = name; parts = part ∷ [] } ∷ [])
fetch_next name parts i part lt is = one_topic (λ (p : FetchPart). (name, p)) parts i part lt is

next_topics : {T X : Type 0} (f : T → List X) (xs : List T) (i : ℕ) (x : T) → i < length xs → x ≡ get_or xs i x → flat_map f (take (i + 1) xs) ≡ flat_map f (take i xs) ++ flat_map f (x ∷ [])
next_topics f xs i x lt is = ap (flat_map f) (take_more xs i x lt ∙ ap (λ (y : _). take i xs ++ y ∷ []) (sym is)) ∙ flat_map-append f (take i xs) (x ∷ [])

-- the first topics, and the next
pub produce_next_topic : (topics : List ProduceTopic) (i : ℕ) (topic : ProduceTopic) → i < length topics → topic ≡ get_or topics i topic
    → produce_parts (take (i + 1) topics) ≡ produce_parts (take i topics) ++ produce_parts (topic ∷ [])
produce_next_topic topics i topic lt is = next_topics (λ (t : ProduceTopic). map (λ (p : ProducePart). (t.name, p)) t.parts) topics i topic lt is

pub fetch_next_topic : (topics : List FetchTopic) (i : ℕ) (topic : FetchTopic) → i < length topics → topic ≡ get_or topics i topic
    → fetch_parts (take (i + 1) topics) ≡ fetch_parts (take i topics) ++ fetch_parts (topic ∷ [])
fetch_next_topic topics i topic lt is = next_topics (λ (t : FetchTopic). map (λ (p : FetchPart). (t.name, p)) t.parts) topics i topic lt is
