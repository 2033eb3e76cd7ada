-- The partitions of a request, topic by topic.
use Rattle.std.proofs.Common.{◌≡◌, ℕ, zero, suc, ◌+◌, ◌<◌, List, [], ◌∷◌, ◌++◌, ap, append-nil, arith, drop, get_or, length, refl, sum_by, sym, take, ◌∙◌}
use Rattle.std.proofs.lemmas.List.{take_more}
use Rattle.std.proofs.lemmas.List.Sums.{sum_by-drop_more}
use Rattle.std.proofs.lemmas.List.Concat.{flat_map-append}
use Rattle.std.specs.List.{flat_map}
use Rattle.kwire.specs.declared.request.FetchPart.{FetchPart}
use Rattle.kwire.specs.declared.request.FetchTopic.{FetchTopic}

abbrev pub parts_of : FetchTopic → List FetchPart
parts_of topic = topic.parts

none_taken : {X : Type 0} (n : ℕ) → take {A = X} n [] ≡ []
none_taken zero = refl
none_taken (suc n) = refl

-- the first so many, and some more
pub take_add : {X : Type 0} (n m : ℕ) (xs : List X) → take (n + m) xs ≡ take n xs ++ take m (drop n xs)
take_add zero m xs = let e : 0 + m ≡ m = omega arith in ap (λ k. take k xs) e
take_add (suc n) m [] = none_taken (suc n + m) ∙ sym (none_taken m)
take_add (suc n) m (x ∷ xs) = let e : suc n + m ≡ suc (n + m) = omega arith in ap (λ k. take k (x ∷ xs)) e ∙ ap (λ rest. x ∷ rest) (take_add n m xs)

-- one topic more
pub topic_parts : (topics : List FetchTopic) (i : ℕ) (t : FetchTopic) → i < length topics → t ≡ get_or topics i t → flat_map parts_of (take (i + 1) topics) ≡ flat_map parts_of (take i topics) ++ t.parts
topic_parts topics i t lt is =
    ap (flat_map parts_of) (take_more topics i t lt)
    ∙ flat_map-append parts_of (take i topics) (get_or topics i t ∷ [])
    ∙ ap (λ (ps : List FetchPart). flat_map parts_of (take i topics) ++ ps) (append-nil (get_or topics i t).parts ∙ ap parts_of (sym is))

pub topic_size : (topics : List FetchTopic) (i : ℕ) (t : FetchTopic) → i < length topics → t ≡ get_or topics i t
    → sum_by (λ topic. length topic.parts) (drop i topics) ≡ length t.parts + sum_by (λ topic. length topic.parts) (drop (i + 1) topics)
topic_size topics i t lt is =
    sum_by-drop_more (λ (topic : FetchTopic). length topic.parts) topics i t lt
    ∙ ap (λ (x : FetchTopic). length x.parts + sum_by (λ (topic : FetchTopic). length topic.parts) (drop (i + 1) topics)) (sym is)
