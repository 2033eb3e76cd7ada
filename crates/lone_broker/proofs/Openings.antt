-- Logs without entries, one after the other.
use Rattle.std.proofs.Common.{◌≡◌, ℕ, zero, suc, ◌+◌, ◌<◌, List, [], ◌∷◌, ◌++◌, length, get_or, take, map, replicate, refl, sym, ap, ◌∙◌, append-nil, append_assoc}
use Rattle.std.proofs.lemmas.List.{take_more, map-append, replicate_more}
use Rattle.std.proofs.lemmas.Grind.{flat_map-append}
use Rattle.std.specs.List.{flat_map}
use Rattle.partlog.specs.History.{History}
use Rattle.kwire.specs.declared.config.Topic.{Topic}
use Rattle.kwire.specs.Configuration.{followers_of}
use Rattle.audit.specs.broker.Board.{empty_history}

pub one_more_behind : {X : Type 0} (front : List X) (n : ℕ) (x : X) → (front ++ replicate n x) ++ x ∷ [] ≡ front ++ replicate (n + 1) x
one_more_behind front n x = append_assoc front (replicate n x) (x ∷ []) ∙ ap (λ (xs : List _). front ++ xs) (replicate_more n x)

map_replicate : {X Y : Type 0} (f : X → Y) (n : ℕ) (x : X) → map f (replicate n x) ≡ replicate n (f x)
map_replicate f zero x = refl
map_replicate f (suc n) x = ap (λ (ys : List _). f x ∷ ys) (map_replicate f n x)

pub logs_more : (topics : List Topic) (i : ℕ) (topic : Topic) → i < length topics → topic ≡ get_or topics i topic
    → map empty_history (followers_of (take i topics)) ++ replicate topic.partitions (empty_history topic.followers) ≡ map empty_history (followers_of (take (i + 1) topics))
logs_more topics i topic lt is =
    let f : Topic → List ℕ = λ t. replicate t.partitions t.followers in
    let front = take i topics in
    let all : take (i + 1) topics ≡ front ++ topic ∷ [] = take_more topics i topic lt ∙ ap (λ (t : Topic). front ++ t ∷ []) (sym is) in
    let each : followers_of (take (i + 1) topics) ≡ flat_map f front ++ f topic =
    ap followers_of all ∙ flat_map-append f front (topic ∷ []) ∙ ap (λ (ns : List ℕ). flat_map f front ++ ns) (append-nil (f topic)) in
    sym (ap (map empty_history) each ∙ map-append empty_history (flat_map f front) (f topic)
    ∙ ap (λ (hs : List History). map empty_history (flat_map f front) ++ hs) (map_replicate empty_history topic.partitions topic.followers))
