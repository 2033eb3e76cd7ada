-- The passes of a new broker, as they are taken one after the other.
use Rattle.std.proofs.Common.{◌≡◌, ◌∙◌, ℕ, ◌+◌, ◌<◌, List, [], ◌∷◌, ◌++◌, get_or, length, refl, sym, ap, arith, length-append}
use Rattle.std.proofs.lemmas.List.{append-nil, get_or_at, same_from_push}
use Rattle.std.proofs.lemmas.List.FromFn.{get_or-map-range_with_len, length-map-range_with_len, map-range_with_len_more}
use Rattle.shared_broker.specs.Making.{fresh_pass, fresh_passes}
use Rattle.shared_broker.specs.Passes.{BrokerView, PassView}

-- the next
pub next_pass : (broker : BrokerView) (count : ℕ) (front rest : List PassView) (pass : PassView) → front ++ pass ∷ rest ≡ fresh_passes broker count → pass ≡ fresh_pass broker (length front)
next_pass broker count front rest pass is =
    let n = length front in
    let all : n + length (pass ∷ rest) ≡ count = sym (length-append front (pass ∷ rest)) ∙ ap length is ∙ length-map-range_with_len (fresh_pass broker) 0 count in
    let less : n < count = omega (arith, all) in
    sym (get_or_at front pass rest pass n refl) ∙ ap (λ (ps : List PassView). get_or ps n pass) is ∙ get_or-map-range_with_len (fresh_pass broker) 0 count n n pass less (omega arith)

-- there are no more
pub all_passes : (broker : BrokerView) (count : ℕ) (front : List PassView) → front ++ [] ≡ fresh_passes broker count → length front ≡ count
all_passes broker count front is = ap length (sym (append-nil front) ∙ is) ∙ length-map-range_with_len (fresh_pass broker) 0 count

-- the last
pub last_pass : (broker : BrokerView) (count : ℕ) (front : List PassView) (last : PassView) → front ++ last ∷ [] ≡ fresh_passes broker (count + 1) → (front ≡ fresh_passes broker count) × (last ≡ fresh_pass broker count)
last_pass broker count front last is =
    same_from_push front (fresh_passes broker count) last (fresh_pass broker count) (is ∙ map-range_with_len_more (fresh_pass broker) 0 count count (omega arith))

-- and how many there are
pub as_many_passes : (broker : BrokerView) (count : ℕ) (passes : List PassView) → passes ≡ fresh_passes broker count → length passes ≡ count
as_many_passes broker count passes is = ap length is ∙ length-map-range_with_len (fresh_pass broker) 0 count
