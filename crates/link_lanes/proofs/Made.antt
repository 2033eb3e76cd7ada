-- Servers and lanes as they are made.
use Rattle.std.proofs.Common.{◌≡◌, ◌∙◌, ℕ, ◌+◌, List, [], ◌∷◌, ◌++◌, map, length, refl, ap, arith}
use Rattle.std.proofs.lemmas.List.FromFn.{length-map-range_with_len, map-range_with_len_more}
use Rattle.std.proofs.lemmas.List.{length-map, same_from_push}
use Rattle.std.specs.List.{range_with_len}
use Rattle.link_lanes.specs.books.Shown.{ShownLink}
use Rattle.outside.specs.shared.port.Fresh as port_fresh
use Rattle.outside.specs.shared.port.PortViews as port
use Rattle.link_lanes.specs.Halls.{HallView, LaneView, ServerView}
use Rattle.link_lanes.specs.Made.{new_lane, new_server, new_servers, seated}
use Rattle.link_lanes.specs.Serving.{IsServing}
use Rattle.shared_broker.specs.Making as broker_making
use Rattle.shared_broker.specs.Passes as broker
use Rattle.outside.specs.shared.clock.ClockViews as clock
use Rattle.outside.specs.shared.clock.Fresh as clock_fresh

pub as_many_servers : (L : Type 0) (hall : HallView) (count : ℕ) → length (new_servers {L = L} hall count) ≡ count
as_many_servers L hall count = length-map-range_with_len (new_server {L = L} hall) 0 count

-- how many passes of a kind there are, if they are new
pub as_many_new : {A : Type 0} (f : ℕ → A) (count : ℕ) (xs : List A) → xs ≡ map f (range_with_len 0 count) → length xs ≡ count
as_many_new f count xs are = ap length are ∙ length-map-range_with_len f 0 count

module _ (L : Type 0) where
  seated_map : (f : ℕ → broker.PassView) (g : ℕ → clock.PassView) (h : ℕ → port.PassView L) (ns : List ℕ)
      → seated (map f ns) (map g ns) (map h ns) ≡ map (λ (n : ℕ). record { pass = f n; seat = g n; key = h n }) ns
  seated_map f g h [] = refl
  seated_map f g h (n ∷ ns) = ap (λ (ss : List (ServerView L)). record { pass = f n; seat = g n; key = h n } ∷ ss) (seated_map f g h ns)

  -- as many servers as passes
  pub as_many_seated : (passes : List broker.PassView) (seats : List clock.PassView) (keys : List (port.PassView L)) → length seats ≡ length passes → length keys ≡ length passes → length (seated passes seats keys) ≡ length passes
  as_many_seated [] seats keys as_seats as_keys = refl
  as_many_seated (pass ∷ passes) [] keys as_seats as_keys = absurd (omega (arith, as_seats))
  as_many_seated (pass ∷ passes) (seat ∷ seats) [] as_seats as_keys = absurd (omega (arith, as_keys))
  as_many_seated (pass ∷ passes) (seat ∷ seats) (key ∷ keys) as_seats as_keys =
      let seats_same : length seats ≡ length passes = omega (arith, as_seats) in
      let keys_same : length keys ≡ length passes = omega (arith, as_keys) in
      let same = as_many_seated passes seats keys seats_same keys_same in
      omega (arith, same)

  -- the last of the new keys, and those before it
  pub last_key : (hall : HallView) (count : ℕ) (front : List (port.PassView L)) (last : port.PassView L) → front ++ last ∷ [] ≡ port_fresh.fresh_passes hall.port.id hall.port.terms (count + 1)
      → (front ≡ port_fresh.fresh_passes hall.port.id hall.port.terms count) × (last ≡ port_fresh.fresh_pass hall.port.id hall.port.terms count)
  last_key hall count front last is =
      let key : ℕ → port.PassView L = port_fresh.fresh_pass hall.port.id hall.port.terms in
      same_from_push front (map key (range_with_len 0 count)) last (key count) (is ∙ map-range_with_len_more key 0 count count (omega arith))

  -- new passes make new servers
  pub new_seated : (hall : HallView) (count : ℕ) → seated {L = L} (broker_making.fresh_passes hall.broker count) (clock_fresh.fresh_passes hall.clock.id count) (port_fresh.fresh_passes hall.port.id hall.port.terms count) ≡ new_servers {L = L} hall count
  new_seated hall count = seated_map (broker_making.fresh_pass hall.broker) (clock_fresh.fresh_pass hall.clock.id) (port_fresh.fresh_pass hall.port.id hall.port.terms) (range_with_len 0 count)

  -- and the servers that were made of them are new ones
  pub seated_so : (hall : HallView) (count : ℕ) (passes : List broker.PassView) (seats : List clock.PassView) (keys : List (port.PassView L)) (servers : List (ServerView L))
      → passes ≡ broker_making.fresh_passes hall.broker count → seats ≡ clock_fresh.fresh_passes hall.clock.id count → keys ≡ port_fresh.fresh_passes hall.port.id hall.port.terms count
      → servers ≡ seated passes seats keys → servers ≡ new_servers {L = L} hall count
  seated_so hall count passes seats keys servers passes_are seats_are keys_are servers_are =
      servers_are
      ∙ ap (λ (ps : List broker.PassView). seated ps seats keys) passes_are
      ∙ ap (λ (ss : List clock.PassView). seated (broker_making.fresh_passes hall.broker count) ss keys) seats_are
      ∙ ap (λ (ks : List (port.PassView L)). seated (broker_making.fresh_passes hall.broker count) (clock_fresh.fresh_passes hall.clock.id count) ks) keys_are
      ∙ new_seated hall count

module _ {L : Type 0} where
  -- a new server serves nothing yet, and has an empty book
  pub new_serving : (see : L → ShownLink) (hall : HallView) (at : ℕ) → IsServing see hall at [] [] [] (new_server hall at)
  new_serving see hall at = record {
    seat = refl;
    key = (refl, refl);
    number = refl;
    key_number = refl;
    unopened = refl;
    book = record { made = refl; idle = refl; quiet = refl; ticked = omega arith; served = tt; balanced = λ n. refl };
  }

  -- as many lanes as servers
  pub as_many_lanes : (hall : HallView) (count : ℕ) (lanes : List (LaneView L)) → lanes ≡ map (new_lane hall.queue) (new_servers hall count) → length lanes ≡ count
  as_many_lanes hall count lanes are = ap length are ∙ length-map (new_servers {L = L} hall count) (new_lane hall.queue) ∙ as_many_servers L hall count
