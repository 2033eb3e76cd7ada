-- The passes of the servers of a hall, as they are when the hall is closed.
use Rattle.std.proofs.Common.{◌≡◌, ◌∙◌, ℕ, ◌+◌, List, [], ◌∷◌, ◌++◌, All, ap, length, subst, sym}
use Rattle.std.proofs.lemmas.List.{length-append, length-map}
use Rattle.std.proofs.lemmas.List.Elements.{All-cons, All-map, All-nil, All-push}
use Rattle.link_lanes.specs.books.LaneBook.{LaneBook}
use Rattle.link_lanes.specs.books.Shown.{ShownLink}
use Rattle.outside.specs.shared.port.PortViews as port
use Rattle.link_lanes.specs.Closed.{keys_of, passes_of, seats_of}
use Rattle.link_lanes.specs.Halls.{HallView, ServerView}
use Rattle.link_lanes.specs.Serving.{IsServing}
use Rattle.link_lanes.specs.Together.{AreIdle, HaveBooks}
use Rattle.shared_broker.specs.Passes as broker
use Rattle.outside.specs.shared.clock.ClockViews as clock

module _ {L : Type 0} (see : L → ShownLink) (hall : HallView) where
  -- what holds of a server that sits in the hall holds of all of them
  all_serving : (P : ServerView L → Type 0) → ((at : ℕ) (put taken : List ℕ) (server : ServerView L) → IsServing see hall at [] put taken server → P server)
      → (at : ℕ) (books : List LaneBook) (servers : List (ServerView L)) → HaveBooks see hall at books servers → All P servers
  all_serving P each at [] [] have = All-nil P
  all_serving P each at [] (server ∷ servers) have = absurd have
  all_serving P each at (book ∷ books) [] have = absurd have
  all_serving P each at (book ∷ books) (server ∷ servers) have =
      All-cons P server servers (each at book.put book.taken server have.1) (all_serving P each (at + 1) books servers have.2)

  module _ (servers : List (ServerView L)) (idle : AreIdle see hall servers) where
    abbrev OfPort : port.PassView L → Type 0
    OfPort key = port.IsPassOf hall.port key

    abbrev OfClock : clock.PassView → Type 0
    OfClock seat = clock.IsPassOf hall.clock seat

    abbrev OfBroker : broker.PassView → Type 0
    OfBroker pass = broker.made_with pass ≡ hall.broker

    -- all keys are the port's
    pub keys_of_port : (opener : port.PassView L) (keys : List (port.PassView L)) → keys ≡ keys_of servers ++ opener ∷ [] → OfPort opener → All OfPort keys
    keys_of_port opener keys keys_are of_port =
        let all : All OfPort (keys_of servers) = All-map OfPort (λ (server : ServerView L). server.key) servers
        (all_serving (λ (server : ServerView L). OfPort server.key) (λ at put taken server serving. serving.key) 0 idle.books servers idle.have) in
        subst (All OfPort) (sym keys_are) (All-push OfPort (keys_of servers) opener all of_port)

    -- all seats are the clock's
    pub seats_of_clock : (seats : List clock.PassView) → seats ≡ seats_of servers → All OfClock seats
    seats_of_clock seats seats_are =
        subst (All OfClock) (sym seats_are) (All-map OfClock (λ (server : ServerView L). server.seat) servers
        (all_serving (λ (server : ServerView L). OfClock server.seat) (λ at put taken server serving. serving.seat) 0 idle.books servers idle.have))

    -- all passes are the broker's
    pub passes_of_broker : (passes : List broker.PassView) → passes ≡ passes_of servers → All OfBroker passes
    passes_of_broker passes passes_are =
        subst (All OfBroker) (sym passes_are) (All-map OfBroker (λ (server : ServerView L). server.pass) servers
        (all_serving (λ (server : ServerView L). OfBroker server.pass) (λ at put taken server serving. serving.book.made) 0 idle.books servers idle.have))

-- as many of each kind as there are servers
module _ {L : Type 0} (servers : List (ServerView L)) where
  pub as_many_passes : (passes : List broker.PassView) → passes ≡ passes_of servers → length passes ≡ length servers
  as_many_passes passes are = ap length are ∙ length-map servers (λ (server : ServerView L). server.pass)

  pub as_many_seats : (seats : List clock.PassView) → seats ≡ seats_of servers → length seats ≡ length servers
  as_many_seats seats are = ap length are ∙ length-map servers (λ (server : ServerView L). server.seat)

  pub as_many_keys : (opener : port.PassView L) (keys : List (port.PassView L)) → keys ≡ keys_of servers ++ opener ∷ [] → length keys ≡ length servers + 1
  as_many_keys opener keys are = ap length are ∙ length-append (keys_of servers) (opener ∷ []) ∙ ap (λ (n : ℕ). n + 1) (length-map servers (λ (server : ServerView L). server.key))
