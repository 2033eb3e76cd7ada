-- The words with which a follower is started.
use Rattle.std.specs.Prelude.{ℕ, ◌≡◌, ◌≤◌, ◌<◌, ◌^◌, pos, List, [], ◌∷◌, String, length, map, string_bytes}
use Rattle.std.specs.Fmt.{decimal}
use Rattle.kwire.specs.declared.config.TheConstants.{MOST_NAME_BYTES}
use Rattle.follower.specs.Copies.{Copy}

-- the words that are said, each by its bytes
abbrev pub said : {Z : Type 0} → List (String Z) → List (List ℕ)
said words = map (λ word. string_bytes word) words

-- the port of the leader, the partition, the follower's number there, and how many rounds it follows
pub record Order : Type 0 where
  pub port : ℕ
  pub topic : List ℕ
  pub index : ℕ
  pub replica : ℕ
  pub rounds : ℕ

-- what may be ordered
pub record IsOrder (order : Order) : Type 0 where
  pub some_port : 1 ≤ order.port
  pub port : order.port < 2 ^ 16
  pub topic : length order.topic ≤ MOST_NAME_BYTES
  pub index : order.index < 2 ^ 31
  pub some_replica : 1 ≤ order.replica
  pub replica : order.replica < 2 ^ 31
  pub rounds : order.rounds < 2 ^ 31

-- PORT TOPIC INDEX REPLICA ROUNDS
abbrev pub order_words : Order → List (List ℕ)
order_words order = decimal order.port ∷ order.topic ∷ decimal order.index ∷ decimal order.replica ∷ decimal order.rounds ∷ []

abbrev pub IsOrdered : List (List ℕ) → Order → Type 0
IsOrdered words order = (words ≡ order_words order) × IsOrder order

-- the copy with which it begins
abbrev pub empty_copy : Order → Copy
empty_copy order = record { topic = order.topic; index = pos order.index; id = pos order.replica; log = []; end = 0; high = 0 }
