-- The words of the command line, as they are matched.
use Rattle.std.proofs.Common.{◌≡◌, ◌<◌, ◌≤◌, ℕ, Bool, true, false, List, [], ◌∷◌, length, get_or, Option, Some, None, IfSome, IsTrue, String, codes, string_bytes, nat_eq, refl, ap, sym, ◌∙◌, arith}
use Rattle.std.specs.Cmp.Lexicographic.{pointwise, same_text, other_text}
use Rattle.std.specs.Fmt.{decimal}
use Rattle.commands.specs.Commands.{IsCommand, said, service_words}
use Rattle.commands.specs.declared.command.Command.TheVariants.{Serve, Storm, Workers}
use Rattle.commands.specs.declared.command.Load.{Load}
use Rattle.commands.specs.declared.command.Service.{Service}
use Rattle.std.proofs.lemmas.Fmt.{decimal_injective}
use Rattle.commands.specs.declared.command.TheConstants.{MOST_WORKERS}

pub only_item : {X : Type 0} (xs : List X) (x : X) → 1 ≤ length xs → length xs < 2 → x ≡ get_or xs 0 x → xs ≡ x ∷ []
only_item [] x least below e = absurd (omega (arith, least))
only_item (y ∷ []) x least below e = ap (λ z. z ∷ []) (sym e)
only_item (y ∷ z ∷ ys) x least below e = absurd (omega (arith, below))

pub three_items : {X : Type 0} (xs : List X) (x y z : X) → 3 ≤ length xs → length xs < 4 → x ≡ get_or xs 0 x → y ≡ get_or xs 1 y → z ≡ get_or xs 2 z → xs ≡ x ∷ y ∷ z ∷ []
three_items [] x y z least below first second third = absurd (omega (arith, least))
three_items (a ∷ []) x y z least below first second third = absurd (omega (arith, least))
three_items (a ∷ b ∷ []) x y z least below first second third = absurd (omega (arith, least))
three_items (a ∷ b ∷ c ∷ []) x y z least below first second third = cc
three_items (a ∷ b ∷ c ∷ d ∷ xs) x y z least below first second third = absurd (omega (arith, below))

pub four_items : {X : Type 0} (xs : List X) (w x y z : X) → 4 ≤ length xs → length xs < 5 → w ≡ get_or xs 0 w → x ≡ get_or xs 1 x → y ≡ get_or xs 2 y → z ≡ get_or xs 3 z → xs ≡ w ∷ x ∷ y ∷ z ∷ []
four_items [] w x y z least below first second third fourth = absurd (omega (arith, least))
four_items (a ∷ []) w x y z least below first second third fourth = absurd (omega (arith, least))
four_items (a ∷ b ∷ []) w x y z least below first second third fourth = absurd (omega (arith, least))
four_items (a ∷ b ∷ c ∷ []) w x y z least below first second third fourth = absurd (omega (arith, least))
four_items (a ∷ b ∷ c ∷ d ∷ []) w x y z least below first second third fourth = cc
four_items (a ∷ b ∷ c ∷ d ∷ e ∷ xs) w x y z least below first second third fourth = absurd (omega (arith, below))

pub seven_items : {X : Type 0} (xs : List X) (a b c d e f g : X) → 7 ≤ length xs → length xs < 8 → a ≡ get_or xs 0 a → b ≡ get_or xs 1 b → c ≡ get_or xs 2 c → d ≡ get_or xs 3 d → e ≡ get_or xs 4 e → f ≡ get_or xs 5 f → g ≡ get_or xs 6 g
    → xs ≡ a ∷ b ∷ c ∷ d ∷ e ∷ f ∷ g ∷ []
seven_items [] a b c d e f g least below first second third fourth fifth sixth seventh = absurd (omega (arith, least))
seven_items (x ∷ []) a b c d e f g least below first second third fourth fifth sixth seventh = absurd (omega (arith, least))
seven_items (x ∷ y ∷ []) a b c d e f g least below first second third fourth fifth sixth seventh = absurd (omega (arith, least))
seven_items (x ∷ y ∷ z ∷ rest) a b c d e f g least below first second third fourth fifth sixth seventh =
    let last = four_items rest d e f g (omega (arith, least)) (omega (arith, below)) fourth fifth sixth seventh in
    cc

first_of_one : (a b : List ℕ) → a ∷ [] ≡ b ∷ [] → a ≡ b
first_of_one a b e = cc

-- one word is compared
pub is_word : (bytes want : List ℕ) (b : Bool) → b ≡ pointwise nat_eq bytes want → (IsTrue b → bytes ∷ [] ≡ want ∷ []) × (bytes ∷ [] ≡ want ∷ [] → IsTrue b)
is_word bytes want true e = (λ _. ap (λ (x : List ℕ). x ∷ []) (same_text bytes want e), λ _. refl)
is_word bytes want false e = (λ h. absurd cc, λ h. absurd (other_text bytes want e (first_of_one bytes want h)))

-- three words with the number of workers as the last
pub workers_said : (number : Option ℕ) (words : List (List ℕ)) (word option count : List ℕ) → words ≡ word ∷ option ∷ count ∷ [] → word ≡ codes "replay" → option ≡ codes "--workers"
    → IfSome number (λ n. count ≡ decimal n) → IfSome number (λ n. (1 ≤ n) × (n ≤ MOST_WORKERS)) → IfSome number (λ n. IsCommand words (Workers n))
workers_said None words word option count is first second third range = tt
workers_said (Some n) words word option count is first second third range = (is ∙ rw (first, second, third) refl, range)

-- four words with three numbers
pub load_said : (words : List (List ℕ)) (word first second third : List ℕ) (seed requests workers : ℕ) → words ≡ word ∷ first ∷ second ∷ third ∷ [] → word ≡ codes "storm"
    → first ≡ decimal seed → second ≡ decimal requests → third ≡ decimal workers
    → words ≡ codes "storm" ∷ decimal seed ∷ decimal requests ∷ decimal workers ∷ []
load_said words word first second third seed requests workers is named one two three = is ∙ rw (named, one, two, three) refl

-- what the words of a service are
pub service_parts : {Z : Type 0} {words : List (String Z)} {word first port second lanes third connections : String Z} (service : Service) → words ≡ word ∷ first ∷ port ∷ second ∷ lanes ∷ third ∷ connections ∷ []
    → said words ≡ service_words service
    → ((string_bytes first ≡ codes "--port") × (string_bytes port ≡ decimal service.port)) × ((string_bytes second ≡ codes "--lanes") × (string_bytes lanes ≡ decimal service.lanes))
    × ((string_bytes third ≡ codes "--connections") × (string_bytes connections ≡ decimal service.connections))
service_parts {Z = Z} service is said_is =
    let same = sym (ap (said {Z = Z}) is) ∙ said_is in
    ((cc, cc), (cc, cc), (cc, cc))

-- and words that are those ask for it
pub service_said : {Z : Type 0} {words : List (String Z)} {word first port second lanes third connections : String Z} (service : Service) → words ≡ word ∷ first ∷ port ∷ second ∷ lanes ∷ third ∷ connections ∷ []
    → string_bytes word ≡ codes "serve" → (string_bytes first ≡ codes "--port") × (string_bytes port ≡ decimal service.port) → (string_bytes second ≡ codes "--lanes") × (string_bytes lanes ≡ decimal service.lanes)
    → (string_bytes third ≡ codes "--connections") × (string_bytes connections ≡ decimal service.connections) → said words ≡ service_words service
service_said {Z = Z} service is named one two three = ap (said {Z = Z}) is ∙ rw (named, one.0, one.1, two.0, two.1, three.0, three.1) refl

-- a load has one spelling
pub one_load : (words : List (List ℕ)) (load other : Load) → IsCommand words (Storm load) → IsCommand words (Storm other) → load ≡ other
one_load words load other a b =
    let same = sym a.0 ∙ b.0 in
    let seed : load.seed ≡ other.seed = decimal_injective load.seed other.seed a.1.seed b.1.seed cc in
    let requests : load.requests ≡ other.requests = decimal_injective load.requests other.requests (omega (arith, a.1.most)) (omega (arith, b.1.most)) cc in
    let workers : load.workers ≡ other.workers = decimal_injective load.workers other.workers (omega (arith, a.1.workers.1)) (omega (arith, b.1.workers.1)) cc in
    ap (λ (s : ℕ). record { seed = s; requests = load.requests; workers = load.workers }) seed
    ∙ ap (λ (r : ℕ). record { seed = other.seed; requests = r; workers = load.workers }) requests
    ∙ ap (λ (w : ℕ). record { seed = other.seed; requests = other.requests; workers = w }) workers

-- and so has a service
pub one_service : (words : List (List ℕ)) (service other : Service) → IsCommand words (Serve service) → IsCommand words (Serve other) → service ≡ other
one_service words service other a b =
    let same = sym a.0 ∙ b.0 in
    let port : service.port ≡ other.port = decimal_injective service.port other.port (omega (arith, a.1.port.1)) (omega (arith, b.1.port.1)) cc in
    let lanes : service.lanes ≡ other.lanes = decimal_injective service.lanes other.lanes (omega (arith, a.1.lanes.1)) (omega (arith, b.1.lanes.1)) cc in
    let connections : service.connections ≡ other.connections = decimal_injective service.connections other.connections (omega (arith, a.1.connections.1)) (omega (arith, b.1.connections.1)) cc in
    ap (λ (p : ℕ). record { port = p; lanes = service.lanes; connections = service.connections }) port
    ∙ ap (λ (l : ℕ). record { port = other.port; lanes = l; connections = service.connections }) lanes
    ∙ ap (λ (c : ℕ). record { port = other.port; lanes = other.lanes; connections = c }) connections
