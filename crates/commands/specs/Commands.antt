-- What the words of the command line say.
use Rattle.std.specs.Prelude.{ℕ, ◌≡◌, ◌≤◌, ◌<◌, ◌^◌, ◌⊎◌, List, [], ◌∷◌, String, codes, map, string_bytes}
use Rattle.std.specs.Fmt.{decimal}
use Rattle.link_lanes.specs.declared.runs.TheConstants.{MOST_LANES}
use Rattle.storm.specs.declared.load.TheConstants.{MOST_REQUESTS}
use Rattle.commands.specs.declared.command.Command.{Command}
use Rattle.commands.specs.declared.command.Command.TheVariants.{Replay, Workers, Storm, Serve}
use Rattle.commands.specs.declared.command.Load.{Load}
use Rattle.commands.specs.declared.command.Service.{Service}
use Rattle.commands.specs.declared.command.TheConstants.{MOST_CONNECTIONS, MOST_PORT, MOST_WORKERS}

-- the words that are said, each by its bytes
abbrev pub said : {Z : Type 0} → List (String Z) → List (List ℕ)
said words = map (λ word. string_bytes word) words

-- a number of workers that there may be
abbrev pub MayWork : ℕ → Type 0
MayWork count = (1 ≤ count) × (count ≤ MOST_WORKERS)

-- a load that may be played
pub record IsLoad (load : Load) : Type 0 where
  pub seed : load.seed < 2 ^ 64
  pub some : 1 ≤ load.requests
  pub most : load.requests ≤ MOST_REQUESTS
  pub workers : MayWork load.workers

-- a number from 1 to this one
abbrev pub IsOneTo : ℕ → ℕ → Type 0
IsOneTo most number = (1 ≤ number) × (number ≤ most)

-- a service that there may be
pub record IsService (service : Service) : Type 0 where
  pub port : IsOneTo MOST_PORT service.port
  pub lanes : IsOneTo MOST_LANES service.lanes
  pub connections : IsOneTo MOST_CONNECTIONS service.connections

-- the words that ask for a service
abbrev pub service_words : Service → List (List ℕ)
service_words service = codes "serve" ∷ codes "--port" ∷ decimal service.port ∷ codes "--lanes" ∷ decimal service.lanes ∷ codes "--connections" ∷ decimal service.connections ∷ []

-- `replay`, or `replay --workers COUNT`, or `storm SEED REQUESTS WORKERS`, or `serve --port NUMBER --lanes LANES --connections CONNECTIONS`, with numbers that there may be
abbrev pub IsCommand : List (List ℕ) → Command → Type 0
IsCommand words Replay = words ≡ codes "replay" ∷ []
IsCommand words (Workers count) = (words ≡ codes "replay" ∷ codes "--workers" ∷ decimal count ∷ []) × MayWork count
IsCommand words (Storm load) = (words ≡ codes "storm" ∷ decimal load.seed ∷ decimal load.requests ∷ decimal load.workers ∷ []) × IsLoad load
IsCommand words (Serve service) = (words ≡ service_words service) × IsService service

-- the second one
abbrev pub IsOnWorkers : List (List ℕ) → Type 0
IsOnWorkers words = (count : ℕ) × IsCommand words (Workers count)

-- the third one
abbrev pub IsStorm : List (List ℕ) → Type 0
IsStorm words = (load : Load) × IsCommand words (Storm load)

-- the fourth one
abbrev pub IsServe : List (List ℕ) → Type 0
IsServe words = (service : Service) × IsCommand words (Serve service)

-- those that run on several threads
abbrev pub IsThreaded : List (List ℕ) → Type 0
IsThreaded words = IsOnWorkers words ⊎ IsStorm words ⊎ IsServe words

-- those that read a trace
abbrev pub ReadsTrace : List (List ℕ) → Type 0
ReadsTrace words = (words ≡ codes "replay" ∷ []) ⊎ IsOnWorkers words

-- those that read the source
abbrev pub ReadsSource : List (List ℕ) → Type 0
ReadsSource words = ReadsTrace words ⊎ IsServe words
