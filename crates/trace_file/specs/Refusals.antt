-- What a refusal to take a line tells.
use Rattle.std.specs.Prelude.{ℕ}
use Rattle.kwire.specs.declared.config.ConfigFault.{ConfigFault}
use Rattle.kwire.specs.declared.config.ConfigFault.TheVariants as config
use Rattle.trace_file.specs.declared.line.LineKind.{LineKind}
use Rattle.trace_file.specs.declared.line.LineKind.TheVariants.{BadTopic}
use Rattle.trace_file.specs.declared.line.TraceFault.{TraceFault}
use Rattle.trace_file.specs.declared.line.TraceFault.TheVariants as fault
use Rattle.trace_file.specs.declared.refusal.Refusal.{Refusal}
use Rattle.trace_file.specs.declared.refusal.Refusal.TheVariants.{Bad, NoMemory}

-- it tells the kind of a bad line; running out of memory tells nothing
abbrev pub Tells : Refusal → (LineKind → Type 0) → Type 0
Tells (Bad kind) said = said kind
Tells NoMemory said = Unit {0}

-- a topic that can't be declared
abbrev pub refusal_of : ConfigFault → Refusal
refusal_of config.BadName = Bad BadTopic
refusal_of config.TopicTwice = Bad BadTopic
refusal_of config.BadCount = Bad BadTopic
refusal_of config.NoMemory = NoMemory

-- the refusal of the line with this number
abbrev pub fault_at : ℕ → Refusal → TraceFault
fault_at line (Bad kind) = fault.Bad (record { line = line; kind = kind })
fault_at line NoMemory = fault.NoMemory
