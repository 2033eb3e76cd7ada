-- What stops a service before it opens its port, and which service it is.
use Rattle.std.proofs.Common.{◌≡◌, ◌⊎◌, ℕ, true, List, Option, Some, None, IfSome, IsSome, inl, inr, refl, subst}
use Rattle.audit.specs.declared.account.Account.{Account}
use Rattle.link_lanes.specs.books.Shown.{ShownLink}
use Rattle.outside.specs.shared.port.History.{PortFacts}
use Rattle.trace_file.specs.declared.line.LineFault.{LineFault}
use Rattle.trace_file.proofs.Laws.{trace_has_none}
use Rattle.commands.specs.declared.exit.Stop.{Stop}
use Rattle.commands.specs.declared.exit.Stop.TheVariants.{Usage, BadLine, ReadFault, WriteFault, NoMemory as OutOfMemory}
use Rattle.commands.specs.Codes.{bad_line_of, exit_code_of}
use Rattle.commands.specs.Replay.{IsFirstBadOf}
use Rattle.commands.specs.Commands.{IsCommand}
use Rattle.commands.specs.Served.{HasTopics, IsServed}
use Rattle.commands.specs.declared.command.Command.TheVariants.{Serve}
use Rattle.commands.specs.declared.command.Service.{Service}
use Rattle.commands.proofs.Spellings.{one_service}

-- a text of topics has no bad line
topics_have_none : (left : Option (List ℕ)) (fault : LineFault) → HasTopics left → IsFirstBadOf left true fault → ⊥
topics_have_none None fault has bad = has
topics_have_none (Some text) fault has bad = trace_has_none text true has.0 fault has.1 bad

-- where there is one, and the source's count didn't rise, that is running out of memory
pub service_stopped_by : {R : Type 0} (left : Option (List ℕ)) (stop : Stop) → (stop ≡ ReadFault) ⊎ (stop ≡ OutOfMemory) ⊎ IsSome (bad_line_of stop) → (stop ≡ ReadFault → R)
    → IfSome (bad_line_of stop) (IsFirstBadOf left true) → HasTopics left → (R → ⊥) → (exit_code_of stop ≡ 0) ⊎ (exit_code_of stop ≡ 6)
service_stopped_by left Usage only read bad has quiet = absurd (elim only [ inl e ↦ cc | inr f ↦ elim f [ inl e ↦ cc | inr e ↦ cc ] ])
service_stopped_by left (BadLine fault) only read bad has quiet = absurd (topics_have_none left fault has bad)
service_stopped_by left ReadFault only read bad has quiet = absurd (quiet (read refl))
service_stopped_by left WriteFault only read bad has quiet = absurd (elim only [ inl e ↦ cc | inr f ↦ elim f [ inl e ↦ cc | inr e ↦ cc ] ])
service_stopped_by left OutOfMemory only read bad has quiet = inr refl

-- the words say one service
pub served_as : {L : Type 0} {see : L → ShownLink} {before : ℕ} {left : Option (List ℕ)} {code : ℕ} {account : Option Account} {port : Option (PortFacts L)} {moment : Option ℕ} (words : List (List ℕ)) (service other : Service)
    → IsCommand words (Serve service) → IsCommand words (Serve other) → IsServed see service before left code account port moment → IsServed see other before left code account port moment
served_as {see = see} {before = before} {left = left} {code = code} {account = account} {port = port} {moment = moment} words service other is said h =
    subst (λ (s : Service). IsServed see s before left code account port moment) (one_service words service other is said) h
