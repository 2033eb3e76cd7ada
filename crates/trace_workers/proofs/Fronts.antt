-- An end that fits what is left of the input fits also what comes behind that.
use Rattle.std.proofs.Common.{◌≡◌, ◌≢◌, ℕ, Bool, true, false, List, ◌++◌, Some, refl, ap, ◌∙◌, append_assoc}
use Rattle.audit.specs.declared.account.SessionEnd.{SessionEnd}
use Rattle.audit.specs.declared.account.SessionEnd.TheVariants.{Closed, Truncated, FrameTooLong, Refused, CallsFull, ReadFault, WriteFault, NoMemory}
use Rattle.audit.specs.declared.account.Transcript.{Transcript}
use Rattle.audit.specs.Fits.{EndFits}
use Rattle.audit.specs.RunOf.{IsTraceEnd}
use Rattle.kwire.specs.declared.frame.Frame.TheVariants.{Whole, TooLong}
use Rattle.kwire.specs.Frames.{framed}
use Rattle.kwire.proofs.Laws.{frame_kept}
use Rattle.trace_workers.specs.Ending.{MayEndSo}

-- ---- ends of a trace

pub trace_end : (end : SessionEnd) → end ≢ ReadFault → end ≢ WriteFault → end ≢ NoMemory → IsTraceEnd (Some end)
trace_end end read write memory = (λ e. read cc, λ e. write cc, λ e. memory cc)

-- ---- more comes behind an end

-- once a session has ended, its end fits also what comes later
pub end_more : (rest bytes : List ℕ) (t : Transcript) (end : SessionEnd) → MayEndSo rest false end t → EndFits (rest ++ bytes) false t (Some end)
end_more rest bytes t Closed h = absurd (cc h.0.0)
end_more rest bytes t (Truncated got) h = absurd (cc h.0.0)
end_more rest bytes t (FrameTooLong size) h = frame_kept rest bytes (TooLong size) (λ f. absurd cc) h.0
end_more rest bytes t (Refused why) h = let r = h.0 in (r.0, r.1 ++ bytes, ap (λ (x : List ℕ). x ++ bytes) r.2 ∙ append_assoc (framed r.0) r.1 bytes, r.3, r.4)
end_more rest bytes t CallsFull h = ((h.0.0.0, frame_kept rest bytes (Whole h.0.0.0) (λ f. absurd cc) h.0.0.1), h.0.1)
end_more rest bytes t ReadFault h = absurd (h.1.0 refl)
end_more rest bytes t WriteFault h = tt
end_more rest bytes t NoMemory h = tt

-- and where its input ends only then
pub end_shut : (rest : List ℕ) (shut : Bool) (t : Transcript) (end : SessionEnd) → EndFits rest shut t (Some end) → EndFits rest true t (Some end)
end_shut rest shut t Closed h = (refl, h.1)
end_shut rest shut t (Truncated got) h = (refl, h.1, h.2, h.3)
end_shut rest shut t (FrameTooLong size) h = h
end_shut rest shut t (Refused why) h = h
end_shut rest shut t CallsFull h = h
end_shut rest shut t ReadFault h = h
end_shut rest shut t WriteFault h = h
end_shut rest shut t NoMemory h = h

-- it is told of the calls alone
pub same_end : (rest : List ℕ) (shut : Bool) (t u : Transcript) (end : SessionEnd) → t.first ≡ u.first → t.calls ≡ u.calls → EndFits rest shut t (Some end) → EndFits rest shut u (Some end)
same_end rest shut t u Closed first calls h = h
same_end rest shut t u (Truncated got) first calls h = h
same_end rest shut t u (FrameTooLong size) first calls h = h
same_end rest shut t u (Refused why) first calls h = h
same_end rest shut t u CallsFull first calls h = (h.0, cc (h.1, first, calls))
same_end rest shut t u ReadFault first calls h = h
same_end rest shut t u WriteFault first calls h = h
same_end rest shut t u NoMemory first calls h = h
