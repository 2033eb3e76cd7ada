-- A session that was named and rests fits what it received.
use Rattle.std.proofs.Common.{◌≡◌, ℕ, Bool, true, false, List, [], ◌∷◌, Option, Some, None, MatchBool, refl, sym, ap, subst, ◌∙◌, inl, inr}
use Rattle.std.specs.Prelude.{is_some, map}
use Rattle.audit.specs.declared.account.SessionEnd.{SessionEnd}
use Rattle.audit.specs.declared.account.Transcript.{Transcript}
use Rattle.audit.specs.Fits.{EndFits, Fits, IsUnfinished, LastIsParked}
use Rattle.audit.specs.RunOf.{IsTraceEnd}
use Rattle.audit.specs.broker.books.Told.{last_is_cut, told, told_end}
use Rattle.shared_broker.specs.Passes.{transcripts_of}
use Rattle.trace_workers.specs.Received.{HasHandled, HasReceived, StandsAt}
use Rattle.trace_workers.specs.Resting.{Rests}
use Rattle.trace_workers.specs.Sessions.{SessionView}
use Rattle.trace_workers.proofs.Going.{handled_of}
use Rattle.trace_workers.proofs.Transcripts.{alone, is_over, last_whole}

told_uncut : (end : Option SessionEnd) (cut : Bool) → cut ≡ false → told_end cut end ≡ end
told_uncut (Some end) cut whole = refl
told_uncut None cut whole = ap (λ (b : Bool). told_end b None) whole

pub told_same : (t : Transcript) → last_is_cut t.calls ≡ false → told t ≡ t
told_same t whole = ap (λ (end : Option SessionEnd). record t { end = end }) (told_uncut t.end (last_is_cut t.calls) whole)

end_fits : (input : List ℕ) (s : SessionView) (h : HasHandled input s) → Rests s → EndFits h.rest s.is_shut h.transcript h.transcript.end × IsTraceEnd h.transcript.end
end_fits input s h rests = by_end h.transcript.end refl h.stands
  where
    goes : (end : Option SessionEnd) → end ≡ None → IsTraceEnd end
    goes end none = (λ e. absurd (cc (none, e)), λ e. absurd (cc (none, e)), λ e. absurd (cc (none, e)))

    by_rest : Rests s → h.transcript.end ≡ None → StandsAt s h.rest h.transcript None → EndFits h.rest s.is_shut h.transcript None
    by_rest (inl waits) none stood = inl (subst (λ (b : Bool). MatchBool b (LastIsParked h.transcript.calls) (LastIsParked h.transcript.calls → ⊥)) waits stood.1)
    by_rest (inr (inl over)) none stood = let e : true ≡ false = sym (is_over h.transcript s.pass over h.only) ∙ ap is_some none in absurd cc
    by_rest (inr (inr idle)) none stood = inr (subst IsUnfinished (sym stood.0) idle.0, idle.1)

    by_end : (end : Option SessionEnd) → h.transcript.end ≡ end → StandsAt s h.rest h.transcript end → EndFits h.rest s.is_shut h.transcript end × IsTraceEnd end
    by_end None is stood = (by_rest rests is stood, goes None refl)
    by_end (Some end) is stood = (stood.0, stood.1)

pub rested : (input : List ℕ) (s : SessionView) → s.is_named ≡ true → HasReceived input s → Rests s
    → (transcript : Transcript) × (map told (transcripts_of s.pass) ≡ transcript ∷ []) × (transcript.number ≡ s.number) × Fits input s.is_shut transcript × IsTraceEnd transcript.end
rested input s named received rests =
    let h = handled_of input s named received in
    let t = h.transcript in
    let fits = end_fits input s h rests in (
      t,
      ap (map told) (alone t s.pass h.only) ∙ ap (λ (x : Transcript). x ∷ []) (told_same t (last_whole t.calls h.whole)),
      h.number,
      record { rest = h.rest; frames = h.frames; each = h.each; end = fits.0 },
      fits.1,
    )
