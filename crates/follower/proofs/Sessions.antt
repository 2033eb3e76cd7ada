-- Whole rounds over a session of a broker whose account is lawful, cut off anywhere.
use Rattle.std.proofs.Common.{◌≡◌, ◌≢◌, ℕ, ◌+◌, ◌<◌, ◌≤◌, ◌^◌, ℤ, pos, Bool, true, false, cond, List, [], ◌∷◌, ◌++◌, length, Option, Some, None, inl, inr, refl, sym, ap, subst, ◌∙◌, append_assoc, arith, length-append}
use Rattle.std.specs.Prelude.{FitsSigned}
use Rattle.std.specs.Int.{w32}
use Rattle.std.specs.List.{AllByRecursion, AllZip, flat_map}
use Rattle.std.proofs.lemmas.Bool.{cases_lt}
use Rattle.kbytes.specs.Field.{Array, Int32, Int64, fields, integer}
use Rattle.kbytes.proofs.Laws.{wide_32}
use Rattle.kwire.specs.Configuration.{partitions_of}
use Rattle.kwire.specs.Frames.{IsFrameBody, framed}
use Rattle.kwire.specs.declared.reply.Reply.{Reply}
use Rattle.kwire.specs.declared.request.Request.{Request}
use Rattle.kanswer.specs.Waiting.{is_quiet}
use Rattle.audit.specs.declared.account.Account.{Account}
use Rattle.audit.specs.declared.account.Call.{Call}
use Rattle.audit.specs.declared.account.CallHow.{CallHow}
use Rattle.audit.specs.declared.account.CallHow.TheVariants.{Quiet, AtOnce, Satisfied, Expired, Parked, Cut}
use Rattle.audit.specs.declared.account.SessionEnd.{SessionEnd}
use Rattle.audit.specs.Fits.{HasReplies, IsReplyOf, answered_of, is_answered, sent}
use Rattle.audit.specs.IsLawful.{EndWell, EndsAs, IsLawful}
use Rattle.audit.specs.LawfulCall.{Completes, IsLawfulCall}
use Rattle.follower.specs.Asking.{asked_body, asked_frame}
use Rattle.follower.specs.Copies.{Copy}
use Rattle.follower.specs.Course.{HasGone}
use Rattle.follower.specs.FromLawful.{MayBeRefused}
use Rattle.follower.specs.Verdict.{Brings, HasTaken, IsRefused, Reaches}
use Rattle.follower.specs.declared.fault.TakeFault.{TakeFault}
use Rattle.follower.specs.declared.fault.TakeFault.TheVariants.{Refused, ReplicaFull}
use Rattle.follower.proofs.Answers.{first_frame}
use Rattle.follower.proofs.Finding.{stepped}
use Rattle.follower.proofs.Turns.{AreHeld, IsReady, Turn, askable, brings, refuses, reply_turn}
use Rattle.follower.proofs.Verdicts.{one_refusal, taken_or_refused}

-- the body of a request is short
asked_short : (copy : Copy) (correlation : ℤ) → length copy.topic ≤ 249 → length (asked_body copy correlation) < 2 ^ 31
asked_short copy correlation named =
    omega (arith, named, length-append copy.topic (fields (Array (Some 1) ∷ Int32 copy.index ∷ Int64 (pos copy.end) ∷ Int32 (pos 1048576) ∷ [])))

pub asked_framed : (copy : Copy) (correlation : ℤ) → asked_frame copy correlation ≡ framed (asked_body copy correlation)
unfolding asked_frame
asked_framed copy correlation = refl

framed_some : (body rest : List ℕ) → framed body ++ rest ≡ [] → ⊥
framed_some body rest none =
    let size : length (framed body ++ rest) ≡ 0 = ap (λ (bytes : List ℕ). length bytes) none in
    omega (arith, size, length-append (framed body) rest, length-append (integer w32 (pos (length body))) body, wide_32.len (length body))

module _ (account : Account) (lawful : IsLawful account) (few : partitions_of account.config.topics ≤ 64) (P : Type 0) where
  -- these bytes are to be taken of what the later calls are sent, and these were written that begin with their frames
  pub record IsStanding (copy : Copy) (taken written : List ℕ) : Type 0 where
    pub calls : List Call
    pub end : Option SessionEnd
    pub small : AllByRecursion (λ call. IsFrameBody call.frame) calls
    pub ended : EndWell calls end
    pub lawfully : AllByRecursion (IsLawfulCall account) calls
    pub replies : List Reply
    pub replied : HasReplies account calls replies
    pub untaken : List ℕ
    pub answered : sent replies ≡ taken ++ untaken
    pub unread : List ℕ
    pub asked : written ≡ flat_map (λ call. framed call.frame) calls ++ unread
    pub held : AreHeld account lawful few P copy calls

  -- one round of them: a reply that is refused, or whose batches can be taken
  pub data Round (copy : Copy) (correlation : ℤ) (m : ℕ) (body rest more : List ℕ) : Type 0 where
    stops : (code : ℤ) → IsRefused copy correlation body (Refused code) → MayBeRefused (Refused code) → (P → code ≡ pos 1 → ⊥) → Round copy correlation m body rest more
    goes : (b : Brings copy correlation body) (end : ℕ) → Reaches copy.end b.told.records end [] → ((count : ℕ) (new : Copy) → HasTaken copy correlation body count new → IsReady new m × IsStanding new rest more)
        → Round copy correlation m body rest more

  -- the first of the calls was answered, as there is a reply
  record IsFirst (call : Call) (calls : List Call) (reply : Reply) (replies : List Reply) : Type 0 where
    own : IsReplyOf account call reply
    later : HasReplies account calls replies

  no_reply : (call : Call) (calls : List Call) (reply : Reply) (replies : List Reply) → is_answered call.how ≡ false → calls ≡ [] → HasReplies account (call ∷ calls) (reply ∷ replies) → ⊥
  no_reply call calls reply replies is none replied =
      let rest : AllZip (IsReplyOf account) (answered_of calls) (reply ∷ replies) =
      subst (λ (b : Bool). AllZip (IsReplyOf account) (cond b (call ∷ answered_of calls) (answered_of calls)) (reply ∷ replies)) is replied in
      subst (λ (cs : List Call). AllZip (IsReplyOf account) (answered_of cs) (reply ∷ replies)) none rest

  has_reply : (call : Call) (calls : List Call) (reply : Reply) (replies : List Reply) → is_answered call.how ≡ true → HasReplies account (call ∷ calls) (reply ∷ replies) → IsFirst call calls reply replies
  has_reply call calls reply replies is replied =
      let both : AllZip (IsReplyOf account) (call ∷ answered_of calls) (reply ∷ replies) =
      subst (λ (b : Bool). AllZip (IsReplyOf account) (cond b (call ∷ answered_of calls) (answered_of calls)) (reply ∷ replies)) is replied in
      record { own = both.0; later = both.1 }

  -- a fetch asks for a reply
  never_quiet : (copy : Copy) (correlation : ℤ) (m : ℕ) (call : Call) → IsReady copy m → FitsSigned w32 correlation → call.frame ≡ asked_body copy correlation → IsLawfulCall account call → call.how ≡ Quiet → ⊥
  never_quiet copy correlation m call ready number frame (inl w) quiet =
      let step = stepped account copy correlation m ready.is_id (askable copy m correlation ready number) call w.whole frame in
      let done = subst (Completes account w.whole.request w.whole.steps w.whole.looks call.finish) quiet w.completed in
      let no : false ≡ true = sym (ap (λ (r : Request). is_quiet r.ask) step.request_is) ∙ done.0 in
      absurd cc
  never_quiet copy correlation m call ready number frame (inr c) quiet = let no : Cut None ≡ Quiet = sym c.how ∙ quiet in absurd cc

  first_reply : (how : CallHow) (call : Call) (calls : List Call) (end : Option SessionEnd) (reply : Reply) (replies : List Reply) → call.how ≡ how → (call.how ≡ Quiet → ⊥) → EndsAs how calls end
      → HasReplies account (call ∷ calls) (reply ∷ replies) → IsFirst call calls reply replies
  first_reply Quiet call calls end reply replies is loud ends replied = absurd (loud is)
  first_reply AtOnce call calls end reply replies is loud ends replied = has_reply call calls reply replies (ap is_answered is) replied
  first_reply (Satisfied by) call calls end reply replies is loud ends replied = has_reply call calls reply replies (ap is_answered is) replied
  first_reply (Expired by) call calls end reply replies is loud ends replied = has_reply call calls reply replies (ap is_answered is) replied
  first_reply Parked call calls end reply replies is loud ends replied = absurd (no_reply call calls reply replies (ap is_answered is) ends.0 replied)
  first_reply (Cut won) call calls end reply replies is loud ends replied = absurd (no_reply call calls reply replies (ap is_answered is) ends.0 replied)

  module _ (copy : Copy) (correlation : ℤ) (m : ℕ) (body rest more : List ℕ) (ready : IsReady copy m) (number : FitsSigned w32 correlation) (small : IsFrameBody body) where
    by_call : (call : Call) (calls : List Call) (end : Option SessionEnd) (reply : Reply) (replies : List Reply) (untaken unread : List ℕ) → AllByRecursion (λ c. IsFrameBody c.frame) (call ∷ calls) → EndWell (call ∷ calls) end
        → AllByRecursion (IsLawfulCall account) (call ∷ calls) → HasReplies account (call ∷ calls) (reply ∷ replies) → sent (reply ∷ replies) ≡ (framed body ++ rest) ++ untaken
        → asked_frame copy correlation ++ more ≡ flat_map (λ c. framed c.frame) (call ∷ calls) ++ unread → AreHeld account lawful few P copy (call ∷ calls) → Round copy correlation m body rest more
    by_call call calls end reply replies untaken unread smalls ended lawfully replied answered asked held =
        let later : List ℕ = flat_map (λ c. framed c.frame) calls in
        let frames : framed call.frame ++ (later ++ unread) ≡ framed (asked_body copy correlation) ++ more =
        sym (append_assoc (framed call.frame) later unread) ∙ sym asked ∙ ap (λ (f : List ℕ). f ++ more) (asked_framed copy correlation) in
        let both = first_frame call.frame (asked_body copy correlation) (later ++ unread) more smalls.0 (asked_short copy correlation ready.named) frames in
        let first = first_reply call.how call calls end reply replies refl (never_quiet copy correlation m call ready number both.0 lawfully.0) ended.0 replied in
        let is = reply_turn account lawful few P copy correlation m call calls reply ready (askable copy m correlation ready number) lawfully.0 first.own both.0 held in
        let bytes : framed body ++ (rest ++ untaken) ≡ framed is.body ++ sent replies =
        sym (append_assoc (framed body) rest untaken) ∙ sym answered ∙ ap (λ (f : List ℕ). f ++ sent replies) is.spelled in
        let taken = first_frame body is.body (rest ++ untaken) (sent replies) small is.short bytes in
        let turn : Turn account lawful few P copy correlation m body calls = subst (λ (b : List ℕ). Turn account lawful few P copy correlation m b calls) (sym taken.0) is.turn in
        elim turn [
          | refuses code why may never ↦ stops code why may never
          | brings b last reached onward ↦ goes b last reached (λ count new took.
              let on = onward count new took in (
                on.0,
                record {
                  calls = calls;
                  end = end;
                  small = smalls.1;
                  ended = ended.1;
                  lawfully = lawfully.1;
                  replies = replies;
                  replied = first.later;
                  untaken = untaken;
                  answered = sym taken.1;
                  unread = unread;
                  asked = sym both.1;
                  held = on.1;
                },
              ))
        ]

    by_calls : (calls : List Call) (end : Option SessionEnd) (reply : Reply) (replies : List Reply) (untaken unread : List ℕ) → AllByRecursion (λ c. IsFrameBody c.frame) calls → EndWell calls end → AllByRecursion (IsLawfulCall account) calls
        → HasReplies account calls (reply ∷ replies) → sent (reply ∷ replies) ≡ (framed body ++ rest) ++ untaken → asked_frame copy correlation ++ more ≡ flat_map (λ c. framed c.frame) calls ++ unread
        → AreHeld account lawful few P copy calls → Round copy correlation m body rest more
    by_calls [] end reply replies untaken unread smalls ended lawfully replied answered asked held = absurd replied
    by_calls (call ∷ calls) end reply replies untaken unread smalls ended lawfully replied answered asked held =
        by_call call calls end reply replies untaken unread smalls ended lawfully replied answered asked held

    by_replies : (calls : List Call) (end : Option SessionEnd) (replies : List Reply) (untaken unread : List ℕ) → AllByRecursion (λ c. IsFrameBody c.frame) calls → EndWell calls end → AllByRecursion (IsLawfulCall account) calls
        → HasReplies account calls replies → sent replies ≡ (framed body ++ rest) ++ untaken → asked_frame copy correlation ++ more ≡ flat_map (λ c. framed c.frame) calls ++ unread
        → AreHeld account lawful few P copy calls → Round copy correlation m body rest more
    by_replies calls end [] untaken unread smalls ended lawfully replied answered asked held = absurd (framed_some body (rest ++ untaken) (sym (append_assoc (framed body) rest untaken) ∙ sym answered))
    by_replies calls end (reply ∷ replies) untaken unread smalls ended lawfully replied answered asked held =
        by_calls calls end reply replies untaken unread smalls ended lawfully replied answered asked held

    pub round_at : IsStanding copy (framed body ++ rest) (asked_frame copy correlation ++ more) → Round copy correlation m body rest more
    round_at s = by_replies s.calls s.end s.replies s.untaken s.unread s.small s.ended s.lawfully s.replied s.answered s.asked s.held

  -- whole rounds
  pub rounds_on : (m round : ℕ) (old new : Copy) (bodies : List (List ℕ)) (asked rest more : List ℕ) → AllByRecursion IsFrameBody bodies → HasGone round old bodies asked new → IsReady old m
      → IsStanding old (flat_map framed bodies ++ rest) (asked ++ more) → IsReady new m × IsStanding new rest more
  rounds_on m round old new [] asked rest more small gone ready stands =
      subst (λ (c : Copy). IsReady c m × IsStanding c rest more) (sym gone.1) (ready, subst (λ (bytes : List ℕ). IsStanding old rest (bytes ++ more)) gone.0 stands)
  rounds_on m round old new (body ∷ bodies) asked rest more small gone ready stands =
      let taken = gone.3 in
      let later : List ℕ = gone.2 in
      let input : flat_map framed (body ∷ bodies) ++ rest ≡ framed body ++ (flat_map framed bodies ++ rest) = append_assoc (framed body) (flat_map framed bodies) rest in
      let output : asked ++ more ≡ asked_frame old (pos round) ++ (later ++ more) = ap (λ (bytes : List ℕ). bytes ++ more) gone.4 ∙ append_assoc (asked_frame old (pos round)) later more in
      let now : IsStanding old (framed body ++ (flat_map framed bodies ++ rest)) (asked_frame old (pos round) ++ (later ++ more)) =
      subst (IsStanding old (framed body ++ (flat_map framed bodies ++ rest))) output (subst (λ (bytes : List ℕ). IsStanding old bytes (asked ++ more)) input stands) in
      elim (round_at old (pos round) m body (flat_map framed bodies ++ rest) (later ++ more) ready taken.brings.reply.fits.0 small.0 now) [
        | stops code why may never ↦ absurd (taken_or_refused old (pos round) body gone.0 gone.1 (Refused code) taken why)
        | goes b end reached onward ↦
            let on = onward gone.0 gone.1 taken in
            rounds_on m (round + 1) gone.1 new bodies later rest more small.1 gone.5 on.0 on.1
      ]

  -- a reply that isn't taken
  pub refused_at : (m : ℕ) (copy : Copy) (correlation : ℤ) (body rest more : List ℕ) (fault : TakeFault) → IsReady copy m → FitsSigned w32 correlation → IsFrameBody body → IsStanding copy (framed body ++ rest) (asked_frame copy correlation ++ more)
      → IsRefused copy correlation body fault → MayBeRefused fault × (P → fault ≢ Refused (pos 1))
  refused_at m copy correlation body rest more fault ready number small stands why =
      elim (round_at copy correlation m body rest more ready number small stands) [
        | stops code is may never ↦
            let same : Refused code ≡ fault = one_refusal copy correlation body (Refused code) fault is why in
            (subst MayBeRefused same may, λ p one. let both : Refused code ≡ Refused (pos 1) = same ∙ one in never p cc)
        | goes b end reached onward ↦ elim (cases_lt 67108864 (length copy.log + length b.told.records)) [
          | inl full ↦
              let same : ReplicaFull ≡ fault = one_refusal copy correlation body ReplicaFull fault (b, end, reached, full) why in
              (subst MayBeRefused same tt, λ p one. let both : ReplicaFull ≡ Refused (pos 1) = same ∙ one in absurd cc)
          | inr room ↦
              absurd (taken_or_refused copy correlation body (length reached.batches) _ fault (record { brings = b; end = end; reached = reached; few = room; count_is = refl; new_is = refl }) why)
        ]
      ]
