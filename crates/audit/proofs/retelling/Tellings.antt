-- The replies of calls and of sessions, one after the other.
use Rattle.std.proofs.Common.{◌≡◌, ℕ, ◌+◌, ◌<◌, ◌^◌, true, List, [], ◌∷◌, ◌++◌, take, Some, refl, sym, ap, subst, ◌∙◌, append_assoc, append-nil, zero, suc}
use Rattle.std.specs.Prelude.{slice_get}
use Rattle.std.specs.List.{AllByRecursion, AllZip, flat_map, zip}
use Rattle.std.proofs.lemmas.Grind.{flat_map-append}
use Rattle.std.proofs.lemmas.List.Elements.{filter-append}
use Rattle.kwire.specs.declared.reply.Reply.{Reply}
use Rattle.trace_file.specs.PrintedLine.{reply_line}
use Rattle.audit.specs.declared.account.Account.{Account}
use Rattle.audit.specs.declared.account.Call.{Call}
use Rattle.audit.specs.declared.account.Transcript.{Transcript}
use Rattle.audit.specs.Fits.{HasReplies, IsReplyOf, answered_of, is_answered}
use Rattle.audit.specs.IsLawful.{IsLawful}
use Rattle.audit.specs.LawfulCall.{IsLawfulCall}
use Rattle.audit.specs.Printed.{session_text, transcripts_of}
use Rattle.kbytes.proofs.Laws.{some_is}
use Rattle.audit.proofs.Laws.{all_lawful}
use Rattle.audit.specs.retelling.Shares.{sessions_in}
use Rattle.audit.specs.retelling.Tellable.{IsTold}
use Rattle.audit.proofs.retelling.LawfulParts.{one_more}
use Rattle.audit.proofs.retelling.ByPoints.{all_zip_append}

-- the replies to some calls, put behind what stands there
abbrev pub HavePut : Account → ℕ → List Call → List ℕ → List ℕ → Type 0
HavePut account session calls before after = (replies : List Reply) × HasReplies account calls replies × (after ≡ before ++ flat_map (reply_line session) replies)

pub replies_one : (account : Account) (session : ℕ) (call : Call) (reply : Reply) (before after : List ℕ) → is_answered call.how ≡ true → IsReplyOf account call reply → after ≡ before ++ flat_map (reply_line session) (reply ∷ []) → HavePut account session (call ∷ []) before after
replies_one account session call reply before after answers is same = (reply ∷ [], rw answers (is, tt), same)

pub replies_on : (account : Account) (session : ℕ) (xs ys : List Call) (a b c : List ℕ) → HavePut account session xs a b → HavePut account session ys b c → HavePut account session (xs ++ ys) a c
replies_on account session xs ys a b c f g = (
  f.0 ++ g.0,
  subst (λ (cs : List Call). AllZip (IsReplyOf account) cs (f.0 ++ g.0)) (sym (filter-append (λ (call : Call). is_answered call.how) xs ys))
      (all_zip_append (IsReplyOf account) (answered_of xs) (answered_of ys) f.0 g.0 f.1 g.1),
  g.2 ∙ ap (λ (l : List ℕ). l ++ flat_map (reply_line session) g.0) f.2 ∙ append_assoc a (flat_map (reply_line session) f.0) (flat_map (reply_line session) g.0)
      ∙ ap (λ (l : List ℕ). a ++ l) (sym (flat_map-append (reply_line session) f.0 g.0)),
)

pub next_call : (account : Account) (session : ℕ) (calls : List Call) (i : ℕ) (call : Call) (a b c : List ℕ) → slice_get calls i ≡ Some call → HavePut account session (take i calls) a b → HavePut account session (call ∷ []) b c → HavePut account session (take (i + 1) calls) a c
next_call account session calls i call a b c at f g =
    subst (λ (cs : List Call). HavePut account session cs a c) (sym (one_more calls i call at)) (replies_on account session (take i calls) (call ∷ []) a b c f g)

-- ---- sessions

abbrev pub HaveTold : Account → List Transcript → List ℕ → List ℕ → Type 0
HaveTold account transcripts before after =
    (all : List (List Reply)) × AllZip (λ transcript sent. HasReplies account transcript.calls sent) transcripts all × (after ≡ before ++ flat_map session_text (zip transcripts all))

zip_append : (account : Account) (xs ys : List Transcript) (rs ss : List (List Reply)) → AllZip (λ transcript sent. HasReplies account transcript.calls sent) xs rs → zip (xs ++ ys) (rs ++ ss) ≡ zip xs rs ++ zip ys ss
zip_append account [] ys [] ss h = refl
zip_append account [] ys (r ∷ rs) ss h = absurd h
zip_append account (x ∷ xs) ys [] ss h = absurd h
zip_append account (x ∷ xs) ys (r ∷ rs) ss h = ap (λ (l : List (Transcript × List Reply)). (x, r) ∷ l) (zip_append account xs ys rs ss h.1)

pub told_one : (account : Account) (transcript : Transcript) (a b : List ℕ) → ((replies : List Reply) × HasReplies account transcript.calls replies × (b ≡ a ++ session_text (transcript, replies))) → HaveTold account (transcript ∷ []) a b
told_one account transcript a b d = (d.0 ∷ [], (d.1, tt), d.2 ∙ ap (λ (l : List ℕ). a ++ l) (sym (append-nil (session_text (transcript, d.0)))))

pub told_on : (account : Account) (xs ys : List Transcript) (a b c : List ℕ) → HaveTold account xs a b → HaveTold account ys b c → HaveTold account (xs ++ ys) a c
told_on account xs ys a b c f g =
    let has : Transcript → List Reply → Type 0 = λ transcript sent. HasReplies account transcript.calls sent in (
      f.0 ++ g.0,
      all_zip_append has xs ys f.0 g.0 f.1 g.1,
      g.2 ∙ ap (λ (l : List ℕ). l ++ flat_map session_text (zip ys g.0)) f.2 ∙ append_assoc a (flat_map session_text (zip xs f.0)) (flat_map session_text (zip ys g.0))
          ∙ ap (λ (l : List ℕ). a ++ l) (sym (ap (flat_map session_text) (zip_append account xs ys f.0 g.0 f.1) ∙ flat_map-append session_text (zip xs f.0) (zip ys g.0))),
    )

pub next_session : (account : Account) (transcripts : List Transcript) (i : ℕ) (transcript : Transcript) (a b c : List ℕ) → slice_get transcripts i ≡ Some transcript → HaveTold account (take i transcripts) a b
    → ((replies : List Reply) × HasReplies account transcript.calls replies × (c ≡ b ++ session_text (transcript, replies))) → HaveTold account (take (i + 1) transcripts) a c
next_session account transcripts i transcript a b c at f d =
    subst (λ (ts : List Transcript). HaveTold account ts a c) (sym (one_more transcripts i transcript at)) (told_on account (take i transcripts) (transcript ∷ []) a b c f (told_one account transcript b c d))

pub next_pass : (account : Account) (passes : List (List Transcript)) (i : ℕ) (pass : List Transcript) (a b c : List ℕ) → slice_get passes i ≡ Some pass → HaveTold account (sessions_in (take i passes)) a b → HaveTold account pass b c
    → HaveTold account (sessions_in (take (i + 1) passes)) a c
next_pass account passes i pass a b c at f g =
    let more : sessions_in (take (i + 1) passes) ≡ sessions_in (take i passes) ++ pass =
    ap sessions_in (one_more passes i pass at) ∙ flat_map-append (λ (ts : List Transcript). ts) (take i passes) (pass ∷ []) ∙ ap (λ (l : List Transcript). sessions_in (take i passes) ++ l) (append-nil pass) in
    subst (λ (ts : List Transcript). HaveTold account ts a c) (sym more) (told_on account (sessions_in (take i passes)) pass a b c f g)

-- ---- what may be told

both : (account : Account) (transcripts : List Transcript) → AllByRecursion (λ transcript. AllByRecursion (IsLawfulCall account) transcript.calls) transcripts → AllByRecursion (λ transcript. transcript.number < 2 ^ 32) transcripts
    → AllByRecursion (IsTold account) transcripts
both account [] calls numbers = tt
both account (t ∷ transcripts) calls numbers = (record { calls = calls.0; number = numbers.0 }, both account transcripts calls.1 numbers.1)

pub all_told : (account : Account) → IsLawful account → AllByRecursion (λ transcript. transcript.number < 2 ^ 32) (transcripts_of account) → AllByRecursion (IsTold account) (transcripts_of account)
all_told account lawful numbers = both account (transcripts_of account) (all_lawful account lawful) numbers

pub part_told : (P : Transcript → Type 0) (xs ys : List Transcript) → AllByRecursion P (xs ++ ys) → AllByRecursion P xs × AllByRecursion P ys
part_told P [] ys all = (tt, all)
part_told P (x ∷ xs) ys all = let rest = part_told P xs ys all.1 in ((all.0, rest.0), rest.1)

pub pass_told : (P : Transcript → Type 0) (passes : List (List Transcript)) (i : ℕ) (pass : List Transcript) → AllByRecursion P (sessions_in passes) → slice_get passes i ≡ Some pass → AllByRecursion P pass
pass_told P [] i pass all at = absurd cc
pass_told P (p ∷ passes) zero pass all at = subst (AllByRecursion P) (some_is p pass at) (part_told P p (sessions_in passes) all).0
pass_told P (p ∷ passes) (suc i) pass all at = pass_told P passes i pass (part_told P p (sessions_in passes) all).1 at
