-- A lawful account has one print: each call that is answered has a reply.
use Rattle.std.proofs.Common.{◌≡◌, ◌⊎◌, ℕ, zero, suc, Bool, true, false, List, [], ◌∷◌, ◌++◌, take, Some, None, unwrap_or, inl, inr, refl, sym, ap, subst, ◌∙◌}
use Rattle.std.specs.Prelude.{slice_get}
use Rattle.std.specs.List.{AllByRecursion, AllZip, flat_map, zip}
use Rattle.audit.specs.declared.account.Account.{Account}
use Rattle.audit.specs.declared.account.Transcript.{Transcript}
use Rattle.audit.specs.declared.account.Call.{Call}
use Rattle.audit.specs.declared.account.CallHow.{CallHow}
use Rattle.audit.specs.declared.account.CallHow.TheVariants.{Quiet, AtOnce, Satisfied, Expired, Parked, Cut}
use Rattle.audit.specs.declared.account.Point.{Point}
use Rattle.kwire.specs.declared.reply.Reply.{Reply}
use Rattle.kwire.specs.declared.request.Request.{Request}
use Rattle.kanswer.specs.Answer.{answer}
use Rattle.kanswer.specs.Waiting.{Shown}
use Rattle.audit.specs.Fits.{ShowsFor, IsReplyOf, is_answered, HasReplies}
use Rattle.audit.specs.LawfulCall.{Step, IsLook, IsClockLook, IsLawfulCall, Completes, AreLooksAfterClock, AreFirstLooksAfterClock, operation_parts, shown_as_accepted, shown_as_completed}
use Rattle.audit.specs.Histories.{calls_in}
use Rattle.audit.specs.IsLawful.{IsLawful}
use Rattle.audit.specs.Printed.{IsPrintOf, transcripts_of, session_text, summary_of}
use Rattle.kbytes.proofs.Laws.{all_append}
use Rattle.audit.proofs.ReplyOnce.{replies_once}

-- ---- the calls of a lawful account

-- what holds of each item by its place
by_places : {A : Type 0} (P : A → Type 0) (xs : List A) → ((k : ℕ) (x : A) → slice_get xs k ≡ Some x → P x) → AllByRecursion P xs
by_places P [] h = tt
by_places P (x ∷ xs) h = (h zero x refl, by_places P xs (λ k y e. h (suc k) y e))

front_holds : {A : Type 0} (P : A → Type 0) (xs ys : List A) → AllByRecursion P (xs ++ ys) → AllByRecursion P xs
front_holds P [] ys h = tt
front_holds P (x ∷ xs) ys h = (h.0, front_holds P xs ys h.1)

rest_holds : {A : Type 0} (P : A → Type 0) (xs ys : List A) → AllByRecursion P (xs ++ ys) → AllByRecursion P ys
rest_holds P [] ys h = h
rest_holds P (x ∷ xs) ys h = rest_holds P xs ys h.1

abbrev Each : (Call → Type 0) → Transcript → Type 0
Each P t = AllByRecursion P t.calls

by_transcripts : (P : Call → Type 0) (ts : List Transcript) → AllByRecursion P (calls_in ts) → AllByRecursion (Each P) ts
by_transcripts P [] h = tt
by_transcripts P (t ∷ ts) h = (front_holds P t.calls (calls_in ts) h, by_transcripts P ts (rest_holds P t.calls (calls_in ts) h))

by_passes : (P : Call → Type 0) (passes : List (List Transcript))
    → ((pass seq : ℕ) (call : Call) → slice_get (calls_in (unwrap_or (slice_get passes pass) [])) seq ≡ Some call → P call)
    → AllByRecursion (Each P) (flat_map (λ transcripts. transcripts) passes)
by_passes P [] h = tt
by_passes P (ts ∷ passes) h =
    all_append (Each P) ts (flat_map (λ transcripts. transcripts) passes) (by_transcripts P ts (by_places P (calls_in ts) (h zero)))
    (by_passes P passes (λ pass seq call e. h (suc pass) seq call e))

pub all_lawful : (account : Account) → IsLawful account → AllByRecursion (Each (IsLawfulCall account)) (transcripts_of account)
all_lawful account lawful = by_passes (IsLawfulCall account) account.passes lawful.calls

-- ---- their replies

after_clock : (account : Account) (steps : List Step) (finish : List Point) → AreLooksAfterClock account steps finish
    → (clock : Point) × (looks : List Point) × (finish ≡ clock ∷ looks) × (shown : List Shown) × (shown ≡ shown_as_completed account steps looks)
after_clock account steps [] h = absurd h
after_clock account steps (clock ∷ looks) h = (clock, looks, refl, shown_as_completed account steps looks, refl)

shows_there : (account : Account) (request : Request) (steps : List Step) (looks finish : List Point) (how : CallHow) → Completes account request steps looks finish how → is_answered how ≡ true
    → (shown : List Shown) × ShowsFor account steps finish how shown
shows_there account request steps looks finish Quiet h is = absurd cc
shows_there account request steps looks finish AtOnce h is = (shown_as_accepted account steps, refl)
shows_there account request steps looks finish (Satisfied by) h is = (shown_as_completed account steps finish, refl)
shows_there account request steps looks finish (Expired by) h is =
    let c = after_clock account steps finish h.1 in
    (c.3, (c.0, c.1, c.2, c.4))
shows_there account request steps looks finish Parked h is = absurd cc
shows_there account request steps looks finish (Cut None) h is = absurd cc
shows_there account request steps looks finish (Cut (Some by)) h is = absurd cc

pub reply_there : (account : Account) (call : Call) → IsLawfulCall account call → is_answered call.how ≡ true → (reply : Reply) × IsReplyOf account call reply
reply_there account call (inl w) is =
    let s = shows_there account w.whole.request w.whole.steps w.whole.looks call.finish call.how w.completed is in
    (answer account.config w.whole.request s.0, record { whole = w.whole; shown = s.0; shows = s.1; answered = refl })
reply_there account call (inr c) is = let no : false ≡ true = sym (ap is_answered c.how) ∙ is in absurd cc

shows_answered : (account : Account) (steps : List Step) (finish : List Point) (how : CallHow) (shown : List Shown) → ShowsFor account steps finish how shown → is_answered how ≡ true
shows_answered account steps finish Quiet shown h = absurd h
shows_answered account steps finish AtOnce shown h = refl
shows_answered account steps finish (Satisfied by) shown h = refl
shows_answered account steps finish (Expired by) shown h = refl
shows_answered account steps finish Parked shown h = absurd h
shows_answered account steps finish (Cut won) shown h = absurd h

pub reply_answered : (account : Account) (call : Call) (reply : Reply) → IsReplyOf account call reply → is_answered call.how ≡ true
reply_answered account call reply r = shows_answered account r.whole.steps call.finish call.how r.shown r.shows

next_reply : (account : Account) (call : Call) (calls : List Call) (b : Bool) → is_answered call.how ≡ b → IsLawfulCall account call → (rest : List Reply) → HasReplies account calls rest
    → (replies : List Reply) × HasReplies account (call ∷ calls) replies
next_reply account call calls true is lawful rest h =
    let r = reply_there account call lawful is in
    (r.0 ∷ rest, rw is (r.1, h))
next_reply account call calls false is lawful rest h = (rest, rw is h)

replies_there : (account : Account) (calls : List Call) → AllByRecursion (IsLawfulCall account) calls → (replies : List Reply) × HasReplies account calls replies
replies_there account [] h = ([], tt)
replies_there account (call ∷ calls) h =
    let rest = replies_there account calls h.1 in
    next_reply account call calls (is_answered call.how) refl h.0 rest.0 rest.1

abbrev AreSent : Account → List Transcript → List (List Reply) → Type 0
AreSent account ts replies = AllZip (λ transcript sent. HasReplies account transcript.calls sent) ts replies

all_sent : (account : Account) (ts : List Transcript) → AllByRecursion (Each (IsLawfulCall account)) ts → (replies : List (List Reply)) × AreSent account ts replies
all_sent account [] h = ([], tt)
all_sent account (t ∷ ts) h =
    let here = replies_there account t.calls h.0 in
    let rest = all_sent account ts h.1 in
    (here.0 ∷ rest.0, (here.1, rest.1))

pub print_there : (account : Account) → IsLawful account → (text : List ℕ) × IsPrintOf account text
print_there account lawful =
    let s = all_sent account (transcripts_of account) (all_lawful account lawful) in
    (flat_map session_text (zip (transcripts_of account) s.0) ++ summary_of account, record { replies = s.0; sent = s.1; spelled = refl })

sent_once : (account : Account) (ts : List Transcript) (xs ys : List (List Reply)) → AreSent account ts xs → AreSent account ts ys → xs ≡ ys
sent_once account [] [] [] h k = refl
sent_once account [] [] (y ∷ ys) h k = absurd k
sent_once account [] (x ∷ xs) ys h k = absurd h
sent_once account (t ∷ ts) [] ys h k = absurd h
sent_once account (t ∷ ts) (x ∷ xs) [] h k = absurd k
sent_once account (t ∷ ts) (x ∷ xs) (y ∷ ys) h k =
    ap (λ (rs : List Reply). rs ∷ xs) (replies_once account t.calls x y h.0 k.0) ∙ ap (λ (rest : List (List Reply)). y ∷ rest) (sent_once account ts xs ys h.1 k.1)

pub print_once : (account : Account) (text other : List ℕ) → IsPrintOf account text → IsPrintOf account other → text ≡ other
print_once account text other p q =
    p.spelled ∙ ap (λ (replies : List (List Reply)). flat_map session_text (zip (transcripts_of account) replies) ++ summary_of account) (sent_once account (transcripts_of account) p.replies q.replies p.sent q.sent) ∙ sym q.spelled

-- ---- its last entries

-- a look at a partition or at the clock that stands in the account
abbrev pub Stands : Account → Point → Type 0
Stands account point = IsLook account point.part point ⊎ IsClockLook account point

none_stand : (account : Account) (finish : List Point) → finish ≡ [] → AllByRecursion (Stands account) finish
none_stand account finish e = subst (AllByRecursion (Stands account)) (sym e) tt

looks_on : (account : Account) (parts : List ℕ) (points : List Point) → AllZip (IsLook account) parts points → AllByRecursion (Stands account) points
looks_on account [] [] h = tt
looks_on account [] (point ∷ points) h = absurd h
looks_on account (part ∷ parts) [] h = absurd h
looks_on account (part ∷ parts) (point ∷ points) h = (inl (refl, h.0.1, h.0.2, h.0.3), looks_on account parts points h.1)

behind_clock : (account : Account) (steps : List Step) (finish : List Point) → AreLooksAfterClock account steps finish → AllByRecursion (Stands account) finish
behind_clock account steps [] h = absurd h
behind_clock account steps (clock ∷ looks) h = (inr h.0, looks_on account (operation_parts steps) looks h.1)

first_behind_clock : (account : Account) (steps : List Step) (finish : List Point) → AreFirstLooksAfterClock account steps finish → AllByRecursion (Stands account) finish
first_behind_clock account steps [] h = absurd h
first_behind_clock account steps (clock ∷ looks) h = (inr h.0, looks_on account (take h.1.0 (operation_parts steps)) looks h.1.1)

completed_stand : (account : Account) (request : Request) (steps : List Step) (looks finish : List Point) (how : CallHow) → Completes account request steps looks finish how → AllByRecursion (Stands account) finish
completed_stand account request steps looks finish Quiet h = none_stand account finish h.1
completed_stand account request steps looks finish AtOnce h = none_stand account finish h.2
completed_stand account request steps looks finish (Satisfied by) h = looks_on account (operation_parts steps) finish h.1
completed_stand account request steps looks finish (Expired by) h = behind_clock account steps finish h.1
completed_stand account request steps looks finish Parked h = none_stand account finish h.1
completed_stand account request steps looks finish (Cut None) h = none_stand account finish h
completed_stand account request steps looks finish (Cut (Some by)) h =
    elim h.1 [
      | inl c ↦ looks_on account (take c.first.0 (operation_parts steps)) finish c.first.1
      | inr c ↦ first_behind_clock account steps finish c.first
    ]

-- a lawful call names no last entry that nobody left
pub looks_stand : (account : Account) (call : Call) → IsLawfulCall account call → AllByRecursion (Stands account) call.finish
looks_stand account call (inl w) = completed_stand account w.whole.request w.whole.steps w.whole.looks call.finish call.how w.completed
looks_stand account call (inr c) = none_stand account call.finish c.unfinished
