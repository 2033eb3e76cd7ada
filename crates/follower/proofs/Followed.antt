-- Following a broker whose account is lawful, from the first round on.
use Rattle.std.proofs.Common.{◌≡◌, ◌≢◌, ℕ, zero, suc, ◌+◌, ◌<◌, ◌≤◌, ◌^◌, ◌≤ℤ◌, ℤ, pos, negsuc, List, [], ◌∷◌, ◌++◌, length, Option, Some, unwrap_or, inl, inr, refl, sym, ap, subst, ◌∙◌, append-nil, arith}
use Rattle.std.specs.Prelude.{slice_get}
use Rattle.std.specs.List.{AllByRecursion, flat_map}
use Rattle.std.proofs.lemmas.Grind.{flat_map-append}
use Rattle.kbytes.proofs.Laws.{some_is}
use Rattle.kwire.specs.Configuration.{partitions_of}
use Rattle.kwire.specs.Frames.{IsFrameBody, framed}
use Rattle.audit.specs.declared.account.Account.{Account}
use Rattle.audit.specs.declared.account.Call.{Call}
use Rattle.audit.specs.declared.account.PartAccount.{PartAccount}
use Rattle.audit.specs.declared.account.Point.{Point}
use Rattle.audit.specs.declared.account.Transcript.{Transcript}
use Rattle.audit.specs.Histories.{calls_in, calls_of, history_of, points_of}
use Rattle.audit.specs.IsLawful.{EndWell}
use Rattle.audit.specs.IsLawful.{FollowOn as TranscriptsFollow}
use Rattle.audit.specs.LawfulCall.{IsLawfulCall}
use Rattle.audit.proofs.retelling.Laws.{HasPart, part_there}
use Rattle.partlog.specs.Added.{log_end_of}
use Rattle.partlog.specs.Batches.{batches_of}
use Rattle.partlog.specs.History.{History}
use Rattle.follower.specs.Asking.{asked_frame}
use Rattle.follower.specs.Copies.{Copy}
use Rattle.follower.specs.Course.{HasFollowed, HasGone}
use Rattle.follower.specs.Flows.{LinkView}
use Rattle.follower.specs.FromLawful.{IsFollowing, IsPrefixIn, MayBeRefused}
use Rattle.follower.specs.Verdict.{IsRefused}
use Rattle.follower.specs.declared.fault.FollowEnd.{FollowEnd}
use Rattle.follower.specs.declared.fault.FollowEnd.TheVariants.{Done, Take}
use Rattle.follower.specs.declared.fault.TakeFault.{TakeFault}
use Rattle.follower.specs.declared.fault.TakeFault.TheVariants.{Refused}
use Rattle.follower.proofs.Held.{copy_of_prefix, prefix_of_copy}
use Rattle.follower.proofs.LogRows.{all_stored, log_is}
use Rattle.follower.proofs.Places.{RiseIn, before_in, behind_in, rises_in}
use Rattle.follower.proofs.Sessions.{IsStanding, refused_at, rounds_on}
use Rattle.follower.proofs.Turns.{AreHeld, IsHeld, IsReady}

-- ---- items of lists

by_places : {A : Type 0} (Q : A → Type 0) (xs : List A) → ((k : ℕ) (x : A) → slice_get xs k ≡ Some x → Q x) → AllByRecursion Q xs
by_places Q [] each = tt
by_places Q (x ∷ xs) each = (each zero x refl, by_places Q xs (λ k y at. each (suc k) y at))

at_place : {A : Type 0} (Q : A → Type 0) (xs : List A) (k : ℕ) (x : A) → AllByRecursion Q xs → slice_get xs k ≡ Some x → Q x
at_place Q [] k x all at = absurd cc
at_place Q (y ∷ xs) zero x all at = subst Q (some_is y x at) all.0
at_place Q (y ∷ xs) (suc k) x all at = at_place Q xs k x all.1 at

front_all : {A : Type 0} (Q : A → Type 0) (xs ys : List A) → AllByRecursion Q (xs ++ ys) → AllByRecursion Q xs
front_all Q [] ys all = tt
front_all Q (x ∷ xs) ys all = (all.0, front_all Q xs ys all.1)

back_all : {A : Type 0} (Q : A → Type 0) (xs ys : List A) → AllByRecursion Q (xs ++ ys) → AllByRecursion Q ys
back_all Q [] ys all = all
back_all Q (x ∷ xs) ys all = back_all Q xs ys all.1

-- ---- the session of a lawful account

ended_in : (before : List Transcript) (session : Transcript) (after : List Transcript) (from : ℕ) → TranscriptsFollow from (before ++ session ∷ after) → EndWell session.calls session.end
ended_in [] session after from all = all.1
ended_in (t ∷ before) session after from all = ended_in before session after (from + length t.calls) all.2

follower_number : (id : ℤ) → pos 1 ≤ℤ id → (m : ℕ) × (id ≡ pos m)
follower_number (pos m) some = (m, refl)
follower_number (negsuc m) some = absurd (omega (arith, some))

module _ (account : Account) (session : Transcript) (old : Copy) (taken written : List ℕ) (f : IsFollowing account session old taken written) where
  abbrev P : Type 0
  P = old.log ≡ []

  abbrev few : partitions_of account.config.topics ≤ 64
  few = f.few

  abbrev front : List Call
  front = calls_in f.session_of.before

  abbrev back : List Call
  back = calls_in f.session_of.after

  calls_are : calls_of account f.session_of.pass ≡ front ++ (session.calls ++ back)
  calls_are =
      ap (λ (o : Option (List Transcript)). calls_in (unwrap_or o [])) f.session_of.there
      ∙ flat_map-append (λ (t : Transcript). t.calls) f.session_of.before (session ∷ f.session_of.after)

  lawfully : AllByRecursion (IsLawfulCall account) session.calls
  lawfully =
      let all = by_places (IsLawfulCall account) (calls_of account f.session_of.pass) (λ k call at. f.lawful.calls f.session_of.pass k call at) in
      front_all (IsLawfulCall account) session.calls back (back_all (IsLawfulCall account) front (session.calls ++ back) (subst (AllByRecursion (IsLawfulCall account)) calls_are all))

  rises : (n : ℕ) → RiseIn n 0 (flat_map points_of session.calls)
  rises n =
      let A : List Point = flat_map points_of front in
      let B : List Point = flat_map points_of session.calls in
      let C : List Point = flat_map points_of back in
      let points : flat_map points_of (calls_of account f.session_of.pass) ≡ A ++ (B ++ C) =
      ap (λ (cs : List Call). flat_map points_of cs) calls_are ∙ flat_map-append points_of front (session.calls ++ back) ∙ ap (λ (ps : List Point). A ++ ps) (flat_map-append points_of session.calls back) in
      let all = rises_in n (flat_map points_of (calls_of account f.session_of.pass)) (f.lawful.order f.session_of.pass n) in
      before_in n 0 B C (behind_in n 0 A (B ++ C) (subst (RiseIn n 0) points all))

  held : AreHeld account f.lawful few P old session.calls
  held n part is there =
      let hp : HasPart account n = part_there account old.topic old.index n f.lawful few is in
      let h : History = history_of hp.part in
      let own : hp.part ≡ part = some_is hp.part part (sym hp.there ∙ there) in
      let rest = f.prefix n hp.part is hp.there in
      let here : IsHeld account f.lawful few P old session.calls n hp.part = record {
        held = copy_of_prefix old (batches_of hp.part.events hp.part.log) (log_end_of hp.part.events) rest.0 f.kept.batches (all_stored h hp.plays hp.short) (log_is h hp.plays hp.short ∙ rest.1);
        floor = 0;
        rise = rises n;
        reach = λ none. omega (arith, f.kept.dense, ap (λ (bytes : List ℕ). length bytes) none);
      } in
      subst (IsHeld account f.lawful few P old session.calls n) own here

  number : (m : ℕ) × (old.id ≡ pos m)
  number = follower_number old.id f.kept.numbered

  ready : IsReady old number.0
  ready = record { is_id = number.1; id = f.kept.fits; index = f.kept.index; named = f.kept.named; end = omega (arith, f.kept.dense, f.kept.most) }

  stands : IsStanding account f.lawful few P old taken written
  stands = record {
    calls = session.calls;
    end = session.end;
    small = f.small;
    ended = ended_in f.session_of.before session f.session_of.after 0 (at_place (TranscriptsFollow 0) account.passes f.session_of.pass (f.session_of.before ++ session ∷ f.session_of.after) f.lawful.ends f.session_of.there);
    lawfully = lawfully;
    replies = f.replies;
    replied = f.replied;
    untaken = f.untaken;
    answered = f.answered;
    unread = f.unread;
    asked = f.asked;
    held = held;
  }

  -- what a copy holds of each log, it has as its first bytes
  prefix_held : (new : Copy) (calls : List Call) → AreHeld account f.lawful few P new calls → IsPrefixIn account new
  prefix_held new calls all n part is there =
      let hp : HasPart account n = part_there account new.topic new.index n f.lawful few is in
      let own : hp.part ≡ part = some_is hp.part part (sym hp.there ∙ there) in
      let it = all n hp.part is hp.there in
      subst (λ (p : PartAccount). (rest : List ℕ) × (p.log ≡ new.log ++ rest)) own
      (prefix_of_copy new (batches_of hp.part.events hp.part.log) hp.part.log it.held (log_is (history_of hp.part) hp.plays hp.short))

-- ---- whole rounds, and a reply that isn't taken

pub copied : (account : Account) (session : Transcript) (old new : Copy) (bodies : List (List ℕ)) (asked rest more : List ℕ) → AllByRecursion IsFrameBody bodies → HasGone 0 old bodies asked new
    → IsFollowing account session old (flat_map framed bodies ++ rest) (asked ++ more) → IsPrefixIn account new
copied account session old new bodies asked rest more small gone f =
    let input : List ℕ = flat_map framed bodies ++ rest in
    let output : List ℕ = asked ++ more in
    let on = rounds_on account f.lawful f.few (old.log ≡ []) (number account session old input output f).0 0 old new bodies asked rest more small gone
    (ready account session old input output f) (stands account session old input output f) in
    prefix_held account session old input output f new on.1.calls on.1.held

pub refused : (account : Account) (session : Transcript) (old new : Copy) (bodies : List (List ℕ)) (asked body rest more : List ℕ) (fault : TakeFault) → AllByRecursion IsFrameBody bodies → HasGone 0 old bodies asked new
    → length bodies < 2 ^ 31 → IsFrameBody body → IsFollowing account session old (flat_map framed bodies ++ (framed body ++ rest)) (asked ++ (asked_frame new (pos (length bodies)) ++ more))
    → IsRefused new (pos (length bodies)) body fault → MayBeRefused fault × (old.log ≡ [] → fault ≢ Refused (pos 1))
refused account session old new bodies asked body rest more fault small gone short one f why =
    let last : List ℕ = framed body ++ rest in
    let next : List ℕ = asked_frame new (pos (length bodies)) ++ more in
    let input : List ℕ = flat_map framed bodies ++ last in
    let output : List ℕ = asked ++ next in
    let m : ℕ = (number account session old input output f).0 in
    let on = rounds_on account f.lawful f.few (old.log ≡ []) m 0 old new bodies asked last next small gone (ready account session old input output f) (stands account session old input output f) in
    refused_at account f.lawful f.few (old.log ≡ []) m new (pos (length bodies)) body rest more fault on.0 (record { sfits = omega (arith, short) }) one on.1 why

-- ---- all that a follower does

module _ (account : Account) (session : Transcript) (rounds : ℕ) (old new : Copy) (end : FollowEnd) (before now : LinkView) (did : HasFollowed rounds old new end before now) (f : IsFollowing account session old did.input did.output) where
  as_came : (last : List ℕ) → did.output ≡ did.asked ++ last → IsFollowing account session old (flat_map framed did.bodies ++ did.rest) (did.asked ++ last)
  as_came last written = subst (λ (bytes : List ℕ). IsFollowing account session old bytes (did.asked ++ last)) did.parts (subst (IsFollowing account session old did.input) written f)

  pub followed_copied : IsPrefixIn account new
  followed_copied = elim did.ends [
    | inl done ↦ copied account session old new did.bodies did.asked did.rest [] did.each did.gone (as_came [] (done.written ∙ sym (append-nil did.asked)))
    | inr broken ↦ copied account session old new did.bodies did.asked did.rest broken.last did.each did.gone (as_came broken.last broken.written)
  ]

pub followed_refused : (account : Account) (session : Transcript) (rounds : ℕ) (old new : Copy) (fault : TakeFault) (before now : LinkView) (did : HasFollowed rounds old new (Take fault) before now) → rounds < 2 ^ 31
    → IsFollowing account session old did.input did.output → MayBeRefused fault × (old.log ≡ [] → fault ≢ Refused (pos 1))
followed_refused account session rounds old new fault before now did short f = elim did.ends [
  | inl done ↦ let no : Take fault ≡ Done = done.end_is in absurd cc
  | inr broken ↦
      let why = broken.why in
      let came = as_came account session rounds old new (Take fault) before now did f broken.last broken.written in
      let next : List ℕ = asked_frame new (pos (length did.bodies)) in
      let written : did.asked ++ broken.last ≡ did.asked ++ (next ++ []) = ap (λ (bytes : List ℕ). did.asked ++ bytes) (why.0 ∙ sym (append-nil next)) in
      let all : IsFollowing account session old (flat_map framed did.bodies ++ (framed why.1 ++ why.2)) (did.asked ++ (next ++ [])) =
      subst (λ (bytes : List ℕ). IsFollowing account session old (flat_map framed did.bodies ++ bytes) (did.asked ++ (next ++ []))) why.3 (subst (IsFollowing account session old (flat_map framed did.bodies ++ did.rest)) written came) in
      refused account session old new did.bodies did.asked why.1 why.2 [] fault did.each did.gone (omega (arith, short, broken.fewer)) why.4 all why.5
]
