-- What is printed of a run's sessions, pass by pass, from the lines that they kept.
use Rattle.std.proofs.Common.{◌≡◌, ◌∙◌, ℕ, ◌+◌, ◌<◌, get_or, length, set, List, [], ◌∷◌, ◌++◌, Option, Some, None, append-nil, append_assoc, refl, sym, ap, subst, take}
use Rattle.std.specs.Prelude.{IfSome, slice_get}
use Rattle.std.specs.List.{flat_map, zip}
use Rattle.std.proofs.lemmas.List.Concat.{flat_map-append}
use Rattle.std.proofs.lemmas.List.{take_more}
use Rattle.std.proofs.lemmas.Option.{get_or_from_slice_get, same_Some, slice_get_read, slice_get_within}
use Rattle.audit.specs.declared.account.Account.{Account}
use Rattle.audit.specs.declared.account.Transcript.{Transcript}
use Rattle.audit.specs.Printed.{end_line, session_text}
use Rattle.audit.specs.retelling.Shares.{IsTextOf, sessions_in}
use Rattle.audit.proofs.retelling.Laws.{told_on}
use Rattle.trace_workers.specs.Sessions.{DeskView}
use Rattle.trace_workers.specs.declared.print_part.PrintPart.{PrintPart}
use Rattle.trace_workers.specs.Telling.{HasKept, HasPutPass, HaveDesks, IsToldBy, IsToldIn, joined, lines_of, part_text}
use Rattle.trace_workers.proofs.Places.{any_with}

-- ---- parts, one after the other

pub one_more_part : (account : Account) (parts : List PrintPart) (part : PrintPart) → joined account (parts ++ part ∷ []) ≡ joined account parts ++ part_text account part
one_more_part account parts part = flat_map-append (part_text account) parts (part ∷ []) ∙ ap (λ (t : List ℕ). joined account parts ++ t) (append-nil (part_text account part))

-- behind some parts comes another one, and then this text
pub part_then_text : (account : Account) (parts : List PrintPart) (part : PrintPart) (text : List ℕ)
    → joined account ((parts ++ part ∷ []) ++ PrintPart.Text text ∷ []) ≡ (joined account parts ++ part_text account part) ++ text
part_then_text account parts part text = one_more_part account (parts ++ part ∷ []) (PrintPart.Text text) ∙ ap (λ (t : List ℕ). t ++ text) (one_more_part account parts part)

pub joined_more : (account : Account) (parts more : List PrintPart) (last : List ℕ)
    → joined account ((parts ++ more) ++ PrintPart.Text last ∷ []) ≡ joined account parts ++ (joined account more ++ last)
joined_more account parts more last =
    flat_map-append (part_text account) (parts ++ more) (PrintPart.Text last ∷ []) ∙ ap (λ (t : List ℕ). joined account (parts ++ more) ++ t) (append-nil last)
    ∙ ap (λ (t : List ℕ). t ++ last) (flat_map-append (part_text account) parts more) ∙ append_assoc (joined account parts) (joined account more) last

-- ---- one pass

-- the transcripts of a pass, as they are read
pub pass_at : (account : Account) (number : ℕ) (passes : List (List Transcript)) (ts pass : List Transcript) → passes ≡ account.passes → ts ≡ pass → number < length account.passes
    → pass ≡ get_or passes number pass → slice_get account.passes number ≡ Some ts
pass_at account number passes ts pass all own less at =
    slice_get_read account.passes (length account.passes) number pass refl less (at ∙ ap (λ (ps : List (List Transcript)). get_or ps number pass) all) ∙ ap Some (sym own)

pub first_none : {X : Type 0} (xs : List X) → None ≡ slice_get xs 0 → xs ≡ []
first_none [] none = refl
first_none (x ∷ xs) none = absurd cc

-- without a transcript
pub nothing_put : (account : Account) (number : ℕ) (ts : List Transcript) (before : List ℕ) → slice_get account.passes number ≡ Some ts → ts ≡ [] → HasPutPass account number before before
nothing_put account number ts before there none = ([], there ∙ ap Some none, [], ([], tt, refl), sym (append-nil before))

of_kept : (account : Account) (desk : DeskView) (parts : List PrintPart) → HasKept account desk → desk.kept ≡ Some parts → IsToldIn account desk.number (joined account parts)
of_kept account desk parts kept is = subst (λ (o : Option (List PrintPart)). IfSome o (λ ps. IsToldIn account desk.number (joined account ps))) is kept

-- with that of its session, which kept these lines
pub session_put : (account : Account) (number : ℕ) (ts : List Transcript) (t : Transcript) (desk : DeskView) (parts : List PrintPart) (before after : List ℕ) → slice_get account.passes number ≡ Some ts → slice_get ts 0 ≡ Some t
    → desk.number ≡ number → HasKept account desk → desk.kept ≡ Some parts → after ≡ before ++ (joined account parts ++ end_line desk.number t.end) → HasPutPass account number before after
session_put account number ts t desk parts before after there first is kept lines put =
    let k = of_kept account desk parts kept lines in
    let same : k.transcripts ≡ ts = same_Some k.transcripts ts (sym k.there ∙ ap (slice_get account.passes) is ∙ there) in
    by_case ts there first (subst (λ (us : List Transcript). IsToldBy account desk.number us (joined account parts)) same k.told)
  where
    by_case : (us : List Transcript) → slice_get account.passes number ≡ Some us → slice_get us 0 ≡ Some t → IsToldBy account desk.number us (joined account parts) → HasPutPass account number before after
    by_case [] at one k = absurd cc
    by_case (u ∷ []) at one k =
        let is_t : u ≡ t = same_Some u t one in
        let replies = k.1.0 in
        let lines : lines_of desk.number replies ≡ lines_of u.number replies = ap (λ (n : ℕ). lines_of n replies) (sym k.0) in
        let ends : end_line desk.number t.end ≡ end_line u.number u.end =
        ap (λ (n : ℕ). end_line n t.end) (sym k.0) ∙ ap (λ (x : Transcript). end_line u.number x.end) (sym is_t) in
        let spelled : joined account parts ++ end_line desk.number t.end ≡ flat_map session_text (zip (u ∷ []) (replies ∷ [])) =
        ap (λ (x : List ℕ). x ++ end_line desk.number t.end) (k.1.1.1 ∙ lines) ∙ ap (λ (x : List ℕ). lines_of u.number replies ++ x) ends ∙ sym (append-nil (session_text (u, replies))) in
        (u ∷ [], at, joined account parts ++ end_line desk.number t.end, (replies ∷ [], (k.1.1.0, tt), spelled), put)
    by_case (u ∷ v ∷ us) at one k = absurd k

-- its desk stays, without them
pub desks_with : (account : Account) (at : ℕ) (desks : List DeskView) (d desk : DeskView) → at < length desks → desk.number ≡ (get_or desks at d).number → HaveDesks account desks → HaveDesks account (set desks at desk)
desks_with account at desks d desk less same have number transcripts there some = any_with (λ (x : DeskView). x.number) desks at d desk number less same (have number transcripts there some)

-- ---- all passes

text_on : (account : Account) (xs ys : List Transcript) (a b : List ℕ) → IsTextOf account xs a → IsTextOf account ys b → IsTextOf account (xs ++ ys) (a ++ b)
text_on account xs ys a b f g = told_on account xs ys [] a (a ++ b) f (g.0, g.1, ap (λ (x : List ℕ). a ++ x) g.2)

one_more : {X : Type 0} (xs : List X) (i : ℕ) (x : X) → slice_get xs i ≡ Some x → take (i + 1) xs ≡ take i xs ++ x ∷ []
one_more xs i x at = take_more xs i x (slice_get_within xs i x at) ∙ ap (λ y. take i xs ++ y ∷ []) (get_or_from_slice_get xs i x x at)

pub none_put : (account : Account) → IsTextOf account (sessions_in []) []
none_put account = ([], tt, refl)

pub pass_put : (account : Account) (number : ℕ) (before after : List ℕ) → IsTextOf account (sessions_in (take number account.passes)) before → HasPutPass account number before after
    → IsTextOf account (sessions_in (take (number + 1) account.passes)) after
pass_put account number before after f p =
    let front = take number account.passes in
    let more : sessions_in (take (number + 1) account.passes) ≡ sessions_in front ++ p.0 =
    ap sessions_in (one_more account.passes number p.0 p.1) ∙ flat_map-append (λ (ts : List Transcript). ts) front (p.0 ∷ []) ∙ ap (λ (l : List Transcript). sessions_in front ++ l) (append-nil p.0) in
    subst (IsTextOf account (sessions_in (take (number + 1) account.passes))) (sym p.4) (subst (λ (ts : List Transcript). IsTextOf account ts (before ++ p.2)) (sym more) (text_on account (sessions_in front) p.0 before p.2 f p.3))
