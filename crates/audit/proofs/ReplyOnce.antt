-- A call was accepted in one way and has one reply at most: its points say at which states its partitions were asked.
use Rattle.std.proofs.Common.{◌≡◌, List, [], ◌∷◌, ◌++◌, Option, Some, None, refl, sym, ap, subst, ◌∙◌}
use Rattle.std.proofs.lemmas.List.{append_cancel_left}
use Rattle.std.specs.List.{AllZip}
use Rattle.audit.specs.declared.account.Account.{Account}
use Rattle.audit.specs.declared.account.Call.{Call}
use Rattle.audit.specs.declared.account.CallHow.{CallHow}
use Rattle.audit.specs.declared.account.CallHow.TheVariants.{Quiet, AtOnce, Satisfied, Expired, Parked, Cut}
use Rattle.audit.specs.declared.account.Point.{Point}
use Rattle.kanswer.specs.declared.accepted.Accepted.{Accepted}
use Rattle.kanswer.specs.declared.accepted.Accepted.TheVariants.{Refused}
use Rattle.kwire.specs.declared.reply.Reply.{Reply}
use Rattle.kwire.specs.declared.request.Request.{Request}
use Rattle.kanswer.specs.Decisions.{Decision, Refuse, AskLog, Decides}
use Rattle.kanswer.specs.Answer.{answer}
use Rattle.kanswer.specs.Waiting.{Shown}
use Rattle.audit.specs.Fits.{ShowsFor, IsReplyOf, answered_of, HasReplies}
use Rattle.audit.specs.LawfulCall.{Step, IsStep, IsAccepted, IsWholeCall, Completes, step_points, shown_as_completed}
use Rattle.audit.specs.Histories.{before_point}
use Rattle.kanswer.proofs.Laws.{decided_once}
use Rattle.kwire.proofs.Laws.{same_request}

abbrev step : Accepted → Option Point → Step
step result point = record { result = result; point = point }

first_point : (p q : Point) (ps qs : List Point) → p ∷ ps ≡ q ∷ qs → p ≡ q
first_point p q ps qs e = cc

later_points : (p q : Point) (ps qs : List Point) → p ∷ ps ≡ q ∷ qs → ps ≡ qs
later_points p q ps qs e = cc

with_points : (x : Step) (point : Point) (xs : List Step) (looks : List Point) → x.point ≡ Some point → step_points (x ∷ xs) ++ looks ≡ point ∷ (step_points xs ++ looks)
with_points x point xs looks e = ap (λ (o : Option Point). step_points (step x.result o ∷ xs) ++ looks) e

without_point : (x : Step) (code : Accepted) (xs : List Step) (looks : List Point) → x ≡ step code None → step_points (x ∷ xs) ++ looks ≡ step_points xs ++ looks
without_point x code xs looks e = ap (λ (s : Step). step_points (s ∷ xs) ++ looks) e

-- decisions and points say what became of each partition
steps_once : (account : Account) (decisions : List Decision) (xs ys : List Step) (ps qs : List Point) → AllZip (IsStep account) decisions xs → AllZip (IsStep account) decisions ys
    → step_points xs ++ ps ≡ step_points ys ++ qs → xs ≡ ys
steps_once account [] [] [] ps qs h k e = refl
steps_once account [] [] (y ∷ ys) ps qs h k e = absurd k
steps_once account [] (x ∷ xs) ys ps qs h k e = absurd h
steps_once account (d ∷ ds) [] ys ps qs h k e = absurd h
steps_once account (d ∷ ds) (x ∷ xs) [] ps qs h k e = absurd k
steps_once account (Refuse code ∷ ds) (x ∷ xs) (y ∷ ys) ps qs h k e =
    let rest : step_points xs ++ ps ≡ step_points ys ++ qs = sym (without_point x (Refused code) xs ps h.0) ∙ e ∙ without_point y (Refused code) ys qs k.0 in
    ap (λ (s : Step). s ∷ xs) (h.0 ∙ sym k.0) ∙ ap (λ (ss : List Step). y ∷ ss) (steps_once account ds xs ys ps qs h.1 k.1 rest)
steps_once account (AskLog part outcome ∷ ds) (x ∷ xs) (y ∷ ys) ps qs h k e =
    let p = h.0.point in
    let q = k.0.point in
    let all : p ∷ (step_points xs ++ ps) ≡ q ∷ (step_points ys ++ qs) = sym (with_points x p xs ps h.0.left) ∙ e ∙ with_points y q ys qs k.0.left in
    let point : p ≡ q = first_point p q (step_points xs ++ ps) (step_points ys ++ qs) all in
    let rest : step_points xs ++ ps ≡ step_points ys ++ qs = later_points p q (step_points xs ++ ps) (step_points ys ++ qs) all in
    let result : x.result ≡ y.result = h.0.result ∙ ap (λ (r : Point). (outcome (before_point account r)).result) point ∙ sym k.0.result in
    let left : x.point ≡ y.point = h.0.left ∙ ap Some point ∙ sym k.0.left in
    let same : x ≡ y = ap (λ (r : Accepted). step r x.point) result ∙ ap (step y.result) left in
    ap (λ (s : Step). s ∷ xs) same ∙ ap (λ (ss : List Step). y ∷ ss) (steps_once account ds xs ys ps qs h.1 k.1 rest)

pub request_once : (account : Account) (call : Call) (a b : IsAccepted account call) → a.request ≡ b.request
request_once account call a b = same_request call.frame a.request b.request a.accepted.asked b.accepted.asked

pub accepted_once : (account : Account) (call : Call) (a b : IsAccepted account call) → a.steps ≡ b.steps
accepted_once account call a b =
    let decided : a.accepted.decisions ≡ b.accepted.decisions =
    decided_once account.config a.request.ask a.accepted.decisions b.accepted.decisions a.accepted.decided
    (subst (λ (r : Request). Decides account.config r.ask b.accepted.decisions) (sym (request_once account call a b)) b.accepted.decided) in
    steps_once account a.accepted.decisions a.steps b.steps a.looks b.looks a.accepted.each
    (subst (λ (ds : List Decision). AllZip (IsStep account) ds b.steps) (sym decided) b.accepted.each) (sym a.entries.points ∙ b.entries.points)

shows_once : (account : Account) (steps : List Step) (finish : List Point) (how : CallHow) (xs ys : List Shown) → ShowsFor account steps finish how xs → ShowsFor account steps finish how ys → xs ≡ ys
shows_once account steps finish Quiet xs ys h k = absurd h
shows_once account steps finish AtOnce xs ys h k = h ∙ sym k
shows_once account steps finish (Satisfied by) xs ys h k = h ∙ sym k
shows_once account steps finish (Expired by) xs ys h k =
    let looks : h.1 ≡ k.1 = later_points h.0 k.0 h.1 k.1 (sym h.2 ∙ k.2) in
    h.3 ∙ ap (shown_as_completed account steps) looks ∙ sym k.3
shows_once account steps finish Parked xs ys h k = absurd h
shows_once account steps finish (Cut won) xs ys h k = absurd h

-- a call has one reply at most
pub reply_once : (account : Account) (call : Call) (a b : Reply) → IsReplyOf account call a → IsReplyOf account call b → a ≡ b
reply_once account call a b p q =
    let shown : p.shown ≡ q.shown = shows_once account p.whole.steps call.finish call.how p.shown q.shown p.shows
    (subst (λ (steps : List Step). ShowsFor account steps call.finish call.how q.shown) (sym (accepted_once account call p.whole q.whole)) q.shows) in
    p.answered ∙ ap (λ (r : Request). answer account.config r p.shown) (request_once account call p.whole q.whole) ∙ ap (answer account.config q.whole.request) shown ∙ sym q.answered

all_once : (account : Account) (calls : List Call) (xs ys : List Reply) → AllZip (IsReplyOf account) calls xs → AllZip (IsReplyOf account) calls ys → xs ≡ ys
all_once account [] [] [] h k = refl
all_once account [] [] (y ∷ ys) h k = absurd k
all_once account [] (x ∷ xs) ys h k = absurd h
all_once account (c ∷ calls) [] ys h k = absurd h
all_once account (c ∷ calls) (x ∷ xs) [] h k = absurd k
all_once account (c ∷ calls) (x ∷ xs) (y ∷ ys) h k =
    ap (λ (r : Reply). r ∷ xs) (reply_once account c x y h.0 k.0) ∙ ap (λ (rs : List Reply). y ∷ rs) (all_once account calls xs ys h.1 k.1)

pub replies_once : (account : Account) (calls : List Call) (xs ys : List Reply) → HasReplies account calls xs → HasReplies account calls ys → xs ≡ ys
replies_once account calls xs ys h k = all_once account (answered_of calls) xs ys h k

-- how a call came to its end, as its acceptance is known
pub completed_at : (account : Account) (call : Call) (known : IsAccepted account call) → IsWholeCall account call → Completes account known.request known.steps known.looks call.finish call.how
completed_at account call known w =
    let request = request_once account call known w.whole in
    let steps = accepted_once account call known w.whole in
    let points : step_points known.steps ++ known.looks ≡ step_points known.steps ++ w.whole.looks =
    sym known.entries.points ∙ w.whole.entries.points ∙ ap (λ (ss : List Step). step_points ss ++ w.whole.looks) (sym steps) in
    let looks : known.looks ≡ w.whole.looks = append_cancel_left (step_points known.steps) known.looks w.whole.looks points in
    subst (λ (r : Request). Completes account r known.steps known.looks call.finish call.how) (sym request)
    (subst (λ (ss : List Step). Completes account w.whole.request ss known.looks call.finish call.how) (sym steps)
    (subst (λ (ps : List Point). Completes account w.whole.request w.whole.steps ps call.finish call.how) (sym looks) w.completed))
