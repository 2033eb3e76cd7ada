-- What is told again of a call that was answered is what its own reply tells.
use Rattle.std.proofs.Common.{◌≡◌, ℕ, suc, ◌<◌, true, false, List, [], ◌∷◌, length, map, drop, sum_by, Option, Some, None, unwrap_or, inl, inr, refl, sym, ap, subst, ◌∙◌, arith, length-append}
use Rattle.std.specs.List.{AllByRecursion, AllZip, flat_map}
use Rattle.std.proofs.lemmas.List.{length-map}
use Rattle.std.proofs.lemmas.List.Sums.{sum_by-cons}
use Rattle.std.proofs.lemmas.Option.{slice_get-get_or}
use Rattle.partlog.specs.History.{History}
use Rattle.partlog.specs.State.{PartState, state_at}
use Rattle.kwire.specs.Configuration.{Configuration, partitions_of, part_of}
use Rattle.kwire.specs.IsRequest.{IsRequest}
use Rattle.kwire.specs.declared.request.Ask.{Ask}
use Rattle.kwire.specs.declared.request.Ask.TheVariants.{Produce, Fetch, Metadata, Versions}
use Rattle.kwire.specs.declared.request.FetchPart.{FetchPart}
use Rattle.kwire.specs.declared.request.FetchTopic.{FetchTopic}
use Rattle.kwire.specs.declared.request.ProducePart.{ProducePart}
use Rattle.kwire.specs.declared.request.ProduceTopic.{ProduceTopic}
use Rattle.kwire.specs.declared.request.Request.{Request}
use Rattle.kwire.proofs.Laws.{same_request}
use Rattle.kanswer.specs.declared.accepted.Accepted.{Accepted}
use Rattle.kanswer.specs.declared.accepted.Accepted.TheVariants.{Refused, Appended, Seen}
use Rattle.kanswer.specs.Decisions.{Decision, Refuse, AskLog, Decides, ProduceDecides, fetch_decision, fetch_parts, produce_parts}
use Rattle.kanswer.specs.LogReadings.{named_count}
use Rattle.kanswer.specs.Waiting.{Shown}
use Rattle.kanswer.proofs.Laws.{decided_once}
use Rattle.audit.specs.broker.Board.{history_at, empty_history}
use Rattle.audit.proofs.broker.Laws.{IsFair, decides_fair}
use Rattle.audit.specs.declared.account.Account.{Account}
use Rattle.audit.specs.declared.account.Call.{Call}
use Rattle.audit.specs.declared.account.CallHow.{CallHow}
use Rattle.audit.specs.declared.account.CallHow.TheVariants.{Quiet, AtOnce, Satisfied, Expired, Parked, Cut}
use Rattle.audit.specs.declared.account.Point.{Point}
use Rattle.audit.specs.Fits.{ShowsFor, is_answered}
use Rattle.audit.specs.Histories.{at_point, history_of}
use Rattle.audit.specs.IsLawful.{HasLogs}
use Rattle.audit.specs.LawfulCall.{AreLooks, Completes, IsAccepted, IsLawfulCall, IsStep, IsWholeCall, Step, shown_as_accepted, shown_as_completed, shown_at}
use Rattle.audit.specs.retelling.Retells.{Retells, SoFar, place_of}
use Rattle.audit.specs.retelling.WasShown.{AreShown, HasPast, IsShownAt, look_places, told_places}
use Rattle.audit.proofs.retelling.ByPoints.{at_there}
use Rattle.audit.proofs.retelling.LawfulParts.{parts_long}
use Rattle.audit.proofs.retelling.Sound.{IsOwn, IsSound, decided_soundly}

-- ---- one decision for each partition that is named

zip_long : {A B : Type 0} (P : A → B → Type 0) (xs : List A) (ys : List B) → AllZip P xs ys → length ys ≡ length xs
zip_long P [] [] h = refl
zip_long P [] (y ∷ ys) h = absurd h
zip_long P (x ∷ xs) [] h = absurd h
zip_long P (x ∷ xs) (y ∷ ys) h = ap suc (zip_long P xs ys h.1)

module _ {T P X : Type 0} (parts : T → List P) (named : T → P → X) where
  named_long : (topics : List T) → length (flat_map (λ t. map (named t) (parts t)) topics) ≡ sum_by (λ t. length (parts t)) topics
  named_long [] = refl
  named_long (t ∷ topics) =
      omega (arith, length-append (map (named t) (parts t)) (flat_map (λ (u : T). map (named u) (parts u)) topics), length-map (parts t) (named t), sum_by-cons (λ (u : T). length (parts u)) t topics, named_long topics)

decided_long : (config : Configuration) (ask : Ask) (ds : List Decision) → Decides config ask ds → length ds ≡ named_count ask
decided_long config (Produce version transactional acks timeout topics) ds h =
    zip_long (ProduceDecides config version transactional acks) (produce_parts topics) ds h ∙ named_long (λ (t : ProduceTopic). t.parts) (λ (t : ProduceTopic) (p : ProducePart). (t.name, p)) topics
decided_long config (Fetch version replica max_wait min_bytes max_bytes isolation topics) ds h =
    ap length h ∙ length-map (fetch_parts topics) (λ (n : List ℕ × FetchPart). fetch_decision config replica n (part_of config n.0 n.1.index))
    ∙ named_long (λ (t : FetchTopic). t.parts) (λ (t : FetchTopic) (p : FetchPart). (t.name, p)) topics
decided_long config (Metadata topics) ds h = ap length h
decided_long config (Versions version) ds h = ap length h

-- ---- the states at the points of a call

at_history : (account : Account) (pasts : List History) (part place : ℕ) → map history_of account.parts ≡ pasts → part < length pasts → at_point account (record { part = part; place = place }) ≡ state_at (history_at pasts part) place
at_history account pasts part place same lt =
    let there = slice_get-get_or pasts part (empty_history 0) lt in
    at_there account pasts part place _ same there ∙ ap (λ (o : Option History). state_at (unwrap_or o (empty_history 0)) place) (sym there)

in_part : (account : Account) (pasts : List History) (part : ℕ) (point : Point) → map history_of account.parts ≡ pasts → part < length pasts → point.part ≡ part → at_point account point ≡ state_at (history_at pasts part) point.place
in_part account pasts part point same lt is =
    ap (λ (n : ℕ). let q : Point = record { part = n; place = point.place } in at_point account q) is ∙ at_history account pasts part point.place same lt

own_shown : (pasts : List History) (part place : ℕ) (state : PartState) (r : Accepted) → IsOwn part r → state ≡ state_at (history_at pasts part) place → IsShownAt pasts r place state
own_shown pasts part place state (Refused code) own at = tt
own_shown pasts part place state (Appended number base count) own at = at ∙ ap (λ (n : ℕ). state_at (history_at pasts n) place) (sym own)
own_shown pasts part place state (Seen number start) own at = at ∙ ap (λ (n : ℕ). state_at (history_at pasts n) place) (sym own)

abbrev results_in : List Step → List Accepted
results_in steps = map (λ step. step.result) steps

abbrev own_places : List Step → List ℕ
own_places steps = map (λ step. place_of step.point) steps

has_pasts : (account : Account) (n : ℕ) (ds : List Decision) (steps : List Step) → AllZip (IsStep account) ds steps → AllByRecursion (IsFair n) ds → AllByRecursion (HasPast n) (results_in steps)
has_pasts account n [] [] each fair = tt
has_pasts account n [] (s ∷ steps) each fair = absurd each
has_pasts account n (d ∷ ds) [] each fair = absurd each
has_pasts account n (Refuse code ∷ ds) (s ∷ steps) each fair =
    (subst (λ (x : Step). HasPast n x.result) (sym each.0) tt, has_pasts account n ds steps each.1 fair.1)
has_pasts account n (AskLog part outcome ∷ ds) (s ∷ steps) each fair =
    (subst (HasPast n) (sym each.0.result) (fair.0.1 _).1, has_pasts account n ds steps each.1 fair.1)

accepted_shown : (account : Account) (pasts : List History) (ds : List Decision) (steps : List Step) → map history_of account.parts ≡ pasts → AllZip (IsStep account) ds steps → AllByRecursion (IsFair (length pasts)) ds
    → AllByRecursion (IsSound account.config) ds → AreShown pasts (results_in steps) (own_places steps) (shown_as_accepted account steps)
accepted_shown account pasts [] [] same each fair sound = tt
accepted_shown account pasts [] (s ∷ steps) same each fair sound = absurd each
accepted_shown account pasts (d ∷ ds) [] same each fair sound = absurd each
accepted_shown account pasts (Refuse code ∷ ds) (s ∷ steps) same each fair sound =
    (refl, subst (λ (x : Step). IsShownAt pasts x.result (place_of x.point) (shown_at account x.point)) (sym each.0) tt, accepted_shown account pasts ds steps same each.1 fair.1 sound.1)
accepted_shown account pasts (AskLog part outcome ∷ ds) (s ∷ steps) same each fair sound =
    let asks = each.0 in
    let own = subst (IsOwn part) (sym asks.result) (sound.0 _).own in
    let state : shown_at account s.point ≡ state_at (history_at pasts part) (place_of s.point) =
    ap (shown_at account) asks.left ∙ in_part account pasts part asks.point same fair.0.0 asks.there ∙ ap (λ (o : Option Point). state_at (history_at pasts part) (place_of o)) (sym asks.left) in
    (refl, own_shown pasts part (place_of s.point) (shown_at account s.point) s.result own state, accepted_shown account pasts ds steps same each.1 fair.1 sound.1)

-- one partition of a completed call, and the others
one_completed : (account : Account) (pasts : List History) (steps : List Step) (r : Accepted) (p : Option Point) (looks : List Point) → map history_of account.parts ≡ pasts
    → ((more : List Point) → AreLooks account steps more → AreShown pasts (results_in steps) (look_places (results_in steps) more) (shown_as_completed account steps more))
    → HasPast (length pasts) r → AreLooks account (record { result = r; point = p } ∷ steps) looks
    → AreShown pasts (r ∷ results_in steps) (look_places (r ∷ results_in steps) looks) (shown_as_completed account (record { result = r; point = p } ∷ steps) looks)
one_completed account pasts steps (Refused code) p [] same others within are = (refl, tt, others [] are)
one_completed account pasts steps (Refused code) p (l ∷ looks) same others within are = (refl, tt, others (l ∷ looks) are)
one_completed account pasts steps (Appended part base count) p [] same others within are = absurd are
one_completed account pasts steps (Appended part base count) p (l ∷ looks) same others within are = (refl, in_part account pasts part l same within are.0.0, others looks are.1)
one_completed account pasts steps (Seen part start) p [] same others within are = absurd are
one_completed account pasts steps (Seen part start) p (l ∷ looks) same others within are = (refl, in_part account pasts part l same within are.0.0, others looks are.1)

completed_shown : (account : Account) (pasts : List History) (steps : List Step) (looks : List Point) → map history_of account.parts ≡ pasts → AllByRecursion (HasPast (length pasts)) (results_in steps) → AreLooks account steps looks
    → AreShown pasts (results_in steps) (look_places (results_in steps) looks) (shown_as_completed account steps looks)
completed_shown account pasts [] looks same has are = tt
completed_shown account pasts (s ∷ steps) looks same has are = one_completed account pasts steps s.result s.point looks same (λ more these. completed_shown account pasts steps more same has.1 these) has.0 are

-- ---- by how the call came to its end

record Shows (account : Account) (pasts : List History) (steps : List Step) (finish : List Point) (how : CallHow) (results : List Accepted) (places : List ℕ) : Type 0 where
  pub shown : List Shown
  pub are : AreShown pasts results places shown
  pub shows : ShowsFor account steps finish how shown

by_how : (account : Account) (pasts : List History) (request : Request) (steps : List Step) (looks finish : List Point) (how : CallHow) (own : List ℕ) → Completes account request steps looks finish how → is_answered how ≡ true
    → AreShown pasts (results_in steps) own (shown_as_accepted account steps)
    → ((points : List Point) → AreLooks account steps points → AreShown pasts (results_in steps) (look_places (results_in steps) points) (shown_as_completed account steps points))
    → Shows account pasts steps finish how (results_in steps) (told_places how (results_in steps) own finish)
by_how account pasts request steps looks finish Quiet own done is here later = absurd cc
by_how account pasts request steps looks finish AtOnce own done is here later = record { shown = shown_as_accepted account steps; are = here; shows = refl }
by_how account pasts request steps looks finish (Satisfied by) own done is here later = record { shown = shown_as_completed account steps finish; are = later finish done.1; shows = refl }
by_how account pasts request steps looks [] (Expired by) own done is here later = absurd done.1
by_how account pasts request steps looks (clock ∷ points) (Expired by) own done is here later =
    record { shown = shown_as_completed account steps points; are = later points done.1.1; shows = (clock, points, refl, refl) }
by_how account pasts request steps looks finish Parked own done is here later = absurd cc
by_how account pasts request steps looks finish (Cut None) own done is here later = absurd cc
by_how account pasts request steps looks finish (Cut (Some by)) own done is here later = absurd cc

-- ---- the whole

pub record CallTold (account : Account) (pasts : List History) (call : Call) (request : Request) (after : SoFar) : Type 0 where
  pub whole : IsAccepted account call
  pub asked : request ≡ whole.request
  pub long : length after.accepted ≡ named_count request.ask
  pub placed : length after.places ≡ length after.accepted
  pub past : AllByRecursion (HasPast (length pasts)) after.accepted
  pub shown : List Shown
  pub are : AreShown pasts after.accepted (told_places call.how after.accepted after.places call.finish) shown
  pub shows : ShowsFor account whole.steps call.finish call.how shown

abbrev nothing_told : SoFar
nothing_told = record { accepted = []; places = []; taken = 0 }

whole_call : (account : Account) (call : Call) → IsLawfulCall account call → is_answered call.how ≡ true → IsWholeCall account call
whole_call account call (inl w) is = w
whole_call account call (inr c) is = let no : false ≡ true = sym (ap is_answered c.how) ∙ is in absurd cc

pub call_told : (account : Account) (pasts : List History) (call : Call) (request : Request) (ds : List Decision) (after : SoFar) → IsLawfulCall account call → is_answered call.how ≡ true → map history_of account.parts ≡ pasts
    → length pasts ≡ partitions_of account.config.topics → IsRequest call.frame request → Decides account.config request.ask ds → Retells pasts call.accept ds nothing_told after → CallTold account pasts call request after
call_told account pasts call request ds after lawful is same size reads decides retells =
    let w = whole_call account call lawful is in
    let a = w.whole.accepted in
    let steps = w.whole.steps in
    let asked : request ≡ w.whole.request = same_request call.frame request w.whole.request reads a.asked in
    let decided : ds ≡ a.decisions = decided_once account.config request.ask ds a.decisions decides (subst (λ (r : Request). Decides account.config r.ask a.decisions) (sym asked) a.decided) in
    let each : AllZip (IsStep account) ds steps = subst (λ (l : List Decision). AllZip (IsStep account) l steps) (sym decided) a.each in
    let told = retells.each account steps w.whole.looks same each w.whole.entries.points in
    let fair : AllByRecursion (IsFair (length pasts)) ds = subst (λ (n : ℕ). AllByRecursion (IsFair n) ds) (sym size) (decides_fair account.config request.ask ds decides) in
    let has = has_pasts account (length pasts) ds steps each fair in
    let shows = by_how account pasts w.whole.request steps w.whole.looks call.finish call.how (own_places steps) w.completed is
    (accepted_shown account pasts ds steps same each fair (decided_soundly account.config request.ask ds decides)) (λ points looks. completed_shown account pasts steps points same has looks) in
    let long : length after.accepted ≡ length steps = ap length told.accepted ∙ length-map steps (λ (s : Step). s.result) in
    record {
      whole = w.whole;
      asked = asked;
      long = long ∙ zip_long (IsStep account) ds steps each ∙ decided_long account.config request.ask ds decides;
      placed = ap length told.places ∙ length-map steps (λ (s : Step). place_of s.point) ∙ sym long;
      past = subst (AllByRecursion (HasPast (length pasts))) (sym told.accepted) has;
      shown = shows.shown;
      are = subst (λ (l : List ℕ). AreShown pasts after.accepted (told_places call.how after.accepted l call.finish) shows.shown) (sym told.places)
          (subst (λ (l : List Accepted). AreShown pasts l (told_places call.how l (own_places steps) call.finish) shows.shown) (sym told.accepted) shows.are);
      shows = shows.shows;
    }

-- the places are as many as the results
look_places_long : (results : List Accepted) (looks : List Point) → length (look_places results looks) ≡ length results
look_places_long [] looks = refl
look_places_long (Refused code ∷ results) looks = ap suc (look_places_long results looks)
look_places_long (Appended part base count ∷ results) [] = ap suc (look_places_long results [])
look_places_long (Appended part base count ∷ results) (l ∷ looks) = ap suc (look_places_long results looks)
look_places_long (Seen part start ∷ results) [] = ap suc (look_places_long results [])
look_places_long (Seen part start ∷ results) (l ∷ looks) = ap suc (look_places_long results looks)

pub told_places_long : (how : CallHow) (results : List Accepted) (own : List ℕ) (finish : List Point) → length own ≡ length results → length (told_places how results own finish) ≡ length results
told_places_long Quiet results own finish e = e
told_places_long AtOnce results own finish e = e
told_places_long (Satisfied by) results own finish e = look_places_long results finish
told_places_long (Expired by) results own finish e = look_places_long results (drop 1 finish)
told_places_long Parked results own finish e = e
told_places_long (Cut won) results own finish e = e

pub call_read : (account : Account) (pasts : List History) (call : Call) (request : Request) (frame : List ℕ) (points : List Point) (before after : SoFar) → IsLawfulCall account call → is_answered call.how ≡ true → HasLogs account → pasts ≡ map history_of account.parts
    → frame ≡ call.frame → points ≡ call.accept → before ≡ record { accepted = []; places = []; taken = 0 } → IsRequest frame request
    → ((ds : List Decision) × Decides account.config request.ask ds × Retells pasts points ds before after) → CallTold account pasts call request after
call_read account pasts call request frame points before after lawful is logs same framed pointed empty reads d =
    call_told account pasts call request d.0 after lawful is (sym same) (ap length same ∙ length-map account.parts history_of ∙ parts_long account logs)
    (subst (λ (f : List ℕ). IsRequest f request) framed reads) d.1
    (subst (λ (b : SoFar). Retells pasts call.accept d.0 b after) empty (subst (λ (ps : List Point). Retells pasts ps d.0 before after) pointed d.2))
