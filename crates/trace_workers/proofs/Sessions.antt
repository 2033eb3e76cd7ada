-- Joined sessions are taken apart for the close, and put together again.
use Rattle.std.proofs.Common.{◌≡◌, ◌∙◌, ℕ, List, [], ◌∷◌, ◌++◌, length, map, refl, sym, ap}
use Rattle.std.specs.Prelude.{All}
use Rattle.std.proofs.lemmas.List.{append-nil, append_assoc, length-map}
use Rattle.std.proofs.lemmas.List.Elements.{All-map, All-push}
use Rattle.shared_broker.specs.Passes.{BrokerView, PassView, made_with}
use Rattle.trace_file.specs.declared.line.Line.{Line}
use Rattle.trace_workers.specs.Sessions.{DeskView, SessionView, desk_of, session_at}
use Rattle.trace_workers.specs.Joined.{JoinedView, HasJoined, passes_in}

abbrev pub pass_of : SessionView → PassView
pass_of s = s.pass

-- ---- the passes

pub all_made : (broker : BrokerView) (lines : List Line) (count : ℕ) (joined : JoinedView) → HasJoined broker lines count joined → All (λ (pass : PassView). made_with pass ≡ broker) (passes_in joined)
all_made broker lines count joined h =
    let P : PassView → Type 0 = λ pass. made_with pass ≡ broker in
    All-push P (map pass_of joined.sessions) joined.clock (All-map P pass_of joined.sessions (λ k d less. (h.sessions k d less).made)) h.clock.made

-- ---- desks and passes

-- the sessions of these, in their order
abbrev pub seated : List DeskView → List PassView → List SessionView
seated [] passes = []
seated (desk ∷ desks) [] = []
seated (desk ∷ desks) (pass ∷ passes) = session_at desk pass ∷ seated desks passes

-- sessions that are taken apart are these again
pub seated_again : (sessions : List SessionView) (desks : List DeskView) (passes : List PassView) → desks ≡ map desk_of sessions → passes ≡ map pass_of sessions → seated desks passes ≡ sessions
seated_again sessions desks passes d p = ap (λ (ds : List DeskView). seated ds passes) d ∙ ap (seated (map desk_of sessions)) p ∙ both sessions
  where
    both : (ss : List SessionView) → seated (map desk_of ss) (map pass_of ss) ≡ ss
    both [] = refl
    both (s ∷ ss) = ap (λ (rest : List SessionView). s ∷ rest) (both ss)

-- there are as many desks as passes
pub as_many_desks : (sessions : List SessionView) (desks : List DeskView) (passes : List PassView) → desks ≡ map desk_of sessions → passes ≡ map pass_of sessions → length desks ≡ length passes
as_many_desks sessions desks passes d p =
    ap (λ (ds : List DeskView). length ds) d ∙ length-map sessions desk_of ∙ sym (length-map sessions pass_of) ∙ sym (ap (λ (ps : List PassView). length ps) p)

-- one of each is taken
pub seated_step : (passes behind : List PassView) (desks left : List DeskView) (pass : PassView) (desk : DeskView) (sessions more whole : List SessionView) → passes ≡ pass ∷ behind → desks ≡ desk ∷ left → more ≡ sessions ++ session_at desk pass ∷ []
    → sessions ++ seated desks passes ≡ whole → more ++ seated left behind ≡ whole
seated_step passes behind desks left pass desk sessions more whole p d m e =
    ap (λ (ss : List SessionView). ss ++ seated left behind) m ∙ append_assoc sessions (session_at desk pass ∷ []) (seated left behind)
    ∙ ap (λ (ds : List DeskView). sessions ++ seated ds (pass ∷ behind)) (sym d) ∙ ap (λ (ps : List PassView). sessions ++ seated desks ps) (sym p) ∙ e

none_seated : (desks : List DeskView) → seated desks [] ≡ []
none_seated [] = refl
none_seated (desk ∷ desks) = refl

-- none is left
pub seated_all : (passes : List PassView) (desks : List DeskView) (sessions whole : List SessionView) → passes ≡ [] → sessions ++ seated desks passes ≡ whole → sessions ≡ whole
seated_all passes desks sessions whole none e =
    sym (append-nil sessions) ∙ ap (λ (ss : List SessionView). sessions ++ ss) (sym (none_seated desks)) ∙ ap (λ (ps : List PassView). sessions ++ seated desks ps) (sym none) ∙ e
