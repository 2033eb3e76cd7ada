-- The calls of a transcript, as one more comes: their frames at the front of the input, and whether the last was cut off.
use Rattle.std.proofs.Common.{◌≡◌, ℕ, List, [], ◌∷◌, ◌++◌, refl, sym, ap, subst, ◌∙◌, append-nil, append_assoc}
use Rattle.std.specs.List.{flat_map}
use Rattle.std.proofs.lemmas.List.Concat.{flat_map-append}
use Rattle.audit.specs.declared.account.Call.{Call}
use Rattle.kbytes.proofs.Laws.{all_append}
use Rattle.kwire.specs.Frames.{IsFrameBody, framed}
use Rattle.audit.specs.broker.books.Told.{is_cut, last_is_cut}
use Rattle.session.specs.Asked.{AreReads, Reading}
use Rattle.session.specs.Handled.{HasFrames}

pub last_cut : (calls : List Call) (call : Call) → last_is_cut (calls ++ call ∷ []) ≡ is_cut call.how
last_cut [] call = refl
last_cut (x ∷ []) call = refl
last_cut (x ∷ y ∷ calls) call = last_cut (y ∷ calls) call

-- nothing has come
pub no_frames : HasFrames [] [] []
no_frames = record { frames = refl; each = tt }

-- the frame at the front of the rest is that of a call
pub frames_more : (input : List ℕ) (calls : List Call) (call : Call) (rest body left : List ℕ) → HasFrames input calls rest → IsFrameBody body → rest ≡ framed body ++ left → call.frame ≡ body
    → HasFrames input (calls ++ call ∷ []) left
frames_more input calls call rest body left h small parts is =
    let all : List Call → List ℕ = flat_map (λ (c : Call). framed c.frame) in
    let more : all (calls ++ call ∷ []) ≡ all calls ++ framed body =
    flat_map-append (λ (c : Call). framed c.frame) calls (call ∷ []) ∙ ap (λ (bs : List ℕ). all calls ++ bs) (append-nil (framed call.frame) ∙ ap framed is) in
    record {
      frames = h.frames ∙ ap (λ (bs : List ℕ). all calls ++ bs) parts ∙ sym (append_assoc (all calls) (framed body) left) ∙ ap (λ (bs : List ℕ). bs ++ left) (sym more);
      each = all_append (λ (c : Call). IsFrameBody c.frame) calls (call ∷ []) h.each (subst IsFrameBody (sym is) small, tt);
    }

-- more has come
pub frames_longer : (input : List ℕ) (calls : List Call) (rest piece : List ℕ) → HasFrames input calls rest → HasFrames (input ++ piece) calls (rest ++ piece)
frames_longer input calls rest piece h = record {
  frames = ap (λ (bs : List ℕ). bs ++ piece) h.frames ∙ append_assoc (flat_map (λ (c : Call). framed c.frame) calls) rest piece;
  each = h.each;
}

-- a call more is made after the reads that were made before it
pub reads_before : (reads : List Reading) (input : List ℕ) (calls : List Call) (call : Call) → AreReads reads input calls → AreReads reads input (calls ++ call ∷ [])
reads_before [] input calls call are = are
reads_before (r ∷ reads) input calls call are =
    let later = are.2.0 in
    (are.0, are.1, (later ++ call ∷ [], ap (λ (cs : List Call). cs ++ call ∷ []) are.2.1 ∙ append_assoc r.earlier later (call ∷ [])), are.3, are.4, are.5)
