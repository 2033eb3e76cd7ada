-- A stream is cut into frames in one way, and bytes that are sent are the frames of the replies.
use Rattle.std.proofs.Common.{◌≡◌, ℕ, ◌+◌, List, [], ◌∷◌, ◌++◌, length, map, take, drop, pos, refl, sym, ap, ◌∙◌, append_assoc, append-nil, arith}
use Rattle.std.proofs.lemmas.List.{take_at, drop_at}
use Rattle.std.proofs.lemmas.Grind.{flat_map-append}
use Rattle.std.specs.Int.{w32}
use Rattle.std.specs.List.{AllByRecursion, flat_map}
use Rattle.kbytes.specs.Field.{integer}
use Rattle.kbytes.proofs.Laws.{wide_32}
use Rattle.kwire.specs.declared.frame.Frame.TheVariants.{Whole, NotYet}
use Rattle.kwire.specs.declared.reply.Reply.{Reply}
use Rattle.kwire.specs.Frames.{framed, IsFrameBody, BeginsWhole, next_frame_of, AreFramesOf}
use Rattle.kwire.specs.Spelling.{spelling}
use Rattle.kwire.proofs.FrameLaws.{whole_frame}

same_front : (n : ℕ) (xs ys zs ws : List ℕ) → length xs ≡ n → length zs ≡ n → xs ++ ys ≡ zs ++ ws → xs ≡ zs
same_front n xs ys zs ws a b e = sym (take_at xs ys n a) ∙ ap (take n) e ∙ take_at zs ws n b

same_back : (n : ℕ) (xs ys zs ws : List ℕ) → length xs ≡ n → length zs ≡ n → xs ++ ys ≡ zs ++ ws → ys ≡ ws
same_back n xs ys zs ws a b e = sym (drop_at xs ys n a) ∙ ap (drop n) e ∙ drop_at zs ws n b

same_size : (a b : ℕ) → Whole (4 + a) ≡ Whole (4 + b) → a ≡ b
same_size a b e = let sizes : 4 + a ≡ 4 + b = cc in omega arith

head_long : (body : List ℕ) → length (integer w32 (pos (length body))) ≡ 4
head_long body = wide_32.len (length body)

first_body : (a b rest more : List ℕ) → IsFrameBody a → IsFrameBody b → framed a ++ rest ≡ framed b ++ more → (a ≡ b) × (rest ≡ more)
first_body a b rest more small little e =
    let sizes : length a ≡ length b = same_size (length a) (length b) (sym (whole_frame a rest small) ∙ ap next_frame_of e ∙ whole_frame b more little) in
    let behind : a ++ rest ≡ b ++ more =
    same_back 4 (integer w32 (pos (length a))) (a ++ rest) (integer w32 (pos (length b))) (b ++ more) (head_long a) (head_long b)
    (sym (append_assoc (integer w32 (pos (length a))) a rest) ∙ e ∙ append_assoc (integer w32 (pos (length b))) b more) in
    (same_front (length a) a rest b more refl (sym sizes) behind, same_back (length a) a rest b more refl (sym sizes) behind)

begins : (body rest stream : List ℕ) → IsFrameBody body → stream ≡ framed body ++ rest → BeginsWhole stream
begins body rest stream small e = (4 + length body, ap next_frame_of e ∙ whole_frame body rest small)

one_cut : (bodies others : List (List ℕ)) (rest more : List ℕ) → flat_map framed bodies ++ rest ≡ flat_map framed others ++ more → AllByRecursion IsFrameBody bodies → AllByRecursion IsFrameBody others
    → (calm : BeginsWhole rest → ⊥) (still : BeginsWhole more → ⊥) → (bodies ≡ others) × (rest ≡ more)
one_cut [] [] rest more e small little calm still = (refl, e)
one_cut [] (b ∷ others) rest more e small little calm still =
    absurd (calm (begins b (flat_map framed others ++ more) rest little.0 (e ∙ append_assoc (framed b) (flat_map framed others) more)))
one_cut (a ∷ bodies) [] rest more e small little calm still =
    absurd (still (begins a (flat_map framed bodies ++ rest) more small.0 (sym e ∙ append_assoc (framed a) (flat_map framed bodies) rest)))
one_cut (a ∷ bodies) (b ∷ others) rest more e small little calm still =
    let first = first_body a b (flat_map framed bodies ++ rest) (flat_map framed others ++ more) small.0 little.0
    (sym (append_assoc (framed a) (flat_map framed bodies) rest) ∙ e ∙ append_assoc (framed b) (flat_map framed others) more) in
    let later = one_cut bodies others rest more first.1 small.1 little.1 calm still in
    (ap (λ (x : List ℕ). x ∷ bodies) first.0 ∙ ap (λ (xs : List (List ℕ)). b ∷ xs) later.0, later.1)

pub frames_once : (stream : List ℕ) (bodies others : List (List ℕ)) (rest more : List ℕ) → AreFramesOf stream bodies rest → AreFramesOf stream others more → (bodies ≡ others) × (rest ≡ more)
frames_once stream bodies others rest more a b = one_cut bodies others rest more (sym a.whole ∙ b.whole) a.each b.each a.no_more b.no_more

all_spelled : (replies : List Reply) (bodies : List (List ℕ)) → map spelling replies ≡ map framed bodies → flat_map spelling replies ≡ flat_map framed bodies
all_spelled [] [] e = refl
all_spelled [] (b ∷ bodies) e = absurd cc
all_spelled (r ∷ replies) [] e = absurd cc
all_spelled (r ∷ replies) (b ∷ bodies) e =
    let first : spelling r ≡ framed b = first_text (spelling r) (framed b) (map spelling replies) (map framed bodies) e in
    let later : map spelling replies ≡ map framed bodies = later_texts (spelling r) (framed b) (map spelling replies) (map framed bodies) e in
    ap (λ (text : List ℕ). text ++ flat_map spelling replies) first ∙ ap (λ (text : List ℕ). framed b ++ text) (all_spelled replies bodies later)
  where
    first_text : (x y : List ℕ) (xs ys : List (List ℕ)) → x ∷ xs ≡ y ∷ ys → x ≡ y
    first_text x y xs ys same = cc

    later_texts : (x y : List ℕ) (xs ys : List (List ℕ)) → x ∷ xs ≡ y ∷ ys → xs ≡ ys
    later_texts x y xs ys same = cc

nothing_begins : BeginsWhole [] → ⊥
nothing_begins begun = let none : NotYet ≡ Whole begun.0 = begun.1 in absurd cc

-- replies that are sent one after the other are cut into their frames
pub sent_frames : (replies : List Reply) (bodies : List (List ℕ)) → map spelling replies ≡ map framed bodies → AllByRecursion IsFrameBody bodies → AreFramesOf (flat_map spelling replies) bodies []
sent_frames replies bodies spelled small = record {
  whole = all_spelled replies bodies spelled ∙ sym (append-nil (flat_map framed bodies));
  each = small;
  no_more = nothing_begins;
}

-- ---- a stream that comes in pieces

all_bodies : (bodies more : List (List ℕ)) → AllByRecursion IsFrameBody bodies → AllByRecursion IsFrameBody more → AllByRecursion IsFrameBody (bodies ++ more)
all_bodies [] more h k = k
all_bodies (body ∷ bodies) more h k = (h.0, all_bodies bodies more h.1 k)

pub in_pieces : (stream piece : List ℕ) (bodies more : List (List ℕ)) (rest last : List ℕ) → AreFramesOf stream bodies rest → AreFramesOf (rest ++ piece) more last → AreFramesOf (stream ++ piece) (bodies ++ more) last
in_pieces stream piece bodies more rest last h k = record {
  whole = ap (λ (t : List ℕ). t ++ piece) h.whole ∙ append_assoc (flat_map framed bodies) rest piece ∙ ap (λ (t : List ℕ). flat_map framed bodies ++ t) k.whole
      ∙ sym (append_assoc (flat_map framed bodies) (flat_map framed more) last) ∙ ap (λ (t : List ℕ). t ++ last) (sym (flat_map-append framed bodies more));
  each = all_bodies bodies more h.each k.each;
  no_more = k.no_more;
}
