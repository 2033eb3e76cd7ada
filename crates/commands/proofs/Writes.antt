-- Writing a part piece by piece.
use Rattle.std.proofs.Common.{◌≡◌, ℕ, ◌+◌, ◌<◌, ◌≤◌, List, [], ◌∷◌, ◌++◌, length, get_or, take, drop, Option, Result, Ok, Err, refl, sym, ap, ◌∙◌, subst, append_assoc, arith, length-append, length-drop}
use Rattle.std.specs.Prelude.{OnErr, codes}
use Rattle.std.specs.Fmt.{decimal}
use Rattle.std.specs.List.{flat_map}
use Rattle.std.proofs.Math.Seq.{take-add}
use Rattle.std.proofs.lemmas.List.{drop_at, drop_more, length-take-le, take-append-drop, take-append-le, take-take, take_at}
use Rattle.std.proofs.lemmas.List.Concat.{flat_map-append}
use Rattle.std.proofs.KnownBytes.{Appends-trans, Consumes-trans}
use Rattle.std.specs.Io.KnownBytes.{Appends, Consumes}
use borrow.Rule.Slice.PartMut.{put_mid, post_of}
use Rattle.hex.specs.Hex.{encode_lower, lower_digits}
use Rattle.trace_file.proofs.Laws.{encode_with-append}
use Rattle.trace_workers.specs.Telling.{frame_line}
use Rattle.commands.specs.Streams.{HasWrittenFront, line_head}

-- ---- reading into a room

-- what was read stands behind what was read before, whatever stands behind it
pub filled : (a b c : Option (List ℕ)) (room into : List ℕ) (count n k : ℕ) → count ≤ length room → n ≤ length into → Consumes a b (take count room) → Consumes b c (take n into)
    → Consumes a c (take (count + n) (put_mid count k room into))
filled a b c room into count n k le few first second =
    let front = take count room in
    let long : length front ≡ count = length-take-le count room le in
    let behind = post_of count k room in
    let cut : take (count + n) (front ++ (into ++ behind)) ≡ front ++ take n into =
    ap (λ (m : ℕ). take (m + n) (front ++ (into ++ behind))) (sym long) ∙ take-add (length front) n (front ++ (into ++ behind))
    ∙ rw (take_at front (into ++ behind) (length front) refl, drop_at front (into ++ behind) (length front) refl) (ap (λ (t : List ℕ). front ++ t) (take-append-le n into behind few)) in
    subst (Consumes a c) (sym cut) (Consumes-trans a b c front (take n into) first second)

-- ---- writing a part

-- the next piece stands behind those before it
pub appends_on : (a b c : Option (List ℕ)) (part : List ℕ) (done n k : ℕ) → n ≤ k → Appends a b (take done part)
    → Appends b c (take n (take k (drop done part))) → Appends a c (take (done + n) part)
appends_on a b c part done n k le first second =
    let joined : take (done + n) part ≡ take done part ++ take n (take k (drop done part)) =
    take-add done n part ∙ ap (λ (xs : List ℕ). take done part ++ xs) (sym (take-take n k (drop done part) le)) in
    subst (λ (bytes : List ℕ). Appends a c bytes) (sym joined) (Appends-trans a b c (take done part) (take n (take k (drop done part))) first second)

-- the front of the second part stands behind the whole first part
pub front_behind : (a b c : Option (List ℕ)) (first last : List ℕ) (n : ℕ) → Appends a b first → Appends b c (take n last)
    → Appends a c (take (length first + n) (first ++ last))
front_behind a b c first last n h k =
    let parts : take (length first + n) (first ++ last) ≡ first ++ take n last =
    take-add (length first) n (first ++ last) ∙ rw (take_at first last (length first) refl, drop_at first last (length first) refl) refl in
    subst (λ (bytes : List ℕ). Appends a c bytes) (sym parts) (Appends-trans a b c first (take n last) h k)

-- a front of the first part is one of both
pub front_first : (a b : Option (List ℕ)) (first last : List ℕ) → HasWrittenFront a b first → HasWrittenFront a b (first ++ last)
front_first a b first last h =
    let most = h.1 in
    let long : length (first ++ last) ≡ length first + length last = length-append first last in
    (h.0, omega (arith, most, long), subst (λ (bytes : List ℕ). Appends a b bytes) (sym (take-append-le h.0 first last most)) h.2)

-- and a front of the second one behind the whole first one
pub front_then : (a b c : Option (List ℕ)) (first last : List ℕ) → Appends a b first → HasWrittenFront b c last → HasWrittenFront a c (first ++ last)
front_then a b c first last whole h =
    let most = h.1 in
    let long : length (first ++ last) ≡ length first + length last = length-append first last in
    (length first + h.0, omega (arith, most, long), front_behind a b c first last h.0 whole h.2)

-- a front of what one item gives, behind all that those before it give
pub front_of_items : {X : Type 0} (f : X → List ℕ) (a b c : Option (List ℕ)) (items : List X) (i : ℕ) (item : X) → i < length items → item ≡ get_or items i item
    → Appends a b (flat_map f (take i items)) → HasWrittenFront b c (f item) → HasWrittenFront a c (flat_map f items)
front_of_items f a b c items i item less at whole h =
    let before = flat_map f (take i items) in
    let after = flat_map f (drop (i + 1) items) in
    let split : take i items ++ item ∷ drop (i + 1) items ≡ items =
    ap (λ x. take i items ++ x ∷ drop (i + 1) items) at ∙ ap (λ xs. take i items ++ xs) (sym (drop_more items i item less)) ∙ take-append-drop i items in
    let all : flat_map f items ≡ before ++ (f item ++ after) = ap (flat_map f) (sym split) ∙ flat_map-append f (take i items) (item ∷ drop (i + 1) items) in
    subst (HasWrittenFront a c) (sym all) (front_then a b c before (f item ++ after) whole (front_first b c (f item) after h))

-- what was put at the front of a room
pub room_front : (room into : List ℕ) (n : ℕ) → length into ≡ length (take n room) → n ≤ length room → take n (into ++ drop n room) ≡ into
room_front room into n long few = take_at into (drop n room) n (long ∙ length-take-le n room few)

pub room_same : (room into : List ℕ) (n : ℕ) → length into ≡ length (take n room) → n ≤ length room → length (into ++ drop n room) ≡ length room
room_same room into n long few =
    let all = length-append into (drop n room) in
    let front = length-take-le n room few in
    let behind = length-drop n room in
    omega (arith, all, front, behind, long, few)

-- the digits of the next bytes stand behind those of the bytes before them
pub digits_on : (a b c : Option (List ℕ)) (bytes : List ℕ) (done n : ℕ) → Appends a b (encode_lower (take done bytes)) → Appends b c (encode_lower (take n (drop done bytes)))
    → Appends a c (encode_lower (take (done + n) bytes))
digits_on a b c bytes done n whole more =
    let parts : encode_lower (take (done + n) bytes) ≡ encode_lower (take done bytes) ++ encode_lower (take n (drop done bytes)) =
    ap encode_lower (take-add done n bytes) ∙ encode_with-append lower_digits (take done bytes) (take n (drop done bytes)) in
    subst (λ (text : List ℕ). Appends a c text) (sym parts) (Appends-trans a b c (encode_lower (take done bytes)) (encode_lower (take n (drop done bytes))) whole more)

-- and so does a front of them
pub digits_front : (a b c : Option (List ℕ)) (bytes : List ℕ) (done n : ℕ) → Appends a b (encode_lower (take done bytes)) → HasWrittenFront b c (encode_lower (take n (drop done bytes)))
    → HasWrittenFront a c (encode_lower bytes)
digits_front a b c bytes done n whole h =
    let next = take n (drop done bytes) in
    let after = drop n (drop done bytes) in
    let all : encode_lower bytes ≡ encode_lower (take done bytes) ++ (encode_lower next ++ encode_lower after) =
    ap encode_lower (sym (take-append-drop done bytes)) ∙ encode_with-append lower_digits (take done bytes) (drop done bytes)
    ∙ ap (λ (t : List ℕ). encode_lower (take done bytes) ++ t) (ap encode_lower (sym (take-append-drop n (drop done bytes))) ∙ encode_with-append lower_digits next after) in
    subst (HasWrittenFront a c) (sym all) (front_then a b c (encode_lower (take done bytes)) (encode_lower next ++ encode_lower after) whole (front_first b c (encode_lower next) (encode_lower after) h))

-- the line of a frame is the words before its digits, the digits and a line feed
pub line_cut : (session : ℕ) (frame : List ℕ) → frame_line session frame ≡ line_head session ++ (encode_lower frame ++ 10 ∷ [])
line_cut session frame = ap (λ (t : List ℕ). codes "reply " ++ t) (sym (append_assoc (decimal session) (32 ∷ []) (encode_lower frame ++ 10 ∷ [])))

-- what is so however a call failed
pub on_any_err : {T E : Type 0} (r : Result T E) (P : Type 0) → P → OnErr r P
on_any_err (Ok x) P p = tt
on_any_err (Err e) P p = p
