-- What a writer has put at the end of bytes, part by part.
use Rattle.std.proofs.Common.{◌≡◌, ℕ, zero, suc, ◌+◌, ◌-◌, ◌^◌, ◌<◌, ◌≤◌, ℤ, pos, negsuc, List, [], ◌∷◌, ◌++◌, length, take, drop, get_or, Some, refl, sym, ap, ◌∙◌, append_assoc, append-nil, arith}
use Rattle.std.specs.List.{flat_map}
use Rattle.std.proofs.lemmas.List.{length-append}
use Rattle.std.proofs.lemmas.List.Folds.{length-flat_map-take}
use Rattle.kbytes.specs.Field.{field, Int8, Int16, Int32, Uint32, Int64, Varint, Varlong}
use Rattle.kbatch.specs.declared.record.Record.{Record}
use Rattle.kbatch.specs.declared.record.Header.{Header}
use Rattle.kbatch.specs.Record.{sized, header_bytes, body_bytes, record_bytes, records_from}
use Rattle.kbatch.specs.Head.{head_bytes}
use Rattle.kbatch.specs.Written.{plain_head}
use Rattle.kbatch.proofs.Lengths.{sized_len}
use Rattle.kbatch.proofs.Parts.{headers_len}
use Rattle.kbatch.proofs.Sizes.{header_length, headers_more, records_at_more, body_length}

-- one more part
pub put_more : (out a b done next : List ℕ) → done ≡ out ++ a → next ≡ done ++ b → next ≡ out ++ (a ++ b)
put_more out a b done next so_far more = more ∙ ap (λ (l : List ℕ). l ++ b) so_far ∙ append_assoc out a b

pub key_short : (h : Header) → length (header_bytes h) < 2 ^ 31 → length h.key < 2 ^ 31
key_short h lt = omega (arith, header_length h, sized_len h.key)

pub value_short : (h : Header) → length (header_bytes h) < 2 ^ 31 → length (sized h.value) < 2 ^ 31
value_short h lt = omega (arith, header_length h)

pub header_put : (out done next : List ℕ) (h : Header) → done ≡ out ++ sized (Some h.key) → next ≡ done ++ sized h.value → next ≡ out ++ header_bytes h
unfolding header_bytes
header_put out done next h so_far more = put_more out (sized (Some h.key)) (sized h.value) done next so_far more

pub header_short : (hs : List Header) (i : ℕ) (d : Header) → i < length hs → length (flat_map header_bytes hs) < 2 ^ 31 → length (header_bytes (get_or hs i d)) < 2 ^ 31
header_short hs i d lt short = omega (arith, length-flat_map-take header_bytes hs i d lt)

pub headers_put : (out done next : List ℕ) (hs : List Header) (i : ℕ) (d : Header) → i < length hs → done ≡ out ++ flat_map header_bytes (take i hs) → next ≡ done ++ header_bytes (get_or hs i d) → next ≡ out ++ flat_map header_bytes (take (i + 1) hs)
headers_put out done next hs i d lt so_far more =
    put_more out (flat_map header_bytes (take i hs)) (header_bytes (get_or hs i d)) done next so_far more ∙ ap (λ (l : List ℕ). out ++ l) (sym (headers_more hs i d lt))

-- ---- a record

pub key_within : (delta : ℕ) (r : Record) → length (body_bytes delta r) < 2 ^ 31 → length (sized r.key) < 2 ^ 31
key_within delta r lt = omega (arith, body_length delta r)

pub value_within : (delta : ℕ) (r : Record) → length (body_bytes delta r) < 2 ^ 31 → length (sized r.value) < 2 ^ 31
value_within delta r lt = omega (arith, body_length delta r)

pub headers_within : (delta : ℕ) (r : Record) → length (body_bytes delta r) < 2 ^ 31 → length (flat_map header_bytes r.headers) < 2 ^ 31
headers_within delta r lt = omega (arith, body_length delta r)

pub few_headers : (delta : ℕ) (r : Record) → length (body_bytes delta r) < 2 ^ 31 → length r.headers < 2 ^ 31
few_headers delta r lt = omega (arith, headers_len r.headers, headers_within delta r lt)

seven : (o a b c d e f g : List ℕ) → ((((((o ++ a) ++ b) ++ c) ++ d) ++ e) ++ f) ++ g ≡ o ++ (a ++ (b ++ (c ++ (d ++ (e ++ (f ++ g))))))
seven o a b c d e f g = simp append_assoc

pub body_put : (delta : ℕ) (r : Record) (o o1 o2 o3 o4 o5 o6 o7 : List ℕ) → o1 ≡ o ++ field (Int8 r.attributes) → o2 ≡ o1 ++ field (Varlong r.time) → o3 ≡ o2 ++ field (Varint (pos delta)) → o4 ≡ o3 ++ sized r.key → o5 ≡ o4 ++ sized r.value → o6 ≡ o5 ++ field (Varint (pos (length r.headers))) → o7 ≡ o6 ++ flat_map header_bytes r.headers → o7 ≡ o ++ body_bytes delta r
unfolding body_bytes
body_put delta r o o1 o2 o3 o4 o5 o6 o7 e1 e2 e3 e4 e5 e6 e7 =
    let hs = flat_map header_bytes r.headers in
    let count = field (Varint (pos (length r.headers))) in
    let s5 = e5 ∙ ap (λ (l : List ℕ). l ++ sized r.value) (e4 ∙ ap (λ (l : List ℕ). l ++ sized r.key) (e3 ∙ ap (λ (l : List ℕ). l ++ field (Varint (pos delta))) (e2 ∙ ap (λ (l : List ℕ). l ++ field (Varlong r.time)) e1))) in
    e7 ∙ ap (λ (l : List ℕ). l ++ hs) (e6 ∙ ap (λ (l : List ℕ). l ++ count) s5)
    ∙ seven o (field (Int8 r.attributes)) (field (Varlong r.time)) (field (Varint (pos delta))) (sized r.key) (sized r.value) count hs

-- ---- records

record_within : (delta : ℕ) (rs : List Record) (i : ℕ) (d : Record) → i < length rs → length (record_bytes (delta + i) (get_or rs i d)) ≤ length (records_from delta rs)
record_within delta [] i d lt = absurd (omega arith)
record_within delta (r ∷ rs) zero d lt =
    let here : delta + 0 ≡ delta = omega arith in
    omega (arith, ap (λ n. length (record_bytes n r)) here, length-append (record_bytes delta r) (records_from (suc delta) rs))
record_within delta (r ∷ rs) (suc i) d lt =
    let place : delta + suc i ≡ suc delta + i = omega arith in
    omega (arith, ap (λ n. length (record_bytes n (get_or rs i d))) place, record_within (suc delta) rs i d (omega (arith, lt)), length-append (record_bytes delta r) (records_from (suc delta) rs))

pub record_short : (rs : List Record) (i : ℕ) (d : Record) → i < length rs → length (records_from 0 rs) < 2 ^ 31 → length (record_bytes i (get_or rs i d)) < 2 ^ 31
record_short rs i d lt short =
    let place : 0 + i ≡ i = omega arith in
    omega (arith, ap (λ n. length (record_bytes n (get_or rs i d))) place, record_within 0 rs i d lt)

pub records_put : (out done next : List ℕ) (rs : List Record) (i : ℕ) (d : Record) → i < length rs → done ≡ out ++ records_from 0 (take i rs) → next ≡ done ++ record_bytes i (get_or rs i d) → next ≡ out ++ records_from 0 (take (i + 1) rs)
records_put out done next rs i d lt so_far more =
    put_more out (records_from 0 (take i rs)) (record_bytes i (get_or rs i d)) done next so_far more ∙ ap (λ (l : List ℕ). out ++ l) (sym (records_at_more rs i d lt))

-- ---- the header

five : (o a b c d e : List ℕ) → ((((o ++ a) ++ b) ++ c) ++ d) ++ e ≡ o ++ (a ++ (b ++ (c ++ (d ++ e))))
five o a b c d e = simp append_assoc

pub front_put : (size : ℕ) (o o1 o2 o3 o4 o5 : List ℕ) → o1 ≡ o ++ field (Int64 (pos 0)) → o2 ≡ o1 ++ field (Int32 (pos (49 + size))) → o3 ≡ o2 ++ field (Int32 (pos 0)) → o4 ≡ o3 ++ field (Int8 (pos 2)) → o5 ≡ o4 ++ field (Uint32 0) → o5 ≡ o ++ take 21 (head_bytes (plain_head 0 size 0 (pos 0)))
unfolding head_bytes
front_put size o o1 o2 o3 o4 o5 e1 e2 e3 e4 e5 =
    e5 ∙ ap (λ (l : List ℕ). l ++ field (Uint32 0)) (e4 ∙ ap (λ (l : List ℕ). l ++ field (Int8 (pos 2))) (e3 ∙ ap (λ (l : List ℕ). l ++ field (Int32 (pos 0))) (e2 ∙ ap (λ (l : List ℕ). l ++ field (Int32 (pos (49 + size)))) e1)))
    ∙ five o (field (Int64 (pos 0))) (field (Int32 (pos (49 + size)))) (field (Int32 (pos 0))) (field (Int8 (pos 2))) (field (Uint32 0))

eight : (o a b c d e f g h : List ℕ) → (((((((o ++ a) ++ b) ++ c) ++ d) ++ e) ++ f) ++ g) ++ h ≡ o ++ (a ++ (b ++ (c ++ (d ++ (e ++ (f ++ (g ++ (h ++ []))))))))
eight o a b c d e f g h = simp (append_assoc, append-nil)

pub back_put : (count : ℕ) (latest : ℤ) (o o1 o2 o3 o4 o5 o6 o7 o8 : List ℕ) → o1 ≡ o ++ field (Int16 (pos 0)) → o2 ≡ o1 ++ field (Int32 (pos (count - 1))) → o3 ≡ o2 ++ field (Int64 (pos 0)) → o4 ≡ o3 ++ field (Int64 latest) → o5 ≡ o4 ++ field (Int64 (negsuc 0)) → o6 ≡ o5 ++ field (Int16 (negsuc 0)) → o7 ≡ o6 ++ field (Int32 (negsuc 0)) → o8 ≡ o7 ++ field (Int32 (pos count)) → o8 ≡ o ++ drop 21 (head_bytes (plain_head 0 0 count latest))
unfolding head_bytes
back_put count latest o o1 o2 o3 o4 o5 o6 o7 o8 e1 e2 e3 e4 e5 e6 e7 e8 =
    let s4 = e4 ∙ ap (λ (l : List ℕ). l ++ field (Int64 latest)) (e3 ∙ ap (λ (l : List ℕ). l ++ field (Int64 (pos 0))) (e2 ∙ ap (λ (l : List ℕ). l ++ field (Int32 (pos (count - 1)))) e1)) in
    let s7 = e7 ∙ ap (λ (l : List ℕ). l ++ field (Int32 (negsuc 0))) (e6 ∙ ap (λ (l : List ℕ). l ++ field (Int16 (negsuc 0))) (e5 ∙ ap (λ (l : List ℕ). l ++ field (Int64 (negsuc 0))) s4)) in
    e8 ∙ ap (λ (l : List ℕ). l ++ field (Int32 (pos count))) s7
    ∙ eight o (field (Int16 (pos 0))) (field (Int32 (pos (count - 1)))) (field (Int64 (pos 0))) (field (Int64 latest)) (field (Int64 (negsuc 0))) (field (Int16 (negsuc 0))) (field (Int32 (negsuc 0))) (field (Int32 (pos count)))

pub head_put : (size count : ℕ) (latest : ℤ) (rest : List ℕ) → (take 21 (head_bytes (plain_head 0 size 0 (pos 0))) ++ drop 21 (head_bytes (plain_head 0 0 count latest))) ++ rest ≡ head_bytes (plain_head 0 size count latest) ++ rest
unfolding head_bytes
head_put size count latest rest = refl
