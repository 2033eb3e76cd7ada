-- How many bytes a record takes.
use Rattle.std.proofs.Common.{◌≡◌, ℕ, zero, suc, ◌+◌, ◌-◌, ◌/◌, ◌^◌, ◌<◌, ◌≤◌, min, pos, List, [], ◌++◌, length, take, get_or, Some, refl, sym, ap, ◌∙◌, arith}
use Rattle.std.specs.List.{flat_map}
use Rattle.std.proofs.lemmas.Bool.{le-ltb, lt-ltb}
use Rattle.std.proofs.lemmas.List.{length-append, take_more, flat_map_more, length-take-le}
use Rattle.kbytes.specs.Field.{field, groups, Varint, Varlong}
use Rattle.kbatch.specs.declared.record.Record.{Record}
use Rattle.kbatch.specs.declared.record.Header.{Header}
use Rattle.kbatch.specs.Record.{sized, header_bytes, body_bytes, record_bytes, records_from}
use Rattle.kbatch.proofs.Records.{records_more}

pub groups_one : (more n : ℕ) → n < 128 → length (groups more n) ≡ 1
unfolding groups
groups_one zero n lt = refl
groups_one (suc more) n lt = rw (lt-ltb n 128 lt) refl

pub groups_more : (more n : ℕ) → 128 ≤ n → length (groups (suc more) n) ≡ 1 + length (groups more (n / 128))
unfolding groups
groups_more more n le = rw (le-ltb n 128 le) (omega arith)

pub groups_last : (n : ℕ) → length (groups 0 n) ≡ 1
unfolding groups
groups_last n = refl

-- a number past four groups of seven bits
pub groups_all : (n : ℕ) → 2 ^ 28 ≤ n → length (groups 4 n) ≡ 5
groups_all n le =
    let a = groups_more 3 n (omega arith) in
    let b = groups_more 2 (n / 128) (omega arith) in
    let c = groups_more 1 (n / 128 / 128) (omega arith) in
    let d = groups_more 0 (n / 128 / 128 / 128) (omega arith) in
    let e = groups_last (n / 128 / 128 / 128 / 128) in
    omega arith

-- one turn of a count of groups
pub groups_step : (count rest i more total : ℕ) → i < more → 128 ≤ rest → count + length (groups (more - i) rest) ≡ total → (count + 1) + length (groups (more - (i + 1)) (rest / 128)) ≡ total
groups_step count rest i more total lt le so_far =
    let k : more - i ≡ suc (more - (i + 1)) = omega arith in
    let here = ap (λ n. length (groups n rest)) k in
    let step = groups_more (more - (i + 1)) rest le in
    omega arith

pub sized_length : (bytes : List ℕ) → length (sized (Some bytes)) ≡ length (field (Varint (pos (length bytes)))) + length bytes
sized_length bytes = length-append (field (Varint (pos (length bytes)))) bytes

pub header_length : (h : Header) → length (header_bytes h) ≡ length (sized (Some h.key)) + length (sized h.value)
unfolding header_bytes
header_length h = length-append (sized (Some h.key)) (sized h.value)

pub headers_more : (hs : List Header) (i : ℕ) (d : Header) → i < length hs → flat_map header_bytes (take (i + 1) hs) ≡ flat_map header_bytes (take i hs) ++ header_bytes (get_or hs i d)
headers_more hs i d lt = ap (flat_map header_bytes) (take_more hs i d lt) ∙ sym (flat_map_more header_bytes [] (take i hs) (get_or hs i d))

pub body_length : (delta : ℕ) (r : Record) → length (body_bytes delta r) ≡ 1 + (length (field (Varlong r.time)) + (length (field (Varint (pos delta))) + (length (sized r.key) + (length (sized r.value) + (length (field (Varint (pos (length r.headers)))) + length (flat_map header_bytes r.headers))))))
unfolding body_bytes
body_length delta r =
    let time = field (Varlong r.time) in
    let number = field (Varint (pos delta)) in
    let count = field (Varint (pos (length r.headers))) in
    let hs = flat_map header_bytes r.headers in
    omega (arith, length-append time (number ++ (sized r.key ++ (sized r.value ++ (count ++ hs)))), length-append number (sized r.key ++ (sized r.value ++ (count ++ hs))), length-append (sized r.key) (sized r.value ++ (count ++ hs)), length-append (sized r.value) (count ++ hs), length-append count hs)

pub records_at_more : (rs : List Record) (i : ℕ) (d : Record) → i < length rs → records_from 0 (take (i + 1) rs) ≡ records_from 0 (take i rs) ++ record_bytes i (get_or rs i d)
records_at_more rs i d lt =
    let len : 0 + length (take i rs) ≡ i = omega (arith, length-take-le i rs (omega arith)) in
    ap (records_from 0) (take_more rs i d lt) ∙ records_more 0 (take i rs) (get_or rs i d) ∙ ap (λ (n : ℕ). records_from 0 (take i rs) ++ record_bytes n (get_or rs i d)) len

-- sums that stop at a number m
capped : (m t n c k v h kk vv hh whole s1 s2 s3 : ℕ) → whole ≡ 1 + (t + (n + (kk + (vv + (c + hh))))) → k ≡ min kk m → v ≡ min vv m → h ≡ min hh m → s1 ≡ min (((1 + t) + n + c) + k) m → s2 ≡ min (s1 + v) m → s3 ≡ min (s2 + h) m → s3 ≡ min whole m
capped m t n c k v h kk vv hh whole s1 s2 s3 is ks vs hs e1 e2 e3 = omega arith

pub body_counted : (m delta : ℕ) (r : Record) (t n c k v h s1 s2 s3 : ℕ) → t ≡ length (field (Varlong r.time)) → n ≡ length (field (Varint (pos delta))) → c ≡ length (field (Varint (pos (length r.headers)))) → k ≡ min (length (sized r.key)) m → v ≡ min (length (sized r.value)) m → h ≡ min (length (flat_map header_bytes r.headers)) m → s1 ≡ min (((1 + t) + n + c) + k) m → s2 ≡ min (s1 + v) m → s3 ≡ min (s2 + h) m → s3 ≡ min (length (body_bytes delta r)) m
body_counted m delta r t n c k v h s1 s2 s3 ts ns cs ks vs hs e1 e2 e3 =
    let whole : length (body_bytes delta r) ≡ 1 + (t + (n + (length (sized r.key) + (length (sized r.value) + (c + length (flat_map header_bytes r.headers)))))) = rw (ts, ns, cs) (body_length delta r) in
    capped m t n c k v h (length (sized r.key)) (length (sized r.value)) (length (flat_map header_bytes r.headers)) (length (body_bytes delta r)) s1 s2 s3 whole ks vs hs e1 e2 e3
