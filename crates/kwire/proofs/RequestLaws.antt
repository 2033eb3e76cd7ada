-- A body is one request, or is refused for one cause, and not both.
use Rattle.std.proofs.Common.{◌≡◌, ◌≢◌, ◌⊎◌, ℕ, Bool, true, false, leb, ℤ, pos, negsuc, List, [], ◌∷◌, ◌++◌, length, Option, Some, None, refl, sym, ap, subst, ◌∙◌, inl, inr, arith}
use Rattle.std.specs.Ordering.{int_eq}
use Rattle.std.proofs.lemmas.Bool.{true≢false, and_parts, leb-true}
use Rattle.std.proofs.lemmas.Bool.Decides.{Decides-int_eq}
use Rattle.std.proofs.lemmas.List.{append-nil}
use Rattle.kbytes.specs.Octets.{IsBytes}
use Rattle.kbytes.specs.Field.{Field, Int16, Int32, NullableString, fields}
use Rattle.kbytes.specs.FitsField.{FitsField}
use Rattle.kwire.specs.declared.api.Api.{Api}
use Rattle.kwire.specs.declared.api.Api.TheVariants.{Produce as ProduceApi, Fetch as FetchApi, Metadata as MetadataApi, Versions as VersionsApi}
use Rattle.kwire.specs.declared.frame.WireFault.{WireFault}
use Rattle.kwire.specs.declared.frame.WireFault.TheVariants.{BadRequest, UnknownApi, Unsupported, Twice}
use Rattle.kwire.specs.declared.request.Request.{Request}
use Rattle.kwire.specs.declared.request.Ask.{Ask}
use Rattle.kwire.specs.declared.request.Ask.TheVariants.{Versions}
use Rattle.kwire.specs.Layouts.{INT16, INT32, NULLABLE_STRING, End, ◌⨾◌, Layout, LeadTo, AreOf, IsFirstFault}
use Rattle.kwire.specs.Apis.{key_of_api, is_read_in, head_layout, request_layout, ask_layout}
use Rattle.kwire.specs.IsRequest.{IsSpelledOut, IsWhole, IsOtherVersion, IsRequest, AllFitVersion, api_of, version_of, head, head_fields, ask_fields, request_fields}
use Rattle.kwire.specs.Refusal.{HasHead, Mention, mentions_of, IsFirstRepeat, IsRefused, NoHead, NoApi, NoVersion, NoField, MoreBytes, NamedTwice}
use Rattle.kwire.specs.Mentions.{repeat_after}
use Rattle.kwire.proofs.OneReading.{fields_once, fault_once, not_fault, fields_or_fault}
use Rattle.kwire.proofs.Places.{AllFit, fields-append}
use Rattle.kwire.proofs.Typed.{first_of, tails, HasOneVersion, ask_of_fields, ask_apart}
use Rattle.kwire.proofs.TwiceNamed.{no_two, none_repeated, first_repeat_of, repeat_of_first}

-- ---- the header

pub head_are : (key version correlation : ℤ) → AllFit (head key version correlation) → AreOf head_layout (head key version correlation)
head_are key version correlation fits = record { named = 0; lead = (((key, refl), fits.0), (((version, refl), fits.1.0), (((correlation, refl), fits.1.1.0), (refl, refl)))) }

int16_same : (x y : ℤ) → Int16 x ≡ Int16 y → x ≡ y
int16_same x y e = cc

int32_same : (x y : ℤ) → Int32 x ≡ Int32 y → x ≡ y
int32_same x y e = cc

pub record SameHead (key version correlation : ℤ) (other_key other_version other_correlation : ℤ) : Type 0 where
  pub api : key ≡ other_key
  pub version_same : version ≡ other_version
  pub correlation_same : correlation ≡ other_correlation

heads_same : (k v c l w d : ℤ) → head k v c ≡ head l w d → SameHead k v c l w d
heads_same k v c l w d e =
    let one = tails (Int16 k) (Int16 l) (Int16 v ∷ Int32 c ∷ []) (Int16 w ∷ Int32 d ∷ []) e in
    let two = tails (Int16 v) (Int16 w) (Int32 c ∷ []) (Int32 d ∷ []) one.1 in
    let three = tails (Int32 c) (Int32 d) [] [] two.1 in
    record { api = int16_same k l one.0; version_same = int16_same v w two.0; correlation_same = int32_same c d three.0 }

head_once : (body : List ℕ) (k v l w : ℤ) (a : HasHead body k v) (b : HasHead body l w) → SameHead k v a.correlation l w b.correlation
head_once body k v l w a b =
    let same = fields_once head_layout (head k v a.correlation) (head l w b.correlation) a.rest b.rest (head_are k v a.correlation a.fits) (head_are l w b.correlation b.fits) (sym a.parts ∙ b.parts) in
    heads_same k v a.correlation l w b.correlation same.0

head_no_fault : (body : List ℕ) (k v : ℤ) (why : WireFault) → HasHead body k v → IsFirstFault head_layout body why → ⊥
head_no_fault body k v why a fault = not_fault head_layout (head k v a.correlation) a.rest why (head_are k v a.correlation a.fits) (subst (λ (t : List ℕ). IsFirstFault head_layout t why) a.parts fault)

key_once : (a b : Api) → key_of_api a ≡ key_of_api b → a ≡ b
key_once ProduceApi ProduceApi e = refl
key_once ProduceApi FetchApi e = absurd cc
key_once ProduceApi MetadataApi e = absurd cc
key_once ProduceApi VersionsApi e = absurd cc
key_once FetchApi ProduceApi e = absurd cc
key_once FetchApi FetchApi e = refl
key_once FetchApi MetadataApi e = absurd cc
key_once FetchApi VersionsApi e = absurd cc
key_once MetadataApi ProduceApi e = absurd cc
key_once MetadataApi FetchApi e = absurd cc
key_once MetadataApi MetadataApi e = refl
key_once MetadataApi VersionsApi e = absurd cc
key_once VersionsApi ProduceApi e = absurd cc
key_once VersionsApi FetchApi e = absurd cc
key_once VersionsApi MetadataApi e = absurd cc
key_once VersionsApi VersionsApi e = refl

-- ---- a request that is spelled out has a header

body_fields : Request → List Field
body_fields request = NullableString request.client ∷ ask_fields request.ask

spelled_head : (body : List ℕ) (request : Request) → IsSpelledOut body request → HasHead body (key_of_api (api_of request.ask)) (version_of request.ask)
unfolding body_fields
spelled_head body request h =
    let lead = h.laid_out.lead in
    record {
      correlation = request.correlation;
      fits = (lead.0.1, (lead.1.0.1, (lead.1.1.0.1, tt)));
      rest = fields (body_fields request);
      parts = h.spelled ∙ fields-append (head_fields request) (body_fields request);
    }

-- what a request is, besides its fields
same_made : (r s : Request) → r.correlation ≡ s.correlation → r.client ≡ s.client → r.ask ≡ s.ask → r ≡ s
same_made r s one two three =
    ap (λ (z : ℤ). record { correlation = z; client = r.client; ask = r.ask }) one ∙ ap (λ (c : Option (List ℕ)). record { correlation = s.correlation; client = c; ask = r.ask }) two
    ∙ ap (λ (a : Ask). record { correlation = s.correlation; client = s.client; ask = a }) three

client_same : (a b : Option (List ℕ)) → NullableString a ≡ NullableString b → a ≡ b
client_same a b e = cc

fields_same : (r s : Request) → api_of r.ask ≡ api_of s.ask → version_of r.ask ≡ version_of s.ask → AllFitVersion r.ask → AllFitVersion s.ask → request_fields r ≡ request_fields s → r ≡ s
fields_same r s api version f g e =
    let one = tails _ _ _ _ e in
    let two = tails _ _ _ _ one.1 in
    let three = tails _ _ _ _ two.1 in
    let four = tails _ _ _ _ three.1 in
    same_made r s (int32_same r.correlation s.correlation three.0) (client_same r.client s.client four.0) (ask_apart r.ask s.ask api version f g four.1)

whole_end : (body : List ℕ) (fs : List Field) → body ≡ fields fs → body ≡ fields fs ++ []
whole_end body fs e = e ∙ sym (append-nil (fields fs))

pub spelled_once : (body : List ℕ) (r s : Request) → IsSpelledOut body r → IsSpelledOut body s → r ≡ s
spelled_once body r s h k =
    let heads = head_once body (key_of_api (api_of r.ask)) (version_of r.ask) (key_of_api (api_of s.ask)) (version_of s.ask) (spelled_head body r h) (spelled_head body s k) in
    let api = key_once (api_of r.ask) (api_of s.ask) heads.api in
    let layout = request_layout (api_of r.ask) (version_of r.ask) in
    let there = subst (λ (a : Api). AreOf (request_layout a (version_of r.ask)) (request_fields s)) (sym api) (subst (λ (v : ℤ). AreOf (request_layout (api_of s.ask) v) (request_fields s)) (sym heads.version_same) k.laid_out) in
    let same = fields_once layout (request_fields r) (request_fields s) [] [] h.laid_out there (sym (whole_end body (request_fields r) h.spelled) ∙ whole_end body (request_fields s) k.spelled) in
    fields_same r s api heads.version_same h.fitting k.fitting same.0

-- no version is read whole and isn't
read_and_not : (api : Api) (version : ℤ) → is_read_in api version ≡ true → is_read_in api version ≡ false → ⊥
read_and_not api version is not = true≢false (sym is ∙ not)

other_head : (body : List ℕ) (r : Request) (o : IsOtherVersion body r) → HasHead body (key_of_api VersionsApi) o.version
other_head body r o =
    let heads : head_fields r ≡ head (key_of_api VersionsApi) o.version r.correlation = ap (λ (a : Ask). head (key_of_api (api_of a)) (version_of a) r.correlation) o.asked in
    record { correlation = r.correlation; fits = subst AllFit heads o.fits; rest = o.rest; parts = o.spelled ∙ ap (λ (fs : List Field). fields fs ++ o.rest) heads }

whole_not_other : (body : List ℕ) (r s : Request) → IsSpelledOut body r → IsOtherVersion body s → ⊥
whole_not_other body r s h o =
    let heads = head_once body (key_of_api (api_of r.ask)) (version_of r.ask) (key_of_api VersionsApi) o.version (spelled_head body r h) (other_head body s o) in
    let api = key_once (api_of r.ask) VersionsApi heads.api in
    read_and_not VersionsApi o.version (subst (λ (v : ℤ). is_read_in VersionsApi v ≡ true) heads.version_same (subst (λ (a : Api). is_read_in a (version_of r.ask) ≡ true) api h.version)) o.other

pub same_request : (body : List ℕ) (r s : Request) → IsRequest body r → IsRequest body s → r ≡ s
unfolding other_head
same_request body r s (inl h) (inl k) = spelled_once body r s h.whole k.whole
same_request body r s (inl h) (inr o) = absurd (whole_not_other body r s h.whole o)
same_request body r s (inr o) (inl k) = absurd (whole_not_other body s r k.whole o)
same_request body r s (inr o) (inr p) =
    let heads = head_once body (key_of_api VersionsApi) o.version (key_of_api VersionsApi) p.version (other_head body r o) (other_head body s p) in
    same_made r s heads.correlation_same (o.nobody ∙ sym p.nobody) (o.asked ∙ ap Versions heads.version_same ∙ sym p.asked)

-- ---- refusals after a header

pub record HasMore (api : Api) (version : ℤ) (body : List ℕ) (why : WireFault) : Type 0 where
  pub all : List Field
  pub are : AreOf (request_layout api version) all
  pub rest : List ℕ
  pub more : rest ≢ []
  pub parts : body ≡ fields all ++ rest
  pub told : why ≡ BadRequest (length (fields all))

pub record IsTwice (api : Api) (version : ℤ) (body : List ℕ) (why : WireFault) : Type 0 where
  pub request : Request
  pub asked : api_of request.ask ≡ api
  pub version_is : version_of request.ask ≡ version
  pub spelled : IsSpelledOut body request
  pub mention : Mention
  pub repeat : IsFirstRepeat (mentions_of request.ask) mention
  pub told : why ≡ Twice mention.entry mention.index

abbrev InBody : Api → ℤ → List ℕ → WireFault → Type 0
InBody api version body why = IsFirstFault (request_layout api version) body why ⊎ HasMore api version body why ⊎ IsTwice api version body why

twice_are : (api : Api) (version : ℤ) (body : List ℕ) (why : WireFault) (t : IsTwice api version body why) → AreOf (request_layout api version) (request_fields t.request)
twice_are api version body why t =
    subst (λ (v : ℤ). AreOf (request_layout api v) (request_fields t.request)) t.version_is (subst (λ (a : Api). AreOf (request_layout a (version_of t.request.ask)) (request_fields t.request)) t.asked t.spelled.laid_out)

mention_once : (ms : List Mention) (m n : Mention) → IsFirstRepeat ms m → IsFirstRepeat ms n → m ≡ n
mention_once ms m n h k =
    let e : ◌≡◌ {A = Option Mention} (Some m) (Some n) = sym (repeat_of_first ms m h) ∙ repeat_of_first ms n k in
    cc

in_body_once : (api : Api) (version : ℤ) (body : List ℕ) (v w : WireFault) → InBody api version body v → InBody api version body w → v ≡ w
in_body_once api version body v w (inl f) (inl g) = fault_once (request_layout api version) body v w f g
in_body_once api version body v w (inl f) (inr (inl g)) = absurd (not_fault (request_layout api version) g.all g.rest v g.are (subst (λ (t : List ℕ). IsFirstFault (request_layout api version) t v) g.parts f))
in_body_once api version body v w (inl f) (inr (inr g)) =
    absurd (not_fault (request_layout api version) (request_fields g.request) [] v (twice_are api version body w g) (subst (λ (t : List ℕ). IsFirstFault (request_layout api version) t v) (whole_end body (request_fields g.request) g.spelled.spelled) f))
in_body_once api version body v w (inr (inl f)) (inl g) = absurd (not_fault (request_layout api version) f.all f.rest w f.are (subst (λ (t : List ℕ). IsFirstFault (request_layout api version) t w) f.parts g))
in_body_once api version body v w (inr (inl f)) (inr (inl g)) =
    let same = fields_once (request_layout api version) f.all g.all f.rest g.rest f.are g.are (sym f.parts ∙ g.parts) in
    f.told ∙ ap (λ (fs : List Field). BadRequest (length (fields fs))) same.0 ∙ sym g.told
in_body_once api version body v w (inr (inl f)) (inr (inr g)) =
    absurd (f.more (fields_once (request_layout api version) f.all (request_fields g.request) f.rest [] f.are (twice_are api version body w g) (sym f.parts ∙ whole_end body (request_fields g.request) g.spelled.spelled)).1)
in_body_once api version body v w (inr (inr f)) (inl g) =
    absurd (not_fault (request_layout api version) (request_fields f.request) [] w (twice_are api version body v f) (subst (λ (t : List ℕ). IsFirstFault (request_layout api version) t w) (whole_end body (request_fields f.request) f.spelled.spelled) g))
in_body_once api version body v w (inr (inr f)) (inr (inl g)) =
    absurd (g.more (fields_once (request_layout api version) g.all (request_fields f.request) g.rest [] g.are (twice_are api version body v f) (sym g.parts ∙ whole_end body (request_fields f.request) f.spelled.spelled)).1)
in_body_once api version body v w (inr (inr f)) (inr (inr g)) =
    let same = spelled_once body f.request g.request f.spelled g.spelled in
    let there = subst (λ (r : Request). IsFirstRepeat (mentions_of r.ask) f.mention) same f.repeat in
    f.told ∙ ap (λ (m : Mention). Twice m.entry m.index) (mention_once (mentions_of g.request.ask) f.mention g.mention there g.repeat) ∙ sym g.told

-- why a body with this header is refused
pub record IsUnsupported (key version : ℤ) (why : WireFault) : Type 0 where
  pub api : Api
  pub is : key ≡ key_of_api api
  pub other : is_read_in api version ≡ false
  pub no_versions : api ≢ VersionsApi
  pub told : why ≡ Unsupported key version

pub record IsInBody (key version : ℤ) (body : List ℕ) (why : WireFault) : Type 0 where
  pub api : Api
  pub is : key ≡ key_of_api api
  pub read : is_read_in api version ≡ true
  pub fault : InBody api version body why

abbrev Behind : ℤ → ℤ → List ℕ → WireFault → Type 0
Behind key version body why = (((api : Api) → key ≢ key_of_api api) × (why ≡ UnknownApi key)) ⊎ IsUnsupported key version why ⊎ IsInBody key version body why

behind_once : (key version : ℤ) (body : List ℕ) (v w : WireFault) → Behind key version body v → Behind key version body w → v ≡ w
behind_once key version body v w (inl f) (inl g) = f.1 ∙ sym g.1
behind_once key version body v w (inl f) (inr (inl g)) = absurd (f.0 g.api g.is)
behind_once key version body v w (inl f) (inr (inr g)) = absurd (f.0 g.api g.is)
behind_once key version body v w (inr (inl f)) (inl g) = absurd (g.0 f.api f.is)
behind_once key version body v w (inr (inl f)) (inr (inl g)) = f.told ∙ sym g.told
behind_once key version body v w (inr (inl f)) (inr (inr g)) = absurd (read_and_not f.api version (subst (λ (a : Api). is_read_in a version ≡ true) (key_once g.api f.api (sym g.is ∙ f.is)) g.read) f.other)
behind_once key version body v w (inr (inr f)) (inl g) = absurd (g.0 f.api f.is)
behind_once key version body v w (inr (inr f)) (inr (inl g)) = absurd (read_and_not g.api version (subst (λ (a : Api). is_read_in a version ≡ true) (key_once f.api g.api (sym f.is ∙ g.is)) f.read) g.other)
behind_once key version body v w (inr (inr f)) (inr (inr g)) =
    in_body_once f.api version body v w f.fault (subst (λ (a : Api). InBody a version body w) (key_once g.api f.api (sym g.is ∙ f.is)) g.fault)

-- a refusal is a fault of the header, or comes after it
pub record HasBehind (body : List ℕ) (why : WireFault) : Type 0 where
  pub key : ℤ
  pub version : ℤ
  pub at_front : HasHead body key version
  pub behind : Behind key version body why

refusal : (body : List ℕ) (why : WireFault) → IsRefused body why → IsFirstFault head_layout body why ⊎ HasBehind body why
refusal body why (NoHead fault) = inl fault
refusal body why (NoApi h none) = inr (record { key = _; version = _; at_front = h; behind = inl (none, refl) })
refusal body why (NoVersion h api is other known) = inr (record { key = _; version = _; at_front = h; behind = inr (inl (record { api = api; is = is; other = other; no_versions = known; told = refl })) })
refusal body why (NoField api read h fault) = inr (record { key = _; version = _; at_front = h; behind = inr (inr (record { api = api; is = refl; read = read; fault = inl fault })) })
refusal body why (MoreBytes api read h fs are rest more parts) =
    inr (record { key = _; version = _; at_front = h; behind = inr (inr (record { api = api; is = refl; read = read; fault = inr (inl (record { all = fs; are = are; rest = rest; more = more; parts = parts; told = refl })) })) })
refusal body why (NamedTwice request spelled mention repeat) =
    inr (record {
      key = _;
      version = _;
      at_front = spelled_head body request spelled;
      behind = inr (inr (record { api = api_of request.ask; is = refl; read = spelled.version; fault = inr (inr (record { request = request; asked = refl; version_is = refl; spelled = spelled; mention = mention; repeat = repeat; told = refl })) }));
    })

behind_there : (body : List ℕ) (why : WireFault) (h : HasBehind body why) (key version : ℤ) → HasHead body key version → Behind key version body why
behind_there body why h key version front =
    let same = head_once body h.key h.version key version h.at_front front in
    subst (λ (k : ℤ). Behind k version body why) same.api (subst (λ (v : ℤ). Behind h.key v body why) same.version_same h.behind)

pub same_refusal : (body : List ℕ) (v w : WireFault) → IsRefused body v → IsRefused body w → v ≡ w
same_refusal body v w p q = both (refusal body v p) (refusal body w q)
  where
    both : IsFirstFault head_layout body v ⊎ HasBehind body v → IsFirstFault head_layout body w ⊎ HasBehind body w → v ≡ w
    both (inl f) (inl g) = fault_once head_layout body v w f g
    both (inl f) (inr g) = absurd (head_no_fault body g.key g.version v g.at_front f)
    both (inr f) (inl g) = absurd (head_no_fault body f.key f.version w f.at_front g)
    both (inr f) (inr g) = behind_once f.key f.version body v w f.behind (behind_there body w g f.key f.version f.at_front)

none_and_some : (ms : List Mention) (m : Mention) → repeat_after [] ms ≡ None → IsFirstRepeat ms m → ⊥
none_and_some ms m none h = let e : ◌≡◌ {A = Option Mention} None (Some m) = sym none ∙ repeat_of_first ms m h in absurd cc

whole_not_behind : (body : List ℕ) (r : Request) (w : WireFault) → IsWhole body r → Behind (key_of_api (api_of r.ask)) (version_of r.ask) body w → ⊥
whole_not_behind body r w h (inl g) = g.0 (api_of r.ask) refl
whole_not_behind body r w h (inr (inl g)) = read_and_not g.api (version_of r.ask) (subst (λ (a : Api). is_read_in a (version_of r.ask) ≡ true) (key_once (api_of r.ask) g.api g.is) h.whole.version) g.other
whole_not_behind body r w h (inr (inr g)) = there (subst (λ (a : Api). InBody a (version_of r.ask) body w) (sym (key_once (api_of r.ask) g.api g.is)) g.fault)
  where
    there : InBody (api_of r.ask) (version_of r.ask) body w → ⊥
    there (inl f) = not_fault (request_layout (api_of r.ask) (version_of r.ask)) (request_fields r) [] w h.whole.laid_out (subst (λ (t : List ℕ). IsFirstFault (request_layout (api_of r.ask) (version_of r.ask)) t w) (whole_end body (request_fields r) h.whole.spelled) f)
    there (inr (inl f)) = f.more (fields_once (request_layout (api_of r.ask) (version_of r.ask)) f.all (request_fields r) f.rest [] f.are h.whole.laid_out (sym f.parts ∙ whole_end body (request_fields r) h.whole.spelled)).1
    there (inr (inr f)) =
        let same = spelled_once body r f.request h.whole f.spelled in
        none_and_some (mentions_of f.request.ask) f.mention (subst (λ (s : Request). repeat_after [] (mentions_of s.ask) ≡ None) same (none_repeated r.ask h.once)) f.repeat

other_not_behind : (body : List ℕ) (r : Request) (w : WireFault) (o : IsOtherVersion body r) → Behind (key_of_api VersionsApi) o.version body w → ⊥
other_not_behind body r w o (inl g) = g.0 VersionsApi refl
other_not_behind body r w o (inr (inl g)) = g.no_versions (sym (key_once VersionsApi g.api g.is))
other_not_behind body r w o (inr (inr g)) = read_and_not VersionsApi o.version (subst (λ (a : Api). is_read_in a o.version ≡ true) (sym (key_once VersionsApi g.api g.is)) g.read) o.other

pub not_both : (body : List ℕ) (r : Request) (w : WireFault) → IsRequest body r → IsRefused body w → ⊥
not_both body r w p q = both p (refusal body w q)
  where
    both : IsRequest body r → IsFirstFault head_layout body w ⊎ HasBehind body w → ⊥
    both (inl h) (inl f) = head_no_fault body (key_of_api (api_of r.ask)) (version_of r.ask) w (spelled_head body r h.whole) f
    both (inl h) (inr g) = whole_not_behind body r w h (behind_there body w g (key_of_api (api_of r.ask)) (version_of r.ask) (spelled_head body r h.whole))
    both (inr o) (inl f) = head_no_fault body (key_of_api VersionsApi) o.version w (other_head body r o) f
    both (inr o) (inr g) = other_not_behind body r w o (behind_there body w g (key_of_api VersionsApi) o.version (other_head body r o))

-- ---- one or the other

api_or_none : (key : ℤ) → ((api : Api) × (key ≡ key_of_api api)) ⊎ ((api : Api) → key ≢ key_of_api api)
api_or_none key = try_all (int_eq key (pos 0)) refl (int_eq key (pos 1)) refl (int_eq key (pos 3)) refl (int_eq key (pos 18)) refl
  where
    is : (n : ℕ) → int_eq key (pos n) ≡ true → key ≡ pos n
    is n e = (Decides-int_eq key (pos n)).0 e

    not : (n : ℕ) → int_eq key (pos n) ≡ false → key ≢ pos n
    not n e same = true≢false (sym ((Decides-int_eq key (pos n)).1 same) ∙ e)

    try_all : (a : Bool) → int_eq key (pos 0) ≡ a → (b : Bool) → int_eq key (pos 1) ≡ b → (c : Bool) → int_eq key (pos 3) ≡ c → (d : Bool) → int_eq key (pos 18) ≡ d
        → ((api : Api) × (key ≡ key_of_api api)) ⊎ ((api : Api) → key ≢ key_of_api api)
    try_all true p b q c r d s = inl (ProduceApi, is 0 p)
    try_all false p true q c r d s = inl (FetchApi, is 1 q)
    try_all false p false q true r d s = inl (MetadataApi, is 3 r)
    try_all false p false q false r true s = inl (VersionsApi, is 18 s)
    try_all false p false q false r false s = inr (elim [
      | ProduceApi ↦ not 0 p
      | FetchApi ↦ not 1 q
      | MetadataApi ↦ not 3 r
      | VersionsApi ↦ not 18 s
    ])

is_versions : (api : Api) → (api ≡ VersionsApi) ⊎ (api ≢ VersionsApi)
is_versions ProduceApi = inr (λ e. absurd cc)
is_versions FetchApi = inr (λ e. absurd cc)
is_versions MetadataApi = inr (λ e. absurd cc)
is_versions VersionsApi = inl refl

abbrev Either : List ℕ → Type 0
Either body = ((r : Request) × IsRequest body r) ⊎ ((w : WireFault) × IsRefused body w)

-- the header that fields of the header's layout are
pub record HeadOf (body : List ℕ) : Type 0 where
  pub key : ℤ
  pub version : ℤ
  pub has : HasHead body key version

head_of : (body : List ℕ) (fs : List Field) (rest : List ℕ) → AreOf head_layout fs → body ≡ fields fs ++ rest → HeadOf body
head_of body fs rest are e =
    let key = first_of INT16 (INT16 ⨾ INT32 ⨾ End) 0 are.named fs are.lead in
    let version = first_of INT16 (INT32 ⨾ End) 0 are.named key.others key.lead in
    let correlation = first_of INT32 End 0 are.named version.others version.lead in
    let whole : fs ≡ head key.is.0 version.is.0 correlation.is.0 =
    key.parts ∙ ap (λ (f : Field). f ∷ key.others) key.is.1
    ∙ ap (λ (gs : List Field). Int16 key.is.0 ∷ gs) (version.parts ∙ ap (λ (f : Field). f ∷ version.others) version.is.1
    ∙ ap (λ (gs : List Field). Int16 version.is.0 ∷ gs) (correlation.parts ∙ ap (λ (f : Field). f ∷ correlation.others) correlation.is.1
    ∙ ap (λ (gs : List Field). Int32 correlation.is.0 ∷ gs) (none correlation.others correlation.lead))) in
    record {
      key = key.is.0;
      version = version.is.0;
      has = record {
        correlation = correlation.is.0;
        fits = (subst FitsField key.is.1 key.fits, (subst FitsField version.is.1 version.fits, (subst FitsField correlation.is.1 correlation.fits, tt)));
        rest = rest;
        parts = e ∙ ap (λ (gs : List Field). fields gs ++ rest) whole;
      };
    }
  where
    none : (gs : List Field) → LeadTo End 0 gs End are.named → gs ≡ []
    none [] h = refl
    none (g ∷ gs) h = absurd h.0

-- the request whose fields these are
pub record RequestOf (api : Api) (version : ℤ) (fs : List Field) : Type 0 where
  pub request : Request
  pub whole : fs ≡ request_fields request
  pub asked : api_of request.ask ≡ api
  pub version_is : version_of request.ask ≡ version
  pub fitting : AllFitVersion request.ask

one_version : (api : Api) (version : ℤ) → is_read_in api version ≡ true → HasOneVersion api version
one_version ProduceApi version read = tt
one_version FetchApi version read = tt
one_version MetadataApi (pos n) read =
    let both = and_parts (leb 1 n) (leb n 1) read in
    let alone : n ≡ 1 = omega (arith, leb-true 1 n both.0, leb-true n 1 both.1) in
    ap pos alone
one_version MetadataApi (negsuc n) read = absurd (true≢false (sym read))
one_version VersionsApi version read = tt

request_of : (api : Api) (version correlation : ℤ) (fs : List Field) (named : ℕ) → is_read_in api version ≡ true → LeadTo (NULLABLE_STRING ⨾ ask_layout api version) 0 fs End named → (all : List Field)
    → all ≡ head (key_of_api api) version correlation ++ fs → RequestOf api version all
request_of api version correlation fs named read lead all is =
    let client = first_of NULLABLE_STRING (ask_layout api version) 0 named fs lead in
    let asked = ask_of_fields api version named client.others (one_version api version read) client.lead in
    let request : Request = record { correlation = correlation; client = client.is.0; ask = asked.ask } in
    let behind : fs ≡ NullableString client.is.0 ∷ ask_fields asked.ask = client.parts ∙ ap (λ (f : Field). f ∷ client.others) client.is.1 ∙ ap (λ (gs : List Field). NullableString client.is.0 ∷ gs) asked.parts in
    record {
      request = request;
      whole = is ∙ ap (λ (gs : List Field). head (key_of_api api) version correlation ++ gs) behind
          ∙ ap (λ (k : ℤ). head k version correlation ++ NullableString client.is.0 ∷ ask_fields asked.ask) (ap key_of_api (sym asked.asked))
          ∙ ap (λ (v : ℤ). head (key_of_api (api_of asked.ask)) v correlation ++ NullableString client.is.0 ∷ ask_fields asked.ask) (sym asked.version_is);
      asked = asked.asked;
      version_is = asked.version_is;
      fitting = asked.fitting;
    }

-- the fields after the header
pub record Parted (behind : Layout) (fs : List Field) : Type 0 where
  pub correlation : ℤ
  pub others : List Field
  pub named : ℕ
  pub lead : LeadTo behind 0 others End named
  pub key : ℤ
  pub version : ℤ
  pub parts : fs ≡ head key version correlation ++ others
  pub fits : AllFit (head key version correlation)

parted : (behind : Layout) (fs : List Field) → AreOf (INT16 ⨾ INT16 ⨾ INT32 ⨾ behind) fs → Parted behind fs
parted behind fs are =
    let key = first_of INT16 (INT16 ⨾ INT32 ⨾ behind) 0 are.named fs are.lead in
    let version = first_of INT16 (INT32 ⨾ behind) 0 are.named key.others key.lead in
    let correlation = first_of INT32 behind 0 are.named version.others version.lead in
    record {
      correlation = correlation.is.0;
      others = correlation.others;
      named = are.named;
      lead = correlation.lead;
      key = key.is.0;
      version = version.is.0;
      parts = key.parts ∙ ap (λ (f : Field). f ∷ key.others) key.is.1
          ∙ ap (λ (gs : List Field). Int16 key.is.0 ∷ gs) (version.parts ∙ ap (λ (f : Field). f ∷ version.others) version.is.1
          ∙ ap (λ (gs : List Field). Int16 version.is.0 ∷ gs) (correlation.parts ∙ ap (λ (f : Field). f ∷ correlation.others) correlation.is.1));
      fits = (subst FitsField key.is.1 key.fits, (subst FitsField version.is.1 version.fits, (subst FitsField correlation.is.1 correlation.fits, tt)));
    }

found : (body : List ℕ) (api : Api) (version : ℤ) → is_read_in api version ≡ true → HasHead body (key_of_api api) version → (fs : List Field) → AreOf (request_layout api version) fs → body ≡ fields fs → RequestOf api version fs
found body api version read front fs are e =
    let p = parted (NULLABLE_STRING ⨾ ask_layout api version) fs are in
    let mine : HasHead body p.key p.version = record { correlation = p.correlation; fits = p.fits; rest = fields p.others; parts = e ∙ ap fields p.parts ∙ fields-append (head p.key p.version p.correlation) p.others } in
    let same = head_once body p.key p.version (key_of_api api) version mine front in
    request_of api version p.correlation p.others p.named read p.lead fs
    (p.parts ∙ ap (λ (k : ℤ). head k p.version p.correlation ++ p.others) same.api ∙ ap (λ (v : ℤ). head (key_of_api api) v p.correlation ++ p.others) same.version_same)

spelled_or_twice : (body : List ℕ) (r : Request) → IsSpelledOut body r → Either body
spelled_or_twice body r h = by_search (repeat_after [] (mentions_of r.ask)) refl
  where
    by_search : (m : Option Mention) → repeat_after [] (mentions_of r.ask) ≡ m → Either body
    by_search None e = inl (r, inl (record { whole = h; once = no_two r.ask e }))
    by_search (Some m) e = inr (_, NamedTwice r h m (first_repeat_of (mentions_of r.ask) m e))

in_version : (body : List ℕ) (api : Api) (version : ℤ) → is_read_in api version ≡ true → IsBytes body → HasHead body (key_of_api api) version → Either body
in_version body api version read bytes front = by_reading (fields_or_fault (request_layout api version) body bytes)
  where
    by_rest : (fs : List Field) (rest : List ℕ) → AreOf (request_layout api version) fs → body ≡ fields fs ++ rest → Either body
    by_rest fs (b ∷ rest) are e = inr (_, MoreBytes api read front fs are (b ∷ rest) (λ none. absurd cc) e)
    by_rest fs [] are e =
        let whole : body ≡ fields fs = e ∙ append-nil (fields fs) in
        let r = found body api version read front fs are whole in
        let here = subst (AreOf (request_layout api version)) r.whole are in
        let there = subst (λ (v : ℤ). AreOf (request_layout (api_of r.request.ask) v) (request_fields r.request)) (sym r.version_is) (subst (λ (a : Api). AreOf (request_layout a version) (request_fields r.request)) (sym r.asked) here) in
        let known = subst (λ (v : ℤ). is_read_in (api_of r.request.ask) v ≡ true) (sym r.version_is) (subst (λ (a : Api). is_read_in a version ≡ true) (sym r.asked) read) in
        spelled_or_twice body r.request (record { spelled = whole ∙ ap fields r.whole; version = known; laid_out = there; fitting = r.fitting })

    by_reading : ((fs : List Field) × (rest : List ℕ) × AreOf (request_layout api version) fs × (body ≡ fields fs ++ rest)) ⊎ ((why : WireFault) × IsFirstFault (request_layout api version) body why) → Either body
    by_reading (inl is) = by_rest is.0 is.1 is.2 is.3
    by_reading (inr stopped) = inr (stopped.0, NoField api read front stopped.1)

pub other_request : (body : List ℕ) (key version : ℤ) → key ≡ key_of_api VersionsApi → is_read_in VersionsApi version ≡ false → (h : HasHead body key version) → IsOtherVersion body (record { correlation = h.correlation; client = None; ask = Versions version })
other_request body key version is other h =
    let heads : head key version h.correlation ≡ head (key_of_api VersionsApi) version h.correlation = ap (λ (k : ℤ). head k version h.correlation) is in
    record { version = version; asked = refl; other = other; nobody = refl; fits = subst AllFit heads h.fits; rest = h.rest; spelled = h.parts ∙ ap (λ (fs : List Field). fields fs ++ h.rest) heads }

with_head : (body : List ℕ) (key version : ℤ) → IsBytes body → HasHead body key version → Either body
with_head body key version bytes front = by_api (api_or_none key)
  where
    other_version : (api : Api) → key ≡ key_of_api api → is_read_in api version ≡ false → (api ≡ VersionsApi) ⊎ (api ≢ VersionsApi) → Either body
    other_version api is other (inl versions) =
        inl (_, inr (other_request body key version (is ∙ ap key_of_api versions) (subst (λ (a : Api). is_read_in a version ≡ false) versions other) front))
    other_version api is other (inr known) = inr (_, NoVersion front api is other known)

    by_version : (api : Api) → key ≡ key_of_api api → (read : Bool) → is_read_in api version ≡ read → Either body
    by_version api is true e = in_version body api version e bytes (subst (λ (k : ℤ). HasHead body k version) is front)
    by_version api is false e = other_version api is e (is_versions api)

    by_api : ((api : Api) × (key ≡ key_of_api api)) ⊎ ((api : Api) → key ≢ key_of_api api) → Either body
    by_api (inl known) = by_version known.0 known.1 (is_read_in known.0 version) refl
    by_api (inr none) = inr (_, NoApi front none)

pub request_or_refusal : (body : List ℕ) → IsBytes body → Either body
request_or_refusal body bytes = by_reading (fields_or_fault head_layout body bytes)
  where
    by_reading : ((fs : List Field) × (rest : List ℕ) × AreOf head_layout fs × (body ≡ fields fs ++ rest)) ⊎ ((why : WireFault) × IsFirstFault head_layout body why) → Either body
    by_reading (inl read) = let h = head_of body read.0 read.1 read.2 read.3 in with_head body h.key h.version bytes h.has
    by_reading (inr stopped) = inr (stopped.0, NoHead stopped.1)
