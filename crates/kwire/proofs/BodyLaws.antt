-- What the code reads of a body is a request, or why there is none.
use Rattle.std.proofs.Common.{◌≡◌, ◌≢◌, ◌⊎◌, ℕ, true, false, eqb, ℤ, List, [], ◌∷◌, ◌++◌, length, Option, Some, None, Result, Ok, Err, refl, sym, ap, subst, ◌∙◌, arith, inl, inr}
use Rattle.std.specs.Prelude.{AllPairs, FitsSigned, IfErr, IfOk, IsErrAnd}
use Rattle.std.specs.Int.{w16, w32}
use mir.Val.{of_z, to_z}
use Rattle.std.proofs.lemmas.Int.{to_z-of_z}
use Rattle.std.proofs.lemmas.Bool.{eqb-true, true≢false}
use Rattle.std.proofs.lemmas.List.{append-nil}
use Rattle.kbytes.specs.declared.fault.ByteFault.{ByteFault}
use Rattle.kbytes.specs.Octets.{IsBytes}
use Rattle.kbytes.specs.Cursor.{Cursor, rest_of}
use Rattle.kbytes.specs.Reading.{◌>>=◌, sized_at, array_at}
use Rattle.kbytes.specs.Field.{Field, NullableString, Array, fields}
use Rattle.kwire.specs.declared.api.Api.{Api}
use Rattle.kwire.specs.declared.api.Api.TheVariants.{Produce as ProduceApi, Fetch as FetchApi, Metadata as MetadataApi, Versions as VersionsApi}
use Rattle.kwire.specs.declared.frame.WireFault.{WireFault}
use Rattle.kwire.specs.declared.frame.WireFault.TheVariants.{BadRequest, UnknownApi, Unsupported, TooMany, Twice, NoMemory}
use Rattle.kwire.specs.declared.request.Request.{Request}
use Rattle.kwire.specs.Layouts.{NULLABLE_STRING, Layout, End, ◌⨾◌, followed_by, AreOf}
use Rattle.kwire.specs.Apis.{key_of_api, is_read_in, head_layout, request_layout, ask_layout, name_layout}
use Rattle.kwire.specs.IsRequest.{IsSpelledOut, IsRequest, api_of, version_of, head, ask_fields, request_fields, named_of}
use Rattle.kwire.specs.Refusal.{HasHead, IsRefused, NoHead, NoApi, NoVersion, NoField, MoreBytes, NamedTwice}
use Rattle.kwire.specs.Reading.{place_of_fault, ReadFields, wire, within, times_at, layout_at, fields_at, IsFaultOf, IsReadBody, IsNoBody}
use Rattle.kwire.proofs.LayoutLaws.{Went, Stopped, Sound, sound, went_both, stopped_behind, covers_bytes}
use Rattle.kwire.specs.declared.request.Ask.TheVariants.{Versions}
use Rattle.kwire.proofs.RequestLaws.{other_request}
use Rattle.kwire.proofs.OneReading.{start_of, read_are_of, stopped_first}

abbrev pub body_layout : Api → ℤ → Layout
body_layout api version = NULLABLE_STRING ⨾ ask_layout api version

-- ---- the fields alone

abbrev pub ReadAll : Type 0
ReadAll = Result (List Field × Cursor) WireFault

abbrev alone : ReadFields → ReadAll
alone read = read >>= λ r. Ok (r.0, r.2)

abbrev pub all : List Field → Cursor → ReadAll
all fs d = Ok (fs, d)

abbrev none_read : WireFault → ReadAll
none_read why = Err why

same_all : (fs gs : List Field) (c d : Cursor) → all fs c ≡ all gs d → (fs ≡ gs) × (c ≡ d)
same_all fs gs c d e =
    let pair : List Field → Cursor → List Field × Cursor = λ a b. (a, b) in
    let pairs : pair fs c ≡ pair gs d = cc in
    (ap (λ (p : List Field × Cursor). p.0) pairs, ap (λ (p : List Field × Cursor). p.1) pairs)

same_why : (v w : WireFault) → none_read v ≡ none_read w → v ≡ w
same_why v w e = cc

pub fields_went : (layout : Layout) (c d : Cursor) (fs : List Field) → IsBytes c.bytes → fields_at layout c ≡ Ok (fs, d) → (named : ℕ) × Went layout 0 c fs named d
fields_went layout c d fs bytes e = by_reading (layout_at layout 0 c) (sound layout 0 c bytes) e
  where
    by_reading : (read : ReadFields) → Sound layout 0 c read → alone read ≡ all fs d → (named : ℕ) × Went layout 0 c fs named d
    by_reading (Ok (gs, named, x)) went is =
        let same = same_all gs fs x d is in
        (named, subst (λ (hs : List Field). Went layout 0 c hs named d) same.0 (subst (λ (y : Cursor). Went layout 0 c gs named y) same.1 went))
    by_reading (Err why) stopped is = let other : none_read why ≡ all fs d = is in absurd cc

pub fields_stopped : (layout : Layout) (c : Cursor) (why : WireFault) → IsBytes c.bytes → fields_at layout c ≡ Err why → Stopped layout 0 c why
fields_stopped layout c why bytes e = by_reading (layout_at layout 0 c) (sound layout 0 c bytes) e
  where
    by_reading : (read : ReadFields) → Sound layout 0 c read → alone read ≡ none_read why → Stopped layout 0 c why
    by_reading (Ok (gs, named, x)) went is = let other : all gs x ≡ none_read why = is in absurd cc
    by_reading (Err w) stopped is = subst (Stopped layout 0 c) (same_why w why is) stopped

-- ---- the client's id, and what is asked

abbrev pushed : Field → ReadFields → ReadFields
pushed f read = read >>= λ others. Ok (f ∷ others.0, others.1, others.2)

push_all : (f : Field) (read : ReadFields) (fs : List Field) (e : Cursor) → alone read ≡ all fs e → alone (pushed f read) ≡ all (f ∷ fs) e
push_all f (Ok (gs, named, x)) fs e is = let same = same_all gs fs x e is in ap (λ (hs : List Field). all (f ∷ hs) x) same.0 ∙ ap (all (f ∷ fs)) same.1
push_all f (Err why) fs e is = let other : none_read why ≡ all fs e = is in absurd cc

push_none : (f : Field) (read : ReadFields) (why : WireFault) → alone read ≡ none_read why → alone (pushed f read) ≡ none_read why
push_none f (Ok (gs, named, x)) why is = let other : all gs x ≡ none_read why = is in absurd cc
push_none f (Err w) why is = is

abbrev client_first : Api → ℤ → Result (Option (List ℕ) × Cursor) ByteFault → ReadAll
client_first api version read = alone (wire NullableString read >>= λ first. layout_at (ask_layout api version) 0 first.1 >>= λ others. Ok (first.0 ∷ others.0, others.1, others.2))

pub client_then : (api : Api) (version : ℤ) (c d e : Cursor) (client : Option (List ℕ)) (fs : List Field) → sized_at w16 c ≡ Ok (client, d) → fields_at (ask_layout api version) d ≡ Ok (fs, e) → fields_at (body_layout api version) c ≡ Ok (NullableString client ∷ fs, e)
unfolding layout_at
client_then api version c d e client fs one two = ap (client_first api version) one ∙ push_all (NullableString client) (layout_at (ask_layout api version) 0 d) fs e two

pub client_refused : (api : Api) (version : ℤ) (c : Cursor) (fault : ByteFault) → sized_at w16 c ≡ Err fault → fields_at (body_layout api version) c ≡ Err (BadRequest (place_of_fault fault))
unfolding layout_at
client_refused api version c fault one = ap (client_first api version) one

pub ask_refused : (api : Api) (version : ℤ) (c d : Cursor) (client : Option (List ℕ)) (why : WireFault) → sized_at w16 c ≡ Ok (client, d) → fields_at (ask_layout api version) d ≡ Err why → fields_at (body_layout api version) c ≡ Err why
unfolding layout_at
ask_refused api version c d client why one two = ap (client_first api version) one ∙ push_none (NullableString client) (layout_at (ask_layout api version) 0 d) why two

pub fault_is : {X : Type 0} (read : Result X WireFault) (why : WireFault) → IsFaultOf read why → why ≢ NoMemory → read ≡ Err why
fault_is read (BadRequest at) h other = h
fault_is read (UnknownApi key) h other = h
fault_is read (Unsupported key version) h other = h
fault_is read (TooMany count) h other = h
fault_is read (Twice topic partition) h other = h
fault_is read NoMemory h other = absurd (other refl)

-- ---- the names of metadata

pub names_read : (version : ℤ) (c d e : Cursor) (count named : ℕ) (fs : List Field) → array_at c ≡ Ok (Some count, d) → within count ≡ Ok tt → times_at (layout_at name_layout) (layout_at End) count 0 d ≡ Ok (fs, named, e)
    → fields_at (ask_layout MetadataApi version) c ≡ Ok (Array (Some count) ∷ fs, e)
unfolding layout_at
names_read version c d e count named fs one two three = rw (one, two, three) refl

pub null_read : (version : ℤ) (c d : Cursor) → array_at c ≡ Ok (None, d) → fields_at (ask_layout MetadataApi version) c ≡ Ok (Array None ∷ [], d)
unfolding layout_at times_at
null_read version c d one = rw one refl

-- ---- the header

pub record HeadRead (body : List ℕ) (key version correlation : ℤ) (d : Cursor) : Type 0 where
  pub went : Went head_layout 0 (start_of body) (head key version correlation) 0 d
  pub front : HasHead body key version
  pub same : front.correlation ≡ correlation

pub head_read : (body : List ℕ) (c d : Cursor) (key version correlation : ℤ) → IsBytes body → c.bytes ≡ body → c.at ≡ 0 → fields_at head_layout c ≡ Ok (head key version correlation, d) → HeadRead body key version correlation d
unfolding followed_by
head_read body c d key version correlation bytes bytes_is at_is e =
    let start : c ≡ start_of body = ap (λ (bs : List ℕ). record { bytes = bs; at = c.at }) bytes_is ∙ ap (λ (n : ℕ). record { bytes = body; at = n }) at_is in
    let there : fields_at head_layout (start_of body) ≡ Ok (head key version correlation, d) = ap (fields_at head_layout) (sym start) ∙ e in
    let went = fields_went head_layout (start_of body) d (head key version correlation) bytes there in
    let lead = went.1.leads End in
    record {
      went = subst (λ (n : ℕ). Went head_layout 0 (start_of body) (head key version correlation) n d) (sym lead.1.1.1.1) went.1;
      front = record { correlation = correlation; fits = (lead.0.1, (lead.1.0.1, (lead.1.1.0.1, tt))); rest = rest_of d; parts = went.1.covers.parts };
      same = refl;
    }

-- what is left, by the test of its length
pub nothing_left : (xs : List ℕ) → true ≡ eqb (length xs) 0 → xs ≡ []
nothing_left [] e = refl
nothing_left (x ∷ xs) e = absurd (omega (arith, eqb-true (length (x ∷ xs)) 0 (sym e)))

pub something_left : (xs : List ℕ) → false ≡ eqb (length xs) 0 → xs ≢ []
something_left [] e none = true≢false (sym e)
something_left (x ∷ xs) e none = absurd cc

-- ---- after the header

module _ (body : List ℕ) (bytes : IsBytes body) (api : Api) (version : ℤ) (known : is_read_in api version ≡ true) (correlation : ℤ) (d : Cursor) (h : HeadRead body (key_of_api api) version correlation d) where
  abbrev front_fields : List Field
  front_fields = head (key_of_api api) version correlation

  there_bytes : IsBytes d.bytes
  there_bytes = covers_bytes (start_of body) d front_fields h.went.covers bytes

  -- fields that were read after the header are those of a request
  all_went : (gs : List Field) (place : Cursor) → fields_at (body_layout api version) d ≡ Ok (gs, place) → (named : ℕ) × Went (request_layout api version) 0 (start_of body) (front_fields ++ gs) named place
  unfolding followed_by
  all_went gs place e =
      let went = fields_went (body_layout api version) d place gs there_bytes e in
      (went.0, went_both head_layout (body_layout api version) 0 0 went.0 (start_of body) d place front_fields gs h.went went.1)

  all_are : (gs : List Field) (place : Cursor) → fields_at (body_layout api version) d ≡ Ok (gs, place) → AreOf (request_layout api version) (front_fields ++ gs)
  all_are gs place e = let went = all_went gs place e in read_are_of (request_layout api version) went.0 (start_of body) place (front_fields ++ gs) went.1

  spelled_so : (request : Request) → request.correlation ≡ correlation → IsReadBody api version d request → IsSpelledOut body request
  spelled_so request same r =
      let gs = NullableString request.client ∷ ask_fields request.ask in
      let went = all_went gs r.place r.read in
      let are = all_are gs r.place r.read in
      let mine : front_fields ++ gs ≡ request_fields request =
      ap (λ (a : Api). head (key_of_api a) version correlation ++ gs) (sym r.asked)
      ∙ ap (λ (v : ℤ). head (key_of_api (api_of request.ask)) v correlation ++ gs) (sym r.version_is)
      ∙ ap (λ (z : ℤ). head (key_of_api (api_of request.ask)) (version_of request.ask) z ++ gs) (sym same) in
      record {
        spelled = went.1.covers.parts ∙ ap (λ (t : List ℕ). fields (front_fields ++ gs) ++ t) r.over ∙ append-nil (fields (front_fields ++ gs)) ∙ ap fields mine;
        version = subst (λ (v : ℤ). is_read_in (api_of request.ask) v ≡ true) (sym r.version_is) (subst (λ (a : Api). is_read_in a version ≡ true) (sym r.asked) known);
        laid_out = subst (λ (v : ℤ). AreOf (request_layout (api_of request.ask) v) (request_fields request)) (sym r.version_is) (subst (λ (a : Api). AreOf (request_layout a version) (request_fields request)) (sym r.asked) (subst (AreOf (request_layout api version)) mine are));
        fitting = r.fitting;
      }

  pub read_whole : (request : Request) → request.correlation ≡ correlation → IsReadBody api version d request → AllPairs (λ a b. a ≢ b) (named_of request.ask) → IsRequest body request
  read_whole request same r once = inl (record { whole = spelled_so request same r; once = once })

  pub read_refused : (why : WireFault) → IsNoBody api version correlation d why → IsRefused body why
  unfolding followed_by
  read_refused why (inl e) =
      NoField api known h.front (stopped_first (request_layout api version) body why (stopped_behind head_layout (body_layout api version) 0 0 (start_of body) d front_fields why h.went (fields_stopped (body_layout api version) d why there_bytes e)))
  read_refused why (inr (inl short)) =
      let went = all_went short.all short.place short.read in
      let at : short.place.at ≡ length (fields (front_fields ++ short.all)) = ap (λ (c : Cursor). c.at) went.1.covers.at ∙ omega arith in
      subst (IsRefused body) (ap BadRequest (sym at) ∙ sym short.told)
      (MoreBytes api known h.front (front_fields ++ short.all) (all_are short.all short.place short.read) (rest_of short.place) short.more went.1.covers.parts)
  read_refused why (inr (inr twice)) =
      subst (IsRefused body) (sym twice.told) (NamedTwice twice.request (spelled_so twice.request twice.same twice.read) twice.mention twice.repeat)

-- ---- what holds of a fault

pub if_err : {X : Type 0} (r : Result X WireFault) (P Q : WireFault → Type 0) → ((why : WireFault) → P why → Q why) → IfErr r P → IfErr r Q
if_err (Ok x) P Q f h = tt
if_err (Err why) P Q f h = f why h

-- a fault that was handed on
pub err_with : {X : Type 0} (r : Result X WireFault) (e : WireFault) (P : WireFault → Type 0) → IsErrAnd r (λ f. f ≡ e) → P e → IfErr r P
err_with (Ok x) e P is h = tt
err_with (Err f) e P is h = subst P (sym is) h

pub if_ok : {X : Type 0} (r : Result X WireFault) (P Q R S : X → Type 0) → ((x : X) → P x → Q x → R x → S x) → IfOk r P → IfOk r Q → IfOk r R → IfOk r S
if_ok (Ok x) P Q R S f h k l = f x h k l
if_ok (Err why) P Q R S f h k l = tt

-- ---- headers as the code knows them

pub head_refused : (body : List ℕ) (c : Cursor) (why : WireFault) → IsBytes body → c.bytes ≡ body → c.at ≡ 0 → fields_at head_layout c ≡ Err why → IsRefused body why
head_refused body c why bytes bytes_is at_is e =
    let start : c ≡ start_of body = ap (λ (bs : List ℕ). record { bytes = bs; at = c.at }) bytes_is ∙ ap (λ (n : ℕ). record { bytes = body; at = n }) at_is in
    NoHead (stopped_first head_layout body why (fields_stopped head_layout (start_of body) why bytes (ap (fields_at head_layout) (sym start) ∙ e)))

pub head_known : (body : List ℕ) (key version correlation : ℤ) (d : Cursor) (api : Api) → HeadRead body key version correlation d → key ≡ key_of_api api
    → HeadRead body (key_of_api api) version correlation d
head_known body key version correlation d api h key_is = subst (λ (k : ℤ). HeadRead body k version correlation d) key_is h

pub key_back : (body : List ℕ) (key version correlation : ℤ) (d : Cursor) → HeadRead body key version correlation d → to_z w16 (of_z w16 key) ≡ key
key_back body key version correlation d h = to_z-of_z w16 key h.front.fits.0

pub version_back : (body : List ℕ) (key version correlation : ℤ) (d : Cursor) → HeadRead body key version correlation d → to_z w16 (of_z w16 version) ≡ version
version_back body key version correlation d h = to_z-of_z w16 version h.front.fits.1.0

pub no_api : (body : List ℕ) (key version correlation : ℤ) (d : Cursor) → HeadRead body key version correlation d → ((api : Api) → to_z w16 (of_z w16 key) ≢ key_of_api api) → IsRefused body (UnknownApi (to_z w16 (of_z w16 key)))
no_api body key version correlation d h none =
    let back = key_back body key version correlation d h in
    subst (λ (k : ℤ). IsRefused body (UnknownApi k)) (sym back) (NoApi h.front (subst (λ (k : ℤ). (api : Api) → k ≢ key_of_api api) back none))

pub no_version : (body : List ℕ) (key version correlation : ℤ) (d : Cursor) (api : Api) → HeadRead body key version correlation d → to_z w16 (of_z w16 key) ≡ key_of_api api → is_read_in api version ≡ false → api ≢ VersionsApi
    → IsRefused body (Unsupported (to_z w16 (of_z w16 key)) (to_z w16 (of_z w16 version)))
no_version body key version correlation d api h is other known =
    let back = key_back body key version correlation d h in
    subst (λ (v : ℤ). IsRefused body (Unsupported (to_z w16 (of_z w16 key)) v)) (sym (version_back body key version correlation d h))
    (subst (λ (k : ℤ). IsRefused body (Unsupported k version)) (sym back) (NoVersion h.front api (sym back ∙ is) other known))

pub other_version : (body : List ℕ) (key version correlation : ℤ) (d : Cursor) (api : Api) → HeadRead body key version correlation d → to_z w16 (of_z w16 key) ≡ key_of_api api → is_read_in api version ≡ false → api ≡ VersionsApi
    → IsRequest body (record { correlation = to_z w32 (of_z w32 correlation); client = None; ask = Versions (to_z w16 (of_z w16 version)) })
other_version body key version correlation d api h is other known =
    let correlation_is : to_z w32 (of_z w32 correlation) ≡ correlation = to_z-of_z w32 correlation (subst (FitsSigned w32) h.same h.front.fits.1.1.0) in
    let made : ℤ → ℤ → Request = λ z v. record { correlation = z; client = None; ask = Versions v } in
    let back = key_back body key version correlation d h in
    let there : IsRequest body (made h.front.correlation version) = inr (other_request body key version (sym back ∙ is ∙ ap key_of_api known) (subst (λ (a : Api). is_read_in a version ≡ false) known other) h.front) in
    subst (λ (v : ℤ). IsRequest body (made (to_z w32 (of_z w32 correlation)) v)) (sym (version_back body key version correlation d h))
    (subst (λ (z : ℤ). IsRequest body (made z version)) (h.same ∙ sym correlation_is) there)

pub not_versions : (api : Api) → (api ≡ ProduceApi) ⊎ (api ≡ FetchApi) ⊎ (api ≡ MetadataApi) → api ≢ VersionsApi
not_versions api (inl is) e = let other : ProduceApi ≡ VersionsApi = sym is ∙ e in absurd cc
not_versions api (inr (inl is)) e = let other : FetchApi ≡ VersionsApi = sym is ∙ e in absurd cc
not_versions api (inr (inr is)) e = let other : MetadataApi ≡ VersionsApi = sym is ∙ e in absurd cc
