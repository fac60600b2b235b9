-- 01, "The table of loaded documents": the rows of the refusals and their order, over the call and what the calls and answers before it tell. No table is spoken of.
use Rattle.std.specs.Prelude.{ℕ, ◌<◌, ◌≤◌, ◌≡◌, true, List, length}
use Rattle.limits.specs.Limits.{text_bytes, document_limit, last_serial}
use Rattle.features.specs.Features.{feature_count}
use Rattle.origins.specs.Origins.{origin_of}
use Rattle.origins.specs.Origins.OriginSaid.{says_empty, says_null, no_origin}
use Rattle.containers.specs.Sandboxes.{sandboxes}
use Rattle.containers.specs.Attributes.{Attributes}
use Rattle.document_model.specs.Model.{Text, Call, top_load, framed_load, unload, question, enabled_features, listing, forecast_of, Answer}
use Rattle.document_model.specs.History.{Event, Happened, Gave, LoadedIn, SandboxedIn, AreLoaded, AreBeneath}

-- "Order: 4 for input texts, 3 for the document's or question's origin, 3 for src, 2, 1, 5, 6, 7, 8, 4 for output, 9."
-- `not_dictionary` and `output_long` are tidying's rows: they hold of no call on a table
pub data Row : Type 0 where
  input_long bad_origin bad_src no_feature not_loaded sandboxed full spent not_dictionary output_long small : Row

-- the row's place in that order
abbrev pub place : Row → ℕ
place input_long = 0
place bad_origin = 1
place bad_src = 2
place no_feature = 3
place not_loaded = 4
place sandboxed = 5
place full = 6
place spent = 7
place not_dictionary = 8
place output_long = 9
place small = 10

-- "No.": the row's number in document 01's table
abbrev pub refusal_of : Row → ℕ
refusal_of input_long = 4
refusal_of bad_origin = 3
refusal_of bad_src = 3
refusal_of no_feature = 2
refusal_of not_loaded = 1
refusal_of sandboxed = 5
refusal_of full = 6
refusal_of spent = 7
refusal_of not_dictionary = 8
refusal_of output_long = 4
refusal_of small = 9

-- "header, allow or sandbox text"
pub data Input : Call → Text → Type 0 where
  top_header : {h o : Text} → Input (top_load h o) h
  framed_header : {c : ℕ} {h o : Text} {a : Attributes} → Input (framed_load c h o a) h
  framed_allow : {c : ℕ} {h o : Text} {a : Attributes} → Input (framed_load c h o a) a.allow
  framed_sandbox : {c : ℕ} {h o : Text} {a : Attributes} → Input (framed_load c h o a) a.sandbox
  forecast_allow : {c : ℕ} {a : Attributes} → Input (forecast_of c a) a.allow
  forecast_sandbox : {c : ℕ} {a : Attributes} → Input (forecast_of c a) a.sandbox

-- the call names a serial
pub data Names : Call → ℕ → Type 0 where
  framed_names : {c : ℕ} {h o : Text} {a : Attributes} → Names (framed_load c h o a) c
  unload_names : {s : ℕ} → Names (unload s) s
  question_names : {s f : ℕ} {o : Text} → Names (question s f o) s
  enabled_names : {s : ℕ} → Names (enabled_features s) s
  listing_names : {s : ℕ} {run : List ℕ} → Names (listing s run) s
  forecast_names : {c : ℕ} {a : Attributes} → Names (forecast_of c a) c

pub data IsLoad : Call → Type 0 where
  is_top : {h o : Text} → IsLoad (top_load h o)
  is_framed : {c : ℕ} {h o : Text} {a : Attributes} → IsLoad (framed_load c h o a)

-- the condition of a row
pub data Holds (es : List Event) : Call → Row → Type 0 where
  -- 4: "header, allow or sandbox text over" the limit
  long : {c : Call} (x : Text) → Input c x → text_bytes < length x → Holds es c input_long
  -- 3: "an origin text outside the grammar, or empty for a top-level load"
  top_bad : {h o : Text} → origin_of o ≡ no_origin → Holds es (top_load h o) bad_origin
  top_empty : {h o : Text} → origin_of o ≡ says_empty → Holds es (top_load h o) bad_origin
  framed_bad : {c : ℕ} {h o : Text} {a : Attributes} → origin_of o ≡ no_origin → Holds es (framed_load c h o a) bad_origin
  question_bad : {s f : ℕ} {o : Text} → origin_of o ≡ no_origin → Holds es (question s f o) bad_origin
  -- "3 for src"
  framed_src : {c : ℕ} {h o : Text} {a : Attributes} → origin_of a.src ≡ no_origin → Holds es (framed_load c h o a) bad_src
  forecast_src : {c : ℕ} {a : Attributes} → origin_of a.src ≡ no_origin → Holds es (forecast_of c a) bad_src
  -- 2: "number over 16"
  over_sixteen : {s f : ℕ} {o : Text} → feature_count ≤ f → Holds es (question s f o) no_feature
  -- 1: "the serial names no loaded document"
  closed : {c : Call} (s : ℕ) → Names c s → (LoadedIn es s → ⊥) → Holds es c not_loaded
  -- 5: "a sandboxed load whose origin text isn't `null`"
  in_container : {c : ℕ} {h o : Text} {a : Attributes} → SandboxedIn es c → (origin_of o ≡ says_null → ⊥) → Holds es (framed_load c h o a) sandboxed
  in_attribute : {c : ℕ} {h o : Text} {a : Attributes} → sandboxes a ≡ true → (origin_of o ≡ says_null → ⊥) → Holds es (framed_load c h o a) sandboxed
  -- 6: "a load, while" as many as can be "are loaded"
  all_loaded : {c : Call} (l : List ℕ) → IsLoad c → AreLoaded es l → length l ≡ document_limit → Holds es c full
  -- 7: "a load, after serial 4,294,967,295 was given"
  all_given : {c k : Call} {a : Answer} → IsLoad c → Happened k a es → Gave k a last_serial → Holds es c spent
  -- 9: "the lent run is too short for the whole output"
  short_run : {s : ℕ} {run : List ℕ} (l : List ℕ) → AreBeneath es s l → length run < length l → Holds es (listing s run) small

-- "Given exactly when (and no earlier row of the order applies)"
pub record First (es : List Event) (c : Call) (r : Row) : Type 0 where
  pub holds : Holds es c r
  pub none_before : (q : Row) → place q < place r → Holds es c q → ⊥
