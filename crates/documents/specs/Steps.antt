-- What the functions under the calls promise: parts of a call's answer, told what its texts say. A record that is told what a text says speaks only of calls whose text reads so, and leaves the answer open for others.
use Rattle.std.specs.Prelude.{Ok, Err, ⊤}
use Rattle.std.specs.Prelude.{Result}
use Rattle.std.specs.Prelude.{Option, Some, None}
use Rattle.std.specs.Prelude.{ℕ, suc, ◌+◌, ◌/◌, ◌%◌, ◌^◌, ◌≤◌, ◌<◌, ◌≡◌, List, [], ◌∷◌, ◌++◌, eqb, length, Bool, true, false, ◌&&◌}
use Rattle.limits.specs.Limits.{text_bytes, document_limit, last_serial}
use Rattle.limits.specs.declared.Refusal.{Refusal}
use Rattle.declarations.specs.Declarations.{is_malformed}
use Rattle.features.specs.Features.{feature_count}
use Rattle.origins.specs.Origins.{origin_of}
use Rattle.origins.specs.Origins.Origin.{fresh}
use Rattle.origins.specs.Origins.OriginSaid.{says_tuple}
use Rattle.origins.specs.Answers.{origin_as, tuple_in}
use Rattle.origins.specs.declared.TupleRange.{TupleRange}
use Rattle.decisions.specs.Decisions.Decision.{disabled}
use Rattle.decisions.specs.Policies.{question_in}
use Rattle.document_records.specs.Slots.{slot_policy, GoodSlot}
use Rattle.origins.specs.declared.OriginText.{OriginText}
use Rattle.origins.specs.declared.OriginText.TheVariants as said
use Rattle.containers.specs.Attributes.{Attributes}
use Rattle.document_model.specs.Model.{Text, Table as ModelTable, Identity, Document as ModelDocument, declared_by, is_good_origin, is_short, framed_load, refuse, load as load_of, outcome, framed_document, framed_identity}
use Rattle.document_table.specs.Layout.{count_in, last_in, serial_at, slot_number, slot_of, doc_at, docs_in, view, loaded_run}
use Rattle.document_table.specs.Tables.{Sound}
use Rattle.document_records.specs.declared.Frame.{Frame}
use Rattle.document_loads.specs.declared.NewDocument.{NewDocument}
use Rattle.document_loads.specs.Loads.{attributes_of}
use Rattle.document_loads.specs.Slots.{written, IsNewDocument}
use Rattle.documents.specs.declared.LoadedDocument.{LoadedDocument}
use Rattle.documents.specs.declared.FramePlace.{FramePlace}
use Rattle.documents.specs.Answers.{Valid, Loads}

-- bit n of a number
abbrev pub bit_at : ℕ → ℕ → Bool
bit_at m n = eqb (m / 2 ^ n % 2) 1

-- a tuple origin that is asked about, by its range, where the feature isn't Enabled at every origin
pub record AskedTuple (slot : List ℕ) (n : ℕ) (text : List ℕ) (r : TupleRange) : Type 0 where
  pub good : GoodSlot slot
  pub feature : n < feature_count
  pub says : origin_of text ≡ says_tuple (tuple_in text r)
  pub rest : question_in (slot_policy slot) n fresh ≡ disabled

-- an origin text that is none for a top-level load
abbrev pub is_bad_at_top : Option OriginText → Bool
is_bad_at_top (Some said.Empty) = true
is_bad_at_top (Some said.Null) = false
is_bad_at_top (Some (said.Tuple r)) = false
is_bad_at_top None = true

-- refusal 5: a sandboxed document with an origin text other than `null`
abbrev pub is_barred : Bool → Option OriginText → Bool
is_barred b (Some said.Empty) = b
is_barred b (Some said.Null) = false
is_barred b (Some (said.Tuple r)) = b
is_barred b None = b

-- room for one more, and a serial for it
pub record HasRoom (run : List ℕ) : Type 0 where
  pub sound : Sound run
  pub room : count_in run < document_limit
  pub left : last_in run < last_serial

-- refusals 6 and 7 of every load, or its serial
pub record IsRoom (run : List ℕ) (r : Result ℕ Refusal) : Type 0 where
  pub none : (n : Refusal) → r ≡ Err n → (m : Bool) (document : Identity → ModelDocument) (identity : ℕ → Identity) → load_of (view run) m document identity ≡ refuse n
  pub serial : (s : ℕ) → r ≡ Ok s → (s ≡ suc (last_in run)) × (count_in run < document_limit) × (last_in run < last_serial)

-- a document was written into the first free slot, and has the next serial
pub record Placed (before : List ℕ) (i : Identity) (inherited : ℕ) (h : Text) (after : List ℕ) : Type 0 where
  pub is : after ≡ loaded_run before (written (slot_of before (slot_number before (count_in before))) (record { identity = i; inherited = inherited; declared = declared_by h }) h)
  pub sound : Sound after
  pub docs : docs_in after ≡ docs_in before ++ (record { identity = i; inherited = inherited; declared = declared_by h } ∷ [])
  pub last : last_in after ≡ last_in before + 1

-- for every identity that the code's values describe, with the next serial and room for one more above
pub record Places (before : List ℕ) (d : NewDocument) (h : Text) (after : List ℕ) (r : LoadedDocument) : Type 0 where
  pub says : (i : Identity) (inherited : ℕ) → IsNewDocument i inherited d → i.serial ≡ suc (last_in before) → length i.above < document_limit → Placed before i inherited h after
  pub malformed : r.malformed ≡ is_malformed h

-- texts of a framed load that neither 4 nor 3 refuses
pub record GoodTexts (h o : Text) (a : Attributes) : Type 0 where
  pub short : is_short h && is_short a.allow && is_short a.sandbox ≡ true
  pub origin : is_good_origin (origin_of o) ≡ true
  pub src : is_good_origin (origin_of a.src) ≡ true

-- refusals 4 and 3 of every framed load with such texts, or that they are good
pub record AreTexts (h allow sandbox : List ℕ) (x y : Option OriginText) (r : Result ⊤ Refusal) : Type 0 where
  pub refuses : (n : Refusal) → r ≡ Err n → (s : ℕ) (o : Text) (a : Attributes) (t : ModelTable) → a.allow ≡ allow → a.sandbox ≡ sandbox → x ≡ origin_as (origin_of o) → y ≡ origin_as (origin_of a.src) → outcome (framed_load s h o a) t ≡ refuse n
  pub good : r ≡ Ok tt → (o : Text) (a : Attributes) → a.allow ≡ allow → a.sandbox ≡ sandbox → x ≡ origin_as (origin_of o) → y ≡ origin_as (origin_of a.src) → GoodTexts h o a

-- a document at the place; in a frame of it there is room for one more above; room for one more, and a serial
pub record HasPlace (run : List ℕ) (p : FramePlace) : Type 0 where
  pub has : HasRoom run
  pub place : p.container < count_in run
  pub above : suc (length (doc_at run p.container).identity.above) < document_limit

-- where a framed load goes: into a frame of the document there, with the next serial
pub record IsFramePlace (run : List ℕ) (s : ℕ) (h o : Text) (a : Attributes) (p : FramePlace) : Type 0 where
  pub has : HasPlace run p
  pub container : serial_at run p.container ≡ s
  pub serial : p.serial ≡ suc (last_in run)
  pub loads : outcome (framed_load s h o a) (view run) ≡ load_of (view run) (is_malformed h) (framed_document (doc_at run p.container) h a) (framed_identity (doc_at run p.container).identity a (origin_of o))

-- refusals 1, 5, 6 and 7 of every framed load with good texts and that sandbox attribute, or where it goes
pub record IsFrameRoom (run : List ℕ) (s : ℕ) (x : Option OriginText) (has : Bool) (sandbox : List ℕ) (r : Result FramePlace Refusal) : Type 0 where
  pub refuses : (n : Refusal) → r ≡ Err n → (h o : Text) (a : Attributes) → a.has_sandbox ≡ has → a.sandbox ≡ sandbox → x ≡ origin_as (origin_of o) → GoodTexts h o a → outcome (framed_load s h o a) (view run) ≡ refuse n
  pub places : (p : FramePlace) → r ≡ Ok p → (h o : Text) (a : Attributes) → a.has_sandbox ≡ has → a.sandbox ≡ sandbox → x ≡ origin_as (origin_of o) → GoodTexts h o a → IsFramePlace run s h o a p

-- every refusal of a framed load, or where it goes
pub record IsAdmitted (run : List ℕ) (s : ℕ) (x y : Option OriginText) (f : Frame) (h : List ℕ) (r : Result FramePlace Refusal) : Type 0 where
  pub refuses : (n : Refusal) → r ≡ Err n → (o : Text) → x ≡ origin_as (origin_of o) → y ≡ origin_as (origin_of f.src.now) → outcome (framed_load s h o (attributes_of f)) (view run) ≡ refuse n
  pub places : (p : FramePlace) → r ≡ Ok p → (o : Text) → x ≡ origin_as (origin_of o) → y ≡ origin_as (origin_of f.src.now) → IsFramePlace run s h o (attributes_of f) p × (length h ≤ text_bytes)

-- the load at a place where it goes
pub record LoadsAt (before : List ℕ) (p : FramePlace) (s : ℕ) (h o : Text) (a : Attributes) (after : List ℕ) (d : LoadedDocument) : Type 0 where
  pub says : Valid before → IsFramePlace before s h o a p → Loads (framed_load s h o a) before after (Ok d)
