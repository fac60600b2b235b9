-- 01, "The table of loaded documents": the table, the calls on it, and what a list of calls answers.
use Rattle.std.specs.Prelude.{ℕ, zero, suc, Bool, true, false, not, ◌&&◌, ◌||◌, List, [], ◌∷◌, ◌++◌, leb, ltb, eqb, length, drop, get_or}
use Rattle.std.specs.Prelude.{Option, Some, None}
use Rattle.ascii.specs.Bytes.{pick}
use Rattle.limits.specs.Limits.{text_bytes, document_limit, last_serial}
use Rattle.limits.specs.Refusals.{refusal_number}
use Rattle.limits.specs.declared.Refusal.{Refusal}
use Rattle.limits.specs.declared.Refusal.TheVariants.{NotLoaded, NoSuchFeature, BadOrigin, TooLong, Sandbox, Full, Spent, Small}
use Rattle.features.specs.Features.{feature_count}
use Rattle.origins.specs.Origins.{Origin, OriginSaid, origin_of}
use Rattle.origins.specs.Origins.Origin.{tuple, opaque, fresh}
use Rattle.origins.specs.Origins.OriginSaid.{says_empty, says_null, says_tuple, no_origin}
use Rattle.allowlists.specs.Allowlists.{Allowlist}
use Rattle.declarations.specs.Declarations.{declares, is_malformed}
use Rattle.containers.specs.Attributes.{Attributes}
use Rattle.containers.specs.Policies.{container_policy}
use Rattle.containers.specs.Sandboxes.{is_sandboxed, declared_origin}
use Rattle.decisions.specs.Decisions.{Decision, inherited_top}
use Rattle.decisions.specs.Masks.{mask_of, decision_at}
use Rattle.decisions.specs.Policies.{Policy, Frame, question_in, inherited_in, enabled_mask, forecast}
use Rattle.document_model.specs.Runs.{left_by, answers_by}

abbrev pub Text : Type 0
Text = List ℕ

-- ---- 01, "Origins and expressions"

-- refusal 3: "an origin text outside the grammar"
abbrev pub is_good_origin : OriginSaid → Bool
is_good_origin says_empty = true
is_good_origin says_null = true
is_good_origin (says_tuple o) = true
is_good_origin no_origin = false

-- "or empty for a top-level load"
abbrev pub is_good_at_top : OriginSaid → Bool
is_good_at_top says_empty = false
is_good_at_top says_null = true
is_good_at_top (says_tuple o) = true
is_good_at_top no_origin = false

-- refusal 5: "a sandboxed load whose origin text isn't `null`"
abbrev pub is_null : OriginSaid → Bool
is_null says_empty = false
is_null says_null = true
is_null (says_tuple o) = false
is_null no_origin = false

-- the origin of a document that is loaded with an origin text: "`null` is a fresh opaque origin", named by the document's serial; "Empty means: the container's origin (loads, ...)".
-- A text that is no origin text is refused, here and below
abbrev pub arrives_at : OriginSaid → Origin → ℕ → Origin
arrives_at says_empty container serial = container
arrives_at says_null container serial = opaque serial
arrives_at (says_tuple o) container serial = tuple o
arrives_at no_origin container serial = opaque serial

-- the origin that a question is about: "Empty means: ... the document's own (questions)"; with `null` a fresh one, equal to nothing
abbrev pub asked_at : OriginSaid → Origin → Origin
asked_at says_empty own = own
asked_at says_null own = fresh
asked_at (says_tuple o) own = tuple o
asked_at no_origin own = fresh

-- ---- documents

-- what no allowlist changes of a document: the serial; the serials of its container, of that one's container, and so on; the origin; whether it is sandboxed
pub record Identity : Type 0 where
  pub serial : ℕ
  pub above : List ℕ
  pub origin : Origin
  pub sandboxed : Bool

-- "Policies are settled at load": with it what is inherited, bit n for feature n, and what the header declares, for each of the seventeen
pub record Document : Type 0 where
  pub identity : Identity
  pub inherited : ℕ
  pub declared : List (Option Allowlist)

-- as many values of a function, from a number on
unfoldable pub values_from : {A : Type 0} → (ℕ → A) → ℕ → ℕ → List A
values_from f i zero = []
values_from f i (suc k) = f i ∷ values_from f (suc i) k

-- what a header declares, for each of the seventeen
unfoldable pub declared_by : Text → List (Option Allowlist)
declared_by h = values_from (declares h) 0 feature_count

-- the policy that decisions are made by
abbrev pub policy_of : Document → Policy
policy_of d = record { inherited = decision_at d.inherited; declared = λ n. get_or d.declared n None; own = d.identity.origin }

-- ---- 01, "Header and attribute": frames

-- "A document loaded under either condition is itself sandboxed."
unfoldable pub frame_sandboxed : Identity → Attributes → Bool
frame_sandboxed container a = is_sandboxed container.sandboxed a

-- a src that is no origin text is refused, and its declared origin is never used
abbrev pub or_fresh : Option Origin → Origin
or_fresh (Some o) = o
or_fresh None = fresh

-- the declared origin
unfoldable pub frame_declared : Identity → Attributes → Origin
frame_declared container a = or_fresh (declared_origin container.sandboxed a container.origin)

abbrev pub frame_of : Identity → Attributes → Frame
frame_of container a = record { allowed = container_policy a; declared = frame_declared container a }

-- ---- 01, "The table of loaded documents"

-- documents in serial order, and the serial that the next load gives
pub record Table : Type 0 where
  pub docs : List Document
  pub next : ℕ

-- "A new table is empty"; "Each accepted load gives the next serial, from 1"
abbrev pub new_table : Table
new_table = record { docs = []; next = 1 }

unfoldable pub elem : ℕ → List ℕ → Bool
elem n [] = false
elem n (x ∷ xs) = eqb n x || elem n xs

-- the document of a serial; none where "the serial names no loaded document"
unfoldable pub find : ℕ → List Document → Option Document
find s [] = None
find s (d ∷ ds) = pick (eqb s d.identity.serial) (Some d) (find s ds)

-- "Unloading removes a document and all beneath it": the document has the serial, or is beneath the one that has it
unfoldable pub is_at_or_beneath : ℕ → Identity → Bool
is_at_or_beneath s i = eqb s i.serial || elem s i.above

-- the documents that stay when a serial is unloaded
unfoldable pub remaining : ℕ → List Document → List Document
remaining s [] = []
remaining s (d ∷ ds) = pick (is_at_or_beneath s d.identity) (remaining s ds) (d ∷ remaining s ds)

-- "and answers how many"
unfoldable pub removed_count : ℕ → List Document → ℕ
removed_count s [] = 0
removed_count s (d ∷ ds) = pick (is_at_or_beneath s d.identity) (suc (removed_count s ds)) (removed_count s ds)

-- "the serials beneath a document, ascending"
unfoldable pub serials_beneath : ℕ → List Document → List ℕ
serials_beneath s [] = []
serials_beneath s (d ∷ ds) = pick (elem s d.identity.above) (d.identity.serial ∷ serials_beneath s ds) (serials_beneath s ds)

-- "written into a lent run of 32-bit numbers, places after them unchanged"
unfoldable pub stored : List ℕ → List ℕ → List ℕ
stored serials run = serials ++ drop (length serials) run

-- ---- 01, "What demand 3 speaks of": "Its calls are those on one table"

pub data Call : Type 0 where
  -- "A top-level load has only a header and an origin text"
  top_load : Text → Text → Call
  -- container, header, origin text, the frame's attributes
  framed_load : ℕ → Text → Text → Attributes → Call
  unload : ℕ → Call
  -- document, feature, origin text
  question : ℕ → ℕ → Text → Call
  -- "the features enabled at a document's own origin as one 32-bit number"
  enabled_features : ℕ → Call
  -- document, the lent run
  listing : ℕ → List ℕ → Call
  -- container, the frame's attributes
  forecast_of : ℕ → Attributes → Call

pub data Answer : Type 0 where
  -- 01's number of the refusal
  refused : ℕ → Answer
  -- the serial, and "A malformed header declares nothing, and the load says so"
  loaded : ℕ → Bool → Answer
  -- how many were removed
  removed : ℕ → Answer
  decision : Decision → Answer
  -- bit n for feature n
  features : ℕ → Answer
  -- how many, and the lent run afterwards
  serials : ℕ → List ℕ → Answer

-- the lent run after a listing: as its answer has it, and as it was after a refusal: "changes nothing"
abbrev pub run_after : Answer → List ℕ → List ℕ
run_after (refused n) run = run
run_after (loaded s m) run = run
run_after (removed n) run = run
run_after (decision d) run = run
run_after (features m) run = run
run_after (serials n after) run = after

-- "A refusal returns only its number and changes nothing": an accepted call has an answer and the table afterwards
pub data Outcome : Type 0 where
  refuse : Refusal → Outcome
  accept : Answer → Table → Outcome

unfoldable pub refuse_unless : Refusal → Bool → Outcome → Outcome
refuse_unless n true k = k
refuse_unless n false k = refuse n

-- refusal 1
unfoldable pub with_document : Option Document → (Document → Outcome) → Outcome
with_document None k = refuse NotLoaded
with_document (Some d) k = k d

-- refusal 4: "header, allow or sandbox text over" the limit
abbrev pub is_short : Text → Bool
is_short s = leb (length s) text_bytes

unfoldable pub texts_fit : Call → Bool
texts_fit (top_load h o) = is_short h
texts_fit (framed_load c h o a) = is_short h && is_short a.allow && is_short a.sandbox
texts_fit (unload s) = true
texts_fit (question s f o) = true
texts_fit (enabled_features s) = true
texts_fit (listing s run) = true
texts_fit (forecast_of c a) = is_short a.allow && is_short a.sandbox

-- refusals 6 and 7; "Each accepted load gives the next serial": told whether the header is malformed, and the document of an identity and the identity of a serial
unfoldable pub load : Table → Bool → (Identity → Document) → (ℕ → Identity) → Outcome
load t malformed document identity =
    refuse_unless Full (ltb (length t.docs) document_limit)
    (refuse_unless Spent (leb t.next last_serial)
    (accept (loaded t.next malformed) (record { docs = t.docs ++ (document (identity t.next) ∷ []); next = suc t.next })))

-- at the top there is no container: the empty text is refused
unfoldable pub top_identity : OriginSaid → ℕ → Identity
top_identity said n = record { serial = n; above = []; origin = arrives_at said (opaque n) n; sandboxed = false }

unfoldable pub framed_identity : Identity → Attributes → OriginSaid → ℕ → Identity
framed_identity c a said n = record { serial = n; above = c.serial ∷ c.above; origin = arrives_at said c.origin n; sandboxed = frame_sandboxed c a }

-- "*Inherited*, top level: Enabled."
unfoldable pub top_document : Text → Identity → Document
top_document h i = record { identity = i; inherited = mask_of (λ n. inherited_top); declared = declared_by h }

-- "Framed": judged by the arriving origin
unfoldable pub framed_document : Document → Text → Attributes → Identity → Document
framed_document c h a i =
    record { identity = i; inherited = mask_of (inherited_in (policy_of c) (frame_of c.identity a) i.origin); declared = declared_by h }

-- a call whose texts are short enough: "Order: ... 3 for the document's or question's origin, 3 for src, 2, 1, 5, 6, 7, 8, 4 for output, 9"
unfoldable pub fitting_outcome : Call → Table → Outcome
fitting_outcome (top_load h o) t =
    refuse_unless BadOrigin (is_good_at_top (origin_of o))
    (load t (is_malformed h) (top_document h) (top_identity (origin_of o)))
fitting_outcome (framed_load c h o a) t =
    refuse_unless BadOrigin (is_good_origin (origin_of o))
    (refuse_unless BadOrigin (is_good_origin (origin_of a.src))
    (with_document (find c t.docs) λ d.
    refuse_unless Sandbox (not (frame_sandboxed d.identity a) || is_null (origin_of o))
    (load t (is_malformed h) (framed_document d h a) (framed_identity d.identity a (origin_of o)))))
fitting_outcome (unload s) t =
    with_document (find s t.docs) λ d.
    accept (removed (removed_count s t.docs)) (record { docs = remaining s t.docs; next = t.next })
fitting_outcome (question s f o) t =
    refuse_unless BadOrigin (is_good_origin (origin_of o))
    (refuse_unless NoSuchFeature (ltb f feature_count)
    (with_document (find s t.docs) λ d.
    accept (decision (question_in (policy_of d) f (asked_at (origin_of o) d.identity.origin))) t))
fitting_outcome (enabled_features s) t =
    with_document (find s t.docs) λ d.
    accept (features (enabled_mask (policy_of d))) t
fitting_outcome (listing s run) t =
    with_document (find s t.docs) λ d.
    refuse_unless Small (leb (length (serials_beneath s t.docs)) (length run))
    (accept (serials (length (serials_beneath s t.docs)) (stored (serials_beneath s t.docs) run)) t)
fitting_outcome (forecast_of c a) t =
    refuse_unless BadOrigin (is_good_origin (origin_of a.src))
    (with_document (find c t.docs) λ d.
    accept (features (forecast (policy_of d) (frame_of d.identity a))) t)

-- any call: "4 for input texts" comes first
unfoldable pub outcome : Call → Table → Outcome
outcome c t = refuse_unless TooLong (texts_fit c) (fitting_outcome c t)

abbrev pub answer_in : Outcome → Answer
answer_in (refuse n) = refused (refusal_number n)
answer_in (accept a t) = a

abbrev pub table_in : Outcome → Table → Table
table_in (refuse n) t = t
table_in (accept a u) t = u

-- what the call answers, and the table that it leaves
unfoldable pub answer_to : Call → Table → Answer
answer_to c t = answer_in (outcome c t)

unfoldable pub table_left : Call → Table → Table
table_left c t = table_in (outcome c t) t

-- ---- lists of calls: "It starts from a new table"

unfoldable pub table_after : List Call → Table
table_after cs = left_by table_left cs new_table

unfoldable pub answers : List Call → List Answer
answers cs = answers_by answer_to table_left cs new_table

-- what a further call answers after a list of calls, and what further calls do
abbrev pub answer_after : List Call → Call → Answer
answer_after cs c = answer_to c (table_after cs)

abbrev pub answers_after : List Call → List Call → List Answer
answers_after cs ds = answers_by answer_to table_left ds (table_after cs)
