-- Demand 3, with what 02's R-1 adds to it, and document 01's sentences on the table: seven claims about every list of calls on a new table, refused calls included, whoever answers them. `proofs/Claims` proves them of the model.
use Rattle.std.specs.Prelude.{◌≡◌, ℕ, ◌+◌, ◌<◌, ◌≤◌, Bool, true, false, List, [], ◌∷◌, ◌++◌, length, drop}
use Rattle.limits.specs.Limits.{document_limit}
use Rattle.features.specs.Features.{feature_count}
use Rattle.origins.specs.Origins.{TupleOrigin, Origin, OriginSaid, origin_of, null_text}
use Rattle.origins.specs.Origins.Origin.{tuple, opaque, fresh}
use Rattle.origins.specs.Origins.OriginSaid.{says_empty, says_null, says_tuple}
use Rattle.dictionaries.specs.OneItemMore.{OneItemMore}
use Rattle.declarations.specs.Declarations.{declares, is_malformed}
use Rattle.containers.specs.Attributes.{Attributes}
use Rattle.containers.specs.Policies.{container_policy}
use Rattle.containers.specs.Sandboxes.{declared_origin}
use Rattle.containers.specs.Widening.{WordMore, KeywordMore}
use Rattle.decisions.specs.Decisions.{Decision, inherited_top}
use Rattle.decisions.specs.Decisions.Decision.{disabled}
use Rattle.decisions.specs.Masks.{decision_at}
use Rattle.decisions.specs.Policies.{Policy, Frame, question_in, inherited_in, enabled_mask, forecast}
use Rattle.decisions.specs.Widening.{Stays}
use Rattle.document_model.specs.Runs.{Each}
use Rattle.document_model.specs.Model.{Text, is_good_origin, arrives_at, or_fresh, values_from, Call, top_load, framed_load, unload, question, enabled_features, listing, forecast_of, Answer, refused, loaded, removed, decision, features, serials}
use Rattle.document_model.specs.History.{Event, Happened, BeneathIn, LoadedIn, SandboxedIn, accepted_loads, unload_sum, given, Exactly, AreLoaded, AreBeneath}
use Rattle.document_model.specs.Answering.{Answering}
use Rattle.document_model.specs.Refusals.{Row, refusal_of, First}

-- ---- 1. Disabled flows down

-- "if after it a loaded document is Disabled for a feature at its own origin, every document beneath it is Disabled for it at every origin, then and after any further calls, while both stay loaded":
-- the document d after the calls cs, the document e after the further calls ds, which may be none. If e is loaded and beneath d, then d is loaded
abbrev pub DisabledFlowsDown : Answering → Type 0
DisabledFlowsDown who =
    (cs ds : List Call) (d e f : ℕ) → who.answer_after cs (question d f []) ≡ decision disabled
    → LoadedIn (who.history (cs ++ ds)) e → BeneathIn (who.history (cs ++ ds)) e d
    → (o : Text) → is_good_origin (origin_of o) ≡ true → who.answer_after (cs ++ ds) (question e f o) ≡ decision disabled

-- ---- 2. More never takes away

-- "The changed call is a load or a forecast": the second call has one item more in its header, or one word more in its allow attribute;
-- 02, R-1: or one keyword more in its sandbox attribute: "adding one of these keywords to a sandbox attribute never takes an Enabled away"
pub data OneMore : Call → Call → Type 0 where
  item_top : {h g o : Text} → OneItemMore h g → OneMore (top_load h o) (top_load g o)
  item_framed : {c : ℕ} {h g o : Text} {a : Attributes} → OneItemMore h g → OneMore (framed_load c h o a) (framed_load c g o a)
  word_framed : {c : ℕ} {h o : Text} {a b : Attributes} → WordMore a b → OneMore (framed_load c h o a) (framed_load c h o b)
  word_forecast : {c : ℕ} {a b : Attributes} → WordMore a b → OneMore (forecast_of c a) (forecast_of c b)
  keyword_framed : {c : ℕ} {h o : Text} {a b : Attributes} → KeywordMore a b → OneMore (framed_load c h o a) (framed_load c h o b)
  keyword_forecast : {c : ℕ} {a b : Attributes} → KeywordMore a b → OneMore (forecast_of c a) (forecast_of c b)

abbrev pub is_accepted : Answer → Bool
is_accepted (refused n) = false
is_accepted (loaded s m) = true
is_accepted (removed n) = true
is_accepted (decision d) = true
is_accepted (features m) = true
is_accepted (serials n run) = true

-- the answers at one place of the two runs: equal ("Serials, unload answers and listings", malformed notes, refusals); or
-- "an Enabled of the first run is Enabled in the second"; or "each bit set in a number of enabled features or a forecast of the first is set in the second"
pub data Keeps : Answer → Answer → Type 0 where
  equal : (a : Answer) → Keeps a a
  enabled_stays : {d e : Decision} → Stays d e → Keeps (decision d) (decision e)
  bits_stay : {m n : ℕ} → ((f : ℕ) → Stays (decision_at m f) (decision_at n f)) → Keeps (features m) (features n)

-- "take any two such lists, alike except in one call, accepted in both"
abbrev pub MoreNeverTakesAway : Answering → Type 0
MoreNeverTakesAway who =
    (before : List Call) (c d : Call) (behind : List Call) → OneMore c d
    → is_accepted (who.answer_after before c) ≡ true → is_accepted (who.answer_after before d) ≡ true
    → Each Keeps (who.answers (before ++ (c ∷ behind))) (who.answers (before ++ (d ∷ behind)))

-- ---- 3. Serials, counts, listings

-- what a listing answers for the serials l: how many, and the lent run afterwards: "ascending, written into a lent run of 32-bit numbers, places after them unchanged"
pub record Listed (n : ℕ) (run' run l : List ℕ) : Type 0 where
  pub count : n ≡ length l
  pub run_afterwards : run' ≡ l ++ drop (length l) run

pub record SerialsAndCounts (who : Answering) : Type 0 where
  -- "Each accepted load gives the next serial, from 1; serials are never used again."
  pub serials_in_order : (cs : List Call) → given (who.answers cs) ≡ values_from (λ n. n) 1 (length (given (who.answers cs)))
  -- "The number loaded equals accepted loads minus the sum of the unload answers."
  pub number_loaded : (cs : List Call) (l : List ℕ) → AreLoaded (who.history cs) l → length l + unload_sum (who.history cs) ≡ accepted_loads (who.history cs)
  -- "At most" so many "documents" as the limit says
  pub at_most_limit : (cs : List Call) (l : List ℕ) → AreLoaded (who.history cs) l → length l ≤ document_limit
  -- "the serials beneath a document, ascending"
  pub listing_exactly : (cs : List Call) (s n : ℕ) (run run' l : List ℕ) → who.answer_after cs (listing s run) ≡ serials n run' → AreBeneath (who.history cs) s l → Listed n run' run l
  -- "Unloading removes a document and all beneath it and answers how many": "it must equal the documents that went", those loaded before and not after
  pub unload_answers : (cs : List Call) (s n : ℕ) (l : List ℕ) → who.answer_after cs (unload s) ≡ removed n
      → Exactly (λ e. LoadedIn (who.history cs) e × (LoadedIn (who.history (cs ++ (unload s ∷ []))) e → ⊥)) l → n ≡ length l
  -- and there are such lists
  pub some_loaded : (cs : List Call) → (l : List ℕ) × AreLoaded (who.history cs) l
  pub some_beneath : (cs : List Call) (s : ℕ) → (l : List ℕ) × AreBeneath (who.history cs) s l
  pub some_removed : (cs : List Call) (s n : ℕ) → who.answer_after cs (unload s) ≡ removed n → (l : List ℕ) × Exactly (λ e. LoadedIn (who.history cs) e × (LoadedIn (who.history (cs ++ (unload s ∷ []))) e → ⊥)) l

-- ---- 4. A forecast comes true

-- an origin text with which a frame's document arrives at the declared origin: the src text; or `null` where the load with the src text is refused with 5, and so the declared origin is fresh.
-- Two that arrive there as well aren't spoken of: for an empty src the container's own origin in full, and the empty text for a src that is the container's own origin in full
pub data AtDeclared (who : Answering) (cs : List Call) (c : ℕ) (a : Attributes) : Text → Type 0 where
  as_src : AtDeclared who cs c a a.src
  as_null : who.answer_after cs (framed_load c [] a.src a) ≡ refused 5 → AtDeclared who cs c a null_text

pub record ForecastComesTrue (who : Answering) : Type 0 where
  -- "A *forecast* is what a frame would inherit at its declared origin": a load right after it with the same container and attributes, at the declared origin and with an empty header,
  -- has exactly the forecast's features enabled
  pub comes_true : (cs : List Call) (c : ℕ) (o : Text) (a : Attributes) (m s : ℕ) (malformed : Bool)
      → who.answer_after cs (forecast_of c a) ≡ features m
      → AtDeclared who cs c a o
      → who.answer_after (cs ++ (forecast_of c a ∷ [])) (framed_load c [] o a) ≡ loaded s malformed
      → who.answer_after (cs ++ (forecast_of c a ∷ framed_load c [] o a ∷ [])) (enabled_features s) ≡ features m
  -- "as a number with bit n for feature n": a forecast has no other bit
  pub forecast_bits : (cs : List Call) (c : ℕ) (a : Attributes) (m n : ℕ) → who.answer_after cs (forecast_of c a) ≡ features m → feature_count ≤ n → decision_at m n ≡ disabled
  -- "the features enabled at a document's own origin as one 32-bit number, bit n for feature n and no other bit"
  pub bit_answers : (cs : List Call) (s m n : ℕ) → who.answer_after cs (enabled_features s) ≡ features m → n < feature_count → who.answer_after cs (question s n []) ≡ decision (decision_at m n)
  pub no_other_bit : (cs : List Call) (s m n : ℕ) → who.answer_after cs (enabled_features s) ≡ features m → feature_count ≤ n → decision_at m n ≡ disabled

-- ---- 5. Refusals, exactly

-- a refusal, or an answer of the call's own kind
pub data AnswerFits : Call → Answer → Type 0 where
  refused_fits : {c : Call} {n : ℕ} → AnswerFits c (refused n)
  top_fits : {h o : Text} {s : ℕ} {m : Bool} → AnswerFits (top_load h o) (loaded s m)
  framed_fits : {c : ℕ} {h o : Text} {a : Attributes} {s : ℕ} {m : Bool} → AnswerFits (framed_load c h o a) (loaded s m)
  unload_fits : {s n : ℕ} → AnswerFits (unload s) (removed n)
  question_fits : {s f : ℕ} {o : Text} {d : Decision} → AnswerFits (question s f o) (decision d)
  enabled_fits : {s m : ℕ} → AnswerFits (enabled_features s) (features m)
  listing_fits : {s n : ℕ} {run run' : List ℕ} → AnswerFits (listing s run) (serials n run')
  forecast_fits : {c m : ℕ} {a : Attributes} → AnswerFits (forecast_of c a) (features m)

pub record RefusalsExactly (who : Answering) : Type 0 where
  -- "Given exactly when (and no earlier row of the order applies)"
  pub refused_by_first : (cs : List Call) (c : Call) (n : ℕ) → who.answer_after cs c ≡ refused n → (r : Row) × First (who.history cs) c r × (refusal_of r ≡ n)
  pub first_is_refused : (cs : List Call) (c : Call) (r : Row) → First (who.history cs) c r → who.answer_after cs c ≡ refused (refusal_of r)
  -- "A refusal returns only its number and changes nothing."
  pub refused_changes_nothing : (cs : List Call) (c : Call) (n : ℕ) (ds : List Call) → who.answer_after cs c ≡ refused n → who.answers_after (cs ++ (c ∷ [])) ds ≡ who.answers_after cs ds
  -- a call that isn't refused has an answer of its own kind: a load its serial, an unload how many, a question Enabled or Disabled, and so on
  pub answer_fits : (cs : List Call) (c : Call) → AnswerFits c (who.answer_after cs c)

-- ---- 6. Settled at load

pub record SettledAtLoad (who : Answering) : Type 0 where
  -- "A malformed header declares nothing, and the load says so."
  pub top_says : (cs : List Call) (h o : Text) (s : ℕ) (malformed : Bool) → who.answer_after cs (top_load h o) ≡ loaded s malformed → malformed ≡ is_malformed h
  pub framed_says : (cs : List Call) (c : ℕ) (h o : Text) (a : Attributes) (s : ℕ) (malformed : Bool) → who.answer_after cs (framed_load c h o a) ≡ loaded s malformed → malformed ≡ is_malformed h
  -- "Policies are settled at load.": a document that is loaded before further calls and after them answers the same, for every feature and every origin text
  pub question_settled : (cs ds : List Call) (s : ℕ) → LoadedIn (who.history cs) s → LoadedIn (who.history (cs ++ ds)) s
      → (f : ℕ) (o : Text) → who.answer_after (cs ++ ds) (question s f o) ≡ who.answer_after cs (question s f o)
  pub enabled_settled : (cs ds : List Call) (s : ℕ) → LoadedIn (who.history cs) s → LoadedIn (who.history (cs ++ ds)) s → who.answer_after (cs ++ ds) (enabled_features s) ≡ who.answer_after cs (enabled_features s)
  -- and so do forecasts of its frames
  pub forecast_settled : (cs ds : List Call) (s : ℕ) → LoadedIn (who.history cs) s → LoadedIn (who.history (cs ++ ds)) s → (a : Attributes) → who.answer_after (cs ++ ds) (forecast_of s a) ≡ who.answer_after cs (forecast_of s a)

-- ---- 7. Answers as demand 2 defines them: by a policy that the calls and answers alone tell

-- a mark that is set exactly if the document with the serial is sandboxed
pub record MarkedIn (es : List Event) (s : ℕ) (mark : Bool) : Type 0 where
  pub if_set : mark ≡ true → SandboxedIn es s
  pub if_sandboxed : SandboxedIn es s → mark ≡ true

-- a frame, by the policy and the mark of its container
abbrev pub frame_in : Policy → Bool → Attributes → Frame
frame_in container mark a = record { allowed = container_policy a; declared = or_fresh (declared_origin mark a container.own) }

-- "*Inherited*, top level: Enabled."
abbrev pub top_policy : ℕ → Text → Text → Policy
top_policy s h o = record { inherited = λ n. inherited_top; declared = declares h; own = arrives_at (origin_of o) (opaque s) s }

-- "Framed": by the container's policy, the frame and the arriving origin
abbrev pub framed_policy : Policy → Bool → Attributes → ℕ → Text → Text → Policy
framed_policy container mark a s h o = record {
  inherited = inherited_in container (frame_in container mark a) (arrives_at (origin_of o) container.own s);
  declared = declares h;
  own = arrives_at (origin_of o) container.own s;
}

-- "Policies are settled at load": the policy of the document with a serial, by the load that gave the serial and by the policy of the container that it named
pub data PolicyIn (es : List Event) : ℕ → Policy → Type 0 where
  of_top : {h o : Text} {s : ℕ} {m : Bool} → Happened (top_load h o) (loaded s m) es → PolicyIn es s (top_policy s h o)
  of_frame : {c : ℕ} {h o : Text} {a : Attributes} {s : ℕ} {m : Bool} {p : Policy} {mark : Bool} → Happened (framed_load c h o a) (loaded s m) es → PolicyIn es c p → MarkedIn es c mark
      → PolicyIn es s (framed_policy p mark a s h o)

-- the origin that a question is about: "Empty means: ... the document's own (questions)"; with `null` a fresh one; else the text's
pub data AskedAt (own : Origin) : OriginSaid → Origin → Type 0 where
  at_own : AskedAt own says_empty own
  at_fresh : AskedAt own says_null fresh
  at_tuple : (o : TupleOrigin) → AskedAt own (says_tuple o) (tuple o)

pub record AnswersAsDefined (who : Answering) : Type 0 where
  -- "*Question*"
  pub question_as_defined : (cs : List Call) (s f : ℕ) (o : Text) (d : Decision) → who.answer_after cs (question s f o) ≡ decision d
      → (p : Policy) × PolicyIn (who.history cs) s p × ((x : Origin) × AskedAt p.own (origin_of o) x × (d ≡ question_in p f x))
  -- "the features enabled at a document's own origin as one 32-bit number"
  pub enabled_as_defined : (cs : List Call) (s m : ℕ) → who.answer_after cs (enabled_features s) ≡ features m → (p : Policy) × PolicyIn (who.history cs) s p × (m ≡ enabled_mask p)
  -- "A *forecast* is what a frame would inherit at its declared origin"
  pub forecast_as_defined : (cs : List Call) (c : ℕ) (a : Attributes) (m : ℕ) → who.answer_after cs (forecast_of c a) ≡ features m
      → (p : Policy) × PolicyIn (who.history cs) c p × ((mark : Bool) × MarkedIn (who.history cs) c mark × (m ≡ forecast p (frame_in p mark a)))
  -- and there is one such policy
  pub one_policy : (cs : List Call) (s : ℕ) (p q : Policy) → PolicyIn (who.history cs) s p → PolicyIn (who.history cs) s q → p ≡ q
