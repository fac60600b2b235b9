-- What each call answers and leaves, row by row of document 01's order: a part of the laws of this crate. Assumes nothing.
use mathlib.Core.Path.{◌≡◌, ap}
use Prim.Native.Nat.{ℕ, suc, ◌≤◌, ◌<◌}
use mathlib.Core.List.{List, [], ◌∷◌, ◌++◌}
use mathlib.Core.Bool.{Bool, true, false, not, ◌&&◌, ◌||◌}
use Rattle.std.specs.Prelude.{Some, None}
use lib.ListN.{length}
use borrow.Author.Tests.{le-leb, lt-leb, le-ltb, lt-ltb}
use Rattle.limits.specs.Limits.{document_limit, last_serial}
use Rattle.limits.specs.declared.Refusal.TheVariants.{NotLoaded, NoSuchFeature, BadOrigin, TooLong, Sandbox, Full, Spent, Small}
use Rattle.features.specs.Features.{feature_count}
use Rattle.origins.specs.Origins.{origin_of}
use Rattle.containers.specs.Attributes.{Attributes}
use Rattle.declarations.specs.Declarations.{is_malformed}
use Rattle.decisions.specs.Policies.{question_in, enabled_mask, forecast}
use Rattle.document_model.specs.Model.{Text, is_good_origin, is_good_at_top, is_null, asked_at, Identity, Document, policy_of, frame_sandboxed, frame_of, Table, find, remaining, removed_count, serials_beneath, stored, Call, top_load, framed_load, unload, question, enabled_features, listing, forecast_of, loaded, removed, decision, features, serials, Outcome, refuse, accept, refuse_unless, with_document, is_short, texts_fit, load, top_identity, framed_identity, top_document, framed_document, fitting_outcome, outcome, answer_in, table_in, answer_to, table_left}

-- a call, by its outcome
pub answer-of : (c : Call) (t : Table) (x : Outcome) → outcome c t ≡ x → answer_to c t ≡ answer_in x
unfolding answer_to
answer-of c t x e = ap answer_in e

pub table_of : (c : Call) (t : Table) (x : Outcome) → outcome c t ≡ x → table_left c t ≡ table_in x t
unfolding table_left
table_of c t x e = ap (λ (o : Outcome). table_in o t) e

-- a question
module _ (s f : ℕ) (o : Text) (t : Table) where
  pub question_bad : is_good_origin (origin_of o) ≡ false → outcome (question s f o) t ≡ refuse BadOrigin
  unfolding outcome texts_fit fitting_outcome refuse_unless
  question_bad e = rw e

  module _ (good : is_good_origin (origin_of o) ≡ true) where
    pub question-feature : feature_count ≤ f → outcome (question s f o) t ≡ refuse NoSuchFeature
    unfolding outcome texts_fit fitting_outcome refuse_unless
    question-feature h = rw (good, le-ltb f feature_count h)

    module _ (h : f < feature_count) where
      pub question-closed : find s t.docs ≡ None → outcome (question s f o) t ≡ refuse NotLoaded
      unfolding outcome texts_fit fitting_outcome refuse_unless with_document
      question-closed e = rw (good, lt-ltb f feature_count h, e)

      pub question-answer : (d : Document) → find s t.docs ≡ Some d → outcome (question s f o) t ≡ accept (decision (question_in (policy_of d) f (asked_at (origin_of o) d.identity.origin))) t
      unfolding outcome texts_fit fitting_outcome refuse_unless with_document
      question-answer d e = rw (good, lt-ltb f feature_count h, e)

-- the number of enabled features
module _ (s : ℕ) (t : Table) where
  pub enabled-closed : find s t.docs ≡ None → outcome (enabled_features s) t ≡ refuse NotLoaded
  unfolding outcome texts_fit fitting_outcome refuse_unless with_document
  enabled-closed e = rw e

  pub enabled-answer : (d : Document) → find s t.docs ≡ Some d → outcome (enabled_features s) t ≡ accept (features (enabled_mask (policy_of d))) t
  unfolding outcome texts_fit fitting_outcome refuse_unless with_document
  enabled-answer d e = rw e

-- an unload
module _ (s : ℕ) (t : Table) where
  pub unload-closed : find s t.docs ≡ None → outcome (unload s) t ≡ refuse NotLoaded
  unfolding outcome texts_fit fitting_outcome refuse_unless with_document
  unload-closed e = rw e

  pub unload-answer : (d : Document) → find s t.docs ≡ Some d → outcome (unload s) t ≡ accept (removed (removed_count s t.docs)) (record { docs = remaining s t.docs; next = t.next })
  unfolding outcome texts_fit fitting_outcome refuse_unless with_document
  unload-answer d e = rw e

-- a listing
module _ (s : ℕ) (run : List ℕ) (t : Table) where
  pub listing-closed : find s t.docs ≡ None → outcome (listing s run) t ≡ refuse NotLoaded
  unfolding outcome texts_fit fitting_outcome refuse_unless with_document
  listing-closed e = rw e

  module _ (d : Document) (e : find s t.docs ≡ Some d) where
    pub listing-small : length run < length (serials_beneath s t.docs) → outcome (listing s run) t ≡ refuse Small
    unfolding outcome texts_fit fitting_outcome refuse_unless with_document
    listing-small h = rw (e, lt-leb (length (serials_beneath s t.docs)) (length run) h)

    pub listing-answer : length (serials_beneath s t.docs) ≤ length run → outcome (listing s run) t ≡ accept (serials (length (serials_beneath s t.docs)) (stored (serials_beneath s t.docs) run)) t
    unfolding outcome texts_fit fitting_outcome refuse_unless with_document
    listing-answer h = rw (e, le-leb (length (serials_beneath s t.docs)) (length run) h)

-- a forecast
module _ (c : ℕ) (a : Attributes) (t : Table) where
  pub forecast-long : is_short a.allow && is_short a.sandbox ≡ false → outcome (forecast_of c a) t ≡ refuse TooLong
  unfolding outcome texts_fit refuse_unless
  forecast-long e = rw e

  module _ (short : is_short a.allow && is_short a.sandbox ≡ true) where
    pub forecast-bad : is_good_origin (origin_of a.src) ≡ false → outcome (forecast_of c a) t ≡ refuse BadOrigin
    unfolding outcome texts_fit fitting_outcome refuse_unless
    forecast-bad e = rw (short, e)

    module _ (good : is_good_origin (origin_of a.src) ≡ true) where
      pub forecast-closed : find c t.docs ≡ None → outcome (forecast_of c a) t ≡ refuse NotLoaded
      unfolding outcome texts_fit fitting_outcome refuse_unless with_document
      forecast-closed e = rw (short, good, e)

      pub forecast-answer : (d : Document) → find c t.docs ≡ Some d → outcome (forecast_of c a) t ≡ accept (features (forecast (policy_of d) (frame_of d.identity a))) t
      unfolding outcome texts_fit fitting_outcome refuse_unless with_document
      forecast-answer d e = rw (short, good, e)

-- room and a serial for a load
module _ (t : Table) (malformed : Bool) (document : Identity → Document) (identity : ℕ → Identity) where
  pub load_full : document_limit ≤ length t.docs → load t malformed document identity ≡ refuse Full
  unfolding load refuse_unless
  load_full h = rw (le-ltb (length t.docs) document_limit h)

  module _ (room : length t.docs < document_limit) where
    pub load-spent : last_serial < t.next → load t malformed document identity ≡ refuse Spent
    unfolding load refuse_unless
    load-spent h = rw (lt-ltb (length t.docs) document_limit room, lt-leb t.next last_serial h)

    pub load-answer : t.next ≤ last_serial → load t malformed document identity ≡ accept (loaded t.next malformed) (record { docs = t.docs ++ (document (identity t.next) ∷ []); next = suc t.next })
    unfolding load refuse_unless
    load-answer h = rw (lt-ltb (length t.docs) document_limit room, le-leb t.next last_serial h)

-- a top-level load
module _ (h o : Text) (t : Table) where
  pub top-long : is_short h ≡ false → outcome (top_load h o) t ≡ refuse TooLong
  unfolding outcome texts_fit refuse_unless
  top-long e = rw e

  module _ (short : is_short h ≡ true) where
    pub top_bad : is_good_at_top (origin_of o) ≡ false → outcome (top_load h o) t ≡ refuse BadOrigin
    unfolding outcome texts_fit fitting_outcome refuse_unless
    top_bad e = rw (short, e)

    pub top-load : is_good_at_top (origin_of o) ≡ true → outcome (top_load h o) t ≡ load t (is_malformed h) (top_document h) (top_identity (origin_of o))
    unfolding outcome texts_fit fitting_outcome refuse_unless
    top-load e = rw (short, e)

-- a framed load
module _ (c : ℕ) (h o : Text) (a : Attributes) (t : Table) where
  pub framed-long : is_short h && is_short a.allow && is_short a.sandbox ≡ false → outcome (framed_load c h o a) t ≡ refuse TooLong
  unfolding outcome texts_fit refuse_unless
  framed-long e = rw e

  module _ (short : is_short h && is_short a.allow && is_short a.sandbox ≡ true) where
    pub framed_bad : is_good_origin (origin_of o) ≡ false → outcome (framed_load c h o a) t ≡ refuse BadOrigin
    unfolding outcome texts_fit fitting_outcome refuse_unless
    framed_bad e = rw (short, e)

    module _ (good : is_good_origin (origin_of o) ≡ true) where
      pub framed_src : is_good_origin (origin_of a.src) ≡ false → outcome (framed_load c h o a) t ≡ refuse BadOrigin
      unfolding outcome texts_fit fitting_outcome refuse_unless
      framed_src e = rw (short, good, e)

      module _ (src : is_good_origin (origin_of a.src) ≡ true) where
        pub framed-closed : find c t.docs ≡ None → outcome (framed_load c h o a) t ≡ refuse NotLoaded
        unfolding outcome texts_fit fitting_outcome refuse_unless with_document
        framed-closed e = rw (short, good, src, e)

        module _ (d : Document) (e : find c t.docs ≡ Some d) where
          pub framed_sandbox : frame_sandboxed d.identity a ≡ true → is_null (origin_of o) ≡ false → outcome (framed_load c h o a) t ≡ refuse Sandbox
          unfolding outcome texts_fit fitting_outcome refuse_unless with_document
          framed_sandbox b n = rw (short, good, src, e, b, n)

          pub framed-load : not (frame_sandboxed d.identity a) || is_null (origin_of o) ≡ true → outcome (framed_load c h o a) t ≡ load t (is_malformed h) (framed_document d h a) (framed_identity d.identity a (origin_of o))
          unfolding outcome texts_fit fitting_outcome refuse_unless with_document
          framed-load b = rw (short, good, src, e, b)
