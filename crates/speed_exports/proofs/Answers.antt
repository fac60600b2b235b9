-- The answers of the calls on the table as numbers, arm by arm. Assumes nothing.
use Rattle.decisions.specs.declared.Decision.TheVariants as verdict
use Rattle.decisions.specs.declared.Decision.{Decision}
use Rattle.std.specs.Prelude.{⊤}
use Rattle.std.specs.Prelude.{Result, Ok, Err}
use mathlib.Core.Path.{◌≡◌, refl, ap, ◌∙◌}
use Prim.Native.Nat.{ℕ, ◌≤◌}
use mathlib.Core.Bool.{true, false}
use mathlib.Core.List.{List}
use Rattle.ascii.specs.Bytes.{pick}
use Rattle.limits.specs.Limits.{document_limit}
use Rattle.limits.specs.Refusals.{refusal_number}
use Rattle.limits.specs.declared.Refusal.{Refusal}
use Rattle.document_model.specs.Model.{Call, framed_load, forecast_of, refused, answer_to}
use Rattle.document_table.specs.Layout.{view}
use Rattle.document_loads.specs.Loads.{attributes}
use Rattle.document_loads.specs.declared.FrameMarks.{FrameMarks}
use Rattle.documents.specs.Answers.{question_in, features_in, load_in, unload_in, listing_in, Decides, TellsFeatures, Loads, Unloads, removed_by, Lists, listed_by}
use Rattle.documents.specs.declared.LoadedDocument.{LoadedDocument}
use Rattle.speed_exports.specs.declared.Numbers.{Numbers}
use Rattle.speed_exports.specs.Numbers.{numbers_of, new_numbers, listing_numbers, marks_of, LoadsBy, UnloadsBy, ListsBy}

abbrev told : ℕ → ℕ → ℕ → Numbers
told r v s = record { refusal = r; value = v; second = s }

-- ---- arm by arm

pub refused-told : (x : Refusal) (n : ℕ) → n ≡ refusal_number x → told n 0 0 ≡ numbers_of (refused (refusal_number x))
refused-told x n e = rw e

module _ (x : Refusal) (n : Numbers) (e : n ≡ numbers_of (refused (refusal_number x))) where
  pub new-refused : (a : Result ⊤ Refusal) → a ≡ Err x → n ≡ new_numbers a
  new-refused a k = rw k e

  pub question-refused : (a : Result Decision Refusal) → a ≡ Err x → n ≡ numbers_of (question_in a)
  question-refused a k = rw k e

  pub features-refused : (a : Result ℕ Refusal) → a ≡ Err x → n ≡ numbers_of (features_in a)
  features-refused a k = rw k e

  pub load-refused : (a : Result LoadedDocument Refusal) → a ≡ Err x → n ≡ numbers_of (load_in a)
  load-refused a k = rw k e

  pub unload-refused : (a : Result ℕ Refusal) → a ≡ Err x → n ≡ numbers_of (unload_in a)
  unload-refused a k = rw k e

  pub listing-refused : (a : Result ℕ Refusal) → a ≡ Err x → n ≡ listing_numbers a
  listing-refused a k = rw k e

pub new_told : (a : Result ⊤ Refusal) → a ≡ Ok tt → told 0 0 0 ≡ new_numbers a
new_told a k = rw k

pub question-enabled : (a : Result Decision Refusal) → a ≡ Ok verdict.Enabled → told 0 1 0 ≡ numbers_of (question_in a)
question-enabled a k = rw k

pub question-disabled : (a : Result Decision Refusal) → a ≡ Ok verdict.Disabled → told 0 2 0 ≡ numbers_of (question_in a)
question-disabled a k = rw k

pub features-told : (a : Result ℕ Refusal) (m : ℕ) → a ≡ Ok m → told 0 m 0 ≡ numbers_of (features_in a)
features-told a m k = rw k

module _ (a : Result LoadedDocument Refusal) (d : LoadedDocument) (k : a ≡ Ok d) where
  pub load-malformed : d.malformed ≡ true → told 0 d.serial 1 ≡ numbers_of (load_in a)
  unfolding pick
  load-malformed e = rw (k, e)

  pub load-good : d.malformed ≡ false → told 0 d.serial 0 ≡ numbers_of (load_in a)
  unfolding pick
  load-good e = rw (k, e)

pub unload-told : (a : Result ℕ Refusal) (n m : ℕ) → a ≡ Ok n → m ≡ n → told 0 m 0 ≡ numbers_of (unload_in a)
unload-told a n m k e = rw (k, e)

pub listing-told : (a : Result ℕ Refusal) (n m : ℕ) → a ≡ Ok n → m ≡ n → told 0 m 0 ≡ listing_numbers a
listing-told a n m k e = rw (k, e)

pub removed-few : (a : Result ℕ Refusal) (n : ℕ) → removed_by a ≤ document_limit → a ≡ Ok n → n ≤ document_limit
removed-few a n h k = rw k at h

pub listed-few : (a : Result ℕ Refusal) (n : ℕ) → listed_by a ≤ document_limit → a ≡ Ok n → n ≤ document_limit
listed-few a n h k = rw k at h

-- ---- the calls

pub question-by : (c : Call) (run : List ℕ) (a : Result Decision Refusal) (r : Numbers) → Decides c run a → r ≡ numbers_of (question_in a) → r ≡ numbers_of (answer_to c (view run))
question-by c run a r h e = e ∙ ap numbers_of h

pub features-by : (c : Call) (run : List ℕ) (a : Result ℕ Refusal) (r : Numbers) → TellsFeatures c run a → r ≡ numbers_of (features_in a) → r ≡ numbers_of (answer_to c (view run))
features-by c run a r h e = e ∙ ap numbers_of h

pub loads-by : (c : Call) (before after : List ℕ) (a : Result LoadedDocument Refusal) (r : Numbers) → Loads c before after a → r ≡ numbers_of (load_in a) → LoadsBy c before after r
loads-by c before after a r h e = record { answer = a; loads = h; numbers = e ∙ ap numbers_of h.answer }

-- with a frame's marks as one number
module _ (s k : ℕ) (m : FrameMarks) (allow sandbox src : List ℕ) (marks : m ≡ marks_of k) where
  pub framed_by : (h o before after : List ℕ) (a : Result LoadedDocument Refusal) (r : Numbers) → Loads (framed_load s h o (attributes allow m sandbox src)) before after a → r ≡ numbers_of (load_in a) → LoadsBy (framed_load s h o (attributes allow (marks_of k) sandbox src)) before after r
  framed_by h o before after a r l e = loads-by (framed_load s h o (attributes allow (marks_of k) sandbox src)) before after a r (rw marks at l) e

  pub forecast-by : (run : List ℕ) (a : Result ℕ Refusal) (r : Numbers) → TellsFeatures (forecast_of s (attributes allow m sandbox src)) run a → r ≡ numbers_of (features_in a) → r ≡ numbers_of (answer_to (forecast_of s (attributes allow (marks_of k) sandbox src)) (view run))
  forecast-by run a r h e = features-by (forecast_of s (attributes allow (marks_of k) sandbox src)) run a r (rw marks at h) e

pub unloads-by : (c : Call) (before after : List ℕ) (a : Result ℕ Refusal) (r : Numbers) → Unloads c before after a → r ≡ numbers_of (unload_in a) → UnloadsBy c before after r
unloads-by c before after a r h e = record { answer = a; unloads = h; numbers = e ∙ ap numbers_of h.answer }

listing-is : (a : Result ℕ Refusal) (run : List ℕ) → listing_numbers a ≡ numbers_of (listing_in a run)
listing-is (Ok n) run = refl
listing-is (Err x) run = refl

pub lists-by : (c : Call) (run before after : List ℕ) (a : Result ℕ Refusal) (r : Numbers) → Lists c run before after a → r ≡ listing_numbers a → ListsBy c run before after r
lists-by c run before after a r h e = record { answer = a; lists = h; numbers = e ∙ (listing-is a after ∙ ap numbers_of h.answer) }
