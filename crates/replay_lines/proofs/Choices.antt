-- Choices as the code makes them: by a test, and by what a reading found. Assumes nothing.
use mathlib.Core.Path.{◌≡◌, refl, sym, ◌∙◌}
use Prim.Native.Nat.{ℕ}
use mathlib.Core.List.{List}
use mathlib.Core.Bool.{Bool, true, false}
use Rattle.std.specs.Prelude.{Option, Some, None}
use native.Mathlib.Omega.{arith}
use lib.ListN.{length, length-map}
use borrow.Author.Tests.{eq-eqb, ne_eqb}
use Rattle.ascii.specs.Bytes.{pick}
use Rattle.ascii.specs.Texts.{part_in}
use Rattle.ascii.specs.declared.TextRange.{TextRange}
use Rattle.containers.specs.Attributes.{Attributes}
use Rattle.replay_lines.specs.Format.{Text, Line, Sandbox, given, of_fields}
use Rattle.replay_lines.specs.Format.Line.{bad_line}
use Rattle.replay_lines.specs.Reading.{kept_says}
use Rattle.replay_lines.specs.Answers.{fields_from, said_in, text_in, sandbox_range, sandbox_in, attributes_in, attribute_fields_in}
use Rattle.replay_lines.specs.declared.FieldState.{FieldState}
use Rattle.replay_lines.specs.declared.SandboxRange.{SandboxRange}
use Rattle.replay_lines.specs.declared.AttributeRanges.{AttributeRanges}
use Rattle.replay_lines.proofs.FieldStates.{fields-long}

module _ {A : Type 0} (b t : Bool) (r x y : A) where
  pub pick_yes : t ≡ b → t ≡ true → r ≡ x → r ≡ pick b x y
  unfolding pick
  pick_yes e f g = let h : b ≡ true = sym e ∙ f in rw h g

  pub pick_no : t ≡ b → t ≡ false → r ≡ y → r ≡ pick b x y
  unfolding pick
  pick_no e f g = let h : b ≡ false = sym e ∙ f in rw h g

pub itself : {A : Type 0} (a : A) → a ≡ a
itself a = refl

pub ruleset picks = (pick_yes, pick_no, itself)

-- what follows from a reading
found : {A B : Type 0} (d R : B) (o : Option A) (k : A → B) (a : A) → Some a ≡ o → R ≡ k a → R ≡ given d o k
unfolding given
found d R o k a e g = rw (← e) g

missed : {A B : Type 0} (d : B) (o : Option A) (k : A → B) → None ≡ o → d ≡ given d o k
unfolding given
missed d o k e = rw (← e)

module _ {B : Type 0} (d : B) (o : Option ℕ) (k : ℕ → B) (r : Option ℕ) (is : r ≡ o) where
  pub given-number : (R : B) (n : ℕ) → r ≡ Some n → R ≡ k n → R ≡ given d o k
  given-number R n e g = found d R o k n (rw e at is) g

  pub no_number : r ≡ None → d ≡ given d o k
  no_number e = missed d o k (rw e at is)

module _ {B : Type 0} (d : B) (o : Option Bool) (k : Bool → B) (r : Option Bool) (is : r ≡ o) where
  pub given-mark : (R : B) (b : Bool) → r ≡ Some b → R ≡ k b → R ≡ given d o k
  given-mark R b e g = found d R o k b (rw e at is) g

  pub no-mark : r ≡ None → d ≡ given d o k
  no-mark e = missed d o k (rw e at is)

module _ (run : List ℕ) {B : Type 0} (d : B) (o : Option Text) (k : Text → B) (r : Option TextRange) (is : text_in run r ≡ o) where
  pub given-text : (R : B) (t : TextRange) → r ≡ Some t → R ≡ k (part_in run t) → R ≡ given d o k
  given-text R t e g = found d R o k (part_in run t) (rw e at is) g

  pub no_text : r ≡ None → d ≡ given d o k
  no_text e = missed d o k (rw e at is)

module _ (run : List ℕ) {B : Type 0} (d : B) (o : Option Sandbox) (k : Sandbox → B) (r : Option SandboxRange) (is : sandbox_in run r ≡ o) where
  pub given-sandbox : (R : B) (t : SandboxRange) → r ≡ Some t → R ≡ k (sandbox_range run t) → R ≡ given d o k
  given-sandbox R t e g = found d R o k (sandbox_range run t) (rw e at is) g

  pub no-sandbox : r ≡ None → d ≡ given d o k
  no-sandbox e = missed d o k (rw e at is)

module _ (run : List ℕ) {B : Type 0} (d : B) (o : Option Attributes) (k : Attributes → B) (r : Option AttributeRanges) (is : attribute_fields_in run r ≡ o) where
  pub given-attributes : (R : B) (t : AttributeRanges) → r ≡ Some t → R ≡ k (attributes_in run t) → R ≡ given d o k
  given-attributes R t e g = found d R o k (attributes_in run t) (rw e at is) g

  pub no-attributes : r ≡ None → d ≡ given d o k
  no-attributes e = missed d o k (rw e at is)

pub ruleset givens = (given-number, no_number, given-mark, no-mark, given-text, no_text, given-sandbox, no-sandbox, given-attributes, no-attributes, itself)

-- how many fields there are
module _ (run : List ℕ) (fs : List FieldState) where
  pub said-long : length (said_in run fs) ≡ length fs
  unfolding said_in
  said-long = omega (arith, length-map (fields_from run 0 fs) kept_says, fields-long run 0 fs)

  pub fields-hit : (n : ℕ) (R l : Line) → length fs ≡ n → R ≡ l → R ≡ of_fields n (said_in run fs) l
  unfolding of_fields pick
  fields-hit n R l e g = rw (said-long, eq-eqb (length fs) n e) g

  pub fields-miss : (n : ℕ) (l : Line) → (length fs ≡ n → ⊥) → bad_line ≡ of_fields n (said_in run fs) l
  unfolding of_fields pick
  fields-miss n l e = rw (said-long, ne_eqb (length fs) n e)

pub ruleset rows = (fields-hit, fields-miss, givens)
