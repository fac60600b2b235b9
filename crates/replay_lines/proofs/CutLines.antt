-- A call whose fields are cut is the call, cut; and a line with too many fields is no call. Assumes nothing.
use mathlib.Core.Path.{◌≡◌, refl, ap, ◌∙◌, sym}
use Prim.Native.Nat.{ℕ, ◌+◌, ◌≤◌, ◌<◌}
use mathlib.Core.List.{List, map}
use mathlib.Core.Bool.{Bool, true, false}
use Rattle.std.specs.Prelude.{Option, Some, None}
use native.Mathlib.Omega.{arith}
use lib.ListN.{length, get_or, length-map, get_or-map}
use lib.Dec.{eqb}
use borrow.Author.Tests.{ne_eqb}
use Rattle.ascii.specs.Bytes.{pick}
use Rattle.containers.specs.Attributes.{Attributes}
use Rattle.replay_lines.specs.Format.{Text, Line, Said, Sandbox, nothing, given, or_bad, of_fields, number_at, text_at, mark_at, sandbox_at, attributes_at, top_row, frame_row, unload_row, ask_row, enabled_row, beneath_row, forecast_row, tidy_row, row_of, call_of}
use Rattle.replay_lines.specs.Format.Line.{bad_line}
use Rattle.replay_lines.specs.Reading.{field_limit, cut, cut_attributes, cut_line}
use Rattle.replay_lines.specs.declared.CallName.{CallName}
use Rattle.replay_lines.specs.declared.CallName.TheVariants as name

-- a reading's value, changed
unfoldable pub changed : {A : Type 0} → (A → A) → Option A → Option A
changed f (Some a) = Some (f a)
changed f None = None

abbrev pub cut_box : Sandbox → Sandbox
cut_box b = record { stands = b.stands; attribute = cut b.attribute }

-- what a field says, its texts cut
unfoldable pub cut_said : Said → Said
cut_said f = record { name = f.name; number = f.number; mark = f.mark; sandbox = changed cut_box f.sandbox; decoded = changed cut f.decoded }

cut-nothing : cut_said nothing ≡ nothing
unfolding cut_said changed
cut-nothing = refl

-- what follows from a value that is changed, or from the same
pass : {A B : Type 0} (f : A → A) (c : B → B) (d : B) → d ≡ c d → (o : Option A) (k l : A → B) → ((a : A) → l (f a) ≡ c (k a)) → given d (changed f o) l ≡ c (given d o k)
unfolding given changed
pass f c d e (Some a) k l h = h a
pass f c d e None k l h = e

same : {A B : Type 0} (c : B → B) (d : B) → d ≡ c d → (o : Option A) (k l : A → B) → ((a : A) → l a ≡ c (k a)) → given d o l ≡ c (given d o k)
unfolding given
same c d e (Some a) k l h = h a
same c d e None k l h = e

module _ (fs : List Said) where
  cut-at : (j : ℕ) → get_or (map cut_said fs) j nothing ≡ cut_said (get_or fs j nothing)
  cut-at j = ap (λ (d : Said). get_or (map cut_said fs) j d) (sym cut-nothing) ∙ get_or-map cut_said fs j nothing

  name-same : (j : ℕ) → (get_or (map cut_said fs) j nothing).name ≡ (get_or fs j nothing).name
  unfolding cut_said
  name-same j = ap (λ (x : Said). x.name) (cut-at j)

  number_same : (j : ℕ) → number_at (map cut_said fs) j ≡ number_at fs j
  unfolding cut_said
  number_same j = ap (λ (x : Said). x.number) (cut-at j)

  mark-same : (j : ℕ) → mark_at (map cut_said fs) j ≡ mark_at fs j
  unfolding cut_said
  mark-same j = ap (λ (x : Said). x.mark) (cut-at j)

  text-cut : (j : ℕ) → text_at (map cut_said fs) j ≡ changed cut (text_at fs j)
  unfolding cut_said
  text-cut j = ap (λ (x : Said). x.decoded) (cut-at j)

  sandbox-cut : (j : ℕ) → sandbox_at (map cut_said fs) j ≡ changed cut_box (sandbox_at fs j)
  unfolding cut_said
  sandbox-cut j = ap (λ (x : Said). x.sandbox) (cut-at j)

  -- what follows from a reading of a field
  module _ {B : Type 0} (c : B → B) (d : B) (e : d ≡ c d) (j : ℕ) where
    by_number : (k l : ℕ → B) → ((n : ℕ) → l n ≡ c (k n)) → given d (number_at (map cut_said fs) j) l ≡ c (given d (number_at fs j) k)
    by_number k l h = ap (λ (o : Option ℕ). given d o l) (number_same j) ∙ same c d e (number_at fs j) k l h

    by-mark : (k l : Bool → B) → ((b : Bool) → l b ≡ c (k b)) → given d (mark_at (map cut_said fs) j) l ≡ c (given d (mark_at fs j) k)
    by-mark k l h = ap (λ (o : Option Bool). given d o l) (mark-same j) ∙ same c d e (mark_at fs j) k l h

    by-text : (k l : Text → B) → ((t : Text) → l (cut t) ≡ c (k t)) → given d (text_at (map cut_said fs) j) l ≡ c (given d (text_at fs j) k)
    by-text k l h = ap (λ (o : Option Text). given d o l) (text-cut j) ∙ pass cut c d e (text_at fs j) k l h

    by-sandbox : (k l : Sandbox → B) → ((b : Sandbox) → l (cut_box b) ≡ c (k b)) → given d (sandbox_at (map cut_said fs) j) l ≡ c (given d (sandbox_at fs j) k)
    by-sandbox k l h = ap (λ (o : Option Sandbox). given d o l) (sandbox-cut j) ∙ pass cut_box c d e (sandbox_at fs j) k l h

  attributes-cut : (j : ℕ) → attributes_at (map cut_said fs) j ≡ changed cut_attributes (attributes_at fs j)
  unfolding attributes_at changed
  attributes-cut j =
      by-text (changed cut_attributes) None refl j _ _ λ src.
      by-mark (changed cut_attributes) None refl (j + 1) _ _ λ fullscreen.
      by-text (changed cut_attributes) None refl (j + 2) _ _ λ allow.
      by-sandbox (changed cut_attributes) None refl (j + 3) _ _ λ box. refl

  a-number : (j : ℕ) (k l : ℕ → Line) → ((n : ℕ) → l n ≡ cut_line (k n)) → or_bad (number_at (map cut_said fs) j) l ≡ cut_line (or_bad (number_at fs j) k)
  a-number = by_number cut_line bad_line refl

  a-text : (j : ℕ) (k l : Text → Line) → ((t : Text) → l (cut t) ≡ cut_line (k t)) → or_bad (text_at (map cut_said fs) j) l ≡ cut_line (or_bad (text_at fs j) k)
  a-text = by-text cut_line bad_line refl

  some-attributes : (j : ℕ) (k l : Attributes → Line) → ((a : Attributes) → l (cut_attributes a) ≡ cut_line (k a)) → or_bad (attributes_at (map cut_said fs) j) l ≡ cut_line (or_bad (attributes_at fs j) k)
  some-attributes j k l h = ap (λ (o : Option Attributes). or_bad o l) (attributes-cut j) ∙ pass cut_attributes cut_line bad_line refl (attributes_at fs j) k l h

  of-fields : (n : ℕ) (k l : Line) → l ≡ cut_line k → of_fields n (map cut_said fs) l ≡ cut_line (of_fields n fs k)
  unfolding of_fields
  of-fields n k l h = go (eqb (length fs) n) (ap (λ (m : ℕ). eqb m n) (length-map fs cut_said))
    where
      go : (b : Bool) → eqb (length (map cut_said fs)) n ≡ b → pick (eqb (length (map cut_said fs)) n) l bad_line ≡ cut_line (pick b k bad_line)
      go true e = unfold pick in rw e h
      go false e = unfold pick in rw e

  -- the rows
  cut-row : (r : Option CallName) → row_of r (map cut_said fs) ≡ cut_line (row_of r fs)
  unfolding top_row frame_row unload_row ask_row enabled_row beneath_row forecast_row tidy_row
  cut-row (Some name.Top) = of-fields 3 _ _ (a-text 1 _ _ λ o. a-text 2 _ _ λ h. refl)
  cut-row (Some name.Frame) = of-fields 8 _ _ (a-number 1 _ _ λ c. a-text 2 _ _ λ o. some-attributes 3 _ _ λ a. a-text 7 _ _ λ h. refl)
  cut-row (Some name.Unload) = of-fields 2 _ _ (a-number 1 _ _ λ s. refl)
  cut-row (Some name.Ask) = of-fields 4 _ _ (a-number 1 _ _ λ s. a-number 2 _ _ λ f. a-text 3 _ _ λ o. refl)
  cut-row (Some name.Enabled) = of-fields 2 _ _ (a-number 1 _ _ λ s. refl)
  cut-row (Some name.Beneath) = of-fields 3 _ _ (a-number 1 _ _ λ s. a-number 2 _ _ λ r. refl)
  cut-row (Some name.Forecast) = of-fields 6 _ _ (a-number 1 _ _ λ c. some-attributes 2 _ _ λ a. refl)
  cut-row (Some name.Tidy) = of-fields 3 _ _ (a-number 1 _ _ λ r. a-text 2 _ _ λ h. refl)
  cut-row None = refl

  pub cut-call : call_of (map cut_said fs) ≡ cut_line (call_of fs)
  unfolding call_of
  cut-call = ap (λ (r : Option CallName). row_of r (map cut_said fs)) (name-same 0) ∙ cut-row (get_or fs 0 nothing).name

  -- no row has so many fields
  module _ (h : field_limit < length fs) where
    too-many : (n : ℕ) (l : Line) → n ≤ field_limit → of_fields n fs l ≡ bad_line
    unfolding of_fields pick
    too-many n l g = rw (ne_eqb (length fs) n (λ e. absurd (omega arith)))

    bad-row : (r : Option CallName) → row_of r fs ≡ bad_line
    unfolding top_row frame_row unload_row ask_row enabled_row beneath_row forecast_row tidy_row
    bad-row (Some name.Top) = too-many 3 _ (omega arith)
    bad-row (Some name.Frame) = too-many 8 _ (omega arith)
    bad-row (Some name.Unload) = too-many 2 _ (omega arith)
    bad-row (Some name.Ask) = too-many 4 _ (omega arith)
    bad-row (Some name.Enabled) = too-many 2 _ (omega arith)
    bad-row (Some name.Beneath) = too-many 3 _ (omega arith)
    bad-row (Some name.Forecast) = too-many 6 _ (omega arith)
    bad-row (Some name.Tidy) = too-many 3 _ (omega arith)
    bad-row None = refl

    pub many-bad : call_of fs ≡ bad_line
    unfolding call_of
    many-bad = bad-row (get_or fs 0 nothing).name
