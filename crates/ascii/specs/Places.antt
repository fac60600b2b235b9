-- What the code's answers, places of a text, say of the readings.
use Rattle.std.specs.Prelude.{Bool, ℕ, ◌-◌, ◌*◌, ◌^◌, ◌≤◌, ◌<◌, min, ◌≡◌, List, length, drop}
use Rattle.std.specs.Prelude.{Option, Some, None}
use Rattle.ascii.specs.Reading.{Parsed, Step, head_of, past}
use Rattle.ascii.specs.Reading.Parsed.{parsed, malformed}
use Rattle.ascii.specs.Reading.Step.{more, done, fail}
use Rattle.ascii.specs.declared.Turn.{Turn}
use Rattle.ascii.specs.declared.Turn.TheVariants as turn

-- the byte at a place is the first of what stands there, 0 past the end; one that is not 0 stands within the text
pub record IsByte (s : List ℕ) (at r : ℕ) : Type 0 where
  pub is : r ≡ head_of (drop at s)
  pub there : r ≤ 255 * (length s - at)

-- a run of bytes that pass a test: from the answer on stands what is left past it, and the answer is a place of the text
pub record IsRun (p : ℕ → Bool) (s : List ℕ) (at r : ℕ) : Type 0 where
  pub is : drop r s ≡ past p (drop at s)
  pub from : min at (length s) ≤ r
  pub upto : r ≤ length s

-- what is left, by a reading and by an answer
unfoldable pub rest_of : {A : Type 0} → Parsed A → Option (List ℕ)
rest_of (parsed a l) = Some l
rest_of malformed = None

unfoldable pub left_at : List ℕ → Option ℕ → Option (List ℕ)
left_at s (Some q) = Some (drop q s)
left_at s None = None

-- the place that an answer names, as a bound from below and from above
abbrev pub low : Option ℕ → ℕ
low (Some q) = q
low None = 2 ^ 64

abbrev pub high : Option ℕ → ℕ
high (Some q) = q
high None = 0

-- the answer is the reading's, lies past its start, and within the text
pub record IsRead {A : Type 0} (s : List ℕ) (at : ℕ) (r : Option ℕ) (want : Parsed A) : Type 0 where
  pub is : left_at s r ≡ rest_of want
  pub past : at < low r
  pub upto : high r ≤ length s

-- the same, where nothing need be read
pub record IsFrom {A : Type 0} (s : List ℕ) (at : ℕ) (r : Option ℕ) (want : Parsed A) : Type 0 where
  pub is : left_at s r ≡ rest_of want
  pub from : min at (length s) ≤ low r
  pub upto : high r ≤ length s

-- a turn, without what it adds
pub data Went : Type 0 where
  goes : List ℕ → Went
  ends : List ℕ → Went
  fails : Went

unfoldable pub went_of : {A : Type 0} → Step A → Went
went_of (more a l) = goes l
went_of (done a l) = ends l
went_of fail = fails

unfoldable pub went_at : List ℕ → Option Turn → Went
went_at s (Some (turn.More q)) = goes (drop q s)
went_at s (Some (turn.Done q)) = ends (drop q s)
went_at s None = fails

abbrev pub low_more : Option Turn → ℕ
low_more (Some (turn.More q)) = q
low_more (Some (turn.Done q)) = 2 ^ 64
low_more None = 2 ^ 64

abbrev pub low_done : Option Turn → ℕ
low_done (Some (turn.More q)) = 2 ^ 64
low_done (Some (turn.Done q)) = q
low_done None = 2 ^ 64

abbrev pub high_turn : Option Turn → ℕ
high_turn (Some (turn.More q)) = q
high_turn (Some (turn.Done q)) = q
high_turn None = 0

-- the answer is the turn's; one that another follows takes at least a byte
pub record IsTurn {A : Type 0} (s : List ℕ) (at : ℕ) (r : Option Turn) (want : Step A) : Type 0 where
  pub is : went_at s r ≡ went_of want
  pub past : at < low_more r
  pub from : at ≤ low_done r
  pub upto : high_turn r ≤ length s
