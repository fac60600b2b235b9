-- What the functions that put an answer's text promise.
use Rattle.std.specs.Prelude.{ℕ, ◌^◌, ◌<◌, ◌≤◌, List, ◌++◌, length}
use Rattle.ascii.specs.Decimals.{decimal_text}
use Rattle.writing.specs.Writing.{Puts}
use Rattle.replay_answers.specs.Texts.{answer_bytes}

-- the text was put, and it is no longer than the longest answer
pub record Says (before : List ℕ) (at : ℕ) (t after : List ℕ) (r : ℕ) : Type 0 where
  pub puts : Puts before at t after r
  pub short : length t ≤ answer_bytes

-- the same of an answer that shows a lent run: it is no longer than the longest where the run is within its limit
pub record SaysOf (limit : ℕ) (run before : List ℕ) (at : ℕ) (t after : List ℕ) (r : ℕ) : Type 0 where
  pub puts : Puts before at t after r
  pub short : length run ≤ limit → length t ≤ answer_bytes

-- words and a number were put, and the number fits 64 bits
pub record Numbers (before : List ℕ) (at : ℕ) (words : List ℕ) (n : ℕ) (after : List ℕ) (r : ℕ) : Type 0 where
  pub puts : Puts before at (words ++ decimal_text n) after r
  pub small : n < 2 ^ 64
