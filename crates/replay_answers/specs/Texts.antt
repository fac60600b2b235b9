-- The replay format's second table: the text of each answer, without its line feed.
use Rattle.limits.specs.declared.Refusal.{Refusal}
use Rattle.std.specs.Prelude.{Result, Ok, Err}
use Rattle.std.specs.Prelude.{ℕ, ◌+◌, ◌^◌, ◌<◌, ◌≤◌, Bool, true, false, List, [], ◌∷◌, ◌++◌, length, take, get_or}
use Rattle.limits.specs.Limits.{text_bytes, document_limit}
use Rattle.limits.specs.Refusals.{refusal_number}
use Rattle.ascii.specs.Literals.{text}
use Rattle.ascii.specs.Decimals.{decimal_text}
use Rattle.decisions.specs.Decisions.{Decision}
use Rattle.decisions.specs.Decisions.Decision.{disabled, enabled}
use Rattle.document_model.specs.Model.{Text, Answer, refused, loaded, removed, decision, features, serials}

-- "`refused N`: a refusal, by its number"
unfoldable pub refused_text : ℕ → Text
refused_text n = text "refused " ++ decimal_text n

-- "`loaded N malformed`: an accepted load whose header was malformed"
unfoldable pub malformed_mark : Bool → Text
malformed_mark true = text " malformed"
malformed_mark false = []

-- "`Enabled` / `Disabled`: an accepted question"
unfoldable pub decision_text : Decision → Text
decision_text enabled = text "Enabled"
decision_text disabled = text "Disabled"

-- "S1 S2 ..", each after one space
unfoldable pub serials_text : List ℕ → Text
serials_text [] = []
serials_text (n ∷ ns) = text " " ++ decimal_text n ++ serials_text ns

-- "`beneath N S1 S2 ..`: the listing: count and serials"; "`beneath 0` has none", no space either
unfoldable pub beneath_text : ℕ → List ℕ → Text
beneath_text n ns = text "beneath " ++ decimal_text n ++ serials_text ns

-- "Answers, a line each": those of the calls on the table
unfoldable pub answer_text : Answer → Text
answer_text (refused n) = refused_text n
answer_text (loaded n malformed) = text "loaded " ++ decimal_text n ++ malformed_mark malformed
answer_text (removed n) = text "unloaded " ++ decimal_text n
answer_text (decision d) = decision_text d
answer_text (features m) = text "features " ++ decimal_text m
answer_text (serials n run) = beneath_text n (take n run)

-- "`tidied TEXT`: the tidied form"; "an empty form has its one space and nothing after it"
abbrev pub tidied_text : Text → Text
tidied_text t = text "tidied " ++ t

-- the answer of tidying, with the lent run afterwards
unfoldable pub tidy_text : Result ℕ Refusal → List ℕ → Text
tidy_text (Ok n) run = tidied_text (take n run)
tidy_text (Err n) run = refused_text (refusal_number n)

-- "`bad line`: the line is none of the calls"
abbrev pub bad_line_text : Text
bad_line_text = text "bad line"

-- the longest answer's length, a tidied form's, without its line feed
abbrev pub answer_bytes : ℕ
answer_bytes = 7 + text_bytes

-- answers whose numbers fit 64 bits, and that list at most as many serials as documents can be loaded
unfoldable pub Given : Answer → Type 0
Given (refused n) = n < 2 ^ 64
Given (loaded n malformed) = n < 2 ^ 64
Given (removed n) = n < 2 ^ 64
Given (decision d) = Unit {0}
Given (features m) = m < 2 ^ 64
Given (serials n run) = (n < 2 ^ 64) × (length (take n run) ≤ document_limit) × ((i : ℕ) → get_or run i 0 < 2 ^ 64)
