-- The replay format's answers, row by row, by computation.
use Rattle.limits.specs.declared.Refusal.{Refusal}
use Rattle.std.specs.Prelude.{Result, Ok, Err, ℕ}
use Prim.Native.String.{String}
use Rattle.std.specs.Prelude.{◌≡◌, refl, Bool, true, false, List, [], ◌∷◌}
use Rattle.ascii.specs.Literals.{text}
use Rattle.ascii.specs.Texts.{every, same_bytes}
use Rattle.limits.specs.declared.Refusal.TheVariants.{Small}
use Rattle.decisions.specs.Decisions.Decision.{disabled, enabled}
use Rattle.document_model.specs.Model.{Answer, refused, loaded, removed, decision, features, serials}
use Rattle.replay_answers.specs.Texts.{answer_text, tidy_text}
use Rattle.replay_answers.specs.Computing.{computing}

-- an answer and its text; an answer of tidying, the lent run and its text
data Row : Type 0 where
  says : Answer → String → Row
  tidies : Result ℕ Refusal → String → String → Row

abbrev right : Row → Bool
right (says a t) = same_bytes (answer_text a) (text t)
right (tidies a run t) = same_bytes (tidy_text a (text run)) (text t)

rows : List Row
rows =
    says (loaded 1 false) "loaded 1"
    ∷ says (loaded 4294967295 true) "loaded 4294967295 malformed"
    ∷ says (removed 16) "unloaded 16"
    ∷ says (decision enabled) "Enabled"
    ∷ says (decision disabled) "Disabled"
    ∷ says (features 0) "features 0"
    ∷ says (features 131071) "features 131071"
    ∷ says (serials 0 []) "beneath 0"
    ∷ says (serials 2 (3 ∷ 10 ∷ 7 ∷ [])) "beneath 2 3 10"
    ∷ says (refused 1) "refused 1"
    ∷ says (refused 9) "refused 9"
    ∷ tidies (Ok 8) "camera=*....." "tidied camera=*"
    ∷ tidies (Ok 0) "....." "tidied "
    ∷ tidies (Err Small) "....." "refused 9"
    ∷ []

rows_right : every right rows ≡ true
unfolding computing rows
rows_right = refl
