-- What the code's answers say, in the terms of allowlists.
use Rattle.std.specs.Prelude.{ℕ, List, Bool, true, false}
use Rattle.std.specs.Prelude.{Option, Some, None}
use Rattle.origins.specs.Answers.{expression_range, expression_in}
use Rattle.allowlists.specs.Allowlists.{Meaning}
use Rattle.allowlists.specs.Allowlists.Meaning.{star, self, src, source, nothing}
use Rattle.allowlists.specs.declared.MeaningRange.{MeaningRange}
use Rattle.allowlists.specs.declared.MeaningRange.TheVariants as range

-- the answer for a meaning
abbrev pub meaning_as : Meaning → Option MeaningRange
meaning_as star = Some range.All
meaning_as self = Some range.SelfOrigin
meaning_as src = Some range.SrcOrigin
meaning_as (source e) = Some (range.Source (expression_range e))
meaning_as nothing = None

-- the meaning that an answer says beside the text that was read
abbrev pub meaning_in : List ℕ → Option MeaningRange → Meaning
meaning_in x (Some range.All) = star
meaning_in x (Some range.SelfOrigin) = self
meaning_in x (Some range.SrcOrigin) = src
meaning_in x (Some (range.Source e)) = source (expression_in x e)
meaning_in x None = nothing
