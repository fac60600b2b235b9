-- The numbers of the refusals: the table of document 01, "The table of loaded documents", row by row.
use Rattle.std.specs.Prelude.{ℕ}
use Rattle.limits.specs.declared.Refusal.{Refusal}
use Rattle.limits.specs.declared.Refusal.TheVariants.{NotLoaded, NoSuchFeature, BadOrigin, TooLong, Sandbox, Full, Spent, NotADictionary, Small}

abbrev pub refusal_number : Refusal → ℕ
refusal_number NotLoaded = 1
refusal_number NoSuchFeature = 2
refusal_number BadOrigin = 3
refusal_number TooLong = 4
refusal_number Sandbox = 5
refusal_number Full = 6
refusal_number Spent = 7
refusal_number NotADictionary = 8
refusal_number Small = 9
