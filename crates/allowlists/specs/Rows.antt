-- What a table of examples says of the list that there may be: none, `*`, or a list by its parts.
use Prim.Native.String.{String}
use Rattle.std.specs.Prelude.{List, [], ◌∷◌, Bool, true, false, not}
use Rattle.std.specs.Prelude.{Option, Some, None}
use Rattle.ascii.specs.Bytes.{pick}
use Rattle.ascii.specs.Literals.{text}
use Rattle.ascii.specs.Texts.{same_bytes}
use Rattle.origins.specs.Expressions.{SourceExpression}
use Rattle.origins.specs.NormalForms.{expression_text}
use Rattle.allowlists.specs.Allowlists.{Allowlist}
use Rattle.allowlists.specs.Allowlists.Allowlist.{all, listed}

abbrev pub same_bool : Bool → Bool → Bool
same_bool true b = b
same_bool false b = not b

abbrev pub same_texts : List SourceExpression → List String → Bool
same_texts [] [] = true
same_texts [] (t ∷ ts) = false
same_texts (e ∷ es) [] = false
same_texts (e ∷ es) (t ∷ ts) = pick (same_bytes (expression_text e) (text t)) (same_texts es ts) false

abbrev pub is_absent : Option Allowlist → Bool
is_absent (Some l) = false
is_absent None = true

abbrev pub is_everything : Option Allowlist → Bool
is_everything (Some all) = true
is_everything (Some (listed a b es)) = false
is_everything None = false

-- with the self-origin or without, with the src-origin or without, and the texts of its expressions
abbrev pub is_list : Bool → Bool → List String → Option Allowlist → Bool
is_list self src ts (Some all) = false
is_list self src ts (Some (listed a b es)) = pick (same_bool self a) (pick (same_bool src b) (same_texts es ts) false) false
is_list self src ts None = false
