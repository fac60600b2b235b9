-- `byte` is right: the library finds what stands at the place, or nothing past the end.
use Rattle.std.proofs.Common.{◌∙◌, ap, arith}
use Rattle.std.specs.Prelude.{unwrap_or}
use Rattle.ascii.proofs.Library.{byte-found}
use Rattle.ascii.proofs.byte.Goals as goal

pub returns : goal.returns
returns c = byte-found _ _ _ c.unwrap_or.type_inv (c.unwrap_or.ensures ∙ (ap (λ o. unwrap_or o 0) c.copied.ensures ∙ c.get.ensures.lookup.4 (omega arith) 0))
