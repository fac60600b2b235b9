-- One name to compute with: to unfold it is to unfold every definition of this crate and of the crates below.
use Rattle.origins.specs.Computing.{computing as origins-computing}
use Rattle.allowlists.specs.Allowlists.{source_meaning, with_source, some_is, sources_of, allowlist, allowlist_of, any_admits, list_admits, some_admits, meaning_admits}

unfoldable pub computing : Unit {0}
unfolding origins-computing source_meaning with_source some_is sources_of allowlist allowlist_of any_admits list_admits some_admits meaning_admits
computing = tt
