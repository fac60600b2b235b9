-- One name to compute with: to unfold it is to unfold every definition of this crate and of the crates below.
use Rattle.pieces.specs.Computing.{computing as pieces-computing}
use Rattle.containers.specs.Policies.{entry_else, allowed_fullscreen, has_default_star, keyword_of, keyword_stands, sandbox_closes, closes_plugins, attribute_policy, container_policy}
use Rattle.containers.specs.Sandboxes.{sandbox_words, without_same_origin, is_sandboxed, src_origin, fresh_if, declared_origin}

unfoldable pub computing : Unit {0}
unfolding pieces-computing entry_else allowed_fullscreen has_default_star keyword_of keyword_stands sandbox_closes closes_plugins attribute_policy container_policy sandbox_words without_same_origin is_sandboxed src_origin fresh_if declared_origin
computing = tt
