-- `host_part` is right: `*`, `*.` and a host are tested as in the definition, over the text in lower case.
use Rattle.origins.proofs.HostParts.{host-any, host-subdomains, host-no-subdomains, host-exact, host-no-exact}
use Rattle.origins.proofs.Readers.{starts-lowered-long}
use Rattle.origins.proofs.host_part.Goals as goal

pub returns-then-same_lowered : goal.returns-then-same_lowered
returns-then-same_lowered c = host-any _ _ c.same_lowered.ensures c.if-same_lowered.true

pub returns-then-is_host : goal.returns-then-is_host
returns-then-is_host c = host-subdomains _ _ c.same_lowered.ensures c.if-same_lowered.false _ c.starts_lowered.ensures c.if-starts_lowered.true _ c.is_host.ensures c.if-is_host.true

pub returns-then-starts_lowered : goal.returns-then-starts_lowered
returns-then-starts_lowered c = host-no-subdomains _ _ c.same_lowered.ensures c.if-same_lowered.false _ c.starts_lowered.ensures c.if-starts_lowered.true _ c.is_host.ensures c.if-is_host.false

pub returns-then-is_host-2 : goal.returns-then-is_host-2
returns-then-is_host-2 c = host-exact _ _ c.same_lowered.ensures c.if-same_lowered.false _ c.starts_lowered.ensures c.if-starts_lowered.false _ c.is_host-2.ensures c.if-is_host-2.true

pub returns-else-is_host-2 : goal.returns-else-is_host-2
returns-else-is_host-2 c = host-no-exact _ _ c.same_lowered.ensures c.if-same_lowered.false _ c.starts_lowered.ensures c.if-starts_lowered.false _ c.is_host-2.ensures c.if-is_host-2.false

pub slice_bounds-is_host-count : goal.slice_bounds-is_host-count
slice_bounds-is_host-count c = starts-lowered-long _ _ _ c.starts_lowered.ensures c.if-starts_lowered.true

pub slice_bounds-is_host-start : goal.slice_bounds-is_host-start
slice_bounds-is_host-start c = starts-lowered-long _ _ _ c.starts_lowered.ensures c.if-starts_lowered.true
