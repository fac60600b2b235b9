-- `expression` is right: a scheme alone and the two schemes with a host are tested in the order of the definition.
use Rattle.origins.proofs.Readers.{starts-lowered-long, source-http, source-https, source-http-host, source-https-host, source-other}
use Rattle.origins.proofs.expression.Goals as goal

pub returns-then-same_lowered : goal.returns-then-same_lowered
returns-then-same_lowered c = source-http _ _ c.same_lowered.ensures c.if-same_lowered.true _ c.scheme_source.ensures

pub returns-then-same_lowered-2 : goal.returns-then-same_lowered-2
returns-then-same_lowered-2 c = source-https _ _ c.same_lowered.ensures c.if-same_lowered.false _ c.same_lowered-2.ensures c.if-same_lowered-2.true _ c.scheme_source-then-same_lowered-2.ensures

pub host_source-requires : goal.host_source-requires
host_source-requires c = starts-lowered-long _ _ _ c.starts_lowered.ensures c.if-starts_lowered.true

pub returns-then-starts_lowered : goal.returns-then-starts_lowered
returns-then-starts_lowered c = source-http-host _ _ c.same_lowered.ensures c.if-same_lowered.false _ c.same_lowered-2.ensures c.if-same_lowered-2.false _ c.starts_lowered.ensures c.if-starts_lowered.true _ c.host_source.ensures

pub host_source-requires-then-starts_lowered-2 : goal.host_source-requires-then-starts_lowered-2
host_source-requires-then-starts_lowered-2 c = starts-lowered-long _ _ _ c.starts_lowered-2.ensures c.if-starts_lowered-2.true

pub returns-then-starts_lowered-2 : goal.returns-then-starts_lowered-2
returns-then-starts_lowered-2 c = source-https-host _ _ c.same_lowered.ensures c.if-same_lowered.false _ c.same_lowered-2.ensures c.if-same_lowered-2.false _ c.starts_lowered.ensures c.if-starts_lowered.false _ c.starts_lowered-2.ensures c.if-starts_lowered-2.true _ c.host_source-then-starts_lowered-2.ensures

pub returns : goal.returns
returns c = source-other _ _ c.same_lowered.ensures c.if-same_lowered.false _ c.same_lowered-2.ensures c.if-same_lowered-2.false _ c.starts_lowered.ensures c.if-starts_lowered.false _ c.starts_lowered-2.ensures c.if-starts_lowered-2.false
