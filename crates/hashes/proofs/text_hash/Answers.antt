use Rattle.hashes.proofs.Steps.{hash-more, hash-end}
use Rattle.hashes.proofs.text_hash.Goals as goal

pub loop-b-preserved : goal.loop-b-preserved
loop-b-preserved c = search hash-more

pub returns : goal.returns
returns c = search hash-end
