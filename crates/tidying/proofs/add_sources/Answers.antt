use Rattle.std.proofs.Common.{rules}
use Rattle.tidying.proofs.Listing.{passed_start, passed_on, listing_start, listing-on, listing-short, listing-end}
use Rattle.tidying.proofs.Indexing.{indexed-start, indexed-on, place-narrow}
use Rattle.tidying.proofs.add_sources.Goals as goal

pub loop-i-init : goal.loop-i-init
loop-i-init c = (search passed_start, search indexed-start, search listing_start)

pub add_source-any-requires : goal.add_source-any-requires
add_source-any-requires c = (search place-narrow, search rules)

pub loop-i-preserved : goal.loop-i-preserved
loop-i-preserved c = (search passed_on, search indexed-on, search listing-on)

pub returns-in_default : goal.returns-in_default
returns-in_default c = search listing-short

pub returns : goal.returns
returns c = search listing-end
