-- `listing_numbers` is right: each arm is a case of the definition.
use Rattle.speed_exports.proofs.Answers.{listed-few, listing-told, listing-refused}
use Rattle.speed_exports.proofs.listing_numbers.Goals as goal

pub narrow-requires : goal.narrow-requires
narrow-requires c = search listed-few

pub returns-in-Ok : goal.returns-in-Ok
returns-in-Ok c = search listing-told

pub returns-in-Err : goal.returns-in-Err
returns-in-Err c = search listing-refused
