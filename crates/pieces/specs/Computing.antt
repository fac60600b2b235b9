-- One name to compute with: to unfold it is to unfold every definition of this crate and of the crates below.
use Rattle.features.specs.Computing.{computing as features-computing}
use Rattle.allowlists.specs.Computing.{computing as allowlists-computing}
use Rattle.pieces.specs.Pieces.{non_empty, words, pieces_of, feature_in, is_for, further_words, last_for, entry_of, has_keyword}
use Rattle.pieces.specs.Words.{word_meaning, entry_list}
use Rattle.pieces.specs.Answers.{word_at, past_first, range_at, piece_entry, last_at, entry_at}

unfoldable pub computing : Unit {0}
unfolding features-computing allowlists-computing non_empty words pieces_of feature_in is_for further_words last_for entry_of has_keyword word_meaning entry_list word_at past_first range_at piece_entry last_at entry_at
computing = tt
