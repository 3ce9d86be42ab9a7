-- `requests::table::Row::is_word_of` meets its contract.
use Rattle.requests.specs.Codec.{is_word_of}
use Rattle.requests.proofs.table.Row.is_word_of.Goals as goal

pub returns : goal.returns
unfolding is_word_of
returns c = cc
