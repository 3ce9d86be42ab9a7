-- `report::lines::word_count` meets its contract: cutting words to 16 bits leaves as many.
use lib.ListN.{length-map}
use Prim.Native.Nat.{◌%◌}
use Rattle.orders.specs.Words.{words_of}
use Rattle.orders.specs.Encoding.{words_cut, listed}
use Rattle.report.proofs.lines.word_count.Goals as goal

pub returns : goal.returns
unfolding listed words_cut
returns c = rw c.words-words.ensures (length-map (words_of c.args.order) (λ w. w % 65536))
