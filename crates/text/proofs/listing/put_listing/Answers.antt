-- `text::listing::put_listing` meets its contract.
use Rattle.layout.specs.Numbers.{ascii}
use Rattle.layout.proofs.Adding.{adds_three, adds_whole}
use Rattle.text.specs.Lines.{head_text, head_line}
use Rattle.text.specs.Listing.{listing_of}
use Rattle.text.proofs.listing.put_listing.Goals as goal

pub returns : goal.returns
unfolding listing_of head_line head_text ascii
returns c = adds_whole c.new-writer.ensures.bytes c.new-writer.ensures.start c.len.ensures (adds_three c.put_bytes.ensures c.put_word_lines.ensures c.put_end_line.ensures)
