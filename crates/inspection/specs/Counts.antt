-- What is counted over a list: ignored words, exposures, those with an incomplete mirror set, and those while something moves.
-- Assumes nothing.
use Rattle.std.specs.Prelude.{ℕ, ◌+◌, Bool, not, ◌&&◌, List, [], ◌∷◌, ltb}
use Rattle.head.specs.Busy.{at_rest}
use Rattle.head.specs.Numbers.{is_cause}
use Rattle.head.specs.List.{stepped}
use Rattle.head.specs.declared.state.Head.{Head}
use Rattle.layout.specs.Numbers.{bit}
use Rattle.inspection.specs.Notes.{is_exposure}
use Rattle.inspection.specs.Rows.{number_of}
use Rattle.inspection.specs.declared.counts.Counts.{Counts}

abbrev pub none : Counts
none = record { ignored = 0; exposures = 0; incomplete = 0; moving = 0 }

-- One word more, with the number of its outcome, the words received of a mirror set, and whether nothing moves.
unfoldable pub counted : Counts → ℕ → ℕ → Bool → Counts
counted c n begun rest =
    record {
      ignored = c.ignored + bit (is_cause n);
      exposures = c.exposures + bit (is_exposure n);
      incomplete = c.incomplete + bit (is_exposure n && ltb 0 begun);
      moving = c.moving + bit (is_exposure n && not rest);
    }

unfoldable pub counts_from : Counts → List ℕ → List ℕ → Head → Counts
counts_from c [] ts s = c
counts_from c (w ∷ ws) [] s = c
counts_from c (w ∷ ws) (t ∷ ts) s = counts_from (counted c (number_of s w) s.begun.count (at_rest s)) ws ts (stepped s w t ts)

-- What must not be: 0 where every word is taken, no exposure has an incomplete mirror set and none begins while something moves.
unfoldable pub findings : Counts → ℕ
findings c = c.ignored + c.incomplete + c.moving
