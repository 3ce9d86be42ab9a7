-- The title and the lines of the table, at the front of a list with room for them.
-- Assumes nothing.
use mathlib.Core.Path.{◌≡◌}
use mathlib.Core.List.{List}
use Prim.Native.Nat.{ℕ}
use native.Mathlib.Omega.{arith}
use lib.ListN.{length}
use Rattle.layout.specs.Adds.{Adds}
use Rattle.layout.specs.Below.{texts_below}
use Rattle.layout.specs.Numbers.{ascii}
use Rattle.layout.specs.Written.{Front}
use Rattle.layout.specs.declared.writer.Writer.{Writer}
use Rattle.layout.proofs.Adding.{adds_then, adds_front}
use Rattle.names.specs.Table.{row_text, table_text}
use Rattle.names.proofs.Fitting.{table_fits}

pub table-front : {u v w : Writer} {old : List ℕ} {n : ℕ} → u.out.now ≡ old → u.at ≡ 0 → n ≡ w.at → length old ≡ 16384
    → Adds u v (ascii "byte  kind          allowed words\n") → Adds v w (texts_below row_text 256) → Front old table_text n w.out.now
unfolding table_text
table-front bytes start is whole title rows = adds_front bytes start is (adds_then title rows) (omega (arith, table_fits))
