-- A text that a writer adds to what it has written.
-- Assumes nothing.
use Rattle.std.specs.Prelude.{ℕ, ◌≡◌, List}
use Rattle.layout.specs.Written.{Written}
use Rattle.layout.specs.declared.writer.Writer.{Writer}

-- The text stands from the writer's place on, as far as the lent bytes go; the bytes are those that were lent.
pub record Adds (old new : Writer) (text : List ℕ) : Type 0 where
  pub written : Written old.out.now old.at text new.at new.out.now
  pub lent : new.out.ghost_name ≡ old.out.ghost_name
