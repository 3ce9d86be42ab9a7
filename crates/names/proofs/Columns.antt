-- The name of a kind by itself.
-- Assumes nothing.
use mathlib.Core.Path.{◌≡◌, refl}
use mathlib.Core.List.{List, [], ◌∷◌}
use Prim.Native.Nat.{ℕ, ◌≤◌, min}
use native.Mathlib.Omega.{arith}
use borrow.Author.Tests.{leb-true}
use lib.ListN.{length}
use Rattle.words.specs.Kinds.{kinds}
use Rattle.layout.specs.Numbers.{ascii}
use Rattle.layout.specs.Template.{layout}
use Rattle.layout.specs.Written.{Written}
use Rattle.layout.proofs.Alternatives.{most_from, most_of, layout-most}
use Rattle.names.specs.Kind.{name_template, bare_name}

abbrev pub most_name : ℕ
most_name = 11

most-name : most_of name_template ≤ most_name
unfolding most_from ascii name_template
most-name = leb-true (most_of name_template) most_name refl

pub name-few : (k : ℕ) → length (bare_name k) ≤ most_name
unfolding bare_name
name-few k = omega (arith, layout-most name_template (min k kinds ∷ []) [], most-name)
