-- `report::ending::same_flags` meets its contract: `==` compares flag by flag.
use mathlib.Core.Path.{◌≡◌, refl, ◌∙◌}
use mathlib.Core.Bool.{Bool, true, false, ◌&&◌}
use lib.Dec.{eqb}
use Rattle.report.specs.Ending.{same_flags}
use Rattle.report.proofs.ending.same_flags.Goals as goal

-- the five tests from the last or from the first on
grouped : (a b c d e : Bool) → (a && (b && (c && (d && e)))) ≡ (a && b && c && d && e)
grouped true true true true e = refl
grouped true true true false e = refl
grouped true true false d e = refl
grouped true false c d e = refl
grouped false b c d e = refl

pub returns : goal.returns
unfolding same_flags
returns c =
    let a = c.args.a in
    let b = c.args.b in
    c.eq.ensures
    ∙ grouped (eqb a.irtime b.irtime) (eqb a.irword b.irword) (eqb a.scan b.scan) (eqb a.vistime b.vistime) (eqb a.visword b.visword)
