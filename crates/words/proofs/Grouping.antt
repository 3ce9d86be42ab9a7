-- The groups of the kinds (document 02, request P6).
-- Assumes nothing.
use mathlib.Core.Path.{◌≡◌, sym}
use mathlib.Core.Bool.{cond}
use mathlib.Core.List.{List, [], ◌∷◌}
use Prim.Native.Nat.{ℕ, ◌<◌, ◌≤◌}
use lib.Dec.{T, eqb}
use lib.ListN.{get_or}
use Rattle.words.specs.Kinds.{ccd, infrared, controller, no_group, rows, group_of, kinds}
use Rattle.words.specs.Kinds as kind
use Rattle.words.proofs.Allowed.{no_row}
use Rattle.words.proofs.Tables.{tabulates, tabulates-at, agree_at}

-- the kinds that the request names for each group
pub ccd_kinds : List ℕ
ccd_kinds = kind.win_x1 ∷ kind.win_y1 ∷ kind.win_x2 ∷ kind.win_y2 ∷ kind.ccd_delay ∷ kind.ccd_expo ∷ kind.ccd_lamp ∷ []

pub controller_kinds : List ℕ
controller_kinds = kind.start ∷ kind.hk ∷ kind.stop ∷ kind.nop ∷ []

-- how often a number stands in a list
abbrev times : List ℕ → ℕ → ℕ
times [] k = 0
times (j ∷ js) k = cond (eqb j k) 1 (times js k)

-- the group by the request's words: CCD, the controller's, and the other has all the rest
abbrev named : ℕ → ℕ
named k = cond (eqb (times ccd_kinds k) 1) ccd (cond (eqb (times controller_kinds k) 1) controller infrared)

-- every kind is in the group that the request names it for
pub groups-named : (k : ℕ) → k < 28 → group_of k ≡ named k
unfolding group_of rows ccd_kinds controller_kinds
groups-named = agree_at group_of named 28 tt

-- a number that is no kind has no group
pub group-none : (k : ℕ) → 28 ≤ k → group_of k ≡ no_group
unfolding group_of rows
group-none k h = rw (no_row k h)

-- the ways through `group_of`
pub group-past : (k : ℕ) → 28 ≤ k → no_group ≡ group_of k
group-past k h = sym (group-none k h)

pub group_at : (t : List ℕ) (k : ℕ) → T (tabulates t group_of 28) → k < 28 → get_or t k 0 ≡ group_of k
group_at t k ok h = tabulates-at t group_of 28 ok k h
