-- The range of a state and the register of a word as the code finds them: through the row of the state's numbers. That they are `in_range`
-- and `after` are laws, so a reader need not believe this file.
-- Assumes nothing.
use Rattle.std.specs.Prelude.{ℕ, ◌*◌, Bool, true, cond, ◌&&◌, List, [], ◌∷◌, leb, eqb, get_or}
use Rattle.words.specs.Fields.{joined, direction}
use Rattle.words.specs.Kinds as kind
use Rattle.words.specs.Kinds.{greatest, most_steps}
use Rattle.head.specs.Limits.{mirror_ticks, cover_step_ticks, hk_ticks, longest}
use Rattle.head.specs.State.{no_task, acquisition, housekeeping}

-- The most of each of the first 32 numbers of a row.
unfoldable pub most : List ℕ
most =
    greatest kind.ir_detector
    ∷ greatest kind.ir_win_mode
    ∷ joined (greatest kind.vdetcom_m) (greatest kind.vdetcom_l)
    ∷ joined (greatest kind.vdetadj_m) (greatest kind.vdetadj_l)
    ∷ greatest kind.ir_delay
    ∷ greatest kind.ir_expo
    ∷ greatest kind.ccd_delay
    ∷ greatest kind.ccd_expo
    ∷ greatest kind.win_x1
    ∷ greatest kind.win_y1
    ∷ greatest kind.win_x2
    ∷ greatest kind.win_y2
    ∷ greatest kind.ccd_lamp
    ∷ greatest kind.ir_lamp
    ∷ greatest kind.shutter
    ∷ greatest kind.annealing
    ∷ joined (greatest kind.sin_m) (greatest kind.sin_l)
    ∷ joined (greatest kind.cos_m) (greatest kind.cos_l)
    ∷ greatest kind.switch
    ∷ direction (greatest kind.cover)
    ∷ greatest kind.vdetcom_m
    ∷ greatest kind.vdetadj_m
    ∷ 1
    ∷ 1
    ∷ 1
    ∷ 1
    ∷ 1
    ∷ housekeeping
    ∷ longest
    ∷ mirror_ticks
    ∷ cover_step_ticks * most_steps
    ∷ 3
    ∷ []

-- Each number is at most its limit, for as many as have one.
unfoldable pub at_most : List ℕ → List ℕ → Bool
at_most ns [] = true
at_most [] (m ∷ ms) = true
at_most (n ∷ ns) (m ∷ ms) = leb n m && at_most ns ms

-- A place of a begun set holds no more than its kind allows, and 0 before it is received.
unfoldable pub received : ℕ → ℕ → ℕ → ℕ → Bool
received count sinm sinl cosm =
    leb sinm (cond (leb 1 count) (greatest kind.sin_m) 0)
    && leb sinl (cond (leb 2 count) (greatest kind.sin_l) 0)
    && leb cosm (cond (leb 3 count) (greatest kind.cos_m) 0)

-- What is left to ask of a task with at most `longest` ticks.
unfoldable pub lasting : ℕ → ℕ → Bool
lasting t n = cond (eqb t no_task) (eqb n 0) (cond (eqb t acquisition) (leb 1 n) (leb 1 n && leb n hk_ticks))

-- The place in the row of registers of the one that a word of each kind sets; 20 for a kind that sets none, or does more.
unfoldable pub place_of : ℕ → ℕ
place_of k =
    get_or
    (20 ∷ 20 ∷ 20 ∷ 20 ∷ 0 ∷ 1 ∷ 20 ∷
    20 ∷ 20 ∷ 20 ∷ 4 ∷ 5 ∷ 8 ∷ 9 ∷
    10 ∷ 11 ∷ 6 ∷ 7 ∷ 12 ∷ 13 ∷ 14 ∷
    15 ∷ 20 ∷ 20 ∷ 20 ∷ 20 ∷ 20 ∷ 20 ∷
    [])
    k
    0
