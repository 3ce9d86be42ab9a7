-- The kinds by name: each names the row of document 01's table that begins with its word.
-- Assumes nothing.
use mathlib.Core.Path.{◌≡◌, refl}
use mathlib.Core.List.{List, [], ◌∷◌, map}
use Prim.Native.Nat.{ℕ}
use Rattle.words.specs.Kinds.{nop, start, hk, stop, ir_detector, ir_win_mode, vdetcom_m, vdetcom_l, vdetadj_m, vdetadj_l, ir_delay, ir_expo, win_x1, win_y1, win_x2, win_y2, ccd_delay, ccd_expo, ccd_lamp, ir_lamp, shutter, annealing, sin_m, sin_l, cos_m, cos_l, switch, cover, rows, row_of}

-- each name, and the first word of its row
pub names : List (ℕ × ℕ)
names =
    (nop, 0x0000)
    ∷ (start, 0x8000)
    ∷ (hk, 0x4000)
    ∷ (stop, 0xC000)
    ∷ (ir_detector, 0xD800)
    ∷ (ir_win_mode, 0x9000)
    ∷ (vdetcom_m, 0xD000)
    ∷ (vdetcom_l, 0x3000)
    ∷ (vdetadj_m, 0xB000)
    ∷ (vdetadj_l, 0x7000)
    ∷ (ir_delay, 0xF000)
    ∷ (ir_expo, 0x0800)
    ∷ (win_x1, 0x2800)
    ∷ (win_y1, 0xA800)
    ∷ (win_x2, 0x6800)
    ∷ (win_y2, 0xE800)
    ∷ (ccd_delay, 0x1805)
    ∷ (ccd_expo, 0x9800)
    ∷ (ccd_lamp, 0x5800)
    ∷ (ir_lamp, 0x8800)
    ∷ (shutter, 0xC800)
    ∷ (annealing, 0x4800)
    ∷ (sin_m, 0x2000)
    ∷ (sin_l, 0xA000)
    ∷ (cos_m, 0x6000)
    ∷ (cos_l, 0xE000)
    ∷ (switch, 0x5000)
    ∷ (cover, 0x1000)
    ∷ []

pub named-rows : map (λ n. (row_of n.0).first) names ≡ map (λ n. n.1) names
unfolding rows names
named-rows = refl
