-- Document 01, "Plans": the words of an order, in field order, M before L.
-- Assumes nothing.
use Rattle.std.specs.Prelude.{ℕ, ◌+◌, ◌-◌, ◌/◌, ◌%◌, cond, List, [], ◌∷◌, map, ◌++◌, ltb}
use Rattle.words.specs.Fields.{switched, cover_bits}
use Rattle.words.specs.Kinds as kind
use Rattle.words.specs.Codec.{word_of}
use Rattle.orders.specs.Codes as code
use Rattle.orders.specs.Codes.{is}
use Rattle.orders.specs.declared.order.Order.{Order}

-- The sine as the head's register holds it: the sign in bit 12 above the magnitude. Sine 0 is plus.
unfoldable pub sine_register : ℕ → ℕ
sine_register a = cond (ltb a 32768) a (4096 + (65536 - a))

-- A twelve-bit or thirteen-bit value as an M and an L word.
abbrev pub pair : ℕ → ℕ → ℕ → List ℕ
pair m l v = word_of m (v / 256) ∷ word_of l (v % 256) ∷ []

-- SWITCH 0 is on.
abbrev pub switch_data : ℕ → ℕ
switch_data motor = 1 - motor

unfoldable pub words_of : Order → List ℕ
words_of o =
    cond (is o code.vdetcom) (pair kind.vdetcom_m kind.vdetcom_l o.a)
    (cond (is o code.vdetadj) (pair kind.vdetadj_m kind.vdetadj_l o.a)
    (cond (is o code.ir_times) (word_of kind.ir_delay o.a ∷ word_of kind.ir_expo o.b ∷ [])
    (cond (is o code.ccd_times) (word_of kind.ccd_delay o.a ∷ word_of kind.ccd_expo o.b ∷ [])
    (cond (is o code.window_mode) (word_of kind.ir_win_mode o.a ∷ [])
    (cond (is o code.window)
    (word_of kind.win_x1 o.a ∷ word_of kind.win_y1 o.b ∷ word_of kind.win_x2 o.c ∷ word_of kind.win_y2 o.d ∷ [])
    (cond (is o code.detector) (word_of kind.ir_detector o.a ∷ [])
    (cond (is o code.ccd_lamp) (word_of kind.ccd_lamp (switched o.a o.b) ∷ [])
    (cond (is o code.ir_lamp) (word_of kind.ir_lamp (switched o.a o.b) ∷ [])
    (cond (is o code.shutter) (word_of kind.shutter (switched o.a o.b) ∷ [])
    (cond (is o code.annealing) (word_of kind.annealing (switched o.a o.b) ∷ [])
    (cond (is o code.mirror) (pair kind.sin_m kind.sin_l (sine_register o.a) ++ pair kind.cos_m kind.cos_l o.b)
    (cond (is o code.motor) (word_of kind.switch (switch_data o.a) ∷ [])
    (cond (is o code.cover) (word_of kind.cover (cover_bits o.a o.b o.c o.d) ∷ [])
    (cond (is o code.expose) (word_of kind.start 0 ∷ [])
    (cond (is o code.housekeeping) (word_of kind.hk 0 ∷ []) [])))))))))))))))

-- What an order has the head sent: words one after another, or a pause of so many ticks.
pub data Item : Type 0 where
  send : ℕ → Item
  pause : ℕ → Item

unfoldable pub items_of : Order → List Item
items_of o = cond (is o code.wait) (pause o.a ∷ []) (map send (words_of o))

unfoldable pub items_of_all : List Order → List Item
items_of_all [] = []
items_of_all (o ∷ os) = items_of o ++ items_of_all os
