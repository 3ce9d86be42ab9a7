-- The IR block from meaning to words and back.
-- Assumes nothing.
use mathlib.Core.Path.{◌≡◌, refl, sym, ◌∙◌, ap}
use mathlib.Core.Bool.{Bool, true, false, cond, ◌&&◌, ◌||◌}
use mathlib.Core.List.{List, ◌++◌}
use Prim.Native.Nat.{ℕ, zero, suc, ◌<◌, ◌≤◌}
use native.Mathlib.Omega.{arith}
use borrow.Author.Tests.{eq-eqb, eqb-true}
use lib.Dec.{eqb}
use lib.ListN.{length, get_or, take}
use lib.Seq.{take_at}
use Rattle.std.specs.Prelude.{Ok, Err}
use Rattle.words.specs.Kinds as kind
use Rattle.words.specs.Kinds.{rows, least, greatest, allowed}
use Rattle.words.proofs.Tests.{and_left, and_right}
use Rattle.head.specs.Range.{in_range}
use Rattle.head.specs.declared.state.Head.{Head}
use Rattle.head.specs.declared.state.Flags.{Flags}
use Rattle.head.proofs.Bounds.{bounds, allowed-most}
use Rattle.status.specs.Status.{lamp_shutter_word, lamp_shutter_in, lamp_shutter_right, ir_flag_word, ir_flags_in, ir_flags_right}
use Rattle.status.proofs.Fields.{lamp-shutter-back, lamp-shutter-fits, ir-flags-back}
use Rattle.blocks.specs.Ir.{first_line, last_line, mode_of, lines_right, ir_shown, ir_status, ir_block_of, ir_said, ir_judged, ir_answer_of, ir_block, ir_read_of}
use Rattle.blocks.specs.declared.refusal.Refusal.TheVariants.{Length}
use Rattle.blocks.specs.declared.ir.IrBits.{IrBits}
use Rattle.blocks.specs.declared.ir.IrMeaning.{IrMeaning}
use Rattle.blocks.specs.declared.ir.IrBlock.{IrBlock}
use Rattle.blocks.proofs.Parts.{status-judged, words, put-together, held, later, said_same, made_of, within-allowed}

-- what an IR block can say
pub record IrFits (m : IrMeaning) : Type 0 where
  pub mode : m.mode ≤ 1
  pub delay : m.delay ≤ 1023
  pub expo : m.expo ≤ 1023
  pub lampcurrent : m.lampshutter.lampcurrent < 16
  pub shuttercurrent : m.lampshutter.shuttercurrent < 16

pub ir-shown-fits : (s : Head) (f : Flags) (a : Bool) (b : IrBits) → in_range s ≡ true → IrFits (ir_shown s f a b)
unfolding ir_shown
ir-shown-fits s f a b h =
    let r = (bounds s h).settings in
    record { mode = r.mode; delay = r.irdelay; expo = r.irexpo; lampcurrent = omega arith; shuttercurrent = omega arith }

-- the lines of a window mode, and the mode of its lines
lines_of : (mode : ℕ) → lines_right (first_line mode) (last_line mode) ≡ true
lines_of mode = go (eqb mode 0) refl
  where
    go : (b : Bool) → eqb mode 0 ≡ b → lines_right (first_line mode) (last_line mode) ≡ true
    go true e = rw e
    go false e = rw e

mode-fits : (b : Bool) → cond b 0 1 ≤ 1
mode-fits true = omega arith
mode-fits false = omega arith

mode-back : (mode : ℕ) → mode ≤ 1 → mode_of (first_line mode) ≡ mode
mode-back zero h = refl
mode-back (suc zero) h = refl
mode-back (suc (suc n)) h = absurd (omega arith)

either : (a : Bool) → (a || false) ≡ true → a ≡ true
either true e = refl
either false e = e

lines-back : (y1 y2 : ℕ) → lines_right y1 y2 ≡ true → (first_line (mode_of y1) ≡ y1) × (last_line (mode_of y1) ≡ y2)
lines-back y1 y2 right = go (eqb y1 0) refl
  where
    go : (b : Bool) → eqb y1 0 ≡ b → (first_line (mode_of y1) ≡ y1) × (last_line (mode_of y1) ≡ y2)
    go true e =
        let z = eqb-true y1 0 e in
        (rw e (sym z), rw e (sym (eqb-true y2 269 (either (eqb y2 269) (rw z at right)))))
    go false e =
        let both : (eqb y1 90 && eqb y2 179) ≡ true = rw e at right in (
          rw e (sym (eqb-true y1 90 (and_left (eqb y1 90) (eqb y2 179) both))),
          rw e (sym (eqb-true y2 179 (and_right (eqb y1 90) (eqb y2 179) both))),
        )

-- what was written is read
module _ (m : IrMeaning) (fits : IrFits m) where
  judged-back :
      ir_judged (first_line m.mode) (last_line m.mode) m.delay m.expo (lamp_shutter_word m.lampshutter) (ir_flag_word m.flags)
      ≡ Ok m
  unfolding ir_judged ir_said lamp_shutter_right ir_flags_right least greatest rows
  judged-back =
      let lampshutter = lamp_shutter_word m.lampshutter in
      let flags = ir_flag_word m.flags in
      rw (
        lines_of m.mode,
        within-allowed kind.ir_delay m.delay refl (omega arith) fits.delay,
        within-allowed kind.ir_expo m.expo refl (omega arith) fits.expo,
        lamp-shutter-back m.lampshutter fits.lampcurrent fits.shuttercurrent,
        ir-flags-back m.flags,
        eq-eqb lampshutter lampshutter refl,
        eq-eqb flags flags refl,
        mode-back m.mode fits.mode,
      )

  module _ (readings : List ℕ) (sized : length readings ≡ 14) where
    answer_back : ir_answer_of (readings ++ ir_status m) ≡ Ok m
    unfolding ir_answer_of ir_status
    answer_back =
        status-judged (Err Length) (λ w. ir_judged (w 0) (w 1) (w 2) (w 3) (w 4) (w 5)) 14 readings (ir_status m) sized ∙ judged-back

    pub ir-status-read : ir_read_of (readings ++ ir_status m) ≡ Ok (ir_block readings m)
    unfolding ir_read_of
    ir-status-read = rw (answer_back, take_at readings (ir_status m) 14 sized)

pub ir-written-read : (s : Head) (f : Flags) (a : Bool) (readings : List ℕ) (b : IrBits) → in_range s ≡ true → length readings ≡ 14
    → ir_read_of (ir_block_of s f a readings b) ≡ Ok (ir_block readings (ir_shown s f a b))
unfolding ir_block_of
ir-written-read s f a readings b h sized = ir-status-read (ir_shown s f a b) (ir-shown-fits s f a b h) readings sized

-- what a block that is read was: each word right, and the meaning what the words say
record IrRight (ws : List ℕ) (m : IrMeaning) : Type 0 where
  sized : length ws ≡ 20
  lines : lines_right (get_or ws 14 0) (get_or ws 15 0) ≡ true
  delay : allowed kind.ir_delay (get_or ws 16 0) ≡ true
  expo : allowed kind.ir_expo (get_or ws 17 0) ≡ true
  lampshutter : lamp_shutter_right (get_or ws 18 0) ≡ true
  flags : ir_flags_right (get_or ws 19 0) ≡ true
  said : ir_said (get_or ws 14 0) (get_or ws 16 0) (get_or ws 17 0) (get_or ws 18 0) (get_or ws 19 0) ≡ m

right : (ws : List ℕ) (m : IrMeaning) → ir_answer_of ws ≡ Ok m → IrRight ws m
unfolding ir_answer_of ir_judged
right ws m e = search (held, later, said_same, eqb-true) depth 20

-- a block that was read is written back to the same words
module _ (ws readings : List ℕ) (m : IrMeaning) (e : ir_read_of ws ≡ Ok (ir_block readings m)) where
  made : (n : IrMeaning) × (ir_answer_of ws ≡ Ok n) × (ir_block (take 14 ws) n ≡ ir_block readings m)
  unfolding ir_read_of
  made = made_of (ir_block (take 14 ws)) (ir_answer_of ws) (ir_block readings m) e

  answered : ir_answer_of ws ≡ Ok m
  answered = made.1 ∙ ap (λ (b : IrBlock). Ok b.meaning) made.2

  taken : take 14 ws ≡ readings
  taken = ap (λ (b : IrBlock). b.readings) made.2

  pub ir-read-fits : IrFits m
  unfolding ir_said greatest rows
  ir-read-fits =
      let r = right ws m answered in
      let (lamp, shutter) = lamp-shutter-fits (get_or ws 18 0) in
      rw (← r.said)
      (record {
        mode = mode-fits (eqb (get_or ws 14 0) 0);
        delay = allowed-most kind.ir_delay (get_or ws 16 0) r.delay;
        expo = allowed-most kind.ir_expo (get_or ws 17 0) r.expo;
        lampcurrent = lamp;
        shuttercurrent = shutter;
      })

  pub ir-read-status : readings ++ ir_status m ≡ ws
  unfolding ir_status ir_said lamp_shutter_right ir_flags_right words
  ir-read-status =
      let r = right ws m answered in
      let (y1, y2) = lines-back (get_or ws 14 0) (get_or ws 15 0) r.lines in
      let lampshutter = eqb-true (lamp_shutter_word (lamp_shutter_in (get_or ws 18 0))) (get_or ws 18 0) r.lampshutter in
      let flags = eqb-true (ir_flag_word (ir_flags_in (get_or ws 19 0))) (get_or ws 19 0) r.flags in
      rw (← taken, ← r.said, y1, y2, lampshutter, flags) (put-together 14 6 ws r.sized)
