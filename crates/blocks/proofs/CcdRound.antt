-- The CCD block from meaning to words and back.
-- Assumes nothing.
use mathlib.Core.Path.{◌≡◌, refl, ◌∙◌, ap}
use mathlib.Core.Bool.{Bool, true}
use mathlib.Core.List.{List, ◌++◌}
use Prim.Native.Nat.{ℕ, ◌<◌, ◌≤◌}
use native.Mathlib.Omega.{arith}
use borrow.Author.Tests.{eq-eqb, eqb-true, le-leb, leb-true}
use lib.ListN.{length, get_or, take}
use lib.Seq.{take_at}
use Rattle.std.specs.Prelude.{Ok, Err}
use Rattle.words.specs.Kinds as kind
use Rattle.words.specs.Kinds.{rows, least, greatest, allowed}
use Rattle.head.specs.Range.{in_range}
use Rattle.head.specs.declared.state.Head.{Head}
use Rattle.head.specs.declared.state.Flags.{Flags}
use Rattle.head.proofs.Bounds.{bounds, allowed-least, allowed-most}
use Rattle.status.specs.Status.{sine_word, sine_in, sine_right, vis_flag_word, vis_flags_in, vis_flags_right}
use Rattle.status.proofs.Fields.{sine-back, sine-fits, vis-flags-back}
use Rattle.blocks.specs.Ccd.{ccd_shown, ccd_status, ccd_block_of, cosine_right, ccd_said, ccd_rest_judged, ccd_judged, ccd_answer_of, ccd_block, ccd_read_of}
use Rattle.blocks.specs.declared.refusal.Refusal.TheVariants.{Length}
use Rattle.blocks.specs.declared.ccd.CcdBits.{CcdBits}
use Rattle.blocks.specs.declared.ccd.Window.{Window}
use Rattle.blocks.specs.declared.ccd.CcdMeaning.{CcdMeaning}
use Rattle.blocks.specs.declared.ccd.CcdBlock.{CcdBlock}
use Rattle.blocks.proofs.Parts.{status-judged, words, put-together, held, later, said_same, made_of, within-allowed}

-- what a CCD block can say
pub record CcdFits (m : CcdMeaning) : Type 0 where
  pub x1 : m.window.x1 ≤ 1023
  pub y1 : m.window.y1 ≤ 511
  pub x2 : m.window.x2 ≤ 1023
  pub y2 : m.window.y2 ≤ 511
  pub least_delay : 5 ≤ m.delay
  pub delay : m.delay ≤ 1023
  pub expo : m.expo ≤ 1023
  pub magnitude : m.sine.magnitude < 4096
  pub cosine : m.cosine ≤ 4095

pub ccd-shown-fits : (s : Head) (f : Flags) (a : Bool) (b : CcdBits) → in_range s ≡ true → CcdFits (ccd_shown s f a b)
unfolding ccd_shown
ccd-shown-fits s f a b h =
    let r = (bounds s h).settings in
    record {
      x1 = r.x1;
      y1 = r.y1;
      x2 = r.x2;
      y2 = r.y2;
      least_delay = r.least_ccddelay;
      delay = r.ccddelay;
      expo = r.ccdexpo;
      magnitude = sine-fits s.settings.sine;
      cosine = r.cosine;
    }

-- what was written is read
module _ (m : CcdMeaning) (fits : CcdFits m) where
  judged-back : ccd_judged m.window m.delay m.expo (sine_word m.sine) m.cosine (vis_flag_word m.flags) ≡ Ok m
  unfolding ccd_judged ccd_rest_judged ccd_said sine_right cosine_right vis_flags_right least greatest rows
  judged-back =
      let sine = sine_word m.sine in
      let flags = vis_flag_word m.flags in
      rw (
        within-allowed kind.win_x1 m.window.x1 refl (omega arith) fits.x1,
        within-allowed kind.win_y1 m.window.y1 refl (omega arith) fits.y1,
        within-allowed kind.win_x2 m.window.x2 refl (omega arith) fits.x2,
        within-allowed kind.win_y2 m.window.y2 refl (omega arith) fits.y2,
        within-allowed kind.ccd_delay m.delay refl fits.least_delay fits.delay,
        within-allowed kind.ccd_expo m.expo refl (omega arith) fits.expo,
        sine-back m.sine fits.magnitude,
        eq-eqb sine sine refl,
        le-leb m.cosine 4095 fits.cosine,
        vis-flags-back m.flags,
        eq-eqb flags flags refl,
      )

  module _ (readings : List ℕ) (sized : length readings ≡ 16) where
    answer_back : ccd_answer_of (readings ++ ccd_status m) ≡ Ok m
    unfolding ccd_answer_of ccd_status
    answer_back =
        status-judged (Err Length) (λ w. ccd_judged (record { x1 = w 0; y1 = w 1; x2 = w 2; y2 = w 3 }) (w 4) (w 5) (w 6) (w 7) (w 8)) 16 readings (ccd_status m) sized ∙ judged-back

    pub ccd-status-read : ccd_read_of (readings ++ ccd_status m) ≡ Ok (ccd_block readings m)
    unfolding ccd_read_of
    ccd-status-read = rw (answer_back, take_at readings (ccd_status m) 16 sized)

pub ccd-written-read : (s : Head) (f : Flags) (a : Bool) (readings : List ℕ) (b : CcdBits) → in_range s ≡ true → length readings ≡ 16
    → ccd_read_of (ccd_block_of s f a readings b) ≡ Ok (ccd_block readings (ccd_shown s f a b))
unfolding ccd_block_of
ccd-written-read s f a readings b h sized = ccd-status-read (ccd_shown s f a b) (ccd-shown-fits s f a b h) readings sized

window_of : List ℕ → Window
window_of ws = record { x1 = get_or ws 16 0; y1 = get_or ws 17 0; x2 = get_or ws 18 0; y2 = get_or ws 19 0 }

-- what a block that is read was: each word right, and the meaning what the words say
record CcdRight (ws : List ℕ) (m : CcdMeaning) : Type 0 where
  sized : length ws ≡ 25
  x1 : allowed kind.win_x1 (get_or ws 16 0) ≡ true
  y1 : allowed kind.win_y1 (get_or ws 17 0) ≡ true
  x2 : allowed kind.win_x2 (get_or ws 18 0) ≡ true
  y2 : allowed kind.win_y2 (get_or ws 19 0) ≡ true
  delay : allowed kind.ccd_delay (get_or ws 20 0) ≡ true
  expo : allowed kind.ccd_expo (get_or ws 21 0) ≡ true
  sine : sine_right (get_or ws 22 0) ≡ true
  cosine : cosine_right (get_or ws 23 0) ≡ true
  flags : vis_flags_right (get_or ws 24 0) ≡ true
  said : ccd_said (window_of ws) (get_or ws 20 0) (get_or ws 21 0) (get_or ws 22 0) (get_or ws 23 0) (get_or ws 24 0) ≡ m

right : (ws : List ℕ) (m : CcdMeaning) → ccd_answer_of ws ≡ Ok m → CcdRight ws m
unfolding ccd_answer_of ccd_judged ccd_rest_judged window_of
right ws m e = search (held, later, said_same, eqb-true) depth 20

-- a block that was read is written back to the same words
module _ (ws readings : List ℕ) (m : CcdMeaning) (e : ccd_read_of ws ≡ Ok (ccd_block readings m)) where
  made : (n : CcdMeaning) × (ccd_answer_of ws ≡ Ok n) × (ccd_block (take 16 ws) n ≡ ccd_block readings m)
  unfolding ccd_read_of
  made = made_of (ccd_block (take 16 ws)) (ccd_answer_of ws) (ccd_block readings m) e

  answered : ccd_answer_of ws ≡ Ok m
  answered = made.1 ∙ ap (λ (b : CcdBlock). Ok b.meaning) made.2

  taken : take 16 ws ≡ readings
  taken = ap (λ (b : CcdBlock). b.readings) made.2

  pub ccd-read-fits : CcdFits m
  unfolding ccd_said window_of cosine_right least greatest rows
  ccd-read-fits =
      let r = right ws m answered in
      rw (← r.said)
      (record {
        x1 = allowed-most kind.win_x1 (get_or ws 16 0) r.x1;
        y1 = allowed-most kind.win_y1 (get_or ws 17 0) r.y1;
        x2 = allowed-most kind.win_x2 (get_or ws 18 0) r.x2;
        y2 = allowed-most kind.win_y2 (get_or ws 19 0) r.y2;
        least_delay = allowed-least kind.ccd_delay (get_or ws 20 0) r.delay;
        delay = allowed-most kind.ccd_delay (get_or ws 20 0) r.delay;
        expo = allowed-most kind.ccd_expo (get_or ws 21 0) r.expo;
        magnitude = sine-fits (get_or ws 22 0);
        cosine = leb-true (get_or ws 23 0) 4095 r.cosine;
      })

  pub ccd-read-status : readings ++ ccd_status m ≡ ws
  unfolding ccd_status ccd_said window_of sine_right vis_flags_right words
  ccd-read-status =
      let r = right ws m answered in
      let sine = eqb-true (sine_word (sine_in (get_or ws 22 0))) (get_or ws 22 0) r.sine in
      let flags = eqb-true (vis_flag_word (vis_flags_in (get_or ws 24 0))) (get_or ws 24 0) r.flags in
      rw (← taken, ← r.said, sine, flags) (put-together 16 9 ws r.sized)
