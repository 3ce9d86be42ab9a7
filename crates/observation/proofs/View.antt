-- All of a head that the CCD operator's observation rests on, and what each event makes of it.
-- Assumes nothing.
use Prim.Native.Nat.{ℕ}
use mathlib.Core.Bool.{Bool, cond, not, ◌&&◌, ◌||◌}
use mathlib.Core.List.{List, [], ◌∷◌}
use Rattle.std.specs.Prelude.{Option, None, Some, Result, Ok, Err}
use lib.Dec.{eqb}
use Rattle.words.specs.Fields.{on}
use Rattle.words.specs.Kinds as kind
use Rattle.words.specs.Codec.{decode_of}
use Rattle.words.specs.declared.Word.{Word}
use Rattle.words.specs.declared.DecodeError.{DecodeError}
use Rattle.words.specs.declared.DecodeError.TheVariants.{Unknown, OutOfRange}
use Rattle.head.specs.State as state
use Rattle.head.specs.Flags.{for_vis, for_both, mirror_word}
use Rattle.head.specs.Word.{stop_word}
use Rattle.head.specs.Tick.{task_of}
use Rattle.head.specs.declared.state.Head.{Head}
use Rattle.head.specs.declared.word.Act.TheVariants as act
use Rattle.head.specs.declared.word.Outcome.{Outcome}
use Rattle.head.specs.declared.word.Outcome.TheVariants.{Taken}
use Rattle.status.specs.Status.{is_set, vis_flag_word}
use Rattle.blocks.specs.declared.ccd.CcdBits.{CcdBits}
use Rattle.due.specs.Due.{acquisition}
use Rattle.operators.specs.Passing.{is_operator, in_group}
use Rattle.operators.specs.declared.PassError.{PassError}
use Rattle.operators.specs.declared.PassError.TheVariants.{NotPassed}
use Rattle.observation.specs.Run.{Given, nothing, by_ccd, by_infrared, by_controller}

-- the CCD registers, the VIS flags and the task
pub record View : Type 0 where
  pub x1 : ℕ
  pub y1 : ℕ
  pub x2 : ℕ
  pub y2 : ℕ
  pub delay : ℕ
  pub expo : ℕ
  pub lamp : ℕ
  pub vistime : ℕ
  pub visword : ℕ
  pub task : ℕ

abbrev pub view : Head → View
view s =
    let r = s.settings in
    record {
      x1 = r.x1;
      y1 = r.y1;
      x2 = r.x2;
      y2 = r.y2;
      delay = r.ccddelay;
      expo = r.ccdexpo;
      lamp = r.ccdlamp;
      vistime = s.flags.vistime;
      visword = s.flags.visword;
      task = s.work.task;
    }

abbrev pub registers_in : View → List ℕ
registers_in v = v.x1 ∷ v.y1 ∷ v.x2 ∷ v.y2 ∷ v.delay ∷ v.expo ∷ v.lamp ∷ []

-- with other VIS flags and another task
abbrev pub marking : View → ℕ → ℕ → ℕ → View
marking v time word task =
    record {
      x1 = v.x1;
      y1 = v.y1;
      x2 = v.x2;
      y2 = v.y2;
      delay = v.delay;
      expo = v.expo;
      lamp = v.lamp;
      vistime = time;
      visword = word;
      task = task;
    }

-- in a state in range the head is busy where there is a task
abbrev pub busy_in : View → Bool
busy_in v = not (eqb v.task state.no_task)

-- after a word of kind k with data b that is taken, or that is ignored for the cover or the mirror's turn
unfoldable pub view_taken : View → ℕ → ℕ → View
view_taken v k b =
    record {
      x1 = cond (eqb k kind.win_x1) b v.x1;
      y1 = cond (eqb k kind.win_y1) b v.y1;
      x2 = cond (eqb k kind.win_x2) b v.x2;
      y2 = cond (eqb k kind.win_y2) b v.y2;
      delay = cond (eqb k kind.ccd_delay) b v.delay;
      expo = cond (eqb k kind.ccd_expo) b v.expo;
      lamp = cond (eqb k kind.ccd_lamp) b v.lamp;
      vistime = v.vistime;
      visword = v.visword;
      task =
          cond (eqb k kind.start) state.acquisition
          (cond (eqb k kind.hk) state.housekeeping
          (cond (eqb k kind.stop) state.no_task v.task));
    }

-- the VIS word flag after a word of kind k that is out of range
unfoldable pub word_flag_out : ℕ → ℕ → ℕ
word_flag_out k old = cond (for_vis k) 1 (cond (mirror_word k || eqb k kind.switch) old (cond (for_both k) 1 old))

unfoldable pub view_decoded : View → Result Word DecodeError → View
view_decoded v (Err Unknown) = marking v v.vistime 1 v.task
view_decoded v (Err (OutOfRange k)) = marking v v.vistime (word_flag_out k v.visword) v.task
view_decoded v (Ok w) = view_taken v w.kind w.bits

-- after any word that the head gets
unfoldable pub view_answered : View → ℕ → View
view_answered v w = cond (busy_in v && not (eqb w stop_word)) (marking v 1 v.visword v.task) (view_decoded v (decode_of w))

-- after an operator's word
unfoldable pub passes_in : View → ℕ → ℕ → Bool
passes_in v g w = is_operator g && in_group g (decode_of w) && not (busy_in v)

unfoldable pub view_passed : View → ℕ → ℕ → View
view_passed v g w = cond (passes_in v g w) (view_answered v w) v

-- a word of the CCD operator that is passed on is taken
unfoldable pub passing_in : View → ℕ → Result Outcome PassError
passing_in v w = cond (passes_in v kind.ccd w) (Ok (Taken act.None)) (Err NotPassed)

-- after what is given at a tick, infrared words left out
unfoldable pub view_between : View → Given → View
view_between v nothing = v
view_between v (by_ccd w) = view_passed v kind.ccd w
view_between v (by_infrared w) = v
view_between v (by_controller w) = view_answered v w

unfoldable pub answer_in : View → Given → Option (Result Outcome PassError)
answer_in v nothing = None
answer_in v (by_ccd w) = Some (passing_in v w)
answer_in v (by_infrared w) = None
answer_in v (by_controller w) = None

-- at a tick, by whether the head is busy after it: a task that has ended makes a block due and clears the flags
abbrev pub ends_in : View → Bool → Bool
ends_in v later = busy_in v && not later

unfoldable pub view_ticked : View → Bool → View
view_ticked v later = cond (ends_in v later) (marking v 0 0 state.no_task) v

unfoldable pub flag_word_in : View → Bool → CcdBits → Option ℕ
flag_word_in v later bits =
    cond (ends_in v later)
    (Some
    (vis_flag_word
    (record {
      acquired = acquisition (task_of v.task);
      time = eqb v.vistime 1;
      word = eqb v.visword 1;
      latchup = bits.latchup;
      lampon = is_set (on v.lamp);
    })))
    None
