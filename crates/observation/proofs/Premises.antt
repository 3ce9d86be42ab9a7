-- No premise of `unseen` is idle: for each, two runs that are alike in all but that one give the CCD operator different observations. And
-- they can be met by runs with different infrared words.
-- Assumes nothing.
use mathlib.Core.Path.{◌≡◌, refl, sym, ap, ◌∙◌}
use mathlib.Core.Bool.{Bool, true, false, false≢true}
use mathlib.Core.List.{List, [], ◌∷◌}
use Rattle.std.specs.Prelude.{Option, None, Some}
use Prim.Native.Nat.{ℕ}
use borrow.Author.Tests.{eq-eqb}
use lib.Dec.{eqb}
use lib.ListN.{get_or}
use Rattle.words.specs.Kinds.{rows, kind_from, kind_of, kinds, least, greatest, allowed, group_of}
use Rattle.words.specs.Codec.{decode_of, judged}
use Rattle.head.specs.State.{no_flags, no_task, acquisition, housekeeping, power_on}
use Rattle.head.specs.Limits.{length_of, readout_of}
use Rattle.head.specs.Range.{all_pass, register_tests, latch_tests, flag_tests, motion_tests, place, begun_tests, work_in_range, in_range}
use Rattle.head.specs.Flags.{out_of_range_flags}
use Rattle.head.specs.Apply.{after, act_of}
use Rattle.head.specs.Busy.{busy_ticks, is_busy}
use Rattle.head.specs.Word.{out_of_turn, on_word, on_decoded, answer_of}
use Rattle.head.specs.Tick.{task_of, tick_of, passed}
use Rattle.head.specs.declared.state.FlagBits.{FlagBits}
use Rattle.head.specs.declared.state.Head.{Head}
use Rattle.status.specs.Status.{vis_flag_word, vis_flag_fields, composed}
use Rattle.blocks.specs.Ccd.{ccd_shown}
use Rattle.due.specs.Due as due
use Rattle.operators.specs.Passing.{is_operator, in_group, passes, passed_on}
use Rattle.observation.specs.Run.{Given, nothing, by_ccd, by_infrared, by_controller, Moment, between, next, head_after}
use Rattle.observation.specs.Observation.{ccd_registers, answer_to, flag_word_due, seen, seen_from, Observation, observed}
use Rattle.observation.specs.Premises.{not_infrared, without_infrared, busy_from, Alike}

-- the runs are alike in all premises but the nth, and are told apart
pub record AllBut (n : ℕ) (s t : Head) (ms ns : List Moment) : Type 0 where
  pub first_ranged : in_range s ≡ true
  pub second_ranged : in_range t ≡ true
  pub registers : (n ≡ 1 → ⊥) → ccd_registers s ≡ ccd_registers t
  pub vistime : (n ≡ 2 → ⊥) → s.flags.vistime ≡ t.flags.vistime
  pub visword : (n ≡ 3 → ⊥) → s.flags.visword ≡ t.flags.visword
  pub task : (n ≡ 4 → ⊥) → s.work.task ≡ t.work.task
  pub given : (n ≡ 5 → ⊥) → without_infrared ms ≡ without_infrared ns
  pub busy : (n ≡ 6 → ⊥) → busy_from s ms ≡ busy_from t ns
  pub ends : (n ≡ 7 → ⊥) → is_busy (head_after s ms) ≡ is_busy (head_after t ns)
  pub told : observed s ms ≡ observed t ns → ⊥

-- a head with this X1 register, these flags, this task and so many ticks of it left, and else as at power-on
abbrev head_with : ℕ → FlagBits → ℕ → ℕ → Head
head_with x1 flags task busy =
    let r = power_on.settings in
    record {
      settings =
          record {
            detector = r.detector;
            mode = r.mode;
            vdetcom = r.vdetcom;
            vdetadj = r.vdetadj;
            irdelay = r.irdelay;
            irexpo = r.irexpo;
            ccddelay = r.ccddelay;
            ccdexpo = r.ccdexpo;
            x1 = x1;
            y1 = r.y1;
            x2 = r.x2;
            y2 = r.y2;
            ccdlamp = r.ccdlamp;
            irlamp = r.irlamp;
            shutter = r.shutter;
            annealing = r.annealing;
            sine = r.sine;
            cosine = r.cosine;
            switch = r.switch;
            direction = r.direction;
          };
      latches = power_on.latches;
      flags = flags;
      work = record { task = task; busy = busy };
      motion = power_on.motion;
      begun = power_on.begun;
    }

abbrev acquiring : ℕ → Head
acquiring busy = head_with 0 no_flags acquisition busy

-- a tick with this word and this VIS bit
abbrev tick : Given → Bool → Moment
tick given latchup = record { given = given; bits = record { latchup = latchup } }

abbrev quiet : Moment
quiet = tick nothing false

-- by what the observations are told apart: the flag word at the nth tick, or X1 at the end
abbrev word_in : Option ℕ → ℕ
word_in None = 0
word_in (Some w) = w

abbrev word_at : ℕ → Observation → ℕ
word_at n o = word_in (get_or o.ticks n (record { before = []; answer = None; meanwhile = []; flag_word = None })).flag_word

abbrev x1_at : Observation → ℕ
x1_at o = get_or o.end 0 0

differ : (f : Observation → ℕ) (o p : Observation) → eqb (f o) (f p) ≡ false → o ≡ p → ⊥
differ f o p d e = false≢true (sym d ∙ eq-eqb (f o) (f p) (ap f e))

-- the premise that is left out
left_out : {A : Type 0} (n : ℕ) → (n ≡ n → ⊥) → A
left_out n same = absurd (same refl)

abbrev time_flag : FlagBits
time_flag = record { irtime = 0; irword = 0; scan = 0; vistime = 1; visword = 0 }

abbrev word_flag : FlagBits
word_flag = record { irtime = 0; irword = 0; scan = 0; vistime = 0; visword = 1 }

-- each premise, in the order of `Alike`; that of the words and bits has an example for each of its three parts
pub record Needed : Type 0 where
  -- equal CCD registers
  pub registers : AllBut 1 power_on (head_with 1 no_flags no_task 0) [] []
  -- equal VIS flags, time
  pub vistime : AllBut 2 (head_with 0 time_flag acquisition 1) (acquiring 1) (quiet ∷ []) (quiet ∷ [])
  -- and word
  pub visword : AllBut 3 (head_with 0 word_flag acquisition 1) (acquiring 1) (quiet ∷ []) (quiet ∷ [])
  -- equal running task
  pub task : AllBut 4 (head_with 0 no_flags housekeeping 1) (acquiring 1) (quiet ∷ []) (quiet ∷ [])
  -- the same CCD words
  pub ccd_words : AllBut 5 power_on power_on (tick (by_ccd 0x2805) false ∷ []) (quiet ∷ [])
  -- the same controller words: an infrared word that reaches a busy head, as if the controller had given it, sets the VIS time flag
  pub controller_words : AllBut 5 (acquiring 2) (acquiring 2) (tick (by_controller 0xD801) false ∷ quiet ∷ []) (quiet ∷ quiet ∷ [])
  -- the same VIS bits
  pub vis_bits : AllBut 5 (acquiring 1) (acquiring 1) (tick nothing true ∷ []) (quiet ∷ [])
  -- the same ticks busy
  pub busy_ticks : AllBut 6 (acquiring 1) (acquiring 2) (quiet ∷ quiet ∷ []) (quiet ∷ quiet ∷ [])
  -- busy at the end in both or neither
  pub busy_end : AllBut 7 (acquiring 1) (acquiring 2) (quiet ∷ []) (quiet ∷ [])

pub needed : Needed
unfolding observed seen_from seen head_after next between answer_to flag_word_due ccd_registers without_infrared not_infrared busy_from
    passed_on passes is_operator in_group group_of answer_of on_decoded on_word out_of_turn after act_of out_of_range_flags task_of tick_of passed busy_ticks
    is_busy in_range all_pass register_tests latch_tests flag_tests motion_tests place begun_tests work_in_range length_of readout_of decode_of judged
    kind_of kind_from kinds rows least greatest allowed due.acquisition ccd_shown vis_flag_word vis_flag_fields composed
needed =
    record {
      registers = search (left_out, differ x1_at);
      vistime = search (left_out, differ (word_at 0));
      visword = search (left_out, differ (word_at 0));
      task = search (left_out, differ (word_at 0));
      ccd_words = search (left_out, differ x1_at);
      controller_words = search (left_out, differ (word_at 1));
      vis_bits = search (left_out, differ (word_at 0));
      busy_ticks = search (left_out, differ (word_at 0));
      busy_end = search (left_out, differ (word_at 0));
    }

-- a housekeeping request, with and without infrared words before it and while the head is busy; a block is due in both runs
pub met : Alike power_on power_on
    (tick (by_infrared 0xF00A) false ∷ tick (by_controller 0x4000) false ∷ tick (by_infrared 0xD801) false ∷ quiet ∷ [])
    (quiet ∷ tick (by_controller 0x4000) false ∷ quiet ∷ tick (by_infrared 0x9001) false ∷ [])
unfolding observed seen_from seen head_after next between answer_to flag_word_due ccd_registers without_infrared not_infrared busy_from
    passed_on passes is_operator in_group group_of answer_of on_decoded on_word out_of_turn after act_of out_of_range_flags task_of tick_of passed busy_ticks
    is_busy in_range all_pass register_tests latch_tests flag_tests motion_tests place begun_tests work_in_range length_of readout_of decode_of judged
    kind_of kind_from kinds rows least greatest allowed due.acquisition ccd_shown vis_flag_word vis_flag_fields composed
met = search refl
