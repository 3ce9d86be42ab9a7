-- Document 01, "Plans": the clock, advanced word by word with sums and maxima alone. It gives the ticks and the end that the head's own
-- answers and ticks give.
-- Assumes nothing.
use Rattle.std.specs.Prelude.{ℕ, ◌+◌, ◌-◌, ◌*◌, ◌≤◌, max, cond, ◌&&◌, ◌||◌, List, [], ◌∷◌, eqb}
use Rattle.words.specs.Fields.{steps}
use Rattle.words.specs.Kinds as kind
use Rattle.words.specs.Kinds.{kind_of, identifier, bits_of}
use Rattle.head.specs.Limits.{mirror_ticks, cover_step_ticks, hk_ticks, length_by, most_time, longest}
use Rattle.head.specs.declared.state.Head.{Head}
use Rattle.orders.specs.Codes as code
use Rattle.orders.specs.Codes.{is}
use Rattle.orders.specs.Words.{Item, send, pause}
use Rattle.orders.specs.declared.order.Order.{Order}
use Rattle.plan.specs.Stored.{most_orders}
use Rattle.schedule.specs.Schedule.{Schedule, following}
use Rattle.schedule.specs.declared.clock.Clock.{Clock}

-- The longest motion that a COVER word's seven bits of steps can ask for.
abbrev pub longest_motion : ℕ
longest_motion = cover_step_ticks * 127

-- The most that a word advances the clock: such a motion is waited for, and the longest acquisition follows.
abbrev pub longest_word : ℕ
longest_word = longest_motion + longest

-- The most that an order advances it: the longest wait, longer than four such words.
abbrev pub longest_order : ℕ
longest_order = 65535

-- The clock stands at n or before, what moves then is at rest soon, and a delay or an exposure has ten bits: its numbers fit.
pub record Near (n : ℕ) (c : Clock) : Type 0 where
  pub now : c.now ≤ n
  pub mirror : c.mirror ≤ n + longest_motion
  pub cover : c.cover ≤ n + longest_motion
  pub irdelay : c.irdelay ≤ most_time
  pub irexpo : c.irexpo ≤ most_time
  pub ccddelay : c.ccddelay ≤ most_time
  pub ccdexpo : c.ccdexpo ≤ most_time

-- The end is the last clock, at most 4,194,240.
abbrev pub latest : ℕ
latest = longest_order * most_orders

-- Four such words before the latest clock.
abbrev pub early : ℕ
early = latest - 4 * longest_word

-- The clock of a head that is idle at tick t.
unfoldable pub clock_of : Head → ℕ → Clock
clock_of s t =
    record {
      now = t;
      mirror = t + s.motion.mirror;
      cover = t + s.motion.cover;
      mode = s.settings.mode;
      irdelay = s.settings.irdelay;
      irexpo = s.settings.irexpo;
      ccddelay = s.settings.ccddelay;
      ccdexpo = s.settings.ccdexpo;
    }

-- The tick of a word of kind k.
unfoldable pub tick_for : Clock → ℕ → ℕ
tick_for c k =
    cond (eqb k kind.start) (max c.now (max c.mirror c.cover))
    (cond (eqb k kind.cover) (max c.now c.cover) c.now)

-- The tick of the first word of an order with code n: EXPOSE goes as START, COVER as COVER, any other as NOP, which waits for nothing.
unfoldable pub first_tick : Clock → ℕ → ℕ
first_tick c n = tick_for c (cond (eqb n code.expose) kind.start (cond (eqb n code.cover) kind.cover kind.nop))

-- The length of an acquisition under the clock's settings.
unfoldable pub length_at : Clock → ℕ
unfolding length_by
length_at c = length_by c.mode c.irdelay c.irexpo c.ccddelay c.ccdexpo

-- From the tick of a word to the clock after it.
unfoldable pub span_at : Clock → ℕ → ℕ
span_at c k = cond (eqb k kind.start) (length_at c) (cond (eqb k kind.hk) hk_ticks 1)

-- The clock after a word of kind k with data b.
unfoldable pub clock_after : Clock → ℕ → ℕ → Clock
clock_after c k b =
    record {
      now = tick_for c k + span_at c k;
      mirror = cond (eqb k kind.cos_l || (eqb k kind.switch && eqb b 0)) (tick_for c k + mirror_ticks) c.mirror;
      cover = cond (eqb k kind.cover) (tick_for c k + cover_step_ticks * steps b) c.cover;
      mode = cond (eqb k kind.ir_win_mode) b c.mode;
      irdelay = cond (eqb k kind.ir_delay) b c.irdelay;
      irexpo = cond (eqb k kind.ir_expo) b c.irexpo;
      ccddelay = cond (eqb k kind.ccd_delay) b c.ccddelay;
      ccdexpo = cond (eqb k kind.ccd_expo) b c.ccdexpo;
    }

-- The clock with the settings that an order changes.
unfoldable pub set_by : Clock → Order → Clock
set_by c o =
    record {
      now = c.now;
      mirror = c.mirror;
      cover = c.cover;
      mode = cond (is o code.window_mode) o.a c.mode;
      irdelay = cond (is o code.ir_times) o.a c.irdelay;
      irexpo = cond (is o code.ir_times) o.b c.irexpo;
      ccddelay = cond (is o code.ccd_times) o.a c.ccddelay;
      ccdexpo = cond (is o code.ccd_times) o.b c.ccdexpo;
    }

-- A wait adds its ticks.
unfoldable pub clock_paused : Clock → ℕ → Clock
clock_paused c n =
    record {
      now = c.now + n;
      mirror = c.mirror;
      cover = c.cover;
      mode = c.mode;
      irdelay = c.irdelay;
      irexpo = c.irexpo;
      ccddelay = c.ccddelay;
      ccdexpo = c.ccdexpo;
    }

abbrev pub kind_in : ℕ → ℕ
kind_in w = kind_of (identifier w)

unfoldable pub clocked_from : Clock → List Item → Schedule
clocked_from c [] = record { list = []; end = c.now }
clocked_from c (send w ∷ is) = following (tick_for c (kind_in w)) w (clocked_from (clock_after c (kind_in w) (bits_of w)) is)
clocked_from c (pause n ∷ is) = clocked_from (clock_paused c n) is

-- The clock after items.
unfoldable pub clock_through : Clock → List Item → Clock
clock_through c [] = c
clock_through c (send w ∷ is) = clock_through (clock_after c (kind_in w) (bits_of w)) is
clock_through c (pause n ∷ is) = clock_through (clock_paused c n) is
