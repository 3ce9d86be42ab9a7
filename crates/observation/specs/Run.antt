-- Document 02, request P6: a run of a head that two operators and the controller give words to. At each tick the head gets at most one word,
-- and then the tick passes (document 01).
-- Assumes nothing.
use Rattle.std.specs.Prelude.{ℕ, List, [], ◌∷◌}
use Rattle.words.specs.Kinds.{ccd, infrared}
use Rattle.head.specs.Word.{answer_of}
use Rattle.head.specs.Tick.{tick_of}
use Rattle.head.specs.declared.state.Head.{Head}
use Rattle.blocks.specs.declared.ccd.CcdBits.{CcdBits}
use Rattle.operators.specs.Passing.{passed_on}

-- The word of a tick, if there is one, and who gives it. It may be any number.
pub data Given : Type 0 where
  nothing : Given
  by_ccd : ℕ → Given
  by_infrared : ℕ → Given
  by_controller : ℕ → Given

-- A tick of a run: the word, and the caller's VIS bits for a block that is due.
pub record Moment : Type 0 where
  pub given : Given
  pub bits : CcdBits

-- The head between the word of a tick and the tick: an operator's word is passed on (`pass_on`), the controller's goes to the head
-- directly (`Head::word`).
unfoldable pub between : Head → Given → Head
between s nothing = s
between s (by_ccd w) = (passed_on s ccd w).head
between s (by_infrared w) = (passed_on s infrared w).head
between s (by_controller w) = (answer_of s w).head

-- The head after the tick (`Head::tick`).
unfoldable pub next : Head → Moment → Head
next s m = (tick_of (between s m.given)).head

unfoldable pub head_after : Head → List Moment → Head
head_after s [] = s
head_after s (m ∷ ms) = head_after (next s m) ms
