-- Document 01, "The head": its answer to a word, in the order of the checks.
-- Assumes nothing.
use Rattle.std.specs.Prelude.{ℕ, Result, Ok, Err, Bool, cond, not, ◌&&◌, ◌||◌, eqb, ltb}
use Rattle.words.specs.Kinds as kind
use Rattle.words.specs.Codec.{decode_of}
use Rattle.words.specs.declared.Word.{Word}
use Rattle.words.specs.declared.DecodeError.{DecodeError}
use Rattle.words.specs.declared.DecodeError.TheVariants.{Unknown, OutOfRange}
use Rattle.head.specs.Range.{in_range}
use Rattle.head.specs.Busy.{is_busy}
use Rattle.head.specs.State.{none_begun}
use Rattle.head.specs.Flags.{time_both, time_ir, word_both, scanned, mirror_word, out_of_range_flags}
use Rattle.head.specs.Apply.{after, act_of}
use Rattle.head.specs.declared.state.FlagBits.{FlagBits}
use Rattle.head.specs.declared.state.Begun.{Begun}
use Rattle.head.specs.declared.state.Head.{Head}
use Rattle.head.specs.declared.word.Cause.{Cause}
use Rattle.head.specs.declared.word.Cause.TheVariants.{State, Busy, CoverMoving, UnknownWord, Range, Turn}
use Rattle.head.specs.declared.word.Outcome.TheVariants.{Taken, Ignored}
use Rattle.head.specs.declared.word.Answered.{Answered}

-- The state with other flags and another begun set: all that an ignored word may change.
abbrev pub marked : Head → FlagBits → Begun → Head
marked s f g =
    record { settings = s.settings; latches = s.latches; flags = f; work = s.work; motion = s.motion; begun = g }

abbrev pub ignored : Head → FlagBits → Begun → Cause → Answered
ignored s f g c = record { head = marked s f g; outcome = Ignored c }

-- After so many words of a set: SIN L is in turn after one, COS M after two, COS L after three. SIN M is never out of turn.
unfoldable pub out_of_turn : ℕ → ℕ → Bool
out_of_turn count k =
    (eqb k kind.sin_l && not (eqb count 1)) || (eqb k kind.cos_m && not (eqb count 2)) || (eqb k kind.cos_l && not (eqb count 3))

-- 22 (COVER while the cover moves), 25, or taken.
unfoldable pub on_word : Head → ℕ → ℕ → Answered
on_word s k b =
    cond (eqb k kind.cover && ltb 0 s.motion.cover) (ignored s (time_ir s.flags) s.begun CoverMoving)
    (cond (out_of_turn s.begun.count k) (ignored s (scanned s.flags) none_begun Turn)
    (record { head = after s k b; outcome = Taken (act_of k b) }))

-- 23, 24; a mirror word out of range drops the begun set.
unfoldable pub on_decoded : Head → Result Word DecodeError → Answered
on_decoded s (Err Unknown) = ignored s (word_both s.flags) s.begun UnknownWord
on_decoded s (Err (OutOfRange k)) =
    ignored s (out_of_range_flags k s.flags) (cond (mirror_word k) none_begun s.begun) Range
on_decoded s (Ok w) = on_word s w.kind w.bits

-- STOP's word, C000.
abbrev pub stop_word : ℕ
stop_word = 0xC000

-- 21, then 22 (busy and the word is not C000), then what the word is.
unfoldable pub answer_of : Head → ℕ → Answered
answer_of s w =
    cond (not (in_range s)) (ignored s s.flags s.begun State)
    (cond (is_busy s && not (eqb w stop_word)) (ignored s (time_both s.flags) s.begun Busy)
    (on_decoded s (decode_of w)))
