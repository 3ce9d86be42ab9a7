-- The two forms that the head's answer to a word has: the word is ignored, and only flags and a begun set may change, or it is
-- taken with all that this implies.
-- Assumes nothing.
use mathlib.Core.Path.{◌≡◌, refl}
use mathlib.Core.Bool.{Bool, true, false, cond, not, ◌&&◌, ◌||◌}
use Prim.Native.Nat.{ℕ}
use native.Mathlib.Omega.{arith}
use lib.Dec.{eqb, ltb}
use Rattle.words.specs.Kinds as kind
use Rattle.std.specs.Prelude.{Result, Ok, Err}
use Rattle.words.specs.Codec.{word, decode_of}
use Rattle.words.specs.declared.Word.{Word}
use Rattle.words.specs.declared.DecodeError.{DecodeError}
use Rattle.words.specs.declared.DecodeError.TheVariants.{Unknown, OutOfRange}
use Rattle.head.specs.Range.{in_range}
use Rattle.head.specs.Busy.{is_busy}
use Rattle.head.specs.State.{none_begun}
use Rattle.head.specs.Flags.{time_both, time_ir, word_both, word_vis, word_ir, scanned, mirror_word, for_vis, for_both, out_of_range_flags}
use Rattle.head.specs.Apply.{after, act_of}
use Rattle.head.specs.Word.{ignored, out_of_turn, on_word, on_decoded, stop_word, answer_of}
use Rattle.head.specs.declared.state.FlagBits.{FlagBits}
use Rattle.head.specs.declared.state.Begun.{Begun}
use Rattle.head.specs.declared.state.Head.{Head}
use Rattle.head.specs.declared.word.Cause.{Cause}
use Rattle.head.specs.declared.word.Cause.TheVariants.{State, Busy, CoverMoving, UnknownWord, Range, Turn}
use Rattle.head.specs.declared.word.Outcome.TheVariants.{Taken}
use Rattle.head.specs.declared.word.Answered.{Answered}
use Rattle.head.proofs.Bounds.{FlagBounds}

-- the flags of a word that is out of range
out_of_range : (k : ℕ) (f : FlagBits) → FlagBounds f → FlagBounds (out_of_range_flags k f)
unfolding out_of_range_flags
out_of_range k f h = go (for_vis k) (mirror_word k || eqb k kind.switch) (for_both k)
  where
    go : (x y z : Bool) → FlagBounds (cond x (word_vis f) (cond y (scanned f) (cond z (word_both f) (word_ir f))))
    go true y z = omega arith
    go false true z = omega arith
    go false false true = omega arith
    go false false false = omega arith

-- a begun set is kept or dropped
pub data Kept (old : Begun) : Begun → Type 0 where
  same : Kept old old
  dropped : Kept old none_begun

-- the checks that a word of kind k with data b has passed
pub record Passed (s : Head) (w k b : ℕ) : Type 0 where
  pub ranged : in_range s ≡ true
  pub free : (is_busy s && not (eqb w stop_word)) ≡ false
  pub decoded : decode_of w ≡ Ok (word k b)
  pub still : (eqb k kind.cover && ltb 0 s.motion.cover) ≡ false
  pub turn : out_of_turn s.begun.count k ≡ false

abbrev pub taken : Head → ℕ → ℕ → Answered
taken s k b = record { head = after s k b; outcome = Taken (act_of k b) }

pub data Answer (s : Head) (w : ℕ) : Answered → Type 0 where
  ignoring : (f : FlagBits) (g : Begun) (c : Cause) → (FlagBounds s.flags → FlagBounds f) → Kept s.begun g → Answer s w (ignored s f g c)
  taking : (k b : ℕ) → Passed s w k b → Answer s w (taken s k b)

module _ (s : Head) (w : ℕ) where
  kept : (b : Bool) → Kept s.begun (cond b none_begun s.begun)
  kept true = dropped
  kept false = same

  module _ (ranged : in_range s ≡ true) (free : (is_busy s && not (eqb w stop_word)) ≡ false) where
    on-word : (k b : ℕ) → decode_of w ≡ Ok (word k b) → Answer s w (on_word s k b)
    unfolding on_word
    on-word k b e = go (eqb k kind.cover && ltb 0 s.motion.cover) refl (out_of_turn s.begun.count k) refl
      where
        go : (x : Bool) → (eqb k kind.cover && ltb 0 s.motion.cover) ≡ x → (y : Bool) → out_of_turn s.begun.count k ≡ y
            → Answer s w
            (cond x (ignored s (time_ir s.flags) s.begun CoverMoving)
            (cond y (ignored s (scanned s.flags) none_begun Turn) (taken s k b)))
        go true p y q = ignoring (time_ir s.flags) s.begun CoverMoving (λ h. omega arith) same
        go false p true q = ignoring (scanned s.flags) none_begun Turn (λ h. omega arith) dropped
        go false p false q = taking k b (record { ranged = ranged; free = free; decoded = e; still = p; turn = q })

    on-decoded : (d : Result Word DecodeError) → decode_of w ≡ d → Answer s w (on_decoded s d)
    unfolding on_decoded
    on-decoded (Ok v) e = on-word v.kind v.bits e
    on-decoded (Err Unknown) e = ignoring (word_both s.flags) s.begun UnknownWord (λ h. omega arith) same
    on-decoded (Err (OutOfRange k)) e =
        ignoring (out_of_range_flags k s.flags) (cond (mirror_word k) none_begun s.begun) Range (out_of_range k s.flags) (kept (mirror_word k))

  pub answer : Answer s w (answer_of s w)
  unfolding answer_of
  answer = go (in_range s) refl (is_busy s && not (eqb w stop_word)) refl
    where
      go : (x : Bool) → in_range s ≡ x → (y : Bool) → (is_busy s && not (eqb w stop_word)) ≡ y
          → Answer s w
          (cond (not x) (ignored s s.flags s.begun State)
          (cond y (ignored s (time_both s.flags) s.begun Busy) (on_decoded s (decode_of w))))
      go false p y q = ignoring s.flags s.begun State (λ h. h) same
      go true p true q = ignoring (time_both s.flags) s.begun Busy (λ h. omega arith) same
      go true p false q = on-decoded p q (decode_of w) refl
