-- The numbers of the head's answers: each case's number is the one that the state and the word give by themselves.
-- Assumes nothing.
use mathlib.Core.Path.{◌≡◌, refl, sym, ◌∙◌}
use mathlib.Core.Bool.{Bool, true, false, cond, not, ◌&&◌}
use Prim.Native.Nat.{ℕ, ◌+◌, ◌*◌, ◌≤◌, ◌<◌, max}
use native.Mathlib.Omega.{arith}
use borrow.Author.Tests.{eqb-true, not-false}
use lib.Dec.{ltb, eqb}
use Rattle.words.specs.Kinds as kind
use Rattle.words.specs.Kinds.{rows, identifier, bits_of, allowed, kind_of, kinds}
use Rattle.std.specs.Prelude.{Ok}
use Rattle.words.specs.Codec.{word, decode_of, judged, encode_of, word_of}
use Rattle.words.proofs.Codec.{decode-encode, decode-read}
use Rattle.head.specs.Range.{in_range}
use Rattle.head.specs.Busy.{busy_ticks, is_busy}
use Rattle.head.specs.Apply.{act_of}
use Rattle.head.specs.Word.{out_of_turn, on_word, on_decoded, answer_of, stop_word}
use Rattle.head.specs.Tick.{passed, tick_of}
use Rattle.head.specs.Numbers.{act_number, cause_number, outcome_number, due_number, taken_number, answer_number, tick_number}
use Rattle.head.specs.declared.state.Head.{Head}
use Rattle.head.specs.declared.word.Act.TheVariants.{None, Exposure, Request, Cover}
use Rattle.head.specs.declared.word.Cause.TheVariants.{State}
use Rattle.head.specs.declared.word.Outcome.TheVariants.{Ignored}
use Rattle.head.specs.declared.word.Answered.{Answered}
use Rattle.head.specs.declared.tick.Due.TheVariants.{Refused}
use Rattle.head.specs.declared.tick.Ticked.{Ticked}

-- a cover word is its data bits above 1000 hex
cover-word : (w b : ℕ) → w < 65536 → decode_of w ≡ Ok (word kind.cover b) → 0x1000 + b ≡ w
unfolding encode_of word_of rows
cover-word w b h e =
    let r = decode-read w kind.cover b e in
    let made = rw r.fine at (decode-encode w kind.cover b h e) in
    let is : 4 * 1024 + b ≡ w = cc in
    is

-- the act of a word that is taken
act-number : (w k b : ℕ) → w < 65536 → decode_of w ≡ Ok (word k b) → act_number (act_of k b) ≡ taken_number w
unfolding act_number act_of taken_number
act-number w k b h e = rw (← (decode-read w k b e).kind) (go (eqb k kind.start) (eqb k kind.hk) (eqb k kind.cover) refl)
  where
    go : (x y z : Bool) → eqb k kind.cover ≡ z
        → act_number (cond x Exposure (cond y Request (cond z (Cover b) None))) ≡ cond x 1 (cond y 2 (cond z w 0))
    go true y z p = refl
    go false true z p = refl
    go false false false p = refl
    go false false true p = cover-word w b h (rw (eqb-true k kind.cover p) at e)

-- the answer to any word: one clause for each line of the table, in its order
pub word_number : (s : Head) (w : ℕ) → w < 65536 → outcome_number (answer_of s w).outcome ≡ answer_number s w
unfolding answer_of answer_number decode_of judged on_decoded on_word outcome_number cause_number
word_number s w h =
    go (in_range s) refl (is_busy s && not (eqb w stop_word)) refl (ltb k kinds) refl (allowed k b) refl
    (eqb k kind.cover && ltb 0 s.motion.cover) refl (out_of_turn s.begun.count k) refl
  where
    k : ℕ
    k = kind_of (identifier w)

    b : ℕ
    b = bits_of w

    go : (ranged : Bool) → in_range s ≡ ranged → (busy : Bool) → (is_busy s && not (eqb w stop_word)) ≡ busy
        → (known : Bool) → ltb k kinds ≡ known → (fine : Bool) → allowed k b ≡ fine
        → (moving : Bool) → (eqb k kind.cover && ltb 0 s.motion.cover) ≡ moving
        → (turn : Bool) → out_of_turn s.begun.count k ≡ turn
        → outcome_number (answer_of s w).outcome ≡ answer_number s w
    go false p busy q known r fine t moving u turn v = rw p
    go true p true q known r fine t moving u turn v = rw (p, q)
    go true p false q false r fine t moving u turn v = rw (p, q, r)
    go true p false q true r false t moving u turn v = rw (p, q, r, t)
    go true p false q true r true t true u turn v = rw (p, q, r, t, u)
    go true p false q true r true t false u true v = rw (p, q, r, t, u, v)
    go true p false q true r true t false u false v = rw (p, q, r, t, u, v) (act-number w k b h (rw (r, t)))

pub tick-number : (s : Head) → due_number (tick_of s).due ≡ tick_number s
unfolding tick_of passed tick_number due_number busy_ticks
tick-number s = go (in_range s) refl (eqb s.work.busy 1) refl
  where
    go : (ranged : Bool) → in_range s ≡ ranged → (last : Bool) → eqb s.work.busy 1 ≡ last → due_number (tick_of s).due ≡ tick_number s
    go false p last q = rw p
    go true p true q = rw (p, q)
    go true p false q = rw (p, q)

-- it is the word itself, or at most 25
answer-small : (s : Head) (w : ℕ) → answer_number s w ≤ max w 25
unfolding answer_number taken_number
answer-small s w =
    let k = kind_of (identifier w) in
    go (in_range s) (is_busy s && not (eqb w stop_word)) (ltb k kinds) (allowed k (bits_of w)) (eqb k kind.cover && ltb 0 s.motion.cover)
    (out_of_turn s.begun.count k) (eqb k kind.start) (eqb k kind.hk) (eqb k kind.cover)
  where
    go : (ranged busy known fine moving turn start hk cover : Bool)
        → cond (not ranged) 21
        (cond busy 22
        (cond (not known) 23
        (cond (not fine) 24 (cond moving 22 (cond turn 25 (cond start 1 (cond hk 2 (cond cover w 0))))))))
        ≤ max w 25
    go false busy known fine moving turn start hk cover = omega arith
    go true true known fine moving turn start hk cover = omega arith
    go true false false fine moving turn start hk cover = omega arith
    go true false true false moving turn start hk cover = omega arith
    go true false true true true turn start hk cover = omega arith
    go true false true true false true start hk cover = omega arith
    go true false true true false false true hk cover = omega arith
    go true false true true false false false true cover = omega arith
    go true false true true false false false false true = omega arith
    go true false true true false false false false false = omega arith

pub answer-most : (s : Head) (w : ℕ) → w < 65536 → outcome_number (answer_of s w).outcome ≤ max w 25
answer-most s w h = rw (word_number s w h) (answer-small s w)

-- a word's answer has the number of its outcome
pub answered-number : (s : Head) (w : ℕ) → w < 65536 → (r : Answered) → r ≡ answer_of s w → outcome_number r.outcome ≡ answer_number s w
answered-number s w h r e = rw e (word_number s w h)

-- the ways through `word` and `tick`: i is what the range check answered
module _ (s : Head) (i : Bool) (is : i ≡ in_range s) where
  module _ (out : not i ≡ true) (w : ℕ) where
    pub way-state : record { head = s; outcome = Ignored State } ≡ answer_of s w
    unfolding answer_of
    way-state = simp (← is, out)

    pub state-number : outcome_number (Ignored State) ≡ answer_number s w
    unfolding answer_number outcome_number cause_number
    state-number = simp (← is, out)

  pub ranged : not i ≡ false → in_range s ≡ true
  ranged passes = sym is ∙ not-false i passes

  module _ (r : Ticked) where
    pub way-passed : i ≡ true → r ≡ passed s → r ≡ tick_of s
    unfolding tick_of
    way-passed e done = rw (← is, e) done

    pub passed-number : i ≡ true → r ≡ passed s → due_number r.due ≡ tick_number s
    passed-number e done = rw (way-passed e done) (tick-number s)

  pub way-refused : i ≡ false → record { head = s; due = Refused } ≡ tick_of s
  unfolding tick_of
  way-refused e = rw (← is, e)

  pub refused-number : i ≡ false → due_number Refused ≡ tick_number s
  unfolding due_number tick_number
  refused-number e = rw (← is, e)
