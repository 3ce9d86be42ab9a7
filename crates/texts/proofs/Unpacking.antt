-- An answer of `shabgozim_why` unpacked: the ways through the code, and that it gives back the diagnosis that was packed.
-- Assumes nothing.
use mathlib.Core.Path.{◌≡◌, refl}
use mathlib.Core.Bool.{Bool, true, false, cond, not}
use mathlib.Core.List.{List}
use Prim.Native.Nat.{ℕ, zero, suc, ◌+◌, ◌*◌, ◌/◌, ◌%◌, ◌≤◌, ◌<◌}
use native.Mathlib.Omega.{arith}
use borrow.Author.Tests.{eq-eqb, ne_eqb, le-leb, lt-leb}
use lib.Dec.{eqb, lit<}
use lib.ListN.{length}
use Rattle.words.specs.Kinds.{identifier, kind_of}
use Rattle.head.specs.Row.{state_of}
use Rattle.head.specs.Range.{in_range}
use Rattle.head.specs.Busy.{busy_ticks}
use Rattle.head.specs.Word.{answer_of}
use Rattle.head.specs.Numbers.{cause_number}
use Rattle.head.specs.declared.state.Head.{Head}
use Rattle.head.specs.declared.word.Cause.TheVariants.{State, Busy, CoverMoving, UnknownWord, Range, Turn}
use Rattle.head.specs.declared.word.Outcome.{Outcome}
use Rattle.head.specs.declared.word.Outcome.TheVariants as outcome
use Rattle.head.proofs.Bounds.{bounds}
use Rattle.diagnosis.specs.Diagnosis.{due_after, by_cause, by_outcome, diagnosis_of, diagnosis_number}
use Rattle.diagnosis.specs.declared.Diagnosis.{Diagnosis}
use Rattle.diagnosis.specs.declared.Diagnosis.TheVariants.{Taken, StateOutOfRange, HeadBusy, CoverMoves, UnknownIdentifier, DataOutOfRange, OutOfTurn}
use Rattle.interface.specs.State.{well_formed}
use Rattle.interface.specs.Stepping.{state_refused}
use Rattle.interface.specs.Why.{detail_bits, packed_why, why_answer}
use Rattle.explanation.specs.Explanation.{explanation_text}
use Rattle.explanation.proofs.Fitting.{explanation-few}
use Rattle.texts.specs.Texts.{words_length, words_left}
use Rattle.texts.specs.Why.{unpacked_why, is_why}
use Rattle.texts.proofs.OneLine.{no-words-length, no-words-left, known-length, known-left}

pub line-few : (d : Diagnosis) → length (explanation_text d) ≤ 256
line-few d = omega (arith, explanation-few d)

-- `unpacked_why`: a is the answer
module _ (a : ℕ) where
  pub unpack-state : a % 0x100 ≡ 21 → StateOutOfRange ≡ unpacked_why a
  unfolding unpacked_why
  unpack-state e = rw e

  pub unpack-cover : a % 0x100 ≡ 22 → 0x80000000 ≤ a → CoverMoves (a / 0x100 % 0x10000) ≡ unpacked_why a
  unfolding unpacked_why
  unpack-cover e h = rw (e, le-leb 0x80000000 a h)

  pub unpack-busy : a % 0x100 ≡ 22 → a < 0x80000000 → HeadBusy (a / 0x100 % 0x10000) ≡ unpacked_why a
  unfolding unpacked_why
  unpack-busy e h = rw (e, lt-leb 0x80000000 a h)

  pub unpack-unknown : a % 0x100 ≡ 23 → UnknownIdentifier (a / 0x100 % 0x10000) ≡ unpacked_why a
  unfolding unpacked_why
  unpack-unknown e = rw e

  pub unpack-range : a % 0x100 ≡ 24 → {k : ℕ} → k ≡ kind_of (identifier (a / 0x100 % 0x10000))
      → DataOutOfRange (a / 0x100 % 0x10000) k ≡ unpacked_why a
  unfolding unpacked_why
  unpack-range e is = rw (e, is)

  pub unpack-turn : a % 0x100 ≡ 25 → OutOfTurn (a / 0x100 % 0x10000 % 0x100) ≡ unpacked_why a
  unfolding unpacked_why
  unpack-turn e = rw e

  pub unpack-taken : (a % 0x100 ≡ 21 → ⊥) → (a % 0x100 ≡ 22 → ⊥) → (a % 0x100 ≡ 23 → ⊥) → (a % 0x100 ≡ 24 → ⊥) → (a % 0x100 ≡ 25 → ⊥)
      → Taken ≡ unpacked_why a
  unfolding unpacked_why
  unpack-taken p q r t u =
      let n = a % 0x100 in rw (ne_eqb n 21 p, ne_eqb n 22 q, ne_eqb n 23 r, ne_eqb n 24 t, ne_eqb n 25 u)

-- `shabgozim_explanation`: d is the diagnosis that was unpacked, r what it is packed into
module _ (a : ℕ) {d : Diagnosis} (is : d ≡ unpacked_why a) {r : ℕ} (own : r ≡ packed_why d) (old : List ℕ) where
  judged : eqb r a ≡ is_why a
  unfolding is_why
  judged = rw (own, is)

  module _ (bad : not (eqb r a) ≡ true) where
    pub no-line-length : 0 ≡ words_length (is_why a) (explanation_text (unpacked_why a)) old
    no-line-length = no-words-length (explanation_text (unpacked_why a)) old (is_why a) (rw judged at bad)

    pub no-line-left : old ≡ words_left (is_why a) (explanation_text (unpacked_why a)) old
    no-line-left = no-words-left (explanation_text (unpacked_why a)) old (is_why a) (rw judged at bad)

  module _ (good : not (eqb r a) ≡ false) where
    pub line-length : {v : ℕ} → v ≡ words_length true (explanation_text d) old → v ≡ words_length (is_why a) (explanation_text (unpacked_why a)) old
    line-length e = known-length (explanation_text (unpacked_why a)) old (is_why a) (rw judged at good) (rw is at e)

    pub line-left : {new : List ℕ} → new ≡ words_left true (explanation_text d) old
        → new ≡ words_left (is_why a) (explanation_text (unpacked_why a)) old
    line-left e = known-left (explanation_text (unpacked_why a)) old (is_why a) (rw judged at good) (rw is at e)

-- a diagnosis whose detail an answer has room for
data Small : Diagnosis → Type 0 where
  taken : Small Taken
  state : Small StateOutOfRange
  busy : (n : ℕ) → n < 65536 → Small (HeadBusy n)
  cover : (n : ℕ) → n < 65536 → Small (CoverMoves n)
  unknown : (w : ℕ) → w < 65536 → Small (UnknownIdentifier w)
  range : (w : ℕ) → w < 65536 → Small (DataOutOfRange w (kind_of (identifier w)))
  turn : (k : ℕ) → k < 256 → Small (OutOfTurn k)

-- an answer with this number, and a detail of 16 bits above it
module _ (number n : ℕ) (h : number < 0x100) (few : n < 65536) where
  first_byte : (number + 0x100 * n) % 0x100 ≡ number
  first_byte = omega arith

  above-it : (number + 0x100 * n) / 0x100 % 0x10000 ≡ n
  above-it = omega arith

unpack-small : (d : Diagnosis) → Small d → unpacked_why (packed_why d) ≡ d
unfolding unpacked_why packed_why diagnosis_number cause_number detail_bits
unpack-small d taken = refl
unpack-small d state = refl
unpack-small d (busy n h) =
    rw (first_byte 22 n (lit< tt) h, above-it 22 n (lit< tt) h, lt-leb 0x80000000 (22 + 0x100 * n) (omega arith))
unpack-small d (cover n h) =
    let low : (22 + (0x80000000 + 0x100 * n)) % 0x100 ≡ 22 = omega arith in
    let above : (22 + (0x80000000 + 0x100 * n)) / 0x100 ≡ 0x800000 + n = omega arith in
    let high : (0x800000 + n) % 0x10000 ≡ n = omega arith in
    rw (low, above, high, le-leb 0x80000000 (22 + (0x80000000 + 0x100 * n)) (omega arith))
unpack-small d (unknown w h) = rw (first_byte 23 w (lit< tt) h, above-it 23 w (lit< tt) h)
unpack-small d (range w h) = rw (first_byte 24 w (lit< tt) h, above-it 24 w (lit< tt) h)
unpack-small d (turn k h) =
    let low : k % 0x100 ≡ k = omega arith in
    rw (first_byte 25 k (lit< tt) (omega arith), above-it 25 k (lit< tt) (omega arith), low)

due-small : (n : ℕ) → due_after n < 256
unfolding due_after
due-small zero = lit< tt
due-small (suc zero) = lit< tt
due-small (suc (suc zero)) = lit< tt
due-small (suc (suc (suc n))) = lit< tt

module _ (s : Head) (w : ℕ) (h : w < 65536) where
  outcome-small : in_range s ≡ true → (o : Outcome) → Small (by_outcome s w o)
  unfolding by_outcome by_cause busy_ticks
  outcome-small ranged (outcome.Taken a) = taken
  outcome-small ranged (outcome.Ignored State) = state
  outcome-small ranged (outcome.Ignored Busy) = busy s.work.busy (omega (arith, (bounds s ranged).busy))
  outcome-small ranged (outcome.Ignored CoverMoving) = cover s.motion.cover (omega (arith, (bounds s ranged).motion.cover))
  outcome-small ranged (outcome.Ignored UnknownWord) = unknown w h
  outcome-small ranged (outcome.Ignored Range) = range w h
  outcome-small ranged (outcome.Ignored Turn) = turn (due_after s.begun.count) (due-small s.begun.count)

  diagnosis-small : Small (diagnosis_of s w)
  unfolding diagnosis_of by_outcome by_cause answer_of
  diagnosis-small = go (in_range s) refl
    where
      go : (x : Bool) → in_range s ≡ x → Small (diagnosis_of s w)
      go true e = outcome-small e (answer_of s w).outcome
      go false e = rw e state

  -- packed and unpacked, a diagnosis is as it was
  pub why-unpacked : unpacked_why (packed_why (diagnosis_of s w)) ≡ diagnosis_of s w
  why-unpacked = unpack-small (diagnosis_of s w) diagnosis-small

ill-said : eqb (packed_why (unpacked_why state_refused)) state_refused ≡ true
unfolding packed_why unpacked_why diagnosis_number detail_bits cause_number
ill-said = refl

-- every answer of `shabgozim_why` has its line
pub answer-said : (l : List ℕ) (w : ℕ) → w < 65536 → is_why (why_answer l w) ≡ true
unfolding is_why why_answer
answer-said l w h = go (well_formed l)
  where
    packed : ℕ
    packed = packed_why (diagnosis_of (state_of l) w)

    go : (x : Bool) → eqb (packed_why (unpacked_why (cond x packed state_refused))) (cond x packed state_refused) ≡ true
    go true = rw (why-unpacked (state_of l) w h) (eq-eqb packed packed refl)
    go false = ill-said
