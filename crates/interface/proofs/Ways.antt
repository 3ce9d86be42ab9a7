-- The ways through the exported functions over a state: l is the array as it was given, r what is answered, after the array that is left.
-- Assumes nothing.
use mathlib.Core.Path.{◌≡◌, sym, ◌∙◌}
use mathlib.Core.Bool.{Bool, true, false, not}
use mathlib.Core.List.{List}
use Prim.Native.Nat.{ℕ}
use borrow.Author.Tests.{eq-eqb, ne_eqb, not-true, not-false}
use lib.ListN.{length}
use Rattle.head.specs.State.{power_on}
use Rattle.head.specs.Range.{in_range}
use Rattle.head.specs.Word.{answer_of}
use Rattle.head.specs.Tick.{tick_of}
use Rattle.head.specs.Numbers.{cause_number, outcome_number}
use Rattle.head.specs.List.{numbers_listed, list_of, outcomes_after, list_error_number, list_answer_number}
use Rattle.head.specs.declared.state.Head.{Head}
use Rattle.head.specs.declared.word.Cause.TheVariants.{State}
use Rattle.head.specs.declared.word.Answered.{Answered}
use Rattle.head.specs.declared.tick.Ticked.{Ticked}
use Rattle.head.specs.declared.word.Outcome.{Outcome}
use Rattle.head.specs.declared.list.Listed.{Listed}
use Rattle.head.specs.declared.list.ListError.{ListError}
use Rattle.operators.specs.declared.PassError.{PassError}
use Rattle.std.specs.Prelude.{Ok, Err}
use Rattle.head.specs.Row.{places, numbers_of, state_of}
use Rattle.operators.specs.Passing.{passed_on, pass_error_number, passing_number}
use Rattle.operators.specs.declared.PassedOn.{PassedOn}
use Rattle.interface.specs.State.{well_formed, valid}
use Rattle.interface.specs.Stepping.{power_on_answer, power_on_state, range_answer, word_answer, word_state, due_answer, tick_answer, tick_state, list_answer, list_state, list_outcomes}
use Rattle.interface.specs.Operators.{pass_on_answer, pass_on_state}
use Rattle.interface.proofs.RoundTrip.{well-formed-length}

module _ (l : List ℕ) where
  module _ (short : length l ≡ places → ⊥) where
    pub power-on-refused : (r : ℕ) → r ≡ cause_number State → r ≡ power_on_answer l
    unfolding power_on_answer
    power-on-refused r is = rw (ne_eqb (length l) places short) is

    pub power-on-left : l ≡ power_on_state l
    unfolding power_on_state
    power-on-left = rw (ne_eqb (length l) places short)

  module _ (long : length l ≡ places) where
    pub power-on-answer : 0 ≡ power_on_answer l
    unfolding power_on_answer
    power-on-answer = rw (eq-eqb (length l) places long)

    pub power-on-state : (after : List ℕ) (h : Head) → h ≡ power_on → after ≡ numbers_of h → after ≡ power_on_state l
    unfolding power_on_state
    power-on-state after h on e = rw (eq-eqb (length l) places long, ← on) e

-- i is what `well_formed` answered
module _ (l : List ℕ) (i : Bool) (is : i ≡ well_formed l) where
  module _ (bad : not i ≡ true) where
    ill : well_formed l ≡ false
    ill = sym is ∙ not-true i bad

    module _ (r : ℕ) (own : r ≡ cause_number State) where
      pub range-ill : r ≡ range_answer l
      unfolding range_answer valid
      range-ill = rw ill own

      pub word-ill : (w : ℕ) → r ≡ word_answer l w
      unfolding word_answer
      word-ill w = rw ill own

      pub list-ill : (ws ts : List ℕ) (room : ℕ) → r ≡ list_answer l ws ts room
      unfolding list_answer
      list-ill ws ts room = rw ill own

      pub tick-ill : r ≡ tick_answer l
      unfolding tick_answer
      tick-ill = rw ill own

      pub pass-on-ill : (g w : ℕ) → r ≡ pass_on_answer l g w
      unfolding pass_on_answer
      pass-on-ill g w = rw ill own

    pub word-left : (w : ℕ) → l ≡ word_state l w
    unfolding word_state
    word-left w = rw ill

    pub list_left : (ws ts : List ℕ) (room : ℕ) → l ≡ list_state l ws ts room
    unfolding list_state
    list_left ws ts room = rw ill

    pub outcomes-left : (ws ts old : List ℕ) → old ≡ list_outcomes l ws ts old
    unfolding list_outcomes
    outcomes-left ws ts old = rw ill

    pub tick-left : l ≡ tick_state l
    unfolding tick_state
    tick-left = rw ill

    pub pass-on-left : (g w : ℕ) → l ≡ pass_on_state l g w
    unfolding pass_on_state
    pass-on-left g w = rw ill

  module _ (good : not i ≡ false) where
    well : well_formed l ≡ true
    well = sym is ∙ not-false i good

    pub long : length l ≡ places
    long = well-formed-length l well

    -- h is the state that was loaded
    module _ (h : Head) (loaded : h ≡ state_of l) where
      module _ (v : Bool) (judged : v ≡ in_range h) where
        pub range-yes : v ≡ true → 0 ≡ range_answer l
        unfolding range_answer valid
        range-yes e = rw (well, ← loaded, ← judged, e)

        pub range-no : v ≡ false → (r : ℕ) → r ≡ cause_number State → r ≡ range_answer l
        unfolding range_answer valid
        range-no e r own = rw (well, ← loaded, ← judged, e) own

      module _ (w : ℕ) (a : Answered) (e : a ≡ answer_of h w) where
        pub word-answer : (r : ℕ) → r ≡ outcome_number a.outcome → r ≡ word_answer l w
        unfolding word_answer
        word-answer r own = rw (well, ← loaded, ← e) own

        pub word-state : (after : List ℕ) → after ≡ numbers_of a.head → after ≡ word_state l w
        unfolding word_state
        word-state after own = rw (well, ← loaded, ← e) own

      module _ (g w : ℕ) (p : PassedOn) (e : p ≡ passed_on h g w) where
        pass-on-number : (r : ℕ) → r ≡ passing_number p.passing → r ≡ pass_on_answer l g w
        unfolding pass_on_answer
        pass-on-number r own = rw (well, ← loaded, ← e) own

        pub passed-answer : {o : Outcome} → p.passing ≡ Ok o → (r : ℕ) → r ≡ outcome_number o → r ≡ pass_on_answer l g w
        unfolding passing_number
        passed-answer passed r own = pass-on-number r (rw passed own)

        pub not-passed-answer : {f : PassError} → p.passing ≡ Err f → (r : ℕ) → r ≡ pass_error_number f → r ≡ pass_on_answer l g w
        unfolding passing_number
        not-passed-answer refused r own = pass-on-number r (rw refused own)

        pub pass-on-state : (after : List ℕ) → after ≡ numbers_of p.head → after ≡ pass_on_state l g w
        unfolding pass_on_state
        pass-on-state after own = rw (well, ← loaded, ← e) own

      module _ (t : Ticked) (e : t ≡ tick_of h) where
        pub tick-answer : (r : ℕ) → r ≡ due_answer t.due → r ≡ tick_answer l
        unfolding tick_answer
        tick-answer r own = rw (well, ← loaded, ← e) own

        pub tick-state : (after : List ℕ) → after ≡ numbers_of t.head → after ≡ tick_state l
        unfolding tick_state
        tick-state after own = rw (well, ← loaded, ← e) own

      module _ (ws ts old : List ℕ) (a : Listed) (e : a ≡ list_of h ws ts (length old)) where
        list-number : (r : ℕ) → r ≡ list_answer_number a.answer → r ≡ list_answer l ws ts (length old)
        unfolding list_answer
        list-number r own = rw (well, ← loaded, ← e) own

        pub list-given : {u : Unit {0}} → a.answer ≡ Ok u → 0 ≡ list_answer l ws ts (length old)
        unfolding list_answer_number
        list-given given = list-number 0 (rw given)

        pub list-refused : {f : ListError} → a.answer ≡ Err f → (r : ℕ) → r ≡ list_error_number f → r ≡ list_answer l ws ts (length old)
        unfolding list_answer_number
        list-refused refused r own = list-number r (rw refused own)

        pub list-state : (after : List ℕ) → after ≡ numbers_of a.head → after ≡ list_state l ws ts (length old)
        unfolding list_state
        list-state after own = rw (well, ← loaded, ← e) own

        pub list-outcomes : (after : List ℕ) → after ≡ outcomes_after a.answer (numbers_listed ws ts h) old → after ≡ list_outcomes l ws ts old
        unfolding list_outcomes
        list-outcomes after own = rw (well, ← loaded, ← e) own
