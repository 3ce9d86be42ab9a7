-- A list in one call: the ways through the code, the outcomes and the numbers of each.
-- Assumes nothing.
use mathlib.Core.Path.{◌≡◌, refl, sym, ◌∙◌}
use mathlib.Core.Bool.{Bool, true, false, cond, not, ◌&&◌}
use mathlib.Core.List.{List, ◌++◌}
use Prim.Native.Nat.{ℕ, ◌≤◌}
use borrow.Author.Tests.{leb-true, not-true, not-false}
use lib.Dec.{eqb, leb}
use lib.ListN.{length, drop}
use Rattle.words.proofs.Tests.{and_left, and_right}
use Rattle.timed.specs.List.{rising, most_words, is_list}
use Rattle.timed.proofs.Rising.{list-even}
use Rattle.std.specs.Prelude.{Ok, Err}
use Rattle.head.specs.Range.{in_range}
use Rattle.head.specs.Numbers.{cause_number}
use Rattle.head.specs.List.{head_listed, numbers_listed, list_of, outcomes_after, list_error_number, list_answer_number, list_number}
use Rattle.head.specs.declared.state.Head.{Head}
use Rattle.head.specs.declared.list.ListError.TheVariants.{StateRefused, ListRefused}
use Rattle.head.proofs.Giving.{numbers-long}

-- 31 where any of its checks fails, 0 where none does
list-number : (s : Head) (ws ts : List ℕ) (room : ℕ) → in_range s ≡ true → (b : Bool) → (is_list ws ts && leb (length ws) room) ≡ b
    → list_number s ws ts room ≡ cond b 0 31
unfolding list_number is_list
list-number s ws ts room ranged b e =
    rw (ranged, ← e) (go (rising ts) (eqb (length ws) (length ts)) (leb (length ws) most_words) (leb (length ws) room))
  where
    go : (up even few fits : Bool)
        → cond {A = ℕ} (not up) 31 (cond (not even) 31 (cond (not few) 31 (cond (not fits) 31 0))) ≡ cond (even && few && up && fits) 0 31
    go false false few fits = refl
    go false true false fits = refl
    go false true true fits = refl
    go true false few fits = refl
    go true true false fits = refl
    go true true true false = refl
    go true true true true = refl

-- the ways through `list`: i is what the range check answered, l whether there is a list
module _ (s : Head) (ws ts : List ℕ) (room : ℕ) (i : Bool) (is : i ≡ in_range s) where
  module _ (out : not i ≡ true) where
    pub list-state : record { head = s; answer = Err StateRefused } ≡ list_of s ws ts room
    unfolding list_of
    list-state = simp (← is, out)

    pub list-state-number : list_answer_number (Err StateRefused) ≡ list_number s ws ts room
    unfolding list_answer_number list_error_number list_number cause_number
    list-state-number = simp (← is, out)

  module _ (passes : not i ≡ false) (l : Bool) (listed : l ≡ is_list ws ts) where
    module _ (no : not (l && leb (length ws) room) ≡ true) where
      pub list-not : record { head = s; answer = Err ListRefused } ≡ list_of s ws ts room
      unfolding list_of
      list-not = simp (← is, passes, ← listed, no)

      pub list-not-number : list_answer_number (Err ListRefused) ≡ list_number s ws ts room
      unfolding list_answer_number
      list-not-number =
          sym (list-number s ws ts room (sym is ∙ not-false i passes) false (rw (← listed) (not-true (l && leb (length ws) room) no)))

    module _ (yes : not (l && leb (length ws) room) ≡ false) where
      both : (l && leb (length ws) room) ≡ true
      both = not-false (l && leb (length ws) room) yes

      pub list-is : is_list ws ts ≡ true
      list-is = sym listed ∙ and_left l (leb (length ws) room) both

      pub list-room : length ws ≤ room
      list-room = leb-true (length ws) room (and_right l (leb (length ws) room) both)

      pub list_done : (h : Head) → h ≡ head_listed ws ts s → record { head = h; answer = Ok tt } ≡ list_of s ws ts room
      unfolding list_of
      list_done h e = simp (e, ← is, passes, ← listed, yes)

      pub list-done-number : list_answer_number (Ok tt) ≡ list_number s ws ts room
      unfolding list_answer_number
      list-done-number = sym (list-number s ws ts room (sym is ∙ not-false i passes) true (rw (← listed) both))

-- the outcomes of each way
module _ (numbers old : List ℕ) where
  pub outcomes-state : old ≡ outcomes_after (Err StateRefused) numbers old
  unfolding outcomes_after
  outcomes-state = refl

  pub outcomes-not : old ≡ outcomes_after (Err ListRefused) numbers old
  unfolding outcomes_after
  outcomes-not = refl

pub outcomes-done : (ws ts : List ℕ) (s : Head) (old after : List ℕ) → is_list ws ts ≡ true
    → after ≡ numbers_listed ws ts s ++ drop (length ws) old → after ≡ outcomes_after (Ok tt) (numbers_listed ws ts s) old
unfolding outcomes_after
outcomes-done ws ts s old after h e = e ∙ rw (numbers-long ws ts s (list-even ws ts h))
