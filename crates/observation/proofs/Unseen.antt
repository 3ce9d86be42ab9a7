-- The CCD operator's observation is decided by the view that the first head gives him, the words that are not infrared, the caller's VIS
-- bits, and when the head is busy. So two runs that are alike in these give him the same.
-- Assumes nothing.
use mathlib.Core.Path.{◌≡◌, refl, sym, ap, ◌∙◌}
use mathlib.Core.Bool.{Bool, true}
use mathlib.Core.List.{List, [], ◌∷◌, ◌++◌}
use Prim.Native.Nat.{ℕ}
use lib.ListN.{get_or, drop}
use Rattle.head.specs.Range.{in_range}
use Rattle.head.specs.Busy.{is_busy}
use Rattle.head.specs.Tick.{tick_of}
use Rattle.head.specs.declared.state.Head.{Head}
use Rattle.head.proofs.Keep.{tick-keeps}
use Rattle.observation.specs.Run.{Moment, between, next, head_after}
use Rattle.observation.specs.Observation.{ccd_registers, flag_word_due, Seen, seen, seen_from, observed}
use Rattle.observation.specs.Premises.{not_infrared, without_infrared, busy_from, Alike}
use Rattle.observation.proofs.View.{View, view, registers_in, view_between, answer_in, view_ticked, flag_word_in}
use Rattle.observation.proofs.Words.{between-view, answer-in}
use Rattle.observation.proofs.Ticks.{between-keeps, tick-view, flag-word-in}

-- a tick of a run, by the view and by whether the head is busy after it
abbrev view_next : View → Moment → Bool → View
view_next v m later = view_ticked (view_between v m.given) later

abbrev seen_in : View → Moment → Bool → Seen
seen_in v m later =
    record {
      before = registers_in v;
      answer = answer_in v m.given;
      meanwhile = registers_in (view_between v m.given);
      flag_word = flag_word_in (view_between v m.given) later m.bits;
    }

seen_all : View → List Moment → List Bool → List Seen
seen_all v [] bs = []
seen_all v (m ∷ ms) [] = []
seen_all v (m ∷ ms) (b ∷ bs) = seen_in v m b ∷ seen_all (view_next v m b) ms bs

view_all : View → List Moment → List Bool → View
view_all v [] bs = v
view_all v (m ∷ ms) [] = v
view_all v (m ∷ ms) (b ∷ bs) = view_all (view_next v m b) ms bs

-- whether the head is busy after each tick
busy_after : Head → List Moment → List Bool
busy_after s [] = []
busy_after s (m ∷ ms) = is_busy (next s m) ∷ busy_after (next s m) ms

busy-all : (s : Head) (ms : List Moment) → is_busy s ∷ busy_after s ms ≡ busy_from s ms ++ (is_busy (head_after s ms) ∷ [])
unfolding busy_from head_after busy_after
busy-all s [] = refl
busy-all s (m ∷ ms) = ap (λ (bs : List Bool). is_busy s ∷ bs) (busy-all (next s m) ms)

abbrev shared : Moment → Moment
shared m = record { given = not_infrared m.given; bits = m.bits }

module _ (s : Head) (h : in_range s ≡ true) (m : Moment) where
  next-keeps : in_range (next s m) ≡ true
  unfolding next
  next-keeps = tick-keeps (between s m.given) (between-keeps s h m.given)

  next-view : view (next s m) ≡ view_next (view s) (shared m) (is_busy (next s m))
  unfolding next
  next-view =
      tick-view (between s m.given) (between-keeps s h m.given)
      ∙ ap (λ (v : View). view_ticked v (is_busy (tick_of (between s m.given)).head)) (between-view s h m.given)

  word_in : flag_word_due (next s m) (tick_of (between s m.given)).due m.bits
      ≡ flag_word_in (view_between (view s) (not_infrared m.given)) (is_busy (next s m)) m.bits
  unfolding next
  word_in =
      flag-word-in (between s m.given) (between-keeps s h m.given) m.bits
      ∙ ap (λ (v : View). flag_word_in v (is_busy (tick_of (between s m.given)).head) m.bits) (between-view s h m.given)

  seen-in : seen s m ≡ seen_in (view s) (shared m) (is_busy (next s m))
  unfolding seen ccd_registers next
  seen-in =
      rw (answer-in s h m.given, word_in)
      (ap
      (λ (v : View).
      record {
        before = registers_in (view s);
        answer = answer_in (view s) (not_infrared m.given);
        meanwhile = registers_in v;
        flag_word = flag_word_in (view_between (view s) (not_infrared m.given)) (is_busy (next s m)) m.bits;
      })
      (between-view s h m.given))

-- a run
seen_all_lem : (ms : List Moment) (s : Head) → in_range s ≡ true → seen_from s ms ≡ seen_all (view s) (without_infrared ms) (busy_after s ms)
unfolding seen_from without_infrared seen_all busy_after
seen_all_lem [] s h = refl
seen_all_lem (m ∷ ms) s h =
    let later = seen_all_lem ms (next s m) (next-keeps s h m) in
    rw (seen-in s h m, later, next-view s h m)

view-all : (ms : List Moment) (s : Head) → in_range s ≡ true → view (head_after s ms) ≡ view_all (view s) (without_infrared ms) (busy_after s ms)
unfolding head_after without_infrared view_all busy_after
view-all [] s h = refl
view-all (m ∷ ms) s h = view-all ms (next s m) (next-keeps s h m) ∙ (rw (next-view s h m))

module _ (s t : Head) (ms ns : List Moment) (alike : Alike s t ms ns) where
  same_view : view s ≡ view t
  unfolding ccd_registers
  same_view =
      let at : (k : ℕ) → get_or (ccd_registers s) k 0 ≡ get_or (ccd_registers t) k 0 = λ k. ap (λ (l : List ℕ). get_or l k 0) alike.registers in
      rw (at 0, at 1, at 2, at 3, at 4, at 5, at 6, alike.vistime, alike.visword, alike.task)

  same-busy : busy_after s ms ≡ busy_after t ns
  same-busy =
      ap (λ (bs : List Bool). drop 1 bs)
      (busy-all s ms ∙ (rw (alike.busy, alike.ends)) ∙ sym (busy-all t ns))

  -- the two runs end alike: equal CCD registers, VIS flags and task
  pub alike-after : view (head_after s ms) ≡ view (head_after t ns)
  alike-after =
      view-all ms s alike.first_ranged
      ∙ (rw (same_view, alike.given, same-busy))
      ∙ sym (view-all ns t alike.second_ranged)

  same_seen : seen_from s ms ≡ seen_from t ns
  same_seen =
      seen_all_lem ms s alike.first_ranged
      ∙ (rw (same_view, alike.given, same-busy))
      ∙ sym (seen_all_lem ns t alike.second_ranged)

  same_end : ccd_registers (head_after s ms) ≡ ccd_registers (head_after t ns)
  unfolding ccd_registers
  same_end = ap registers_in alike-after

  -- document 02, request P6: the two runs give the CCD operator the same
  pub unseen : observed s ms ≡ observed t ns
  unfolding observed
  unseen = rw (same_seen, same_end)
