-- What a word that is given makes of the operator's view: the view that it finds decides, and an infrared word that is passed on leaves
-- it as it was.
-- Assumes nothing.
use mathlib.Core.Path.{◌≡◌, refl, sym, ap, ◌∙◌}
use mathlib.Core.Bool.{Bool, true, false, cond, not, ◌&&◌, ◌||◌, false≢true}
use Rattle.std.specs.Prelude.{Some, Result, Ok, Err}
use Prim.Native.Nat.{ℕ}
use native.Mathlib.Omega.{arith}
use borrow.Author.Tests.{eqb-true, eq-eqb, lt-ltb}
use lib.Dec.{eqb, ltb}
use Rattle.words.specs.Kinds as kind
use Rattle.words.specs.Kinds.{group_of, rows}
use Rattle.words.specs.Codec.{decode_of}
use Rattle.words.specs.declared.Word.{Word}
use Rattle.words.specs.declared.DecodeError.{DecodeError}
use Rattle.words.specs.declared.DecodeError.TheVariants.{Unknown, OutOfRange}
use Rattle.words.proofs.Tests.{and_left, and_right}
use Rattle.head.specs.Limits.{hk_ticks, length_of}
use Rattle.head.specs.State.{none_begun, no_task, acquisition, housekeeping}
use Rattle.head.specs.Range.{in_range}
use Rattle.head.specs.Busy.{busy_ticks, is_busy}
use Rattle.head.specs.Flags.{time_both, time_ir, word_both, word_vis, word_ir, scanned, for_vis, for_both, mirror_word, out_of_range_flags}
use Rattle.head.specs.Apply.{after, settings_after, work_after, act_of}
use Rattle.head.specs.Word.{ignored, out_of_turn, on_word, on_decoded, stop_word, answer_of}
use Rattle.head.specs.declared.state.FlagBits.{FlagBits}
use Rattle.head.specs.declared.state.Head.{Head}
use Rattle.head.specs.declared.word.Cause.TheVariants.{Busy, CoverMoving, Turn}
use Rattle.head.specs.declared.word.Act.TheVariants.{None}
use Rattle.head.specs.declared.word.Outcome.TheVariants.{Taken}
use Rattle.head.proofs.Bounds.{Working, idle, acquiring, requesting, bounds}
use Rattle.operators.specs.Passing.{is_operator, in_group, passes, passed_on}
use Rattle.operators.specs.declared.PassError.TheVariants.{NotPassed}
use Rattle.operators.specs.declared.PassedOn.{PassedOn}
use Rattle.observation.specs.Run.{Given, nothing, by_ccd, by_infrared, by_controller, between}
use Rattle.observation.specs.Observation.{answer_to}
use Rattle.observation.specs.Premises.{not_infrared}
use Rattle.observation.proofs.View.{View, view, marking, busy_in, view_taken, word_flag_out, view_decoded, view_answered, passes_in, view_passed, passing_in, view_between, answer_in}

-- the head is busy where there is a task
busy-by : (t n : ℕ) → Working t n → ltb 0 n ≡ not (eqb t no_task)
busy-by t n idle = refl
busy-by t n (acquiring m p q) = lt-ltb 0 n (omega arith)
busy-by t n (requesting m p q) = lt-ltb 0 n (omega arith)

pub busy-in : (s : Head) → in_range s ≡ true → is_busy s ≡ busy_in (view s)
unfolding is_busy busy_ticks
busy-in s h = busy-by s.work.task s.work.busy (bounds s h).work

-- a word that is taken
work-task : (s : Head) (k : ℕ)
    → (work_after s k).task
    ≡ cond (eqb k kind.start) acquisition (cond (eqb k kind.hk) housekeeping (cond (eqb k kind.stop) no_task s.work.task))
unfolding work_after
work-task s k = go (eqb k kind.start) (eqb k kind.hk) (eqb k kind.stop)
  where
    go : (x y z : Bool)
        → (cond x (record { task = acquisition; busy = length_of s.settings })
        (cond y (record { task = housekeeping; busy = hk_ticks }) (cond z (record { task = no_task; busy = 0 }) s.work))).task
        ≡ cond x acquisition (cond y housekeeping (cond z no_task s.work.task))
    go true y z = refl
    go false true z = refl
    go false false true = refl
    go false false false = refl

after-view : (s : Head) (k b : ℕ) → view (after s k b) ≡ view_taken (view s) k b
unfolding after settings_after view_taken
after-view s k b = rw (work-task s k)

-- COVER, and mirror words that may be out of turn, leave the view as it was
turn-view : (v : View) (count k b : ℕ) → out_of_turn count k ≡ true → view_taken v k b ≡ v
unfolding out_of_turn view_taken
turn-view v count k b = go (eqb k kind.sin_l) refl (eqb k kind.cos_m) refl (eqb k kind.cos_l) refl
  where
    go : (x : Bool) → eqb k kind.sin_l ≡ x → (y : Bool) → eqb k kind.cos_m ≡ y → (z : Bool) → eqb k kind.cos_l ≡ z
        → ((x && not (eqb count 1)) || (y && not (eqb count 2)) || (z && not (eqb count 3))) ≡ true → view_taken v k b ≡ v
    go true e y f z g h = rw (eqb-true k kind.sin_l e)
    go false e true f z g h = rw (eqb-true k kind.cos_m f)
    go false e false f true g h = rw (eqb-true k kind.cos_l g)
    go false e false f false g h = absurd (false≢true h)

module _ (s : Head) (k b : ℕ) where
  on-word-view : view (on_word s k b).head ≡ view_taken (view s) k b
  unfolding on_word view_taken
  on-word-view = go (eqb k kind.cover && ltb 0 s.motion.cover) refl (out_of_turn s.begun.count k) refl
    where
      covered : (eqb k kind.cover && ltb 0 s.motion.cover) ≡ true → view s ≡ view_taken (view s) k b
      covered e = rw (eqb-true k kind.cover (and_left (eqb k kind.cover) (ltb 0 s.motion.cover) e))

      go : (x : Bool) → (eqb k kind.cover && ltb 0 s.motion.cover) ≡ x → (y : Bool) → out_of_turn s.begun.count k ≡ y
          → view
          (cond x (ignored s (time_ir s.flags) s.begun CoverMoving)
          (cond y (ignored s (scanned s.flags) none_begun Turn) (record { head = after s k b; outcome = Taken (act_of k b) }))).head
          ≡ view_taken (view s) k b
      go true e y f = covered e
      go false e true f = sym (turn-view (view s) s.begun.count k b f)
      go false e false f = after-view s k b

out-flags : (k : ℕ) (f : FlagBits) → ((out_of_range_flags k f).vistime ≡ f.vistime) × ((out_of_range_flags k f).visword ≡ word_flag_out k f.visword)
unfolding out_of_range_flags word_flag_out
out-flags k f = go (for_vis k) (mirror_word k || eqb k kind.switch) (for_both k)
  where
    go : (x y z : Bool)
        → ((cond x (word_vis f) (cond y (scanned f) (cond z (word_both f) (word_ir f)))).vistime ≡ f.vistime)
        × ((cond x (word_vis f) (cond y (scanned f) (cond z (word_both f) (word_ir f)))).visword ≡ cond x 1 (cond y f.visword (cond z 1 f.visword)))
    go true y z = (refl, refl)
    go false true z = (refl, refl)
    go false false true = (refl, refl)
    go false false false = (refl, refl)

on-decoded-view : (s : Head) (d : Result Word DecodeError) → view (on_decoded s d).head ≡ view_decoded (view s) d
unfolding on_decoded view_decoded
on-decoded-view s (Err Unknown) = refl
on-decoded-view s (Err (OutOfRange k)) = rw ((out-flags k s.flags).0, (out-flags k s.flags).1)
on-decoded-view s (Ok w) = on-word-view s w.kind w.bits

-- any word that the head gets
pub answer-view : (s : Head) (w : ℕ) → in_range s ≡ true → view (answer_of s w).head ≡ view_answered (view s) w
unfolding answer_of view_answered
answer-view s w h = rw (h, busy-in s h) (go (busy_in (view s) && not (eqb w stop_word)))
  where
    go : (x : Bool)
        → view (cond x (ignored s (time_both s.flags) s.begun Busy) (on_decoded s (decode_of w))).head
        ≡ cond x (marking (view s) 1 s.flags.visword s.work.task) (view_decoded (view s) (decode_of w))
    go true = refl
    go false = on-decoded-view s (decode_of w)

-- a kind of one group is no kind of another
other-kind : (k g : ℕ) → group_of k ≡ g → (j : ℕ) → eqb (group_of j) g ≡ false → eqb k j ≡ false
other-kind k g own j other = go (eqb k j) refl
  where
    go : (x : Bool) → eqb k j ≡ x → x ≡ false
    go false e = refl
    go true e = absurd (false≢true (sym other ∙ eq-eqb (group_of j) g (ap group_of (sym (eqb-true k j e)) ∙ own)))

-- an infrared word that is taken leaves the view as it was
infrared-view : (v : View) (k b : ℕ) → group_of k ≡ kind.infrared → view_taken v k b ≡ v
unfolding view_taken group_of rows
infrared-view v k b g =
    let no : (j : ℕ) → eqb (group_of j) kind.infrared ≡ false → eqb k j ≡ false = other-kind k kind.infrared g in
    rw (
      no kind.win_x1 refl,
      no kind.win_y1 refl,
      no kind.win_x2 refl,
      no kind.win_y2 refl,
      no kind.ccd_delay refl,
      no kind.ccd_expo refl,
      no kind.ccd_lamp refl,
      no kind.start refl,
      no kind.hk refl,
      no kind.stop refl,
    )

-- a word of the CCD operator that an idle head gets is taken, with no act
ccd-taken : (s : Head) (k b : ℕ) → group_of k ≡ kind.ccd → (on_word s k b).outcome ≡ Taken None
unfolding on_word out_of_turn act_of group_of rows
ccd-taken s k b g =
    let no : (j : ℕ) → eqb (group_of j) kind.ccd ≡ false → eqb k j ≡ false = other-kind k kind.ccd g in
    rw (no kind.cover refl, no kind.sin_l refl, no kind.cos_m refl, no kind.cos_l refl, no kind.start refl, no kind.hk refl)

-- a word of an operator, by whether it is passed on
abbrev pub passed_if : Bool → Head → ℕ → PassedOn
passed_if x s w =
    cond {A = PassedOn} (not x) (record { head = s; passing = Err NotPassed })
    (record { head = (answer_of s w).head; passing = Ok (answer_of s w).outcome })

module _ (s : Head) (h : in_range s ≡ true) where
  passes-in : (g w : ℕ) → passes s g w ≡ passes_in (view s) g w
  unfolding passes passes_in
  passes-in g w = rw (busy-in s h)

  -- what is passed on is an allowed word of the group, and the head is idle
  module _ (g w : ℕ) (p : passes s g w ≡ true) where
    pub passed-idle : is_busy s ≡ false
    unfolding passes
    passed-idle = go (is_busy s) (and_right (is_operator g && in_group g (decode_of w)) (not (is_busy s)) p)
      where
        go : (x : Bool) → not x ≡ true → x ≡ false
        go true e = sym e
        go false e = refl

    passed-group : in_group g (decode_of w) ≡ true
    unfolding passes
    passed-group =
        and_right (is_operator g) (in_group g (decode_of w)) (and_left (is_operator g && in_group g (decode_of w)) (not (is_busy s)) p)

    passed-word : answer_of s w ≡ on_decoded s (decode_of w)
    unfolding answer_of
    passed-word = rw (h, passed-idle)

  passed-view : (g w : ℕ) → view (passed_on s g w).head ≡ view_passed (view s) g w
  unfolding passed_on view_passed
  passed-view g w = rw (h, passes-in g w) (go (passes_in (view s) g w))
    where
      go : (x : Bool)
          → view (passed_if x s w).head
          ≡ cond x (view_answered (view s) w) (view s)
      go true = answer-view s w h
      go false = refl

  -- the infrared operator's words
  pub infrared-unseen : (w : ℕ) → view (passed_on s kind.infrared w).head ≡ view s
  unfolding passed_on in_group view_decoded
  infrared-unseen w = rw h (go (passes s kind.infrared w) refl)
    where
      decoded : (d : Result Word DecodeError) → in_group kind.infrared d ≡ true → view_decoded (view s) d ≡ view s
      decoded (Ok w) e = infrared-view (view s) w.kind w.bits (eqb-true (group_of w.kind) kind.infrared e)
      decoded (Err r) e = absurd (false≢true e)

      go : (x : Bool) → passes s kind.infrared w ≡ x
          → view (passed_if x s w).head
          ≡ view s
      go false e = refl
      go true e =
          rw (passed-word kind.infrared w e)
          (on-decoded-view s (decode_of w) ∙ decoded (decode_of w) (passed-group kind.infrared w e))

  -- the answer to a word of the CCD operator
  ccd-answer : (w : ℕ) → (passed_on s kind.ccd w).passing ≡ passing_in (view s) w
  unfolding passed_on passing_in in_group on_decoded
  ccd-answer w = rw (h, ← passes-in kind.ccd w) (go (passes s kind.ccd w) refl)
    where
      decoded : (d : Result Word DecodeError) → in_group kind.ccd d ≡ true → (on_decoded s d).outcome ≡ Taken None
      decoded (Ok w) e = ccd-taken s w.kind w.bits (eqb-true (group_of w.kind) kind.ccd e)
      decoded (Err r) e = absurd (false≢true e)

      go : (x : Bool) → passes s kind.ccd w ≡ x
          → (passed_if x s w).passing
          ≡ cond x (Ok (Taken None)) (Err NotPassed)
      go false e = refl
      go true e = rw (passed-word kind.ccd w e, decoded (decode_of w) (passed-group kind.ccd w e))

  -- what is given at a tick
  pub between-view : (g : Given) → view (between s g) ≡ view_between (view s) (not_infrared g)
  unfolding between view_between not_infrared
  between-view nothing = refl
  between-view (by_ccd w) = passed-view kind.ccd w
  between-view (by_infrared w) = infrared-unseen w
  between-view (by_controller w) = answer-view s w h

  pub answer-in : (g : Given) → answer_to s g ≡ answer_in (view s) (not_infrared g)
  unfolding answer_to answer_in not_infrared
  answer-in nothing = refl
  answer-in (by_ccd w) = ap Some (ccd-answer w)
  answer-in (by_infrared w) = refl
  answer-in (by_controller w) = refl
