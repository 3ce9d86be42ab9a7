-- A run in segments: a run of a + b ticks is a run of a, then of b; a stretch without words is so many ticks; and a word, with the ticks
-- before and after it.
-- Assumes nothing.
use mathlib.Core.Path.{◌≡◌, refl, ap}
use mathlib.Core.List.{List, [], ◌∷◌, ◌++◌}
use mathlib.Core.Option.{none, some}
use Prim.Native.Nat.{ℕ, zero, suc, ◌+◌, ◌<◌, ◌≤◌}
use native.Mathlib.Nat.{zero-add, add-zero, suc-add}
use native.Mathlib.Omega.{arith}
use borrow.Author.Tests.{eq-eqb, ne_eqb}
use Rattle.head.specs.Word.{answer_of}
use Rattle.head.specs.Tick.{tick_of, ticks_of}
use Rattle.head.specs.declared.state.Head.{Head}
use Rattle.orders.specs.Words.{Item, send, pause}
use Rattle.schedule.specs.Earliest.{delay_of}
use Rattle.schedule.specs.Schedule.{Timed, readied, span_of, sent, schedule_from}
use Rattle.run.specs.Run.{word_at, Moment, answered, next, moments_of, head_after}

regroup : (t a : ℕ) → t + 1 + a ≡ t + suc a
regroup t a = omega arith

module _ (l : List Timed) where
  head_step : (n t : ℕ) (s : Head) → head_after (suc n) t l s ≡ head_after n (t + 1) l (next s (word_at l t))
  unfolding head_after
  head_step n t s = refl

  pub moments-add : (a b t : ℕ) (s : Head) → moments_of (a + b) t l s ≡ moments_of a t l s ++ moments_of b (t + a) l (head_after a t l s)
  unfolding moments_of head_after
  moments-add zero b t s = rw (zero-add b, add-zero t)
  moments-add (suc a) b t s =
      rw (suc-add a b, ← regroup t a)
      (ap (λ (ms : List Moment). record { head = s; given = word_at l t } ∷ ms) (moments-add a b (t + 1) (next s (word_at l t))))

  pub head-add : (a b t : ℕ) (s : Head) → head_after (a + b) t l s ≡ head_after b (t + a) l (head_after a t l s)
  unfolding head_after
  head-add zero b t s = rw (zero-add b, add-zero t)
  head-add (suc a) b t s = rw (suc-add a b, ← regroup t a) (head-add a b (t + 1) (next s (word_at l t)))

-- the moments of n ticks without a word
unfoldable pub quiet : ℕ → Head → List Moment
quiet zero s = []
quiet (suc n) s = record { head = s; given = none } ∷ quiet n (tick_of s).head

-- no word of the list falls into n ticks from t on
abbrev pub Silent : List Timed → ℕ → ℕ → Type 0
Silent l n t = (u : ℕ) → t ≤ u → u < t + n → word_at l u ≡ none

module _ (l : List Timed) where
  silent-later : (n t : ℕ) → Silent l (suc n) t → Silent l n (t + 1)
  silent-later n t h = λ u p q. h u (omega arith) (omega arith)

  pub quiet-moments : (n t : ℕ) (s : Head) → Silent l n t → moments_of n t l s ≡ quiet n s
  unfolding moments_of quiet next answered
  quiet-moments zero t s h = refl
  quiet-moments (suc n) t s h = rw (h t (omega arith) (omega arith), quiet-moments n (t + 1) (tick_of s).head (silent-later n t h))

  pub quiet-head : (n t : ℕ) (s : Head) → Silent l n t → head_after n t l s ≡ ticks_of n s
  unfolding head_after ticks_of next answered
  quiet-head zero t s h = refl
  quiet-head (suc n) t s h = rw (h t (omega arith) (omega arith)) (quiet-head n (t + 1) (tick_of s).head (silent-later n t h))

-- a word whose tick is past plays no part
module _ (x : Timed) (xs : List Timed) where
  pub past : (t : ℕ) → (x.tick ≡ t → ⊥) → word_at (x ∷ xs) t ≡ word_at xs t
  unfolding word_at
  past t h = rw (ne_eqb x.tick t h)

  pub moments-past : (n t : ℕ) (s : Head) → x.tick < t → moments_of n t (x ∷ xs) s ≡ moments_of n t xs s
  unfolding moments_of
  moments-past zero t s h = refl
  moments-past (suc n) t s h = rw (past t (omega arith), moments-past n (t + 1) (next s (word_at xs t)) (omega arith))

  pub head-past : (n t : ℕ) (s : Head) → x.tick < t → head_after n t (x ∷ xs) s ≡ head_after n t xs s
  unfolding head_after
  head-past zero t s h = refl
  head-past (suc n) t s h = rw (past t (omega arith)) (head-past n (t + 1) (next s (word_at xs t)) (omega arith))

-- no word of a schedule falls before its clock, and it ends no earlier
pub none_before : (is : List Item) (s : Head) (t u : ℕ) → u < t → word_at (schedule_from s t is).list u ≡ none
unfolding schedule_from word_at
none_before [] s t u h = refl
none_before (send w ∷ is) s t u h =
    rw (ne_eqb (t + delay_of s w) u (omega arith))
    (none_before is (sent s w) (t + delay_of s w + span_of (readied s w) w) u (omega arith))
none_before (pause n ∷ is) s t u h = none_before is (ticks_of n s) (t + n) u (omega arith)

pub ends-later : (is : List Item) (s : Head) (t : ℕ) → t ≤ (schedule_from s t is).end
unfolding schedule_from
ends-later [] s t = omega arith
ends-later (send w ∷ is) s t =
    let later = ends-later is (sent s w) (t + delay_of s w + span_of (readied s w) w) in
    omega arith
ends-later (pause n ∷ is) s t = let later = ends-later is (ticks_of n s) (t + n) in omega arith

-- a word that goes d ticks after t, with q more ticks after the one in which it goes
module _ (t d q w : ℕ) (xs : List Timed) (s : Head) (later : (u : ℕ) → u < t + d + suc q → word_at xs u ≡ none) where
  abbrev x : Timed
  x = record { tick = t + d; word = w }

  abbrev l : List Timed
  l = x ∷ xs

  -- the head that gets the word, and the head that has got it
  abbrev before : Head
  before = ticks_of d s

  abbrev after : Head
  after = (answer_of before w).head

  silent-first : Silent l d t
  unfolding word_at
  silent-first = λ u p r. rw (ne_eqb (t + d) u (omega arith)) (later u (omega arith))

  silent-last : Silent l q (t + d + 1)
  unfolding word_at
  silent-last = λ u p r. rw (ne_eqb (t + d) u (omega arith)) (later u (omega arith))

  here : word_at l (t + d) ≡ some w
  unfolding word_at
  here = rw (eq-eqb (t + d) (t + d) refl)

  module _ (n : ℕ) where
    from-word : moments_of (suc q + n) (t + d) l before
        ≡ record { head = before; given = some w } ∷ (quiet q (tick_of after).head ++ moments_of n (t + d + suc q) xs (ticks_of (suc q) after))
    unfolding moments_of next answered ticks_of
    from-word =
        let first = (tick_of after).head in
        rw (
          suc-add q n,
          here,
          moments-add l q n (t + d + 1) first,
          quiet-moments l q (t + d + 1) first silent-last,
          quiet-head l q (t + d + 1) first silent-last,
          regroup (t + d) q,
          moments-past x xs n (t + d + suc q) (ticks_of q first) (omega arith),
        )

    pub word-moments : moments_of (d + (suc q + n)) t l s
        ≡ quiet d s
        ++ (record { head = before; given = some w } ∷ (quiet q (tick_of after).head ++ moments_of n (t + d + suc q) xs (ticks_of (suc q) after)))
    word-moments =
        rw (moments-add l d (suc q + n) t s, quiet-moments l d t s silent-first, quiet-head l d t s silent-first)
        (ap (λ (ms : List Moment). quiet d s ++ ms) from-word)

    after-word : head_after (suc q + n) (t + d) l before ≡ head_after n (t + d + suc q) xs (ticks_of (suc q) after)
    unfolding next answered ticks_of
    after-word =
        let first = (tick_of after).head in
        rw (
          suc-add q n,
          head_step l (q + n) (t + d) before,
          here,
          head-add l q n (t + d + 1) first,
          quiet-head l q (t + d + 1) first silent-last,
          regroup (t + d) q,
        )
        (head-past x xs n (t + d + suc q) (ticks_of q first) (omega arith))

    pub word-head : head_after (d + (suc q + n)) t l s ≡ head_after n (t + d + suc q) xs (ticks_of (suc q) after)
    word-head = rw (head-add l d (suc q + n) t s, quiet-head l d t s silent-first) after-word
