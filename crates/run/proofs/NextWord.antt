-- The next word of a run whose ticks rise: the run, its log and its ticks with that word and after it; and a run without words.
-- Assumes nothing.
use mathlib.Core.Path.{◌≡◌, refl, sym, ◌∙◌}
use mathlib.Core.List.{List, [], ◌∷◌, ◌++◌, append-nil}
use mathlib.Core.Option.{none, some}
use Prim.Native.Nat.{ℕ, suc, ◌+◌, ◌-◌, ◌≤◌, ◌<◌}
use native.Mathlib.Omega.{arith}
use borrow.Author.Tests.{ne_eqb}
use lib.ListN.{length, replicate}
use Rattle.head.specs.Tick.{ticks_of}
use Rattle.head.specs.declared.state.Head.{Head}
use Rattle.plan.specs.Rows.{record_of}
use Rattle.schedule.specs.Schedule.{Timed, Rising}
use Rattle.run.specs.Run.{word_at, Moment, answered, next, moments_of, head_after, moment_log, log_of, times_of}
use Rattle.run.proofs.Segments.{Silent, quiet, quiet-moments, quiet-head, word-moments, word-head}
use Rattle.run.proofs.Quiet.{quiet-log, quiet-times}

abbrev pub timed : ℕ → ℕ → Timed
timed t w = record { tick = t; word = w }

-- before the first of rising ticks there is no word
rising_none : (t : ℕ) (l : List Timed) (end : ℕ) → Rising t l end → (u : ℕ) → u < t → word_at l u ≡ none
unfolding word_at
rising_none t [] end r u h = refl
rising_none t (x ∷ xs) end r u h =
    let first = r.0 in
    rw (ne_eqb x.tick u (omega arith)) (rising_none (x.tick + 1) xs end r.1 u (omega arith))

pub rising-end : (t : ℕ) (l : List Timed) (end : ℕ) → Rising t l end → t ≤ end
rising-end t [] end r = r
rising-end t (x ∷ xs) end r = let first = r.0 in let rest = rising-end (x.tick + 1) xs end r.1 in omega arith

-- the run of a list from the clock t on, the head at its end, and what it puts into a log
abbrev pub ran_from : ℕ → ℕ → List Timed → Head → List Moment
ran_from end t l s = moments_of (end - t) t l s

abbrev pub last_of : ℕ → ℕ → List Timed → Head → Head
last_of end t l s = head_after (end - t) t l s

abbrev pub rows_from : ℕ → ℕ → List Timed → Head → List ℕ
rows_from end t l s = record_of (log_of (ran_from end t l s)) (last_of end t l s).settings

abbrev pub given : Head → ℕ → Moment
given s w = record { head = s; given = some w }

-- the first word of a list whose ticks rise
module _ (t end tick w : ℕ) (xs : List Timed) (s : Head) (r : Rising t (timed tick w ∷ xs) end) where
  abbrev found : Head
  found = ticks_of (tick - t) s

  abbrev then : Head
  then = next found (some w)

  at : t + (tick - t) ≡ tick
  at = let first = r.0 in omega arith

  all : tick - t + (suc 0 + (end - (tick + 1))) ≡ end - t
  all = let first = r.0 in let rest = rising-end (tick + 1) xs end r.1 in omega arith

  later : (u : ℕ) → u < t + (tick - t) + suc 0 → word_at xs u ≡ none
  later u h = let first = r.0 in rising_none (tick + 1) xs end r.1 u (omega arith)

  pub first_head : last_of end t (timed tick w ∷ xs) s ≡ last_of end (tick + 1) xs then
  unfolding next answered ticks_of
  first_head = rw (at, all) at (word-head t (tick - t) 0 w xs s later (end - (tick + 1)))

  pub first-moments : ran_from end t (timed tick w ∷ xs) s ≡ quiet (tick - t) s ++ (given found w ∷ ran_from end (tick + 1) xs then)
  unfolding next answered ticks_of quiet
  first-moments = rw (at, all) at (word-moments t (tick - t) 0 w xs s later (end - (tick + 1)))

  pub first-log : log_of (ran_from end t (timed tick w ∷ xs) s) ≡ moment_log (given found w) ++ log_of (ran_from end (tick + 1) xs then)
  unfolding log_of
  first-log = rw first-moments (quiet-log (given found w ∷ ran_from end (tick + 1) xs then) (tick - t) s)

  pub first-times : times_of t (ran_from end t (timed tick w ∷ xs) s)
      ≡ replicate (length (moment_log (given found w))) tick ++ times_of (tick + 1) (ran_from end (tick + 1) xs then)
  unfolding times_of
  first-times = rw first-moments (rw at at (quiet-times (given found w ∷ ran_from end (tick + 1) xs then) (tick - t) t s))

-- no word is left
module _ (n t : ℕ) (s : Head) where
  silent : Silent [] n t
  unfolding word_at
  silent = λ u p q. refl

  pub none-head : head_after n t [] s ≡ ticks_of n s
  none-head = quiet-head [] n t s silent

  none-moments : moments_of n t [] s ≡ quiet n s ++ []
  none-moments = quiet-moments [] n t s silent ∙ sym (append-nil (quiet n s))

  pub none-log : log_of (moments_of n t [] s) ≡ []
  unfolding log_of
  none-log = rw none-moments (quiet-log [] n s)

  pub none-times : times_of t (moments_of n t [] s) ≡ []
  unfolding times_of
  none-times = rw none-moments (quiet-times [] n t s)
