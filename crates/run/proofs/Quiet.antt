-- Moments without a word add nothing to what a run does, and while an acquisition lasts nothing moves and no setting changes.
-- Assumes nothing.
use mathlib.Core.Path.{◌≡◌, refl, sym, ◌∙◌}
use mathlib.Core.Bool.{true, false, false≢true}
use mathlib.Core.List.{List, [], ◌∷◌, ◌++◌}
use mathlib.Core.Option.{Option, none, some}
use Prim.Native.Nat.{ℕ, zero, suc, ◌+◌}
use native.Mathlib.Nat.{add-zero}
use native.Mathlib.Omega.{arith}
use lib.ListN.{length, replicate, length-append, length-replicate}
use Rattle.head.specs.Busy.{is_busy}
use Rattle.head.specs.Range.{in_range}
use Rattle.head.specs.Tick.{tick_of, ticks_of}
use Rattle.head.specs.declared.state.Settings.{Settings}
use Rattle.head.specs.declared.state.Head.{Head}
use Rattle.head.proofs.BusyTicks.{rest-stays}
use Rattle.head.proofs.Keep.{tick-keeps}
use Rattle.head.proofs.Ticks.{ticks-settings}
use Rattle.schedule.specs.Schedule.{Timed}
use Rattle.run.specs.Run.{Moment, answered, moment_log, log_of, times_of, moments_of, head_after}
use Rattle.run.specs.Claim.{given_in, AllObeyed, Resting, Held, StartsHeld}
use Rattle.run.proofs.Segments.{quiet}

-- there is no word in such a moment
nothing : {A : Type 0} (w : ℕ) → ◌≡◌ {A = Option ℕ} none (some w) → A
nothing w e = let z : ◌≡◌ {A = ℕ} 0 1 = cc in absurd (omega arith)

-- each entry of the log has its tick
pub times_long : (t : ℕ) (ms : List Moment) → length (times_of t ms) ≡ length (log_of ms)
unfolding times_of log_of
times_long t [] = refl
times_long t (m ∷ ms) =
    let n = length (moment_log m) in
    omega (
      arith,
      length-append (replicate n t) (times_of (t + 1) ms),
      length-replicate n t,
      length-append (moment_log m) (log_of ms),
      times_long (t + 1) ms,
    )

module _ (ms : List Moment) where
  pub quiet-log : (n : ℕ) (s : Head) → log_of (quiet n s ++ ms) ≡ log_of ms
  unfolding quiet log_of moment_log
  quiet-log zero s = refl
  quiet-log (suc n) s = quiet-log n (tick_of s).head

  pub quiet-times : (n t : ℕ) (s : Head) → times_of t (quiet n s ++ ms) ≡ times_of (t + n) ms
  unfolding quiet times_of moment_log
  quiet-times zero t s = rw (add-zero t)
  quiet-times (suc n) t s =
      let at : t + 1 + n ≡ t + suc n = omega arith in
      rw (← at) (quiet-times n (t + 1) (tick_of s).head)

  pub quiet-given : (n : ℕ) (s : Head) → given_in (quiet n s ++ ms) ≡ given_in ms
  unfolding quiet given_in
  quiet-given zero s = refl
  quiet-given (suc n) s = quiet-given n (tick_of s).head

  pub quiet-obeyed : (n : ℕ) (s : Head) → AllObeyed ms → AllObeyed (quiet n s ++ ms)
  unfolding quiet
  quiet-obeyed zero s h = h
  quiet-obeyed (suc n) s h = (λ w e. nothing w e, quiet-obeyed n (tick_of s).head h)

  module _ (last : Head) where
    pub quiet-starts : (n : ℕ) (s : Head) → StartsHeld ms last → StartsHeld (quiet n s ++ ms) last
    unfolding quiet
    quiet-starts zero s h = h
    quiet-starts (suc n) s h = (λ e. nothing 0x8000 e, quiet-starts n (tick_of s).head h)

-- a head at rest stays so, and ticks change no setting
pub rest-ticks : (r : Settings) (n : ℕ) (s : Head) → in_range s ≡ true → Resting r s → Resting r (ticks_of n s)
rest-ticks r n s h p = (rest-stays s h n p.0, rw (ticks-settings n s h) p.1)

module _ (r : Settings) (ms : List Moment) (last : Head) (then : Held r ms last) where
  pub quiet-held : (n : ℕ) (s : Head) → in_range s ≡ true → Resting r s → Held r (quiet n s ++ ms) last
  unfolding quiet ticks_of answered
  quiet-held zero s h p = then
  quiet-held (suc n) s h p = (p, λ busy. (p, quiet-held n (tick_of s).head (tick-keeps s h) (rest-ticks r 1 s h p)))

-- an idle head need be held no longer
pub held-idle : (r : Settings) (n t : ℕ) (l : List Timed) (s : Head) → is_busy s ≡ false → Resting r s
    → Held r (moments_of n t l s) (head_after n t l s)
unfolding moments_of head_after
held-idle r zero t l s idle p = p
held-idle r (suc n) t l s idle p = (p, λ busy. absurd (false≢true (sym idle ∙ busy)))
