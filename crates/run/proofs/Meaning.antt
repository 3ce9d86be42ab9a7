-- The words of an order, applied one after another with no clock, do what the order says: the settings, and the log of acts.
-- Assumes nothing.
use mathlib.Core.Path.{◌≡◌, refl, sym}
use mathlib.Core.Bool.{true}
use mathlib.Core.List.{List, [], ◌∷◌, ◌++◌, append_assoc}
use Prim.Native.Nat.{ℕ, ◌≤◌}
use native.Mathlib.Nat.{div-add-mod'}
use native.Mathlib.Omega.{arith}
use Rattle.words.specs.Fields.{direction, wave, sensors, steps, cover_bits}
use Rattle.words.specs.Kinds.{most_steps}
use Rattle.head.specs.Range.{in_range}
use Rattle.head.specs.State.{no_flags, no_task}
use Rattle.head.specs.Apply.{after, settings_after, latches_after, begun_after, act_of}
use Rattle.head.specs.Tick.{ticks_of}
use Rattle.head.specs.declared.state.Settings.{Settings}
use Rattle.head.specs.declared.state.Latches.{Latches}
use Rattle.head.specs.declared.state.Begun.{Begun}
use Rattle.head.specs.declared.state.Head.{Head}
use Rattle.head.proofs.Ticks.{ticks-settings, ticks-latches, ticks-begun}
use Rattle.orders.specs.Words.{items_of_all, sine_register}
use Rattle.orders.specs.declared.order.Order.{Order}
use Rattle.plan.specs.Reading.{Entry, settings_by, entries_by, settings_read, log_read}
use Rattle.schedule.proofs.InTurn.{Step, word, wait}
use Rattle.plan.proofs.Accepted.{AllFit}
use Rattle.schedule.proofs.Orders.{ByOrder, Meant, by-orders}
use Rattle.run.specs.Run.{entry_of}

-- what ticks leave alone: the settings, and what words keep for later words
pub record Lasting : Type 0 where
  pub settings : Settings
  pub latches : Latches
  pub begun : Begun

unfoldable pub lasting_of : Head → Lasting
lasting_of s = record { settings = s.settings; latches = s.latches; begun = s.begun }

abbrev pub head_with : Lasting → Head
head_with x =
    record {
      settings = x.settings;
      latches = x.latches;
      flags = no_flags;
      work = record { task = no_task; busy = 0 };
      motion = record { mirror = 0; cover = 0 };
      begun = x.begun;
    }

unfoldable pub lasting_after : Lasting → ℕ → ℕ → Lasting
lasting_after x k b =
    record { settings = settings_after (head_with x) k b; latches = latches_after (head_with x) k b; begun = begun_after (head_with x) k b }

pub lasting-after : (s : Head) (k b : ℕ) → lasting_of (after s k b) ≡ lasting_after (lasting_of s) k b
unfolding lasting_of lasting_after after settings_after latches_after begun_after
lasting-after s k b = refl

pub lasting-ticks : (n : ℕ) (s : Head) → in_range s ≡ true → lasting_of (ticks_of n s) ≡ lasting_of s
unfolding lasting_of
lasting-ticks n s h = rw (ticks-settings n s h, ticks-latches n s h, ticks-begun n s h)

-- steps applied one after another, and the log of their acts
unfoldable pub applied_to : Lasting → List Step → Lasting
applied_to x [] = x
applied_to x (word k b ∷ ms) = applied_to (lasting_after x k b) ms
applied_to x (wait n ∷ ms) = applied_to x ms

unfoldable pub logged_from : Lasting → List Step → List Entry
logged_from x [] = []
logged_from x (word k b ∷ ms) = entry_of x.settings (act_of k b) ++ logged_from (lasting_after x k b) ms
logged_from x (wait n ∷ ms) = logged_from x ms

applied-append : (x : Lasting) (ms ns : List Step) → applied_to x (ms ++ ns) ≡ applied_to (applied_to x ms) ns
unfolding applied_to
applied-append x [] ns = refl
applied-append x (word k b ∷ ms) ns = applied-append (lasting_after x k b) ms ns
applied-append x (wait n ∷ ms) ns = applied-append x ms ns

logged-append : (x : Lasting) (ms ns : List Step) → logged_from x (ms ++ ns) ≡ logged_from x ms ++ logged_from (applied_to x ms) ns
unfolding logged_from applied_to
logged-append x [] ns = refl
logged-append x (word k b ∷ ms) ns =
    rw (logged-append (lasting_after x k b) ms ns)
    (sym (append_assoc (entry_of x.settings (act_of k b)) (logged_from (lasting_after x k b) ms) (logged_from (applied_to (lasting_after x k b) ms) ns)))
logged-append x (wait n ∷ ms) ns = logged-append x ms ns

-- the fields of a cover word's data
module _ (a b c d : ℕ) (p : a ≤ 1) (q : b ≤ 1) (r : c ≤ 1) (s : d ≤ most_steps) where
  cover-direction : direction (cover_bits a b c d) ≡ a
  cover-direction = omega arith

  cover-wave : wave (cover_bits a b c d) ≡ b
  cover-wave = omega arith

  cover-sensors : sensors (cover_bits a b c d) ≡ c
  cover-sensors = omega arith

  cover-steps : steps (cover_bits a b c d) ≡ d
  cover-steps = omega arith

-- steps do what an order says
pub record Does (o : Order) (ms : List Step) : Type 0 where
  pub settings : (x : Lasting) → (applied_to x ms).settings ≡ settings_by x.settings o
  pub log : (x : Lasting) → logged_from x ms ≡ entries_by x.settings o

does : ByOrder Does
unfolding applied_to logged_from lasting_after settings_after latches_after begun_after act_of settings_by entries_by entry_of
does =
    record {
      vdetcom = λ a b c d. record { settings = λ x. rw (div-add-mod' a 256); log = λ x. refl };
      vdetadj = λ a b c d. record { settings = λ x. rw (div-add-mod' a 256); log = λ x. refl };
      ir_times = λ a b c d. record { settings = λ x. refl; log = λ x. refl };
      ccd_times = λ a b c d. record { settings = λ x. refl; log = λ x. refl };
      window_mode = λ a b c d. record { settings = λ x. refl; log = λ x. refl };
      window = λ a b c d. record { settings = λ x. refl; log = λ x. refl };
      detector = λ a b c d. record { settings = λ x. refl; log = λ x. refl };
      ccd_lamp = λ a b c d. record { settings = λ x. refl; log = λ x. refl };
      ir_lamp = λ a b c d. record { settings = λ x. refl; log = λ x. refl };
      shutter = λ a b c d. record { settings = λ x. refl; log = λ x. refl };
      annealing = λ a b c d. record { settings = λ x. refl; log = λ x. refl };
      mirror = λ a b c d. record { settings = λ x. rw (div-add-mod' (sine_register a) 256, div-add-mod' b 256); log = λ x. refl };
      motor = λ a b c d. record { settings = λ x. refl; log = λ x. refl };
      cover =
          λ a b c d p q r s.
          record {
            settings = λ x. rw (cover-direction a b c d p q r s);
            log =
                λ x.
                rw (cover-direction a b c d p q r s, cover-wave a b c d p q r s, cover-sensors a b c d p q r s, cover-steps a b c d p q r s);
          };
      expose = λ a b c d. record { settings = λ x. refl; log = λ x. refl };
      housekeeping = λ a b c d. record { settings = λ x. refl; log = λ x. refl };
      wait = λ a b c d p. record { settings = λ x. refl; log = λ x. refl };
    }

pub record DoesAll (os : List Order) (ms : List Step) : Type 0 where
  pub settings : (x : Lasting) → (applied_to x ms).settings ≡ settings_read x.settings os
  pub log : (x : Lasting) → logged_from x ms ≡ log_read x.settings os

none : DoesAll [] []
unfolding applied_to logged_from settings_read log_read
none = record { settings = λ x. refl; log = λ x. refl }

more : (o : Order) (os : List Order) (ms ns : List Step) → Does o ms → DoesAll os ns → DoesAll (o ∷ os) (ms ++ ns)
unfolding settings_read log_read
more o os ms ns p q =
    record {
      settings = λ x. rw (applied-append x ms ns, q.settings (applied_to x ms), p.settings x);
      log = λ x. rw (logged-append x ms ns, q.log (applied_to x ms), p.settings x, p.log x);
    }

-- the orders of a plan, as steps that do what they say
pub plan-meaning : (os : List Order) → AllFit os → Meant (items_of_all os) (DoesAll os)
plan-meaning = by-orders Does does DoesAll none more
