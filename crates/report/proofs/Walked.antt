-- The lines of a plan's orders written one after another: k orders have been passed.
-- Assumes nothing.
use mathlib.Core.Path.{◌≡◌, refl, sym, ap, ◌∙◌}
use mathlib.Core.Bool.{true}
use mathlib.Core.List.{List, ◌∷◌}
use Prim.Native.Nat.{ℕ, ◌+◌, ◌-◌, ◌*◌, ◌^◌, ◌≤◌, ◌<◌}
use native.Mathlib.Omega.{arith}
use lib.ListN.{length, get_or, take, drop, drop_of_length-le}
use Rattle.head.specs.declared.state.Settings.{Settings}
use Rattle.orders.specs.Codes.{fit}
use Rattle.orders.specs.Words.{words_of}
use Rattle.orders.specs.declared.order.Order.{Order}
use Rattle.plan.specs.Reading.{request}
use Rattle.plan.specs.Stored.{orders, byte_at, order_at, plan_of}
use Rattle.plan.specs.Judged.{checked_at}
use Rattle.plan.proofs.Faults.{unless-none, ok-is}
use Rattle.std.specs.Prelude.{Ok}
use Rattle.plan.proofs.Walking.{Walking, walking-first, walking-order, walking-whole, walking-sound, walking-next}
use Rattle.schedule.proofs.OrderLaid.{fit-few}
use Rattle.layout.specs.Numbers.{bit}
use Rattle.layout.proofs.Bits.{bit-few}
use Rattle.layout.specs.Adds.{Adds}
use Rattle.layout.specs.declared.writer.Writer.{Writer}
use Rattle.layout.proofs.Adding.{Partly, partly-first, partly-next, partly-done}
use Rattle.report.specs.Read.{row_entry, entries_in}
use Rattle.report.specs.Lines.{is_act, order_line, exposed_after, order_lines}
use Rattle.report.proofs.Rows.{entry_at, part-row}

pub act-one : (c : ℕ) {d : ℕ} → d ≡ bit (is_act c) → d ≤ 1
act-one c is = rw is (bit-few (is_act c))

pub record Walked (old : Writer) (bs : List ℕ) (os : List Order) (count : ℕ) (ticks rows : List ℕ) (settings : Settings)
    (new : Writer)
    (at words acts : ℕ)
    (before : Settings)
    (k : ℕ) : Type 0 where
  pub walk : Walking bs os at k
  pub long : length os ≡ count
  pub few : acts ≤ k
  pub small : words ≤ 4 * k
  pub room : length rows ≡ 1365
  pub bound : length bs < 2 ^ 64
  pub part : Partly old (order_lines 0 0 0 settings os ticks (entries_in 65 rows))
      (order_lines k words acts before (drop k os) ticks (entries_in 65 rows))
      new

module _ {old : Writer} {bs : List ℕ} {os : List Order} {count : ℕ} {ticks rows : List ℕ} {settings : Settings} where
  pub walked-first : plan_of bs ≡ orders os → length os ≡ count → length rows ≡ 1365 → length bs < 2 ^ 64
      → Walked old bs os count ticks rows settings old 3 0 0 settings 0
  walked-first e long room bound =
      record {
        walk = walking-first bs os e;
        long = long;
        few = omega arith;
        small = omega arith;
        room = room;
        bound = bound;
        part = partly-first;
      }

  module _ {new : Writer} {at words acts : ℕ} {before : Settings} {k : ℕ}
      (h : Walked old bs os count ticks rows settings new at words acts before k) where
    module _ (more : k < count) where
      some : k < length os
      some = let long = h.long in omega arith

      pub acts-few : acts < 64
      acts-few = let few = h.few in let most = h.walk.few in omega (arith, some)

      pub order-whole : Ok (order_at bs at) ≡ checked_at bs at
      order-whole = unless-none _ _ (sym (walking-whole bs os at k h.walk some)) refl

      pub order_is : {o : Order} → Ok o ≡ checked_at bs at → o ≡ order_at bs at
      order_is is = ok-is _ _ is

      pub order-fits : fit (order_at bs at) ≡ true
      order-fits = (walking-sound bs os at k h.walk some).fits

      pub order-ends : at + 1 + byte_at bs at < 2 ^ 64
      order-ends = let ends = (walking-sound bs os at k h.walk some).ends in let bound = h.bound in omega arith

      pub words-few : length (words_of (order_at bs at)) ≤ 4
      words-few = fit-few (order_at bs at) order-fits

      abbrev row : List ℕ
      row = take (21 * acts + 21 - 21 * acts) (drop (21 * acts) rows)

      pub walked_next : {o : Order} → o ≡ order_at bs at
          → {n : ℕ} → n ≡ length (words_of o)
          → {t : ℕ} → t ≡ get_or ticks (words + n - 1) 0
          → {new' : Writer} → Adds new new' (order_line (k + 1) o t (row_entry row) before)
          → {before' : Settings} → before' ≡ exposed_after o.code (row_entry row) before
          → {d : ℕ} → d ≡ bit (is_act o.code)
          → {b : ℕ} → b ≡ byte_at bs at
          → Walked old bs os count ticks rows settings new' (at + 1 + b) (words + n) (acts + d) before' (k + 1)
      unfolding order_lines
      walked_next {o} is {n} wn {t} wt w wb {d} wd bb =
          let e : get_or (entries_in 65 rows) acts request ≡ row_entry row =
          entry_at 65 rows acts (let few = acts-few in omega arith) ∙ ap row_entry (sym (part-row rows acts)) in
          let first : drop k os ≡ o ∷ drop (k + 1) os = walking-order bs os at k h.walk some ∙ rw (← is) in
          let left = ap (λ (l : List Order). order_lines k words acts before l ticks (entries_in 65 rows)) first in
          let one : d ≤ 1 = act-one o.code wd in
          let four : n ≤ 4 = rw (wn, is) words-few in
          let few = h.few in
          let small = h.small in
          record {
            walk = rw bb (walking-next bs os at k h.walk some);
            long = h.long;
            few = omega arith;
            small = omega arith;
            room = h.room;
            bound = h.bound;
            part = partly-next h.part (left ∙ rw (e, ← wn, ← wt, ← wd, ← wb)) w;
          }

    pub walked-done : count ≤ k → Adds old new (order_lines 0 0 0 settings os ticks (entries_in 65 rows))
    unfolding order_lines
    walked-done all =
        let none = drop_of_length-le os {i = k} (let long = h.long in omega arith) in
        partly-done h.part (ap (λ (l : List Order). order_lines k words acts before l ticks (entries_in 65 rows)) none)
