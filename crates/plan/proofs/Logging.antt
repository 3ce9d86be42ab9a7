-- The acts of an accepted plan laid one order after another: k orders have been read.
-- Assumes nothing.
use mathlib.Core.Path.{◌≡◌, refl, sym, ap, ◌∙◌}
use mathlib.Core.Bool.{Bool, true, false}
use mathlib.Core.List.{List, [], ◌∷◌}
use Rattle.std.specs.Prelude.{Ok, Err}
use Prim.Native.Nat.{ℕ, ◌+◌, ◌*◌, ◌≤◌, ◌<◌}
use native.Mathlib.Omega.{arith}
use borrow.Author.Tests.{eq-eqb, ne_eqb}
use lib.ListN.{length, drop, length-append, drop_of_length-le}
use lib.Seq.{sets, length-sets}
use Rattle.head.specs.declared.state.Settings.{Settings}
use Rattle.orders.specs.Codes as code
use Rattle.orders.specs.Codes.{is, fit}
use Rattle.orders.specs.declared.order.Order.{Order}
use Rattle.plan.specs.Stored.{Plan, orders, refused, byte_at, order_at, plan_of, orders_in}
use Rattle.plan.specs.Judged.{judged_of, checked_at}
use Rattle.plan.specs.Reading.{exposure, request, cover_move, settings_by, entries_by, settings_read, log_read}
use Rattle.plan.specs.Rows.{rows_of, end_row, record_of}
use Rattle.plan.specs.Read.{read_of, read_record, at_front}
use Rattle.plan.specs.declared.stored.Refusal.{Refusal}
use Rattle.plan.proofs.Accepted.{judged-accepted, accepted-few}
use Rattle.plan.proofs.Faults.{unless-none, ok-is}
use Rattle.plan.proofs.Recorded.{record-long, record-next, record-last, record-front}
use Rattle.plan.proofs.Walking.{Walking, walking-first, walking-order, walking-whole, walking-sound, walking-next}

-- the act of an order, by its code
module _ (r : Settings) (o : Order) where
  pub entries-cover : o.code ≡ code.cover → entries_by r o ≡ cover_move o.a o.b o.c o.d ∷ []
  unfolding entries_by
  entries-cover e = rw (eq-eqb o.code code.cover e)

  module _ (other : o.code ≡ code.cover → ⊥) where
    pub entries-expose : o.code ≡ code.expose → entries_by r o ≡ exposure r ∷ []
    unfolding entries_by
    entries-expose e = rw (ne_eqb o.code code.cover other, eq-eqb o.code code.expose e)

    module _ (other-2 : o.code ≡ code.expose → ⊥) where
      pub entries-request : o.code ≡ code.housekeeping → entries_by r o ≡ request ∷ []
      unfolding entries_by
      entries-request e =
          rw (ne_eqb o.code code.cover other, ne_eqb o.code code.expose other-2, eq-eqb o.code code.housekeeping e)

      pub entries_none : (o.code ≡ code.housekeeping → ⊥) → entries_by r o ≡ []
      unfolding entries_by
      entries_none h =
          rw (ne_eqb o.code code.cover other, ne_eqb o.code code.expose other-2, ne_eqb o.code code.housekeeping h)

-- an order has at most one act, so that a plan has at most as many as it has orders
entries-few : (r : Settings) (o : Order) → length (entries_by r o) ≤ 1
unfolding entries_by
entries-few r o = go (is o code.cover) refl (is o code.expose) refl (is o code.housekeeping) refl
  where
    go : (x : Bool) → is o code.cover ≡ x → (y : Bool) → is o code.expose ≡ y → (z : Bool) → is o code.housekeeping ≡ z
        → length (entries_by r o) ≤ 1
    go true p y q z s = rw p (omega arith)
    go false p true q z s = rw (p, q) (omega arith)
    go false p false q true s = rw (p, q, s) (omega arith)
    go false p false q false s = rw (p, q, s) (omega arith)

pub log-few : (r : Settings) (os : List Order) → length (log_read r os) ≤ length os
unfolding log_read
log-few r [] = omega arith
log-few r (o ∷ os) =
    omega (arith, length-append (entries_by r o) (log_read (settings_by r o) os), entries-few r o, log-few (settings_by r o) os)

abbrev read_from : Settings → List Order → List ℕ
read_from r os = record_of (log_read r os) (settings_read r os)

pub record Logging (rows₀ bs : List ℕ) (os : List Order) (count : ℕ) (start : Settings) (rows : List ℕ) (settings : Settings) (at acts k : ℕ) : Type 0 where
  pub walk : Walking bs os at k
  pub long : length os ≡ count
  pub few : acts ≤ k
  pub long_rows : length rows ≡ length rows₀
  pub same_rows : sets rows₀ 0 (read_from start os) ≡ sets rows (21 * acts) (read_from settings (drop k os))
  pub same_acts : length (log_read start os) ≡ acts + length (log_read settings (drop k os))

module _ {rows₀ bs : List ℕ} {os : List Order} {count : ℕ} {start : Settings} where
  pub logging-first : plan_of bs ≡ orders os → length os ≡ count → Logging rows₀ bs os count start rows₀ start 3 0 0
  logging-first e long =
      record { walk = walking-first bs os e; long = long; few = omega arith; long_rows = refl; same_rows = refl; same_acts = omega arith }

  module _ {rows : List ℕ} {settings : Settings} {at acts k : ℕ} (h : Logging rows₀ bs os count start rows settings at acts k) where
    module _ (more : k < count) where
      some : k < length os
      some = let long = h.long in omega arith

      pub logging-whole : Ok (order_at bs at) ≡ checked_at bs at
      logging-whole = unless-none _ _ (sym (walking-whole bs os at k h.walk some)) refl

      pub logging-order : {o : Order} → Ok o ≡ checked_at bs at → o ≡ order_at bs at
      logging-order is = ok-is _ _ is

      pub logging-fits : fit (order_at bs at) ≡ true
      logging-fits = (walking-sound bs os at k h.walk some).fits

      pub logging-next : {rows' : List ℕ} {acts' : ℕ} {settings' : Settings}
          → acts' ≡ acts + length (entries_by settings (order_at bs at))
          → rows' ≡ sets rows (21 * acts) (rows_of (entries_by settings (order_at bs at)))
          → settings' ≡ settings_by settings (order_at bs at)
          → Logging rows₀ bs os count start rows' settings' (at + 1 + byte_at bs at) acts' (k + 1)
      unfolding log_read settings_read
      logging-next n w t =
          let o = order_at bs at in
          let es = entries_by settings o in
          let then = settings_by settings o in
          let rest = drop (k + 1) os in
          let first = walking-order bs os at k h.walk some in
          let few = h.few in
          let one = entries-few settings o in
          let acts-left = h.same_acts ∙ ap (λ (l : List Order). acts + length (log_read settings l)) first in
          rw (n, w, t)
          (record {
            walk = walking-next bs os at k h.walk some;
            long = h.long;
            few = omega arith;
            long_rows = length-sets rows (21 * acts) (rows_of es) ∙ h.long_rows;
            same_rows =
                h.same_rows
                ∙ ap (λ (l : List Order). sets rows (21 * acts) (read_from settings l)) first
                ∙ record-next rows acts es (log_read then rest) (settings_read then rest);
            same_acts = omega (arith, acts-left, length-append es (log_read then rest));
          })

    module _ (all : count ≤ k) where
      none : drop k os ≡ []
      none = drop_of_length-le os {i = k} (let long = h.long in omega arith)

      pub logged-acts : acts ≡ length (log_read start os)
      unfolding log_read
      logged-acts = omega (arith, h.same_acts ∙ ap (λ (l : List Order). acts + length (log_read settings l)) none)

      pub logged-rows : {rows' : List ℕ} → rows' ≡ sets rows (21 * acts) (end_row settings) → rows' ≡ sets rows₀ 0 (read_from start os)
      unfolding log_read settings_read
      logged-rows w =
          w
          ∙ sym (h.same_rows ∙ ap (λ (l : List Order). sets rows (21 * acts) (read_from settings l)) none ∙ record-last rows acts settings)

-- a record has room for every accepted plan
log-room : (r : Settings) (bs : List ℕ) (os : List Order) → plan_of bs ≡ orders os → 21 * length (log_read r os) + 21 ≤ 1365
log-room r bs os e = omega (arith, log-few r os, accepted-few bs os e)

-- the ways through `read_plan`
module _ (r : Settings) (bs : List ℕ) where
  module _ {n : ℕ} (is : Ok n ≡ judged_of (plan_of bs)) where
    pub read-value : {acts : ℕ} → acts ≡ length (log_read r (orders_in (plan_of bs))) → Ok acts ≡ read_of r (plan_of bs)
    unfolding read_of
    read-value count = ap Ok count ∙ ap (read_of r) (sym (judged-accepted (plan_of bs) is))

    pub read-rows : (rows : List ℕ) {rows' : List ℕ} → length rows ≡ 1365 → rows' ≡ sets rows 0 (read_from r (orders_in (plan_of bs)))
        → rows' ≡ at_front (read_record r (plan_of bs)) rows
    unfolding read_record
    read-rows rows long laid =
        let os = orders_in (plan_of bs) in
        let read = judged-accepted (plan_of bs) is in
        let most : 21 * length (log_read r os) + 21 ≤ length rows = omega (arith, log-room r bs os read) in
        laid ∙ record-front (log_read r os) (settings_read r os) rows most ∙ ap (λ (p : Plan). at_front (read_record r p) rows) (sym read)

  module _ {f : Refusal} (is : Err f ≡ judged_of (plan_of bs)) where
    pub refused-value : Err f ≡ read_of r (plan_of bs)
    unfolding judged_of read_of
    refused-value = go (plan_of bs) is
      where
        go : (p : Plan) → Err f ≡ judged_of p → Err f ≡ read_of r p
        go (orders os) e = cc
        go (refused n q) e = e

    pub refused-rows : (rows : List ℕ) → rows ≡ at_front (read_record r (plan_of bs)) rows
    unfolding judged_of read_record at_front
    refused-rows rows = go (plan_of bs) is
      where
        go : (p : Plan) → Err f ≡ judged_of p → rows ≡ at_front (read_record r p) rows
        go (orders os) e = cc
        go (refused n q) e = refl
