-- The lines of orders ask the log for as many entries as there are acts among the orders, and for no others.
-- Assumes nothing.
use mathlib.Core.Path.{◌≡◌, refl, sym, ap, ◌∙◌}
use mathlib.Core.Bool.{Bool, true, false, ◌||◌, cond}
use mathlib.Core.List.{List, [], ◌∷◌, ◌++◌, append_assoc}
use Prim.Native.Nat.{ℕ, ◌+◌, ◌<◌}
use native.Mathlib.Omega.{arith}
use lib.ListN.{length, get_or, take, drop, length-append}
use Rattle.head.specs.declared.state.Settings.{Settings}
use Rattle.orders.specs.Codes as code
use Rattle.orders.specs.Codes.{is}
use Rattle.orders.specs.Words.{words_of}
use Rattle.orders.specs.declared.order.Order.{Order}
use Rattle.plan.specs.Reading.{Entry, exposure, request, cover_move, entries_by, settings_by, log_read}
use Rattle.plan.specs.Rows.{settings_row, entry_row, rows_of, end_row, record_of}
use Rattle.plan.specs.Read.{at_front}
use Rattle.layout.specs.Numbers.{bit}
use Rattle.report.specs.Read.{row_entry, entries_in}
use Rattle.report.specs.Acts.{exposed_by}
use Rattle.report.specs.Lines.{is_act, order_line, exposed_after, order_lines}
use Rattle.report.proofs.Rows.{entry_at}

-- the first row of a record, and the rows after it
entry-back : (e : Entry) (rest : List ℕ) → row_entry (take 21 (entry_row e ++ rest)) ≡ e
unfolding row_entry entry_row settings_row
entry-back (exposure r) rest = refl
entry-back request rest = refl
entry-back (cover_move d w s n) rest = refl

rows-after : (e : Entry) (rest : List ℕ) → drop 21 (entry_row e ++ rest) ≡ rest
unfolding entry_row settings_row
rows-after (exposure r) rest = refl
rows-after request rest = refl
rows-after (cover_move d w s n) rest = refl

log_back : (log : List Entry) (rest : List ℕ) → entries_in (length log) (rows_of log ++ rest) ≡ log
unfolding entries_in rows_of
log_back [] rest = refl
log_back (e ∷ log) rest =
    rw (append_assoc (entry_row e) (rows_of log) rest, entry-back e (rows_of log ++ rest), rows-after e (rows_of log ++ rest), log_back log rest)

record-log : (log : List Entry) (r : Settings) (old : List ℕ) → entries_in (length log) (at_front (record_of log r) old) ≡ log
unfolding at_front record_of
record-log log r old =
    ap (entries_in (length log)) (append_assoc (rows_of log) (end_row r) (drop (length (rows_of log ++ end_row r)) old))
    ∙ log_back log (end_row r ++ drop (length (rows_of log ++ end_row r)) old)

-- the entries of a record, read from more rows than it has, are those of its log
pub record-entry : (log : List Entry) (r : Settings) (old : List ℕ) (n i : ℕ) → i < length log → i < n
    → get_or (entries_in n (at_front (record_of log r) old)) i request ≡ get_or log i request
record-entry log r old n i few less =
    entry_at n (at_front (record_of log r) old) i less
    ∙ sym (entry_at (length log) (at_front (record_of log r) old) i few)
    ∙ ap (λ (l : List Entry). get_or l i request) (record-log log r old)

-- how many acts there are among orders
unfoldable pub acts_in : List Order → ℕ
acts_in [] = 0
acts_in (o ∷ os) = bit (is_act o.code) + acts_in os

one_entry : (r : Settings) (o : Order) → length (entries_by r o) ≡ bit (is_act o.code)
unfolding entries_by is_act
one_entry r o = go (is o code.cover) (is o code.expose) (is o code.housekeeping)
  where
    go : (x y z : Bool) → length (cond x (cover_move o.a o.b o.c o.d ∷ []) (cond y (exposure r ∷ []) (cond z (request ∷ []) []))) ≡ bit (x || y || z)
    go true y z = refl
    go false true z = refl
    go false false true = refl
    go false false false = refl

pub log-acts : (r : Settings) (os : List Order) → length (log_read r os) ≡ acts_in os
unfolding log_read acts_in
log-acts r [] = refl
log-acts r (o ∷ os) =
    length-append (entries_by r o) (log_read (settings_by r o) os) ∙ omega (arith, one_entry r o, log-acts (settings_by r o) os)

-- two logs with the same entries there
pub lines-alike : (log log' : List Entry) (ticks : List ℕ) (os : List Order) (k w a : ℕ) (before : Settings)
    → ((i : ℕ) → i < a + acts_in os → get_or log i request ≡ get_or log' i request)
    → order_lines k w a before os ticks log ≡ order_lines k w a before os ticks log'
unfolding order_lines order_line exposed_after acts_in
lines-alike log log' ticks [] k w a before same = refl
lines-alike log log' ticks (o ∷ os) k w a before same =
    go (is_act o.code) refl (lines-alike log log' ticks os (k + 1) (w + length (words_of o)))
  where
    go : (z : Bool) → is_act o.code ≡ z
        → ((b : ℕ) (s : Settings) → ((i : ℕ) → i < b + acts_in os → get_or log i request ≡ get_or log' i request)
        → order_lines (k + 1) (w + length (words_of o)) b s os ticks log ≡ order_lines (k + 1) (w + length (words_of o)) b s os ticks log')
        → order_lines k w a before (o ∷ os) ticks log ≡ order_lines k w a before (o ∷ os) ticks log'
    go true e rest = rw (e, same a (rw e (omega arith)), rest (a + 1) (exposed_by (get_or log' a request) before) (λ i h. same i (rw e (omega arith))))
    go false e rest = rw (e, rest (a + 0) before (λ i h. same i (rw e (omega arith))))
