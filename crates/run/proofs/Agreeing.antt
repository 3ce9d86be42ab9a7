-- The record of a run beside that of the plan's reading: the ways through `agrees`.
-- Assumes nothing.
use mathlib.Core.Path.{◌≡◌, refl, sym, ap, ◌∙◌}
use mathlib.Core.Bool.{Bool, false}
use mathlib.Core.List.{List}
use Prim.Native.Nat.{ℕ, ◌+◌, ◌*◌, ◌≤◌}
use native.Mathlib.Omega.{arith}
use lib.ListN.{length, take, drop}
use lib.Seq.{take_at, length-take-le}
use Rattle.head.specs.declared.state.Settings.{Settings}
use Rattle.plan.specs.Read.{read_of, read_record, at_front}
use Rattle.plan.specs.Reading.{settings_read, log_read}
use Rattle.plan.specs.Stored.{Plan, orders, refused}
use Rattle.plan.specs.declared.stored.Refusal.{Refusal}
use Rattle.std.specs.Prelude.{Ok, Err}
use Rattle.plan.proofs.Recorded.{record-long}
use Rattle.run.specs.Compare.{same}
use Rattle.run.proofs.Comparing.{same-long}

-- the record of a reading with n acts has n rows and one more; a plan that is refused has none
read-long : (r : Settings) (p : Plan) (n : ℕ) → Ok n ≡ read_of r p → length (read_record r p) ≡ 21 * n + 21
unfolding read_of read_record
read-long r (orders os) n e =
    let count : n ≡ length (log_read r os) = cc in
    record-long (log_read r os) (settings_read r os) ∙ omega arith
read-long r (refused m q) n e = cc

read_none : (r : Settings) (p : Plan) (f : Refusal) → Err f ≡ read_of r p → length (read_record r p) ≡ 0
unfolding read_of read_record
read_none r (orders os) f e = cc
read_none r (refused m k) f e = refl

module _ (r : Settings) (p : Plan) (rows : List ℕ) (acts : ℕ) (room : 21 * acts + 21 ≤ length rows) where
  long : length (take (21 * acts + 21) rows) ≡ 21 * acts + 21
  long = length-take-le (21 * acts + 21) rows room

  pub agree-refused : {f : Refusal} → Err f ≡ read_of r p → false ≡ same (take (21 * acts + 21) rows) (read_record r p)
  agree-refused {f} e =
      sym (same-long (take (21 * acts + 21) rows) (read_record r p) (λ h. omega (arith, long, read_none r p f e)))

  module _ {n : ℕ} (e : Ok n ≡ read_of r p) where
    pub agree-other : (n ≡ acts → ⊥) → false ≡ same (take (21 * acts + 21) rows) (read_record r p)
    agree-other h =
        sym (same-long (take (21 * acts + 21) rows) (read_record r p) (λ l. h (omega (arith, long, read-long r p n e))))

    pub agree-compared : n ≡ acts → (old : List ℕ) {b : Bool} {read : List ℕ} → read ≡ at_front (read_record r p) old
        → b ≡ same (take (21 * acts + 21) rows) (take (21 * acts + 21) read)
        → b ≡ same (take (21 * acts + 21) rows) (read_record r p)
    unfolding at_front
    agree-compared h old filled compared =
        let values = read_record r p in
        let count : length values ≡ 21 * acts + 21 = omega (arith, read-long r p n e) in
        compared
        ∙ ap (same (take (21 * acts + 21) rows))
        (ap (take (21 * acts + 21)) filled ∙ take_at values (drop (length values) old) (21 * acts + 21) count)
