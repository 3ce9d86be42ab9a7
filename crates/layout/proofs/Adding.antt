-- Texts that a writer adds, one after another.
-- Assumes nothing.
use mathlib.Core.Path.{◌≡◌, refl, ◌∙◌}
use mathlib.Core.List.{List, [], ◌++◌}
use Prim.Native.Nat.{ℕ, ◌≤◌, min}
use native.Mathlib.Omega.{arith}
use lib.ListN.{length}
use Rattle.layout.specs.Written.{Written, Front}
use Rattle.layout.specs.Adds.{Adds}
use Rattle.layout.specs.declared.writer.Writer.{Writer}
use Rattle.layout.proofs.Writing.{written_is, written_then, written_none, written-front, written-clamped}

-- a text by another name
pub adds_is : {u v : Writer} {a b : List ℕ} → a ≡ b → Adds u v b → Adds u v a
adds_is e h = record { written = written_is e h.written; lent = h.lent }

-- one text after another
pub adds_then : {u v w : Writer} {a b : List ℕ} → Adds u v a → Adds v w b → Adds u w (a ++ b)
adds_then h k = record { written = written_then h.written k.written; lent = k.lent ∙ h.lent }

pub adds_three : {u v w x : Writer} {a b c : List ℕ} → Adds u v a → Adds v w b → Adds w x c → Adds u x (a ++ b ++ c)
adds_three h k l = adds_then (adds_then h k) l

pub adds_four : {u v w x y : Writer} {a b c d : List ℕ} → Adds u v a → Adds v w b → Adds w x c → Adds x y d → Adds u y (a ++ b ++ c ++ d)
adds_four h k l m = adds_then (adds_three h k l) m

-- nothing
pub adds_none : (w : Writer) → Adds w w []
adds_none w = record { written = written_none (let h = w.within in omega arith); lent = refl }

-- from the first place on: what stands in the lent bytes then
pub adds_whole : {w v : Writer} {old text : List ℕ} {n : ℕ} → w.out.now ≡ old → w.at ≡ 0 → n ≡ v.at → Adds w v text
    → Written old 0 text n v.out.now
adds_whole bytes start is h = rw is (rw (← bytes, ← start) h.written)

pub adds_front : {w v : Writer} {old text : List ℕ} {n : ℕ} → w.out.now ≡ old → w.at ≡ 0 → n ≡ v.at → Adds w v text
    → length text ≤ length old
    → Front old text n v.out.now
adds_front bytes start is h fits = written-front (adds_whole bytes start is h) fits

-- from any place on
pub adds_from : {w v : Writer} {old text : List ℕ} {at n : ℕ} → w.out.now ≡ old → w.at ≡ min at (length old) → n ≡ v.at → Adds w v text
    → Written old at text n v.out.now
adds_from bytes start is h = rw is (written-clamped (rw (← start, ← bytes) h.written))

-- a text of which only a part is left to be added: whatever adds that part has added the whole
pub record Partly (old : Writer) (whole left : List ℕ) (new : Writer) : Type 0 where
  pub ends : {v : Writer} → Adds new v left → Adds old v whole

pub partly-first : {w : Writer} {whole : List ℕ} → Partly w whole whole w
partly-first = record { ends = λ h. h }

module _ {old : Writer} {whole left : List ℕ} {new : Writer} (h : Partly old whole left new) where
  pub partly-next : {piece left' : List ℕ} {new' : Writer} → left ≡ piece ++ left' → Adds new new' piece → Partly old whole left' new'
  partly-next is w = record { ends = λ v. h.ends (rw is (adds_then w v)) }

  pub partly-done : left ≡ [] → Adds old new whole
  partly-done none = h.ends (rw none (adds_none new))
