-- The line of a refusal is at most that of the first byte too many.
-- Assumes nothing.
use mathlib.Core.Path.{◌≡◌, refl}
use mathlib.Core.Bool.{Bool, true, false, cond}
use mathlib.Core.List.{List, [], ◌∷◌}
use Prim.Native.Nat.{ℕ, ◌+◌, ◌≤◌}
use native.Mathlib.Omega.{arith}
use borrow.Author.Tests.{ltb-false}
use lib.Dec.{eqb, ltb}
use lib.ListN.{length, take, length-take}
use Rattle.import.specs.Read.{most_bytes, lines, begin, judged, judged_all, read_of, answer_by, import_of}
use Rattle.import.specs.declared.progress.Progress.{Progress}
use Rattle.import.proofs.Lines.{lines-few}
use Rattle.import.proofs.Whole.{told, one_line}
use Rattle.std.specs.Prelude.{Option, Some, None, Err}
use Rattle.import.specs.declared.reasons.Reason.{Reason}
use Rattle.import.specs.declared.reasons.ImportError.TheVariants.{Refused, Short}
use Rattle.import.specs.declared.reasons.Reason.TheVariants.{TooLong}

all-few : (p : Progress) (ls : List (List ℕ)) → (judged_all p ls).line ≤ p.line + length ls
unfolding judged_all
all-few p [] = omega arith
all-few p (l ∷ ls) = omega (arith, one_line p l, all-few (judged p l) ls)

answer-place : (p : Progress) {r : Reason} {l : ℕ} → answer_by p ≡ Err (Refused r l) → l ≤ p.line + 1
unfolding answer_by
answer-place p {r} {l} e = go p.refused (eqb p.line 0) e
  where
    go : (a : Option Reason) (b : Bool) → told p a b ≡ Err (Refused r l) → l ≤ p.line + 1
    go (Some q) b h = let same : p.line ≡ l = cc in omega arith
    go None true h = let same : 1 ≡ l = cc in omega arith
    go None false h = absurd (cc)

pub import-place : (text : List ℕ) {r : Reason} {l : ℕ} → import_of text ≡ Err (Refused r l) → l ≤ most_bytes + 1
unfolding import_of read_of
import-place text {r} {l} e = go (ltb most_bytes (length text)) refl e
  where
    go : (z : Bool) → ltb most_bytes (length text) ≡ z
        → cond z (Err (Refused TooLong (length (lines (take (most_bytes + 1) text))))) (answer_by (judged_all begin (lines text))) ≡ Err (Refused r l)
        → l ≤ most_bytes + 1
    go true k h =
        let same : length (lines (take (most_bytes + 1) text)) ≡ l = cc in
        omega (arith, lines-few (take (most_bytes + 1) text), length-take (most_bytes + 1) text)
    go false k h =
        omega (
          arith,
          answer-place (judged_all begin (lines text)) h,
          all-few begin (lines text),
          lines-few text,
          ltb-false most_bytes (length text) k,
        )

-- reading without buffers finds none short
pub import-not-short : (text : List ℕ) {n : ℕ} → import_of text ≡ Err (Short n) → ⊥
unfolding import_of answer_by
import-not-short text {n} e = go (ltb most_bytes (length text)) p.refused (eqb p.line 0) e
  where
    p : Progress
    p = read_of text

    go : (z : Bool) (a : Option Reason) (b : Bool)
        → cond z (Err (Refused TooLong (length (lines (take (most_bytes + 1) text)))))
        (told p a b)
        ≡ Err (Short n)
        → ⊥
    go true a b h = cc
    go false (Some r) b h = cc
    go false None true h = cc
    go false None false h = cc
