-- Texts written into a list of bytes, one after another, as far as the list goes.
-- Assumes nothing.
use mathlib.Core.Path.{◌≡◌, refl, sym, ap, ◌∙◌}
use mathlib.Core.List.{List, [], ◌∷◌, ◌++◌}
use Prim.Native.Nat.{ℕ, ◌+◌, ◌≤◌, ◌<◌, min}
use native.Mathlib.Decide.{dec_lt}
use native.Mathlib.Omega.{arith}
use lib.ListN.{length, take, drop, set, length-append}
use lib.Seq.{sets, set_out, length-sets, length-take-le, take_at}
use Rattle.layout.specs.Written.{Written, Front}
use Rattle.layout.proofs.Overwriting.{sets-past, sets-append, sets-front}

-- it leaves the list as long as it was, and ends within it
pub written-long : {l : List ℕ} {at : ℕ} {a : List ℕ} {p : ℕ} {m : List ℕ} → Written l at a p m → length m ≡ length l
written-long {l} {at} {a} h = ap length h.bytes ∙ length-sets l at a

pub written-within : {l : List ℕ} {at : ℕ} {a : List ℕ} {p : ℕ} {m : List ℕ} → Written l at a p m → p ≤ length m
written-within h = let e = h.place in let long = written-long h in omega arith

-- a text by another name
pub written_is : {l : List ℕ} {at : ℕ} {a b : List ℕ} {p : ℕ} {m : List ℕ} → a ≡ b → Written l at b p m → Written l at a p m
written_is e h = rw e h

-- a place past the end stands for the end
pub written-clamped : {l : List ℕ} {at : ℕ} {a : List ℕ} {p : ℕ} {m : List ℕ} → Written l (min at (length l)) a p m → Written l at a p m
written-clamped {l} {at} {a} {p} {m} h = go (dec_lt at (length l))
  where
    go : Dec (at < length l) → Written l at a p m
    go (yes k) = let is : min at (length l) ≡ at = omega arith in rw is at h
    go (no k) =
        let is : min at (length l) ≡ length l = omega arith in
        let e : Written l (length l) a p m = rw is at h in
        record { place = let f = e.place in omega arith; bytes = e.bytes ∙ sym (sets-past a l (length l) (omega arith)) ∙ sets-past a l at (omega arith) }

-- one text after another
pub written_then : {l : List ℕ} {at : ℕ} {a : List ℕ} {p : ℕ} {m b : List ℕ} {q : ℕ} {n : List ℕ} → Written l at a p m → Written m p b q n
    → Written l at (a ++ b) q n
written_then {l} {at} {a} {p} {m} {b} {q} {n} first next =
    record {
      place =
          let e = first.place in
          let f = next.place in
          let long = written-long first in
          omega (arith, length-append a b);
      bytes = next.bytes ∙ go (dec_lt (at + length a) (length l)) ∙ sym (sets-append a b l at);
    }
  where
    go : Dec (at + length a < length l) → sets m p b ≡ sets (sets l at a) (at + length a) b
    go (yes h) =
        let e : p ≡ at + length a = let f = first.place in omega arith in
        ap (λ (x : ℕ). sets m x b) e ∙ ap (λ (x : List ℕ). sets x (at + length a) b) first.bytes
    go (no h) =
        let e : length m ≤ p = let f = first.place in let long = written-long first in omega arith in
        let past : length (sets l at a) ≤ at + length a = omega (arith, length-sets l at a) in
        sym (sets-past b m p e) ∙ first.bytes ∙ sets-past b (sets l at a) (at + length a) past

pub written-three : {l : List ℕ} {at : ℕ} {a : List ℕ} {p : ℕ} {m b : List ℕ} {q : ℕ} {n c : List ℕ} {r : ℕ} {o : List ℕ} → Written l at a p m
    → Written m p b q n → Written n q c r o → Written l at (a ++ b ++ c) r o
written-three x y z = written_then (written_then x y) z

pub written-four : {l : List ℕ} {at : ℕ} {a : List ℕ} {p : ℕ} {m b : List ℕ} {q : ℕ} {n c : List ℕ} {r : ℕ} {o d : List ℕ} {s : ℕ} {k : List ℕ}
    → Written l at a p m → Written m p b q n → Written n q c r o → Written o r d s k → Written l at (a ++ b ++ c ++ d) s k
written-four x y z w = written_then (written-three x y z) w

-- nothing
pub written_none : {l : List ℕ} {at place : ℕ} → place ≡ min at (length l) → Written l at [] place l
written_none h = record { place = omega arith; bytes = refl }

-- one byte
pub written_byte : {l : List ℕ} {at b : ℕ} → at < length l → Written l at (b ∷ []) (at + 1) (set l at b)
written_byte h = record { place = omega arith; bytes = refl }

pub written-past : {l : List ℕ} {at b : ℕ} → length l ≤ at → Written l at (b ∷ []) (length l) l
written-past {l} {at} {b} h = record { place = omega arith; bytes = sym (set_out l at b h) }

-- at the front of a list with room for it
pub written-front : {old text : List ℕ} {n : ℕ} {new : List ℕ} → Written old 0 text n new → length text ≤ length old → Front old text n new
written-front {old} {text} {n} {new} h fits =
    let same : n ≡ length text = let place = h.place in omega arith in
    let within = written-within h in
    record {
      long = same;
      bytes = h.bytes ∙ sets-front text old fits ∙ ap (λ (k : ℕ). text ++ drop k old) (sym same);
      counts = (within, sym (length-take-le n new within));
    }

-- it is what stands there
pub front-text : {old text : List ℕ} {n : ℕ} {new : List ℕ} → Front old text n new → take n new ≡ text
front-text {old} {text} {n} h = ap (take n) h.bytes ∙ take_at text (drop n old) n (sym h.long)
