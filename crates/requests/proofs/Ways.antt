-- The ways through the decoder: t is the table in the code, c and v the code and the parameter of the word w.
-- Assumes nothing.
use mathlib.Core.Path.{◌≡◌, refl, ap}
use Rattle.std.specs.Prelude.{Result, Ok, Err}
use mathlib.Core.Bool.{Bool, true, false, cond, not}
use mathlib.Core.List.{List, [], ◌∷◌}
use Prim.Native.Nat.{ℕ, suc, ◌+◌, ◌<◌, ◌≤◌, ◌/◌, ◌%◌}
use native.Mathlib.Nat.{sub-zero}
use native.Mathlib.Numerals.{add-one}
use native.Mathlib.Omega.{arith}
use lib.ListN.{length, drop, length-drop}
use Rattle.requests.specs.Requests.{rows, code_in, value_in}
use Rattle.requests.specs.Codec.{having_from, having, is_known, refused_of, is_none, meaning_by, decode_of, meaning_number, finding_number}
use Rattle.requests.specs.Rows.{first_from}
use Rattle.requests.specs.declared.table.Row.{Row}
use Rattle.requests.specs.declared.Meaning.{Meaning}
use Rattle.requests.specs.declared.Meaning.TheVariants.{One, Shared}
use Rattle.requests.specs.declared.RequestError.{RequestError}
use Rattle.requests.proofs.Having.{having-none, having-first, having-unknown}

rows_long : length rows ≡ 32
unfolding rows
rows_long = refl

module _ (w : ℕ) (t : List Row) (table : t ≡ rows) {f : ℕ} (first : f ≡ first_from (drop 0 t) 0 (w / 1024) (w % 1024)) where
  found : f ≡ first_from rows 0 (code_in w) (value_in w)
  found = rw table at first

  pub decode-none : 32 ≤ f → {r : RequestError} → r ≡ refused_of t (w / 1024) → Err r ≡ decode_of w
  unfolding decode_of having meaning_by
  decode-none past is =
      let none = having-none (code_in w) (value_in w) rows 0 (omega (arith, rows_long, found)) in
      rw none (ap Err (rw table at is))

  module _ (some : f < 32) {s : ℕ} (second : s ≡ first_from (drop (f + 1) t) (f + 1) (w / 1024) (w % 1024)) where
    others : List ℕ
    others = having_from (drop (suc f) rows) (suc f) (code_in w) (value_in w)

    all : having w ≡ f ∷ others
    unfolding having others
    all =
        let h = having-first (code_in w) (value_in w) rows 0 (omega (arith, rows_long, found)) in
        rw (← found, sub-zero (suc f)) at h

    later : s ≡ first_from (drop (suc f) rows) (suc f) (code_in w) (value_in w)
    later = rw (table, add-one f) at second

    rest-long : suc f + length (drop (suc f) rows) ≡ 32
    rest-long = omega (arith, length-drop (suc f) rows, rows_long)

    pub decode-one : 32 ≤ s → Ok (One f (w % 1024)) ≡ decode_of w
    unfolding decode_of meaning_by others
    decode-one past =
        let none : others ≡ [] = having-none (code_in w) (value_in w) (drop (suc f) rows) (suc f) (omega (arith, rest-long, later)) in
        rw (all, none)

    pub decode-shared : s < 32 → Ok (Shared f (w % 1024)) ≡ decode_of w
    unfolding decode_of meaning_by others
    decode-shared more =
        let more' = having-first (code_in w) (value_in w) (drop (suc f) rows) (suc f) (omega (arith, rest-long, later)) in
        rw (all, more')

-- the number of what was decoded is the one that the word gives
pub finding-number : (w : ℕ) (r : Result Meaning RequestError) → r ≡ decode_of w → meaning_number r ≡ finding_number w
unfolding finding_number decode_of meaning_by is_none having
finding-number w r e = rw e (go (is_known rows (code_in w)) refl (having w) refl)
  where
    go : (b : Bool) → is_known rows (code_in w) ≡ b → (l : List ℕ) → having w ≡ l
        → meaning_number (meaning_by (having w) w) ≡ cond (not (is_known rows (code_in w))) 43 (cond (is_none (having w)) 44 0)
    go true p [] q = rw (p, q, p)
    go true p (k ∷ []) q = rw (p, q)
    go true p (k ∷ j ∷ js) q = rw (p, q)
    go false p l q = rw (having-unknown (code_in w) (value_in w) rows 0 p, p)
