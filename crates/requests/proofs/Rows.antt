-- The table row by row: what a turn of the loop gives, and a code that is looked for in the rows.
-- Assumes nothing.
use Rattle.std.proofs.Common.{◌≡◌, ℕ, ◌+◌, ◌<◌, true, false, List, [], ◌∷◌, length, get_or, drop, sym, refl, add-one, arith, drop-cons, drop_of_length-le, eqb}
use Rattle.std.specs.List.{list_any}
use Rattle.requests.specs.declared.table.Row.{Row}
use Rattle.requests.specs.Codec.{is_word_of, is_known}
use Rattle.requests.specs.Rows.{first_from}

-- the first row that has a word, looked for from the ith on; d is any row
module _ (t : List Row) (c v i : ℕ) (d : Row) {r : ℕ} where
  module _ (h : i < length t) (e : r ≡ first_from (drop i t) i c v) where
    pub first-here : is_word_of (get_or t i d) c v ≡ true → i ≡ r
    unfolding first_from
    first-here has = sym (rw (drop-cons t i d h, has) at e)

    pub first-later : is_word_of (get_or t i d) c v ≡ false → r ≡ first_from (drop (i + 1) t) (i + 1) c v
    unfolding first_from
    first-later has = rw (add-one i) (rw (drop-cons t i d h, has) at e)

  pub first-none : i ≡ length t → r ≡ first_from (drop i t) i c v → length t ≡ r
  unfolding first_from
  first-none h e = sym (rw (drop_of_length-le t {i = i} (omega arith), h) at e)

-- a code that is looked for in the rows
pub any-known : (c : ℕ) (rs : List Row) → list_any (λ (r : Row). eqb r.code c) rs ≡ is_known rs c
unfolding is_known
any-known c [] = refl
any-known c (r ∷ rs) = rw (any-known c rs)
