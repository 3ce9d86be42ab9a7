-- The two round trips. What a request and a value give as a word is read as that request and value, but for the exceptions, where the meaning
-- is shared; antt reads the words of all requests. What is read gives the word back, with every request that has it.
-- Assumes nothing.
use mathlib.Core.Path.{◌≡◌, refl, sym, ap, ◌∙◌}
use mathlib.Core.Bool.{Bool, true, false, cond, not, ◌&&◌, ◌||◌, false≢true}
use mathlib.Core.List.{List, [], ◌∷◌}
use Prim.Native.Nat.{ℕ, suc, ◌+◌, ◌-◌, ◌<◌, ◌≤◌}
use native.Mathlib.Nat.{div-add-mod', sub-zero}
use native.Mathlib.Omega.{arith}
use borrow.Author.Tests.{eqb-true, ltb-true, leb-true, eq-eqb, lt-ltb, not-true}
use lib.Arith.{digits_div, digits_mod}
use lib.Dec.{T, eqb, leb, ltb}
use lib.ListN.{length, get_or}
use Rattle.std.proofs.lemmas.Bool.{and_parts}
use Rattle.words.proofs.Tests.{passes}
use Rattle.requests.specs.Parameters.{composed, mode_fields, lamp_fields, cover_fields}
use Rattle.requests.specs.declared.table.Row.{Row}
use Rattle.requests.specs.Requests.{rows, requests, row_of, allows, code_in, value_in}
use Rattle.requests.specs.Codec.{is_word_of, having_from, having, meaning_by, decode_of, word_of, encode_of}
use Rattle.requests.specs.Shared.{exceptions, shares_by, first_by, is_shared, first_of, is_among}
use Rattle.std.specs.Prelude.{Ok}
use Rattle.requests.specs.declared.Meaning.TheVariants.{One, Shared}
use Rattle.requests.proofs.Every.{every, every-at}
use Rattle.requests.proofs.Encoding.{value-small}

-- whether these requests are k alone or, where it shares the word, several that begin with the first that shares it
abbrev are_those : List ℕ → ℕ → ℕ → Bool
are_those [] k v = false
are_those (j ∷ []) k v = eqb j k && not (is_shared k v)
are_those (j ∷ i ∷ is) k v = eqb j (first_of k) && is_shared k v

abbrev reads_back : ℕ → ℕ → Bool
reads_back k v = not (allows (row_of k) v) || are_those (having_from rows 0 (row_of k).code v) k v

all_read : T (every (λ k. every (reads_back k) (suc (row_of k).most)) requests)
unfolding is_shared first_of shares_by first_by exceptions having_from is_word_of allows rows composed mode_fields lamp_fields cover_fields
all_read = tt

module _ (k v : ℕ) (known : k < requests) (fine : allows (row_of k) v ≡ true) where
  those : are_those (having_from rows 0 (row_of k).code v) k v ≡ true
  unfolding allows
  those =
      let below = leb-true v (row_of k).most (and_parts (leb (row_of k).least v) (leb v (row_of k).most) fine).1 in
      let few : v < suc (row_of k).most = omega arith in
      let values = every-at (λ k. every (reads_back k) (suc (row_of k).most)) requests all_read k known in
      rw fine at (every-at (reads_back k) (suc (row_of k).most) (passes (every (reads_back k) (suc (row_of k).most)) values) v few)

  -- the code and the parameter of the word
  own_code : code_in (word_of k v) ≡ (row_of k).code
  unfolding word_of
  own_code = digits_div (row_of k).code {m = 1024} (value-small k known v fine)

  own_value : value_in (word_of k v) ≡ v
  unfolding word_of
  own_value = digits_mod (row_of k).code {m = 1024} (value-small k known v fine)

  word_read : decode_of (word_of k v) ≡ cond (is_shared k v) (Ok (Shared (first_of k) v)) (Ok (One k v))
  unfolding decode_of having meaning_by
  word_read = rw (own_code, own_value) (go (having_from rows 0 (row_of k).code v) those)
    where
      go : (l : List ℕ) → are_those l k v ≡ true → meaning_by l (word_of k v) ≡ cond (is_shared k v) (Ok (Shared (first_of k) v)) (Ok (One k v))
      go [] e = absurd (false≢true e)
      go (j ∷ []) e =
          rw (
            own_value,
            eqb-true j k (and_parts (eqb j k) (not (is_shared k v)) e).0,
            not-true (is_shared k v) (and_parts (eqb j k) (not (is_shared k v)) e).1,
          )
      go (j ∷ i ∷ is) e =
          rw (
            own_value,
            eqb-true j (first_of k) (and_parts (eqb j (first_of k)) (is_shared k v) e).0,
            (and_parts (eqb j (first_of k)) (is_shared k v) e).1,
          )

-- what encodes: a request, an allowed value, and their word
made : (k v w : ℕ) → encode_of k v ≡ Ok w → (k < requests) × ((allows (row_of k) v ≡ true) × (word_of k v ≡ w))
unfolding encode_of
made k v w e = go (ltb k requests) refl (allows (row_of k) v) refl
  where
    go : (a : Bool) → ltb k requests ≡ a → (b : Bool) → allows (row_of k) v ≡ b → (k < requests) × ((allows (row_of k) v ≡ true) × (word_of k v ≡ w))
    go false p b q = absurd (cc (rw p at e))
    go true p false q = absurd (cc (rw (p, q) at e))
    go true p true q = let same = rw (p, q) at e in (ltb-true k requests p, (q, cc))

pub written_read : (k v w : ℕ) → encode_of k v ≡ Ok w → decode_of w ≡ cond (is_shared k v) (Ok (Shared (first_of k) v)) (Ok (One k v))
written_read k v w e = let m = made k v w e in rw m.1.1 at (word_read k v m.0 m.1.0)

-- a request of those that have a word stands in the table, and its row has the word
record Has (rs : List Row) (n c v k : ℕ) : Type 0 where
  above : n ≤ k
  within : k < n + length rs
  own : is_word_of (get_or rs (k - n) (record { code = 64; least = 1; most = 0 })) c v ≡ true

module _ (c v k : ℕ) where
  later : (r : Row) (rs : List Row) (n : ℕ) → Has rs (suc n) c v k → Has (r ∷ rs) n c v k
  later r rs n h =
      let above = h.above in
      let within = h.within in
      let less : k - n ≡ suc (k - suc n) = omega arith in
      record { above = omega arith; within = omega arith; own = rw less h.own }

  among : (rs : List Row) (n : ℕ) → is_among k (having_from rs n c v) ≡ true → Has rs n c v k
  unfolding having_from is_among
  among [] n e = absurd (false≢true e)
  among (r ∷ rs) n e = go (is_word_of r c v) refl (eqb n k) refl (among rs (suc n)) e
    where
      go : (b : Bool) → is_word_of r c v ≡ b → (x : Bool) → eqb n k ≡ x → (is_among k (having_from rs (suc n) c v) ≡ true → Has rs (suc n) c v k)
          → is_among k (cond (is_word_of r c v) (n ∷ having_from rs (suc n) c v) (having_from rs (suc n) c v)) ≡ true → Has (r ∷ rs) n c v k
      go true p true q rest e =
          let same = eqb-true n k q in
          let none : k - n ≡ 0 = omega arith in
          record { above = omega arith; within = omega arith; own = rw none p }
      go true p false q rest e = later r rs n (rest (rw (p, q) at e))
      go false p x q rest e = later r rs n (rest (rw p at e))

pub read-written : (w k : ℕ) → is_among k (having w) ≡ true → encode_of k (value_in w) ≡ Ok w
unfolding encode_of having is_word_of word_of rows
read-written w k e =
    let h = among (code_in w) (value_in w) k rows 0 e in
    let own : is_word_of (row_of k) (code_in w) (value_in w) ≡ true = rw (sub-zero k) at h.own in
    let known : k < requests = let within = h.within in omega arith in
    let code = eqb-true (row_of k).code (code_in w) (and_parts (eqb (row_of k).code (code_in w)) (allows (row_of k) (value_in w)) own).0 in
    let fine = (and_parts (eqb (row_of k).code (code_in w)) (allows (row_of k) (value_in w)) own).1 in
    rw (lt-ltb k requests known, fine, code) (ap Ok (div-add-mod' w 1024))

-- one request alone has a word that is read as one, and that request and its value give the word
one-having : (w k v : ℕ) → decode_of w ≡ Ok (One k v) → (having w ≡ k ∷ []) × (value_in w ≡ v)
unfolding decode_of meaning_by
one-having w k v e = go (having w) refl
  where
    go : (l : List ℕ) → having w ≡ l → (having w ≡ k ∷ []) × (value_in w ≡ v)
    go [] p = absurd (cc (rw p at e))
    go (j ∷ []) p =
        let same = rw p at e in
        let request : j ≡ k = cc in
        let value : value_in w ≡ v = cc in
        (p ∙ ap (λ (x : ℕ). x ∷ []) request, value)
    go (j ∷ i ∷ is) p = absurd (cc (rw p at e))

pub one_written : (w k v : ℕ) → decode_of w ≡ Ok (One k v) → encode_of k v ≡ Ok w
unfolding is_among
one_written w k v e =
    let h = one-having w k v e in
    rw h.1 at (read-written w k (rw (h.0, eq-eqb k k refl)))

pub one-alone : (w k v j : ℕ) → decode_of w ≡ Ok (One k v) → is_among j (having w) ≡ true → j ≡ k
unfolding is_among
one-alone w k v j e a = sym (eqb-true k j (or-false (eqb k j) (rw (one-having w k v e).0 at a)))
  where
    or-false : (b : Bool) → (b || false) ≡ true → b ≡ true
    or-false true h = refl
    or-false false h = h

-- a word that is read as shared is given by each of the requests that have it, with the same value, and the first of them is told
shared-having : (w f v : ℕ) → decode_of w ≡ Ok (Shared f v) → (is_among f (having w) ≡ true) × (value_in w ≡ v)
unfolding decode_of meaning_by is_among
shared-having w f v e = go (having w) refl
  where
    go : (l : List ℕ) → having w ≡ l → (is_among f (having w) ≡ true) × (value_in w ≡ v)
    go [] p = absurd (cc (rw p at e))
    go (j ∷ []) p = absurd (cc (rw p at e))
    go (j ∷ i ∷ is) p =
        let same = rw p at e in
        let request : j ≡ f = cc in
        let value : value_in w ≡ v = cc in
        (rw (p, eq-eqb j f request), value)

pub shared-written : (w f v : ℕ) → decode_of w ≡ Ok (Shared f v)
    → (is_among f (having w) ≡ true) × ((k : ℕ) → is_among k (having w) ≡ true → encode_of k v ≡ Ok w)
shared-written w f v e = let h = shared-having w f v e in (h.0, λ k a. rw h.1 at (read-written w k a))
