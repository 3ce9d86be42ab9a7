-- Items as words of known kinds: each with allowed data and, in a set of mirror words, in turn.
-- Assumes nothing.
use mathlib.Core.Path.{◌≡◌, refl, sym, ap}
use mathlib.Core.Bool.{Bool, true, false, cond}
use mathlib.Core.List.{List, [], ◌∷◌, ◌++◌}
use Prim.Native.Nat.{ℕ}
use native.Mathlib.Omega.{arith}
use borrow.Author.Tests.{eqb-true, eqb-false, eq-eqb, ne_eqb}
use lib.Dec.{eqb}
use Rattle.words.specs.Kinds as kind
use Rattle.words.specs.Kinds.{rows, least, greatest, allowed, bits_of}
use Rattle.words.specs.Codec.{word_of, encode_of, decode_of}
use Rattle.words.specs.declared.Word.{Word}
use Rattle.std.specs.Prelude.{Ok}
use Rattle.words.proofs.Codec.{encode-decode, decode-read}
use Rattle.head.specs.Word.{out_of_turn}
use Rattle.head.proofs.Bounds.{allowed-most}
use Rattle.orders.specs.Words.{Item, send, pause}
use Rattle.schedule.specs.Earliest.{start_word, hk_word}
use Rattle.schedule.specs.Clock.{kind_in}

-- a word of kind k with data b, or a wait
pub data Step : Type 0 where
  word : ℕ → ℕ → Step
  wait : ℕ → Step

-- how many words of a mirror set are begun after a word of kind k
unfoldable pub count_after : ℕ → ℕ → ℕ
count_after c k =
    cond (eqb k kind.sin_m) 1
    (cond (eqb k kind.sin_l) 2
    (cond (eqb k kind.cos_m) 3
    (cond (eqb k kind.cos_l) 0 c)))

-- c words of a mirror set are begun before the first item
pub data InTurn : ℕ → List Item → List Step → Type 0 where
  empty : {c : ℕ} → InTurn c [] []
  given : {c : ℕ} {is : List Item} {ms : List Step} (k b : ℕ) → allowed k b ≡ true → out_of_turn c k ≡ false
      → InTurn (count_after c k) is ms → InTurn c (send (word_of k b) ∷ is) (word k b ∷ ms)
  paused : {c : ℕ} {is : List Item} {ms : List Step} (n : ℕ) → InTurn c is ms → InTurn c (pause n ∷ is) (wait n ∷ ms)

pub in-turn-append : {c : ℕ} {is js : List Item} {ms ns : List Step} → InTurn c is ms → ((d : ℕ) → InTurn d js ns)
    → InTurn c (is ++ js) (ms ++ ns)
in-turn-append {c} empty r = r c
in-turn-append (given k b fine turn i) r = given k b fine turn (in-turn-append i r)
in-turn-append (paused n i) r = paused n (in-turn-append i r)

-- a word read back
pub word-decoded : (k b : ℕ) → allowed k b ≡ true → decode_of (word_of k b) ≡ Ok (record { kind = k; bits = b })
unfolding encode_of
word-decoded k b fine = encode-decode (word_of k b) k b (rw fine)

module _ (k b : ℕ) (fine : allowed k b ≡ true) where
  pub word-kind : kind_in (word_of k b) ≡ k
  word-kind = sym (decode-read (word_of k b) k b (word-decoded k b fine)).kind

  pub word-bits : bits_of (word_of k b) ≡ b
  word-bits = sym (decode-read (word_of k b) k b (word-decoded k b fine)).bits

  -- a kind whose data are 0 alone is told by its word
  pub word-is : (j : ℕ) → allowed j 0 ≡ true → greatest j ≡ 0 → eqb (word_of k b) (word_of j 0) ≡ eqb k j
  word-is j fine-j single = go (eqb k j) refl
    where
      go : (x : Bool) → eqb k j ≡ x → eqb (word_of k b) (word_of j 0) ≡ x
      go true e =
          let same = eqb-true k j e in
          let m = allowed-most k b fine in
          let z : b ≡ 0 = omega (arith, rw (same, single) at m) in
          eq-eqb (word_of k b) (word_of j 0) (rw (same, z))
      go false e = ne_eqb (word_of k b) (word_of j 0) (λ same. eqb-false k j e (kinds same))
        where
          kinds : word_of k b ≡ word_of j 0 → k ≡ j
          kinds same =
              let p : decode_of (word_of k b) ≡ Ok (record { kind = k; bits = b }) = word-decoded k b fine in
              let q : decode_of (word_of j 0) ≡ Ok (record { kind = j; bits = 0 }) = word-decoded j 0 fine-j in
              let read : ◌≡◌ {A = Word} (record { kind = k; bits = b }) (record { kind = j; bits = 0 }) = cc in
              ap (λ (w : Word). w.kind) read

  pub is-start : eqb (word_of k b) start_word ≡ eqb k kind.start
  unfolding word_of rows allowed least greatest
  is-start = word-is kind.start refl refl

  pub is-hk : eqb (word_of k b) hk_word ≡ eqb k kind.hk
  unfolding word_of rows allowed least greatest
  is-hk = word-is kind.hk refl refl
