-- Nothing is guessed: a text that is read holds nothing but what is printed for its list.
-- Assumes nothing.
use mathlib.Core.Path.{◌≡◌, refl}
use mathlib.Core.Bool.{Bool, true, false, cond, ◌&&◌}
use mathlib.Core.List.{List, [], ◌∷◌, map}
use Prim.Native.Nat.{ℕ}
use native.Mathlib.Omega.{arith}
use lib.Dec.{ltb}
use lib.ListN.{take}
use Rattle.words.proofs.Tests.{and_right}
use Rattle.text.specs.Lines.{head_text, timed_text, end_text}
use Rattle.import.specs.Line.{is_text, tick_limit, word_limit, tick_in, word_in, end_in, reads_timed, reads_end, line_of}
use Rattle.import.specs.Read.{lines, word_of, tick_of, import_of, words_in, ticks_in}
use Rattle.import.specs.declared.line.Line.TheVariants.{Word, End}
use Rattle.import.proofs.Body.{Listed, none, last, word, accepted}
use Rattle.import.proofs.Lists.{words-read, ticks-read}
use Rattle.std.specs.Prelude.{Some, None, Ok}

-- a line for each tick and its word, and at most one more, an end's
pub data Exactly : List (List ℕ) → List ℕ → List ℕ → Type 0 where
  over : Exactly [] [] []
  ends : {l : List ℕ} (t : ℕ) → is_text l (end_text t) ≡ true → Exactly (l ∷ []) [] []
  more : {l : List ℕ} {ls : List (List ℕ)} {t : ℕ} {ts : List ℕ} {w : ℕ} {ws : List ℕ} → is_text l (timed_text t w) ≡ true → Exactly ls ts ws
      → Exactly (l ∷ ls) (t ∷ ts) (w ∷ ws)

-- the line that names the columns, and the others
pub record Exact (text : List ℕ) : Type 0 where
  pub head : List ℕ
  pub rest : List (List ℕ)
  pub are : lines text ≡ head ∷ rest
  pub named : is_text head head_text ≡ true
  pub exactly : Exactly rest (ticks_in text) (words_in text)

module _ (l : List ℕ) where
  word-exact : {t w : ℕ} → line_of l ≡ Some (Word t w) → is_text l (timed_text t w) ≡ true
  unfolding line_of reads_timed
  word-exact {t} {w} e = go (reads_timed l (tick_in l) (word_in l)) refl (reads_end l (end_in l)) e
    where
      go : (a : Bool) → reads_timed l (tick_in l) (word_in l) ≡ a → (b : Bool)
          → cond a (Some (Word (tick_in l) (word_in l))) (cond b (Some (End (end_in l))) None) ≡ Some (Word t w) → is_text l (timed_text t w) ≡ true
      go true x b e =
          let tick : tick_in l ≡ t = cc in
          let word : word_in l ≡ w = cc in
          rw (← tick, ← word)
          (and_right (ltb (tick_in l) tick_limit && ltb (word_in l) word_limit) (is_text l (timed_text (tick_in l) (word_in l))) x)
      go false x true e = absurd (let z : ◌≡◌ {A = ℕ} 0 1 = cc in omega arith)
      go false x false e = absurd (let z : ◌≡◌ {A = ℕ} 0 1 = cc in omega arith)

  end-exact : {t : ℕ} → line_of l ≡ Some (End t) → is_text l (end_text t) ≡ true
  unfolding line_of reads_end
  end-exact {t} e = go (reads_timed l (tick_in l) (word_in l)) (reads_end l (end_in l)) refl e
    where
      go : (a b : Bool) → reads_end l (end_in l) ≡ b → cond a (Some (Word (tick_in l) (word_in l))) (cond b (Some (End (end_in l))) None) ≡ Some (End t)
          → is_text l (end_text t) ≡ true
      go true b x e = absurd (let z : ◌≡◌ {A = ℕ} 0 1 = cc in omega arith)
      go false true x e =
          let tick : end_in l ≡ t = cc in
          rw (← tick) (and_right (ltb (end_in l) tick_limit) (is_text l (end_text (end_in l))) x)
      go false false x e = absurd (let z : ◌≡◌ {A = ℕ} 0 1 = cc in omega arith)

listed-exact : {n least : ℕ} {ls : List (List ℕ)} → Listed n least ls
    → Exactly ls (map tick_of (map line_of (take n ls))) (map word_of (map line_of (take n ls)))
listed-exact none = over
listed-exact (last {l = l} {t = t} is h) = ends t (end-exact l is)
listed-exact (word {l = l} is h r) = rw is (more (word-exact l is) (listed-exact r))

-- each line reads, byte by byte, as what is printed
pub nothing-guessed : (text : List ℕ) {n : ℕ} → import_of text ≡ Ok n → Exact text
nothing-guessed text e =
    let a = accepted text e in
    record {
      head = a.head;
      rest = a.rest;
      are = a.are;
      named = a.named;
      exactly = rw (ticks-read text e, words-read text e) (listed-exact a.listed);
    }
