-- The ways through the reading of a line.
-- Assumes nothing.
use mathlib.Core.Path.{◌≡◌, sym, ap, ◌∙◌}
use mathlib.Core.Bool.{Bool, true, false, ◌&&◌}
use mathlib.Core.List.{List}
use Prim.Native.Nat.{ℕ, ◌-◌, ◌^◌, ◌≤◌, ◌<◌}
use native.Mathlib.Omega.{arith}
use mir.Syntax.{w16, w32}
use mir.Val.{Fits}
use borrow.Author.Tests.{lt-ltb, ltb-true}
use lib.Dec.{ltb}
use lib.ListN.{length, take, drop, length-append, length-drop}
use lib.Seq.{length-take-le, take_all}
use Rattle.words.proofs.Tests.{and_left, and_right}
use Rattle.layout.specs.Numbers.{ascii, hex_of}
use Rattle.layout.specs.Written.{Written}
use Rattle.layout.proofs.Digits.{decimal-long}
use Rattle.layout.proofs.Writing.{written-front, written-within, front-text}
use Rattle.text.specs.Lines.{timed_text, end_text}
use Rattle.import.specs.Line.{is_text, tick_limit, word_limit, value_from, tick_in, word_in, end_in, reads_timed, reads_end, line_of}
use Rattle.import.specs.declared.line.Line.TheVariants.{Word, End}
use Rattle.std.specs.Prelude.{Some, None}

-- the digits of a line
pub front_long : (l : List ℕ) (k : ℕ) {n : ℕ} → n ≡ length l - k → n ≡ length (take n l)
front_long l k {n} e = sym (length-take-le n l (omega arith))

back-taken : (l : List ℕ) (n : ℕ) → take (length l - n) (drop n l) ≡ drop n l
back-taken l n = take_all (length l - n) (drop n l) (omega (arith, length-drop n l))

pub word_read : (l : List ℕ) {n r : ℕ} → n ≡ length l - 4 → r ≡ value_from 16 0 (take (length l - n) (drop n l)) → r ≡ word_in l
unfolding word_in
word_read l {n} e is = is ∙ rw (back-taken l n, e)

-- what is printed for comparison
pub printed-long : {old text : List ℕ} {n : ℕ} {new : List ℕ} → Written old 0 text n new → n ≡ length (take n new)
printed-long {n = n} {new = new} h = sym (length-take-le n new (written-within h))

timed-long : (t w : ℕ) → t < 2 ^ 32 → length (timed_text t w) ≤ 15
unfolding timed_text ascii hex_of
timed-long t w h = simp length-append (omega (arith, decimal-long 9 t (omega arith)))

end-long : (t : ℕ) → t < 2 ^ 32 → length (end_text t) ≤ 14
unfolding end_text ascii
end-long t h = simp length-append (omega (arith, decimal-long 9 t (omega arith)))

module _ (l : List ℕ) {old : List ℕ} (room : length old ≡ 32) (t : ℕ) (h : t < 2 ^ 32) {n : ℕ} {new : List ℕ} {z : Bool} where
  pub timed-printed : (w : ℕ) → Written old 0 (timed_text t w) n new → z ≡ is_text l (take n new) → z ≡ is_text l (timed_text t w)
  timed-printed w p e = e ∙ ap (is_text l) (front-text (written-front p (omega (arith, timed-long t w h))))

  pub end-printed : Written old 0 (end_text t) n new → z ≡ is_text l (take n new) → z ≡ is_text l (end_text t)
  end-printed p e = e ∙ ap (is_text l) (front-text (written-front p (omega (arith, end-long t h))))

-- a tick and a word
module _ (l : List ℕ) (t w : ℕ) where
  module _ (small : t < tick_limit) where
    pub timed-reads : w < word_limit → {z : Bool} → z ≡ is_text l (timed_text t w) → z ≡ reads_timed l t w
    unfolding reads_timed
    timed-reads h e = e ∙ rw (lt-ltb t tick_limit small, lt-ltb w word_limit h)

  module _ {z : Bool} (is : z ≡ reads_timed l t w) (reads : z ≡ true) where
    pub tick-fits : Fits w32 t
    unfolding reads_timed
    tick-fits =
        let all = and_left (ltb t tick_limit && ltb w word_limit) (is_text l (timed_text t w)) (sym is ∙ reads) in
        record { fits = ltb-true t tick_limit (and_left (ltb t tick_limit) (ltb w word_limit) all) }

    pub word_fits : Fits w16 w
    unfolding reads_timed
    word_fits =
        let all = and_left (ltb t tick_limit && ltb w word_limit) (is_text l (timed_text t w)) (sym is ∙ reads) in
        record { fits = ltb-true w word_limit (and_right (ltb t tick_limit) (ltb w word_limit) all) }

-- the end
module _ (l : List ℕ) (t : ℕ) where
  pub end_reads : t < tick_limit → {z : Bool} → z ≡ is_text l (end_text t) → z ≡ reads_end l t
  unfolding reads_end
  end_reads h e = e ∙ rw (lt-ltb t tick_limit h)

  pub end_fits : {z : Bool} → z ≡ reads_end l t → z ≡ true → Fits w32 t
  unfolding reads_end
  end_fits is reads = record { fits = ltb-true t tick_limit (and_left (ltb t tick_limit) (is_text l (end_text t)) (sym is ∙ reads)) }

-- the line
module _ (l : List ℕ) {t w : ℕ} (tick : t ≡ tick_in l) (word : w ≡ word_in l) {z : Bool} (timed : z ≡ reads_timed l t w) where
  pub line_word : z ≡ true → Some (Word t w) ≡ line_of l
  unfolding line_of
  line_word e = rw (← tick, ← word, ← timed, e)

  module _ (plain : z ≡ false) {end : ℕ} (ends : end ≡ end_in l) {y : Bool} (last : y ≡ reads_end l end) where
    pub line-end : y ≡ true → Some (End end) ≡ line_of l
    unfolding line_of
    line-end e = rw (← tick, ← word, ← timed, plain, ← ends, ← last, e)

    pub line_other : y ≡ false → None ≡ line_of l
    unfolding line_of
    line_other e = rw (← tick, ← word, ← timed, plain, ← ends, ← last, e)
