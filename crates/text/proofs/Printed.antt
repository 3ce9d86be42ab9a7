-- The ways through `listing`, by the answer of `list_plan`.
-- Assumes nothing.
use mathlib.Core.Path.{◌≡◌, refl, sym, ap, ◌∙◌}
use mathlib.Core.List.{List, ◌++◌}
use Prim.Native.Nat.{ℕ, ◌≤◌, ◌<◌, ◌^◌}
use native.Mathlib.Omega.{arith}
use borrow.Author.Tests.{lt-ltb, le-ltb}
use lib.ListN.{length, drop, length-append}
use lib.Seq.{length-take-le}
use Rattle.head.specs.State.{power_on}
use Rattle.head.specs.declared.state.Head.{Head}
use Rattle.schedule.specs.Translate.{most_words, translate_of, filled, translate_error_number, translate_error_place}
use Rattle.std.specs.Prelude.{Result, Ok, Err}
use Rattle.schedule.specs.declared.Translation.{Translation}
use Rattle.schedule.specs.declared.TranslateError.{TranslateError}
use Rattle.layout.specs.Numbers.{ascii}
use Rattle.layout.specs.Written.{Written, Front}
use Rattle.layout.proofs.Writing.{written-front}
use Rattle.text.specs.Lines.{refusal_line, too_long_line}
use Rattle.text.specs.Listing.{plan_text, listed_by, listed_of, listed_after, answer_text, printed_for}
use Rattle.text.proofs.Fitting.{refusal-front}

-- a text before what is left of a list stands at its front
front-is : (text old : List ℕ) {k : ℕ} → k ≡ length text → {new : List ℕ} → new ≡ text ++ drop (length text) old → Front old text k new
front-is text old {k} long {new} is =
    let within : k ≤ length new = omega (arith, ap length is, length-append text (drop (length text) old)) in
    record {
      long = long;
      bytes = is ∙ ap (λ (n : ℕ). text ++ drop n old) (sym long);
      counts = (within, sym (length-take-le k new within));
    }

-- a listing that is done stands at the front
pub listed-front : (s : Head) (bs : List ℕ) {k : ℕ} → Ok k ≡ listed_of s bs → (old : List ℕ) → Front old (plan_text s bs) k (listed_after s bs old)
unfolding listed_of listed_by listed_after filled
listed-front s bs {k} is old = go (translate_of s bs most_words most_words) refl
  where
    go : (t : Result Translation TranslateError) → translate_of s bs most_words most_words ≡ t → Front old (plan_text s bs) k (listed_after s bs old)
    go (Ok t) h = front-is (plan_text s bs) old (cc (rw h at is)) (rw h)
    go (Err e) h = cc (rw h at is)

-- of one that is refused nothing stands there
listed_kept : (s : Head) (bs : List ℕ) {f : TranslateError} → Err f ≡ listed_of s bs → (old : List ℕ) → listed_after s bs old ≡ old
unfolding listed_of listed_by listed_after filled
listed_kept s bs is old = go (translate_of s bs most_words most_words) refl
  where
    go : (t : Result Translation TranslateError) → translate_of s bs most_words most_words ≡ t → listed_after s bs old ≡ old
    go (Ok t) h = cc (rw h at is)
    go (Err e) h = rw h

-- the ways through `listing`, for the plan's bytes
module _ (bs old : List ℕ) where
  pub too_long : 4096 < length bs → length old ≡ 8192 → {k : ℕ} {new : List ℕ} → Written old 0 too_long_line k new → Front old (printed_for bs) k new
  unfolding printed_for too_long_line ascii
  too_long long room h = rw (lt-ltb 4096 (length bs) long) (written-front h (omega arith))

  module _ (few : length bs ≤ 4096) {r : Result ℕ TranslateError} (is : r ≡ listed_of power_on bs) {new : List ℕ} (after : new ≡ listed_after power_on bs old) where
    printed : printed_for bs ≡ answer_text r (plan_text power_on bs)
    unfolding printed_for
    printed = rw (le-ltb 4096 (length bs) few, is)

    pub printed-done : {k : ℕ} → r ≡ Ok k → Front old (printed_for bs) k new
    unfolding answer_text
    printed-done done = rw (printed, after, done) (listed-front power_on bs (sym done ∙ is) old)

    pub printed-refused : {f : TranslateError} {n p : ℕ} → r ≡ Err f → n ≡ translate_error_number f → p ≡ translate_error_place f → n < 2 ^ 8 → p < 2 ^ 64 → length new ≡ 8192 → {k : ℕ} {last : List ℕ}
        → Written new 0 (refusal_line n p) k last → Front old (printed_for bs) k last
    unfolding answer_text
    printed-refused refusal number place h j room line =
        let same = after ∙ listed_kept power_on bs (sym refusal ∙ is) old in
        rw (printed, refusal, ← number, ← place) (rw same at (refusal-front line h j room (omega arith)))
