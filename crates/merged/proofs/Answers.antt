-- Two texts merged: there is room for every text that is made, and the ways through `merge_texts`.
-- Assumes nothing.
use mathlib.Core.Path.{◌≡◌, refl, sym, ap, ◌∙◌}
use mathlib.Core.Bool.{Bool, true, false, cond, not}
use mathlib.Core.List.{List, ◌++◌}
use Prim.Native.Nat.{ℕ, ◌+◌, ◌≤◌}
use native.Mathlib.Omega.{arith}
use lib.Dec.{eqb}
use lib.ListN.{length, take, drop, length-append, length-take}
use lib.Seq.{length-take-le}
use Rattle.layout.specs.Numbers.{ascii}
use Rattle.layout.specs.Written.{Front}
use Rattle.text.specs.Lines.{head_text, head_line}
use Rattle.std.specs.Prelude.{Result, Ok, Err}
use Rattle.import.specs.Read.{most_bytes, import_of, import_error_number, import_error_line, import_number, import_count}
use Rattle.import.specs.declared.reasons.Reason.TheVariants.{NoHeadLine, NoWordLine, NotRising, TooManyWords, AfterEnd, TooLong}
use Rattle.import.specs.declared.reasons.ImportError.{ImportError}
use Rattle.import.specs.declared.reasons.ImportError.TheVariants.{Refused, Short}
use Rattle.import.proofs.Places.{import-place}
use Rattle.merge.specs.Merge.{merge, share_tick}
use Rattle.merged.specs.Text.{entries_in, entry_lines, merge_text, merged_text, longest, Mergeable, merged_by, unread_or, merged_texts_of, merged_texts_number, merge_texts_number, text_after}
use Rattle.merged.specs.declared.printed.MergeTextsError.{MergeTextsError}
use Rattle.merged.specs.declared.printed.MergeTextsError.TheVariants.{Unread, SameTick}
use Rattle.merged.proofs.EntriesRead.{entries-count, read-few, entries-rise, entries-short}
use Rattle.merged.proofs.Merges.{merge-lines}

-- two texts that are lists
module _ (x y : List ℕ) {n m : ℕ} (first : import_of x ≡ Ok n) (second : import_of y ≡ Ok m) where
  pub merged-fits : length (merged_text x y) ≤ longest
  unfolding merged_text merge_text head_line head_text ascii
  merged-fits =
      omega (
        arith,
        length-append head_line (entry_lines (merge (entries_in x) (entries_in y))),
        merge-lines (entries_in x) (entries_in y),
        entries-short x first,
        entries-short y second,
        read-few x first,
        read-few y second,
      )

  pub mergeable : Mergeable (entries_in x) (entries_in y)
  unfolding merged_text
  mergeable =
      record {
        ccd-rises = entries-rise x first;
        infrared-rises = entries-rise y second;
        few = omega (arith, entries-count x first, entries-count y second, read-few x first, read-few y second);
        fits = merged-fits;
      }

-- a refusal's number is not 0
some-number : (e : ImportError) → eqb (import_error_number e) 0 ≡ false
some-number (Refused NoHeadLine l) = refl
some-number (Refused NoWordLine l) = refl
some-number (Refused NotRising l) = refl
some-number (Refused TooManyWords l) = refl
some-number (Refused AfterEnd l) = refl
some-number (Refused TooLong l) = refl
some-number (Short n) = refl

-- the number of an answer is that of the texts
pub texts-number : (x y : List ℕ) {r : Result ℕ MergeTextsError} → r ≡ merged_texts_of x y → merged_texts_number r ≡ merge_texts_number x y
unfolding merged_texts_of merged_by merged_texts_number merge_texts_number
texts-number x y e = rw e (go (import_of x) (import_of y) (share_tick (entries_in x) (entries_in y)))
  where
    go : (a b : Result ℕ ImportError) (c : Bool)
        → merged_texts_number (unread_or 0 a (unread_or 1 b (cond c (Err SameTick) (Ok (length (merge_text (entries_in x) (entries_in y)))))))
        ≡ cond (not (eqb (import_number a) 0)) (import_number a) (cond (not (eqb (import_number b) 0)) (import_number b) (cond c 53 0))
    go (Err e) b c = rw (some-number e)
    go (Ok n) (Err e) c = rw (some-number e)
    go (Ok n) (Ok m) true = refl
    go (Ok n) (Ok m) false = refl

-- a text that is no list
module _ (x y : List ℕ) {e : ImportError} where
  pub first-unread : Err e ≡ import_of x → Err (Unread 0 e) ≡ merged_texts_of x y
  unfolding merged_texts_of
  first-unread is = rw (← is)

  pub second-unread : {n : ℕ} → Ok n ≡ import_of x → Err e ≡ import_of y → Err (Unread 1 e) ≡ merged_texts_of x y
  unfolding merged_texts_of
  second-unread first is = rw (← first, ← is)

-- the first places of an array
module _ (x : List ℕ) {n : ℕ} (read : Ok n ≡ import_of x) (L : List ℕ) (list : take n L ≡ entries_in x) where
  pub count_long : n ≡ length (take n L)
  count_long = sym (ap length list ∙ entries-count x (sym read))

  pub count-few : n ≤ length L
  count-few = omega (arith, count_long, length-take n L)

-- two texts that are read into arrays
module _ (x y : List ℕ) {n : ℕ} (first : Ok n ≡ import_of x) (L : List ℕ) (list : take n L ≡ entries_in x) {m : ℕ} (second : Ok m ≡ import_of y)
    (K : List ℕ) (list' : take m K ≡ entries_in y) where
  pub lists-mergeable : Mergeable (take n L) (take m K)
  lists-mergeable = rw (list, list') (mergeable x y (sym first) (sym second))

  pub merged-answer : {r : Result ℕ MergeTextsError} → r ≡ merged_by (take n L) (take m K) → r ≡ merged_texts_of x y
  unfolding merged_texts_of
  merged-answer e = rw (← first, ← second) (e ∙ rw (list, list'))

  pub merged-after : (r : Result ℕ MergeTextsError) (old : List ℕ) {new : List ℕ} → new ≡ text_after r (merge_text (take n L) (take m K)) old
      → new ≡ text_after r (merged_text x y) old
  unfolding merged_text
  merged-after r old e = rw (list, list') at e

-- the answers by cases: a text that is no list, a tick in both, or two lists merged
data Answered (x y : List ℕ) : Result ℕ MergeTextsError → Type 0 where
  no-ccd : {e : ImportError} → import_of x ≡ Err e → Answered x y (Err (Unread 0 e))
  no-infrared : {e : ImportError} → import_of y ≡ Err e → Answered x y (Err (Unread 1 e))
  shared : Answered x y (Err SameTick)
  both : {n m : ℕ} → import_of x ≡ Ok n → import_of y ≡ Ok m → Answered x y (Ok (length (merged_text x y)))

answered : (x y : List ℕ) {r : Result ℕ MergeTextsError} → r ≡ merged_texts_of x y → Answered x y r
unfolding merged_texts_of merged_by merged_text
answered x y e = rw e (go (import_of x) refl (import_of y) refl (share_tick (entries_in x) (entries_in y)))
  where
    go : (a : Result ℕ ImportError) → import_of x ≡ a → (b : Result ℕ ImportError) → import_of y ≡ b → (c : Bool)
        → Answered x y
        (unread_or 0 a (unread_or 1 b (cond c (Err SameTick) (Ok (length (merge_text (entries_in x) (entries_in y)))))))
    go (Err e) p b q c = no-ccd p
    go (Ok n) p (Err e) q c = no-infrared q
    go (Ok n) p (Ok m) q true = shared
    go (Ok n) p (Ok m) q false = both p q

record Made (x y : List ℕ) (n : ℕ) : Type 0 where
  long : n ≡ length (merged_text x y)
  fits : length (merged_text x y) ≤ longest

made_of : {x y : List ℕ} {r : Result ℕ MergeTextsError} → Answered x y r → {n : ℕ} → r ≡ Ok n → Made x y n
made_of (no-ccd p) e = absurd (cc)
made_of (no-infrared p) e = absurd (cc)
made_of shared e = absurd (cc)
made_of {x} {y} (both p q) e = record { long = cc; fits = merged-fits x y p q }

line-few : (x : List ℕ) (e : ImportError) → import_of x ≡ Err e → import_error_line e ≤ most_bytes + 1
line-few x (Refused r l) is = import-place x is
line-few x (Short n) is = omega arith

record Told (g : ℕ) (e : ImportError) : Type 0 where
  list : g ≤ 1
  line : import_error_line e ≤ most_bytes + 1

told_of : {x y : List ℕ} {r : Result ℕ MergeTextsError} → Answered x y r → {g : ℕ} {e : ImportError} → r ≡ Err (Unread g e) → Told g e
told_of {x} (no-ccd {e = f} p) {g} {e} is =
    let list : g ≡ 0 = cc in
    let same : f ≡ e = cc in
    record { list = omega arith; line = rw (← same) (line-few x f p) }
told_of {y = y} (no-infrared {e = f} p) {g} {e} is =
    let list : g ≡ 1 = cc in
    let same : f ≡ e = cc in
    record { list = omega arith; line = rw (← same) (line-few y f p) }
told_of shared is = absurd (cc)
told_of (both p q) is = absurd (cc)

-- what an answer says
module _ (x y : List ℕ) {r : Result ℕ MergeTextsError} (is : r ≡ merged_texts_of x y) where
  module _ {n : ℕ} (done : r ≡ Ok n) where
    made : Made x y n
    made = made_of (answered x y is) done

    pub merged-small : length (merged_text x y) ≤ longest
    merged-small = made.fits

    -- the text stands at the front
    pub merged-front : (m : List ℕ) {new : List ℕ} → new ≡ text_after r (merged_text x y) m → Front m (merged_text x y) n new
    unfolding text_after
    merged-front m {new} after =
        let text = merged_text x y in
        let bytes : new ≡ text ++ drop (length text) m = after ∙ rw done in
        let within : n ≤ length new = omega (arith, made.long, ap length bytes, length-append text (drop (length text) m)) in
        record {
          long = made.long;
          bytes = bytes ∙ ap (λ (k : ℕ). text ++ drop k m) (sym made.long);
          counts = (within, sym (length-take-le n new within));
        }

  module _ {g : ℕ} {e : ImportError} (unread : r ≡ Err (Unread g e)) where
    pub unread-list : g ≤ 1
    unread-list = (told_of (answered x y is) unread).list

    pub unread-line : import_error_line e ≤ most_bytes + 1
    unread-line = (told_of (answered x y is) unread).line
