-- The lines after the first, where nothing is refused.
-- Assumes nothing.
use mathlib.Core.Path.{◌≡◌, refl, sym, ap, ◌∙◌}
use mathlib.Core.Bool.{Bool, true, false, cond, true≢false}
use mathlib.Core.List.{List, [], ◌∷◌}
use Prim.Native.Nat.{ℕ, suc, ◌+◌, ◌≤◌}
use native.Mathlib.Omega.{arith}
use borrow.Author.Tests.{ltb-true, ltb-false, leb-true, leb-false}
use lib.Dec.{eqb, leb, ltb}
use Rattle.timed.specs.List.{most_words}
use Rattle.text.specs.Lines.{head_text}
use Rattle.import.specs.Line.{is_text, line_of}
use Rattle.import.specs.Read.{lines, begin, next, fault, with_word, with_end, by_line, judged, judged_all, read_of, import_of}
use Rattle.import.specs.declared.line.Line.{Line}
use Rattle.import.specs.declared.line.Line.TheVariants.{Word, End}
use Rattle.import.specs.declared.progress.Progress.{Progress}
use Rattle.import.proofs.Judging.{word-early, word-many, word-taken, end-early, end-taken, other-refused, judged-over, judged-after, judged-body}
use Rattle.import.proofs.Whole.{import-sound}
use Rattle.std.specs.Prelude.{Option, Some, None, Ok}
use Rattle.import.specs.declared.reasons.Reason.{Reason}
use Rattle.import.specs.declared.reasons.Reason.TheVariants.{NoHeadLine, AfterEnd}

-- the lines of n words from a least tick on; the end's may come last
pub data Listed : ℕ → ℕ → List (List ℕ) → Type 0 where
  none : {least : ℕ} → Listed 0 least []
  last : {least : ℕ} {l : List ℕ} {t : ℕ} → line_of l ≡ Some (End t) → least ≤ t → Listed 0 least (l ∷ [])
  word : {n least : ℕ} {l : List ℕ} {ls : List (List ℕ)} {t w : ℕ} → line_of l ≡ Some (Word t w) → least ≤ t → Listed n (t + 1) ls → Listed (suc n) least (l ∷ ls)

-- after a refusal nothing is read
over : (p : Progress) {r : Reason} (ls : List (List ℕ)) → p.refused ≡ Some r → judged_all p ls ≡ p
unfolding judged_all
over p [] h = refl
over p (l ∷ ls) h = ap (λ (q : Progress). judged_all q ls) (sym (judged-over p l h)) ∙ over p ls h

refuses : (p : Progress) {q : Progress} {r : Reason} (ls : List (List ℕ)) → fault p r ≡ q → (judged_all q ls).refused ≡ None → ⊥
refuses p {q} {r} ls is e =
    let read : (judged_all q ls).refused ≡ Some r =
    ap (λ (x : Progress). (judged_all x ls).refused) (sym is) ∙ ap (λ (x : Progress). x.refused) (over (fault p r) ls refl)
    in
    cc

-- what has been read where lines of words may follow
pub record Open (p : Progress) : Type 0 where
  pub sound : p.refused ≡ None
  pub later : p.line ≡ 0 → ⊥
  pub unended : p.ended ≡ false

pub open-word : {p : Progress} (t : ℕ) → Open p → Open (with_word (next p) t)
open-word t h = record { sound = h.sound; later = λ (e : _). omega arith; unended = h.unended }

pub judged-open : (p : Progress) (l : List ℕ) → Open p → {k : Option Line} → line_of l ≡ k → by_line (next p) k ≡ judged p l
judged-open p l h e = judged-body p l h.sound refl h.later h.unended (sym e) refl

-- the lines, and how many words they count
pub record Read (p : Progress) (ls : List (List ℕ)) : Type 0 where
  pub count : ℕ
  pub counts : (judged_all p ls).count ≡ p.count + count
  pub listed : Listed count p.least ls

pub body : (p : Progress) (ls : List (List ℕ)) → Open p → (judged_all p ls).refused ≡ None → Read p ls
unfolding judged_all
body p [] h e = record { count = 0; counts = omega arith; listed = none }
body p (l ∷ ls) h e = by (line_of l) refl (λ (q : Progress). body q ls)
  where
    word-lines : (t w : ℕ) → line_of l ≡ Some (Word t w) → ((q : Progress) → Open q → (judged_all q ls).refused ≡ None → Read q ls)
        → (a : Bool) → ltb t p.least ≡ a → (b : Bool) → leb most_words p.count ≡ b → Read p (l ∷ ls)
    word-lines t w is rest true x b y =
        let early = word-early (next p) refl (ltb-true t p.least x) refl ∙ judged-open p l h is in
        absurd (refuses (next p) ls early e)
    word-lines t w is rest false x true y =
        let many = word-many (next p) refl (ltb-false t p.least x) (leb-true most_words p.count y) refl ∙ judged-open p l h is in
        absurd (refuses (next p) ls many e)
    word-lines t w is rest false x false y =
        let rises = ltb-false t p.least x in
        let taken : with_word (next p) t ≡ judged p l =
        word-taken (next p) refl rises (leb-false most_words p.count y) ∙ judged-open p l h is
        in
        let after = rest (with_word (next p) t) (open-word t h) (ap (λ (q : Progress). (judged_all q ls).refused) taken ∙ e) in
        let same = ap (λ (q : Progress). (judged_all q ls).count) taken in
        let counts = after.counts in
        record { count = suc after.count; counts = omega arith; listed = word is rises after.listed }

    end_line_lem : (t : ℕ) → line_of l ≡ Some (End t) → (ms : List (List ℕ)) → (judged_all (judged p l) ms).refused ≡ None → (a : Bool) → ltb t p.least ≡ a
        → Read p (l ∷ ms)
    end_line_lem t is ms e true x =
        let early = end-early (next p) refl (ltb-true t p.least x) refl ∙ judged-open p l h is in
        absurd (refuses (next p) ms early e)
    end_line_lem t is [] e false x =
        let rises = ltb-false t p.least x in
        let taken : with_end (next p) ≡ judged p l = end-taken (next p) refl rises ∙ judged-open p l h is in
        let same = ap (λ (q : Progress). q.count) taken in
        record { count = 0; counts = omega arith; listed = last is rises }
    end_line_lem t is (m ∷ ms) e false x =
        let rises = ltb-false t p.least x in
        let taken : with_end (next p) ≡ judged p l = end-taken (next p) refl rises ∙ judged-open p l h is in
        let after : fault (next (with_end (next p))) AfterEnd ≡ judged (judged p l) m =
        judged-after (with_end (next p)) m h.sound refl (λ (z : _). omega arith) refl refl ∙ ap (λ (q : Progress). judged q m) taken
        in
        absurd (refuses (next (with_end (next p))) ms after e)

    by : (k : Option Line) → line_of l ≡ k → ((q : Progress) → Open q → (judged_all q ls).refused ≡ None → Read q ls) → Read p (l ∷ ls)
    by (Some (Word t w)) is rest = word-lines t w is rest (ltb t p.least) refl (leb most_words p.count) refl
    by (Some (End t)) is rest = end_line_lem t is ls e (ltb t p.least) refl
    by None is rest = absurd (refuses (next p) ls (other-refused (next p) refl refl ∙ judged-open p l h is) e)

-- a text that is read: the line that names the columns, and the others
pub record Accepted (text : List ℕ) (n : ℕ) : Type 0 where
  pub head : List ℕ
  pub rest : List (List ℕ)
  pub are : lines text ≡ head ∷ rest
  pub named : is_text head head_text ≡ true
  pub listed : Listed n 0 rest

pub accepted : (text : List ℕ) {n : ℕ} → import_of text ≡ Ok n → Accepted text n
unfolding read_of judged_all judged
accepted text {n} e =
    let s = import-sound text e in
    by (lines text) refl s.sound s.some s.counts
  where
    by : (ls : List (List ℕ)) → lines text ≡ ls → (judged_all begin ls).refused ≡ None → eqb (judged_all begin ls).line 0 ≡ false
        → n ≡ (judged_all begin ls).count → Accepted text n
    by [] is sound some counts = absurd (true≢false some)
    by (l ∷ ls) is sound some counts = go (is_text l head_text) refl sound counts
      where
        go : (z : Bool) → is_text l head_text ≡ z → (judged_all (cond z (next begin) (fault (next begin) NoHeadLine)) ls).refused ≡ None
            → n ≡ (judged_all (cond z (next begin) (fault (next begin) NoHeadLine)) ls).count → Accepted text n
        go false x e c = absurd (refuses (next begin) ls refl e)
        go true x e c =
            let start : Open (next begin) = record { sound = refl; later = λ (z : _). omega arith; unended = refl } in
            let r = body (next begin) ls start e in
            let all : r.count ≡ n = let counts = r.counts in omega arith in
            record { head = l; rest = ls; are = is; named = x; listed = rw all at r.listed }
