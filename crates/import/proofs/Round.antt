-- A listing reads as what was printed: its ticks and words, for every list that fits into a text, and for every plan that is translated.
-- Assumes nothing.
use mathlib.Core.Path.{◌≡◌, refl, sym, ap, ◌∙◌}
use mathlib.Core.Bool.{true}
use mathlib.Core.List.{List, [], ◌∷◌, ◌++◌, map, append_assoc}
use Prim.Native.Nat.{ℕ, suc, ◌+◌, ◌≤◌, ◌<◌}
use native.Mathlib.Omega.{arith}
use borrow.Author.Tests.{le-ltb}
use lib.ListN.{length, take, length-map}
use lib.Seq.{append_snoc}
use Rattle.timed.specs.List.{most_words}
use Rattle.head.specs.declared.state.Head.{Head}
use Rattle.orders.specs.Words.{items_of_all}
use Rattle.orders.specs.declared.order.Order.{Order}
use Rattle.plan.specs.Stored.{orders, plan_of}
use Rattle.plan.proofs.Accepted.{accepted-fit, accepted-few}
use Rattle.schedule.specs.Schedule.{Timed, Schedule, schedule_from, Rising}
use Rattle.schedule.specs.Translate.{fit, schedule_of, tick_list, word_list}
use Rattle.schedule.proofs.Plans.{plan-rising, plan-count, plan-end}
use Rattle.text.specs.Lines.{head_text, head_line, timed_text, word_line, word_lines, end_text, end_line}
use Rattle.text.specs.Listing.{listing_of, plan_text}
use Rattle.text.proofs.Fitting.{listing-fits}
use Rattle.layout.specs.Numbers.{ascii}
use Rattle.import.specs.Line.{tick_limit, line_of}
use Rattle.import.specs.Read.{most_bytes, lines, begin, next, with_word, with_end, judged, judged_all, read_of, answer_by, import_of, import_count, word_of, tick_of, word_lines_in, words_in, ticks_in}
use Rattle.import.specs.declared.line.Line.{Line}
use Rattle.import.specs.declared.progress.Progress.{Progress}
use Rattle.import.proofs.Judging.{word-taken, end-taken, judged-head, answer-done}
use Rattle.import.proofs.PlanWords.{Sixteen, plan-words}
use Rattle.import.proofs.Body.{Open, open-word, judged-open}
use Rattle.import.proofs.Printed.{same_text, timed-line, end_line_lem, plain-head, plain-timed, plain_end, lines-line}
use Rattle.std.specs.Prelude.{Option, Ok}

-- the ticks from t on rise strictly, and the last is before the end
abbrev pub RisingTo : ℕ → List ℕ → ℕ → Type 0
RisingTo t [] end = t ≤ end
RisingTo t (u ∷ ts) end = (t ≤ u) × RisingTo (u + 1) ts end

-- a text is read, with these words and ticks
pub record ReadsAs (text ws ts : List ℕ) : Type 0 where
  pub done : import_of text ≡ Ok (length ws)
  pub words : words_in text ≡ ws
  pub ticks : ticks_in text ≡ ts

-- the lines of a listing
abbrev texts : List ℕ → List ℕ → List (List ℕ)
texts [] ws = []
texts (t ∷ ts) [] = []
texts (t ∷ ts) (w ∷ ws) = timed_text t w ∷ texts ts ws

lines-words : (ts ws rest : List ℕ) → lines (word_lines ts ws ++ rest) ≡ texts ts ws ++ lines rest
unfolding word_lines word_line ascii
lines-words [] ws rest = refl
lines-words (t ∷ ts) [] rest = refl
lines-words (t ∷ ts) (w ∷ ws) rest =
    ap lines (append_assoc (word_line t w) (word_lines ts ws) rest ∙ append_snoc (timed_text t w) 10 (word_lines ts ws ++ rest))
    ∙ lines-line (timed_text t w) (plain-timed t w) (word_lines ts ws ++ rest)
    ∙ rw (lines-words ts ws rest)

lines_end : (end : ℕ) → lines (end_line end) ≡ end_text end ∷ []
unfolding end_line ascii lines
lines_end end = lines-line (end_text end) (plain_end end) []

lines-listing : (ts ws : List ℕ) (end : ℕ) → lines (listing_of ts ws end) ≡ head_text ∷ (texts ts ws ++ (end_text end ∷ []))
unfolding listing_of head_line ascii
lines-listing ts ws end =
    ap lines (append_assoc head_line (word_lines ts ws) (end_line end) ∙ append_snoc head_text 10 (word_lines ts ws ++ end_line end))
    ∙ lines-line head_text plain-head (word_lines ts ws ++ end_line end)
    ∙ rw (lines-words ts ws (end_line end), lines_end end)

-- every tick is before the end
rising-ends : (t : ℕ) (ts : List ℕ) (end : ℕ) → RisingTo t ts end → t ≤ end
rising-ends t [] end r = r
rising-ends t (u ∷ ts) end r = omega (arith, r.0, rising-ends (u + 1) ts end r.1)

-- the lines after the first, judged
all-judged : (p : Progress) (ts ws : List ℕ) (end : ℕ) → Open p → length ts ≡ length ws → p.count + length ws ≤ most_words → Sixteen ws
    → RisingTo p.least ts end → end < tick_limit → answer_by (judged_all p (texts ts ws ++ (end_text end ∷ []))) ≡ Ok (p.count + length ws)
unfolding judged_all
all-judged p [] [] end o same few small rises h =
    let taken : with_end (next p) ≡ judged p (end_text end) = end-taken (next p) refl rises ∙ judged-open p (end_text end) o (end_line_lem end h) in
    let n : p.count ≡ p.count + 0 = omega arith in
    ap answer_by (sym taken) ∙ sym (answer-done (with_end (next p)) o.sound (λ (e : _). omega arith)) ∙ ap Ok n
all-judged p [] (w ∷ ws) end o same few small rises h = absurd (omega arith)
all-judged p (t ∷ ts) [] end o same few small rises h = absurd (omega arith)
all-judged p (t ∷ ts) (w ∷ ws) end o same few small rises h =
    let before : t < tick_limit = omega (arith, rising-ends (t + 1) ts end rises.1) in
    let taken : with_word (next p) t ≡ judged p (timed_text t w) =
    word-taken (next p) refl rises.0 (omega arith) ∙ judged-open p (timed_text t w) o (timed-line t w before small.0)
    in
    let n : p.count + 1 + length ws ≡ p.count + suc (length ws) = omega arith in
    ap (λ (q : Progress). answer_by (judged_all q (texts ts ws ++ (end_text end ∷ [])))) (sym taken)
    ∙ all-judged (with_word (next p) t) ts ws end (open-word t o) (omega arith) (omega arith) small.1 rises.1 h
    ∙ ap Ok n

-- the numbers of the lines
words_back : (ts ws : List ℕ) (rest : List (List ℕ)) (t end : ℕ) → length ts ≡ length ws → Sixteen ws → RisingTo t ts end → end < tick_limit
    → map word_of (map line_of (take (length ws) (texts ts ws ++ rest))) ≡ ws
words_back [] [] rest t end same small rises h = refl
words_back [] (w ∷ ws) rest t end same small rises h = absurd (omega arith)
words_back (u ∷ ts) [] rest t end same small rises h = absurd (omega arith)
words_back (u ∷ ts) (w ∷ ws) rest t end same small rises h =
    let before : u < tick_limit = omega (arith, rising-ends (u + 1) ts end rises.1) in
    rw (timed-line u w before small.0, words_back ts ws rest (u + 1) end (omega arith) small.1 rises.1 h)

ticks-back : (ts ws : List ℕ) (rest : List (List ℕ)) (t end : ℕ) → length ts ≡ length ws → Sixteen ws → RisingTo t ts end → end < tick_limit
    → map tick_of (map line_of (take (length ws) (texts ts ws ++ rest))) ≡ ts
ticks-back [] [] rest t end same small rises h = refl
ticks-back [] (w ∷ ws) rest t end same small rises h = absurd (omega arith)
ticks-back (u ∷ ts) [] rest t end same small rises h = absurd (omega arith)
ticks-back (u ∷ ts) (w ∷ ws) rest t end same small rises h =
    let before : u < tick_limit = omega (arith, rising-ends (u + 1) ts end rises.1) in
    rw (timed-line u w before small.0, ticks-back ts ws rest (u + 1) end (omega arith) small.1 rises.1 h)

module _ (ts ws : List ℕ) (end : ℕ) (same : length ts ≡ length ws) (few : length ws ≤ most_words) (small : Sixteen ws) (rises : RisingTo 0 ts end)
    (h : end < tick_limit) (fits : length (listing_of ts ws end) ≤ most_bytes) where
  listing-done : import_of (listing_of ts ws end) ≡ Ok (length ws)
  unfolding import_of read_of judged_all
  listing-done =
      let start : Open (next begin) = record { sound = refl; later = λ (e : _). omega arith; unended = refl } in
      let head : next begin ≡ judged begin head_text = judged-head begin head_text refl refl refl (same_text head_text) in
      let n : 0 + length ws ≡ length ws = omega arith in
      rw (le-ltb most_bytes (length (listing_of ts ws end)) fits, lines-listing ts ws end)
      (ap (λ (q : Progress). answer_by (judged_all q (texts ts ws ++ (end_text end ∷ [])))) (sym head)
      ∙ all-judged (next begin) ts ws end start same (omega arith) small rises h
      ∙ ap Ok n)

  listing-numbers : (f : Option Line → ℕ) → map f (word_lines_in (import_count (import_of (listing_of ts ws end))) (listing_of ts ws end))
      ≡ map f (map line_of (take (length ws) (texts ts ws ++ (end_text end ∷ []))))
  unfolding word_lines_in
  listing-numbers f = rw (listing-done, lines-listing ts ws end)

  pub listing-read : ReadsAs (listing_of ts ws end) ws ts
  unfolding words_in ticks_in
  listing-read =
      record {
        done = listing-done;
        words = listing-numbers word_of ∙ words_back ts ws (end_text end ∷ []) 0 end same small rises h;
        ticks = listing-numbers tick_of ∙ ticks-back ts ws (end_text end ∷ []) 0 end same small rises h;
      }

schedule-ticks : (t : ℕ) (l : List Timed) (end : ℕ) → Rising t l end → RisingTo t (map (λ (x : Timed). x.tick) l) end
schedule-ticks t [] end r = r
schedule-ticks t (x ∷ xs) end r = (r.0, schedule-ticks (x.tick + 1) xs end r.1)

-- the listing of a plan, for a head that is fit
pub plan-read : (s : Head) (bs : List ℕ) {os : List Order} → plan_of bs ≡ orders os → fit s ≡ true
    → ReadsAs (plan_text s bs) (word_list (schedule_of s (plan_of bs))) (tick_list (schedule_of s (plan_of bs)))
unfolding plan_text schedule_of
plan-read s bs {os} e h =
    let all = accepted-fit bs os e in
    let few = accepted-few bs os e in
    let sch : Schedule = schedule_from s 0 (items_of_all os) in
    let long : length (tick_list sch) ≡ length (word_list sch) = rw (length-map sch.list, length-map sch.list) in
    let count : length (word_list sch) ≤ most_words = rw (length-map sch.list) (plan-count s h os all few) in
    let ends = plan-end s h os all few in
    let fits : length (listing_of (tick_list sch) (word_list sch) sch.end) ≤ most_bytes = rw e at (listing-fits s bs h) in
    rw e
    (listing-read (tick_list sch) (word_list sch) sch.end long count (plan-words s os all)
    (schedule-ticks 0 sch.list sch.end (plan-rising s h os all)) (omega arith) fits)
