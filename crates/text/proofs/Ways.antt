-- The ways through `put_listing` and `list_plan`, by the answer of translation.
-- Assumes nothing.
use mathlib.Core.Path.{◌≡◌, refl, sym, ap, ◌∙◌}
use mathlib.Core.Bool.{Bool, true, false}
use mathlib.Core.List.{List}
use Prim.Native.Nat.{ℕ, ◌≤◌}
use native.Mathlib.Omega.{arith}
use lib.ListN.{length, take, drop, length-map}
use lib.Seq.{take_at}
use Rattle.head.specs.declared.state.Head.{Head}
use Rattle.orders.specs.Words.{items_of_all}
use Rattle.plan.specs.Stored.{Plan, orders, refused, plan_of}
use Rattle.plan.proofs.Accepted.{accepted-fit, accepted-few}
use Rattle.schedule.specs.Schedule.{Timed, schedule_from}
use Rattle.schedule.specs.Translate.{most_words, fit, schedule_of, answer_of_plan, translate_of, filled, tick_list, word_list, translated_number, translated_place, translation_number, translation_place}
use Rattle.std.specs.Prelude.{Result, Ok, Err}
use Rattle.schedule.specs.declared.Translation.{Translation}
use Rattle.schedule.specs.declared.TranslateError.{TranslateError}
use Rattle.schedule.proofs.Accepted.{accepted-schedule, accepted-done}
use Rattle.schedule.proofs.Numbered.{translation-number, translation-place}
use Rattle.schedule.proofs.Plans.{plan-count}
use Rattle.layout.specs.Written.{Written, Front}
use Rattle.layout.proofs.Writing.{written_is, written-front}
use Rattle.text.specs.Listing.{listing_of, plan_text, listing_number, listing_place, listed_by, listed_of, listed_after}
use Rattle.text.proofs.Fitting.{listing-fits}

listed-number : (t : Result Translation TranslateError) (n : ℕ) → listing_number (listed_by t n) ≡ translated_number t
unfolding listed_by
listed-number (Ok t) n = refl
listed-number (Err e) n = refl

listed-place : (t : Result Translation TranslateError) (n : ℕ) → listing_place (listed_by t n) ≡ translated_place t
unfolding listed_by
listed-place (Ok t) n = refl
listed-place (Err e) n = refl

module _ (s : Head) (bs : List ℕ) {r : Result ℕ TranslateError} (is : r ≡ listed_of s bs) where
  pub number-of : listing_number r ≡ translation_number s bs most_words most_words
  unfolding listed_of
  number-of =
      ap listing_number is ∙ listed-number (translate_of s bs most_words most_words) (length (plan_text s bs)) ∙ translation-number s bs most_words most_words

  pub place-of : listing_place r ≡ translation_place s bs
  unfolding listed_of
  place-of =
      ap listing_place is ∙ listed-place (translate_of s bs most_words most_words) (length (plan_text s bs)) ∙ translation-place s bs most_words most_words

-- what is known of a translation that is done
record Made (s : Head) (bs : List ℕ) (t : Translation) : Type 0 where
  fits : fit s ≡ true
  is : t ≡ record { count = length (schedule_of s (plan_of bs)).list; end = (schedule_of s (plan_of bs)).end }
  few : t.count ≤ most_words

made : (s : Head) (bs : List ℕ) {t : Translation} → Ok t ≡ translate_of s bs most_words most_words → Made s bs t
unfolding translate_of answer_of_plan
made s bs {t} is = go (fit s) refl (plan_of bs) refl
  where
    go : (f : Bool) → fit s ≡ f → (p : Plan) → plan_of bs ≡ p → Made s bs t
    go false h p k = cc (rw h at is)
    go true h (refused m q) k = cc (rw (h, k) at is)
    go true h (orders os) k =
        let done = is ∙ accepted-done s bs os h k most_words most_words (omega arith) (omega arith) in
        let same : t ≡ record { count = length (schedule_from s 0 (items_of_all os)).list; end = (schedule_from s 0 (items_of_all os)).end } = cc done in
        let count = ap (λ (u : Translation). u.count) same in
        record {
          fits = h;
          is = rw (accepted-schedule s bs os h k) same;
          few = omega (arith, count, plan-count s h os (accepted-fit bs os k) (accepted-few bs os k));
        }

module _ (s : Head) (bs : List ℕ) {r : Result Translation TranslateError} (is : r ≡ translate_of s bs most_words most_words) where
  module _ {f : TranslateError} (refusal : r ≡ Err f) where
    pub of-refused : Err f ≡ listed_of s bs
    unfolding listed_of listed_by
    of-refused = rw (← is, refusal)

    pub after-refused : (old : List ℕ) → old ≡ listed_after s bs old
    unfolding listed_after filled
    after-refused old = rw (← is, refusal)

  module _ {t : Translation} (done : r ≡ Ok t) where
    of-made : Made s bs t
    of-made = made s bs (sym done ∙ is)

    abbrev n : ℕ
    n = t.count

    abbrev e : ℕ
    e = t.end

    count : n ≡ length (schedule_of s (plan_of bs)).list
    count = ap (λ (u : Translation). u.count) of-made.is

    end : e ≡ (schedule_of s (plan_of bs)).end
    end = ap (λ (u : Translation). u.end) of-made.is

    pub done-few : (l : List ℕ) → length l ≡ most_words → n ≤ length l
    done-few l long = omega (arith, of-made.few)

    -- the first places of a list are the values that filled them
    first : (vs old new : List ℕ) → length vs ≡ n → new ≡ filled r vs old → take n new ≡ vs
    unfolding filled
    first vs old new long by = rw (by, done) (take_at vs (drop (length vs) old) n long)

    module _ (T₀ W₀ : List ℕ) {T W : List ℕ} (times : T ≡ filled r (tick_list (schedule_of s (plan_of bs))) T₀)
        (w : W ≡ filled r (word_list (schedule_of s (plan_of bs))) W₀) where
      done-text : plan_text s bs ≡ listing_of (take n T) (take n W) e
      unfolding plan_text
      done-text =
          let sch = schedule_of s (plan_of bs) in
          let ticks = first (tick_list sch) T₀ T (length-map sch.list (λ (x : Timed). x.tick) ∙ sym count) times in
          let words = first (word_list sch) W₀ W (length-map sch.list (λ (x : Timed). x.word) ∙ sym count) w in
          rw (ticks, words, end)

      module _ {old : List ℕ} {k : ℕ} {new : List ℕ} (h : Written old 0 (listing_of (take n T) (take n W) e) k new) (room : length old ≡ 8192) where
        front : Front old (plan_text s bs) k new
        front = written-front (written_is done-text h) (omega (arith, listing-fits s bs of-made.fits))

        pub of-done : Ok k ≡ listed_of s bs
        unfolding listed_of listed_by
        of-done = rw (← is, done, front.long)

        pub after-done : new ≡ listed_after s bs old
        unfolding listed_after filled
        after-done = front.bytes ∙ rw (← is, done, front.long)
