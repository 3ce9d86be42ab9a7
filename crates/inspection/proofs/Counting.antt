-- The words of a list counted one after another.
-- Assumes nothing.
use mathlib.Core.Path.{◌≡◌, refl, sym, ap, ◌∙◌}
use mathlib.Core.Bool.{Bool, true, not, ◌&&◌}
use mathlib.Core.List.{List, [], ◌∷◌}
use Prim.Native.Nat.{ℕ, suc, ◌+◌, ◌≤◌, ◌<◌}
use native.Mathlib.Numerals.{add-one}
use native.Mathlib.Omega.{arith}
use lib.Dec.{ltb}
use lib.ListN.{length, get_or, drop, drop_of_length-le}
use lib.Seq.{drop-cons}
use Rattle.timed.specs.List.{is_list, most_words}
use Rattle.timed.proofs.Rising.{list-even, list-few}
use Rattle.head.specs.State.{power_on}
use Rattle.head.specs.Busy.{at_rest}
use Rattle.head.specs.Numbers.{is_cause}
use Rattle.head.specs.List.{stepped}
use Rattle.head.specs.declared.state.Head.{Head}
use Rattle.layout.proofs.Bits.{bit-few}
use Rattle.inspection.specs.Notes.{is_exposure}
use Rattle.inspection.specs.Rows.{number_of}
use Rattle.inspection.specs.Counts.{none, counted, counts_from, findings}
use Rattle.inspection.specs.declared.counts.Counts.{Counts}

-- no count is above i
pub record Few (c : Counts) (i : ℕ) : Type 0 where
  pub ignored : c.ignored ≤ i
  pub exposures : c.exposures ≤ i
  pub incomplete : c.incomplete ≤ i
  pub moving : c.moving ≤ i

few-counted : (c : Counts) (i n begun : ℕ) (rest : Bool) → Few c i → Few (counted c n begun rest) (i + 1)
unfolding counted
few-counted c i n begun rest h =
    record {
      ignored = omega (arith, h.ignored, bit-few (is_cause n));
      exposures = omega (arith, h.exposures, bit-few (is_exposure n));
      incomplete = omega (arith, h.incomplete, bit-few (is_exposure n && ltb 0 begun));
      moving = omega (arith, h.moving, bit-few (is_exposure n && not rest));
    }

-- what counts nothing
pub none-is : {c : Counts} → c.ignored ≡ 0 → c.exposures ≡ 0 → c.incomplete ≡ 0 → c.moving ≡ 0 → c ≡ none
none-is {c} a b d e =
    let r : record { ignored = c.ignored; exposures = c.exposures; incomplete = c.incomplete; moving = c.moving } ≡ none = rw (a, b, d, e) in r

-- the words from the ith on are left, which the head gets next
pub record Counting (ws ts : List ℕ) (c : Counts) (s : Head) (i : ℕ) : Type 0 where
  pub even : length ws ≡ length ts
  pub long : length ws ≤ most_words
  pub within : i ≤ length ws
  pub few : Few c i
  pub left : counts_from none ws ts power_on ≡ counts_from c (drop i ws) (drop i ts) s

module _ {ws ts : List ℕ} where
  pub counting-first : is_list ws ts ≡ true → {c : Counts} → c ≡ none → {s : Head} → s ≡ power_on → Counting ws ts c s 0
  counting-first fits zeros is =
      rw (zeros, is)
      (record {
        even = list-even ws ts fits;
        long = list-few ws ts fits;
        within = omega arith;
        few = record { ignored = omega arith; exposures = omega arith; incomplete = omega arith; moving = omega arith };
        left = refl;
      })

  module _ {c : Counts} {s : Head} {i : ℕ} (h : Counting ws ts c s i) where
    pub ignored-few : c.ignored ≤ 256
    ignored-few = let few = h.few.ignored in let within = h.within in let long = h.long in omega arith

    pub exposures-few : c.exposures ≤ 256
    exposures-few = let few = h.few.exposures in let within = h.within in let long = h.long in omega arith

    pub incomplete-few : c.incomplete ≤ 256
    incomplete-few = let few = h.few.incomplete in let within = h.within in let long = h.long in omega arith

    pub moving-few : c.moving ≤ 256
    moving-few = let few = h.few.moving in let within = h.within in let long = h.long in omega arith

    module _ (more : i < length ws) where
      next : counts_from c (drop i ws) (drop i ts) s
          ≡ counts_from (counted c (number_of s (get_or ws i 0)) s.begun.count (at_rest s)) (drop (i + 1) ws) (drop (i + 1) ts)
          (stepped s (get_or ws i 0) (get_or ts i 0) (drop (i + 1) ts))
      unfolding counts_from
      next =
          let more-ticks : i < length ts = let even = h.even in omega arith in
          rw (drop-cons ws i 0 more, drop-cons ts i 0 more-ticks, ← add-one i)

      pub counting-next : {d : Counts} → d ≡ counted c (number_of s (get_or ws i 0)) s.begun.count (at_rest s)
          → {z : Head} → z ≡ stepped s (get_or ws i 0) (get_or ts i 0) (drop (i + 1) ts)
          → Counting ws ts d z (i + 1)
      counting-next is after =
          rw (after, is)
          (record {
            even = h.even;
            long = h.long;
            within = omega arith;
            few = few-counted c i (number_of s (get_or ws i 0)) s.begun.count (at_rest s) h.few;
            left = h.left ∙ next;
          })

    pub counts_all : length ws ≤ i → c ≡ counts_from none ws ts power_on
    unfolding counts_from
    counts_all all = sym (h.left ∙ ap (λ (l : List ℕ). counts_from c l (drop i ts) s) (drop_of_length-le ws {i = i} all))

-- no count is above the number of words
few-more : (c : Counts) (i j : ℕ) → i ≤ j → Few c i → Few c j
few-more c i j h few =
    record {
      ignored = omega (arith, h, few.ignored);
      exposures = omega (arith, h, few.exposures);
      incomplete = omega (arith, h, few.incomplete);
      moving = omega (arith, h, few.moving);
    }

counts-few : (c : Counts) (i : ℕ) (ws ts : List ℕ) (s : Head) → Few c i → Few (counts_from c ws ts s) (i + length ws)
unfolding counts_from
counts-few c i [] ts s h = few-more c i (i + 0) (omega arith) h
counts-few c i (w ∷ ws) [] s h = few-more c i (i + suc (length ws)) (omega arith) h
counts-few c i (w ∷ ws) (t ∷ ts) s h =
    let d = counted c (number_of s w) s.begun.count (at_rest s) in
    let rest = counts-few d (i + 1) ws ts (stepped s w t ts) (few-counted c i (number_of s w) s.begun.count (at_rest s) h) in
    few-more (counts_from d ws ts (stepped s w t ts)) (i + 1 + length ws) (i + suc (length ws)) (omega arith) rest

pub findings-few : (ws ts : List ℕ) → is_list ws ts ≡ true → findings (counts_from none ws ts power_on) ≤ 768
unfolding findings
findings-few ws ts fits =
    let start : Few none 0 = record { ignored = omega arith; exposures = omega arith; incomplete = omega arith; moving = omega arith } in
    let few = counts-few none 0 ws ts power_on start in
    omega (arith, few.ignored, few.incomplete, few.moving, list-few ws ts fits)
