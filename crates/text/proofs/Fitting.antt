-- How long the lines are, and that a listing fits into 8,192 bytes.
-- Assumes nothing.
use mathlib.Core.Path.{◌≡◌, refl}
use mathlib.Core.Bool.{true}
use mathlib.Core.List.{List, [], ◌∷◌, map}
use Prim.Native.Nat.{ℕ, ◌+◌, ◌*◌, ◌^◌, ◌≤◌, ◌<◌}
use native.Mathlib.Omega.{arith}
use lib.ListN.{length, length-append}
use Rattle.head.specs.declared.state.Head.{Head}
use Rattle.orders.specs.Words.{items_of_all}
use Rattle.plan.specs.Stored.{Plan, orders, refused, plan_of}
use Rattle.plan.proofs.Accepted.{accepted-fit, accepted-few}
use Rattle.schedule.specs.Clock.{latest}
use Rattle.schedule.specs.Schedule.{Timed, Schedule, schedule_from, Rising}
use Rattle.schedule.specs.Translate.{fit, most_words, schedule_of}
use Rattle.schedule.proofs.Plans.{plan-rising, plan-count, plan-end}
use Rattle.layout.specs.Numbers.{ascii, hex_of}
use Rattle.layout.specs.Written.{Written, Front}
use Rattle.layout.proofs.Digits.{decimal-long}
use Rattle.layout.proofs.Writing.{written-front}
use Rattle.text.specs.Lines.{head_text, head_line, timed_text, word_line, word_lines, end_text, end_line, refusal_line}
use Rattle.text.specs.Listing.{listing_of, schedule_text, plan_text}

refusal-long : (n p : ℕ) → n < 2 ^ 8 → p < 2 ^ 64 → length (refusal_line n p) ≤ 64
unfolding refusal_line ascii
refusal-long n p h k = simp length-append (omega (arith, decimal-long 2 n (omega arith), decimal-long 19 p (omega arith)))

-- the line of a refusal at the front of a list with room for it
pub refusal-front : {l : List ℕ} {n p k : ℕ} {m : List ℕ} → Written l 0 (refusal_line n p) k m → n < 2 ^ 8 → p < 2 ^ 64
    → {size : ℕ} → length l ≡ size → 64 ≤ size → Front l (refusal_line n p) k m
refusal-front {n = n} {p = p} w h k size room = written-front w (omega (arith, refusal-long n p h k))

-- a tick up to the latest end has at most 7 digits
word-line-long : (t w : ℕ) → t ≤ latest → length (word_line t w) ≤ 13
unfolding word_line timed_text ascii hex_of
word-line-long t w h = simp length-append (omega (arith, decimal-long 6 t (omega arith)))

end-line-long : (end : ℕ) → end ≤ latest → length (end_line end) ≤ 12
unfolding end_line end_text ascii
end-line-long end h = simp length-append (omega (arith, decimal-long 6 end (omega arith)))

-- every tick is before the end
rising-ends : (t : ℕ) (l : List Timed) (end : ℕ) → Rising t l end → t ≤ end
rising-ends t [] end r = r
rising-ends t (x ∷ xs) end r = omega (arith, r.0, rising-ends (x.tick + 1) xs end r.1)

word-lines-long : (t : ℕ) (l : List Timed) (end : ℕ) → Rising t l end → end ≤ latest
    → length (word_lines (map (λ (x : Timed). x.tick) l) (map (λ (x : Timed). x.word) l)) ≤ 13 * length l
unfolding word_lines
word-lines-long t [] end r h = omega arith
word-lines-long t (x ∷ xs) end r h =
    let line = word-line-long x.tick x.word (omega (arith, rising-ends (x.tick + 1) xs end r.1)) in
    let rest = word-lines-long (x.tick + 1) xs end r.1 h in
    simp length-append (omega arith)

schedule-fits : (sch : Schedule) → Rising 0 sch.list sch.end → length sch.list ≤ most_words → sch.end ≤ latest
    → length (schedule_text sch) ≤ 8192
unfolding listing_of head_line head_text ascii
schedule-fits sch r few h =
    let lines = word-lines-long 0 sch.list sch.end r h in
    let last = end-line-long sch.end h in
    simp length-append (omega arith)

-- the listing of a plan for a head that is fit
pub listing-fits : (s : Head) (bs : List ℕ) → fit s ≡ true → length (plan_text s bs) ≤ 8192
unfolding plan_text schedule_of
listing-fits s bs h = go (plan_of bs) refl
  where
    go : (p : Plan) → plan_of bs ≡ p → length (plan_text s bs) ≤ 8192
    go (orders os) e =
        let all = accepted-fit bs os e in
        let few = accepted-few bs os e in
        rw e (schedule-fits (schedule_from s 0 (items_of_all os)) (plan-rising s h os all) (plan-count s h os all few) (plan-end s h os all few))
    go (refused n p) e = rw e (schedule-fits (record { list = []; end = 0 }) (omega arith) (omega arith) (omega arith))
