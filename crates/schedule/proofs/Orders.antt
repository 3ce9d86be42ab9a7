-- The words of an order that is known and fits: their kinds and data, which are allowed and in turn whatever mirror set was begun.
-- Assumes nothing.
use mathlib.Core.Path.{◌≡◌, refl}
use mathlib.Core.Bool.{Bool, true, false, cond, ◌&&◌, ◌||◌}
use mathlib.Core.List.{List, [], ◌∷◌, ◌++◌}
use Prim.Native.Nat.{ℕ, suc, ◌+◌, ◌-◌, ◌/◌, ◌%◌, ◌≤◌}
use native.Mathlib.Omega.{arith}
use native.Mathlib.Decide.{ℕ_discrete}
use borrow.Author.Tests.{leb-true, le-leb, ltb-true, ltb-false}
use lib.Dec.{leb, ltb, eqb, leb-zero}
use Rattle.words.specs.Fields.{switched, cover_bits, steps}
use Rattle.words.specs.Kinds as kind
use Rattle.words.specs.Kinds.{rows as kind_rows, least, greatest, allowed, most_steps}
use Rattle.words.specs.Codec.{word_of}
use Rattle.words.proofs.Tests.{and_left, and_right}
use Rattle.head.specs.Word.{out_of_turn}
use Rattle.orders.specs.Codes as code
use Rattle.orders.specs.Codes.{Range, rows, row_of, known, within, related, fields_of, fields_fit, fit}
use Rattle.orders.specs.Words.{Item, send, sine_register, switch_data, words_of, items_of, items_of_all}
use Rattle.orders.specs.declared.order.Order.{Order}
use Rattle.plan.proofs.Accepted.{AllFit}
use Rattle.schedule.proofs.InTurn.{Step, word, wait, InTurn, empty, given, paused, count_after, in-turn-append}

-- a property of every code
module _ (P : ℕ → Type 0) where
  up_to : (m n : ℕ) → (n ≤ m → P n) → P (suc m) → n ≤ suc m → P n
  up_to m n below p h = go (ℕ_discrete n (suc m))
    where
      go : Dec (n ≡ suc m) → P n
      go (yes e) = rw e p
      go (no e) = below (omega arith)

  pub by_code : P 1 → P 2 → P 3 → P 4 → P 5 → P 6 → P 7 → P 8 → P 9 → P 10 → P 11 → P 12 → P 13 → P 14 → P 15 → P 16 → P 17 → (n : ℕ)
      → known n ≡ true → P n
  unfolding known
  by_code p1 p2 p3 p4 p5 p6 p7 p8 p9 p10 p11 p12 p13 p14 p15 p16 p17 n h =
      let most = leb-true n 17 (and_right (leb 1 n) (leb n 17) h) in
      let some = leb-true 1 n (and_left (leb 1 n) (leb n 17) h) in
      let none : n ≤ 0 → P n = λ z. absurd (omega arith) in
      up_to 16 n
      (up_to 15 n
      (up_to 14 n
      (up_to 13 n
      (up_to 12 n
      (up_to 11 n
      (up_to 10 n
      (up_to 9 n
      (up_to 8 n
      (up_to 7 n (up_to 6 n (up_to 5 n (up_to 4 n (up_to 3 n (up_to 2 n (up_to 1 n (up_to 0 n none p1) p2) p3) p4) p5) p6) p7) p8)
      p9)
      p10)
      p11)
      p12)
      p13)
      p14)
      p15)
      p16)
      p17
      most

-- what the ranges of the fields say
abbrev pub Within : List Range → List ℕ → Type 0
Within [] vs = Unit {0}
Within (r ∷ rs) [] = ⊥
Within (r ∷ rs) (v ∷ vs) = (r.least ≤ v) × (v ≤ r.greatest) × Within rs vs

within-bounds : (rs : List Range) (vs : List ℕ) → within rs vs ≡ true → Within rs vs
unfolding within
within-bounds [] vs h = tt
within-bounds (r ∷ rs) [] h = absurd (mathlib.Core.Bool.false≢true h)
within-bounds (r ∷ rs) (v ∷ vs) h =
    let a = leb r.least v in
    let b = leb v r.greatest in
    let c = within rs vs in
    let ab = and_left (a && b) c h in
    (leb-true r.least v (and_left a b ab), leb-true v r.greatest (and_right a b ab), within-bounds rs vs (and_right (a && b) c h))

module _ (o : Order) (h : fields_fit o ≡ true) where
  pub fields : Within (unfold rows in (row_of o.code).fields) (fields_of o)
  unfolding fields_fit
  fields = within-bounds (row_of o.code).fields (fields_of o) (and_left (within (row_of o.code).fields (fields_of o)) (related o) h)

  pub relation : related o ≡ true
  unfolding fields_fit
  relation = and_right (within (row_of o.code).fields (fields_of o)) (related o) h

-- an order of which the code is known
abbrev pub order : ℕ → ℕ → ℕ → ℕ → ℕ → Order
order n a b c d = record { code = n; a = a; b = b; c = c; d = d }

-- a property of every order that is known and fits, and of its words
pub record ByOrder (P : Order → List Step → Type 0) : Type 0 where
  pub vdetcom : (a b c d : ℕ) → P (order code.vdetcom a b c d) (word kind.vdetcom_m (a / 256) ∷ word kind.vdetcom_l (a % 256) ∷ [])
  pub vdetadj : (a b c d : ℕ) → P (order code.vdetadj a b c d) (word kind.vdetadj_m (a / 256) ∷ word kind.vdetadj_l (a % 256) ∷ [])
  pub ir_times : (a b c d : ℕ) → P (order code.ir_times a b c d) (word kind.ir_delay a ∷ word kind.ir_expo b ∷ [])
  pub ccd_times : (a b c d : ℕ) → P (order code.ccd_times a b c d) (word kind.ccd_delay a ∷ word kind.ccd_expo b ∷ [])
  pub window_mode : (a b c d : ℕ) → P (order code.window_mode a b c d) (word kind.ir_win_mode a ∷ [])
  pub window : (a b c d : ℕ)
      → P (order code.window a b c d) (word kind.win_x1 a ∷ word kind.win_y1 b ∷ word kind.win_x2 c ∷ word kind.win_y2 d ∷ [])
  pub detector : (a b c d : ℕ) → P (order code.detector a b c d) (word kind.ir_detector a ∷ [])
  pub ccd_lamp : (a b c d : ℕ) → P (order code.ccd_lamp a b c d) (word kind.ccd_lamp (switched a b) ∷ [])
  pub ir_lamp : (a b c d : ℕ) → P (order code.ir_lamp a b c d) (word kind.ir_lamp (switched a b) ∷ [])
  pub shutter : (a b c d : ℕ) → P (order code.shutter a b c d) (word kind.shutter (switched a b) ∷ [])
  pub annealing : (a b c d : ℕ) → P (order code.annealing a b c d) (word kind.annealing (switched a b) ∷ [])
  pub mirror : (a b c d : ℕ)
      → P (order code.mirror a b c d)
      (word kind.sin_m (sine_register a / 256) ∷ word kind.sin_l (sine_register a % 256) ∷ word kind.cos_m (b / 256) ∷ word kind.cos_l (b % 256) ∷ [])
  pub motor : (a b c d : ℕ) → P (order code.motor a b c d) (word kind.switch (switch_data a) ∷ [])
  pub cover : (a b c d : ℕ) → a ≤ 1 → b ≤ 1 → c ≤ 1 → d ≤ most_steps
      → P (order code.cover a b c d) (word kind.cover (cover_bits a b c d) ∷ [])
  pub expose : (a b c d : ℕ) → P (order code.expose a b c d) (word kind.start 0 ∷ [])
  pub housekeeping : (a b c d : ℕ) → P (order code.housekeeping a b c d) (word kind.hk 0 ∷ [])
  pub wait : (a b c d : ℕ) → a ≤ 65535 → P (order code.wait a b c d) (wait a ∷ [])

-- what items mean, whatever mirror set was begun: steps with a property
pub record Meant (is : List Item) (P : List Step → Type 0) : Type 0 where
  pub steps : List Step
  pub turn : (c : ℕ) → InTurn c is steps
  pub holds : P steps

-- data from the least to the greatest of a kind other than COVER
fine : (k d : ℕ) → least k ≤ d → d ≤ greatest k → eqb k kind.cover ≡ false → allowed k d ≡ true
unfolding allowed
fine k d lo hi e = rw (le-leb (least k) d lo, le-leb d (greatest k) hi, e)

fine-cover : (d : ℕ) → d ≤ 1023 → steps d ≤ most_steps → allowed kind.cover d ≡ true
unfolding allowed least greatest kind_rows
fine-cover d hi st = rw (leb-zero d, le-leb d 1023 hi, le-leb (steps d) most_steps st)

say : {c : ℕ} {is : List Item} {ms : List Step} (k d : ℕ) → (least k ≤ d) × (d ≤ greatest k) → eqb k kind.cover ≡ false
    → out_of_turn c k ≡ false → InTurn (count_after c k) is ms → InTurn c (send (word_of k d) ∷ is) (word k d ∷ ms)
say k d h e turn r = given k d (fine k d h.0 h.1 e) turn r

sine-most : (a : ℕ) → a ≤ 65535 → (leb a 4095 || leb 61441 a) ≡ true → sine_register a ≤ 8191
unfolding sine_register
sine-most a m h = go (ltb a 32768) refl (leb a 4095) refl
  where
    go : (x : Bool) → ltb a 32768 ≡ x → (y : Bool) → leb a 4095 ≡ y → cond x a (4096 + (65536 - a)) ≤ 8191
    go true e true f = let l = leb-true a 4095 f in omega arith
    go true e false f = let l = leb-true 61441 a (rw f at h) in let g = ltb-true a 32768 e in absurd (omega arith)
    go false e true f = let l = leb-true a 4095 f in let g = ltb-false a 32768 e in absurd (omega arith)
    go false e false f = let l = leb-true 61441 a (rw f at h) in omega arith

module _ (P : Order → List Step → Type 0) (p : ByOrder P) where
  module _ (a b c d : ℕ) where
    abbrev Of : ℕ → Type 0
    Of n = fields_fit (order n a b c d) ≡ true → Meant (items_of (order n a b c d)) (P (order n a b c d))

    meant : {is : List Item} {Q : List Step → Type 0} {ms : List Step} → ((n : ℕ) → InTurn n is ms) → Q ms → Meant is Q
    meant {ms = ms} t q = record { steps = ms; turn = t; holds = q }

    by-fields : (n : ℕ) → known n ≡ true → Of n
    unfolding items_of words_of rows least greatest kind_rows out_of_turn count_after related
    by-fields =
        by_code Of
        (λ h. let f = fields (order code.vdetcom a b c d) h in
        meant
        (λ n. say kind.vdetcom_m (a / 256) (omega arith) refl refl
        (say kind.vdetcom_l (a % 256) (omega arith) refl refl empty))
        (p.vdetcom a b c d))
        (λ h. let f = fields (order code.vdetadj a b c d) h in
        meant
        (λ n. say kind.vdetadj_m (a / 256) (omega arith) refl refl
        (say kind.vdetadj_l (a % 256) (omega arith) refl refl empty))
        (p.vdetadj a b c d))
        (λ h. let f = fields (order code.ir_times a b c d) h in
        meant
        (λ n. say kind.ir_delay a (omega arith) refl refl
        (say kind.ir_expo b (omega arith) refl refl empty))
        (p.ir_times a b c d))
        (λ h. let f = fields (order code.ccd_times a b c d) h in
        meant
        (λ n. say kind.ccd_delay a (omega arith) refl refl
        (say kind.ccd_expo b (omega arith) refl refl empty))
        (p.ccd_times a b c d))
        (λ h. let f = fields (order code.window_mode a b c d) h in
        meant
        (λ n. say kind.ir_win_mode a (omega arith) refl refl empty)
        (p.window_mode a b c d))
        (λ h. let f = fields (order code.window a b c d) h in
        meant
        (λ n. say kind.win_x1 a (omega arith) refl refl
        (say kind.win_y1 b (omega arith) refl refl
        (say kind.win_x2 c (omega arith) refl refl
        (say kind.win_y2 d (omega arith) refl refl empty))))
        (p.window a b c d))
        (λ h. let f = fields (order code.detector a b c d) h in
        meant
        (λ n. say kind.ir_detector a (omega arith) refl refl empty)
        (p.detector a b c d))
        (λ h. let f = fields (order code.ccd_lamp a b c d) h in
        meant
        (λ n. say kind.ccd_lamp (switched a b) (omega arith) refl refl empty)
        (p.ccd_lamp a b c d))
        (λ h. let f = fields (order code.ir_lamp a b c d) h in
        meant
        (λ n. say kind.ir_lamp (switched a b) (omega arith) refl refl empty)
        (p.ir_lamp a b c d))
        (λ h. let f = fields (order code.shutter a b c d) h in
        meant
        (λ n. say kind.shutter (switched a b) (omega arith) refl refl empty)
        (p.shutter a b c d))
        (λ h. let f = fields (order code.annealing a b c d) h in
        meant
        (λ n. say kind.annealing (switched a b) (omega arith) refl refl empty)
        (p.annealing a b c d))
        (λ h. let f = fields (order code.mirror a b c d) h in
        let m = sine-most a (omega arith) (relation (order code.mirror a b c d) h) in
        meant
        (λ n. say kind.sin_m (sine_register a / 256) (omega arith) refl refl
        (say kind.sin_l (sine_register a % 256) (omega arith) refl refl
        (say kind.cos_m (b / 256) (omega arith) refl refl
        (say kind.cos_l (b % 256) (omega arith) refl refl empty))))
        (p.mirror a b c d))
        (λ h. let f = fields (order code.motor a b c d) h in
        meant
        (λ n. say kind.switch (switch_data a) (omega arith) refl refl empty)
        (p.motor a b c d))
        (λ h. let f = fields (order code.cover a b c d) h in
        meant
        (λ n. given kind.cover (cover_bits a b c d) (fine-cover (cover_bits a b c d) (omega arith) (omega arith)) refl empty)
        (p.cover a b c d (omega arith) (omega arith) (omega arith) (omega arith)))
        (λ h. let f = fields (order code.expose a b c d) h in
        meant
        (λ n. say kind.start 0 (omega arith) refl refl empty)
        (p.expose a b c d))
        (λ h. let f = fields (order code.housekeeping a b c d) h in
        meant
        (λ n. say kind.hk 0 (omega arith) refl refl empty)
        (p.housekeeping a b c d))
        (λ h. let f = fields (order code.wait a b c d) h in
        meant
        (λ n. paused a empty)
        (p.wait a b c d (omega arith)))

  pub by_order : (o : Order) → fit o ≡ true → Meant (items_of o) (P o)
  unfolding fit
  by_order o f =
      by-fields o.a o.b o.c o.d o.code (and_left (known o.code) (fields_fit o) f)
      (and_right (known o.code) (fields_fit o) f)

  -- and of all orders of a plan
  module _ (Q : List Order → List Step → Type 0) (none : Q [] [])
      (more : (o : Order) (os : List Order) (ms ns : List Step) → P o ms → Q os ns → Q (o ∷ os) (ms ++ ns)) where
    pub by-orders : (os : List Order) → AllFit os → Meant (items_of_all os) (Q os)
    unfolding items_of_all
    by-orders [] h = record { steps = []; turn = λ c. empty; holds = none }
    by-orders (o ∷ os) h =
        let first = by_order o h.0 in
        let rest = by-orders os h.1 in
        record {
          steps = first.steps ++ rest.steps;
          turn = λ c. in-turn-append (first.turn c) rest.turn;
          holds = more o os first.steps rest.steps first.holds rest.holds;
        }
