-- What a diagnosis says is true of the state and the word.
-- Assumes nothing.
use mathlib.Core.Path.{◌≡◌, refl, ◌∙◌}
use mathlib.Core.Bool.{Bool, true, false, not, ◌&&◌, false≢true, true≢false}
use Prim.Native.Nat.{ℕ, zero, suc, ◌-◌, ◌<◌, ◌≤◌}
use native.Mathlib.Decide.{ℕ_discrete}
use native.Mathlib.Omega.{arith}
use borrow.Author.Tests.{lt-ltb, le-ltb, ltb-true, eqb-true, ne_eqb}
use lib.Dec.{eqb, ltb}
use Rattle.words.specs.Kinds as kind
use Rattle.words.specs.Kinds.{identifier, bits_of, rows, least, greatest, kind_of, kinds, allowed}
use Rattle.std.specs.Prelude.{Result, Ok, Err}
use Rattle.words.specs.Codec.{word, decode_of, judged, encode_of, word_of}
use Rattle.words.specs.declared.Word.{Word}
use Rattle.words.specs.declared.DecodeError.{DecodeError}
use Rattle.words.specs.declared.DecodeError.TheVariants as decode_error
use Rattle.words.proofs.Codec.{decode-read, encode-decode}
use Rattle.head.specs.Range.{in_range}
use Rattle.head.specs.Busy.{busy_ticks, is_busy}
use Rattle.head.specs.Flags.{one_of, mirror_word}
use Rattle.head.specs.Apply.{act_of}
use Rattle.head.specs.Word.{out_of_turn, on_word, on_decoded, stop_word, answer_of}
use Rattle.head.specs.Tick.{ticks_of}
use Rattle.head.specs.Ticks.{elapsed}
use Rattle.head.specs.declared.state.Head.{Head}
use Rattle.head.specs.declared.word.Act.TheVariants as act
use Rattle.head.specs.declared.word.Cause.TheVariants.{State, Busy, CoverMoving, UnknownWord, Range, Turn}
use Rattle.head.specs.declared.word.Outcome.{Outcome}
use Rattle.head.specs.declared.word.Outcome.TheVariants as outcome
use Rattle.head.proofs.Bounds.{bounds}
use Rattle.head.proofs.Keep.{ticks-keep}
use Rattle.head.proofs.Ticks.{ticks-elapsed}
use Rattle.head.proofs.BusyTicks.{idle-none, none-idle, idle-answer, busy-falls}
use Rattle.head.proofs.Findings.{stop-alone}
use Rattle.diagnosis.specs.Diagnosis.{due_after, by_cause, by_outcome, diagnosis_of}
use Rattle.diagnosis.specs.Truth.{applied, BusyFor, cover_moves, CoverMovesFor, MirrorWordDue, Says}

-- a head in range, and what ticks leave of it
module _ (s : Head) (ranged : in_range s ≡ true) where
  busy-some : is_busy s ≡ true → 0 < busy_ticks s
  unfolding is_busy
  busy-some e = ltb-true 0 (busy_ticks s) e

  still-busy : (m : ℕ) → m < busy_ticks s → is_busy (ticks_of m s) ≡ true
  unfolding is_busy
  still-busy m h = rw (busy-falls s ranged m) (lt-ltb 0 (busy_ticks s - m) (omega arith))

  idle_then : (m : ℕ) → busy_ticks s ≤ m → is_busy (ticks_of m s) ≡ false
  idle_then m h = none-idle (ticks_of m s) (let e = busy-falls s ranged m in omega arith)

  pub busy-for : (w : ℕ) → is_busy s ≡ true → eqb w stop_word ≡ false → BusyFor s w (busy_ticks s)
  unfolding answer_of
  busy-for w busy other =
      let some = busy-some busy in
      record {
        still = still-busy (busy_ticks s - 1) (omega arith);
        idle = idle_then (busy_ticks s) (omega arith);
        until = λ m h. rw (ticks-keep m s ranged, still-busy m h, other);
      }

  cover-left : (m : ℕ) → (ticks_of m s).motion.cover ≡ s.motion.cover - m
  unfolding elapsed
  cover-left m = rw (ticks-elapsed m s ranged)

  module _ (free : is_busy s ≡ false) where
    stays-idle : (m : ℕ) → is_busy (ticks_of m s) ≡ false
    stays-idle m = idle_then m (let e = idle-none s free in omega arith)

    module _ (w : ℕ) (found : decode_of w ≡ Ok (word kind.cover (bits_of w))) where
      cover-answer : (m : ℕ) → answer_of (ticks_of m s) w ≡ on_word (ticks_of m s) kind.cover (bits_of w)
      unfolding on_decoded
      cover-answer m = idle-answer (ticks_of m s) w (ticks-keep m s ranged) (stays-idle m) ∙ rw found

      pub cover-for : ltb 0 s.motion.cover ≡ true → CoverMovesFor s w s.motion.cover
      unfolding cover_moves on_word out_of_turn act_of
      cover-for moves =
          let n = s.motion.cover in
          let some = ltb-true 0 n moves in
          record {
            still = rw (cover-left (n - 1)) (lt-ltb 0 (n - (n - 1)) (omega arith));
            rests = rw (cover-left n) (le-ltb 0 (n - n) (omega arith));
            until = λ m h. rw (cover-answer m, cover-left m, lt-ltb 0 (n - m) (omega arith));
            later = λ m h. rw (cover-answer m, cover-left m, le-ltb 0 (n - m) (omega arith));
          }

-- the four mirror words
data Mirror : ℕ → Type 0 where
  sin-m : Mirror kind.sin_m
  sin-l : Mirror kind.sin_l
  cos-m : Mirror kind.cos_m
  cos-l : Mirror kind.cos_l

mirror-is : (j : ℕ) → mirror_word j ≡ true → Mirror j
unfolding mirror_word one_of
mirror-is j e = go (ℕ_discrete j kind.sin_m) (ℕ_discrete j kind.sin_l) (ℕ_discrete j kind.cos_m) (ℕ_discrete j kind.cos_l)
  where
    go : Dec (j ≡ kind.sin_m) → Dec (j ≡ kind.sin_l) → Dec (j ≡ kind.cos_m) → Dec (j ≡ kind.cos_l) → Mirror j
    go (yes p) q r t = rw p sin-m
    go (no p) (yes q) r t = rw q sin-l
    go (no p) (no q) (yes r) t = rw r cos-m
    go (no p) (no q) (no r) (yes t) = rw t cos-l
    go (no p) (no q) (no r) (no t) =
        absurd (false≢true (rw (ne_eqb j kind.sin_m p, ne_eqb j kind.sin_l q, ne_eqb j kind.cos_m r, ne_eqb j kind.cos_l t) at e))

mirror-still : (j : ℕ) → Mirror j → eqb j kind.cover ≡ false
mirror-still j sin-m = refl
mirror-still j sin-l = refl
mirror-still j cos-m = refl
mirror-still j cos-l = refl

mirror-act : (j b : ℕ) → Mirror j → act_of j b ≡ act.None
unfolding act_of
mirror-act j b sin-m = refl
mirror-act j b sin-l = refl
mirror-act j b cos-m = refl
mirror-act j b cos-l = refl

-- after so many words of a set
data Received : ℕ → Type 0 where
  none : Received 0
  one : Received 1
  two : Received 2
  three : Received 3

received : (n : ℕ) → n ≤ 3 → Received n
received zero h = none
received (suc zero) h = one
received (suc (suc zero)) h = two
received (suc (suc (suc zero))) h = three
received (suc (suc (suc (suc n)))) h = absurd (omega arith)

module _ (n : ℕ) (so-many : Received n) where
  due-mirror : Mirror (due_after n)
  unfolding due_after
  due-mirror = go n so-many
    where
      go : (n : ℕ) → Received n → Mirror (due_after n)
      go n none = sin-m
      go n one = sin-l
      go n two = cos-m
      go n three = cos-l

  due-some : allowed (due_after n) 0 ≡ true
  unfolding due_after allowed least greatest rows
  due-some = go n so-many
    where
      go : (n : ℕ) → Received n → allowed (due_after n) 0 ≡ true
      go n none = refl
      go n one = refl
      go n two = refl
      go n three = refl

  due-turn : out_of_turn n (due_after n) ≡ false
  unfolding due_after out_of_turn
  due-turn = go n so-many
    where
      go : (n : ℕ) → Received n → out_of_turn n (due_after n) ≡ false
      go n none = refl
      go n one = refl
      go n two = refl
      go n three = refl

  others-turn : (j : ℕ) → Mirror j → (j ≡ due_after n → ⊥) → (j ≡ kind.sin_m → ⊥) → out_of_turn n j ≡ true
  unfolding due_after out_of_turn
  others-turn j m other = go n so-many j m other
    where
      go : (n : ℕ) → Received n → (j : ℕ) → Mirror j → (j ≡ due_after n → ⊥) → (j ≡ kind.sin_m → ⊥) → out_of_turn n j ≡ true
      go n so j sin-m other afresh = absurd (afresh refl)
      go n none j sin-l other afresh = refl
      go n none j cos-m other afresh = refl
      go n none j cos-l other afresh = refl
      go n one j sin-l other afresh = absurd (other refl)
      go n one j cos-m other afresh = refl
      go n one j cos-l other afresh = refl
      go n two j sin-l other afresh = refl
      go n two j cos-m other afresh = absurd (other refl)
      go n two j cos-l other afresh = refl
      go n three j sin-l other afresh = refl
      go n three j cos-m other afresh = refl
      go n three j cos-l other afresh = absurd (other refl)

mirror-of : (j : ℕ) → Mirror j → mirror_word j ≡ true
unfolding mirror_word one_of
mirror-of j sin-m = refl
mirror-of j sin-l = refl
mirror-of j cos-m = refl
mirror-of j cos-l = refl

module _ (s : Head) (ranged : in_range s ≡ true) (free : is_busy s ≡ false) where
  -- the answer to a mirror word with allowed data
  mirror-answer : (j b : ℕ) → Mirror j → allowed j b ≡ true → answer_of s (word_of j b) ≡ on_word s j b
  unfolding on_decoded encode_of
  mirror-answer j b m fine =
      idle-answer s (word_of j b) ranged free ∙ rw (encode-decode (word_of j b) j b (rw fine))

  pub due-for : MirrorWordDue s (due_after s.begun.count)
  unfolding on_word
  due-for =
      let n = s.begun.count in
      let so-many = received n (bounds s ranged).begun.count in
      let mirror = due-mirror n so-many in
      record {
        mirror = mirror-of (due_after n) mirror;
        some = due-some n so-many;
        taken = λ b fine.
            rw (mirror-answer (due_after n) b mirror fine, mirror-still (due_after n) mirror, due-turn n so-many, mirror-act (due_after n) b mirror);
        alone = λ j b is fine other afresh.
            let m = mirror-is j is in
            rw (mirror-answer j b m fine, mirror-still j m, others-turn n so-many j m other afresh);
      }

stop-in-turn : (n k : ℕ) → k ≡ kind.stop → out_of_turn n k ≡ true → ⊥
unfolding out_of_turn
stop-in-turn n k e turn = false≢true (rw e at turn)

-- what is out of range is of the kind of its identifier
range-kind : (w k : ℕ) → decode_of w ≡ Err (decode_error.OutOfRange k) → decode_of w ≡ Err (decode_error.OutOfRange (kind_of (identifier w)))
unfolding decode_of judged
range-kind w k e = go (ltb j kinds) refl (allowed j (bits_of w)) refl
  where
    j : ℕ
    j = kind_of (identifier w)

    go : (x : Bool) → ltb j kinds ≡ x → (y : Bool) → allowed j (bits_of w) ≡ y → decode_of w ≡ Err (decode_error.OutOfRange j)
    go true p false q = rw (p, q)
    go true p true q = let is = rw (p, q) at e in let z : ◌≡◌ {A = ℕ} 0 1 = cc in absurd (omega arith)
    go false p y q = let is = rw p at e in let z : ◌≡◌ {A = ℕ} 0 1 = cc in absurd (omega arith)

-- the checks that a word has passed, and what they leave
module _ (s : Head) (w : ℕ) (h : w < 65536) where
  at : (o : Outcome) → (answer_of s w).outcome ≡ o → Says s w (by_outcome s w o) → Says s w (diagnosis_of s w)
  unfolding diagnosis_of
  at o e says = rw e says

  at-state : in_range s ≡ false → Says s w (diagnosis_of s w)
  unfolding answer_of by_outcome by_cause Says
  at-state p = at (outcome.Ignored State) (rw p) p

  module _ (ranged : in_range s ≡ true) where
    at-busy : (is_busy s && not (eqb w stop_word)) ≡ true → Says s w (diagnosis_of s w)
    unfolding answer_of by_outcome by_cause Says
    at-busy q = at (outcome.Ignored Busy) (rw (ranged, q)) (go (is_busy s) refl (eqb w stop_word) refl)
      where
        go : (x : Bool) → is_busy s ≡ x → (y : Bool) → eqb w stop_word ≡ y → BusyFor s w (busy_ticks s)
        go true p false r = busy-for s ranged w p r
        go true p true r = absurd (false≢true (rw (p, r) at q))
        go false p y r = absurd (false≢true (rw p at q))

    module _ (free : (is_busy s && not (eqb w stop_word)) ≡ false) where
      decided : answer_of s w ≡ on_decoded s (decode_of w)
      unfolding answer_of
      decided = rw (ranged, free)

      at-unknown : decode_of w ≡ Err decode_error.Unknown → Says s w (diagnosis_of s w)
      unfolding on_decoded by_outcome by_cause Says
      at-unknown e = at (outcome.Ignored UnknownWord) (rw (decided, e)) (record { given = refl; unknown = e })

      at-range : (k : ℕ) → decode_of w ≡ Err (decode_error.OutOfRange k) → Says s w (diagnosis_of s w)
      unfolding on_decoded by_outcome by_cause Says
      at-range k e = at (outcome.Ignored Range) (rw (decided, e)) (record { given = refl; range = range-kind w k e })

      module _ (k b : ℕ) (found : decode_of w ≡ Ok (word k b)) where
        -- the head is idle, since the word is not STOP's
        idle : eqb k kind.stop ≡ false → is_busy s ≡ false
        idle other = go (is_busy s) refl
          where
            go : (x : Bool) → is_busy s ≡ x → is_busy s ≡ false
            go false p = p
            go true p = absurd (true≢false (rw (p, stop-alone w k b h found, other) at free))

        at-cover : eqb k kind.cover ≡ true → ltb 0 s.motion.cover ≡ true → Says s w (diagnosis_of s w)
        unfolding on_decoded on_word by_outcome by_cause Says
        at-cover p q =
            let is = eqb-true k kind.cover p in
            at (outcome.Ignored CoverMoving) (rw (decided, found, p, q))
            (cover-for s ranged (idle (rw is)) w (rw (is, (decode-read w k b found).bits) at found) q)

        module _ (still : (eqb k kind.cover && ltb 0 s.motion.cover) ≡ false) where
          at_turn : out_of_turn s.begun.count k ≡ true → Says s w (diagnosis_of s w)
          unfolding on_decoded on_word by_outcome by_cause Says
          at_turn q = at (outcome.Ignored Turn) (rw (decided, found, still, q)) (due-for s ranged (idle (no_stop (eqb k kind.stop) refl)))
            where
              no_stop : (x : Bool) → eqb k kind.stop ≡ x → eqb k kind.stop ≡ false
              no_stop false p = p
              no_stop true p = absurd (stop-in-turn s.begun.count k (eqb-true k kind.stop p) q)

          at-taken : out_of_turn s.begun.count k ≡ false → Says s w (diagnosis_of s w)
          unfolding on_decoded on_word by_outcome Says applied
          at-taken q =
              let e : (answer_of s w).outcome ≡ outcome.Taken (act_of k b) = rw (decided, found, still, q) in
              at (outcome.Taken (act_of k b)) e (rw e)

pub diagnosis-true : (s : Head) (w : ℕ) → w < 65536 → Says s w (diagnosis_of s w)
diagnosis-true s w h = go (in_range s) refl (is_busy s && not (eqb w stop_word)) refl (decode_of w) refl
  where
    on-word : in_range s ≡ true → (is_busy s && not (eqb w stop_word)) ≡ false → (k b : ℕ) → decode_of w ≡ Ok (word k b)
        → (x : Bool) → eqb k kind.cover ≡ x → (y : Bool) → ltb 0 s.motion.cover ≡ y → (z : Bool) → out_of_turn s.begun.count k ≡ z
        → Says s w (diagnosis_of s w)
    on-word p q k b e true c true m z t = at-cover s w h p q k b e c m
    on-word p q k b e true c false m true t = at_turn s w h p q k b e (rw (c, m)) t
    on-word p q k b e true c false m false t = at-taken s w h p q k b e (rw (c, m)) t
    on-word p q k b e false c y m true t = at_turn s w h p q k b e (rw c) t
    on-word p q k b e false c y m false t = at-taken s w h p q k b e (rw c) t

    go : (x : Bool) → in_range s ≡ x → (y : Bool) → (is_busy s && not (eqb w stop_word)) ≡ y → (d : Result Word DecodeError) → decode_of w ≡ d
        → Says s w (diagnosis_of s w)
    go false p y q d e = at-state s w h p
    go true p true q d e = at-busy s w h p q
    go true p false q (Err decode_error.Unknown) e = at-unknown s w h p q e
    go true p false q (Err (decode_error.OutOfRange k)) e = at-range s w h p q k e
    go true p false q (Ok v) e =
        on-word p q v.kind v.bits e (eqb v.kind kind.cover) refl (ltb 0 s.motion.cover) refl (out_of_turn s.begun.count v.kind) refl
