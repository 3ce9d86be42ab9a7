-- The head's answer found through the phase and the grid is `answer_of`.
-- Assumes nothing.
use mathlib.Core.Path.{◌≡◌, refl, sym, ◌∙◌, ap}
use mathlib.Core.Bool.{Bool, true, false}
use Prim.Native.Nat.{ℕ, ◌<◌, ◌+◌, ◌*◌}
use native.Mathlib.Omega.{arith}
use borrow.Author.Tests.{lt-ltb, eqb-true, eqb-false}
use lib.Dec.{ltb, eqb}
use Rattle.words.specs.Kinds as kind
use Rattle.words.specs.Kinds.{rows, kind_from, kind_of, kinds, allowed, least, greatest}
use Rattle.std.specs.Prelude.{Result, Ok, Err}
use Rattle.words.specs.Codec.{word, decode_of, judged, encode_of, word_of}
use Rattle.words.specs.declared.Word.{Word}
use Rattle.words.specs.declared.DecodeError.{DecodeError}
use Rattle.words.proofs.Codec.{decode-encode, decode-read}
use Rattle.head.proofs.Bounds.{allowed-most}
use Rattle.words.proofs.Allowed.{allowed-bits}
use Rattle.head.specs.Grid.{phase_of, applies}
use Rattle.head.specs.Range.{in_range}
use Rattle.head.specs.Busy.{is_busy}
use Rattle.head.specs.Word.{out_of_turn, on_word, on_decoded, answer_of, stop_word}
use Rattle.head.specs.ByGrid.{waiting, by_grid, by_finding}
use Rattle.head.specs.declared.state.Head.{Head}
use Rattle.head.specs.declared.word.Answered.{Answered}

stop-decoded : decode_of stop_word ≡ Ok (word kind.stop 0)
unfolding decode_of judged kind_of kind_from kinds rows allowed least greatest
stop-decoded = refl

stop-made : (w b : ℕ) → w < 65536 → decode_of w ≡ Ok (word kind.stop b) → w ≡ stop_word
unfolding encode_of word_of rows greatest
stop-made w b h e =
    let r = decode-read w kind.stop b e in
    let most = allowed-most kind.stop b r.fine in
    let made = rw r.fine at (decode-encode w kind.stop b h e) in
    let is : 48 * 1024 + b ≡ w = cc in
    omega arith

-- C000 is the one word of kind STOP
pub stop-alone : (w k b : ℕ) → w < 65536 → decode_of w ≡ Ok (word k b) → eqb w stop_word ≡ eqb k kind.stop
stop-alone w k b h e = go (eqb w stop_word) refl (eqb k kind.stop) refl
  where
    go : (x : Bool) → eqb w stop_word ≡ x → (y : Bool) → eqb k kind.stop ≡ y → eqb w stop_word ≡ eqb k kind.stop
    go true p true q = p ∙ sym q
    go false p false q = p ∙ sym q
    go true p false q =
        let is : word kind.stop 0 ≡ word k b = cc (stop-decoded, rw (eqb-true w stop_word p) at e) in
        absurd (eqb-false k kind.stop q (sym (ap (λ (v : Word). v.kind) is)))
    go false p true q = absurd (eqb-false w stop_word p (stop-made w b h (rw (eqb-true k kind.stop q) at e)))

-- a word that has no meaning is answered by the phase alone; it is not C000
pub by-finding : (s : Head) (w : ℕ) (d : DecodeError) → in_range s ≡ true → Err d ≡ decode_of w → by_finding s d ≡ answer_of s w
unfolding by_finding answer_of
by-finding s w d ok e = go (is_busy s) refl (eqb w stop_word) refl
  where
    go : (x : Bool) → is_busy s ≡ x → (y : Bool) → eqb w stop_word ≡ y → by_finding s d ≡ answer_of s w
    go false p y q = rw (ok, p, ← e)
    go true p false q = rw (ok, p, q)
    go true p true q =
        let stop : decode_of w ≡ Ok (word kind.stop 0) = rw (eqb-true w stop_word q) stop-decoded in
        let z : ◌≡◌ {A = ℕ} 0 1 = cc in
        absurd (omega arith)

pub by-grid : (s : Head) (w k b : ℕ) → in_range s ≡ true → w < 65536 → Ok (word k b) ≡ decode_of w → by_grid s k b ≡ answer_of s w
unfolding by_grid answer_of on_decoded on_word phase_of applies waiting out_of_turn
by-grid s w k b ok h e = go (is_busy s) refl (ltb 0 s.motion.cover) refl (eqb k kind.stop) refl (eqb k kind.cover) refl
  where
    known : ltb k 28 ≡ true
    known = lt-ltb k 28 (decode-read w k b (sym e)).known

    alone : eqb w stop_word ≡ eqb k kind.stop
    alone = stop-alone w k b h (sym e)

    go : (busy : Bool) → is_busy s ≡ busy → (moving : Bool) → ltb 0 s.motion.cover ≡ moving
        → (stop : Bool) → eqb k kind.stop ≡ stop → (cover : Bool) → eqb k kind.cover ≡ cover → by_grid s k b ≡ answer_of s w
    go true p moving q true r cover t = rw (ok, alone, ← e, p, eqb-true k kind.stop r)
    go true p moving q false r cover t = rw (ok, alone, p, known, r)
    go false p true q stop r true t = rw (ok, ← e, p, q, known, t)
    go false p true q stop r false t = rw (ok, ← e, p, q, known, t)
    go false p false q stop r true t = rw (ok, ← e, p, q, known, t)
    go false p false q stop r false t = rw (ok, ← e, p, q, known, t)

-- the ways through `answer`: d is what was decoded, r the answer
module _ (s : Head) (ranged : in_range s ≡ true) (w : ℕ) (h : w < 65536) (d : Result Word DecodeError) (found : d ≡ decode_of w) (r : Answered) where
  pub way-finding : (e : DecodeError) → d ≡ Err e → r ≡ by_finding s e → r ≡ answer_of s w
  way-finding e none is = is ∙ by-finding s w e ranged (sym none ∙ found)

  pub way-grid : (v : Word) → d ≡ Ok v → r ≡ by_grid s v.kind v.bits → r ≡ answer_of s w
  way-grid v some e = e ∙ by-grid s w v.kind v.bits ranged h (sym some ∙ found)

module _ (w : ℕ) (d : Result Word DecodeError) (found : d ≡ decode_of w) (v : Word) (some : d ≡ Ok v) where
  pub word-kind : v.kind < 28
  word-kind = (decode-read w v.kind v.bits (sym found ∙ some)).known

  pub word-bits : v.bits < 1024
  word-bits = allowed-bits v.kind v.bits (decode-read w v.kind v.bits (sym found ∙ some)).fine
