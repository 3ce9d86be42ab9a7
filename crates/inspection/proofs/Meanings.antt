-- The ways through what a word's data mean.
-- Assumes nothing.
use mathlib.Core.Path.{◌≡◌, sym, ◌∙◌}
use mathlib.Core.List.{List, [], ◌∷◌}
use Prim.Native.Nat.{ℕ, ◌+◌, ◌*◌}
use Rattle.std.specs.Prelude.{Result, Ok, Err}
use Rattle.words.specs.Codec.{decode_of, decode_error_number, decoded_number, finding_number}
use Rattle.words.specs.declared.Word.{Word}
use Rattle.words.specs.declared.DecodeError.{DecodeError}
use Rattle.words.specs.declared.DecodeError.TheVariants.{Unknown, OutOfRange}
use Rattle.words.proofs.Codec.{decode-read}
use Rattle.layout.specs.Adds.{Adds}
use Rattle.layout.specs.declared.writer.Writer.{Writer}
use Rattle.layout.specs.Template.{layout}
use Rattle.inspection.specs.Meaning.{choice_of, value_of, data_template, value_text, data_text, unknown_text, range_text, meaning_text}

module _ (w : ℕ) (r : Result Word DecodeError) (is : r ≡ decode_of w) (found : decoded_number r ≡ finding_number w) {l m : Writer} where
  pub meaning-unknown : (f : DecodeError) → r ≡ Err f → f ≡ Unknown → Adds l m (unknown_text w) → Adds l m (meaning_text w)
  unfolding meaning_text decoded_number decode_error_number
  meaning-unknown f e u t = rw (← found, e, u) t

  pub meaning-range : (f : DecodeError) (k : ℕ) → r ≡ Err f → f ≡ OutOfRange k → Adds l m (range_text w) → Adds l m (meaning_text w)
  unfolding meaning_text decoded_number decode_error_number
  meaning-range f k e o t = rw (← found, e, o) t

  pub meaning-data : (v : Word) → r ≡ Ok v → Adds l m (data_text v.kind v.bits) → Adds l m (meaning_text w)
  unfolding meaning_text decoded_number decode_error_number
  meaning-data v e t = let read = decode-read w v.kind v.bits (sym is ∙ e) in rw (← found, e, ← read.kind, ← read.bits) t

pub written-value : (k b : ℕ) {l m : Writer} {c : ℕ} → c ≡ choice_of k b → {v : ℕ} → v ≡ value_of k b
    → Adds l m (layout data_template ((2 * k + c) ∷ v ∷ []) []) → Adds l m (value_text k b)
unfolding value_text
written-value k b choice value w = rw (choice, value) at w
