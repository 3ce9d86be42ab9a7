-- The numbers of the answers whose variants hold values: n is the answer's own number.
-- Assumes nothing.
use mathlib.Core.Path.{◌≡◌, ◌∙◌}
use Prim.Native.Nat.{ℕ, ◌+◌, ◌*◌}
use native.Mathlib.Omega.{arith}
use Rattle.std.specs.Prelude.{Result, Ok, Err}
use Rattle.words.specs.Codec.{decode_error_number, encode_error_number, decoded_number, encoded_number}
use Rattle.words.specs.declared.Word.{Word}
use Rattle.words.specs.declared.DecodeError.{DecodeError}
use Rattle.words.specs.declared.EncodeError.{EncodeError}
use Rattle.head.specs.Numbers.{due_number}
use Rattle.head.specs.declared.state.Task.{Task}
use Rattle.head.specs.declared.state.Flags.{Flags}
use Rattle.head.specs.declared.tick.Due.{Due}
use Rattle.head.specs.declared.tick.Due.TheVariants.{Nothing, Blocks}
use Rattle.head.specs.declared.tick.Due.TheVariants as due
use Rattle.interface.specs.Codec.{refused_kind, decoded_answer, encoded_answer}
use Rattle.interface.specs.Stepping.{flag_bits, due_answer}

module _ {d : Result Word DecodeError} where
  pub word-number : {w : Word} → d ≡ Ok w → {k b : ℕ} → k ≡ w.kind → b ≡ w.bits → k * 0x10000 + b ≡ decoded_answer d
  unfolding decoded_answer decoded_number
  word-number e kind bits = rw (e, kind, bits) (omega arith)

  pub no-word-number : {f : DecodeError} → d ≡ Err f → {n k : ℕ} → n ≡ decode_error_number f → k ≡ refused_kind f
      → n * 0x1000000 + k * 0x10000 ≡ decoded_answer d
  unfolding decoded_answer decoded_number
  no-word-number e number kind = rw (e, number, kind) (omega arith)

module _ {m : Result ℕ EncodeError} where
  pub made-number : {w : ℕ} → m ≡ Ok w → {v : ℕ} → v ≡ w → v ≡ encoded_answer m
  unfolding encoded_answer encoded_number
  made-number e same = rw (e, same) (omega arith)

  pub not-made-number : {f : EncodeError} → m ≡ Err f → {n : ℕ} → n ≡ encode_error_number f → n * 0x1000000 ≡ encoded_answer m
  unfolding encoded_answer encoded_number
  not-made-number e number = rw (e, number) (omega arith)

module _ (d : Due) (n : ℕ) (is : n ≡ due_number d) where
  pub nothing-due : d ≡ Nothing → n ≡ due_answer d
  unfolding due_answer
  nothing-due e = is ∙ rw e

  pub blocks-due : (t : Task) (f : Flags) (b : ℕ) → d ≡ Blocks t f → b ≡ flag_bits f → n + 256 * b ≡ due_answer d
  unfolding due_answer
  blocks-due t f b e shown = rw (is, shown, e)

  pub tick-refused : d ≡ due.Refused → n ≡ due_answer d
  unfolding due_answer
  tick-refused e = is ∙ rw e
