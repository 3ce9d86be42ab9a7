-- What a caller has whose table stands apart and within the word.
-- Assumes nothing.
use Rattle.std.proofs.Common.{◌≡◌, ℕ, ◌%◌, ◌^◌, true, List, ap, ◌∙◌}
use Rattle.bitfields.specs.declared.Field.{Field}
use Rattle.bitfields.specs.Fields.{composed, word_bits}
use Rattle.bitfields.proofs.Apart.{all_apart}
use Rattle.bitfields.proofs.Written.{all_below, composed-fits}

pub composed-by : (fs : List Field) (us vs : List ℕ) (r : ℕ) → r ≡ composed fs us % 2 ^ word_bits → us ≡ vs
    → all_apart fs ≡ true → all_below word_bits fs ≡ true → r ≡ composed fs vs
composed-by fs us vs r e same alone below =
    e ∙ ap (λ (ws : List ℕ). composed fs ws % 2 ^ word_bits) same ∙ composed-fits word_bits fs vs alone below
