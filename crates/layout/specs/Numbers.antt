-- Numbers as text: in decimal, in hexadecimal, as seconds, and as a sine with its sign.
-- Assumes nothing.
use Rattle.std.specs.Prelude.{ℕ, zero, suc, ◌+◌, ◌-◌, ◌/◌, ◌%◌, Bool, cond, List, [], ◌∷◌, ◌++◌, ltb}
use Prim.Native.Char.{code}
use Prim.Native.String.{String, [] as []ˢ, ◌∷◌ as ◌∷ˢ◌}

-- 1 for true, 0 for false.
abbrev pub bit : Bool → ℕ
bit b = cond b 1 0

-- The codes of a text's characters; a text here is ASCII, so that each is a byte.
unfoldable pub ascii : String → List ℕ
ascii []ˢ = []
ascii (c ∷ˢ s) = code c ∷ ascii s

abbrev pub digit : ℕ → ℕ
digit d = code "0" + d

-- The digits of n, of which at most k stand after the first.
unfoldable pub decimal_within : ℕ → ℕ → List ℕ
decimal_within zero n = digit n ∷ []
decimal_within (suc k) n = cond (ltb n 10) (digit n ∷ []) (decimal_within k (n / 10) ++ (digit (n % 10) ∷ []))

-- A number in decimal, with no zeros in front.
unfoldable pub decimal_of : ℕ → List ℕ
decimal_of n = decimal_within n n

-- A hexadecimal digit, in upper case.
unfoldable pub hex_digit : ℕ → ℕ
hex_digit d = cond (ltb d 10) (digit d) (code "A" + (d - 10))

-- A word in four of them.
unfoldable pub hex_of : ℕ → List ℕ
hex_of w = hex_digit (w / 4096) ∷ hex_digit (w / 256 % 16) ∷ hex_digit (w / 16 % 16) ∷ hex_digit (w % 16) ∷ []

-- Ticks of 10 ms as seconds, with two decimals.
unfoldable pub seconds_of : ℕ → List ℕ
seconds_of ticks = decimal_of (ticks / 100) ++ (code "." ∷ digit (ticks / 10 % 10) ∷ digit (ticks % 10) ∷ [])

-- The sine register: the sign in bit 12, above a magnitude of 12 bits. The sign is always printed.
unfoldable pub sine_text : ℕ → List ℕ
sine_text register = cond (ltb register 4096) (code "+") (code "-") ∷ decimal_of (register % 4096)
