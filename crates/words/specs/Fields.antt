-- Document 01, "The words": the fields inside the ten data bits of a word.
-- Assumes nothing.
use Rattle.std.specs.Prelude.{ℕ, ◌+◌, ◌*◌, ◌/◌, ◌%◌}

-- Lamp, shutter and annealing words: bit 0 is on (shutter: closed), the bits above are the current or limit.
abbrev pub on : ℕ → ℕ
on d = d % 2

abbrev pub current : ℕ → ℕ
current d = d / 2

abbrev pub switched : ℕ → ℕ → ℕ
switched on_bit level = on_bit + 2 * level

-- SIN M: bit 4 is the sign, bits 0-3 the top of a 12-bit magnitude.
abbrev pub sign : ℕ → ℕ
sign d = d / 16

abbrev pub top : ℕ → ℕ
top d = d % 16

-- A register of two words: the M word's data above the eight bits of the L word's.
abbrev pub joined : ℕ → ℕ → ℕ
joined m l = m * 256 + l

-- COVER: bit 9 direction (1 opens), bit 8 wave, bit 7 sensors, bits 0-6 steps.
abbrev pub direction : ℕ → ℕ
direction d = d / 512

abbrev pub wave : ℕ → ℕ
wave d = d / 256 % 2

abbrev pub sensors : ℕ → ℕ
sensors d = d / 128 % 2

abbrev pub steps : ℕ → ℕ
steps d = d % 128

abbrev pub cover_bits : ℕ → ℕ → ℕ → ℕ → ℕ
cover_bits dir wav sen n = dir * 512 + wav * 256 + sen * 128 + n
