-- Document 01, "The head": the flags that an ignored word sets.
-- Assumes nothing.
use Rattle.std.specs.Prelude.{ℕ, Bool, false, cond, ◌||◌, List, [], ◌∷◌, eqb}
use Rattle.words.specs.Kinds as kind
use Rattle.head.specs.declared.state.FlagBits.{FlagBits}
use Rattle.head.specs.declared.state.Flags.{Flags}

-- Time, both channels.
abbrev pub time_both : FlagBits → FlagBits
time_both f = record { irtime = 1; irword = f.irword; scan = f.scan; vistime = 1; visword = f.visword }

-- Time, IR only.
abbrev pub time_ir : FlagBits → FlagBits
time_ir f = record { irtime = 1; irword = f.irword; scan = f.scan; vistime = f.vistime; visword = f.visword }

-- Word, both channels.
abbrev pub word_both : FlagBits → FlagBits
word_both f = record { irtime = f.irtime; irword = 1; scan = f.scan; vistime = f.vistime; visword = 1 }

abbrev pub word_vis : FlagBits → FlagBits
word_vis f = record { irtime = f.irtime; irword = f.irword; scan = f.scan; vistime = f.vistime; visword = 1 }

abbrev pub word_ir : FlagBits → FlagBits
word_ir f = record { irtime = f.irtime; irword = 1; scan = f.scan; vistime = f.vistime; visword = f.visword }

abbrev pub scanned : FlagBits → FlagBits
scanned f = record { irtime = f.irtime; irword = f.irword; scan = 1; vistime = f.vistime; visword = f.visword }

-- k is one of these kinds.
unfoldable pub one_of : List ℕ → ℕ → Bool
one_of [] k = false
one_of (j ∷ js) k = eqb k j || one_of js k

-- WIN (X1, Y1, X2, Y2), CCD words.
unfoldable pub for_vis : ℕ → Bool
for_vis k =
    one_of (kind.win_x1 ∷ kind.win_y1 ∷ kind.win_x2 ∷ kind.win_y2 ∷ kind.ccd_delay ∷ kind.ccd_expo ∷ kind.ccd_lamp ∷ []) k

-- Mirror words.
unfoldable pub mirror_word : ℕ → Bool
mirror_word k = one_of (kind.sin_m ∷ kind.sin_l ∷ kind.cos_m ∷ kind.cos_l ∷ []) k

-- NOP, START, HK, STOP.
unfoldable pub for_both : ℕ → Bool
for_both k = one_of (kind.nop ∷ kind.start ∷ kind.hk ∷ kind.stop ∷ []) k

-- Flags for 24. WIN and CCD words: word, VIS. Mirror words and SWITCH: scan. START, HK, STOP, NOP: word, both. The rest: word, IR.
unfoldable pub out_of_range_flags : ℕ → FlagBits → FlagBits
out_of_range_flags k f =
    cond (for_vis k) (word_vis f)
    (cond (mirror_word k || eqb k kind.switch) (scanned f)
    (cond (for_both k) (word_both f) (word_ir f)))

-- The flags as the blocks show them.
abbrev pub shown : FlagBits → Flags
shown f =
    record {
      irtime = eqb f.irtime 1;
      irword = eqb f.irword 1;
      scan = eqb f.scan 1;
      vistime = eqb f.vistime 1;
      visword = eqb f.visword 1;
    }
