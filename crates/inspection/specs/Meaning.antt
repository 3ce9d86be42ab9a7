-- The kind of a word, and what its data mean (document 01, "The words"; source document 000, section 4.1).
-- Assumes nothing.
use Rattle.std.specs.Prelude.{ℕ, ◌+◌, ◌*◌, Bool, cond, ◌||◌, List, [], ◌∷◌, ◌++◌, eqb}
use Rattle.words.specs.Fields.{on, current, sign, top, direction, wave, sensors, steps}
use Rattle.words.specs.Kinds as kind
use Rattle.words.specs.Kinds.{identifier, bits_of, kind_of}
use Rattle.words.specs.Codec.{finding_number}
use Rattle.head.specs.Limits.{step_ticks}
use Rattle.layout.specs.Numbers.{ascii}
use Rattle.layout.specs.Template.{layout}
use Rattle.names.specs.Kind.{kind_name}

-- Delays and exposures are in steps of 0.02 s, which are 2 ticks.
unfoldable pub is_time : ℕ → Bool
is_time k = eqb k kind.ir_delay || eqb k kind.ir_expo || eqb k kind.ccd_delay || eqb k kind.ccd_expo

-- Bit 0 is on (the shutter's: closed), and the bits above it are the current or limit.
unfoldable pub is_lamp : ℕ → Bool
is_lamp k = eqb k kind.ccd_lamp || eqb k kind.ir_lamp || eqb k kind.shutter || eqb k kind.annealing

unfoldable pub is_mode : ℕ → Bool
is_mode k = eqb k kind.ir_detector || eqb k kind.ir_win_mode || eqb k kind.switch

-- Which of a kind's two texts is meant.
unfoldable pub choice_of : ℕ → ℕ → ℕ
choice_of k b = cond (is_mode k) b (cond (is_lamp k) (on b) (cond (eqb k kind.sin_m) (sign b) 0))

-- The number that the text shows.
unfoldable pub value_of : ℕ → ℕ → ℕ
value_of k b = cond (is_time k) (step_ticks * b) (cond (is_lamp k) (current b) (cond (eqb k kind.sin_m) (top b) b))

-- Two texts for each kind but COVER. SWITCH 0 is on.
unfoldable pub data_template : List ℕ
data_template =
    ascii "{no operation||start of an acquisition||housekeeping||stop||"
    ++ ascii "detector off|detector on|IR window mode full|IR window mode reduced|"
    ++ ascii "VDETCOM, upper 4 bits: @@||VDETCOM, lower 8 bits: @@@||"
    ++ ascii "VDETADJ, upper 4 bits: @@||VDETADJ, lower 8 bits: @@@||"
    ++ ascii "IR delay %%%%% s||IR exposure %%%%% s||"
    ++ ascii "CCD window X1 @@@@||CCD window Y1 @@@||CCD window X2 @@@@||CCD window Y2 @@@||"
    ++ ascii "CCD delay %%%%% s||CCD exposure %%%%% s||"
    ++ ascii "CCD lamp off, current @|CCD lamp on, current @|"
    ++ ascii "IR lamp off, current @@|IR lamp on, current @@|"
    ++ ascii "shutter open, current @@|shutter closed, current @@|"
    ++ ascii "annealing off, limit @@|annealing on, limit @@|"
    ++ ascii "sine +, upper 4 bits: @@|sine -, upper 4 bits: @@|sine, lower 8 bits: @@@||"
    ++ ascii "cosine, upper 4 bits: @@||cosine, lower 8 bits: @@@||"
    ++ ascii "motor on|motor off}\n"

-- Direction 1 opens; wave 1 is one wave drive, 0 half wave drive; sensors 1 are enabled.
unfoldable pub cover_template : List ℕ
cover_template = ascii "{close|open}, {half|one} wave, sensors {disabled|enabled}, @@ steps\n"

unfoldable pub unknown_template : List ℕ
unknown_template = ascii "identifier @@, data @@@@\n"

unfoldable pub range_template : List ℕ
range_template = ascii "data @@@@\n"

unfoldable pub cover_text : ℕ → List ℕ
cover_text b = layout cover_template (direction b ∷ wave b ∷ sensors b ∷ steps b ∷ []) []

unfoldable pub value_text : ℕ → ℕ → List ℕ
value_text k b = layout data_template ((2 * k + choice_of k b) ∷ value_of k b ∷ []) []

-- The data b of a word of kind k.
unfoldable pub data_text : ℕ → ℕ → List ℕ
data_text k b = cond (eqb k kind.cover) (cover_text b) (value_text k b)

unfoldable pub unknown_text : ℕ → List ℕ
unknown_text w = layout unknown_template (identifier w ∷ bits_of w ∷ []) []

unfoldable pub range_text : ℕ → List ℕ
range_text w = layout range_template (bits_of w ∷ []) []

-- Of a word that is unknown (23) or out of range (24), its numbers.
unfoldable pub meaning_text : ℕ → List ℕ
meaning_text w =
    cond (eqb (finding_number w) 23) (unknown_text w)
    (cond (eqb (finding_number w) 24) (range_text w) (data_text (kind_of (identifier w)) (bits_of w)))

unfoldable pub kind_text : ℕ → List ℕ
kind_text w = kind_name (kind_of (identifier w))
