-- The settings of a head in groups (source document 000, section 4.1): mirror and motor; cover; IR; CCD; lamps, shutter and annealing. A
-- star stands before each value that is another one than before.
-- Assumes nothing.
use Rattle.std.specs.Prelude.{ℕ, ◌*◌, List, [], ◌∷◌, ◌++◌}
use Rattle.words.specs.Fields.{on, current}
use Rattle.head.specs.Limits.{step_ticks}
use Rattle.head.specs.declared.state.Settings.{Settings}
use Rattle.layout.specs.Numbers.{ascii}
use Rattle.layout.specs.Template.{layout}

-- SWITCH 0 is on; direction 1 opens.
unfoldable pub mirror_shown : Settings → List ℕ
mirror_shown s = s.sine ∷ s.cosine ∷ s.switch ∷ s.direction ∷ []

unfoldable pub mirror_template : List ℕ
mirror_template =
    ascii "        mirror, motor       sine ^~~~~~   cosine ^####   motor ^{on|off}\n"
    ++ ascii "        cover               direction ^{close|open}\n"

unfoldable pub mirror_text : Settings → Settings → List ℕ
mirror_text s before = layout mirror_template (mirror_shown s) (mirror_shown before)

-- A delay or an exposure is in steps of 0.02 s, which are 2 ticks.
unfoldable pub ir_shown : Settings → List ℕ
ir_shown s = s.detector ∷ s.mode ∷ s.vdetcom ∷ s.vdetadj ∷ step_ticks * s.irdelay ∷ step_ticks * s.irexpo ∷ []

unfoldable pub ir_template : List ℕ
ir_template =
    ascii "        IR                  detector ^{off|on }   window mode ^{full   |reduced}   VDETCOM ^####   VDETADJ ^####\n"
    ++ ascii "                            delay ^%%%%% s   exposure ^%%%%% s\n"

unfoldable pub ir_text : Settings → Settings → List ℕ
ir_text s before = layout ir_template (ir_shown s) (ir_shown before)

-- The window is X1, Y1, X2, Y2.
unfoldable pub ccd_shown : Settings → List ℕ
ccd_shown s = step_ticks * s.ccddelay ∷ step_ticks * s.ccdexpo ∷ s.x1 ∷ s.y1 ∷ s.x2 ∷ s.y2 ∷ []

unfoldable pub ccd_template : List ℕ
ccd_template =
    ascii "        CCD                 delay ^%%%%% s   exposure ^%%%%% s   window ^#### ^#### ^#### ^####\n"

unfoldable pub ccd_text : Settings → Settings → List ℕ
ccd_text s before = layout ccd_template (ccd_shown s) (ccd_shown before)

-- Bit 0 is on (the shutter's: closed), and the bits above it are the current or limit.
unfoldable pub lamps_shown : Settings → List ℕ
lamps_shown s = on s.ccdlamp ∷ current s.ccdlamp ∷ on s.irlamp ∷ current s.irlamp ∷ on s.shutter ∷ current s.shutter ∷ on s.annealing ∷ current s.annealing ∷ []

unfoldable pub lamps_template : List ℕ
lamps_template =
    ascii "        lamps               CCD lamp ^{off|on }  current ^#   IR lamp ^{off|on }  current ^##\n"
    ++ ascii "        shutter, annealing  shutter ^{open  |closed}  current ^##   annealing ^{off|on }  limit ^##\n"

unfoldable pub lamps_text : Settings → Settings → List ℕ
lamps_text s before = layout lamps_template (lamps_shown s) (lamps_shown before)

unfoldable pub settings_text : Settings → Settings → List ℕ
settings_text s before = mirror_text s before ++ ir_text s before ++ ccd_text s before ++ lamps_text s before

-- The mirror pair of an exposure and its length in seconds.
unfoldable pub pair_template : List ℕ
pair_template = ascii "exposure: sine ~~~~~, cosine ####, length %%%%% s\n"

unfoldable pub pair_text : ℕ → ℕ → ℕ → List ℕ
pair_text sine cosine ticks =
    let values = sine ∷ cosine ∷ ticks ∷ [] in
    layout pair_template values values
