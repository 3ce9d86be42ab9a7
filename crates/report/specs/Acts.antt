-- What the head does, entry by entry of its log (document 01, "Plans"; source document 000, section 4.1).
-- Assumes nothing.
use Rattle.std.specs.Prelude.{ℕ, ◌*◌, List, [], ◌∷◌, ◌++◌}
use Rattle.head.specs.Limits.{length_of, cover_step_ticks}
use Rattle.head.specs.declared.state.Settings.{Settings}
use Rattle.plan.specs.Reading.{Entry, exposure, request, cover_move}
use Rattle.layout.specs.Numbers.{ascii}
use Rattle.layout.specs.Template.{layout}
use Rattle.registers.specs.Settings.{settings_text, pair_text}

-- The mirror pair and the length first, then all settings.
unfoldable pub exposure_text : Settings → Settings → List ℕ
exposure_text s before = pair_text s.sine s.cosine (length_of s) ++ settings_text s before

-- Direction 1 opens; wave 1 is one wave drive, 0 half wave drive; sensors 1 are enabled. A step takes 25 ticks.
unfoldable pub cover_template : List ℕ
cover_template = ascii "cover {close|open}, {half|one} wave, sensors {disabled|enabled}, @@ steps: @@@@ ticks, %%%%% s\n"

unfoldable pub cover_text : ℕ → ℕ → ℕ → ℕ → List ℕ
cover_text direction wave sensors steps =
    let ticks = cover_step_ticks * steps in
    let values = direction ∷ wave ∷ sensors ∷ steps ∷ ticks ∷ ticks ∷ [] in
    layout cover_template values values

unfoldable pub request_template : List ℕ
request_template = ascii "housekeeping\n"

-- The settings before are those of the last exposure, or at the start.
unfoldable pub entry_text : Entry → Settings → List ℕ
entry_text (exposure s) before = exposure_text s before
entry_text request before = layout request_template [] []
entry_text (cover_move d w s n) before = cover_text d w s n

-- The settings of the last exposure, once this act is done.
unfoldable pub exposed_by : Entry → Settings → Settings
exposed_by (exposure s) before = s
exposed_by request before = before
exposed_by (cover_move d w s n) before = before
