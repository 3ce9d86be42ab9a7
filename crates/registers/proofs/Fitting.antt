-- The settings are no longer than their templates.
-- Assumes nothing.
use mathlib.Core.List.{◌++◌}
use Prim.Native.Nat.{ℕ, ◌+◌, ◌≤◌}
use native.Mathlib.Omega.{arith}
use lib.ListN.{length, length-append}
use Rattle.head.specs.declared.state.Settings.{Settings}
use Rattle.layout.proofs.Widths.{layout-few}
use Rattle.registers.specs.Settings.{mirror_template, ir_template, ccd_template, lamps_template, mirror_shown, ir_shown, ccd_shown, lamps_shown, mirror_text, ir_text, ccd_text, lamps_text, settings_text}

abbrev pub most_settings : ℕ
most_settings = length mirror_template + length ir_template + length ccd_template + length lamps_template

pub settings-few : (s before : Settings) → length (settings_text s before) ≤ most_settings
unfolding settings_text mirror_text ir_text ccd_text lamps_text
settings-few s before =
    omega (
      arith,
      length-append (mirror_text s before ++ ir_text s before ++ ccd_text s before) (lamps_text s before),
      length-append (mirror_text s before ++ ir_text s before) (ccd_text s before),
      length-append (mirror_text s before) (ir_text s before),
      layout-few mirror_template (mirror_shown s) (mirror_shown before),
      layout-few ir_template (ir_shown s) (ir_shown before),
      layout-few ccd_template (ccd_shown s) (ccd_shown before),
      layout-few lamps_template (lamps_shown s) (lamps_shown before),
    )
