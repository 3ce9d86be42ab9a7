-- The code's tables of the status words are the definition's.
-- Assumes nothing.
use mathlib.Core.Path.{◌≡◌, refl}
use Rattle.status.specs.Status.{lamp_shutter_fields, sine_fields, ir_flag_fields, vis_flag_fields}
use Rattle.status.specs.declared.tables.TheConstants.{LAMP_SHUTTER, SINE, IR_FLAGS, VIS_FLAGS}

pub lamp-shutter-table : LAMP_SHUTTER ≡ lamp_shutter_fields
unfolding lamp_shutter_fields
lamp-shutter-table = refl

pub sine-table : SINE ≡ sine_fields
unfolding sine_fields
sine-table = refl

pub ir-flags-table : IR_FLAGS ≡ ir_flag_fields
unfolding ir_flag_fields
ir-flags-table = refl

pub vis-flags-table : VIS_FLAGS ≡ vis_flag_fields
unfolding vis_flag_fields
vis-flags-table = refl
