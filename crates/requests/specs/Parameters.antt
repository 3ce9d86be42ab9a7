-- Source document 000, section 4.2: the fields that are drawn in a request's parameter, bit 0 being its lowest.
-- Assumes nothing.
use Rattle.std.specs.Prelude.{List, [], ◌∷◌}
use Rattle.bitfields.specs.declared.Field.{Field}
use Rattle.bitfields.specs.Fields.{field}
unfoldable pub use Rattle.bitfields.specs.Fields.{composed}

-- HSET_PEM_Mode: BB
unfoldable pub mode_fields : List Field
mode_fields =
    field 0 1  -- 0 all matrix; 8 orders where it is 0
    ∷ field 1 1  -- 1 simulation; observation where it is 0
    ∷ []

-- HSET_Lamp_Spect_T/On, HSET_Lamp_Spect_S/On, HSET_Lamp_Radio/On, HSET_Cal/Off: which of the three lamps is on
unfoldable pub lamp_fields : List Field
lamp_fields =
    field 0 1  -- 0 Spect_T
    ∷ field 1 1  -- 1 Spect_S
    ∷ field 2 1  -- 2 Radio
    ∷ []

-- HSET_Cover: VV VVVV VSTD
unfoldable pub cover_fields : List Field
cover_fields =
    field 0 1  -- 0 D: direction, 1 opens
    ∷ field 1 1  -- 1 T: wave, 1 is one wave, 0 half wave
    ∷ field 2 1  -- 2 S: Hall sensors enabled
    ∷ field 3 7  -- 3 V: number of steps
    ∷ []
