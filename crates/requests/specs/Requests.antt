-- Source document 000, section 4.2, and document 02, request P5: the requests of the high-resolution head (PEM-H), numbered in the order
-- of 000's table.
-- Assumes nothing.
use Rattle.std.specs.Prelude.{ℕ, ◌-◌, ◌/◌, ◌%◌, ◌^◌, Bool, ◌&&◌, List, [], ◌∷◌, leb, get_or}
use Rattle.requests.specs.declared.table.Row.{Row}
use Rattle.requests.specs.Parameters.{composed, mode_fields, lamp_fields, cover_fields}

-- Any value of so many bits, and one value alone.
abbrev pub bits : ℕ → ℕ → Row
bits c n = record { code = c; least = 0; most = 2 ^ n - 1 }

abbrev pub only : ℕ → ℕ → Row
only c v = record { code = c; least = v; most = v }

-- Any values of the fields, up to the greatest of each.
abbrev pub up_to : ℕ → ℕ → Row
up_to c v = record { code = c; least = 0; most = v }

-- Configuration, pixel map, mode, acquisition, peripherals, cover and testing requests.
unfoldable pub rows : List Row
rows =
    bits 0b001000 8  --  0 HSET_Bias
    ∷ bits 0b001001 8  --  1 HSET_I_Lamp_Spect_T
    ∷ bits 0b001001 8  --  2 HSET_I_Lamp_Spect_S
    ∷ bits 0b001001 8  --  3 HSET_I_Lamp_Radio
    ∷ bits 0b001010 8  --  4 HSET_I_Shutter
    ∷ bits 0b010100 10  --  5 HSET_Int_Num1
    ∷ bits 0b010101 8  --  6 HSET_Int_Num2
    ∷ only 0b001110 0  --  7 HINIT_Pix_Map_Upld
    ∷ only 0b001110 0  --  8 HINIT_Pix_Map_Dnld
    ∷ bits 0b001100 8  --  9 HSET_Pix_Map_Data
    ∷ only 0b001101 0  -- 10 HDNLD_Pix_Map_Data
    ∷ up_to 0b011010 (composed mode_fields (1 ∷ 1 ∷ []))  -- 11 HSET_PEM_Mode
    ∷ only 0b000000 0  -- 12 HNOP
    ∷ only 0b000001 0  -- 13 HSTART_S
    ∷ only 0b000010 0  -- 14 HSTART_HK
    ∷ only 0b000011 0  -- 15 HSTOP_Readout
    ∷ only 0b001000 0  -- 16 HRESYNC: drawn 00100, and a 0 after the last bit drawn (house)
    ∷ only 0b010001 1  -- 17 HSET_Det/On
    ∷ only 0b010001 0  -- 18 HSET_Det/Off
    ∷ only 0b011011 1  -- 19 HSET_Shutter/On
    ∷ only 0b011011 0  -- 20 HSET_Shutter/Off
    ∷ bits 0b011111 1  -- 21 HSET_Shutter_Status
    ∷ only 0b011100 1  -- 22 HSET_FPA_Htr/On
    ∷ only 0b011100 0  -- 23 HSET_FPA_Htr/Off
    ∷ only 0b011101 (composed lamp_fields (1 ∷ 0 ∷ 0 ∷ []))  -- 24 HSET_Lamp_Spect_T/On
    ∷ only 0b011101 (composed lamp_fields (0 ∷ 1 ∷ 0 ∷ []))  -- 25 HSET_Lamp_Spect_S/On
    ∷ only 0b011101 (composed lamp_fields (0 ∷ 0 ∷ 1 ∷ []))  -- 26 HSET_Lamp_Radio/On
    ∷ only 0b011101 (composed lamp_fields (0 ∷ 0 ∷ 0 ∷ []))  -- 27 HSET_Cal/Off
    ∷ only 0b011110 1  -- 28 HSET_Det_Temp/On
    ∷ only 0b011110 0  -- 29 HSET_Det_Temp/Off
    ∷ up_to 0b010010 (composed cover_fields (1 ∷ 1 ∷ 1 ∷ 127 ∷ []))  -- 30 HSET_Cover
    ∷ bits 0b010011 10  -- 31 HSET_Test_Init
    ∷ []

abbrev pub requests : ℕ
requests = 32

-- Those that share words with others, by name.
abbrev pub hset_bias : ℕ
hset_bias = 0

abbrev pub hset_i_lamp_spect_t : ℕ
hset_i_lamp_spect_t = 1

abbrev pub hset_i_lamp_spect_s : ℕ
hset_i_lamp_spect_s = 2

abbrev pub hset_i_lamp_radio : ℕ
hset_i_lamp_radio = 3

abbrev pub hinit_pix_map_upld : ℕ
hinit_pix_map_upld = 7

abbrev pub hinit_pix_map_dnld : ℕ
hinit_pix_map_dnld = 8

abbrev pub hresync : ℕ
hresync = 16

-- What stands at a number that is no request: a code that no word has, and no value.
abbrev pub row_of : ℕ → Row
row_of k = get_or rows k (record { code = 64; least = 1; most = 0 })

-- Whether a row allows a value of its parameter.
unfoldable pub allows : Row → ℕ → Bool
allows r v = leb r.least v && leb v r.most

-- The code is the top 6 bits of a word, the parameter the low 10.
abbrev pub code_in : ℕ → ℕ
code_in w = w / 1024

abbrev pub value_in : ℕ → ℕ
value_in w = w % 1024
