-- Document 01, "The words": the 28 kinds of command word, numbered in the order of its table read row by row, and the words of each.
-- Assumes nothing.
use Rattle.std.specs.Prelude.{ℕ, suc, ◌/◌, ◌%◌, Bool, cond, not, ◌&&◌, ◌||◌, List, [], ◌∷◌, leb, eqb, get_or}
use Rattle.words.specs.Fields.{steps}

-- Who gives the words of a kind (document 02, request P6): the CCD operator ("one conductor" there), the infrared operator ("the other"),
-- or the controller ("the desk").
abbrev pub ccd : ℕ
ccd = 0

abbrev pub infrared : ℕ
infrared = 1

abbrev pub controller : ℕ
controller = 2

-- A number that is no kind has no group.
abbrev pub no_group : ℕ
no_group = 3

-- The first and the last word of a kind, and its group.
pub record Row : Type 0 where
  pub first : ℕ
  pub last : ℕ
  pub group : ℕ

abbrev pub row : ℕ → ℕ → ℕ → Row
row a b g = record { first = a; last = b; group = g }

unfoldable pub rows : List Row
rows =
    row 0x0000 0x0000 controller  --  0 NOP
    ∷ row 0x8000 0x8000 controller  --  1 START
    ∷ row 0x4000 0x4000 controller  --  2 HK
    ∷ row 0xC000 0xC000 controller  --  3 STOP
    ∷ row 0xD800 0xD801 infrared  --  4 IR DETECTOR
    ∷ row 0x9000 0x9001 infrared  --  5 IR WIN MODE
    ∷ row 0xD000 0xD00F infrared  --  6 VDETCOM M
    ∷ row 0x3000 0x30FF infrared  --  7 VDETCOM L
    ∷ row 0xB000 0xB00F infrared  --  8 VDETADJ M
    ∷ row 0x7000 0x70FF infrared  --  9 VDETADJ L
    ∷ row 0xF000 0xF3FF infrared  -- 10 IR DELAY
    ∷ row 0x0800 0x0BFF infrared  -- 11 IR EXPO
    ∷ row 0x2800 0x2BFF ccd  -- 12 WIN X1
    ∷ row 0xA800 0xA9FF ccd  -- 13 WIN Y1
    ∷ row 0x6800 0x6BFF ccd  -- 14 WIN X2
    ∷ row 0xE800 0xE9FF ccd  -- 15 WIN Y2
    ∷ row 0x1805 0x1BFF ccd  -- 16 CCD DELAY
    ∷ row 0x9800 0x9BFF ccd  -- 17 CCD EXPO
    ∷ row 0x5800 0x5807 ccd  -- 18 CCD LAMP
    ∷ row 0x8800 0x881F infrared  -- 19 IR LAMP
    ∷ row 0xC800 0xC81F infrared  -- 20 SHUTTER
    ∷ row 0x4800 0x487F infrared  -- 21 ANNEALING
    ∷ row 0x2000 0x201F infrared  -- 22 SIN M
    ∷ row 0xA000 0xA0FF infrared  -- 23 SIN L
    ∷ row 0x6000 0x600F infrared  -- 24 COS M
    ∷ row 0xE000 0xE0FF infrared  -- 25 COS L
    ∷ row 0x5000 0x5001 infrared  -- 26 SWITCH
    ∷ row 0x1000 0x13FF infrared  -- 27 COVER
    ∷ []

-- The kinds by name.
abbrev pub nop : ℕ
nop = 0

abbrev pub start : ℕ
start = 1

abbrev pub hk : ℕ
hk = 2

abbrev pub stop : ℕ
stop = 3

abbrev pub ir_detector : ℕ
ir_detector = 4

abbrev pub ir_win_mode : ℕ
ir_win_mode = 5

abbrev pub vdetcom_m : ℕ
vdetcom_m = 6

abbrev pub vdetcom_l : ℕ
vdetcom_l = 7

abbrev pub vdetadj_m : ℕ
vdetadj_m = 8

abbrev pub vdetadj_l : ℕ
vdetadj_l = 9

abbrev pub ir_delay : ℕ
ir_delay = 10

abbrev pub ir_expo : ℕ
ir_expo = 11

abbrev pub win_x1 : ℕ
win_x1 = 12

abbrev pub win_y1 : ℕ
win_y1 = 13

abbrev pub win_x2 : ℕ
win_x2 = 14

abbrev pub win_y2 : ℕ
win_y2 = 15

abbrev pub ccd_delay : ℕ
ccd_delay = 16

abbrev pub ccd_expo : ℕ
ccd_expo = 17

abbrev pub ccd_lamp : ℕ
ccd_lamp = 18

abbrev pub ir_lamp : ℕ
ir_lamp = 19

abbrev pub shutter : ℕ
shutter = 20

abbrev pub annealing : ℕ
annealing = 21

abbrev pub sin_m : ℕ
sin_m = 22

abbrev pub sin_l : ℕ
sin_l = 23

abbrev pub cos_m : ℕ
cos_m = 24

abbrev pub cos_l : ℕ
cos_l = 25

abbrev pub switch : ℕ
switch = 26

abbrev pub cover : ℕ
cover = 27

-- What stands at a number that is no kind: a row with no words.
abbrev pub row_of : ℕ → Row
row_of k = get_or rows k (row 1 0 no_group)

-- Identifier = top 6 bits, data = low 10.
abbrev pub identifier : ℕ → ℕ
identifier w = w / 1024

abbrev pub bits_of : ℕ → ℕ
bits_of w = w % 1024

unfoldable pub least : ℕ → ℕ
unfolding rows
least k = bits_of (row_of k).first

unfoldable pub greatest : ℕ → ℕ
unfolding rows
greatest k = bits_of (row_of k).last

-- The group of a kind (document 02, request P6).
unfoldable pub group_of : ℕ → ℕ
group_of k = (row_of k).group

-- The largest number of steps in a COVER word.
abbrev pub most_steps : ℕ
most_steps = 81

-- Data d is allowed in a word of kind k: from the first word's to the last word's, and in COVER with steps 0-81.
unfoldable pub allowed : ℕ → ℕ → Bool
allowed k d = leb (least k) d && leb d (greatest k) && (not (eqb k cover) || leb (steps d) most_steps)

-- The kind whose words have identifier i: the first of these rows, the kth of the table on; past the table there is none.
unfoldable pub kind_from : List Row → ℕ → ℕ → ℕ
kind_from [] k i = k
kind_from (r ∷ rs) k i = let later = kind_from rs (suc k) i in cond (eqb (identifier r.first) i) k later

unfoldable pub kinds : ℕ
kinds = 28

unfoldable pub kind_of : ℕ → ℕ
kind_of i = kind_from rows 0 i
