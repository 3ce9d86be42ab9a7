-- Document 01, "The head": the numbers of ticks that time the head, and its limits. A tick is 10 ms.
-- Assumes nothing.
use Rattle.std.specs.Prelude.{ℕ, ◌+◌, ◌*◌, max, cond, eqb}
use Rattle.head.specs.declared.state.Settings.{Settings}

-- COS L in turn, and SWITCH on, start 66 ticks of mirror motion (document 02, request P3; document 01 has 30).
abbrev pub mirror_ticks : ℕ
mirror_ticks = 66

-- COVER with n steps starts 25 n ticks of cover motion.
abbrev pub cover_step_ticks : ℕ
cover_step_ticks = 25

-- HK keeps the head busy 3 ticks.
abbrev pub hk_ticks : ℕ
hk_ticks = 3

-- The ticks of one step of a delay or an exposure.
abbrev pub step_ticks : ℕ
step_ticks = 2

abbrev pub ccd_readout : ℕ
ccd_readout = 145

-- R: 140 full, 60 reduced.
abbrev pub full_readout : ℕ
full_readout = 140

abbrev pub reduced_readout : ℕ
reduced_readout = 60

unfoldable pub readout_of : ℕ → ℕ
readout_of mode = cond (eqb mode 0) full_readout reduced_readout

-- The 1 in an acquisition's length: the repetition must be strictly longer.
abbrev pub extra_ticks : ℕ
extra_ticks = 1

-- Length of an acquisition in ticks.
unfoldable pub length_by : ℕ → ℕ → ℕ → ℕ → ℕ → ℕ
length_by mode irdelay irexpo ccddelay ccdexpo =
    extra_ticks + max (step_ticks * (ccddelay + ccdexpo) + ccd_readout) (step_ticks * (irdelay + irexpo) + readout_of mode)

unfoldable pub length_of : Settings → ℕ
unfolding length_by
length_of s = length_by s.mode s.irdelay s.irexpo s.ccddelay s.ccdexpo

-- The least data of a CCD DELAY word, 0.1 s.
abbrev pub least_ccd_delay : ℕ
least_ccd_delay = 5

-- The largest data of a delay or an exposure word.
abbrev pub most_time : ℕ
most_time = 0x3FF

-- It lies in 156..4238: the shortest has the CCD's least delay, and the longest both of its times at their largest.
abbrev pub shortest : ℕ
shortest = extra_ticks + (step_ticks * least_ccd_delay + ccd_readout)

abbrev pub longest : ℕ
longest = extra_ticks + (step_ticks * (most_time + most_time) + ccd_readout)
