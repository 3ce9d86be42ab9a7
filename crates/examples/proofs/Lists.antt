-- Every row about the two lists holds.
-- Assumes nothing.
use lib.Dec.{T}
use Rattle.words.specs.Kinds.{rows, kind_from, kind_of, kinds, least, greatest, allowed}
use Rattle.words.specs.Codec.{decode_of, judged}
use Rattle.head.specs.Limits.{length_of, readout_of}
use Rattle.head.specs.Range.{all_pass, register_tests, latch_tests, flag_tests, motion_tests, place, begun_tests, work_in_range, in_range}
use Rattle.head.specs.Flags.{out_of_range_flags}
use Rattle.head.specs.Apply.{after, act_of}
use Rattle.head.specs.Busy.{busy_ticks, is_busy}
use Rattle.head.specs.Word.{out_of_turn, on_word, on_decoded, answer_of}
use Rattle.head.specs.Tick.{task_of, tick_of, ticks_of, passed}
use Rattle.head.specs.Numbers.{act_number, cause_number, outcome_number}
use Rattle.head.specs.List.{gap_after, stepped, head_listed, outcomes_listed, numbers_listed}
use Rattle.examples.specs.Starred.{hold}
use Rattle.examples.specs.Lists.{beside, seen, list_table}

pub lists : T (hold list_table)
unfolding hold list_table beside seen
    head_listed outcomes_listed numbers_listed stepped gap_after outcome_number act_number cause_number
    answer_of on_decoded on_word out_of_turn after act_of out_of_range_flags task_of tick_of ticks_of passed busy_ticks is_busy
    in_range all_pass register_tests latch_tests flag_tests motion_tests place begun_tests work_in_range length_of readout_of
    decode_of judged kind_of kind_from kinds rows least greatest allowed
lists = tt
