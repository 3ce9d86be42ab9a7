-- Every row of the table holds.
-- Assumes nothing.
use lib.Dec.{T}
use Rattle.words.specs.Kinds.{rows, kind_from, kind_of, kinds, least, greatest, allowed}
use Rattle.words.specs.Codec.{decode_of, judged, decode_error_number, decoded_number, word_of}
use Rattle.head.specs.Limits.{length_of, readout_of}
use Rattle.head.specs.Range.{all_pass, register_tests, latch_tests, flag_tests, motion_tests, place, begun_tests, work_in_range, in_range}
use Rattle.head.specs.Flags.{out_of_range_flags}
use Rattle.head.specs.Apply.{after, act_of}
use Rattle.head.specs.Word.{out_of_turn, on_word, on_decoded, answer_of}
use Rattle.head.specs.Tick.{task_of, tick_of, ticks_of, passed}
use Rattle.head.specs.Numbers.{act_number, cause_number, outcome_number}
use Rattle.status.specs.Status.{lamp_shutter_word, lamp_shutter_fields, ir_flag_word, ir_flag_fields, sine_word, sine_in, sine_fields, vis_flag_word, vis_flag_fields, composed, values_in}
use Rattle.blocks.specs.Written.{written_of, written_if, buffer_after}
use Rattle.blocks.specs.Ir.{ir_block_of, ir_shown, ir_status}
use Rattle.blocks.specs.Ccd.{ccd_block_of, ccd_shown, ccd_status}
use Rattle.due.specs.Due.{acquisition, both_written_of, ir_due_after, ccd_due_after}
use Rattle.orders.specs.Codes.{count_of, width_of, known, length_of as order_length, within, related, fields_fit}
use Rattle.orders.specs.Words.{sine_register, words_of, items_of, items_of_all}
use Rattle.plan.specs.Stored.{field_at, order_at, fault_at, header_fault, orders_from, plan_of}
use Rattle.head.specs.Busy.{busy_ticks, is_busy, at_rest}
use Rattle.schedule.specs.Earliest.{is_taken, ready, delay_within, delay_of}
use Rattle.schedule.specs.Schedule.{readied, span_of, sent, schedule_from}
use Rattle.schedule.specs.Translate.{fit, schedule_of, answer_of_plan, translate_of}
use Rattle.examples.specs.Starred.{hold, table, after_words, answered, housekept, ir_housekept, ccd_housekept}

pub starred : T (hold table)
unfolding hold table after_words answered housekept ir_housekept ccd_housekept
    outcome_number act_number cause_number answer_of on_decoded on_word out_of_turn after act_of out_of_range_flags task_of tick_of ticks_of passed
    in_range all_pass register_tests latch_tests flag_tests motion_tests place begun_tests work_in_range length_of readout_of
    decoded_number decode_error_number decode_of judged kind_of kind_from kinds rows least greatest allowed word_of
    ir_due_after ccd_due_after both_written_of written_of written_if buffer_after acquisition ir_block_of ir_shown ir_status ccd_block_of ccd_shown
    ccd_status lamp_shutter_word lamp_shutter_fields ir_flag_word ir_flag_fields sine_word sine_in sine_fields vis_flag_word vis_flag_fields composed
    values_in
    translate_of answer_of_plan fit schedule_of schedule_from readied span_of sent ready busy_ticks is_busy at_rest is_taken delay_of delay_within
    plan_of header_fault orders_from fault_at order_at field_at count_of width_of known order_length fields_fit within related
    items_of_all items_of words_of sine_register
starred = tt
