-- Document 01, "Examples": the text of its listing, whole, with the ticks of request P3.
-- Assumes nothing.
use Prim.Native.Nat.{ℕ}
use mathlib.Core.Path.{◌≡◌, refl}
use mathlib.Core.List.{List, [], ◌∷◌}
use Rattle.words.specs.Kinds.{rows, kind_from, kind_of, kinds, least, greatest, allowed}
use Rattle.words.specs.Codec.{decode_of, judged, word_of}
use Rattle.head.specs.Limits.{length_of, readout_of}
use Rattle.head.specs.Range.{all_pass, register_tests, latch_tests, flag_tests, motion_tests, place, begun_tests, work_in_range, in_range}
use Rattle.head.specs.Apply.{after, act_of}
use Rattle.head.specs.Word.{out_of_turn, on_word, on_decoded, answer_of}
use Rattle.head.specs.Tick.{task_of, tick_of, ticks_of, passed}
use Rattle.orders.specs.Codes.{count_of, width_of, known, length_of as order_length, within, related, fields_fit}
use Rattle.orders.specs.Words.{sine_register, words_of, items_of, items_of_all}
use Rattle.plan.specs.Stored.{field_at, order_at, fault_at, header_fault, orders_from, plan_of}
use Rattle.head.specs.Busy.{busy_ticks, is_busy, at_rest}
use Rattle.schedule.specs.Earliest.{is_taken, ready, delay_within, delay_of}
use Rattle.schedule.specs.Schedule.{readied, span_of, sent, schedule_from}
use Rattle.schedule.specs.Translate.{fit, schedule_of, answer_of_plan, translate_of}
use Rattle.layout.specs.Numbers.{ascii, decimal_within, decimal_of, hex_digit, hex_of}
use Rattle.text.specs.Lines.{head_text, head_line, timed_text, word_line, word_lines, end_text, end_line}
use Rattle.text.specs.Listing.{listing_of, plan_text, listed_by, listed_of, answer_text, printed_for}

abbrev pub example : List ℕ
example = 0x01 ∷ 0x00 ∷ 0x0A ∷ 0x05 ∷ 0x0C ∷ 0xFF ∷ 0x00 ∷ 0x0F ∷ 0xF8 ∷ 0x01 ∷ 0x0F ∷ 0x01 ∷ 0x10 ∷ []

pub example-listed : printed_for example ≡ ascii "tick word\n0 2011\n1 A000\n2 600F\n3 E0F8\n69 8000\n227 4000\nend 230\n"
unfolding printed_for answer_text listed_of listed_by plan_text listing_of head_line head_text word_lines word_line timed_text end_line end_text ascii decimal_of decimal_within hex_of hex_digit
    translate_of answer_of_plan fit schedule_of schedule_from readied span_of sent ready busy_ticks is_busy at_rest is_taken delay_of delay_within
    plan_of header_fault orders_from fault_at order_at field_at count_of width_of known order_length fields_fit within related
    items_of_all items_of words_of sine_register answer_of on_decoded on_word out_of_turn after act_of task_of tick_of ticks_of passed
    in_range all_pass register_tests latch_tests flag_tests motion_tests place begun_tests work_in_range length_of readout_of
    decode_of judged kind_of kind_from kinds rows least greatest allowed word_of
example-listed = refl
