-- The inspection of every list has room in 262,144 bytes: of alternatives the longest bounds a text.
-- Assumes nothing.
use mathlib.Core.Path.{◌≡◌, refl}
use mathlib.Core.Bool.{Bool, true, false, cond}
use mathlib.Core.List.{List, [], ◌∷◌, ◌++◌}
use Prim.Native.Nat.{ℕ, ◌+◌, ◌*◌, ◌≤◌}
use native.Mathlib.Nat.{suc-mul, mul-le-mul_right}
use native.Mathlib.Omega.{arith}
use borrow.Author.Tests.{leb-true}
use lib.Dec.{eqb}
use lib.ListN.{length, length-append}
use Rattle.words.specs.Kinds as kind
use Rattle.words.specs.Kinds.{identifier, bits_of, kind_of}
use Rattle.words.specs.Codec.{finding_number}
use Rattle.words.specs.Fields.{direction, wave, sensors, steps}
use Rattle.timed.specs.List.{is_list}
use Rattle.timed.proofs.Rising.{list-few}
use Rattle.head.specs.State.{power_on}
use Rattle.head.specs.Busy.{busy_ticks}
use Rattle.head.specs.Word.{answer_of}
use Rattle.head.specs.Numbers.{is_cause}
use Rattle.head.specs.List.{stepped, head_listed}
use Rattle.head.specs.declared.state.Head.{Head}
use Rattle.layout.specs.Numbers.{bit, ascii, hex_of}
use Rattle.layout.specs.Template.{layout}
use Rattle.layout.proofs.Alternatives.{most_from, most_of, layout-most}
use Rattle.names.specs.Kind.{kind_name}
use Rattle.names.proofs.Fitting.{most_kind, kind-few}
use Rattle.registers.specs.Settings.{mirror_template, ir_template, ccd_template, lamps_template, settings_text, pair_template, pair_text}
use Rattle.registers.proofs.Fitting.{most_settings, settings-few}
use Rattle.inspection.specs.Meaning.{data_template, cover_template, unknown_template, range_template, cover_text, value_text, data_text, unknown_text, range_text, meaning_text, kind_text, choice_of, value_of}
use Rattle.inspection.specs.Notes as note
use Rattle.inspection.specs.Notes.{is_exposure, cause_template, cause_shown, cause_text, effect_template, effect_shown, effect_text, stop_template, stopped_task, stop_text, set_template, set_case, told_received, set_text, cover_moves_template, motion_shown, motion_text, effects_text, notes_text}
use Rattle.inspection.specs.Rows.{place_template, outcome_template, tick_text, outcome_text, place_text, saying_text, number_of, word_text, words_text}
use Rattle.inspection.specs.Inspection.{title_template, settings_template, counts_template, title_text, left_text, last_settings, counts_text, end_text, counts_of, inspection_text}
use Rattle.inspection.specs.declared.counts.Counts.{Counts}

-- what a word's data mean
abbrev most_meaning : ℕ
most_meaning = most_of cover_template + most_of data_template + most_of unknown_template + most_of range_template

data-few : (k b : ℕ) → length (data_text k b) ≤ most_meaning
unfolding data_text cover_text value_text
data-few k b = go (eqb k kind.cover)
  where
    go : (x : Bool)
        → length (cond x (layout cover_template (direction b ∷ wave b ∷ sensors b ∷ steps b ∷ []) []) (layout data_template ((2 * k + choice_of k b) ∷ value_of k b ∷ []) []))
        ≤ most_meaning
    go true = omega (arith, layout-most cover_template (direction b ∷ wave b ∷ sensors b ∷ steps b ∷ []) [])
    go false = omega (arith, layout-most data_template ((2 * k + choice_of k b) ∷ value_of k b ∷ []) [])

meaning-few : (w : ℕ) → length (meaning_text w) ≤ most_meaning
unfolding meaning_text unknown_text range_text
meaning-few w = go (eqb (finding_number w) 23) (eqb (finding_number w) 24)
  where
    go : (x y : Bool)
        → length (cond x (layout unknown_template (identifier w ∷ bits_of w ∷ []) []) (cond y (layout range_template (bits_of w ∷ []) []) (data_text (kind_of (identifier w)) (bits_of w))))
        ≤ most_meaning
    go true y = omega (arith, layout-most unknown_template (identifier w ∷ bits_of w ∷ []) [])
    go false true = omega (arith, layout-most range_template (bits_of w ∷ []) [])
    go false false = data-few (kind_of (identifier w)) (bits_of w)

-- the notes below a word
abbrev most_notes : ℕ
most_notes =
    most_of cause_template
    + (most_of effect_template + most_of stop_template)
    + most_of set_template
    + (most_of note.mirror_template + most_of cover_moves_template)

effects-few : (n w : ℕ) (s z : Head) → length (effects_text n w s z) ≤ most_of effect_template + most_of stop_template
unfolding effects_text effect_text stop_text
effects-few n w s z = go (is_cause n)
  where
    effect : List ℕ
    effect = layout effect_template (effect_shown (kind_of (identifier w)) (bits_of w) z.settings z.motion) []

    stop : List ℕ
    stop = layout stop_template (stopped_task (kind_of (identifier w)) s.work.task (busy_ticks s) ∷ busy_ticks s ∷ []) []

    go : (x : Bool) → length (cond x [] (effect ++ stop)) ≤ most_of effect_template + most_of stop_template
    go true = omega arith
    go false =
        omega (
          arith,
          length-append effect stop,
          layout-most effect_template (effect_shown (kind_of (identifier w)) (bits_of w) z.settings z.motion) [],
          layout-most stop_template (stopped_task (kind_of (identifier w)) s.work.task (busy_ticks s) ∷ busy_ticks s ∷ []) [],
        )

set-few : (which received : ℕ) → length (set_text which received) ≤ most_of set_template
unfolding set_text
set-few which received = layout-most set_template (which ∷ told_received which received ∷ []) []

motion-few : (n mirror cover : ℕ) → length (motion_text n mirror cover) ≤ most_of note.mirror_template + most_of cover_moves_template
unfolding motion_text
motion-few n mirror cover =
    omega (
      arith,
      length-append (layout note.mirror_template (motion_shown n mirror) []) (layout cover_moves_template (motion_shown n cover) []),
      layout-most note.mirror_template (motion_shown n mirror) [],
      layout-most cover_moves_template (motion_shown n cover) [],
    )

notes-few : (n w : ℕ) (s z : Head) → length (notes_text n w s z) ≤ most_notes
unfolding notes_text cause_text
notes-few n w s z =
    let cause = layout cause_template (cause_shown n (busy_ticks s) s.motion.cover) [] in
    let effects = effects_text n w s z in
    let case = set_case n (kind_of (identifier w)) s.begun.count z.begun.count in
    let set = set_text case s.begun.count in
    let motion = motion_text n s.motion.mirror s.motion.cover in
    omega (
      arith,
      length-append (cause ++ effects ++ set) motion,
      length-append (cause ++ effects) set,
      length-append cause effects,
      layout-most cause_template (cause_shown n (busy_ticks s) s.motion.cover) [],
      effects-few n w s z,
      set-few case s.begun.count,
      motion-few n s.motion.mirror s.motion.cover,
    )

-- a word's line with its notes
abbrev most_place : ℕ
most_place = most_of place_template + 4 + most_of outcome_template

abbrev most_word : ℕ
most_word = most_place + most_kind + (most_of pair_template + most_meaning) + most_notes

place-few : (line tick w n : ℕ) → length (place_text line tick w n) ≤ most_place
unfolding place_text tick_text outcome_text hex_of
place-few line tick w n =
    omega (
      arith,
      length-append (layout place_template (line ∷ tick ∷ []) [] ++ hex_of w) (layout outcome_template (bit (is_cause n) ∷ n ∷ []) []),
      length-append (layout place_template (line ∷ tick ∷ []) []) (hex_of w),
      layout-most place_template (line ∷ tick ∷ []) [],
      layout-most outcome_template (bit (is_cause n) ∷ n ∷ []) [],
    )

saying-few : (n w sine cosine ticks : ℕ) → length (saying_text n w sine cosine ticks) ≤ most_of pair_template + most_meaning
unfolding saying_text pair_text
saying-few n w sine cosine ticks = go (is_exposure n)
  where
    go : (x : Bool) → length (cond x (layout pair_template (sine ∷ cosine ∷ ticks ∷ []) (sine ∷ cosine ∷ ticks ∷ [])) (meaning_text w)) ≤ most_of pair_template + most_meaning
    go true = omega (arith, layout-most pair_template (sine ∷ cosine ∷ ticks ∷ []) (sine ∷ cosine ∷ ticks ∷ []))
    go false = omega (arith, meaning-few w)

word-few : (line tick w : ℕ) (s : Head) → length (word_text line tick w s) ≤ most_word
unfolding word_text kind_text
word-few line tick w s =
    let n = number_of s w in
    let z = (answer_of s w).head in
    let place = place_text line tick w n in
    let kind = kind_name (kind_of (identifier w)) in
    let saying = saying_text n w z.settings.sine z.settings.cosine (busy_ticks z) in
    omega (
      arith,
      length-append (place ++ kind ++ saying) (notes_text n w s z),
      length-append (place ++ kind) saying,
      length-append place kind,
      place-few line tick w n,
      kind-few (kind_of (identifier w)),
      saying-few n w z.settings.sine z.settings.cosine (busy_ticks z),
      notes-few n w s z,
    )

words-few : (line : ℕ) (ws ts : List ℕ) (s : Head) → length (words_text line ws ts s) ≤ length ws * most_word
unfolding words_text
words-few line [] ts s = omega arith
words-few line (w ∷ ws) [] s = omega arith
words-few line (w ∷ ws) (t ∷ ts) s =
    let rest = words_text (line + 1) ws ts (stepped s w t ts) in
    omega (
      arith,
      length-append (word_text line t w s) rest,
      word-few line t w s,
      words-few (line + 1) ws ts (stepped s w t ts),
      suc-mul (length ws) most_word,
    )

-- the end
abbrev most_end : ℕ
most_end = most_of set_template + (most_of settings_template + most_settings) + most_of counts_template

end-few : (z : Head) (words : ℕ) (c : Counts) → length (end_text z words c) ≤ most_end
unfolding end_text left_text last_settings counts_text
end-few z words c =
    let which : ℕ = cond (eqb z.begun.count 0) 0 4 in
    let left = set_text which z.begun.count in
    let settings = settings_text z.settings power_on.settings in
    let title = layout settings_template [] [] in
    let values = words ∷ c.ignored ∷ c.exposures ∷ c.incomplete ∷ c.moving ∷ [] in
    omega (
      arith,
      length-append (left ++ (title ++ settings)) (layout counts_template values []),
      length-append left (title ++ settings),
      length-append title settings,
      set-few which z.begun.count,
      layout-most settings_template [] [],
      settings-few z.settings power_on.settings,
      layout-most counts_template values [],
    )

abbrev most_text : ℕ
most_text = most_of title_template + 256 * most_word + most_end

all-few : most_text ≤ 262144
unfolding most_from ascii data_template cover_template unknown_template range_template cause_template effect_template stop_template set_template
    note.mirror_template cover_moves_template place_template outcome_template pair_template title_template settings_template counts_template mirror_template
    ir_template ccd_template lamps_template
all-few = leb-true most_text 262144 refl

-- the inspection of every list
pub inspection-fits : (ws ts : List ℕ) → is_list ws ts ≡ true → length (inspection_text ws ts) ≤ 262144
unfolding inspection_text title_text
inspection-fits ws ts fits =
    let title = layout title_template [] [] in
    let lines = words_text 2 ws ts power_on in
    let end = end_text (head_listed ws ts power_on) (length ws) (counts_of ws ts) in
    let each = mul-le-mul_right most_word (list-few ws ts fits) in
    omega (
      arith,
      all-few,
      length-append (title ++ lines) end,
      length-append title lines,
      layout-most title_template [] [],
      words-few 2 ws ts power_on,
      each,
      end-few (head_listed ws ts power_on) (length ws) (counts_of ws ts),
    )
