-- Document 02, request P6: what merging answers, the rest that it hands back, and every place of the output.
-- Assumes nothing.
use Rattle.std.specs.Prelude.{ℕ, ◌+◌, ◌-◌, cond, not, ◌&&◌, List, [], ◌++◌, ltb, length, drop, Result, Ok, Err}
use Rattle.words.specs.Kinds.{ccd, infrared}
use Rattle.timed.specs.List.{rising}
use Rattle.merge.specs.Merge.{ticks_in, merged_part, ccd_rest, infrared_rest, share_tick}
use Rattle.merge.specs.declared.answer.Parts.{Parts}
use Rattle.merge.specs.declared.answer.MergeError.{MergeError}
use Rattle.merge.specs.declared.answer.MergeError.TheVariants.{NotRising, SameTick, TooShort}
use Rattle.merge.specs.declared.answer.Merged.{Merged}

-- How many entries of each list the merged part has.
unfoldable pub ccd_count : List ℕ → List ℕ → ℕ
ccd_count xs ys = length xs - length (ccd_rest xs ys)

unfoldable pub infrared_count : List ℕ → List ℕ → ℕ
infrared_count xs ys = length ys - length (infrared_rest xs ys)

-- Or why there is no merged part: a list whose ticks do not strictly rise, the same tick in both, an output with too little room for it.
unfoldable pub merging_of : List ℕ → List ℕ → ℕ → Result Parts MergeError
merging_of xs ys room =
    cond (not (rising (ticks_in xs) && rising (ticks_in ys))) (Err NotRising)
    (cond (share_tick xs ys) (Err SameTick)
    (cond (ltb room (length (merged_part xs ys))) (Err TooShort) (Ok (record { ccd = ccd_count xs ys; infrared = infrared_count xs ys }))))

abbrev pub merge_error_number : MergeError → ℕ
merge_error_number NotRising = 52
merge_error_number SameTick = 53
merge_error_number TooShort = 54

-- 0 where the lists are merged.
abbrev pub merging_number : Result Parts MergeError → ℕ
merging_number (Ok parts) = 0
merging_number (Err error) = merge_error_number error

-- The same numbers from the lists themselves, in the order of the checks.
unfoldable pub merge_number : List ℕ → List ℕ → ℕ → ℕ
merge_number xs ys room =
    cond (not (rising (ticks_in xs) && rising (ticks_in ys))) 52
    (cond (share_tick xs ys) 53
    (cond (ltb room (length (merged_part xs ys))) 54 0))

-- The rest of the list that has not run out; where both end, the empty rest of the infrared list.
unfoldable pub rest_of : List ℕ → List ℕ → List ℕ
rest_of xs ys = cond (ltb 0 (length (ccd_rest xs ys))) (ccd_rest xs ys) (infrared_rest xs ys)

-- A refusal hands back the empty end of the infrared list.
unfoldable pub rest_after : Result Parts MergeError → List ℕ → List ℕ → List ℕ
rest_after (Ok parts) xs ys = rest_of xs ys
rest_after (Err error) xs ys = []

-- The output: the merged part in the first places, and every other as it was; a refusal writes nothing.
unfoldable pub output_after : Result Parts MergeError → List ℕ → List ℕ → List ℕ
output_after (Ok parts) part old = part ++ drop (length part) old
output_after (Err error) part old = old

-- Whose list the rest is of.
unfoldable pub rest_list : Result Parts MergeError → List ℕ → ℕ
rest_list (Ok parts) xs = cond (ltb parts.ccd (length xs)) ccd infrared
rest_list (Err error) xs = infrared

-- And where it starts there.
unfoldable pub rest_start : Result Parts MergeError → List ℕ → List ℕ → ℕ
rest_start (Ok parts) xs ys = cond (ltb parts.ccd (length xs)) parts.ccd parts.infrared
rest_start (Err error) xs ys = length ys

-- How many entries are merged.
unfoldable pub merged_count : Result Parts MergeError → ℕ
merged_count (Ok parts) = parts.ccd + parts.infrared
merged_count (Err error) = 0

-- All of these in numbers.
unfoldable pub merged_of : Result Parts MergeError → List ℕ → List ℕ → Merged
merged_of a xs ys = record { number = merging_number a; list = rest_list a xs; count = merged_count a; start = rest_start a xs ys }
