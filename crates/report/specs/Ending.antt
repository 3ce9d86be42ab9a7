-- The last lines of a report: the head at the end, what still moves, and whether all is as the plan says.
-- Assumes nothing.
use Rattle.std.specs.Prelude.{ℕ, Bool, not, ◌&&◌, List, [], ◌∷◌, ◌++◌, eqb}
use Rattle.head.specs.declared.state.FlagBits.{FlagBits}
use Rattle.head.specs.declared.state.Settings.{Settings}
use Rattle.head.specs.declared.state.Head.{Head}
use Rattle.layout.specs.Numbers.{bit, ascii}
use Rattle.layout.specs.Template.{layout}
use Rattle.registers.specs.Settings.{settings_text}
use Rattle.report.specs.Opening.{flags_shown}
use Rattle.report.specs.declared.ending.Outcome.{Outcome}

unfoldable pub end_template : List ℕ
end_template =
    ascii "\n"
    ++ ascii "end    #######  %%%%%%%%\n"
    ++ ascii "settings at the end; * marks what is new since the start\n"

-- The end in ticks and seconds, and the settings then, marked where they are others than at the start.
unfoldable pub end_text : ℕ → Settings → Settings → List ℕ
end_text end last start = layout end_template (end ∷ end ∷ []) [] ++ settings_text last start

unfoldable pub mirror_template : List ℕ
mirror_template = ascii "mirror    {at rest|moves for @@ ticks more, %%%% s; until then the next plan is refused with 1}\n"

unfoldable pub cover_template : List ℕ
cover_template = ascii "cover     {at rest|moves for @@@@ ticks more, %%%%% s; until then the next plan is refused with 1}\n"

abbrev pub motion_shown : ℕ → List ℕ
motion_shown n = bit (not (eqb n 0)) ∷ n ∷ n ∷ []

-- The ticks of motion that mirror and cover have left.
unfoldable pub motion_text : ℕ → ℕ → List ℕ
motion_text mirror cover = layout mirror_template (motion_shown mirror) [] ++ layout cover_template (motion_shown cover) []

unfoldable pub same_flags : FlagBits → FlagBits → Bool
same_flags f g =
    eqb f.irtime g.irtime && eqb f.irword g.irword && eqb f.scan g.scan
    && eqb f.vistime g.vistime && eqb f.visword g.visword

unfoldable pub flags_template : List ℕ
flags_template = ascii "flags    { none|}{| IR time}{| IR word}{| scan}{| VIS time}{| VIS word}"

unfoldable pub since_template : List ℕ
since_template = ascii ", {cleared when blocks were due|as at the start}\n"

-- The flags at the end. No word of an accepted plan changes one; blocks that are due clear them.
unfoldable pub flags_text : FlagBits → FlagBits → List ℕ
flags_text start last =
    let values = bit (same_flags start last) ∷ [] in
    layout flags_template (flags_shown last) (flags_shown last) ++ layout since_template values values

unfoldable pub words_template : List ℕ
words_template = ascii "words     @@@ of @@@ taken\n"

unfoldable pub reading_template : List ℕ
reading_template = ascii "reading   acts and settings are {NOT |}those of the plan read without words\n"

unfoldable pub words_text : ℕ → ℕ → List ℕ
words_text taken words = layout words_template (taken ∷ words ∷ []) []

unfoldable pub reading_text : Bool → List ℕ
reading_text equal = layout reading_template (bit equal ∷ []) []

-- Whether every word was taken, the flags stand as at the start, and the head did what the plan says.
unfoldable pub checks_text : Outcome → FlagBits → FlagBits → List ℕ
checks_text o start last = words_text o.taken o.words ++ flags_text start last ++ reading_text o.equal

-- The head at the start and at the end, and what came of the plan.
unfoldable pub ending_text : Head → Head → Outcome → List ℕ
ending_text start last o =
    end_text o.end last.settings start.settings
    ++ motion_text last.motion.mirror last.motion.cover
    ++ checks_text o start.flags last.flags
