-- The first lines of a report: the plan, and the state from which it was computed.
-- Assumes nothing.
use Rattle.std.specs.Prelude.{ℕ, Bool, not, ◌&&◌, List, [], ◌∷◌, ◌++◌, eqb}
use Rattle.head.specs.State.{power_on}
use Rattle.head.specs.Row.{numbers_of}
use Rattle.head.specs.declared.state.FlagBits.{FlagBits}
use Rattle.head.specs.declared.state.Settings.{Settings}
use Rattle.head.specs.declared.state.Head.{Head}
use Rattle.run.specs.Compare.{same}
use Rattle.layout.specs.Numbers.{bit, ascii}
use Rattle.layout.specs.Template.{layout}
use Rattle.registers.specs.Settings.{settings_text}
use Rattle.report.specs.declared.opening.Counts.{Counts}

-- Whether a flag is raised, and the five flags.
unfoldable pub flags_shown : FlagBits → List ℕ
flags_shown f =
    bit (not (eqb f.irtime 0 && eqb f.irword 0 && eqb f.scan 0 && eqb f.vistime 0 && eqb f.visword 0))
    ∷ f.irtime
    ∷ f.irword
    ∷ f.scan
    ∷ f.vistime
    ∷ f.visword
    ∷ []

unfoldable pub plan_template : List ℕ
plan_template =
    ascii "plan      @@@ bytes, @@ orders, @@@ words\n"
    ++ ascii "start     {the state that was left before|power-on}\n"
    ++ ascii "passed    @@@@ ticks, %%%%% s, until the head was idle and nothing moved\n"

unfoldable pub start_template : List ℕ
start_template =
    ascii "flags    { none|}{| IR time}{| IR word}{| scan}{| VIS time}{| VIS word}\n"
    ++ ascii "settings at the start\n"

unfoldable pub title_template : List ℕ
title_template =
    ascii "\n"
    ++ ascii "order     tick   seconds  what the head does; * marks what is new since the exposure before\n"

-- The counts of the plan, whether the state that was given is power-on, and the ticks until it was idle and at rest.
unfoldable pub plan_text : Counts → Bool → ℕ → List ℕ
plan_text n on rest =
    let values = n.bytes ∷ n.orders ∷ n.words ∷ bit on ∷ rest ∷ rest ∷ [] in
    layout plan_template values values

-- Flags and settings of the state then, and the titles of the columns.
unfoldable pub start_text : FlagBits → Settings → List ℕ
start_text f s = layout start_template (flags_shown f) (flags_shown f) ++ settings_text s s ++ layout title_template [] []

-- The counts of the plan, the state that was given, the ticks until it was idle and at rest, and the state then.
unfoldable pub opening_text : Counts → Head → ℕ → Head → List ℕ
opening_text n given rest s = plan_text n (same (numbers_of given) (numbers_of power_on)) rest ++ start_text s.flags s.settings
