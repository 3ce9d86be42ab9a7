-- The orders of a plan, a line for each: its index, the tick of its last word, and what it does.
-- Assumes nothing.
use Rattle.std.specs.Prelude.{ℕ, ◌+◌, ◌-◌, ◌*◌, Bool, cond, not, ◌||◌, List, [], ◌∷◌, ◌++◌, eqb, length, get_or}
use Rattle.head.specs.Limits.{mirror_ticks, step_ticks}
use Rattle.head.specs.declared.state.Settings.{Settings}
use Rattle.orders.specs.Codes as code
use Rattle.orders.specs.Words.{sine_register, words_of}
use Rattle.orders.specs.declared.order.Order.{Order}
use Rattle.plan.specs.Reading.{Entry, request}
use Rattle.layout.specs.Numbers.{bit, ascii}
use Rattle.layout.specs.Template.{layout}
use Rattle.report.specs.Acts.{entry_text, exposed_by}

-- The orders whose first field switches something on or off, or between two modes.
unfoldable pub is_switch : ℕ → Bool
is_switch c =
    eqb c code.window_mode
    || eqb c code.detector
    || eqb c code.motor
    || (eqb c code.ccd_lamp || eqb c code.ir_lamp)
    || eqb c code.shutter
    || eqb c code.annealing

-- Which of the texts is the order's: two for each code, the second for a switch that is 1.
unfoldable pub order_case : Order → ℕ
order_case o = cond (is_switch o.code) (2 * o.code + o.a) (2 * o.code)

-- The case, and the values that its text shows: times in ticks, the mirror's motion in ticks.
unfoldable pub order_shown : Order → List ℕ
order_shown o =
    cond (eqb o.code code.ir_times || eqb o.code code.ccd_times)
    (order_case o ∷ step_ticks * o.a ∷ step_ticks * o.b ∷ 0 ∷ 0 ∷ [])
    (cond (eqb o.code code.mirror) (order_case o ∷ sine_register o.a ∷ o.b ∷ mirror_ticks ∷ mirror_ticks ∷ [])
    (cond (eqb o.code code.motor) (order_case o ∷ mirror_ticks ∷ mirror_ticks ∷ 0 ∷ 0 ∷ [])
    (cond (is_switch o.code) (order_case o ∷ o.b ∷ 0 ∷ 0 ∷ 0 ∷ [])
    (cond (eqb o.code code.wait) (order_case o ∷ o.a ∷ o.a ∷ 0 ∷ 0 ∷ [])
    (order_case o ∷ o.a ∷ o.b ∷ o.c ∷ o.d ∷ [])))))

-- The texts of the codes 0-17, two of each. 14-16 are acts, which the head's log tells.
unfoldable pub order_template : List ℕ
order_template =
    ascii "{||"
    ++ ascii "VDETCOM ####||"
    ++ ascii "VDETADJ ####||"
    ++ ascii "IR delay %%%%% s, exposure %%%%% s||"
    ++ ascii "CCD delay %%%%% s, exposure %%%%% s||"
    ++ ascii "IR window mode full|IR window mode reduced|"
    ++ ascii "CCD window #### #### #### ####||"
    ++ ascii "detector off|detector on|"
    ++ ascii "CCD lamp off, current @|CCD lamp on, current @|"
    ++ ascii "IR lamp off, current @@|IR lamp on, current @@|"
    ++ ascii "shutter open, current @@|shutter closed, current @@|"
    ++ ascii "annealing off, limit @@|annealing on, limit @@|"
    ++ ascii "mirror to sine ~~~~~, cosine ####; it moves for @@ ticks, %%%% s||"
    ++ ascii "motor off|motor on; the mirror moves for @@ ticks, %%%% s|"
    ++ ascii "||||||"
    ++ ascii "wait @@@@@ ticks, %%%%%% s}\n"

unfoldable pub order_text : Order → List ℕ
order_text o = layout order_template (order_shown o) (order_shown o)

-- Cover move, exposure, housekeeping.
unfoldable pub is_act : ℕ → Bool
is_act c = eqb c code.cover || eqb c code.expose || eqb c code.housekeeping

-- The order's index, and the tick of its last word; a wait has no word.
unfoldable pub place_template : List ℕ
place_template = ascii "#####  {                   |#######  %%%%%%%%  }"

unfoldable pub place_text : ℕ → ℕ → ℕ → List ℕ
place_text index c tick =
    let values = index ∷ bit (not (eqb c code.wait)) ∷ tick ∷ tick ∷ [] in
    layout place_template values values

-- The line of an order, where e is the next entry of the head's log.
unfoldable pub order_line : ℕ → Order → ℕ → Entry → Settings → List ℕ
order_line index o tick e before = place_text index o.code tick ++ cond (is_act o.code) (entry_text e before) (order_text o)

-- The settings of the last exposure after an order, whose entry of the log is e where it is an act.
unfoldable pub exposed_after : ℕ → Entry → Settings → Settings
exposed_after c e before = cond (is_act c) (exposed_by e before) before

-- The lines of orders, where k orders, w words and a acts came before them, and the settings before are those of the last exposure. Ticks
-- and log are those of the whole plan.
unfoldable pub order_lines : ℕ → ℕ → ℕ → Settings → List Order → List ℕ → List Entry → List ℕ
order_lines k w a before [] ticks log = []
order_lines k w a before (o ∷ os) ticks log =
    let words = w + length (words_of o) in
    let e = get_or log a request in
    order_line (k + 1) o (get_or ticks (words - 1) 0) e before
    ++ order_lines (k + 1) words (a + bit (is_act o.code)) (exposed_after o.code e before) os ticks log
