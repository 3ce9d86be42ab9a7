-- The lines below a word: why it was ignored, what it does, and what a person who signs the list must see. s is the head that gets the
-- word w, z the head that has got it, and n the number of the outcome.
-- Assumes nothing.
use Rattle.std.specs.Prelude.{ℕ, Bool, cond, ◌&&◌, List, [], ◌∷◌, ◌++◌, eqb, ltb}
use Rattle.words.specs.Kinds as kind
use Rattle.words.specs.Kinds.{identifier, bits_of, kind_of}
use Rattle.head.specs.Busy.{busy_ticks}
use Rattle.head.specs.Numbers.{is_cause}
use Rattle.head.specs.declared.state.Settings.{Settings}
use Rattle.head.specs.declared.state.Motion.{Motion}
use Rattle.head.specs.declared.state.Head.{Head}
use Rattle.layout.specs.Numbers.{bit, ascii}
use Rattle.layout.specs.Template.{layout}

-- The outcome's number of an exposure.
abbrev pub is_exposure : ℕ → Bool
is_exposure n = eqb n 1

-- Document 01's causes: 22 of the busy head, 22 of the moving cover, 23, 24, 25. 21 does not come from power-on.
unfoldable pub cause_template : List ℕ
cause_template =
    ascii "{|                                    the head is busy for @@@@ ticks more and takes only STOP\n"
    ++ ascii "|                                    the cover moves for @@@@ ticks more and takes no COVER\n"
    ++ ascii "|                                    no kind has this identifier\n"
    ++ ascii "|                                    these data are out of the kind's range\n"
    ++ ascii "|                                    a mirror word out of turn\n"
    ++ ascii "|                                    the state is out of range\n}"

-- The ticks for which the head is busy yet, and for which the cover moves.
unfoldable pub cause_shown : ℕ → ℕ → ℕ → List ℕ
cause_shown n busy cover =
    cond (eqb n 22) (cond (ltb 0 busy) (1 ∷ busy ∷ []) (2 ∷ cover ∷ []))
    (cond (eqb n 23) (3 ∷ 0 ∷ [])
    (cond (eqb n 24) (4 ∷ 0 ∷ [])
    (cond (eqb n 25) (5 ∷ 0 ∷ [])
    (cond (eqb n 21) (6 ∷ 0 ∷ []) (0 ∷ 0 ∷ [])))))

unfoldable pub cause_text : ℕ → ℕ → ℕ → List ℕ
cause_text n busy cover = layout cause_template (cause_shown n busy cover) []

-- What a taken word of kind k with data b does beside setting the register of its name: a voltage or a mirror pair is complete, or
-- something moves. Settings and motion are those after it.
unfoldable pub effect_template : List ℕ
effect_template =
    ascii "{|                                    VDETCOM ####\n"
    ++ ascii "|                                    VDETADJ ####\n"
    ++ ascii "|                                    mirror to sine ~~~~~, cosine ####; it moves for @@ ticks, %%%% s\n"
    ++ ascii "|                                    the mirror moves for @@ ticks, %%%% s\n"
    ++ ascii "|                                    the cover moves for @@@@ ticks, %%%%% s\n}"

unfoldable pub effect_shown : ℕ → ℕ → Settings → Motion → List ℕ
effect_shown k b r m =
    cond (eqb k kind.vdetcom_l) (1 ∷ r.vdetcom ∷ 0 ∷ 0 ∷ 0 ∷ [])
    (cond (eqb k kind.vdetadj_l) (2 ∷ r.vdetadj ∷ 0 ∷ 0 ∷ 0 ∷ [])
    (cond (eqb k kind.cos_l) (3 ∷ r.sine ∷ r.cosine ∷ m.mirror ∷ m.mirror ∷ [])
    (cond (eqb k kind.switch && eqb b 0) (4 ∷ m.mirror ∷ m.mirror ∷ 0 ∷ 0 ∷ [])
    (cond (eqb k kind.cover) (5 ∷ m.cover ∷ m.cover ∷ 0 ∷ 0 ∷ []) (0 ∷ 0 ∷ 0 ∷ 0 ∷ 0 ∷ [])))))

unfoldable pub effect_text : ℕ → ℕ → Settings → Motion → List ℕ
effect_text k b r m = layout effect_template (effect_shown k b r m) []

-- STOP ends a task before its time: an acquisition (1) or housekeeping (2) that had so many ticks left.
unfoldable pub stop_template : List ℕ
stop_template =
    ascii "{|                                    the acquisition ends @@@@ ticks early, without blocks\n"
    ++ ascii "|                                    housekeeping ends @@@@ ticks early, without blocks\n}"

unfoldable pub stopped_task : ℕ → ℕ → ℕ → ℕ
stopped_task k task busy = cond (eqb k kind.stop && ltb 0 busy) task 0

unfoldable pub stop_text : ℕ → ℕ → ℕ → List ℕ
stop_text k task busy = layout stop_template (stopped_task k task busy ∷ busy ∷ []) []

-- A mirror set that is begun and not complete: the words of it that were received.
unfoldable pub set_template : List ℕ
set_template =
    ascii "{|                                    INCOMPLETE MIRROR SET"
    ++ ascii "|                                    MIRROR SET BEGUN ANEW"
    ++ ascii "|                                    MIRROR SET DROPPED"
    ++ ascii "|MIRROR SET LEFT INCOMPLETE}"
    ++ ascii "{|; received: SIN M\n|; received: SIN M, SIN L\n|; received: SIN M, SIN L, COS M\n}"

-- An exposure finds one (1); SIN M begins anew (2); an ignored word has dropped it (3). So many words of it were received before the
-- word and after it.
unfoldable pub set_case : ℕ → ℕ → ℕ → ℕ → ℕ
set_case n k before after =
    cond (eqb before 0) 0
    (cond (is_exposure n) 1
    (cond (is_cause n) (cond (eqb after 0) 3 0)
    (cond (eqb k kind.sin_m) 2 0)))

unfoldable pub told_received : ℕ → ℕ → ℕ
told_received which received = cond (eqb which 0) 0 received

unfoldable pub set_text : ℕ → ℕ → List ℕ
set_text which received = layout set_template (which ∷ told_received which received ∷ []) []

-- An exposure that begins while something moves: what, and for how many ticks more.
unfoldable pub mirror_template : List ℕ
mirror_template = ascii "{|                                    THE MIRROR MOVES for @@ ticks more, %%%% s\n}"

unfoldable pub cover_moves_template : List ℕ
cover_moves_template = ascii "{|                                    THE COVER MOVES for @@@@ ticks more, %%%%% s\n}"

abbrev pub motion_shown : ℕ → ℕ → List ℕ
motion_shown n ticks = bit (is_exposure n && ltb 0 ticks) ∷ ticks ∷ ticks ∷ []

unfoldable pub motion_text : ℕ → ℕ → ℕ → List ℕ
motion_text n mirror cover =
    layout mirror_template (motion_shown n mirror) [] ++ layout cover_moves_template (motion_shown n cover) []

-- The effects of a word that was taken.
unfoldable pub effects_text : ℕ → ℕ → Head → Head → List ℕ
effects_text n w s z =
    let k = kind_of (identifier w) in
    cond (is_cause n) [] (effect_text k (bits_of w) z.settings z.motion ++ stop_text k s.work.task (busy_ticks s))

unfoldable pub notes_text : ℕ → ℕ → Head → Head → List ℕ
notes_text n w s z =
    cause_text n (busy_ticks s) s.motion.cover
    ++ effects_text n w s z
    ++ set_text (set_case n (kind_of (identifier w)) s.begun.count z.begun.count) s.begun.count
    ++ motion_text n s.motion.mirror s.motion.cover
