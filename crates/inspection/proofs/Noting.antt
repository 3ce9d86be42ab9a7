-- The ways through the notes below a word.
-- Assumes nothing.
use mathlib.Core.Path.{◌≡◌}
use mathlib.Core.Bool.{Bool, true, false, ◌&&◌}
use mathlib.Core.List.{List, [], ◌∷◌}
use Prim.Native.Nat.{ℕ}
use lib.Dec.{ltb}
use Rattle.words.specs.Kinds.{identifier, bits_of, kind_of}
use Rattle.head.specs.Busy.{busy_ticks}
use Rattle.head.specs.Numbers.{is_cause}
use Rattle.head.specs.declared.state.Settings.{Settings}
use Rattle.head.specs.declared.state.Motion.{Motion}
use Rattle.head.specs.declared.state.Head.{Head}
use Rattle.layout.specs.Numbers.{bit}
use Rattle.layout.specs.Adds.{Adds}
use Rattle.layout.specs.declared.writer.Writer.{Writer}
use Rattle.layout.specs.Template.{layout}
use Rattle.layout.proofs.Adding.{adds_then, adds_four, adds_none}
use Rattle.inspection.specs.Notes.{is_exposure, cause_template, cause_shown, cause_text, effect_template, effect_shown, effect_text, stop_text, set_case, set_text, mirror_template, cover_moves_template, motion_text, effects_text, notes_text}

-- the lines themselves
module _ {l m : Writer} where
  pub written-cause : (n busy cover : ℕ) {v : List ℕ} → v ≡ cause_shown n busy cover → Adds l m (layout cause_template v [])
      → Adds l m (cause_text n busy cover)
  unfolding cause_text
  written-cause n busy cover is w = rw is at w

  pub written-effect : (k b : ℕ) (r : Settings) (o : Motion) {v : List ℕ} → v ≡ effect_shown k b r o
      → Adds l m (layout effect_template v [])
      → Adds l m (effect_text k b r o)
  unfolding effect_text
  written-effect k b r o is w = rw is at w

  module _ {k : Writer} where
    pub written-motion : (n mirror cover : ℕ) {x : Bool} → x ≡ is_exposure n
        → {a : ℕ} → a ≡ bit (x && ltb 0 mirror) → Adds l m (layout mirror_template (a ∷ mirror ∷ mirror ∷ []) [])
        → {b : ℕ} → b ≡ bit (x && ltb 0 cover) → Adds m k (layout cover_moves_template (b ∷ cover ∷ cover ∷ []) [])
        → Adds l k (motion_text n mirror cover)
    unfolding motion_text
    written-motion n mirror cover x a first b second = adds_then (rw (a, x) at first) (rw (b, x) at second)

-- the effects of a word, by whether it was taken
module _ (n w : ℕ) (s z : Head) {x : Bool} (cause : x ≡ is_cause n) {l : Writer} where
  pub effects-none : x ≡ true → Adds l l (effects_text n w s z)
  unfolding effects_text
  effects-none e = rw (← cause, e) (adds_none l)

  pub effects-some : x ≡ false → {k : ℕ} → k ≡ kind_of (identifier w)
      → {m : Writer} → Adds l m (effect_text k (bits_of w) z.settings z.motion)
      → {j : Writer} → Adds m j (stop_text k s.work.task s.work.busy)
      → Adds l j (effects_text n w s z)
  unfolding effects_text busy_ticks
  effects-some e is first second = rw (← cause, e, ← is) (adds_then first second)

module _ (n w : ℕ) (s z : Head) {l m₁ m₂ m₃ m₄ : Writer} where
  pub written-notes : Adds l m₁ (cause_text n s.work.busy s.motion.cover) → Adds m₁ m₂ (effects_text n w s z)
      → {k : ℕ} → k ≡ kind_of (identifier w) → {c : ℕ} → c ≡ set_case n k s.begun.count z.begun.count
      → Adds m₂ m₃ (set_text c s.begun.count)
      → Adds m₃ m₄ (motion_text n s.motion.mirror s.motion.cover)
      → Adds l m₄ (notes_text n w s z)
  unfolding notes_text busy_ticks
  written-notes cause effects kind case set motion = adds_four cause effects (rw (case, kind) at set) motion
