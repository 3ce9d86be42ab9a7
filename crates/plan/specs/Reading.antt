-- Document 01, "Plans": a plan read without words, order by order, from given settings and an empty log.
-- Assumes nothing.
use Rattle.std.specs.Prelude.{ℕ, cond, List, [], ◌∷◌, ◌++◌}
use Rattle.words.specs.Fields.{switched}
use Rattle.head.specs.declared.state.Settings.{Settings}
use Rattle.orders.specs.Codes as code
use Rattle.orders.specs.Codes.{is}
use Rattle.orders.specs.Words.{sine_register, switch_data}
use Rattle.orders.specs.declared.order.Order.{Order}

-- The log of acts: an exposure with all settings as they stand, a housekeeping request, a cover move with its four fields.
pub data Entry : Type 0 where
  exposure : Settings → Entry
  request : Entry
  cover_move : ℕ → ℕ → ℕ → ℕ → Entry

-- Orders 1-7 set the registers they name to their fields, 8-11 to first field + 2 x second. 12 sets sine and cosine; 13 sets SWITCH to
-- 1 - its field; 14 sets the direction.
unfoldable pub settings_by : Settings → Order → Settings
settings_by r o =
    record {
      detector = cond (is o code.detector) o.a r.detector;
      mode = cond (is o code.window_mode) o.a r.mode;
      vdetcom = cond (is o code.vdetcom) o.a r.vdetcom;
      vdetadj = cond (is o code.vdetadj) o.a r.vdetadj;
      irdelay = cond (is o code.ir_times) o.a r.irdelay;
      irexpo = cond (is o code.ir_times) o.b r.irexpo;
      ccddelay = cond (is o code.ccd_times) o.a r.ccddelay;
      ccdexpo = cond (is o code.ccd_times) o.b r.ccdexpo;
      x1 = cond (is o code.window) o.a r.x1;
      y1 = cond (is o code.window) o.b r.y1;
      x2 = cond (is o code.window) o.c r.x2;
      y2 = cond (is o code.window) o.d r.y2;
      ccdlamp = cond (is o code.ccd_lamp) (switched o.a o.b) r.ccdlamp;
      irlamp = cond (is o code.ir_lamp) (switched o.a o.b) r.irlamp;
      shutter = cond (is o code.shutter) (switched o.a o.b) r.shutter;
      annealing = cond (is o code.annealing) (switched o.a o.b) r.annealing;
      sine = cond (is o code.mirror) (sine_register o.a) r.sine;
      cosine = cond (is o code.mirror) o.b r.cosine;
      switch = cond (is o code.motor) (switch_data o.a) r.switch;
      direction = cond (is o code.cover) o.a r.direction;
    }

-- 14 logs a cover move, 15 an exposure with all settings as they stand, 16 a housekeeping request.
unfoldable pub entries_by : Settings → Order → List Entry
entries_by r o =
    cond (is o code.cover) (cover_move o.a o.b o.c o.d ∷ [])
    (cond (is o code.expose) (exposure r ∷ [])
    (cond (is o code.housekeeping) (request ∷ []) []))

unfoldable pub settings_read : Settings → List Order → Settings
settings_read r [] = r
settings_read r (o ∷ os) = settings_read (settings_by r o) os

unfoldable pub log_read : Settings → List Order → List Entry
log_read r [] = []
log_read r (o ∷ os) = entries_by r o ++ log_read (settings_by r o) os
