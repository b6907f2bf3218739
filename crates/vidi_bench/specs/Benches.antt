-- What the texts of a design, a map and a script say together, or the first reason for which they are refused.
use Rattle.std.specs.Prelude.{ℕ, ◌≤◌, List, Option, Ok, Err, length}
use Rattle.vidi_answer.specs.vidi_io.Shelf.{Files}
use Rattle.env_script.specs.chan_map.declared.pins.Map.{Map}
use Rattle.env_script.specs.declared.error.ScriptError.{ScriptError}
use Rattle.env_script.specs.Reasons.{read_lines}
use Rattle.env_script.specs.Fits.{FitsChannels}
use Rattle.env_script.specs.Reads.{ReadsScript}
use Rattle.vidi_answer.specs.report_text.declared.reason.Word.TheVariants as words
use Rattle.vidi_bench.specs.declared.bench.Bench.{Bench}
use Rattle.vidi_bench.specs.declared.bench.Texts.{Texts}
use Rattle.vidi_bench.specs.Reasons.{script_reason}
use Rattle.vidi_answer.specs.Steps.{Ending, IsRefusalFor}
use Rattle.vidi_bench.specs.Design.{text_limit}
use Rattle.vidi_bench.specs.Devices.{IsDevice, IsRunnable, Wiring}
use Rattle.vidi_answer.specs.Reading.{Reading}

-- S1 to S3
abbrev pub IsNoScript : List ℕ → Map → Ending
IsNoScript bytes map status said =
    (error : ScriptError) × ReadsScript map.channels (read_lines bytes) (Err error) × IsRefusalFor words.Script (script_reason error) status said

-- ---- the files, in the order of the words, and what comes of their texts
abbrev pub ReadTexts : List ℕ → List ℕ → List ℕ → Option Files → (List ℕ → Type 0) → (List ℕ → List ℕ → List ℕ → Ending) → Ending
ReadTexts design map script files ReadFailed Next =
    Reading text_limit words.Design design files ReadFailed (λ d.
    Reading text_limit words.Map map files ReadFailed (λ m.
    Reading text_limit words.Script script files ReadFailed (Next d m)))

-- no text is longer than its limit
pub record AreWithin (texts : Texts) : Type 0 where
  pub design : length texts.design ≤ text_limit
  pub map : length texts.map ≤ text_limit
  pub script : length texts.script ≤ text_limit

-- the first reason of the three texts, in the order of the steps
abbrev pub RefusedTexts : List ℕ → List ℕ → List ℕ → Ending
RefusedTexts design map script = Wiring design map (IsNoScript script)

-- ---- what the three texts say where none is refused: a design with its map, and a script
pub record IsBench (design map script : List ℕ) (b : Bench) : Type 0 where
  pub device : IsDevice design map b.device
  pub plays : ReadsScript b.device.map.channels (read_lines script) (Ok b.script)

-- such a design can be run with such a script
pub record IsPlayable (b : Bench) : Type 0 where
  pub runnable : IsRunnable b.device
  pub fits : FitsChannels b.device.map.channels b.script
