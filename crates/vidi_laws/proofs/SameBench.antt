-- What three texts say together is one, or the reason for which they are refused.
use Rattle.std.proofs.Common.{◌≡◌, ◌⊎◌, ℕ, List, None, Some, Ok, Err, inl, inr, sym, ap, subst, ◌∙◌}
use Rattle.vidi_commands.proofs.vidi_bits_lemmas.Lists.{some_same}
use Rattle.vidi_commands.specs.chan_map.declared.pins.Map.{Map}
use Rattle.vidi_commands.specs.env_script.declared.error.ScriptError.{ScriptError}
use Rattle.vidi_commands.specs.env_script.declared.error.ScriptError.TheVariants as errors
use Rattle.vidi_commands.specs.env_script.declared.script.Script.{Script}
use Rattle.vidi_commands.specs.env_script.Reasons.{read_lines}
use Rattle.vidi_commands.specs.env_script.Reads.{ReadsScript}
use Rattle.vidi_commands.specs.env_script.OneReading.{OnePlan, OneScript}
use Rattle.vidi_commands.specs.vidi_io.Shelf.{Files}
use Rattle.vidi_commands.specs.report_text.declared.reason.Word.TheVariants as words
use Rattle.vidi_commands.specs.report_text.declared.reason.Reason.{Reason}
use Rattle.vidi_commands.specs.report_text.Reason.{reason_line}
use Rattle.vidi_commands.specs.vidi_bench.declared.bench.Bench.{Bench}
use Rattle.vidi_commands.specs.vidi_bench.vidi_answer.declared.status.Status.{Status}
use Rattle.vidi_commands.specs.vidi_bench.vidi_answer.declared.status.Status.TheVariants.{Refused}
use Rattle.vidi_commands.specs.vidi_bench.Reasons.{script_reason}
use Rattle.vidi_commands.specs.vidi_bench.Steps.{Ending, IsRefusal, IsRefusalFor}
use Rattle.vidi_commands.specs.vidi_bench.Reading.{IsRead, Reading}
use Rattle.vidi_commands.specs.vidi_bench.Design.{text_limit}
use Rattle.vidi_commands.specs.vidi_bench.Benches.{IsNoScript, ReadTexts, RefusedTexts, IsBench}
use Rattle.vidi_laws.proofs.OneEnding.{Same, Meet, Apart, One, OneBy, one-said, one-reading-by, reading-apart}
use Rattle.vidi_laws.proofs.OneCheck.{Alike, alike}
use Rattle.vidi_laws.proofs.SameDevice.{DeviceLaws, SameDevice, one-wiring, same-device, wiring-apart}

-- the laws on which this rests
pub record BenchLaws : Type 0 where
  pub devices : DeviceLaws
  pub script : OneScript
  pub plan : OnePlan

-- ---- reasons

no-script_reason : (e : ScriptError) (r : Reason) → script_reason e ≡ Some r → e ≡ errors.Memory → ⊥
no-script_reason e r names memory = let none : None ≡ Some r = ap script_reason (sym memory) ∙ names in cc

script-refusals : (e f : ScriptError) → (e ≡ errors.Memory) ⊎ (f ≡ errors.Memory) ⊎ (e ≡ f)
    → Meet Same (IsRefusalFor words.Script (script_reason e)) (IsRefusalFor words.Script (script_reason f))
script-refusals e f (inl memory) a b x y (r, names, s) (q, names', s') = absurd (no-script_reason e r names memory)
script-refusals e f (inr (inl memory)) a b x y (r, names, s) (q, names', s') = absurd (no-script_reason f q names' memory)
script-refusals e f (inr (inr same)) a b x y (r, names, s) (q, names', s') =
    let reason = some_same q r (sym names' ∙ ap script_reason (sym same) ∙ names) in
    one-said (Refused words.Script r) (reason_line words.Script r) a b x y s
    (subst (λ (k : Reason). IsRefusal words.Script k b y) reason s')

-- ---- the files of three texts
pub one-texts : (design m script : List ℕ) (files : Files) (Next : List ℕ → List ℕ → List ℕ → Ending)
    → ((d n s : List ℕ) → OneBy Alike (Next d n s)) → OneBy Alike (ReadTexts design m script (Some files) (λ _. ⊥) Next)
one-texts design m script files Next one = one-reading-by Alike alike text_limit words.Design design files
    (λ d. Reading text_limit words.Map m (Some files) (λ _. ⊥) (λ n. Reading text_limit words.Script script (Some files) (λ _. ⊥) (Next d n)))
    (λ d. one-reading-by Alike alike text_limit words.Map m files
    (λ n. Reading text_limit words.Script script (Some files) (λ _. ⊥) (Next d n))
    (λ n. one-reading-by Alike alike text_limit words.Script script files (Next d n) (one d n)))

-- where they are read, nothing but what comes of their texts ends the command
pub texts-apart : (design m script : List ℕ) (files : Files) (Next : List ℕ → List ℕ → List ℕ → Ending) (d n s : List ℕ)
    → IsRead text_limit design (Some files) d → IsRead text_limit m (Some files) n → IsRead text_limit script (Some files) s
    → (a : Status) (x : List ℕ) → (Next d n s a x → ⊥) → ReadTexts design m script (Some files) (λ _. ⊥) Next a x → ⊥
texts-apart design m script files Next d n s first second third a x apart = reading-apart text_limit words.Design design files
    (λ d. Reading text_limit words.Map m (Some files) (λ _. ⊥) (λ n. Reading text_limit words.Script script (Some files) (λ _. ⊥) (Next d n)))
    d first a x
    (reading-apart text_limit words.Map m files (λ n. Reading text_limit words.Script script (Some files) (λ _. ⊥) (Next d n)) n second a x
    (reading-apart text_limit words.Script script files (Next d n) s third a x apart))

-- two benches that three texts say
pub record SameBench (b c : Bench) : Type 0 where
  pub device : SameDevice b.device c.device
  pub script : b.script ≡ c.script

module _ (laws : BenchLaws) where
  -- ---- the script
  no_script : (bytes : List ℕ) (m : Map) → One (IsNoScript bytes m)
  no_script bytes m a b x y (e, is, s) (f, is', s') =
      script-refusals e f (laws.script m.channels (read_lines bytes) (Err e) (Err f) is is') a b x y s s'

  script-apart : (bytes : List ℕ) (m : Map) → Apart (IsNoScript bytes m)
      (λ (t : Script). ReadsScript m.channels (read_lines bytes) (Ok t))
  script-apart bytes m a x t (e, is, (r, names, s)) reads =
      no-script_reason e r names (laws.script m.channels (read_lines bytes) (Err e) (Ok t) is reads)

  -- ---- one reason
  pub one-refused_texts : (design m script : List ℕ) → OneBy Alike (RefusedTexts design m script)
  one-refused_texts design m script =
      one-wiring laws.devices (IsNoScript script) (λ k a b x y u v. alike a b x y (no_script script k a b x y u v)) design m

  -- ---- no reason where they say a bench
  pub texts-refused : (design m script : List ℕ) (c : Bench) → IsBench design m script c → (a : Status) (x : List ℕ)
      → RefusedTexts design m script a x → ⊥
  texts-refused design m script c bench a x = wiring-apart laws.devices design m c.device bench.device (IsNoScript script) a x
      (λ none. script-apart script c.device.map a x c.script none bench.plays)

  -- ---- one bench, but for the design, of which there are several that are alike
  pub same-bench : (design m script : List ℕ) (b c : Bench) → IsBench design m script b → IsBench design m script c → SameBench b c
  same-bench design m script b c x y =
      let devices = same-device laws.devices design m b.device c.device x.device y.device in
      let plays = subst (λ (k : Map). ReadsScript k.channels (read_lines script) (Ok c.script)) (sym devices.map) y.plays in
      record {
        device = devices;
        script = laws.script b.device.map.channels (read_lines script) (Ok b.script) (Ok c.script) x.plays plays;
      }
