-- Of bytes there is one map text, and of a map text and a design one map, unless memory was wanting.
use Rattle.std.specs.Prelude.{◌≡◌, ℕ, List}
use Rattle.vidi_lines.specs.vidi_bits.Agree.{OneAnswer}
use Rattle.net_design.specs.declared.design.Design.{Design}
use Rattle.chan_map.specs.declared.error.MapError.TheVariants.{Memory}
use Rattle.chan_map.specs.declared.text.MapText.{MapText}
use Rattle.chan_map.specs.declared.pins.Map.{Map}
use Rattle.chan_map.specs.Text.{ReadsMap}
use Rattle.chan_map.specs.Bound.{BindsMap}

abbrev pub OneMapText : Type 0
OneMapText = (bytes : List ℕ) → OneAnswer (λ (a b : MapText). a ≡ b) Memory (ReadsMap bytes)

abbrev pub OneBinding : Type 0
OneBinding = (text : MapText) (d : Design) → OneAnswer (λ (a b : Map). a ≡ b) Memory (BindsMap text d)
