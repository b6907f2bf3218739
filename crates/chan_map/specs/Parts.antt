-- What lines add to a map.
use Rattle.std.specs.Prelude.{◌≡◌, List, None}
use Rattle.std.specs.List.{flat_map}
use Rattle.net_design.specs.declared.design.Design.{Design}
use Rattle.chan_map.specs.declared.map_text.MapLine.{MapLine}
use Rattle.chan_map.specs.declared.parts.Parts.{Parts}
use Rattle.chan_map.specs.Bound.{table_of, plugs_of, ties_of, resets_of, later}

pub record ArePartsOf (d : Design) (lines : List MapLine) (parts : Parts) : Type 0 where
  pub channels : parts.channels ≡ table_of d lines
  pub plugs : parts.plugs ≡ flat_map (λ (l : MapLine). plugs_of d.ports l.entry) lines
  pub ties : parts.ties ≡ flat_map (λ (l : MapLine). ties_of d.ports l.entry) lines
  pub reset : parts.reset ≡ later None (flat_map (λ (l : MapLine). resets_of d.ports l.entry) lines)
