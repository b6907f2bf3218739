use Rattle.std.proofs.Common.{◌≡◌, ◌++◌, drop, None}
use Rattle.std.specs.List.{flat_map}
use Rattle.chan_map.specs.declared.map_text.MapLine.{MapLine}
use Rattle.chan_map.specs.Bound.{rows_of, plugs_of, ties_of, resets_of, later}
use Rattle.chan_map.proofs.parts.parts_of.Given as goal

abbrev pub invariant-loop-l : goal.invariant-loop-l
invariant-loop-l l = let ports = l.top.design.now.ports in let rest = drop l.l-index l.lines in record {
  channels : flat_map (λ (x : MapLine). rows_of ports x.entry) l.lines ≡ l.parts.channels ++ flat_map
      (λ (x : MapLine). rows_of ports x.entry) rest;
  plugs : flat_map (λ (x : MapLine). plugs_of ports x.entry) l.lines ≡ l.parts.plugs ++ flat_map
      (λ (x : MapLine). plugs_of ports x.entry) rest;
  ties : flat_map (λ (x : MapLine). ties_of ports x.entry) l.lines ≡ l.parts.ties ++ flat_map (λ (x : MapLine). ties_of ports x.entry) rest;
  reset : later None (flat_map (λ (x : MapLine). resets_of ports x.entry) l.lines) ≡ later l.parts.reset
      (flat_map (λ (x : MapLine). resets_of ports x.entry) rest);
}
