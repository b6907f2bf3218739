use Rattle.std.proofs.Common.{◌≡◌, take}
use Rattle.wave_text.proofs.Fits.{Differ, names_of}
use Rattle.wave_text.proofs.Keys.{texts}
use Rattle.wave_text.proofs.lawful.differ.Given as goal

abbrev pub invariant-loop-net : goal.invariant-loop-net
invariant-loop-net l = record {
  names_are : texts l.names.keys ≡ names_of (take l.net-index l.nets);
  differ : Differ (take l.net-index l.nets);
}
