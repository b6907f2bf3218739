use Rattle.std.proofs.Common.{refl}
use Rattle.axi_memory.proofs.laws.examples.Goals as goal

pub returns : goal.returns
returns c = record {
  aw0 = refl;
  w0 = refl;
  ar0 = refl;
  w1 = refl;
  aw1 = refl;
  b1 = refl;
  b2 = refl;
  aw3 = refl;
  r3 = refl;
  r4 = refl;
  ar4 = refl;
  r5 = refl;
  since = refl;
  words = refl;
  early = refl;
  same_row = refl;
  one_beat = refl;
  no_answer = refl;
  waits = refl;
  still_none = refl;
  all_beats = refl;
  answer = refl;
  free = refl;
  first_read = refl;
  second_read = refl;
  busy = refl;
  last_read = refl;
  all_read = refl;
  next_read = refl;
  past = refl;
  fixed = refl;
  stepping = refl;
  reserved = refl;
  wrapping = refl;
  strobes = refl;
}
