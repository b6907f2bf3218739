-- The map is bound to each pipe.
use Rattle.std.proofs.Common.{refl}
use Rattle.env_script.specs.vidi_lines.Lines.{file_lines, words_between}
use Rattle.env_script.specs.chan_map.Forms.{keyword_of, form_of}
use Rattle.sample_gen.specs.Accepted.{MapIsBound}

pub map_bound : MapIsBound
unfolding file_lines words_between keyword_of form_of
map_bound d is = (rw (is.ports, is.clock, is.blocks) refl, rw is.ports refl)
