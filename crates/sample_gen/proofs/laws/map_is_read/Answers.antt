use Rattle.std.proofs.Common.{refl}
use Rattle.env_script.specs.vidi_lines.Lines.{file_lines, is_bad, words_between}
use Rattle.env_script.specs.chan_map.Forms.{keyword_of, form_of}
use Rattle.sample_gen.proofs.laws.map_is_read.Goals as goal

pub returns : goal.returns
unfolding file_lines is_bad words_between keyword_of form_of
returns c = refl
