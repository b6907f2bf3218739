use Rattle.vidi_laws.proofs.ReadBack.{read-back}
use Rattle.vidi_laws.proofs.laws.wrapped_is_read_back.Goals as goal

pub returns : goal.returns
returns c = read-back c.one_reading.ensures c.one_file.ensures c.lined_files_are_files.ensures
