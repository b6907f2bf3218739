use Rattle.net_code.proofs.MovedBits.{reads_moved, block_writes_moved, block_adds_moved, block_open_moved, named_moved, bits_moved}
use Rattle.net_code.proofs.move_laws.moved_code_bits.Goals as goal

pub returns-clause-reads : goal.returns-clause-reads
returns-clause-reads c = reads_moved

pub returns-clause-writes : goal.returns-clause-writes
returns-clause-writes c = block_writes_moved

pub returns-clause-adds : goal.returns-clause-adds
returns-clause-adds c = block_adds_moved

pub returns-clause-open_reads : goal.returns-clause-open_reads
returns-clause-open_reads c = block_open_moved

pub returns-clause-masks : goal.returns-clause-masks
returns-clause-masks c = named_moved

pub returns-clause-code : goal.returns-clause-code
returns-clause-code c = bits_moved
