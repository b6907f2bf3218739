-- The findings of the examples.
use Rattle.std.proofs.Common.{◌≡◌, [], ◌∷◌, refl}
use Rattle.vlog_block.specs.vlog_size.Size.{number}
use Rattle.vlog_driver.specs.declared.latches.error.BlockError.TheVariants.{Latch}
use Rattle.vlog_driver.specs.Latch.{some_bit, is_latched}
use Rattle.vlog_driver.specs.Blocks.{block_latches}
use Rattle.vlog_driver.specs.LatchExamples as examples
use Rattle.vlog_driver.specs.LatchExamples.{scope, always}

pub no_else : block_latches scope (always examples.no_else) ≡ Latch (122 ∷ []) 2 ∷ []
unfolding some_bit is_latched number
no_else = refl

pub mended : block_latches scope (always examples.mended) ≡ []
unfolding some_bit is_latched number
mended = refl

pub with_else : block_latches scope (always examples.with_else) ≡ []
unfolding some_bit is_latched number
with_else = refl

pub other_bit_read : block_latches scope (always examples.other_bit_read) ≡ Latch (121 ∷ []) 2 ∷ []
unfolding some_bit is_latched number
other_bit_read = refl

pub none_written : block_latches scope (always examples.none_written) ≡ []
unfolding some_bit is_latched number
none_written = refl

pub none_in_range : block_latches scope (always examples.none_in_range) ≡ Latch (121 ∷ []) 2 ∷ []
unfolding some_bit is_latched number
none_in_range = refl

pub read_after : block_latches scope (always examples.read_after) ≡ []
unfolding some_bit is_latched number
read_after = refl

pub two_nets : block_latches scope (always examples.two_nets) ≡ Latch (121 ∷ []) 2 ∷ Latch (122 ∷ []) 2 ∷ []
unfolding some_bit is_latched number
two_nets = refl

pub at_run_time : block_latches scope (always examples.at_run_time) ≡ Latch (121 ∷ []) 2 ∷ []
unfolding some_bit is_latched number
at_run_time = refl

pub whole_before : block_latches scope (always examples.whole_before) ≡ []
unfolding some_bit is_latched number
whole_before = refl

pub index_read : block_latches scope (always examples.index_read) ≡ Latch (122 ∷ []) 2 ∷ []
unfolding some_bit is_latched number
index_read = refl

pub no_default : block_latches scope (always examples.no_default) ≡ Latch (122 ∷ []) 2 ∷ []
unfolding some_bit is_latched number
no_default = refl

pub with_default : block_latches scope (always examples.with_default) ≡ []
unfolding some_bit is_latched number
with_default = refl

pub label_read : block_latches scope (always examples.label_read) ≡ Latch (122 ∷ []) 2 ∷ []
unfolding some_bit is_latched number
label_read = refl
