-- First findings.
use Rattle.std.proofs.Common.{◌≡◌, List, [], ◌++◌, map, ap, sym, subst, ◌∙◌}
use Rattle.flat_parts.proofs.vidi_bits_lemmas.FindingLaws.{first_map, is_first_more}
use Rattle.flat_parts.specs.vlog_driver.declared.latches.error.BlockError.{BlockError}
use Rattle.flat_parts.specs.vlog_driver.declared.latches.error.BlockError.TheVariants as block
use Rattle.flat_parts.specs.vlog_driver.Told.{block_told}
use Rattle.flat_parts.specs.vlog_elab.declared.error.ElabError.{ElabError}
use Rattle.flat_parts.specs.vidi_bits.Findings.{IsFirst}
use Rattle.flat_parts.specs.vlog_elab.Told.{elab_told}
use Rattle.flat_drivers.specs.Latches.{of_block}

pub block_first : (x : BlockError) (fs : List BlockError) → IsFirst block_told fs x → IsFirst elab_told (map of_block fs) (of_block x)
block_first (block.Latch name line) fs h = first_map of_block fs (block.Latch name line) h
block_first block.Memory fs h = tt

-- ---- what is left to look at has the findings of all

-- nothing is found in the first of what is left
pub told_next : (own more left all : List ElabError) → left ≡ own ++ more → own ≡ [] → left ≡ all → more ≡ all
told_next own more left all split none so_far = sym (ap (λ xs. xs ++ more) none) ∙ sym split ∙ so_far

pub told_here : (error : ElabError) (own more left all : List ElabError) → left ≡ own ++ more → left ≡ all → IsFirst elab_told own error
    → IsFirst elab_told all error
told_here error own more left all split so_far h =
    subst (λ (xs : List ElabError). IsFirst elab_told xs error) (sym split ∙ so_far) (is_first_more elab_told error own more h)
