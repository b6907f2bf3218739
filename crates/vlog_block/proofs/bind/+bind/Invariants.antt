use Rattle.std.proofs.Common.{◌≡◌, ℕ, ◌+◌, ◌≤◌, drop}
use Rattle.vlog_tree.specs.Plain.{plain_exprs}
use Rattle.vlog_size.specs.Size.{sizes_of_all, total_width}
use Rattle.vlog_size.specs.vidi_bits.Number.{IsWidth}
use Rattle.net_design.specs.declared.values.Values.{Values}
use Rattle.net_design.specs.Value as code
use Rattle.net_design.specs.Bits as bits
use Rattle.net_design.specs.Sized.{IsSizedRhs}
use Rattle.vlog_block.specs.Sources.{names_of}
use Rattle.vlog_block.specs.Fit.{AreFit}
use Rattle.vlog_block.specs.Value.{joined_onto}
use Rattle.vlog_block.specs.Bits.{rest_reads}
use Rattle.vlog_block.proofs.bind.+bind.Given as goal

-- the parts so far and the rest of the parts make all of them
abbrev pub invariant-bound_parts-loop-part : goal.invariant-bound_parts-loop-part
invariant-bound_parts-loop-part l =
    let rest = plain_exprs (drop l.part-index l.rest) in
    record {
      value : (v : Values) → joined_onto (names_of l.scope) v l.so_far.width (code.value l.so_far.code.value v) rest
          ≡ joined_onto (names_of l.scope) v l.initial.so_far.width (code.value l.initial.so_far.code.value v) (plain_exprs l.rest);
      reads : (m k : ℕ) → rest_reads (names_of l.scope) (bits.reads l.so_far.code.value m k) rest m k
          ≡ rest_reads (names_of l.scope) (bits.reads l.initial.so_far.code.value m k) (plain_exprs l.rest) m k;
      sized : IsSizedRhs l.so_far.code.value;
      width : IsWidth l.so_far.width;
      sum : l.so_far.width + total_width (sizes_of_all (names_of l.scope) rest)
          ≡ l.initial.so_far.width + total_width (sizes_of_all (names_of l.scope) (plain_exprs l.rest));
      all : l.so_far.width + total_width (sizes_of_all (names_of l.scope) rest) ≤ 128;
      fit : AreFit (names_of l.scope) rest;
    }
