use Rattle.std.proofs.Common.{◌≡◌, ℕ, ◌+◌, ◌/◌, ◌^◌, ◌||◌, ◌++◌, drop}
use Rattle.std.specs.List.{AllByRecursion}
use Rattle.net_code.specs.Targets.{bit_count}
use Rattle.vlog_tree.specs.Plain.{plain_targets}
use Rattle.net_design.specs.declared.values.Values.{Values}
use Rattle.net_design.specs.Updates as places
use Rattle.net_design.specs.Bits as bits
use Rattle.net_design.specs.Sized.{IsSizedPlace}
use Rattle.vlog_block.specs.Sources.{names_of}
use Rattle.vlog_block.specs.Fit.{AreFitTargets}
use Rattle.vlog_block.specs.Targets.{targets_width, targets_updates}
use Rattle.vlog_block.specs.Written.{targets_read, targets_write, targets_add}
use Rattle.vlog_block.specs.Naming.{place_names, targets_names, targets_count}
use Rattle.vlog_block.proofs.target.+target.Given as goal

-- the places so far and the rest of the parts make all of them
abbrev pub invariant-push_targets-loop-part : goal.invariant-push_targets-loop-part
invariant-push_targets-loop-part l =
    let r = names_of l.scope in
    let rest = plain_targets (drop l.part-index l.parts) in
    let all = plain_targets l.parts in
    record {
      updates : (x : ℕ) (v : Values) → places.target_updates l.out (x / 2 ^ targets_width r rest) v ++ targets_updates r v rest x
          ≡ places.target_updates l.initial.out (x / 2 ^ targets_width r all) v ++ targets_updates r v all x;
      width : places.target_width l.out + targets_width r rest ≡ places.target_width l.initial.out + targets_width r all;
      reads : (m k : ℕ) → (bits.target_reads l.out m k || targets_read r rest m k)
          ≡ (bits.target_reads l.initial.out m k || targets_read r all m k);
      writes : (m k : ℕ) → (bits.target_writes l.out m k || targets_write r rest m k)
          ≡ (bits.target_writes l.initial.out m k || targets_write r all m k);
      adds : (m k : ℕ) → (bits.target_adds l.out m k || targets_add r rest m k)
          ≡ (bits.target_adds l.initial.out m k || targets_add r all m k);
      names : place_names l.out ++ targets_names r rest ≡ place_names l.initial.out ++ targets_names r all;
      count : (m k : ℕ) → bit_count l.out m k + targets_count r rest m k ≡ bit_count l.initial.out m k + targets_count r all m k;
      sized : AllByRecursion (λ p. IsSizedPlace p) l.initial.out → AllByRecursion (λ p. IsSizedPlace p) l.out;
      fit : AreFitTargets r rest;
    }
