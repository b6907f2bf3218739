use Rattle.std.proofs.Common.{◌≡◌, ◌+◌, ◌/◌, ◌^◌, ◌||◌, ◌++◌, drop, append_assoc, ap, sym, subst, ◌∙◌}
use Rattle.std.proofs.Math.Bool.{or_assoc}
use Rattle.net_code.specs.Targets.{bit_count}
use Rattle.vlog_tree.specs.Tree.{MoreTargets}
use Rattle.vlog_tree.specs.Plain.{plain_target, plain_targets}
use Rattle.net_design.specs.Updates as places
use Rattle.net_design.specs.Bits as bits
use Rattle.net_design.proofs.UpdateLaws.{from_here}
use Rattle.vlog_block.specs.Sources.{names_of}
use Rattle.vlog_block.specs.Fit.{AreFitTargets}
use Rattle.vlog_block.specs.Targets.{targets_width, targets_updates}
use Rattle.vlog_block.specs.Written.{target_reads, target_writes, target_adds, targets_read, targets_write, targets_add}
use Rattle.vlog_block.specs.Naming.{place_names, target_names, targets_names, target_count, targets_count}
use Rattle.vlog_block.proofs.Names.{sum_assoc}
use Rattle.vlog_block.proofs.Places.{part_added, width_added}
use Rattle.vlog_block.proofs.target.+target.Goals as goal

pub push_targets-loop-part-preserved : goal.push_targets-loop-part-preserved
push_targets-loop-part-preserved t c =
    let r = names_of c.args.scope.now in
    let l = c.loop-part in
    let xs = c.args.parts.now in
    let x = plain_target c.part-item.result in
    let rest = plain_targets (drop (l.part-index + 1) xs) in
    let new = c.push_target.new.out in
    let e : plain_targets (drop l.part-index xs) ≡ MoreTargets x rest =
    ap plain_targets (from_here xs l.part-index c.part-item.result c.loop-part-test.true c.part-item.is) in
    let added = c.in_ok-push_target.ensures in
    record {
      updates = λ y v.
          part_added r x rest l.out new v added.updates y
          ∙ ap (λ ts. places.target_updates l.out (y / 2 ^ targets_width r ts) v ++ targets_updates r v ts y) (sym e)
          ∙ l.invariant.updates y v;
      width = width_added r x rest (places.target_width l.out) (places.target_width new) added.width
          ∙ ap (λ ts. places.target_width l.out + targets_width r ts) (sym e) ∙ l.invariant.width;
      reads = λ m k.
          ap (λ b. b || targets_read r rest m k) (added.reads m k)
          ∙ or_assoc (bits.target_reads l.out m k) (target_reads r x m k) (targets_read r rest m k)
          ∙ ap (λ ts. bits.target_reads l.out m k || targets_read r ts m k) (sym e) ∙ l.invariant.reads m k;
      writes = λ m k.
          ap (λ b. b || targets_write r rest m k) (added.writes m k)
          ∙ or_assoc (bits.target_writes l.out m k) (target_writes r x m k) (targets_write r rest m k)
          ∙ ap (λ ts. bits.target_writes l.out m k || targets_write r ts m k) (sym e) ∙ l.invariant.writes m k;
      adds = λ m k.
          ap (λ b. b || targets_add r rest m k) (added.adds m k)
          ∙ or_assoc (bits.target_adds l.out m k) (target_adds r x m k) (targets_add r rest m k)
          ∙ ap (λ ts. bits.target_adds l.out m k || targets_add r ts m k) (sym e) ∙ l.invariant.adds m k;
      names = ap (λ ns. ns ++ targets_names r rest) added.names
          ∙ append_assoc (place_names l.out) (target_names r x) (targets_names r rest)
          ∙ ap (λ ts. place_names l.out ++ targets_names r ts) (sym e) ∙ l.invariant.names;
      count = λ m k.
          ap (λ n. n + targets_count r rest m k) (added.count m k)
          ∙ sum_assoc (bit_count l.out m k) (target_count r x m k) (targets_count r rest m k)
          ∙ ap (λ ts. bit_count l.out m k + targets_count r ts m k) (sym e) ∙ l.invariant.count m k;
      sized = λ h. added.sized (l.invariant.sized h);
      fit = (subst (λ ts. AreFitTargets r ts) e l.invariant.fit).1;
    }
