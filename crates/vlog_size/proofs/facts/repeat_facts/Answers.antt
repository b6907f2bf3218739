use Rattle.std.proofs.Common.{◌≡◌, ◌∙◌, ◌++◌, ◌&&◌, ap, sym, refl, ℕ, Bool, Option}
use Rattle.std.proofs.Math.Bool.{and-true}
use Rattle.vlog_size.specs.Size.{too_large, times, total_width, count_fault, all_lawful, parts_const_faults, parts_width_faults}
use Rattle.vlog_tree.specs.vidi_bits.Findings.{first}
use Rattle.vlog_size.proofs.Firsts.{first_both, or_none}
use Rattle.vlog_size.proofs.Repeats.{many_capped}
use Rattle.vlog_size.proofs.facts.repeat_facts.Goals as goal

pub returns : goal.returns
returns c = λ C all few count many whole parts.
    let lawful : c.args.parts.now.lawful ≡ all_lawful all = sym (and-true c.args.parts.now.lawful) ∙ parts.lawful in
    let const : c.args.parts.now.const_fault ≡ first (parts_const_faults all) =
    sym (or_none c.args.parts.now.const_fault) ∙ parts.const_fault in
    let width : c.args.parts.now.width_fault ≡ first (parts_width_faults all) =
    sym (or_none c.args.parts.now.width_fault) ∙ parts.width_fault in
    record {
      line = refl;
      plain = refl;
      is_unsized = refl;
      unsized_literal = refl;
      constant = c.both-constant.ensures ∙ ap (λ (b : Bool). b && c.args.parts.now.constant) count.facts.constant
          ∙ ap (λ (b : Bool). C.constant && b) (sym (and-true c.args.parts.now.constant) ∙ parts.constant);
      width = many_capped c.args.many (times C) c.args.whole.now.width (total_width all) _ many whole.width c.repeat_width-width.ensures;
      parts_lawful = lawful;
      whole = refl;
      const_fault = c.either-consts.ensures
          ∙ first_both _ _ (too_large C ++ C.const_faults) (parts_const_faults all)
          (c.either-count_const.ensures ∙ first_both _ _ (too_large C) C.const_faults
          (c.too_large-large.ensures C count) count.facts.const_fault)
          const;
      width_fault = c.either-widths.ensures
          ∙ first_both _ _ (count_fault c.args.line (times C) all) (C.width_faults ++ parts_width_faults all)
          (c.count_fault-own.ensures all few lawful whole.width
          ∙ ap (λ (n : Option ℕ). first (count_fault c.args.line n all)) many)
          (c.either-count_width.ensures ∙ first_both _ _ C.width_faults (parts_width_faults all) count.facts.width_fault width);
    }
