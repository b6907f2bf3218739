use Rattle.std.proofs.Common.{◌++◌, ◌∷◌, [], List, length, length-append, ap, ◌∙◌, arith}
use Rattle.net_design.specs.Names.{list_at}
use Rattle.net_order.specs.declared.writers.Writer.{Writer}
use Rattle.net_order.proofs.Rows.{list_more}
use Rattle.net_order.proofs.writers.no_writers.Goals as goal

pub nets-preserved : goal.nets-preserved
nets-preserved c =
    let old = c.nets.writers.items in
    record {
      long = let e = ap length c.in_ok-push.ensures.items in let n = length-append old (c.new.result ∷ []) in omega
          (arith, e, n, c.nets.invariant.long);
      none = λ m.
          ap (λ (ws : List (List Writer)). list_at ws m) c.in_ok-push.ensures.items
          ∙ ap (λ (x : List Writer). list_at (old ++ x ∷ []) m) c.new.ensures
          ∙ list_more old m
          ∙ c.nets.invariant.none m;
    }
