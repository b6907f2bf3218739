use Rattle.std.proofs.Common.{◌≡◌, ◌==◌, ◌&&◌, ◌||◌, ◌<◌, List, length, get_or, ap, sym, subst, ◌∙◌}
use Rattle.net_design.specs.declared.act.Mask.{Mask}
use Rattle.net_design.specs.declared.design.Driver.{Driver}
use Rattle.net_design.specs.Bits.{named}
use Rattle.net_order.specs.Index.{listed}
use Rattle.net_order.proofs.WriterLaws.{driver_noted}
use Rattle.net_order.proofs.writers.writers_of.Goals as goal

pub loop-i-preserved : goal.loop-i-preserved
loop-i-preserved c =
    let drivers = c.args.design.now.drivers in
    let old = c.loop-i.writers.items in
    let e = c.as_slice-driver-items.ensures in
    let here = subst (λ (xs : List Driver). c.loop-i.i < length xs) e c.loop-i-test.true in
    let is = subst (λ (xs : List Driver). c.driver-item.result ≡ get_or xs c.loop-i.i c.driver-item.result) e c.driver-item.is in
    record {
      long = c.in_ok-note_masks.ensures.long ∙ c.loop-i.invariant.long;
      listed = λ m j k l.
          driver_noted drivers c.loop-i.i c.driver-item.result (listed old m j k) (listed c.note_masks.new.writers.items m j k) j m k
          here is
          (c.loop-i.invariant.listed m j k l)
          (c.in_ok-note_masks.ensures.listed m j k (subst (λ n. m < n) (sym c.loop-i.invariant.long) l)
          ∙ ap (λ (ms : List Mask). listed old m j k || ((c.loop-i.i == j) && named ms m k)) c.as_slice.ensures);
    }
