use Rattle.std.proofs.Common.{◌≡◌, ◌↔◌, refl, sym, subst}
use Rattle.vlog_tree.specs.Plain.{plain_always}
use Rattle.net_design.specs.Updates.{run}
use Rattle.net_design.specs.Bits.{HasBits}
use Rattle.net_design.specs.Last.{HasLast}
use Rattle.vlog_block.specs.Updates.{body_updates}
use Rattle.vlog_driver.specs.Sites.{site_of, numbers_from}
use Rattle.vlog_driver.proofs.block.always_driver.Goals as goal

pub returns-clause-driver : goal.returns-clause-driver
returns-clause-driver c =
    let p = site_of c.args.site.now in
    let a = plain_always c.args.block.now in
    let code = c.in_ok-code.code in
    record {
      line = refl;
      always = refl;
      holds = λ v narrow. subst
          (λ t. (run code.acts v ≡ v) ↔ HasLast (body_updates p.names t a.body (numbers_from p v)) (numbers_from p v))
          (sym c.requires.implicit) (c.in_ok-code.ensures.holds v narrow);
      writes = c.in_ok-code.ensures.writes;
      adds = c.in_ok-code.ensures.adds;
      reads = c.in_ok-code.ensures.reads;
      bits = subst (λ t. HasBits t code) c.requires.implicit c.in_ok-code.ensures.bits;
      names = c.in_ok-code.ensures.names;
    }
