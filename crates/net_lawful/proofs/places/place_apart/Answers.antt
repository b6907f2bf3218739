use Rattle.net_design.specs.Bits.{place_writes}
use Rattle.net_lawful.proofs.PlaceLaws.{mask_meets}
use Rattle.net_lawful.proofs.places.place_apart.Goals as goal

pub returns : goal.returns
returns c =
    let e = mask_meets c.args.seen.now c.place_mask-mask.result (λ m k. place_writes c.args.place.now m k) c.place_mask-mask.ensures in
    ((λ h. e.0 (c.mask_apart.ensures.0 h)), (λ h. c.mask_apart.ensures.1 (e.1 h)))
