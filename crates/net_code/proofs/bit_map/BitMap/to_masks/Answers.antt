use Rattle.std.proofs.Common.{◌||◌, ap, sym, ◌∙◌}
use Rattle.std.specs.Ordering.{nat_cmp}
use Rattle.std.specs.BTreeMap.{keys}
use Rattle.std.specs.Map.Iter.{deref_pair}
use Rattle.std.proofs.lemmas.Map.Iter.{rest_all}
use Rattle.std.proofs.lemmas.Map.Keys.{IsDistinct-from_sorted}
use Rattle.net_design.proofs.vidi_bits_lemmas.Bools.{or_none}
use Rattle.net_design.specs.Bits.{named}
use Rattle.net_code.proofs.MaskLaws.{named_entries, map_named}
use Rattle.net_code.proofs.bit_map.BitMap.to_masks.Goals as goal

pub returns : goal.returns
returns c = λ m k.
    let b = c.args.self.now in
    let done = rest_all deref_pair c.loop-net.net-iterator c.next.new.self c.next.result c.in-None.is c.next.ensures.steps in
    or_none (named c.loop-net.out m k)
    ∙ ap (λ es. named c.loop-net.out m k || named_entries es m k) (sym done)
    ∙ c.loop-net.invariant m k
    ∙ map_named b (IsDistinct-from_sorted nat_cmp (keys b.masks) c.into_iter-net-iterator.ensures.into_iter_gives.5) m k
