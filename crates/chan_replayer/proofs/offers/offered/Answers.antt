use Rattle.std.proofs.Common.{◌≡◌, ◌<◌, ℕ, true, get_or, length, sym, subst, ap}
use Rattle.std.specs.Prelude.{◌↔◌}
use Rattle.vec_clock.specs.vidi_bits.Number.{has}
use Rattle.vec_clock.specs.trace_model.declared.channel.Channel.{Channel}
use Rattle.vec_clock.specs.trace_model.declared.channel.Dir.{Dir}
use Rattle.vec_clock.specs.trace_model.declared.channel.Dir.TheVariants.{Inward, Outward}
use Rattle.chan_replayer.specs.Feed.{IsUp}
use Rattle.chan_replayer.proofs.FedOffers.{all-marked, marked-more, marked-none, named-within, up-is}
use Rattle.chan_replayer.proofs.offers.offered.Goals as goal

pub up-init : goal.up-init
up-init c =
    let cs = c.args.channels.now in
    let up : ℕ → Type 0 = IsUp (length cs) c.args.feed.now (λ k. get_or c.args.have.now k 0) in
    let are : (d : ℕ) → (has c.covered-left.result d ≡ true) ↔ up d =
    λ d. up-is (length cs) c.args.feed.now c.args.have.now d (has c.covered-left.result d) c.requires.have (c.covered-left.ensures d) in
    let within : (d : ℕ) → up d → d < length cs = λ d is. named-within c.args.feed.now.more (length cs) d c.requires.more is.0 in
    record { valids = marked-none cs Inward up c.covered-left.result are within; readies = marked-none cs Outward up c.covered-left.result are within }

pub bounds-channels-c : goal.bounds-channels-c
bounds-channels-c c = (c.up.invariant.valids.there c.in-Some.c c.in-Some.ensures.1.named).0

pub up-preserved : goal.up-preserved
up-preserved c =
    let cs = c.args.channels.now in
    let up : ℕ → Type 0 = IsUp (length cs) c.args.feed.now (λ k. get_or c.args.have.now k 0) in
    let x = c.index-channels-c.result in
    let dir : (get_or cs c.in-Some.c x).dir ≡ x.dir = ap (λ (y : Channel). y.dir) (sym c.index-channels-c.is) in
    record {
      valids = marked-more cs Inward up c.up.left c.up.valids c.in-Some.c c.in-Some.others c.with_bit-valids.result x c.is_of.result
          c.in-Some.ensures.1 c.index-channels-c.is (subst (λ (d : Dir). (c.is_of.result ≡ true) ↔ (d ≡ Inward)) dir c.is_of.ensures)
          c.with_bit-valids.ensures c.up.invariant.valids;
      readies = marked-more cs Outward up c.up.left c.up.readies c.in-Some.c c.in-Some.others c.with_bit-readies.result x c.is_of-in-Some.result
          c.in-Some.ensures.1 c.index-channels-c.is (subst (λ (d : Dir). (c.is_of-in-Some.result ≡ true) ↔ (d ≡ Outward)) dir c.is_of-in-Some.ensures)
          c.with_bit-readies.ensures c.up.invariant.readies;
    }

pub returns-clause-valids : goal.returns-clause-valids
returns-clause-valids c =
    all-marked c.args.channels.now Inward c.args.feed.now (λ k. get_or c.args.have.now k 0) c.up.left c.up.valids c.in_default.ensures c.up.invariant.valids

pub returns-clause-readies : goal.returns-clause-readies
returns-clause-readies c =
    all-marked c.args.channels.now Outward c.args.feed.now (λ k. get_or c.args.have.now k 0) c.up.left c.up.readies c.in_default.ensures c.up.invariant.readies
