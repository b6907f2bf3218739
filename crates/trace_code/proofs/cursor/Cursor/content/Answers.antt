use Rattle.std.proofs.Common.{ℕ, List, get_or, ◌≡◌, ◌≤◌, ◌<◌, length, take, drop, ap, refl, sym, subst, ◌∙◌, All, sum_by, arith}
use Rattle.vec_clock.specs.trace_model.declared.event.Kind.{Kind}
use Rattle.vec_clock.specs.trace_model.declared.event.Kind.TheVariants.{Start}
use Rattle.vec_clock.specs.trace_model.Channel.{byte_count}
use Rattle.vec_clock.specs.trace_model.Length.{head_len}
use Rattle.vec_clock.specs.trace_model.Packet.{count, does}
use Rattle.vec_clock.proofs.trace_model_lemmas.CountingLemmas.{nth-below}
use Rattle.trace_code.specs.PacketReading.{high_value}
use Rattle.trace_code.specs.Counted.{counted}
use Rattle.trace_code.proofs.Content.{at-start, below-within, channel-of, content-is, port-there, small-widths}
use Rattle.trace_code.proofs.cursor.Cursor.content.Goals as goal

pub split_at-requires : goal.split_at-requires
split_at-requires c =
    let k = c.args.self.now in
    let clock = counted k.clock in
    let sizes = k.head.sizes.items in
    let t = c.requires.stands.0 in
    let s = c.requires.stands.2.0 in
    let long = (at-start t k.kind k.channel c.requires.stands.1 sizes k.rest.now clock k.head.reset k.head.starts k.head.ends _ s
    c.requires.start c.requires.stands.3 refl).long in
    let size = c.head_len.ensures ∙ ap head_len c.channels.ensures in
    omega (arith, long, size)

pub split_at-requires-2 : goal.split_at-requires-2
split_at-requires-2 c =
    let k = c.args.self.now in
    let clock = counted k.clock in
    let sizes = k.head.sizes.items in
    let t = c.requires.stands.0 in
    let s = c.requires.stands.2.0 in
    let a = at-start t k.kind k.channel c.requires.stands.1 sizes k.rest.now clock k.head.reset k.head.starts k.head.ends c.split_at.result.1.now s
    c.requires.start c.requires.stands.3
    (c.split_at.ensures.back ∙ ap (λ n. drop n k.rest.now) (c.head_len.ensures ∙ ap head_len c.channels.ensures)) in
    (below-within t k.channel c.requires.stands.1 sizes k.rest.now clock k.head.reset k.head.starts k.head.ends c.split_at.result.1.now c.args.self.now.below
    c.requires.stands.2.1.channel a c.requires.stands.2.1.at
    c.requires.stands.2.1.below).0

pub number_of-requires-clause-port : goal.number_of-requires-clause-port
number_of-requires-clause-port c =
    let s = c.requires.stands.2 in
    subst (λ (ws : List ℕ). c.args.port < length ws) (sym c.as_slice.ensures)
    (port-there c.requires.stands.0 c.args.self.now s.1 c.args.port c.requires.stands.4)

pub number_of-requires-clause-few : goal.number_of-requires-clause-few
number_of-requires-clause-few c =
    let k = c.args.self.now in
    let clock = counted k.clock in
    let sizes = k.head.sizes.items in
    let t = c.requires.stands.0 in
    let s = c.requires.stands.2.0 in
    let own = c.requires.stands.2.1 in
    let x = channel-of t s.place sizes k.rest.now clock s.at k.channel own.channel own.at in
    subst (λ (ws : List ℕ). length ws ≤ 16) (sym (c.as_slice.ensures ∙ own.widths)) x.ports

pub number_of-requires-clause-small : goal.number_of-requires-clause-small
number_of-requires-clause-small c =
    let k = c.args.self.now in
    let clock = counted k.clock in
    let sizes = k.head.sizes.items in
    let t = c.requires.stands.0 in
    let s = c.requires.stands.2.0 in
    let own = c.requires.stands.2.1 in
    let x = channel-of t s.place sizes k.rest.now clock s.at k.channel own.channel own.at in
    subst (λ (ws : List ℕ). All (λ w. w ≤ 128) ws) (sym (c.as_slice.ensures ∙ own.widths)) (small-widths own.channel.widths x.widths)

pub number_of-requires-clause-long : goal.number_of-requires-clause-long
number_of-requires-clause-long c =
    let k = c.args.self.now in
    let clock = counted k.clock in
    let sizes = k.head.sizes.items in
    let t = c.requires.stands.0 in
    let s = c.requires.stands.2.0 in
    let a = at-start t k.kind k.channel c.requires.stands.1 sizes k.rest.now clock k.head.reset k.head.starts k.head.ends c.split_at.result.1.now s
    c.requires.start c.requires.stands.3
    (c.split_at.ensures.back ∙ ap (λ n. drop n k.rest.now) (c.head_len.ensures ∙ ap head_len c.channels.ensures)) in
    let b = (below-within t k.channel c.requires.stands.1 sizes k.rest.now clock k.head.reset k.head.starts k.head.ends c.split_at.result.1.now c.args.self.now.below
    c.requires.stands.2.1.channel a c.requires.stands.2.1.at
    c.requires.stands.2.1.below).1 in
    subst (λ (bs : List ℕ). sum_by byte_count c.as_slice.result.now ≤ length bs) (sym c.split_at-2.ensures.back)
    (subst (λ (ws : List ℕ). sum_by byte_count ws ≤ length (drop c.args.self.now.below c.split_at.result.1.now))
    (sym (c.as_slice.ensures ∙ c.requires.stands.2.1.widths)) b)

pub returns : goal.returns
returns c t j p packet s is =
    let k = c.args.self.now in
    let clock = counted k.clock in
    let sizes = k.head.sizes.items in
    let a = at-start t k.kind k.channel j sizes k.rest.now clock k.head.reset k.head.starts k.head.ends c.split_at.result.1.now s.0 c.requires.start
    (subst (λ (i : Kind). j < count i k.channel t.packets) (sym c.requires.start) (nth-below (does Start k.channel) t.packets j p packet is))
    (c.split_at.ensures.back ∙ ap (λ n. drop n k.rest.now) (c.head_len.ensures ∙ ap head_len c.channels.ensures)) in
    let same : c.as_slice.result.now ≡ s.1.channel.widths = c.as_slice.ensures ∙ s.1.widths in
    c.number_of.ensures
    ∙ ap (λ (ws : List ℕ). high_value (take (byte_count (get_or ws c.args.port 0)) (drop (sum_by byte_count (take c.args.port ws))
    c.split_at-2.result.1.now))) same
    ∙ content-is t k.channel j sizes k.rest.now clock k.head.reset k.head.starts k.head.ends c.split_at.result.1.now c.split_at-2.result.1.now
    c.args.self.now.below s.1.channel a s.1.at
    s.1.below
    c.split_at-2.ensures.back c.args.port (subst (λ (ws : List ℕ). c.args.port < length ws) s.1.widths
    (port-there c.requires.stands.0 k c.requires.stands.2.1 c.args.port c.requires.stands.4)) p packet is
