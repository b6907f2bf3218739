use Rattle.std.proofs.Common.{◌≡◌, ◌+◌, ◌*◌, ◌%◌, ◌^◌, ◌<◌, ap, sym, ◌∙◌, arith, add-one}
use Rattle.axi_memory.specs.Memory.{merged}
use Rattle.axi_memory.proofs.Bytes.{next-small, shifted-byte}
use Rattle.axi_memory.proofs.word.merged.Goals as goal

pub overflow_add-word : goal.overflow_add-word
overflow_add-word c =
    let few : c.loop-k.k < 16 = omega arith in
    let e = shifted-byte c.loop-k.k c.args.old c.args.new c.args.strobe c.byte.result few c.byte.ensures in
    let l = next-small c.loop-k.k c.args.old c.args.new c.args.strobe few in
    let now = c.loop-k.invariant in
    omega (arith, e, l, now)

pub loop-k-preserved : goal.loop-k-preserved
loop-k-preserved c =
    let few : c.loop-k.k < 16 = omega arith in
    let now : c.loop-k.word ≡ merged c.loop-k.k c.args.old c.args.new c.args.strobe = c.loop-k.invariant in
    ap (λ n. n + c.byte.result * 2 ^ (8 * c.loop-k.k) % 2 ^ 128) now
    ∙ shifted-byte c.loop-k.k c.args.old c.args.new c.args.strobe c.byte.result few c.byte.ensures
    ∙ ap (λ k. merged k c.args.old c.args.new c.args.strobe) (sym (add-one c.loop-k.k))
