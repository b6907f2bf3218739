use Rattle.std.proofs.Common.{◌<◌, ◌+◌, ◌++◌, ◌^◌, ℕ, refl, sym, subst, ap, ◌∙◌, string_bytes}
use Rattle.sample_gen.specs.Sample.{send_line}
use Rattle.sample_gen.specs.Sequence.{drawn}
use Rattle.sample_gen.proofs.Steps.{piece_more, state_more, drawn_more, next_small}
use Rattle.sample_gen.proofs.script.put_sends.Goals as goal

pub loop-i-preserved : goal.loop-i-preserved
loop-i-preserved c =
    let s : ℕ = c.args.sequence.now.state in
    let inv = c.loop-i.invariant in
    record {
      stands = state_more s c.loop-i._i c.loop-i.sequence.state c.draw.new.self.state inv.stands c.draw.ensures.state;
      small = subst (λ (x : ℕ). x < 2 ^ 32) (sym c.draw.ensures.state) (next_small c.loop-i.sequence.state);
      added = piece_more (λ i. send_line (drawn s i)) 1 c.loop-i._i (c.loop-i._i + 1) (1 + c.loop-i._i) (string_bytes c.args.text.now)
          (string_bytes c.loop-i.text) (string_bytes c.put_send.new.text) refl refl inv.added
          (c.in_ok-put_send.ensures ∙ ap (λ x. string_bytes c.loop-i.text ++ send_line x)
          (drawn_more s c.loop-i._i c.loop-i.sequence.state c.draw.result inv.stands c.draw.ensures.drawn));
    }
