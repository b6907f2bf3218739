-- The steps of an AXI file, and what comes of it.
use Rattle.std.proofs.Common.{ℕ, List, inl, inr}
use Rattle.axi_burst.specs.declared.axi.Axi.{Axi}
use Rattle.vidi_answer.specs.trace_code.trace_model.declared.channel.Channel.{Channel}
use Rattle.vidi_answer.specs.Steps.{Ending, Never}
use Rattle.vidi_answer.proofs.Chain.{Implies}
use Rattle.trace_commands.specs.Bursts.{Porting}

-- what refuses the file ends the command, whatever comes of the file else
pub never-ported : (bytes : List ℕ) (channels : List Channel) (Next : Axi → Ending)
    → Implies (Porting bytes channels (λ _. Never)) (Porting bytes channels Next)
never-ported bytes channels Next a x (inl unsaid) = inl unsaid
never-ported bytes channels Next a x (inr (text, reads, inl unbound)) = inr (text, reads, inl unbound)
never-ported bytes channels Next a x (inr (text, reads, inr (axi, binds, never))) = absurd never
