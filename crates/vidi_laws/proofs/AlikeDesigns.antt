-- Flat designs of one file are alike.
use Rattle.std.proofs.Common.{◌≡◌, ℕ, ◌<◌, ◌^◌, ◌==◌, ◌&&◌, List, Option, None, Some, map, length, replicate, slice_index, refl, ap, sym}
use Rattle.std.proofs.Common.{subst, ◌∙◌}
use Rattle.std.specs.List.{AllZip, Contains, enumerate_from, sum_by}
use Rattle.vidi_commands.proofs.vidi_bits_lemmas.Each.{zip-on}
use Rattle.vlog_tree.specs.Tree.{ModuleOf}
use Rattle.net_design.specs.declared.act.Code.{Code}
use Rattle.net_design.specs.declared.act.Timing.TheVariants.{Nonblocking}
use Rattle.net_design.specs.declared.design.DesignMemory.{DesignMemory}
use Rattle.net_design.specs.declared.design.Direction.TheVariants.{Input}
use Rattle.net_design.specs.declared.design.Driver.{Driver}
use Rattle.net_design.specs.declared.design.Net.{Net}
use Rattle.net_design.specs.declared.design.Port.{Port}
use Rattle.net_design.specs.declared.design.Register.{Register}
use Rattle.net_design.specs.declared.design.Design.{Design}
use Rattle.net_design.specs.declared.values.Update.{Update}
use Rattle.net_design.specs.declared.values.Values.{Values}
use Rattle.net_design.specs.Bits.{named}
use Rattle.net_design.specs.Lawful.{IsLawful, IsState}
use Rattle.net_design.specs.Settled.{clocked, held, initial, initial_number, pins_of, word_count, FitNets, IsSettled}
use Rattle.net_design.specs.Updates.{apply, block_updates, run}
use Rattle.vidi_commands.specs.vidi_bits.Number.{has}
use Rattle.vidi_commands.specs.chan_map.Ports.{is_read}
use Rattle.vidi_commands.specs.vlog_elab.Instances.{ModuleInstance}
use Rattle.vidi_commands.specs.vlog_driver.Duties.{Does}
use Rattle.vidi_commands.specs.flat_parts.Built.{IsBuilt, IsClockPort}
use Rattle.vidi_commands.specs.flat_parts.Drivers.{all_blocks, all_duties, IsBlockOf}
use Rattle.vidi_commands.specs.flat_parts.Seats.{seats_of}
use Rattle.vidi_commands.specs.flat_parts.State.{all_regs, IsRegisterOf}
use Rattle.vidi_laws.specs.Alike.{BuiltAlike}
use Rattle.vidi_laws.proofs.AlikeLists.{any-alike, joined-alike, nil-alike, all-alike}
use Rattle.vidi_laws.proofs.AlikeNarrow.{settled-narrow}
use Rattle.vidi_laws.proofs.AlikeParts.{reads-alike, holds-alike, updates-alike, register-of, holds-bit, initial-alike}

same-option : (a b : Option ℕ) → ((k : ℕ) → a ≡ Some k → b ≡ Some k) → ((k : ℕ) → b ≡ Some k → a ≡ Some k) → a ≡ b
same-option None None f g = refl
same-option (Some n) b f g = sym (f n refl)
same-option None (Some n) f g = g n refl

module _ (file : List (ModuleOf ℕ)) (top : ModuleOf ℕ) (is : List ModuleInstance) (d e : Design) (a : IsBuilt file top is d)
    (b : IsBuilt file top is e) where
  nets-same : d.nets ≡ e.nets
  nets-same = a.nets ∙ sym b.nets

  memories-same : d.memories ≡ e.memories
  memories-same = a.memories ∙ sym b.memories

  ports-same : d.ports ≡ e.ports
  ports-same = a.ports ∙ sym b.ports

  words-same : word_count d ≡ word_count e
  words-same = ap (λ (ms : List DesignMemory). sum_by (λ (m : DesignMemory). m.room.length) ms) memories-same

  clock-same : d.clock ≡ e.clock
  clock-same = same-option d.clock e.clock
      (λ k h. (b.clock k).1 (subst (λ (ps : List Port). IsClockPort file top ps k) ports-same ((a.clock k).0 h)))
      (λ k h. (a.clock k).1 (subst (λ (ps : List Port). IsClockPort file top ps k) (sym ports-same) ((b.clock k).0 h)))

  -- the registers of d, over the drivers of e
  registers : AllZip (IsRegisterOf e.drivers) (all_regs (seats_of is)) d.registers
  registers = zip-on (IsRegisterOf d.drivers) (IsRegisterOf e.drivers)
      (register-of (all_duties (seats_of is)) d.drivers e.drivers a.drivers b.drivers) (all_regs (seats_of is)) d.registers a.registers

  held-same : (m k : ℕ) → held d m k ≡ held e m k
  held-same m k = any-alike (IsRegisterOf e.drivers) (λ (r : Register). (r.net == m) && has r.held k) (holds-bit e.drivers m k)
      (all_regs (seats_of is)) d.registers e.registers registers b.registers

  begins-same : (m : ℕ) → initial_number d.registers m ≡ initial_number e.registers m
  begins-same m = initial-alike e.drivers m (all_regs (seats_of is)) d.registers e.registers registers b.registers

  initial-same : initial d ≡ initial e
  initial-same = λ i. record {
    nets = map (λ (n : ℕ × Net). begins-same n.0 i) (enumerate_from 0 (nets-same i));
    words = replicate (words-same i) 0;
  }

  clocked-same : (v : Values) → clocked d v ≡ clocked e v
  clocked-same v = joined-alike IsBlockOf (λ (c : Code). block_updates Nonblocking c.acts v) (updates-alike v) (all_blocks (seats_of is))
      d.blocks e.blocks a.blocks b.blocks

  reads-same : (port : ℕ) → is_read d port ≡ is_read e port
  reads-same port = any-alike Does (λ (x : Driver). named x.code.reads port 0) (reads-alike port 0) (all_duties (seats_of is)) d.drivers
      e.drivers a.drivers b.drivers

  fits-there : (numbers : List ℕ) → FitNets d numbers → FitNets e numbers
  fits-there numbers fit = record {
    long = fit.long ∙ ap length nets-same;
    each = λ m. subst (λ (ns : List Net). slice_index numbers m < 2 ^ slice_index (map (λ (n : Net). n.width) ns) m) nets-same (fit.each m);
  }

  state-there : (s : Values) → IsState d s → IsState e s
  state-there s state = record {
    nets = fits-there s.nets state.nets;
    rest = λ m k free. state.rest m k (held-same m k ∙ free);
    words = state.words ∙ words-same;
    fit = λ m i there l. state.fit m i (subst (λ (ms : List DesignMemory). Contains ms m) (sym memories-same) there) l;
  }

  settled-there : IsLawful d → (s v : Values) (pins : List ℕ) → IsState d s → IsSettled d s pins v → IsSettled e s pins v
  settled-there law s v pins state x = record {
    keeps = record {
      fit = fits-there v.nets x.keeps.fit;
      clock = λ k h. x.keeps.clock k (clock-same ∙ h);
      state = λ m k h. x.keeps.state m k (held-same m k ∙ h);
      words = x.keeps.words;
    };
    inputs = ap (λ (ps : List Port). pins_of Input ps v.nets) (sym ports-same) ∙ x.inputs;
    driven = all-alike Does (λ (y : Driver). run y.code.acts v ≡ v) (holds-alike v (settled-narrow d law s v state x.keeps))
        (all_duties (seats_of is)) d.drivers e.drivers a.drivers b.drivers x.driven;
  }

pub built-alike : BuiltAlike
built-alike file top is d e a b law law' = record {
  ports = ports-same file top is d e a b;
  clock = clock-same file top is d e a b;
  unclocked = nil-alike IsBlockOf (all_blocks (seats_of is)) d.blocks e.blocks a.blocks b.blocks;
  read = reads-same file top is d e a b;
  states = λ s. (state-there file top is d e a b s, state-there file top is e d b a s);
  settled = λ s v pins state. (
    settled-there file top is d e a b law s v pins state,
    settled-there file top is e d b a law' s v pins (state-there file top is d e a b s state),
  );
  next = λ s v. ap (λ (us : List Update). apply us s) (clocked-same file top is d e a b v);
  initial = initial-same file top is d e a b;
}
