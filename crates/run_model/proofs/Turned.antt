-- What is alike is so both ways.
use Rattle.std.proofs.Common.{sym}
use Rattle.net_design.specs.declared.design.Design.{Design}
use Rattle.run_model.specs.Alike.{AreAlike}

pub turned : (d e : Design) → AreAlike d e → AreAlike e d
turned d e alike = record {
  ports = sym alike.ports;
  clock = sym alike.clock;
  unclocked = sym alike.unclocked;
  read = λ port. sym (alike.read port);
  states = λ s. ((alike.states s).1, (alike.states s).0);
  settled = λ s v pins is. (let both = alike.settled s v pins ((alike.states s).1 is) in (both.1, both.0));
  next = λ s v. sym (alike.next s v);
  initial = sym alike.initial;
}
