-- Worked examples: broken_rules, and rounds of a design with five channels (bursts_of_rounds).
use Rattle.std.specs.Prelude.{◌≡◌, ℕ, zero, suc, true, false, List, [], ◌∷◌, codes, None, Some, length}
use Rattle.trace_model.specs.vidi_bits.Findings.{first}
use Rattle.trace_model.specs.declared.channel.Channel.{Channel}
use Rattle.trace_model.specs.declared.channel.Dir.TheVariants.{Inward, Outward}
use Rattle.trace_model.specs.declared.packet.Packet.{Packet}
use Rattle.trace_model.specs.declared.trace.Trace.{Trace}
use Rattle.axi_burst.specs.declared.axi.Axi.{Axi}
use Rattle.axi_burst.specs.Bursts.{broken, faults, bursts}

abbrev pub packet : ℕ → ℕ → List ℕ → Packet
packet starts ends contents = record { gap = 0; reset = false; starts = starts; ends = ends; contents = contents }

-- ---- broken_rules
abbrev pub three : List Channel
three = record { dir = Inward; name = codes "aw"; widths = 32 ∷ 8 ∷ 3 ∷ 2 ∷ [] } ∷ record { dir = Inward; name = codes "w"; widths = 32 ∷ 1 ∷ [] }
    ∷ record { dir = Outward; name = codes "b"; widths = 2 ∷ [] } ∷ []

abbrev pub trace : List Packet → Trace
trace packets = record { channels = three; packets = packets }

abbrev pub two_beats : ℕ → List Packet
two_beats len = packet 3 3 (4088 ∷ len ∷ 2 ∷ 1 ∷ 7 ∷ 0 ∷ []) ∷ packet 2 2 (8 ∷ 1 ∷ []) ∷ packet 4 4 (0 ∷ []) ∷ []

abbrev pub early_response : List Packet
early_response = packet 7 7 (4088 ∷ 1 ∷ 2 ∷ 1 ∷ 7 ∷ 0 ∷ 0 ∷ []) ∷ packet 2 2 (8 ∷ 1 ∷ []) ∷ []

abbrev pub writes_alone : Axi
writes_alone = record {
  beat = 4;
  writes = Some (record {
    aw = record { channel = 0; id = None; addr = 0; len = Some 1; size = Some 2; burst = Some 3 };
    w = 1;
    last = Some 1;
    b = 2;
    id = None;
  });
  reads = None;
  memory = None;
  places = None;
}

-- ---- rounds: a write and a read of a word, one after the other
abbrev pub five : List Channel
five = record { dir = Inward; name = codes "aw"; widths = 32 ∷ [] } ∷ record { dir = Inward; name = codes "w"; widths = 32 ∷ 4 ∷ [] }
    ∷ record { dir = Outward; name = codes "b"; widths = 2 ∷ [] } ∷ record { dir = Inward; name = codes "ar"; widths = 32 ∷ [] }
    ∷ record { dir = Outward; name = codes "r"; widths = 32 ∷ 2 ∷ [] } ∷ []

abbrev pub rounds : ℕ → List Packet
rounds zero = []
rounds (suc n) = packet 3 3 (0 ∷ 1000 ∷ 15 ∷ []) ∷ packet 4 4 (0 ∷ []) ∷ packet 8 8 (0 ∷ []) ∷ packet 16 16 (1000 ∷ 0 ∷ []) ∷ rounds n

abbrev pub words_alone : Axi
words_alone = record {
  beat = 4;
  writes = Some (record {
    aw = record { channel = 0; id = None; addr = 0; len = None; size = None; burst = None };
    w = 1;
    last = None;
    b = 2;
    id = None;
  });
  reads = Some (record { ar = record { channel = 3; id = None; addr = 0; len = None; size = None; burst = None }; r = 4; id = None; last = None });
  memory = None;
  places = None;
}

abbrev pub of_rounds : ℕ → Trace
of_rounds n = record { channels = five; packets = rounds n }

pub record Examples : Type 0 where
  pub lawful : faults writes_alone (trace (two_beats 1)) ≡ []
  pub one_burst : bursts writes_alone (trace (two_beats 1))
      ≡ record { write = true; id = 0; addr = 4088; beats = 2; done = true } ∷ []
  pub too_far : first (faults writes_alone (trace (two_beats 2))) ≡ Some (broken 1 0 0)
  pub early : first (faults writes_alone (trace early_response)) ≡ Some (broken 3 2 0)
  pub rounds_lawful : faults words_alone (of_rounds 4) ≡ []
  pub rounds_done : bursts words_alone (of_rounds 1) ≡ record { write = true; id = 0; addr = 0; beats = 1; done = true }
      ∷ record { write = false; id = 0; addr = 0; beats = 1; done = true } ∷ []
  pub rounds_many : length (bursts words_alone (of_rounds 4)) ≡ 8
