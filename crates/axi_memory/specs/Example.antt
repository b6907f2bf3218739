-- Worked examples: serve_mgr, a write of 1000 to byte 8 and then a read of it; addresses of beats; strobes.
use Rattle.std.specs.Prelude.{◌≡◌, ℕ, true, false, List, [], ◌∷◌, ◌++◌, codes, map, None, Some, take}
use Rattle.std.specs.List.{range_with_len}
use Rattle.axi_burst.specs.declared.transfers.Address.{Address}
use Rattle.env_script.specs.trace_model.declared.channel.Channel.{Channel}
use Rattle.env_script.specs.trace_model.declared.channel.Dir.TheVariants.{Inward, Outward}
use Rattle.env_script.specs.trace_model.declared.row.Row.{Row}
use Rattle.env_script.specs.Offer.{Offer, nothing}
use Rattle.axi_memory.specs.declared.served.Served.{Served}
use Rattle.axi_memory.specs.Memory.{address_of, gives, memory_after, memory_offer, merged, shown_since, takes}

abbrev pub five : List Channel
five = record { dir = Outward; name = codes "aw"; widths = 32 ∷ [] } ∷ record { dir = Outward; name = codes "w"; widths = 32 ∷ 4 ∷ [] }
    ∷ record { dir = Inward; name = codes "b"; widths = [] } ∷ record { dir = Outward; name = codes "ar"; widths = 32 ∷ [] }
    ∷ record { dir = Inward; name = codes "r"; widths = 32 ∷ [] } ∷ []

abbrev pub mgr : Served
mgr = record {
  channels = five;
  ports = record {
    beat = 4;
    words = 16;
    writes = record { aw = record { channel = 0; id = None; addr = 0; len = None; size = None; burst = None }; w = 1; last = None; b = 2; id = None };
    reads = record { ar = record { channel = 3; id = None; addr = 0; len = None; size = None; burst = None }; r = 4; id = None; last = None };
    places = record { wdata = 0; wstrb = 1; rdata = 0 };
  };
}

-- masks: aw is 1, w 2, b 4, ar 8, r 16
abbrev pub row : ℕ → ℕ → ℕ → ℕ → List ℕ → Row
row valids readies starts ends contents =
    record { fresh = false; gates = 31; valids = valids; readies = readies; contents = contents; starts = starts; ends = ends }

-- aw and w are up in row 0, where aw is taken; w in row 1; then b, ar and r
abbrev pub rows : List Row
rows = row 3 5 3 1 (8 ∷ 1000 ∷ 15 ∷ 0 ∷ 0 ∷ []) ∷ row 2 6 0 2 (0 ∷ 1000 ∷ 15 ∷ 0 ∷ 0 ∷ []) ∷ row 4 4 4 4 (0 ∷ 0 ∷ 0 ∷ 0 ∷ 0 ∷ [])
    ∷ row 8 9 8 8 (0 ∷ 0 ∷ 0 ∷ 8 ∷ 0 ∷ []) ∷ row 16 17 16 16 (0 ∷ 0 ∷ 0 ∷ 0 ∷ 1000 ∷ []) ∷ []

-- a read of the byte's word goes on beside the write: it is offered since the row of `ar`, before the write beat
abbrev pub beside : List Row
beside = row 1 1 1 1 (8 ∷ 0 ∷ 0 ∷ 0 ∷ 0 ∷ []) ∷ row 8 10 8 8 (0 ∷ 0 ∷ 0 ∷ 8 ∷ 0 ∷ []) ∷ row 18 2 18 2 (0 ∷ 7 ∷ 15 ∷ 0 ∷ 0 ∷ []) ∷ []

-- the read address and the write beat come in one row
abbrev pub at_once : List Row
at_once = row 1 1 1 1 (8 ∷ 0 ∷ 0 ∷ 0 ∷ 0 ∷ []) ∷ row 10 10 10 10 (0 ∷ 7 ∷ 15 ∷ 8 ∷ 0 ∷ []) ∷ []

-- ---- a port with all words; the ID of `b` has 2 bits
abbrev pub wide : List Channel
wide = record { dir = Outward; name = codes "aw"; widths = 32 ∷ 8 ∷ 3 ∷ 2 ∷ 4 ∷ [] }
    ∷ record { dir = Outward; name = codes "w"; widths = 32 ∷ 4 ∷ 1 ∷ [] }
    ∷ record { dir = Inward; name = codes "b"; widths = 2 ∷ 2 ∷ [] } ∷ record { dir = Outward; name = codes "ar"; widths = 32 ∷ 8 ∷ 3 ∷ 2 ∷ 4 ∷ [] }
    ∷ record { dir = Inward; name = codes "r"; widths = 32 ∷ 1 ∷ 4 ∷ 2 ∷ [] } ∷ []

abbrev pub whole : Served
whole = record {
  channels = wide;
  ports = record {
    beat = 4;
    words = 4;
    writes = record {
      aw = record { channel = 0; id = Some 4; addr = 0; len = Some 1; size = Some 2; burst = Some 3 };
      w = 1;
      last = Some 2;
      b = 2;
      id = Some 1;
    };
    reads = record {
      ar = record { channel = 3; id = Some 4; addr = 0; len = Some 1; size = Some 2; burst = Some 3 };
      r = 4;
      id = Some 2;
      last = Some 1;
    };
    places = record { wdata = 0; wstrb = 1; rdata = 0 };
  };
}

-- the contents of `aw`, `w`, `b`, `ar` and `r`
abbrev pub shown : List ℕ → List ℕ → List ℕ → List ℕ
shown aw w ar = aw ++ (w ++ (0 ∷ 0 ∷ []) ++ (ar ++ (0 ∷ 0 ∷ 0 ∷ 0 ∷ [])))

abbrev pub no_ask : List ℕ
no_ask = 0 ∷ 0 ∷ 0 ∷ 0 ∷ 0 ∷ []

abbrev pub no_beat : List ℕ
no_beat = 0 ∷ 0 ∷ 0 ∷ []

abbrev pub plain : ℕ → List ℕ → Row
plain channel contents = row channel channel channel channel contents

-- a row in which the gate of `w` is shut, so that its beat doesn't come
abbrev pub shut : List ℕ → Row
shut contents = record { fresh = false; gates = 29; valids = 2; readies = 2; contents = contents; starts = 0; ends = 0 }

-- two beats are written from byte 4 on, with ID 13: 0x11111111 whole, then the middle bytes of 0xaabbccdd; then three are read from there, with
-- ID 6, and one past the end
abbrev pub bursts : List Row
bursts = plain 1 (shown (4 ∷ 1 ∷ 2 ∷ 1 ∷ 13 ∷ []) no_beat no_ask) ∷ plain 2 (shown no_ask (286331153 ∷ 15 ∷ 0 ∷ []) no_ask)
    ∷ shut (shown no_ask (2864434397 ∷ 6 ∷ 1 ∷ []) no_ask) ∷ plain 2 (shown no_ask (2864434397 ∷ 6 ∷ 1 ∷ []) no_ask)
    ∷ plain 4 (shown no_ask no_beat no_ask)
    ∷ plain 8 (shown no_ask no_beat (4 ∷ 2 ∷ 2 ∷ 1 ∷ 6 ∷ [])) ∷ plain 16 (shown no_ask no_beat no_ask) ∷ plain 16 (shown no_ask no_beat no_ask)
    ∷ plain 16 (shown no_ask no_beat no_ask) ∷ plain 8 (shown no_ask no_beat (16 ∷ 0 ∷ 2 ∷ 1 ∷ 1 ∷ [])) ∷ []

abbrev pub at_row : ℕ → ℕ → Offer
at_row t c = memory_offer whole (take t bursts) c

-- three beats of 4 bytes from 0x1006 on; four beats from 0x102c on
abbrev pub burst : ℕ → ℕ → ℕ → Address
burst addr beats kind = record { id = 0; addr = addr; beats = beats; size = 4; burst = kind; at = 0 }

abbrev pub addresses : Address → List ℕ
addresses a = map (λ i. address_of (record { ask = a; beat = i })) (range_with_len 0 a.beats)

pub record Examples : Type 0 where
  pub aw0 : memory_offer mgr [] 0 ≡ takes true
  pub w0 : memory_offer mgr [] 1 ≡ takes false
  pub ar0 : memory_offer mgr [] 3 ≡ takes true
  pub w1 : memory_offer mgr (take 1 rows) 1 ≡ takes true
  pub aw1 : memory_offer mgr (take 1 rows) 0 ≡ takes false
  pub b1 : memory_offer mgr (take 1 rows) 2 ≡ nothing
  pub b2 : memory_offer mgr (take 2 rows) 2 ≡ gives true []
  pub aw3 : memory_offer mgr (take 3 rows) 0 ≡ takes true
  pub r3 : memory_offer mgr (take 3 rows) 4 ≡ nothing
  pub r4 : memory_offer mgr (take 4 rows) 4 ≡ gives true (1000 ∷ [])
  pub ar4 : memory_offer mgr (take 4 rows) 3 ≡ takes false
  pub r5 : memory_offer mgr rows 4 ≡ nothing
  pub since : shown_since mgr (take 4 rows) ≡ 4
  pub words : take 4 (memory_after mgr rows) ≡ 0 ∷ 0 ∷ 1000 ∷ 0 ∷ []
  -- what was written behind the offer isn't shown, what came in its row is
  pub early : memory_offer mgr beside 4 ≡ gives true (0 ∷ [])
  pub same_row : memory_offer mgr at_once 4 ≡ gives true (7 ∷ [])
  -- the second beat isn't taken while its gate is shut
  pub one_beat : at_row 2 1 ≡ takes true
  pub no_answer : at_row 2 2 ≡ nothing
  pub waits : at_row 3 1 ≡ takes true
  pub still_none : at_row 3 2 ≡ nothing
  pub all_beats : at_row 4 1 ≡ takes false
  -- ID 13 in 2 bits
  pub answer : at_row 4 2 ≡ gives true (0 ∷ 1 ∷ [])
  pub free : at_row 5 0 ≡ takes true
  pub first_read : at_row 6 4 ≡ gives true (286331153 ∷ 0 ∷ 6 ∷ 0 ∷ [])
  pub second_read : at_row 7 4 ≡ gives true (12307456 ∷ 0 ∷ 6 ∷ 0 ∷ [])
  pub busy : at_row 7 3 ≡ takes false
  pub last_read : at_row 8 4 ≡ gives true (0 ∷ 1 ∷ 6 ∷ 0 ∷ [])
  pub all_read : at_row 9 4 ≡ nothing
  pub next_read : at_row 9 3 ≡ takes true
  pub past : at_row 10 4 ≡ gives true (0 ∷ 1 ∷ 1 ∷ 0 ∷ [])
  pub fixed : addresses (burst 4102 3 0) ≡ 4102 ∷ 4102 ∷ 4102 ∷ []
  pub stepping : addresses (burst 4102 3 1) ≡ 4102 ∷ 4104 ∷ 4108 ∷ []
  pub reserved : addresses (burst 4102 3 3) ≡ 4102 ∷ 4104 ∷ 4108 ∷ []
  pub wrapping : addresses (burst 4140 4 2) ≡ 4140 ∷ 4128 ∷ 4132 ∷ 4136 ∷ []
  -- strobes 0101 of 0x11223344 over 0xaabbccdd give 0xaa22cc44
  pub strobes : merged 4 2864434397 287454020 5 ≡ 2854407236
