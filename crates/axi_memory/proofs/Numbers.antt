-- The number that is offered on a port.
use Rattle.std.proofs.Common.{◌≡◌, ℕ, ◌+◌, ◌%◌, ◌^◌, ◌<◌, Bool, true, false, cond, List, length, Option, None, Some, is_some, refl, ap, sym}
use Rattle.std.proofs.Common.{◌∙◌, arith, pow_pos, mod-eq_of_lt}
use Rattle.std.specs.Prelude.{slice_get, slice_index}
use Rattle.std.specs.List.{enumerate_from}
use Rattle.std.proofs.lemmas.List.{get_or-map}
use Rattle.std.proofs.lemmas.List.FromFn.{get_or-enumerate_from, length-enumerate_from}
use Rattle.axi_burst.specs.declared.axi_text.Role.{Role}
use Rattle.axi_burst.specs.declared.axi_text.Role.TheVariants.{WriteAddress, WriteData, WriteResponse, ReadAddress, ReadData}
use Rattle.trace_model.specs.declared.channel.Channel.{Channel}
use Rattle.trace_model.specs.Packet.{widths_of}
use Rattle.axi_memory.specs.declared.served.Ports.{Ports}
use Rattle.axi_memory.specs.declared.served.Served.{Served}
use Rattle.axi_memory.specs.declared.turn.Turn.{Turn}
use Rattle.axi_memory.specs.Memory.{Standing, content, gives, offer_as, offer_of, read_number, response, role_at}
use Rattle.axi_memory.specs.Stands.{AreServed, number_of, served}
use Rattle.axi_memory.proofs.Lasting.{channel_of, role-is}

none-left : (w : ℕ) → 0 ≡ 0 % 2 ^ w
none-left w = sym (mod-eq_of_lt (pow_pos w))

module _ (channels : List Channel) (port : ℕ) where
  abbrev width : ℕ → ℕ
  width c = slice_index (widths_of (slice_get channels c)) port

  content-port : (c : ℕ) (at : ℕ → ℕ) → port < length (widths_of (slice_get channels c))
      → slice_index (content channels c at) port ≡ at port % 2 ^ width c
  content-port c at l =
      let ws = widths_of (slice_get channels c) in
      let long = length-enumerate_from 0 ws in
      let here = get_or-enumerate_from 0 ws port (0, 0) l in
      let e : 0 + port ≡ port = omega arith in
      get_or-map (λ (x : ℕ × ℕ). at x.0 % 2 ^ x.1) (enumerate_from 0 ws) port (0, 0) 0 (omega (arith, long, l))
      ∙ ap (λ (x : ℕ × ℕ). at x.0 % 2 ^ x.1) here ∙ ap (λ k. at k % 2 ^ width c) e

  gives-port : (c : ℕ) (at : ℕ → ℕ) (up : Bool) → port < length (widths_of (slice_get channels c))
      → slice_index (gives up (content channels c at)).content port ≡ cond up (at port) 0 % 2 ^ width c
  gives-port c at true l = content-port c at l
  gives-port c at false l = none-left (width c)

  read-port : (p : Served) (c : ℕ) (turn : Option Turn) (word : ℕ) → port < length (widths_of (slice_get channels c))
      → slice_index (gives (is_some turn) (content channels c (read_number p turn word))).content port ≡ read_number p turn word port % 2 ^ width c
  read-port p c None word l = none-left (width c)
  read-port p c (Some t) word l = content-port c (read_number p (Some t) word) l

  module _ (ports : Ports) (is : AreServed channels ports) (s : Standing) (c : ℕ) (l : port < length (widths_of (slice_get channels c))) where
    abbrev p : Served
    p = served channels ports

    as-role : (o : Option Role) → ((role : Role) → o ≡ Some role → c ≡ channel_of ports role)
        → slice_index (offer_as p s o).content port ≡ number_of p s o port % 2 ^ width c
    as-role None own = none-left (width c)
    as-role (Some WriteAddress) own = none-left (width c)
    as-role (Some WriteData) own = none-left (width c)
    as-role (Some WriteResponse) own =
        ap (λ k. slice_index (gives s.answers (content channels k (response p s))).content port) (sym (own WriteResponse refl))
        ∙ gives-port c (response p s) s.answers l
    as-role (Some ReadAddress) own = none-left (width c)
    as-role (Some ReadData) own =
        ap (λ k. slice_index (gives (is_some s.turn) (content channels k (read_number p s.turn s.word))).content port) (sym (own ReadData refl))
        ∙ read-port p c s.turn s.word l

    pub offered : slice_index (offer_of p s c).content port ≡ number_of p s (role_at ports c) port % 2 ^ width c
    offered = as-role (role_at ports c) (role-is channels ports is c)
