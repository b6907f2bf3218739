-- Passing over packets: what was read of them, without their contents.
use Rattle.std.proofs.Common.{◌≡◌, ◌≢◌, ℕ, ◌+◌, ◌-◌, ◌≤◌, List, [], ◌∷◌, ◌++◌, length, take, All, Some, None}
use Rattle.std.proofs.Common.{refl, sym, ap, ◌∙◌, append_assoc, arith}
use Rattle.std.specs.List.{flat_map}
use Rattle.std.proofs.lemmas.List.{length-append, take_at}
use Rattle.std.proofs.lemmas.List.Elements.{All-push}
use Rattle.std.proofs.lemmas.Option.{same_Some, none-some}
use Rattle.vec_clock.specs.trace_model.declared.channel.Channel.{Channel}
use Rattle.vec_clock.specs.trace_model.declared.packet.Packet.{Packet}
use Rattle.vec_clock.specs.trace_model.Channel.{IsTable}
use Rattle.vec_clock.specs.trace_model.Epoch.{since_reset}
use Rattle.vec_clock.specs.trace_model.Packet.{IsPacket}
use Rattle.vec_clock.specs.trace_model.Trace.{AlternateThroughout, InFlight}
use Rattle.vec_clock.proofs.trace_model_lemmas.EpochLemmas.{in_flight-none, throughout-nil}
use Rattle.trace_code.specs.declared.salvaging.Whole.{Whole}
use Rattle.trace_code.specs.Encoding.{header_bytes, packet_bytes, end_mark}
use Rattle.trace_code.specs.PacketReading.{numbers_at, packet_at, AreAll}
use Rattle.trace_code.specs.Salvage.{IsFront}
use Rattle.trace_code.specs.Skipping.{Follows}
use Rattle.trace_code.proofs.Readings.{all-longest}
use Rattle.trace_code.proofs.Spelled.{packets-few, parts-push}
use Rattle.trace_code.proofs.PacketLaws.{packet_again, packet_some}

-- ---- one packet

pub none-read : (bytes : List ℕ) → numbers_at [] bytes ≡ Some ([], bytes)
unfolding numbers_at
none-read bytes = refl

-- where no packet is read, none stands
pub none-stands : (cs : List Channel) (bytes : List ℕ) → packet_at cs bytes ≡ None → (p : Packet) (rest : List ℕ) → IsPacket cs p
    → bytes ≡ packet_bytes cs p ++ rest → ⊥
none-stands cs bytes none p rest h e = none-some (p, rest) (sym none ∙ ap (packet_at cs) e ∙ packet_again cs p rest h)

-- and where one is read, no other
pub none-other : (cs : List Channel) (bytes : List ℕ) (q : Packet) (r : List ℕ) → packet_at cs bytes ≡ Some (q, r) → (p : Packet)
    (rest : List ℕ) → IsPacket cs p → bytes ≡ packet_bytes cs p ++ rest → p ≡ q
none-other cs bytes q r given p rest h e =
    ap (λ (x : Packet × List ℕ). x.0) (sym (same_Some (q, r) (p, rest) (sym given ∙ ap (packet_at cs) e ∙ packet_again cs p rest h)))

-- ---- all of them

-- the packets that were passed over, each lawful after those before it
pub record Skipped (cs : List Channel) (bytes : List ℕ) (count mask : ℕ) (rest : List ℕ) : Type 0 where
  pub packets : List Packet
  pub counted : length packets ≡ count
  pub each : All (IsPacket cs) packets
  pub alternate : AlternateThroughout packets
  pub flying : InFlight (since_reset packets) mask
  pub parts : bytes ≡ flat_map (packet_bytes cs) packets ++ rest

pub skipped-none : (cs : List Channel) (bytes : List ℕ) → Skipped cs bytes 0 0 bytes
skipped-none cs bytes = record {
  packets = [];
  counted = refl;
  each = λ k d below. absurd (omega arith);
  alternate = throughout-nil;
  flying = in_flight-none;
  parts = refl;
}

pub skipped-few : (cs : List Channel) (bytes : List ℕ) (count flying : ℕ) (rest : List ℕ) → Skipped cs bytes count flying rest
    → count ≤ length bytes
skipped-few cs bytes count flying rest s = omega (
  arith,
  s.counted,
  packets-few (packet_bytes cs) (λ p. omega (arith, packet_some cs p)) s.packets,
  ap length s.parts,
  length-append (flat_map (packet_bytes cs) s.packets) rest,
)

-- one packet more
pub skipped-on : (cs : List Channel) (bytes : List ℕ) (count flying after : ℕ) (rest others : List ℕ)
    → Skipped cs bytes count flying rest → Follows cs rest flying after others → Skipped cs bytes (count + 1) after others
skipped-on cs bytes count flying after rest others s f =
    let next = f.goes_on s.packets s.alternate s.flying in
    record {
      packets = s.packets ++ f.packet ∷ [];
      counted = omega (arith, s.counted, length-append s.packets (f.packet ∷ []));
      each = All-push (IsPacket cs) s.packets f.packet s.each f.lawful;
      alternate = next.0;
      flying = next.1;
      parts = parts-push (packet_bytes cs) s.packets (s.packets ++ f.packet ∷ []) f.packet bytes rest others s.parts f.parts refl;
    }

-- with a packet there are fewer bytes
pub skipped-shorter : (cs : List Channel) (bytes : List ℕ) (flying after : ℕ) (rest : List ℕ) → Follows cs bytes flying after rest
    → length rest + 1 ≤ length bytes
skipped-shorter cs bytes flying after rest f = omega (arith, ap length f.parts, length-append (packet_bytes cs f.packet) rest, packet_some cs f.packet)

-- where none follows, these are all
pub skipped-all : (cs : List Channel) (bytes : List ℕ) (count flying : ℕ) (rest : List ℕ) → Skipped cs bytes count flying rest
    → ((ps : List Packet) (p : Packet) (after : List ℕ) → InFlight (since_reset ps) flying → AlternateThroughout (ps ++ p ∷ []) → IsPacket cs p
    → rest ≢ packet_bytes cs p ++ after)
    → (packets : List Packet) × (length packets ≡ count) × AreAll cs bytes packets rest
skipped-all cs bytes count flying rest s none = (
  s.packets,
  s.counted,
  record {
    each = s.each;
    alternate = s.alternate;
    parts = s.parts;
    last = λ p after lawful alternate. none s.packets p after s.flying alternate lawful;
  },
)

-- the front that is left before the rest
pub front-whole : (cs : List Channel) (bytes body rest : List ℕ) (ps : List Packet) (whole : Whole) → IsTable cs
    → bytes ≡ header_bytes cs ++ body → AreAll cs body ps rest → whole.len ≡ length bytes - length rest → length ps ≡ whole.packets
    → IsFront bytes whole (record { channels = cs; packets = ps })
front-whole cs bytes body rest ps whole table is all len count =
    let header : List ℕ = header_bytes cs in
    let packets : List ℕ = flat_map (packet_bytes cs) ps in
    let parts : bytes ≡ (header ++ packets) ++ rest = is ∙ ap (λ (bs : List ℕ). header ++ bs) all.parts
    ∙ sym (append_assoc header packets rest) in
    let long : length (header ++ packets) ≡ whole.len = omega (arith, len, ap length parts, length-append (header ++ packets) rest) in
    record {
      salvaged = (rest, all-longest cs bytes body rest ps table is all);
      packets = sym count;
      few = omega (arith, count, packets-few (packet_bytes cs) (λ p. omega (arith, packet_some cs p)) ps, long, length-append header packets);
      within = omega (arith, len);
      encoded = ap (λ (bs : List ℕ). take whole.len bs ++ end_mark whole.packets) parts
          ∙ ap (λ (bs : List ℕ). bs ++ end_mark whole.packets) (take_at (header ++ packets) rest whole.len long)
          ∙ append_assoc header packets (end_mark whole.packets)
          ∙ ap (λ n. header ++ (packets ++ end_mark n)) (sym count);
    }
