-- A trace that has an old encoding, or is salvaged as one, has one of today, which is at most twice as long.
use Rattle.std.proofs.Common.{◌≡◌, ℕ, ◌+◌, ◌*◌, ◌^◌, ◌<◌, ◌≤◌, cond, List, [], ◌∷◌, ◌++◌, length, All, refl, ap}
use Rattle.std.proofs.Common.{◌∙◌, arith}
use Rattle.std.specs.List.{flat_map}
use Rattle.std.proofs.lemmas.List.{length-append}
use Rattle.std.proofs.lemmas.List.Elements.{All-head, All-tail}
use Rattle.trace_code.specs.trace_model.declared.channel.Channel.{Channel}
use Rattle.trace_code.specs.trace_model.declared.packet.Packet.{Packet}
use Rattle.trace_code.specs.trace_model.declared.trace.Trace.{Trace}
use Rattle.trace_code.specs.trace_model.Channel.{IsTable}
use Rattle.trace_code.specs.trace_model.Length.{mask_len}
use Rattle.trace_code.specs.trace_model.Packet.{widths_under}
use Rattle.trace_code.specs.Encoding.{encode, end_mark, events_bytes, gap_bytes, header_bytes, mask_bytes, number_bytes, packet_bytes, HasEncoding}
use Rattle.trace_code.proofs.trace_model_lemmas.EpochLemmas.{epochs-alone}
use Rattle.trace_code.proofs.NumberLaws.{length-low}
use Rattle.trace_code.proofs.Readings.{one_reading}
use Rattle.trace_v2.specs.Old.{HasOldEncoding, IsOldTable, IsPlain, old_encode, old_header_bytes, old_packet_bytes}
use Rattle.trace_v2.specs.Migration.{MigrationKeeps, VersionsDiffer}
use Rattle.trace_v2.specs.OldDecoding.{SplitsOld}
use Rattle.trace_v2.proofs.OldReadings.{one_old_reading}

pub is-table : (channels : List Channel) → IsOldTable channels → IsTable channels
is-table channels t = record {
  some = t.some;
  few = (let l = t.few in omega (arith, l));
  each = t.each;
  differ = t.differ;
  content = (let l = t.content in omega (arith, l));
}

pub has-encoding : (t : Trace) → HasOldEncoding t → HasEncoding t
has-encoding t h = record { table = is-table t.channels h.table; well_formed = h.well_formed; few = h.few }

pub splits-encoded : (bytes : List ℕ) (t : Trace) (rest : List ℕ) → SplitsOld bytes t.channels t.packets rest → length t.packets < 2 ^ 32
    → HasEncoding t
splits-encoded bytes t rest s few = record {
  table = is-table t.channels s.table;
  well_formed = record {
    packets = λ k d lt. (s.each k d lt).0;
    alternate = epochs-alone t.packets (λ k d lt. (s.each k d lt).1.1) s.alternate;
  };
  few = few;
}

-- ---- lengths
some-mask : (n mask : ℕ) → 1 ≤ n → 1 ≤ length (mask_bytes n mask)
some-mask n mask l = let long = length-low 0 (mask_len n) mask in omega (arith, long, l)

old-some : (channels : List Channel) (p : Packet) → 1 ≤ length channels → 3 ≤ length (old_packet_bytes channels p)
old-some channels p l =
    let n = length channels in
    let starts = some-mask n p.starts l in
    let ends = some-mask n p.ends l in
    let numbers = number_bytes (widths_under p.starts channels) p.contents in
    let one = length-append (mask_bytes n p.starts) (mask_bytes n p.ends ++ numbers) in
    let two = length-append (mask_bytes n p.ends) numbers in
    omega (arith, one, two, starts, ends)

-- a packet grows by its gap
grown : (channels : List Channel) (p : Packet) → IsPlain p → length (packet_bytes channels p) ≡ length (old_packet_bytes channels p) + 2
grown channels p plain =
    let events = events_bytes channels p.starts p.ends p.contents in
    let one = ap (λ b. length (cond b (2 ∷ gap_bytes p.gap) (1 ∷ (gap_bytes p.gap ++ events)))) plain.1 in
    let two = length-append (gap_bytes p.gap) events in
    omega (arith, one, two)

packets-short : (channels : List Channel) (ps : List Packet) → 1 ≤ length channels → All IsPlain ps
    → length (flat_map (packet_bytes channels) ps) ≤ 2 * length (flat_map (old_packet_bytes channels) ps)
packets-short channels [] l plain = omega arith
packets-short channels (p ∷ ps) l plain =
    let here = grown channels p (All-head IsPlain p ps plain) in
    let some = old-some channels p l in
    let more = packets-short channels ps l (All-tail IsPlain p ps plain) in
    let new = length-append (packet_bytes channels p) (flat_map (packet_bytes channels) ps) in
    let old = length-append (old_packet_bytes channels p) (flat_map (old_packet_bytes channels) ps) in
    omega (arith, here, some, more, new, old)

pub migrated-short : (t : Trace) → HasOldEncoding t → length (encode t) ≤ 2 * length (old_encode t)
migrated-short t h =
    let packets = flat_map (packet_bytes t.channels) t.packets in
    let olds = flat_map (old_packet_bytes t.channels) t.packets in
    let mark = end_mark (length t.packets) in
    let short = packets-short t.channels t.packets h.table.some h.old in
    let new1 = length-append (header_bytes t.channels) (packets ++ mark) in
    let new2 = length-append packets mark in
    let old1 = length-append (old_header_bytes t.channels) (olds ++ mark) in
    let old2 = length-append olds mark in
    omega (arith, short, new1, new2, old1, old2)

pub migration-keeps : MigrationKeeps
migration-keeps old new m t u was is = one_reading new u m.0 is m.2 ∙ one_old_reading old m.0 t m.1 was

-- ---- the magics differ
pub versions-differ : VersionsDiffer
versions-differ channels rest = (refl, refl)
