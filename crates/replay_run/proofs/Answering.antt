-- What is answered behind the last cycle, over plain values.
use Rattle.std.proofs.Common.{◌≡◌, ℕ, ◌+◌, ◌≤◌, not, List, cond, length, nat_lt, ap, sym, subst, ◌∙◌}
use Rattle.std.proofs.lemmas.Grind.{merely}
use Rattle.trace_code.specs.trace_model.declared.channel.Channel.{Channel}
use Rattle.trace_code.specs.trace_model.declared.event.Event.{Event}
use Rattle.trace_code.specs.trace_model.declared.packet.TheConstants.{MOST_CYCLES}
use Rattle.trace_code.specs.trace_model.declared.packet.Packet.{Packet}
use Rattle.trace_code.specs.trace_model.declared.row.Row.{Row}
use Rattle.trace_code.specs.trace_model.declared.trace.Trace.{Trace}
use Rattle.trace_code.specs.trace_model.Channel.{IsTable}
use Rattle.trace_code.specs.trace_model.Epoch.{epoch, resets}
use Rattle.trace_code.specs.trace_model.Recording.{trace_of}
use Rattle.trace_code.specs.trace_model.Row.{row_before}
use Rattle.trace_code.specs.trace_model.Trace.{IsWellFormed}
use Rattle.trace_code.specs.Encoding.{encode, HasEncoding}
use Rattle.net_design.specs.declared.design.Design.{Design}
use Rattle.net_design.specs.declared.values.Values.{Values}
use Rattle.run_stage.specs.chan_map.declared.pins.Map.{Map}
use Rattle.run_stage.specs.chan_monitor.vidi_bits.Findings.{is_nil}
use Rattle.run_stage.specs.run_model.declared.held.Held.{Held}
use Rattle.run_stage.specs.run_model.Held.{held_of, waits_of}
use Rattle.run_stage.specs.run_model.Replay.{done, IsReplayStretch}
use Rattle.run_stage.specs.Stretching.{all_rows, PlayStretches}
use Rattle.replay_run.specs.declared.outcome.Replayed.{Replayed}
use Rattle.replay_run.specs.declared.feeder.Feeder.{Feeder}
use Rattle.replay_run.specs.Lists.{IsKept}
use Rattle.replay_run.specs.Replaying.{held_behind, waits_behind, EndsAs, IsReplayed}
use Rattle.replay_run.specs.Standing.{epoch_rule, AreKept, TurnsBehind}
use Rattle.replay_run.proofs.Playing.{balance, flight-last}
use Rattle.replay_run.proofs.Stretched.{ends-contents, ends-encoded, ends-free, ends-order, ends-played}
use Rattle.replay_run.proofs.Prefix.{prefixes}

-- what is kept is what the lists are made of
pub kept-rows : (d : Design) (m : Map) (packets : List Packet) (runs : Design → Values → List (List Row) → List Row → Type 0) (past : List (List Row))
    (here : List Row) (n : ℕ) (feeder : Feeder) (last : Row)
    → PlayStretches d m (epoch_rule m.channels packets) (TurnsBehind m.channels packets) runs last past here
    → AreKept m.channels n past here feeder → IsKept (length m.channels) here feeder.have last
kept-rows d m packets runs past here n feeder last at kept =
    let later = not (is_nil past) in
    let now = epoch (length past) packets in record {
      long = kept.long;
      counts = kept.counts;
      flight = λ c l. flight-last (row_before here (length here)) last c at.last_is;
      starts = λ c l. balance later m now here last (merely {P = (e : Design) × IsReplayStretch later e m now here} (d, at.played.last))
          at.stable.last at.last_is c
          ∙ ap (λ b. done here c + cond b 1 0) (flight-last (row_before here (length here)) last c at.last_is);
    }

-- the lists behind a replay's stretches, by the number of the epoch
pub held-numbered_so : (e : ℕ) (channels given : List Channel) (packets : List Packet) (past : List (List Row)) (here : List Row) (hs : List Held)
    → e ≡ length past → given ≡ channels → hs ≡ held_of e (nat_lt e (resets packets)) given (epoch e packets) here
    → hs ≡ held_behind channels packets past here
held-numbered_so e channels given packets past here hs number same is =
    is ∙ ap (λ i. held_of i (nat_lt i (resets packets)) given (epoch i packets) here) number
    ∙ ap (λ (cs : List Channel). held_behind cs packets past here) same

pub waits-numbered_so : (e : ℕ) (channels given : List Channel) (packets : List Packet) (past : List (List Row)) (here : List Row) (es : List Event)
    → e ≡ length past → given ≡ channels → es ≡ waits_of e (nat_lt e (resets packets)) given (epoch e packets) here
    → es ≡ waits_behind channels packets past here
waits-numbered_so e channels given packets past here es number same is =
    is ∙ ap (λ i. waits_of i (nat_lt i (resets packets)) given (epoch i packets) here) number
    ∙ ap (λ (cs : List Channel). waits_behind cs packets past here) same

well-formed : (t : Trace) (channels : List Channel) → t.channels ≡ channels → HasEncoding t
    → IsWellFormed (record { channels = channels; packets = t.packets })
well-formed t channels e has = subst (λ (cs : List Channel). IsWellFormed (record { channels = cs; packets = t.packets })) e has.well_formed

pub replayed : (d : Design) (m : Map) (t : Trace) (n : ℕ) (runs : Design → Values → List Row → Type 0) (last : Row) (past : List (List Row))
    (here : List Row) (answer : Replayed) → t.channels ≡ m.channels → HasEncoding t → n ≤ MOST_CYCLES
    → PlayStretches d m (epoch_rule m.channels t.packets) (TurnsBehind m.channels t.packets) (λ e state before rows. runs e state rows) last past here
    → EndsAs d m t.packets n past here answer.outcome → answer.out ≡ encode (trace_of m.channels (all_rows past here))
    → IsReplayed d m t.packets n runs answer
replayed d m t n runs last past here answer same has small at ends out = record {
  past = past;
  here = here;
  ends = ends;
  out = (ends-encoded d m t.packets n past here answer.outcome (subst IsTable same has.table) small ends, sym out);
  driven = at.played.last.driven;
  stands = at.at;
  order = ends-order d m t.packets n past here answer.outcome ends;
  prefixes = prefixes d m t.packets past here (ends-played d m t.packets n past here answer.outcome ends).played
      (ends-order d m t.packets n past here answer.outcome ends) (well-formed t m.channels same has).packets;
  contents = ends-contents d m t.packets n past here answer.outcome ends;
  free = ends-free d m t.packets n past here answer.outcome (well-formed t m.channels same has) ends;
}
