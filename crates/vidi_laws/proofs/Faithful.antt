-- What holds of every replay, said of the three files.
use Rattle.std.proofs.Common.{◌≡◌, ℕ, suc, ◌<◌, ◌≤◌, List, [], Some, get_or, slice_get, refl, sym, subst, ◌∙◌, arith, ⊎_elim}
use Rattle.std.proofs.lemmas.Bool.{cases_lt}
use Rattle.std.proofs.lemmas.List.{flat_map_more, length_push}
use Rattle.std.proofs.lemmas.Option.{slice_get-get_or}
use Rattle.vidi_commands.specs.trace_model.declared.channel.Channel.{Channel}
use Rattle.vidi_commands.specs.trace_model.declared.packet.Packet.{Packet}
use Rattle.vidi_commands.specs.trace_model.declared.row.Row.{Row}
use Rattle.vidi_commands.specs.trace_model.Epoch.{epoch, resets}
use Rattle.vidi_commands.specs.trace_model.Recording.{packets_from, trace_of}
use Rattle.vidi_commands.specs.trace_model.Trace.{IsWellFormed}
use Rattle.vidi_commands.specs.trace_code.Encoding.{HasEncoding}
use Rattle.net_design.specs.declared.design.Design.{Design}
use Rattle.vidi_commands.specs.chan_map.declared.pins.Map.{Map}
use Rattle.vidi_commands.specs.run_model.Laws.{AreInOrder}
use Rattle.vidi_commands.specs.run_model.Stretches.{and_stretch, rows_of}
use Rattle.vidi_commands.specs.replay_run.declared.outcome.ReplayOutcome.{ReplayOutcome}
use Rattle.vidi_commands.specs.replay_run.declared.outcome.ReplayOutcome.TheVariants.{Ended, Short, Unstable}
use Rattle.vidi_commands.specs.replay_run.Epochs.{epochs}
use Rattle.vidi_commands.specs.replay_run.Replaying.{ArePrefixes, EndsAs}
use Rattle.vidi_commands.proofs.replay_run_lemmas.Epochs.{epoch-past, epochs-long}
use Rattle.vidi_commands.proofs.replay_run_lemmas.Prefix.{prefixes}
use Rattle.vidi_commands.proofs.replay_run_lemmas.Stretched.{are-marked, ends-contents, ends-encoded, ends-free, ends-order, ends-played}
use Rattle.vidi_laws.specs.Headline.{AreNamed, IsInOrderOf, ReplayIsFaithful}
use Rattle.vidi_laws.proofs.Gaps.{order-bare, trace-epochs, IsTraceOf}
use Rattle.vidi_laws.proofs.KeptOrder.{findings-keep}

-- where nothing is recorded all is in order
none-in_order : (channels : List Channel) (packets : List Packet) → AreInOrder channels packets []
none-in_order channels packets = record {
  events = λ kind c j p x packet at held is. absurd (none-at p packet is.at);
  contents = λ c x at inward. refl;
}
  where
    none-at : (p : ℕ) (packet : Packet) → slice_get [] p ≡ Some packet → ⊥
    none-at p packet at = cc

module _ (d : Design) (m : Map) (packets : List Packet) (n : ℕ) (past : List (List Row)) (here : List Row) (o : ReplayOutcome)
    (ends : EndsAs d m packets n past here o) (out : List Packet) (of : IsTraceOf m.channels (and_stretch past here) out) where
  abbrev stretches : List (List Row)
  stretches = and_stretch past here

  few-resets : resets out ≤ resets packets
  few-resets =
      let many = of.many in
      let few = (ends-order d m packets n past here o ends).few in
      let all = epochs-long 0 (suc (resets packets)) packets in
      omega (arith, many, few, all)

  epoch-order : (e : ℕ) → AreInOrder m.channels (epoch e packets) (epoch e out)
  epoch-order e = ⊎_elim
      (λ (past-all : resets out < e). subst (AreInOrder m.channels (epoch e packets)) (sym (epoch-past e out past-all))
      (none-in_order m.channels (epoch e packets)))
      (λ (there : e ≤ resets out).
      (let many = of.many in
      let rows = get_or stretches e [] in
      let at : slice_get stretches e ≡ Some rows = slice_get-get_or stretches e [] (omega (arith, many, there)) in
      order-bare m.channels (epoch e packets) (epoch e out) (subst (AreInOrder m.channels (epoch e packets)) (sym (of.each e rows at))
      ((ends-order d m packets n past here o ends).each e rows at))))
      (cases_lt (resets out) e)

  in-order : ArePrefixes m.channels packets out → IsInOrderOf m.channels packets out
  in-order contents = record { few = few-resets; order = epoch-order; contents = contents }

lists-named : (d : Design) (m : Map) (packets : List Packet) (n : ℕ) (past : List (List Row)) (here : List Row) (o : ReplayOutcome)
    → EndsAs d m packets n past here o → AreNamed m.channels packets past here o
lists-named d m packets n past here (Ended cycles) ends = tt
lists-named d m packets n past here (Short helds events) (e, held_are, waits_are) = (held_are, waits_are)
lists-named d m packets n past here (Unstable channel cycle) ends = tt

pub replay-faithful : ReplayIsFaithful
replay-faithful design map trace files v t is n small rows o x =
    let d = v.design in
    let m = v.map in
    let ss = and_stretch x.past x.here in
    let some = length_push x.past x.here in
    let played = (ends-played d m t.packets n x.past x.here o x.ends).played in
    let whole : rows_of ss ≡ rows = sym (flat_map_more (λ (rs : List Row). rs) [] x.past x.here) ∙ x.rows_are in
    let of : IsTraceOf m.channels ss (trace_of m.channels rows).packets =
    subst (λ (rs : List Row). IsTraceOf m.channels ss (packets_from m.channels 0 0 rs)) whole
    (trace-epochs m.channels ss (are-marked d m (epochs t.packets) ss played) (omega (arith, some))) in
    let well = subst (λ (cs : List Channel). IsWellFormed (record { channels = cs; packets = t.packets })) is.same
    is.encodes.0.well_formed in
    let contents = subst (λ (rs : List Row). ArePrefixes m.channels t.packets (trace_of m.channels rs).packets) x.rows_are
    (prefixes d m t.packets x.past x.here played (ends-order d m t.packets n x.past x.here o x.ends) well.packets) in
    let order = in-order d m t.packets n x.past x.here o x.ends (trace_of m.channels rows).packets of contents in
    record {
      order = order;
      unbroken = findings-keep m.channels t.packets (trace_of m.channels rows).packets order.few order.order;
      contents = ends-contents d m t.packets n x.past x.here o x.ends;
      named = lists-named d m t.packets n x.past x.here o x.ends;
      free = ends-free d m t.packets n x.past x.here o well x.ends;
      encoded = subst (λ (rs : List Row). HasEncoding (trace_of m.channels rs)) x.rows_are
          (ends-encoded d m t.packets n x.past x.here o is.device.bound.1.table small x.ends);
    }
