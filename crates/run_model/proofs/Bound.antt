-- To designs that are alike a map is bound with the same answer.
use Rattle.std.proofs.Common.{◌≡◌, ℕ, ◌<◌, ◌&&◌, not, List, ◌++◌, Option, None, Some, Result, Ok, Err, take, length, refl, ap, sym, subst, ◌∙◌}
use Rattle.std.specs.Prelude.{count_by, slice_get, IfSome}
use Rattle.std.specs.List.{flat_map}
use Rattle.chan_map.proofs.vidi_bits_lemmas.Each.{each_weaker, zip-on}
use Rattle.chan_map.specs.vidi_bits.Findings.{told_if}
use Rattle.chan_map.specs.trace_model.declared.channel.Channel.{Channel as Row}
use Rattle.net_design.specs.declared.design.Port.{Port}
use Rattle.net_design.specs.declared.design.Direction.{Direction}
use Rattle.net_design.specs.declared.design.Direction.TheVariants.{Input, Output}
use Rattle.net_design.specs.declared.design.Design.{Design}
use Rattle.net_design.specs.Settled.{same_direction}
use Rattle.chan_map.specs.declared.error.MapError.{MapError}
use Rattle.chan_map.specs.declared.error.MapError.TheVariants as E
use Rattle.chan_map.specs.declared.text.MapText.{MapText}
use Rattle.chan_map.specs.declared.pins.Map.{Map}
use Rattle.chan_map.specs.declared.pins.Pin.{Pin}
use Rattle.chan_map.specs.declared.pins.Plug.{Plug}
use Rattle.chan_map.specs.declared.pins.Reset.{Reset as ResetOf}
use Rattle.chan_map.specs.declared.pins.Tie.{Tie as TieOf}
use Rattle.chan_map.specs.declared.sockets.Socket.{Socket}
use Rattle.chan_map.specs.declared.map_text.Entry.{Entry}
use Rattle.chan_map.specs.declared.map_text.Entry.TheVariants.{Top, Clock, Tie, Reset, Ignore, Channel}
use Rattle.chan_map.specs.declared.map_text.MapLine.{MapLine}
use Rattle.chan_map.specs.Ports.{socket_named, source_side, sink_side, times, is_own_clock, is_clock_of, is_bit, is_tied, is_pin}
use Rattle.chan_map.specs.Ports.{channel_fits, line_fits}
use Rattle.chan_map.specs.Reasons.{cover_from, limit_faults, all_names}
use Rattle.chan_map.specs.vidi_bits.Findings.{IsFirst}
use Rattle.chan_map.specs.Told.{map_told}
use Rattle.chan_map.specs.Bound.{pin_named, rows_of, plugs_of, ties_of, resets_of, map_faults, IsPin, IsPlug, IsTie, IsBound, BindsMap}
use Rattle.run_model.specs.Alike.{AreAlike}
use Rattle.run_model.specs.AlikeLaws.{MapsAlike}
use Rattle.run_model.proofs.Turned.{turned}

some-on : {A : Type 0} (P Q : A → Type 0) → ((x : A) → P x → Q x) → (o : Option A) → IfSome o P → IfSome o Q
some-on P Q on None h = h
some-on P Q on (Some x) h = on x h

module _ (d e : Design) (alike : AreAlike d e) where
  -- ---- what is found of the lines
  clock-alike : (o : Option Socket) → is_clock_of d o ≡ is_clock_of e o
  clock-alike None = refl
  clock-alike (Some s) = λ i. is_own_clock (alike.clock i) s.port && not (alike.unclocked i && alike.read s.port i)

  own-clock : (port : List ℕ) → is_clock_of d (socket_named d.ports port) ≡ is_clock_of e (socket_named e.ports port)
  own-clock port = clock-alike (socket_named d.ports port) ∙ ap (λ (ps : List Port). is_clock_of e (socket_named ps port)) alike.ports

  line-alike : (entry : Entry) → line_fits d entry ≡ line_fits e entry
  line-alike (Top name) = refl
  line-alike (Clock port) = λ i. is_bit Input (socket_named (alike.ports i) port) && own-clock port i
  line-alike (Tie port number) = ap (λ (ps : List Port). is_tied number (socket_named ps port)) alike.ports
  line-alike (Reset port active cycles) = ap (λ (ps : List Port). is_bit Input (socket_named ps port)) alike.ports
  line-alike (Ignore port) = ap (λ (ps : List Port). is_pin Output (socket_named ps port)) alike.ports
  line-alike (Channel c) = ap (λ (ps : List Port). channel_fits ps c) alike.ports

  faults-alike : (lines : List MapLine) → map_faults d lines ≡ map_faults e lines
  faults-alike lines =
      λ i. flat_map (λ (l : MapLine). told_if (not (line-alike l.entry i)) (E.Port l.line)) lines
      ++ (cover_from (alike.ports i) (all_names lines) 0 (alike.ports i)
      ++ limit_faults (flat_map (λ (l : MapLine). rows_of (alike.ports i) l.entry) lines))

  -- ---- the pins
  pin-alike : (direction : Direction) (width : ℕ) (pin : Pin) → IsPin d direction width pin → IsPin e direction width pin
  pin-alike direction width pin is = record {
    port = is.port;
    p = is.p;
    at = ap (λ (ps : List Port). slice_get ps is.port) (sym alike.ports) ∙ is.at;
    name = is.name;
    direction_is = is.direction_is;
    width_is = is.width_is;
    place = is.place
        ∙ ap (λ (ps : List Port). count_by (λ (q : Port). same_direction direction q.direction) (take is.port ps)) alike.ports;
  }

  plug-alike : (row : Row) (plug : Plug) → IsPlug d row plug → IsPlug e row plug
  plug-alike row plug is = record {
    valid = pin-alike (source_side row.dir) 1 plug.valid is.valid;
    ready = pin-alike (sink_side row.dir) 1 plug.ready is.ready;
    contents = zip-on (λ width pin. IsPin d (source_side row.dir) width pin) (λ width pin. IsPin e (source_side row.dir) width pin)
        (pin-alike (source_side row.dir)) row.widths plug.contents is.contents;
  }

  tie-alike : (tie : TieOf) → IsTie d tie → IsTie e tie
  tie-alike tie is = record { pin = pin-alike Input tie.width tie.pin is.pin; fits = is.fits }

  bound-alike : (text : MapText) (map : Map) → IsBound text d map → IsBound text e map
  bound-alike text map is = record {
    top = is.top;
    channels = is.channels ∙ ap (λ (ps : List Port). flat_map (λ (l : MapLine). rows_of ps l.entry) text.lines) alike.ports;
    plugs = is.plugs ∙ ap (λ (ps : List Port). flat_map (λ (l : MapLine). plugs_of ps l.entry) text.lines) alike.ports;
    ties = is.ties ∙ ap (λ (ps : List Port). flat_map (λ (l : MapLine). ties_of ps l.entry) text.lines) alike.ports;
    reset = is.reset ∙ ap (λ (ps : List Port). flat_map (λ (l : MapLine). resets_of ps l.entry) text.lines) alike.ports;
    clock = is.clock ∙ ap (λ (ps : List Port). pin_named ps text.clock) alike.ports;
    plugs_fit = zip-on (IsPlug d) (IsPlug e) plug-alike map.channels map.plugs is.plugs_fit;
    ties_fit = each_weaker (IsTie d) (IsTie e) tie-alike map.ties is.ties_fit;
    reset_fits = some-on (λ (r : ResetOf). IsPin d Input 1 r.pin) (λ (r : ResetOf). IsPin e Input 1 r.pin)
        (λ r. pin-alike Input 1 r.pin) map.reset is.reset_fits;
    clock_fits = pin-alike Input 1 map.clock is.clock_fits;
    table = is.table;
    once = λ k l.
        ap (λ (ps : List Port). times ps (all_names text.lines) k) (sym alike.ports)
        ∙ is.once k (subst (λ (ps : List Port). k < length ps) (sym alike.ports) l);
    inputs = λ k l. is.inputs k
        (subst (λ (ps : List Port). k < count_by (λ (q : Port). same_direction Input q.direction) ps) (sym alike.ports) l);
    differ = is.differ;
  }

  binds-alike : (text : MapText) (answer : Result Map MapError) → BindsMap text d answer → BindsMap text e answer
  binds-alike text (Ok map) (none, is) = (sym (faults-alike text.lines) ∙ none, bound-alike text map is)
  binds-alike text (Err error) is = subst (λ (faults : List MapError). IsFirst map_told faults error) (faults-alike text.lines) is

pub maps-alike : MapsAlike
maps-alike text d e alike answer = (binds-alike d e alike text answer, binds-alike e d (turned d e alike) text answer)
