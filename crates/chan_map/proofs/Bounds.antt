-- What is bound without a finding is a bound map.
use Rattle.std.proofs.Common.{◌≡◌, ℕ, ◌≤◌, List, [], ◌∷◌, ◌++◌, sym, ap, subst, ◌∙◌}
use Rattle.std.specs.Prelude.{count_by}
use Rattle.std.specs.Option.{option_to_list}
use Rattle.std.specs.List.{flat_map}
use Rattle.vidi_lines.proofs.vidi_bits_lemmas.Bools.{left_of}
use Rattle.net_design.specs.declared.design.Design.{Design}
use Rattle.net_design.specs.declared.design.Direction.TheVariants.{Input}
use Rattle.chan_map.specs.declared.map_text.MapLine.{MapLine}
use Rattle.chan_map.specs.declared.text.MapText.{MapText}
use Rattle.chan_map.specs.declared.parts.Parts.{Parts}
use Rattle.chan_map.specs.declared.pins.Pin.{Pin}
use Rattle.chan_map.specs.declared.pins.Map.{Map}
use Rattle.chan_map.specs.Ports.{socket_named, HaveWidths}
use Rattle.chan_map.specs.Reasons.{port_faults, cover_faults, limit_faults, all_names}
use Rattle.chan_map.specs.Places.{is_at, places, reset_places, tie_places, plugs_places}
use Rattle.chan_map.specs.Bound.{place_of, pin_named, plugs_of, ties_of, resets_of, table_of, map_faults, IsBound}
use Rattle.chan_map.specs.Parts.{ArePartsOf}
use Rattle.chan_map.proofs.Found.{bit_is}
use Rattle.chan_map.proofs.Fitting.{no_left, no_right, lines_fit, plugs_fit, ties_fit, last_reset_fits, clock_fits, once}
use Rattle.chan_map.proofs.Tabled.{table_is}
use Rattle.chan_map.proofs.Places.{pins_differ}
use Rattle.chan_map.proofs.Covered.{all_places, resets_in, ties_in, covered, few, one_reset}

-- the pins of the map are those that its lines add
placed : (d : Design) (lines : List MapLine) (clock : List ℕ) (map : Map) → map.clock ≡ pin_named d.ports clock
    → map.channels ≡ table_of d lines
    → map.plugs ≡ flat_map (λ (l : MapLine). plugs_of d.ports l.entry) lines
    → map.ties ≡ flat_map (λ (l : MapLine). ties_of d.ports l.entry) lines
    → option_to_list map.reset ≡ flat_map (λ (l : MapLine). resets_of d.ports l.entry) lines → places map ≡ all_places d lines clock
placed d lines clock map clock_is channels plugs ties reset =
    ap (λ (p : Pin). (Input, p.place) ∷
    (reset_places (option_to_list map.reset) ++ (tie_places map.ties ++ plugs_places map.channels map.plugs))) clock_is
    ∙ ap (λ rs. (Input, place_of (socket_named d.ports clock)) ∷
    (reset_places rs ++ (tie_places map.ties ++ plugs_places map.channels map.plugs))) reset
    ∙ ap (λ ts. (Input, place_of (socket_named d.ports clock)) ∷
    (reset_places (resets_in d lines) ++ (tie_places ts ++ plugs_places map.channels map.plugs))) ties
    ∙ ap (λ rows. (Input, place_of (socket_named d.ports clock)) ∷
    (reset_places (resets_in d lines) ++ (tie_places (ties_in d lines) ++ plugs_places rows map.plugs))) channels
    ∙ ap (λ ps. (Input, place_of (socket_named d.ports clock)) ∷
    (reset_places (resets_in d lines) ++ (tie_places (ties_in d lines) ++ plugs_places (table_of d lines) ps))) plugs

pub bound : (text : MapText) (d : Design) (parts : Parts) (map : Map) → HaveWidths d.ports → map_faults d text.lines ≡ []
    → ArePartsOf d text.lines parts
    → map.top ≡ text.top → map.clock ≡ pin_named d.ports text.clock
    → map.channels ≡ parts.channels → map.plugs ≡ parts.plugs → map.ties ≡ parts.ties → map.reset ≡ parts.reset
    → IsBound text d map
bound text d parts map widths none of top clock channels plugs ties reset =
    let fits = lines_fit d text.lines (no_left (port_faults d text.lines) _ none) in
    let rest : cover_faults d text.lines ++ limit_faults (table_of d text.lines) ≡ [] = no_right (port_faults d text.lines) _ none in
    let clock_line = clock_fits d text.lines text.clock fits text.one_clock in
    let one_each = once d.ports (all_names text.lines) (no_left (cover_faults d text.lines) _ rest) in
    let pins : places map ≡ all_places d text.lines text.clock = placed d text.lines text.clock map clock (channels ∙ of.channels)
    (plugs ∙ of.plugs) (ties ∙ of.ties)
    (ap option_to_list (reset ∙ of.reset) ∙ one_reset d text.lines text.follows) in
    record {
      top = top;
      channels = channels ∙ of.channels;
      plugs = plugs ∙ of.plugs;
      ties = ties ∙ of.ties;
      reset = ap option_to_list (reset ∙ of.reset) ∙ one_reset d text.lines text.follows;
      clock = clock;
      plugs_fit = rw (channels ∙ of.channels, plugs ∙ of.plugs) (plugs_fit d text.lines fits);
      ties_fit = rw (ties ∙ of.ties) (ties_fit d text.lines fits);
      reset_fits = rw (reset ∙ of.reset) (last_reset_fits d text.lines fits);
      clock_fits = rw clock (bit_is d Input text.clock (left_of _ _ clock_line));
      table = rw (channels ∙ of.channels)
          (table_is d widths text.lines fits text.follows text.named (no_right (cover_faults d text.lines) _ rest));
      once = one_each;
      inputs = λ k within. ap (count_by (is_at Input k)) pins ∙ covered d text.lines fits text.clock text.one_clock one_each k within;
      differ = pins_differ (places map)
          (λ way place. subst (λ ps. count_by (is_at way place) ps ≤ 1) (sym pins)
          (few d text.lines fits text.clock text.one_clock one_each way place));
    }
