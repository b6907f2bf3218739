-- A cycle of the design below a top, at the pins that the top enters.
use Rattle.std.proofs.Common.{◌≡◌, ℕ, zero, suc, ◌<◌, ◌≤◌, ◌^◌, ◌==◌, ◌&&◌, Bool, true, false, not, List, [], ◌∷◌, map, length, Option}
use Rattle.std.proofs.Common.{Some, refl, sym, ap, ◌∙◌, subst, arith, slice_get, get_or}
use Rattle.std.specs.Prelude.{codes}
use Rattle.std.specs.List.{AllZip}
use Rattle.std.proofs.lemmas.List.{length-map}
use Rattle.std.proofs.lemmas.Nat.{pow_pos}
use Rattle.net_order.specs.vidi_bits.Number.{truth, has}
use Rattle.vlog_tree.specs.Tree.{ModuleOf, FileOf}
use Rattle.net_design.specs.declared.design.Design.{Design}
use Rattle.net_design.specs.declared.design.Direction.TheVariants.{Output}
use Rattle.net_design.specs.declared.values.Values.{Values}
use Rattle.net_design.specs.Names.{net_names}
use Rattle.net_design.specs.Pins.{outputs}
use Rattle.net_design.specs.Settled as design
use Rattle.flat_parts.specs.vlog_driver.Names.{Name, Full, State}
use Rattle.flat_parts.specs.vlog_driver.Next.{IsNext, IsInitial}
use Rattle.flat_parts.specs.vlog_driver.Settled.{IsSettled}
use Rattle.flat_parts.specs.Meaning.{values_of, AreNarrow}
use Rattle.chan_replayer.specs.trace_model.declared.channel.Channel.{Channel}
use Rattle.chan_replayer.specs.trace_model.declared.channel.Dir.{Dir}
use Rattle.chan_replayer.specs.trace_model.declared.row.Offers.{Offers}
use Rattle.chan_replayer.specs.trace_model.declared.row.Row.{Row}
use Rattle.chan_replayer.specs.trace_model.Row.{sink_valid, AreOffers, IsMarked, IsOver}
use Rattle.chan_replayer.specs.chan_map.declared.pins.Map.{Map}
use Rattle.chan_replayer.specs.chan_map.declared.pins.Pin.{Pin}
use Rattle.chan_replayer.specs.chan_map.declared.pins.Plug.{Plug}
use Rattle.chan_replayer.specs.chan_map.Bound.{IsPin}
use Rattle.chan_replayer.specs.run_model.Building.{row_of, FitOutputs}
use Rattle.chan_replayer.specs.run_model.Offers.{Carries}
use Rattle.chan_replayer.specs.run_model.Pins.{silent, ArePins}
use Rattle.chan_replayer.specs.run_model.Step.{IsStep, ShowsPlug}
use Rattle.net_order.proofs.vidi_bits_lemmas.BitLemmas.{has-above}
use Rattle.chan_replayer.proofs.run_model_lemmas.PlayedLaws.{row-step, fit-outputs, ports-are_nets}
use Rattle.chan_replayer.proofs.run_model_lemmas.RowParts.{row-over, row-marked, row-shows, row-carries, small-row, has-plug, HasPlug}
use Rattle.chan_replayer.specs.chan_monitor.Shell.{IsShown}
use Rattle.shim_trees.specs.Links.{link, links, plug_links}
use Rattle.shim_step.specs.Part.{under, part, pins_below}
use Rattle.shim_step.proofs.Part.{part_is_next, part_is_initial}
use Rattle.shim_step.proofs.Elements.{Has}
use Rattle.shim_step.specs.Wrapped.{IsWrapped, DUT}
use Rattle.shim_step.specs.Recording.{own_state}
use Rattle.shim_step.proofs.Files as files
use Rattle.shim_step.proofs.Stand.{HasNet}
use Rattle.shim_step.proofs.Links.{plug_link}
use Rattle.shim_step.proofs.Entered.{Carries as NetCarries, CarryRow, pins_enter, out_is}
use Rattle.shim_step.proofs.Round.{IsRound, ports_show, inner_settled, part_here, linked}

pub no_outputs : (d : Design) → FitOutputs d []
no_outputs d width pin is = pow_pos width

-- a pin beside each width
pub record Beside (R : ℕ → Pin → Type 0) (ps : List Pin) (i w : ℕ) : Type 0 where
  pub pin : Pin
  pub at : slice_get ps i ≡ Some pin
  pub is : R w pin

pub beside : (R : ℕ → Pin → Type 0) (ws : List ℕ) (ps : List Pin) → AllZip R ws ps → (i w : ℕ) → slice_get ws i ≡ Some w → Beside R ps i w
beside R [] ps z i w e = absurd (cc)
beside R (x ∷ ws) [] z i w e = absurd z
beside R (x ∷ ws) (p ∷ ps) z zero w e = (let same : x ≡ w = cc in record { pin = p; at = refl; is = subst (λ y. R y p) same z.0 })
beside R (x ∷ ws) (p ∷ ps) z (suc i) w e = (let b = beside R ws ps z.1 i w e in record { pin = b.pin; at = b.at; is = b.is })

pub get_mapped : {X : Type 0} (f : X → ℕ) (xs : List X) (i : ℕ) (x : X) → slice_get xs i ≡ Some x → get_or (map f xs) i 0 ≡ f x
get_mapped f [] i x e = absurd (cc)
get_mapped f (y ∷ xs) zero x e = (let same : y ≡ x = cc in ap f same)
get_mapped f (y ∷ xs) (suc i) x e = get_mapped f xs i x e

-- a channel is in flight that is shown and doesn't complete
pub not_done : (shown ready : Bool) → (shown && not ready) ≡ (shown && not (shown && ready))
not_done true r = refl
not_done false r = refl

-- ---- links of a channel's plug
module _ {f : FileOf ℕ} {a : Map} {m : ModuleOf ℕ} {d : Design} (w : IsWrapped f a m d) {valid ready : Name} {T : ModuleOf ℕ}
    (round : IsRound f a m valid ready T) (c : ℕ) (x : Channel) (plug : Plug) (at : slice_get a.channels c ≡ Some x)
    (pat : slice_get a.plugs c ≡ Some plug) (dir : Dir) (way : x.dir ≡ dir) where
  pub joins : (pin : Pin) (y : Name) → Has (plug_links valid ready c dir plug) (link pin y) → Has (links valid ready a) (link pin y)
  joins pin y h =
      plug_link valid ready a c x plug at pat (link pin y) (subst (λ z. Has (plug_links valid ready c z plug) (link pin y)) (sym way) h)

  pub carried_by : {v : Full → ℕ} (pin : Pin) (y : Name) (n number : ℕ) → Has (plug_links valid ready c dir plug) (link pin y) → HasNet T y n
      → v (y ∷ []) ≡ number → NetCarries T (links valid ready a) v pin n number
  carried_by pin y n number h is shows =
      record { net = y; linked = linked w round (link pin y) (joins pin y h); is = is; shows = shows }

-- a bit of the row that stands on a net
pub bit_same : (b : Bool) (n k : ℕ) → n ≡ truth (n == 1) → b ≡ (k == 1) → k ≡ n → n ≡ truth b
bit_same b n k bit e same = bit ∙ ap (λ z. truth (z == 1)) (sym same) ∙ ap truth (sym e)

-- ---- a reset cycle enters what a silent row does, in which nothing is up
pub record Quiet (c : ℕ) : Type 0 where
  pub valid : sink_valid silent c ≡ false
  pub ready : (has silent.readies c && has silent.gates c) ≡ false

none_up : (c : ℕ) → has 0 c ≡ false
none_up c = has-above 0 0 c (omega arith) (omega arith)

pub quiet : (c : ℕ) → Quiet c
quiet c = record { valid = ap (λ b. b && has 0 c) (none_up c); ready = ap (λ b. b && has 0 c) (none_up c) }

-- ---- the initial state
pub part_begins : {f : FileOf ℕ} {a : Map} {m : ModuleOf ℕ} {d : Design} (w : IsWrapped f a m d) {valid ready : Name} {T : ModuleOf ℕ}
    (round : IsRound f a m valid ready T) (s : State) → IsInitial (files.more_of f a) T s → design.initial d ≡ own_state d s
part_begins {f = f} {a = a} {m = m} w {T = T} round s h =
    (w.means.initial (part DUT s)).1 (part_is_initial f.modules (files.more_of f a) T m DUT (part_here w round) s h)

-- ---- the design's cycle
module _ {f : FileOf ℕ} {a : Map} {m : ModuleOf ℕ} {d : Design} (w : IsWrapped f a m d) {valid ready : Name} {T : ModuleOf ℕ}
    (round : IsRound f a m valid ready T) {s : State} {pins : List ℕ} {v : Full → ℕ}
    (settled : IsSettled (files.more_of f a) T s pins v) (small : AreNarrow (files.more_of f a) T s.words) (low : v (codes "clk" ∷ []) ≡ 0) where
  abbrev pub inner : Values
  inner = values_of d (under DUT v) (under DUT s.words)

  pub settled_inside : design.IsSettled d (own_state d s) (pins_below m DUT v) inner
  settled_inside = inner_settled w round settled small low

  pub next_inside : (after : State) → IsNext (files.more_of f a) T s v after → design.next d inner (own_state d s) ≡ own_state d after
  next_inside after goes =
      (w.means.next (part DUT s) (part DUT after) (under DUT v)).1
      (part_is_next f.modules (files.more_of f a) T m DUT (part_here w round) s after v goes)

  long : length d.ports ≤ length inner.nets
  long =
      let few = w.lawful.ports in
      let named = length-map (net_names d) (under DUT v) in
      let counted : length (net_names d) ≡ length d.nets = length-map d.nets _ in
      omega (arith, few, named, counted)

  -- an output that is linked to a net of the top
  pub out_net : (pin : Pin) (n : ℕ) (y : Name) → IsPin d Output n pin → Has (links valid ready a) (link pin y) → HasNet T y n
      → get_or (outputs d inner) pin.place 0 ≡ v (y ∷ [])
  out_net pin n y p there net =
      out_is round.dut settled d w.built.ports inner.nets long (λ k q at. ports_show w (under DUT v) (under DUT s.words) k q at) pin n y p
      (linked w round (link pin y) there) net

  -- the row of these offers and gates
  module _ (fresh : Bool) (before : Option Row) (offers : Offers) (are : AreOffers a.channels offers) (gates : ℕ) (below : gates < 2 ^ length a.channels)
      (carry : CarryRow T (links valid ready a) v a false (row_of a fresh before offers gates [])) where
    abbrev pub row : Row
    row = row_of a fresh before offers gates (outputs d inner)

    pub fits : FitOutputs d (outputs d inner)
    fits = fit-outputs d (ports-are_nets d w.lawful) inner settled_inside.keeps.fit

    first_over : IsOver a.channels (row_of a fresh before offers gates [])
    first_over = row-over d a w.mapped fresh before offers are gates below [] (no_outputs d)

    entered : ArePins d a false (row_of a fresh before offers gates []) (pins_below m DUT v)
    entered =
        pins_enter round.dut settled d w.built.ports a w.mapped false (row_of a fresh before offers gates [])
        (small-row a.channels (row_of a fresh before offers gates []) first_over) carry

    step : IsStep d a (own_state d s) row (design.next d inner (own_state d s))
    step = row-step d a (ports-are_nets d w.lawful) w.mapped fresh before offers are gates below (own_state d s) (pins_below m DUT v) inner entered settled_inside

    pub goes_to : (after : State) → IsNext (files.more_of f a) T s v after → IsStep d a (own_state d s) row (own_state d after)
    goes_to after goes = subst (IsStep d a (own_state d s) row) (next_inside after goes) step

    pub marked : IsMarked before row
    marked = row-marked a fresh before offers gates (outputs d inner)

    pub carried : Carries a.channels offers row
    carried = row-carries d a w.mapped fresh before offers are gates (outputs d inner) fits

    pub is_shown : IsShown d a (own_state d s) before offers gates row
    is_shown = record {
      over = row-over d a w.mapped fresh before offers are gates below (outputs d inner) fits;
      marked = marked;
      carries = carried;
      gates_are = refl;
      after = design.next d inner (own_state d s);
      step = step;
    }

    -- what its outputs show
    module _ (c : ℕ) (x : Channel) (at : slice_get a.channels c ≡ Some x) where
      pub plug_here : HasPlug d a c x
      plug_here = has-plug d a w.mapped c x at

      pub shows_here : ShowsPlug (outputs d inner) a.channels row c x.dir plug_here.plug
      shows_here = row-shows d a w.mapped fresh before offers are gates (outputs d inner) fits c x plug_here.plug at plug_here.at
