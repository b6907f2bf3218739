-- One cycle of a block, and a run one row longer.
use Rattle.std.proofs.Common.{◌≡◌, ℕ, suc, ◌+◌, ◌<◌, ◌^◌, ◌&&◌, Bool, true, false, List, [], ◌∷◌, ◌++◌, Option, Some, All, length}
use Rattle.std.proofs.Common.{map, slice_get, slice_index, ⊎_elim, refl, ap, sym, subst, ◌∙◌, arith}
use Rattle.std.specs.Prelude.{unwrap_or}
use Rattle.std.specs.List.{AllZip}
use Rattle.std.specs.Option.{option_to_list}
use Rattle.std.proofs.lemmas.Bool.{cases_Bool, cond-true}
use Rattle.run_model.specs.vidi_bits.Number.{truth, has}
use Rattle.run_model.specs.trace_model.declared.channel.Channel.{Channel}
use Rattle.run_model.specs.trace_model.declared.channel.Dir.{Dir}
use Rattle.run_model.specs.trace_model.declared.channel.Dir.TheVariants.{Inward, Outward}
use Rattle.run_model.specs.trace_model.declared.row.Offers.{Offers}
use Rattle.run_model.specs.trace_model.declared.row.Row.{Row}
use Rattle.run_model.specs.trace_model.Row.{content_at, sink_valid, row_before, AreOffers, IsOver, IsMarked}
use Rattle.net_design.specs.declared.design.Design.{Design}
use Rattle.net_design.specs.declared.values.Values.{Values}
use Rattle.net_design.specs.Settled.{IsSettled, next}
use Rattle.net_design.specs.Pins.{FitPins, outputs}
use Rattle.run_model.specs.chan_map.declared.pins.Map.{Map}
use Rattle.run_model.specs.chan_map.declared.pins.Plug.{Plug}
use Rattle.run_model.specs.chan_map.Bound.{IsPlug}
use Rattle.run_model.specs.declared.pins.PinNumber.{PinNumber}
use Rattle.run_model.specs.Building.{AreSmall, PortsAreNets, row_of}
use Rattle.run_model.specs.Laws.{GatesOf}
use Rattle.run_model.specs.MapOf.{IsMapOf}
use Rattle.run_model.specs.Offers.{CarriesOn, Carries, no_content}
use Rattle.run_model.specs.Pins.{pin_number, inward_inputs, plug_inputs, inputs_from, reset_input, tie_input, entered, ArePins}
use Rattle.run_model.specs.Run.{IsRunRow}
use Rattle.run_model.specs.Step.{IsAfter, IsStep}
use Rattle.run_model.proofs.PlayedLaws.{Grown, played-push, fit-outputs}
use Rattle.run_model.proofs.RowParts.{row-over, row-marked, row-shows, row-carries, small-fit}
use Rattle.run_reference.specs.Given.{no_offers, offers_by, gates_by}

pub zip-length : {X Y : Type 0} (R : X → Y → Type 0) (xs : List X) (ys : List Y) → AllZip R xs ys → length ys ≡ length xs
zip-length R [] [] z = refl
zip-length R [] (y ∷ ys) z = absurd z
zip-length R (x ∷ xs) [] z = absurd z
zip-length R (x ∷ xs) (y ∷ ys) z = ap suc (zip-length R xs ys z.1)

pub plugs-length : (d : Design) (m : Map) → IsMapOf d m → length m.plugs ≡ length m.channels
plugs-length d m is = zip-length (IsPlug d) m.channels m.plugs is.plugs

-- ---- the offers alone enter what the row enters
abbrev pub asked : Offers → ℕ → Row
asked offers gates = record {
  fresh = false;
  gates = gates;
  valids = offers.valids;
  readies = offers.readies;
  contents = offers.contents;
  starts = 0;
  ends = 0;
}

pub asked-small : (channels : List Channel) (offers : Offers) (gates : ℕ) → AreOffers channels offers
    → AreSmall channels (asked offers gates)
asked-small channels offers gates are = small-fit channels (asked offers gates) are.contents

down : (plug : Plug) (xs ys : List ℕ) (v : Bool) → v ≡ false → inward_inputs plug v xs ≡ inward_inputs plug v ys
down plug xs ys v h = ap (λ b. inward_inputs plug b xs) h ∙ sym (ap (λ b. inward_inputs plug b ys) h)

no-valid : (v g : Bool) → v ≡ false → (v && g) ≡ false
no-valid v g h = ap (λ b. b && g) h

plug-asked : (channels : List Channel) (offers : Offers) (gates : ℕ) (row : Row) (c : ℕ) (dir : Dir) (plug : Plug) → row.gates ≡ gates
    → CarriesOn channels offers row c dir → plug_inputs channels (asked offers gates) c dir plug ≡ plug_inputs channels row c dir plug
plug-asked channels offers gates row c Inward plug g carries =
    let valid : sink_valid (asked offers gates) c ≡ sink_valid row c =
    ap (λ v. v && has gates c) (sym carries.0) ∙ ap (λ m. has row.valids c && has m c) (sym g) in
    ap (λ v. inward_inputs plug v (content_at channels offers.contents c)) valid
    ∙ ⊎_elim
    (λ (t : has offers.valids c ≡ true). ap (inward_inputs plug (sink_valid row c))
    (sym (carries.1 ∙ cond-true (has offers.valids c) (content_at channels offers.contents c) (no_content channels c) t)))
    (λ (f : has offers.valids c ≡ false). down plug (content_at channels offers.contents c) (content_at channels row.contents c)
    (sink_valid row c) (no-valid (has row.valids c) (has row.gates c) (carries.0 ∙ f)))
    (cases_Bool (has offers.valids c))
plug-asked channels offers gates row c Outward plug g carries =
    ap (λ r. pin_number plug.ready.place (truth (r && has gates c)) ∷ []) (sym carries)
    ∙ ap (λ m. pin_number plug.ready.place (truth (has row.readies c && has m c)) ∷ []) (sym g)

inputs-asked : (channels : List Channel) (offers : Offers) (gates : ℕ) (row : Row) (c : ℕ) (xs : List Channel) (plugs : List Plug)
    → row.gates ≡ gates
    → ((i j : ℕ) (x : Channel) → slice_get xs i ≡ Some x → j ≡ c + i → CarriesOn channels offers row j x.dir)
    → inputs_from channels (asked offers gates) c xs plugs ≡ inputs_from channels row c xs plugs
inputs-asked channels offers gates row c [] plugs g carries = refl
inputs-asked channels offers gates row c (x ∷ xs) [] g carries = refl
inputs-asked channels offers gates row c (x ∷ xs) (p ∷ ps) g carries =
    ap (λ es. es ++ inputs_from channels (asked offers gates) (c + 1) xs ps)
    (plug-asked channels offers gates row c x.dir p g (carries 0 c x refl (omega arith)))
    ∙ ap (λ es. plug_inputs channels row c x.dir p ++ es)
    (inputs-asked channels offers gates row (c + 1) xs ps g (λ i j y at e. carries (suc i) j y at (omega (arith, e))))

entered-asked : (m : Map) (offers : Offers) (gates : ℕ) (row : Row) → row.gates ≡ gates → Carries m.channels offers row
    → entered m false (asked offers gates) ≡ entered m false row
entered-asked m offers gates row g carries =
    ap (λ es. pin_number m.clock.place 0 ∷ (map (reset_input false) (option_to_list m.reset) ++ (map tie_input m.ties ++ es)))
    (inputs-asked m.channels offers gates row 0 m.channels m.plugs g
    (λ i j x at e. let same : i ≡ j = omega (arith, e) in subst (λ n. CarriesOn m.channels offers row n x.dir) same (carries i x at)))

-- ---- one cycle
pub record Stepped (d : Design) (m : Map) (before : Option Row) (offers : Offers) (gates : ℕ) (s : Values) (row : Row)
    (after : Values) : Type 0 where
  pub over : IsOver m.channels row
  pub marked : IsMarked before row
  pub carried : Carries m.channels offers row
  pub step : IsStep d m s row after

stepped-row : (d : Design) (m : Map) → PortsAreNets d → IsMapOf d m → (before : Option Row) (offers : Offers) → AreOffers m.channels offers
    → (gates : ℕ) → gates < 2 ^ length m.channels → (s : Values) (pins : List ℕ) (v : Values) → ArePins d m false (asked offers gates) pins
    → IsSettled d s pins v → (after : Values) → after ≡ next d v s
    → Stepped d m before offers gates s (row_of m false before offers gates (outputs d v)) after
stepped-row d m nets is before offers are gates l s pins v pins-are settled after after-is =
    let fits = fit-outputs d nets v settled.keeps.fit in
    let row = row_of m false before offers gates (outputs d v) in
    let carries = row-carries d m is false before offers are gates (outputs d v) fits in
    record {
      over = row-over d m is false before offers are gates l (outputs d v) fits;
      marked = row-marked m false before offers gates (outputs d v);
      carried = carries;
      step = record {
        pins = pins;
        v = v;
        entered = record {
          fit = pins-are.fit;
          numbers = subst (λ (es : List PinNumber). All (λ (p : PinNumber). slice_index pins p.place ≡ p.number) es)
              (entered-asked m offers gates row refl carries) pins-are.numbers;
        };
        settled = settled;
        shown = row-shows d m is false before offers are gates (outputs d v) fits;
        next = after-is;
      };
    }

-- what `settle` and `clock` say, of a design and a state that stay
pub record Settles (d : Design) (s : Values) (pins : List ℕ) (v after : Values) : Type 0 where
  pub settled : IsSettled d s pins v
  pub next : after ≡ next d v s

pub settles : (d e : Design) → e ≡ d → (s t : Values) → t ≡ s → (pins i : List ℕ) → i ≡ pins → (v after : Values) → IsSettled e t pins v
    → ((w : Values) → IsSettled e t i w → after ≡ next e w t) → Settles d s pins v after
settles d e de s t ts pins i ip v after settled clocks =
    let here : IsSettled d s pins v = subst (λ u. IsSettled d u pins v) ts (subst (λ f. IsSettled f t pins v) de settled) in
    record {
      settled = here;
      next = clocks v (subst (λ j. IsSettled e t j v) (sym ip) settled) ∙ ap (λ f. next f v t) de ∙ ap (next d v) ts;
    }

pub stepped : (d : Design) (m : Map) → PortsAreNets d → IsMapOf d m → (before : Option Row) (offers : Offers) → AreOffers m.channels offers
    → (gates : ℕ) → gates < 2 ^ length m.channels → (s : Values) (pins : List ℕ) (v after : Values)
    → ArePins d m false (asked offers gates) pins
    → Settles d s pins v after → (e : Design) → e ≡ d → (row : Row) → row ≡ row_of m false before offers gates (outputs e v)
    → Stepped d m before offers gates s row after
stepped d m nets is before offers are gates l s pins v after pins-are settles e de row row-is =
    subst (λ (r : Row). Stepped d m before offers gates s r after)
    (sym (row-is ∙ ap (λ f. row_of m false before offers gates (outputs f v)) de))
    (stepped-row d m nets is before offers are gates l s pins v pins-are settles.settled after settles.next)

-- ---- cycles with the same inputs
pub after-more : (d : Design) (pins : List ℕ) (n : ℕ) (s between after v : Values) → IsAfter d pins n s between
    → Settles d between pins v after
    → IsAfter d pins (n + 1) s after
after-more d pins n s between after v h x =
    let e : suc n ≡ n + 1 = omega arith in
    let more : IsAfter d pins (suc n) s after = (between, h, record { v = v; settled = x.settled; next = x.next }) in
    subst (λ k. IsAfter d pins k s after) e more

pub fit-same : (d e : Design) (pins : List ℕ) → e ≡ d → FitPins d pins → FitPins e pins
fit-same d e pins de fit = subst (λ f. FitPins f pins) (sym de) fit

-- ---- a run one row longer
pub run-grow : (d : Design) (m : Map) (offers : List Offers) (gates : List ℕ) (rows : List Row) (s : Values)
    → Grown d m (IsRunRow m.channels (offers_by offers) (GatesOf (gates_by gates))) rows s
    → (offer : Offers) (g : ℕ) (row : Row) (after : Values)
    → offer ≡ offers_by offers rows → g ≡ gates_by gates rows → Stepped d m (row_before rows (length rows)) offer g s row after
    → row.gates ≡ g → row.fresh ≡ false
    → Grown d m (IsRunRow m.channels (offers_by offers) (GatesOf (gates_by gates))) (rows ++ row ∷ []) after
run-grow d m offers gates rows s grown offer g row after o k st gates-are fresh =
    played-push d m (IsRunRow m.channels (offers_by offers) (GatesOf (gates_by gates))) rows row after grown.played
    (subst (λ (x : Offers). Carries m.channels x row) o st.carried, gates-are ∙ k, fresh) st.over st.marked
    (subst (λ u. IsStep d m u row after) (sym grown.state) st.step)

pub offer-here : (offers : List Offers) (rows : List Row) (t : ℕ) (offer : Offers) → length rows ≡ t → slice_get offers t ≡ Some offer
    → offer ≡ offers_by offers rows
offer-here offers rows t offer l at = sym (ap (λ n. unwrap_or (slice_get offers n) no_offers) l ∙ ap (λ o. unwrap_or o no_offers) at)
