-- A row by its parts: the environment's, the gates', and what the design shows.
use Rattle.std.proofs.Common.{◌≡◌, ℕ, zero, suc, ◌+◌, ◌<◌, ◌≤◌, ◌^◌, ◌&&◌, Bool, true, false, not, cond, List, [], ◌∷◌}
use Rattle.std.proofs.Common.{◌++◌, Option, Some, None, length, map, replicate, get_or, slice_get, slice_index, ⊎_elim, refl, ap}
use Rattle.std.proofs.Common.{sym, subst, ◌∙◌, arith}
use Rattle.std.specs.List.{AllZip}
use Rattle.std.specs.Option.{option_to_list}
use Rattle.std.proofs.lemmas.Bool.{false≢true, cases_lt}
use Rattle.std.proofs.lemmas.List.{get_or_past}
use Rattle.std.proofs.lemmas.Option.{slice_get_within, slice_get_cases}
use Rattle.std.proofs.lemmas.Nat.{pow_pos}
use Rattle.chan_map.specs.vidi_bits.Number.{truth, has}
use Rattle.chan_map.proofs.vidi_bits_lemmas.BitLemmas.{has-above}
use Rattle.chan_map.specs.trace_model.declared.channel.Channel.{Channel}
use Rattle.chan_map.specs.trace_model.declared.channel.Dir.{Dir}
use Rattle.chan_map.specs.trace_model.declared.channel.Dir.TheVariants.{Inward, Outward}
use Rattle.chan_map.specs.trace_model.declared.row.Offers.{Offers}
use Rattle.chan_map.specs.trace_model.declared.row.Row.{Row}
use Rattle.chan_map.specs.trace_model.Packet.{Fit, widths_of}
use Rattle.chan_map.specs.trace_model.Row.{all_widths, content_at, sink_valid, flies_after, IsOver, AreOffers, IsMarked}
use Rattle.chan_map.proofs.trace_model_lemmas.ContentsLemmas.{fit-length, fit-at}
use Rattle.net_design.specs.declared.design.Direction.TheVariants.{Output}
use Rattle.net_design.specs.declared.design.Design.{Design}
use Rattle.chan_map.specs.declared.pins.Map.{Map}
use Rattle.chan_map.specs.declared.pins.Pin.{Pin}
use Rattle.chan_map.specs.declared.pins.Plug.{Plug}
use Rattle.chan_map.specs.Bound.{IsPin, IsPlug}
use Rattle.chan_map.specs.Ports.{source_side}
use Rattle.run_model.specs.MapOf.{IsMapOf}
use Rattle.run_model.specs.Pins.{pin_number, inward_inputs, plug_inputs, inputs_from, entered, reset_input, tie_input}
use Rattle.run_model.specs.Step.{ShowsPlug, Shows}
use Rattle.run_model.specs.Offers.{no_content, offered_content, CarriesOn, Carries}
use Rattle.run_model.proofs.Contents.{same-masks_below, same-contents, mask-below, has-mask, fit-joined}
use Rattle.run_model.proofs.Contents.{content-joined, content-fits, fit-zeros}
use Rattle.run_model.specs.Building.{AreSmall, FitOutputs, at_plug, content_here, content_on, mask_of, ready_at, ready_on, row_of}
use Rattle.run_model.specs.Building.{valid_at, valid_on}

-- ---- rows that agree on the environment's part and the gates
abbrev pub AgreeOn : List Channel → Row → Row → ℕ → Dir → Type 0
AgreeOn channels a b c Inward = (has a.valids c ≡ has b.valids c) × (content_at channels a.contents c ≡ content_at channels b.contents c)
AgreeOn channels a b c Outward = has a.readies c ≡ has b.readies c

pub record Agree (channels : List Channel) (a b : Row) : Type 0 where
  pub gates : a.gates ≡ b.gates
  pub on : (c : ℕ) (x : Channel) → slice_get channels c ≡ Some x → AgreeOn channels a b c x.dir

-- enter the same
plug-same : (channels : List Channel) (a b : Row) (c : ℕ) (dir : Dir) (plug : Plug) → a.gates ≡ b.gates → AgreeOn channels a b c dir
    → plug_inputs channels a c dir plug ≡ plug_inputs channels b c dir plug
plug-same channels a b c Inward plug gates on =
    ap (λ v. inward_inputs plug (v && has a.gates c) (content_at channels a.contents c)) on.0
    ∙ ap (λ g. inward_inputs plug (has b.valids c && has g c) (content_at channels a.contents c)) gates
    ∙ ap (inward_inputs plug (sink_valid b c)) on.1
plug-same channels a b c Outward plug gates on =
    ap (λ r. pin_number plug.ready.place (truth (r && has a.gates c)) ∷ []) on
    ∙ ap (λ g. pin_number plug.ready.place (truth (has b.readies c && has g c)) ∷ []) gates

inputs-same : (channels : List Channel) (a b : Row) (c : ℕ) (xs : List Channel) (plugs : List Plug) → a.gates ≡ b.gates
    → ((i j : ℕ) (x : Channel) → slice_get xs i ≡ Some x → j ≡ c + i → AgreeOn channels a b j x.dir)
    → inputs_from channels a c xs plugs ≡ inputs_from channels b c xs plugs
inputs-same channels a b c [] plugs gates on = refl
inputs-same channels a b c (x ∷ xs) [] gates on = refl
inputs-same channels a b c (x ∷ xs) (p ∷ ps) gates on =
    ap (λ es. es ++ inputs_from channels a (c + 1) xs ps) (plug-same channels a b c x.dir p gates (on 0 c x refl (omega arith)))
    ∙ ap (λ es. plug_inputs channels b c x.dir p ++ es)
    (inputs-same channels a b (c + 1) xs ps gates (λ i j y at e. on (suc i) j y at (omega (arith, e))))

pub entered-same : (m : Map) (resets : Bool) (a b : Row) → Agree m.channels a b → entered m resets a ≡ entered m resets b
entered-same m resets a b is =
    ap (λ es. pin_number m.clock.place 0 ∷ (map (reset_input resets) (option_to_list m.reset) ++ (map tie_input m.ties ++ es)))
    (inputs-same m.channels a b 0 m.channels m.plugs is.gates
    (λ i j x at e. let same : i ≡ j = omega (arith, e) in subst (λ n. AgreeOn m.channels a b n x.dir) same (is.on i x at)))

-- ---- each channel has its plug
pub record HasPlug (d : Design) (m : Map) (c : ℕ) (x : Channel) : Type 0 where
  pub plug : Plug
  pub at : slice_get m.plugs c ≡ Some plug
  pub is : IsPlug d x plug

plug-of : (d : Design) (xs : List Channel) (plugs : List Plug) (c : ℕ) (x : Channel) → AllZip (IsPlug d) xs plugs → slice_get xs c ≡ Some x
    → (plug : Plug) × (slice_get plugs c ≡ Some plug) × IsPlug d x plug
plug-of d [] plugs c x z at = absurd (cc)
plug-of d (y ∷ ys) [] c x z at = absurd z
plug-of d (y ∷ ys) (p ∷ ps) zero x z at = let same : y ≡ x = cc in (p, refl, subst (λ (w : Channel). IsPlug d w p) same z.0)
plug-of d (y ∷ ys) (p ∷ ps) (suc c) x z at = plug-of d ys ps c x z.1 at

pub has-plug : (d : Design) (m : Map) → IsMapOf d m → (c : ℕ) (x : Channel) → slice_get m.channels c ≡ Some x → HasPlug d m c x
has-plug d m is c x at = let p = plug-of d m.channels m.plugs c x is.plugs at in record { plug = p.0; at = p.1; is = p.2 }

pub channel-at : {X : Type 0} (xs : List X) (c : ℕ) → c < length xs → (x : X) × (slice_get xs c ≡ Some x)
channel-at xs c l = ⊎_elim
    (λ (w : (x : _) × (c < length xs) × (slice_get xs c ≡ Some x) × (get_or xs c x ≡ x)). (w.0, w.2))
    (λ (w : (length xs ≤ c) × (slice_get xs c ≡ None)). absurd (omega (arith, w.0)))
    (slice_get_cases xs c).1

-- ---- two rows that agree, show the same outputs and have one mark are one
record Parts (channels : List Channel) (a b : Row) (c : ℕ) : Type 0 where
  valid : has a.valids c ≡ has b.valids c
  ready : has a.readies c ≡ has b.readies c
  content : content_at channels a.contents c ≡ content_at channels b.contents c

parts-on : (channels : List Channel) (out : List ℕ) (a b : Row) (c : ℕ) (dir : Dir) (plug : Plug) → AgreeOn channels a b c dir
    → ShowsPlug out channels a c dir plug → ShowsPlug out channels b c dir plug → Parts channels a b c
parts-on channels out a b c Inward plug on x y = record { valid = on.0; ready = x ∙ sym y; content = on.1 }
parts-on channels out a b c Outward plug on x y = record { valid = x.0 ∙ sym y.0; ready = on; content = x.1 ∙ sym y.1 }

parts : (d : Design) (m : Map) → IsMapOf d m → (out : List ℕ) (a b : Row) → Agree m.channels a b → Shows out m a → Shows out m b
    → (c : ℕ) (x : Channel) → slice_get m.channels c ≡ Some x → Parts m.channels a b c
parts d m is out a b agree sa sb c x at =
    let p = has-plug d m is c x at in
    parts-on m.channels out a b c x.dir p.plug (agree.on c x at) (sa c x p.plug at p.at) (sb c x p.plug at p.at)

marks : (before : Option Row) (a b : Row) → a.gates ≡ b.gates → a.valids ≡ b.valids → a.readies ≡ b.readies → IsMarked before a
    → IsMarked before b → ((c : ℕ) → has a.starts c ≡ has b.starts c) × ((c : ℕ) → has a.ends c ≡ has b.ends c)
marks before a b g v r ma mb = (
  λ c. ma.starts c ∙ ap (λ n. (has n c && has a.gates c) && not (flies_after before c)) v
      ∙ ap (λ n. (has b.valids c && has n c) && not (flies_after before c)) g ∙ sym (mb.starts c),
  λ c. ma.ends c ∙ ap (λ n. (has n c && has a.gates c) && has a.readies c) v
      ∙ ap (λ n. (has b.valids c && has n c) && has a.readies c) g
      ∙ ap (λ n. (has b.valids c && has b.gates c) && has n c) r ∙ sym (mb.ends c),
)

row-same : (a b : Row) → a.fresh ≡ b.fresh → a.gates ≡ b.gates → a.valids ≡ b.valids → a.readies ≡ b.readies → a.contents ≡ b.contents
    → a.starts ≡ b.starts → a.ends ≡ b.ends → a ≡ b
row-same a b f g v r k s e =
    λ i. record { fresh = f i; gates = g i; valids = v i; readies = r i; contents = k i; starts = s i; ends = e i }

pub one-row : (d : Design) (m : Map) → IsMapOf d m → (out : List ℕ) (before : Option Row) (a b : Row) → IsOver m.channels a
    → IsOver m.channels b → IsMarked before a → IsMarked before b → a.fresh ≡ b.fresh → Agree m.channels a b → Shows out m a → Shows out m b
    → a ≡ b
one-row d m is out before a b oa ob ma mb fresh agree sa sb =
    let n = length m.channels in
    let each : (c : ℕ) → c < n → Parts m.channels a b c = λ c l.
    (let x = channel-at m.channels c l in parts d m is out a b agree sa sb c x.0 x.1)
    in
    let v : a.valids ≡ b.valids = same-masks_below n a.valids b.valids oa.valids ob.valids (λ c l. (each c l).valid) in
    let r : a.readies ≡ b.readies = same-masks_below n a.readies b.readies oa.readies ob.readies (λ c l. (each c l).ready) in
    let k : a.contents ≡ b.contents = same-contents m.channels a.contents b.contents oa.contents ob.contents
    (λ c x at. (parts d m is out a b agree sa sb c x at).content) in
    let mark = marks before a b agree.gates v r ma mb in
    row-same a b fresh agree.gates v r k (same-masks_below n a.starts b.starts oa.starts ob.starts (λ c l. mark.0 c))
    (same-masks_below n a.ends b.ends oa.ends ob.ends (λ c l. mark.1 c))

-- two rows with the same offers and gates agree
carried-on : (channels : List Channel) (offers : Offers) (a b : Row) (c : ℕ) (dir : Dir) → CarriesOn channels offers a c dir
    → CarriesOn channels offers b c dir → AgreeOn channels a b c dir
carried-on channels offers a b c Inward x y = (x.0 ∙ sym y.0, x.1 ∙ sym y.1)
carried-on channels offers a b c Outward x y = x ∙ sym y

pub carried : (channels : List Channel) (offers : Offers) (a b : Row) → a.gates ≡ b.gates → Carries channels offers a
    → Carries channels offers b → Agree channels a b
carried channels offers a b g x y = record { gates = g; on = λ c z at. carried-on channels offers a b c z.dir (x c z at) (y c z at) }

-- ---- the row of given offers, gates and outputs
map-fits : (d : Design) (out : List ℕ) → FitOutputs d out → (widths : List ℕ) (pins : List Pin)
    → AllZip (λ width pin. IsPin d Output width pin) widths pins → Fit widths (map (λ (p : Pin). slice_index out p.place) pins)
map-fits d out fits [] [] z = tt
map-fits d out fits [] (p ∷ ps) z = absurd z
map-fits d out fits (w ∷ ws) [] z = absurd z
map-fits d out fits (w ∷ ws) (p ∷ ps) z = (fits w p z.0, map-fits d out fits ws ps z.1)

fit-cond : (b : Bool) (ws xs ys : List ℕ) → Fit ws xs → Fit ws ys → Fit ws (cond b xs ys)
fit-cond true ws xs ys f g = f
fit-cond false ws xs ys f g = g

pub no-content-fits : (channels : List Channel) (c : ℕ) (x : Channel) → slice_get channels c ≡ Some x → Fit x.widths (no_content channels c)
no-content-fits channels c x at = subst (λ (o : Option Channel). Fit x.widths (replicate (length (widths_of o)) 0)) (sym at)
    (fit-zeros x.widths)

content-on-fits : (d : Design) (channels : List Channel) (offers : Offers) (out : List ℕ) (c : ℕ) (dir : Dir) (widths : List ℕ)
    (plug : Plug) → FitOutputs d out → Fit widths (offered_content channels offers c)
    → AllZip (λ width pin. IsPin d (source_side dir) width pin) widths plug.contents
    → Fit widths (content_on channels offers out c dir plug)
content-on-fits d channels offers out c Inward widths plug fits f z = f
content-on-fits d channels offers out c Outward widths plug fits f z = map-fits d out fits widths plug.contents z

at-plug : {A : Type 0} (none : A) (f : Dir → Plug → A) (x : Option Channel) (p : Option Plug) (channel : Channel) (plug : Plug)
    → x ≡ Some channel → p ≡ Some plug → at_plug none f x p ≡ f channel.dir plug
at-plug none f x p channel plug e g = ap (λ o. at_plug none f o p) e ∙ ap (at_plug none f (Some channel)) g

content-here-fits : (d : Design) (m : Map) → IsMapOf d m → (offers : Offers) → AreOffers m.channels offers → (out : List ℕ)
    → FitOutputs d out → (c : ℕ) (x : Channel) → slice_get m.channels c ≡ Some x → Fit x.widths (content_here m offers out c)
content-here-fits d m is offers are out fits c x at =
    let p = has-plug d m is c x at in
    subst (Fit x.widths) (sym (at-plug [] (content_on m.channels offers out c) (slice_get m.channels c)
    (slice_get m.plugs c) x p.plug at p.at))
    (content-on-fits d m.channels offers out c x.dir x.widths p.plug fits
    (fit-cond (has offers.valids c) x.widths (content_at m.channels offers.contents c) (no_content m.channels c)
    (content-fits m.channels offers.contents are.contents c x at) (no-content-fits m.channels c x at)) p.is.contents)

-- it is over the channels, marked, shows the outputs and carries the offers
pub row-over : (d : Design) (m : Map) → IsMapOf d m → (fresh : Bool) (before : Option Row) (offers : Offers) → AreOffers m.channels offers → (gates : ℕ)
    → gates < 2 ^ length m.channels → (out : List ℕ) → FitOutputs d out → IsOver m.channels (row_of m fresh before offers gates out)
row-over d m is fresh before offers are gates l out fits = record {
  gates = l;
  valids = mask-below (valid_at m offers out) (length m.channels);
  readies = mask-below (ready_at m offers out) (length m.channels);
  starts = mask-below (λ c. (has (mask_of (valid_at m offers out) (length m.channels)) c && has gates c) && not (flies_after before c))
      (length m.channels);
  ends = mask-below (λ c. (has (mask_of (valid_at m offers out) (length m.channels)) c && has gates c)
      && has (mask_of (ready_at m offers out) (length m.channels)) c) (length m.channels);
  contents = fit-joined (content_here m offers out) m.channels (content-here-fits d m is offers are out fits);
}

-- a bit past the channels is 0, whatever is asked beside it
past-and : (a b c : Bool) → a ≡ false → ((a && b) && c) ≡ false
past-and true b c h = absurd (false≢true (sym h))
past-and false b c h = refl

mask-is : (n : ℕ) (f : ℕ → Bool) → ((c : ℕ) → n ≤ c → f c ≡ false) → (c : ℕ) → has (mask_of f n) c ≡ f c
mask-is n f past c = ⊎_elim
    (λ (l : c < n). has-mask f n c l)
    (λ (l : n ≤ c). has-above (mask_of f n) n c (mask-below f n) l ∙ sym (past c l))
    (cases_lt c n)

pub row-marked : (m : Map) (fresh : Bool) (before : Option Row) (offers : Offers) (gates : ℕ) (out : List ℕ)
    → IsMarked before (row_of m fresh before offers gates out)
row-marked m fresh before offers gates out =
    let n = length m.channels in
    let valids = mask_of (valid_at m offers out) n in
    let readies = mask_of (ready_at m offers out) n in
    let past : (c : ℕ) → n ≤ c → has valids c ≡ false = λ c l. has-above valids n c (mask-below (valid_at m offers out) n) l in
    record {
      starts = mask-is n (λ c. (has valids c && has gates c) && not (flies_after before c))
          (λ c l. past-and (has valids c) (has gates c) (not (flies_after before c)) (past c l));
      ends = mask-is n (λ c. (has valids c && has gates c) && has readies c)
          (λ c l. past-and (has valids c) (has gates c) (has readies c) (past c l));
    }

-- the parts of the row at a channel
record AtChannel (m : Map) (offers : Offers) (out : List ℕ) (row : Row) (c : ℕ) (dir : Dir) (plug : Plug) : Type 0 where
  valid : has row.valids c ≡ valid_on offers out c dir plug
  ready : has row.readies c ≡ ready_on offers out c dir plug
  content : content_at m.channels row.contents c ≡ content_on m.channels offers out c dir plug

at-channel : (d : Design) (m : Map) → IsMapOf d m → (fresh : Bool) (before : Option Row) (offers : Offers) → AreOffers m.channels offers → (gates : ℕ)
    → (out : List ℕ) → FitOutputs d out → (c : ℕ) (x : Channel) (plug : Plug) → slice_get m.channels c ≡ Some x
    → slice_get m.plugs c ≡ Some plug
    → AtChannel m offers out (row_of m fresh before offers gates out) c x.dir plug
at-channel d m is fresh before offers are gates out fits c x plug at there =
    let n = length m.channels in
    let l = slice_get_within m.channels c x at in
    record {
      valid = has-mask (valid_at m offers out) n c l
          ∙ at-plug false (valid_on offers out c) (slice_get m.channels c) (slice_get m.plugs c) x plug at there;
      ready = has-mask (ready_at m offers out) n c l
          ∙ at-plug false (ready_on offers out c) (slice_get m.channels c) (slice_get m.plugs c) x plug at there;
      content = content-joined (content_here m offers out) m.channels (content-here-fits d m is offers are out fits) c x at
          ∙ at-plug [] (content_on m.channels offers out c) (slice_get m.channels c) (slice_get m.plugs c) x plug at there;
    }

shows-on : (m : Map) (offers : Offers) (out : List ℕ) (row : Row) (c : ℕ) (dir : Dir) (plug : Plug) → AtChannel m offers out row c dir plug
    → ShowsPlug out m.channels row c dir plug
shows-on m offers out row c Inward plug a = a.ready
shows-on m offers out row c Outward plug a = (a.valid, a.content)

carries-on : (m : Map) (offers : Offers) (out : List ℕ) (row : Row) (c : ℕ) (dir : Dir) (plug : Plug)
    → AtChannel m offers out row c dir plug
    → CarriesOn m.channels offers row c dir
carries-on m offers out row c Inward plug a = (a.valid, a.content)
carries-on m offers out row c Outward plug a = a.ready

pub row-shows : (d : Design) (m : Map) → IsMapOf d m → (fresh : Bool) (before : Option Row) (offers : Offers) → AreOffers m.channels offers → (gates : ℕ)
    → (out : List ℕ) → FitOutputs d out → Shows out m (row_of m fresh before offers gates out)
row-shows d m is fresh before offers are gates out fits c x plug at there = shows-on m offers out (row_of m fresh before offers gates out) c x.dir plug
    (at-channel d m is fresh before offers are gates out fits c x plug at there)

pub row-carries : (d : Design) (m : Map) → IsMapOf d m → (fresh : Bool) (before : Option Row) (offers : Offers) → AreOffers m.channels offers → (gates : ℕ)
    → (out : List ℕ) → FitOutputs d out → Carries m.channels offers (row_of m fresh before offers gates out)
row-carries d m is fresh before offers are gates out fits c x at =
    let p = has-plug d m is c x at in
    carries-on m offers out (row_of m fresh before offers gates out) c x.dir p.plug
    (at-channel d m is fresh before offers are gates out fits c x p.plug at p.at)

-- the contents of a row over the channels are small enough for their pins
small-cond : (b : Bool) (x limit : ℕ) → x < limit → 0 < limit → cond b x 0 < limit
small-cond true x limit l z = l
small-cond false x limit l z = z

pub small-fit : (channels : List Channel) (row : Row) → Fit (all_widths channels) row.contents → AreSmall channels row
small-fit channels row fits c x at i =
    let k = content_at channels row.contents c in
    let f = content-fits channels row.contents fits c x at in
    small-cond (sink_valid row c) (get_or k i 0) (2 ^ get_or x.widths i 0)
    (⊎_elim
    (λ (l : i < length x.widths). fit-at x.widths k i f l)
    (λ (l : length x.widths ≤ i). subst (λ n. n < 2 ^ get_or x.widths i 0)
    (sym (get_or_past k i 0 (let e = fit-length x.widths k f in omega (arith, e, l)))) (pow_pos (get_or x.widths i 0)))
    (cases_lt i (length x.widths)))
    (pow_pos (get_or x.widths i 0))

pub small-row : (channels : List Channel) (row : Row) → IsOver channels row → AreSmall channels row
small-row channels row over = small-fit channels row over.contents
