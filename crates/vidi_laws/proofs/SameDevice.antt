-- What the texts of a design and a map say together is one, or the reason for which they are refused.
use Rattle.std.proofs.Common.{◌≡◌, ◌⊎◌, ℕ, List, None, Some, Ok, Err, inl, inr, sym, ap, subst, ◌∙◌}
use Rattle.std.specs.Prelude.{slice_get}
use Rattle.vidi_commands.proofs.vidi_bits_lemmas.Lists.{some_same}
use Rattle.vlog_tree.specs.Tree.{FileOf, ModuleOf}
use Rattle.net_design.specs.declared.design.Design.{Design}
use Rattle.net_design.specs.Lawful.{IsLawful}
use Rattle.net_design.specs.Pins.{HasOneMap}
use Rattle.vidi_commands.specs.net_order.Order.{IsOrder}
use Rattle.vidi_commands.specs.chan_map.declared.error.MapError.{MapError}
use Rattle.vidi_commands.specs.chan_map.declared.error.MapError.TheVariants as errors
use Rattle.vidi_commands.specs.chan_map.declared.text.MapText.{MapText}
use Rattle.vidi_commands.specs.chan_map.declared.pins.Map.{Map}
use Rattle.vidi_commands.specs.chan_map.Text.{ReadsMap}
use Rattle.vidi_commands.specs.chan_map.Bound.{BindsMap}
use Rattle.vidi_commands.specs.chan_map.Laws.{OneBinding, OneMapText}
use Rattle.vidi_commands.specs.run_model.Laws.{BoundIsMapOf, IsReady}
use Rattle.vidi_commands.specs.vlog_elab.Instances.{instances}
use Rattle.vidi_commands.specs.vlog_design.Design.{IsDesignOf}
use Rattle.vidi_commands.specs.flat_parts.Built.{IsBuilt}
use Rattle.vidi_commands.specs.flat_parts.Laws.{IsTop}
use Rattle.vidi_commands.specs.run_model.Alike.{AreAlike}
use Rattle.vidi_commands.specs.run_model.AlikeLaws.{MapsAlike}
use Rattle.vidi_laws.specs.Alike.{BuiltAlike}
use Rattle.vidi_commands.specs.report_text.declared.reason.Word.TheVariants as words
use Rattle.vidi_commands.specs.report_text.declared.reason.Reason.{Reason}
use Rattle.vidi_commands.specs.report_text.Reason.{reason_line}
use Rattle.vidi_commands.specs.vidi_bench.declared.device.Device.{Device}
use Rattle.vidi_commands.specs.vidi_bench.vidi_answer.declared.status.Status.{Status}
use Rattle.vidi_commands.specs.vidi_bench.vidi_answer.declared.status.Status.TheVariants.{Refused}
use Rattle.vidi_commands.specs.vidi_bench.Reasons.{map_reason}
use Rattle.vidi_commands.specs.vidi_bench.Steps.{Ending, IsRefusal, IsRefusalFor}
use Rattle.vidi_commands.specs.vidi_bench.Design.{IsAccepted, Building}
use Rattle.vidi_commands.specs.vidi_bench.Devices.{Binding, IsDevice, IsNoMap, IsUnbound, Mapping, Wiring}
use Rattle.vidi_laws.proofs.OneEnding.{Same, Meet, Apart, One, OneBy, one-said, one-step-by, step-meets}
use Rattle.vidi_laws.proofs.OneCheck.{TextLaws, Alike, alike, one-spelled, text-apart, one-spelling, file-apart, looped-apart, one-building}

-- the laws on which this rests
pub record DeviceLaws : Type 0 where
  pub texts : TextLaws
  pub built : BuiltAlike
  pub maps : MapsAlike
  pub settles : (d : Design) (order : List ℕ) → IsLawful d → IsOrder d order → HasOneMap d
  pub mapped : BoundIsMapOf
  pub map_text : OneMapText
  pub binding : OneBinding

-- ---- reasons

no-map_reason : (e : MapError) (r : Reason) → map_reason e ≡ Some r → e ≡ errors.Memory → ⊥
no-map_reason e r names memory = let none : None ≡ Some r = ap map_reason (sym memory) ∙ names in cc

map-refusals : (e f : MapError) → (e ≡ errors.Memory) ⊎ (f ≡ errors.Memory) ⊎ (e ≡ f)
    → Meet Same (IsRefusalFor words.Map (map_reason e)) (IsRefusalFor words.Map (map_reason f))
map-refusals e f (inl memory) a b x y (r, names, s) (q, names', s') = absurd (no-map_reason e r names memory)
map-refusals e f (inr (inl memory)) a b x y (r, names, s) (q, names', s') = absurd (no-map_reason f q names' memory)
map-refusals e f (inr (inr same)) a b x y (r, names, s) (q, names', s') =
    let reason = some_same q r (sym names' ∙ ap map_reason (sym same) ∙ names) in
    one-said (Refused words.Map r) (reason_line words.Map r) a b x y s
    (subst (λ (k : Reason). IsRefusal words.Map k b y) reason s')

-- ---- designs of one file
one-top : (f : FileOf ℕ) (name : List ℕ) (m n : ModuleOf ℕ) → IsTop f name m → IsTop f name n → m ≡ n
one-top f name m n (j, at, is) (k, at', is') =
    let place = some_same j k (sym at ∙ at') in
    some_same m n (sym is ∙ ap (λ (i : ℕ). slice_get f.modules i) place ∙ is')

designs-alike : BuiltAlike → (f : FileOf ℕ) (top : List ℕ) (d e : Design) → IsDesignOf f top d → IsDesignOf f top e → AreAlike d e
designs-alike built f top d e x y =
    built f.modules x.top (instances f top) d e x.built
    (subst (λ (t : ModuleOf ℕ). IsBuilt f.modules t (instances f top) e) (one-top f top y.top x.top y.named x.named) y.built)
    x.lawful y.lawful

-- two devices that two texts say
pub record SameDevice (v w : Device) : Type 0 where
  pub designs : AreAlike v.design w.design
  pub ready : IsReady v.design v.map
  pub map : v.map ≡ w.map

module _ (laws : DeviceLaws) where
  -- ---- the text of a map
  no_map : (bytes : List ℕ) → One (IsNoMap bytes)
  no_map bytes a b x y (e, is, s) (f, is', s') = map-refusals e f (laws.map_text bytes (Err e) (Err f) is is') a b x y s s'

  map-apart : (bytes : List ℕ) → Apart (IsNoMap bytes) (λ (t : MapText). ReadsMap bytes (Ok t))
  map-apart bytes a x t (e, is, (r, names, s)) reads = no-map_reason e r names (laws.map_text bytes (Err e) (Ok t) is reads)

  one-text : (bytes : List ℕ) (t u : MapText) → ReadsMap bytes (Ok t) → ReadsMap bytes (Ok u) → t ≡ u
  one-text bytes t u x y = laws.map_text bytes (Ok t) (Ok u) x y

  -- ---- the map of designs that are alike
  module _ (text : MapText) (d e : Design) (same : AreAlike d e) where
    unbound-meet : Meet Same (IsUnbound text d) (IsUnbound text e)
    unbound-meet a b x y (m, is, s) (n, is', s') =
        map-refusals m n (laws.binding text d (Err m) (Err n) is ((laws.maps text d e same (Err n)).1 is')) a b x y s s'

    unbound-apart : Apart (IsUnbound text d) (λ (m : Map). BindsMap text e (Ok m))
    unbound-apart a x m (n, is, (r, names, s)) binds =
        no-map_reason n r names (laws.binding text d (Err n) (Ok m) is ((laws.maps text d e same (Ok m)).1 binds))

    apart-unbound : Apart (IsUnbound text e) (λ (m : Map). BindsMap text d (Ok m))
    apart-unbound a x m (n, is, (r, names, s)) binds =
        no-map_reason n r names (laws.binding text d (Err n) (Ok m) ((laws.maps text d e same (Err n)).1 is) binds)

    one-map : (m n : Map) → BindsMap text d (Ok m) → BindsMap text e (Ok n) → m ≡ n
    one-map m n x y = laws.binding text d (Ok m) (Ok n) x ((laws.maps text d e same (Ok n)).1 y)

  -- ---- one ending, where one comes of each map
  module _ (Next : Map → Ending) (one : (m : Map) → OneBy Alike (Next m)) where
    binding-meets : (text : MapText) (d e : Design) → AreAlike d e → Meet Alike (Binding text d Next) (Binding text e Next)
    binding-meets text d e same = step-meets Alike (IsUnbound text d) (IsUnbound text e) (λ (m : Map). BindsMap text d (Ok m))
        (λ (m : Map). BindsMap text e (Ok m)) Next Next
        (λ a b x y u v. alike a b x y (unbound-meet text d e same a b x y u v))
        (unbound-apart text d e same) (apart-unbound text d e same)
        (λ m n is is'. subst (λ (k : Map). Meet Alike (Next m) (Next k)) (one-map text d e same m n is is') (one m))

    pub one-mapping : (m : List ℕ) (f : FileOf ℕ) → OneBy Alike (Mapping m f Next)
    one-mapping m f = one-step-by Alike (IsNoMap m) (λ (t : MapText). ReadsMap m (Ok t))
        (λ (text : MapText). Building text.top f (λ d. Binding text d Next))
        (λ a b x y u v. alike a b x y (no_map m a b x y u v)) (one-text m) (map-apart m)
        (λ text _. one-building laws.texts text.top f (λ d. Binding text d Next)
        (λ d e of of'. binding-meets text d e (designs-alike laws.built f text.top d e of of')))

    pub one-wiring : (design m : List ℕ) → OneBy Alike (Wiring design m Next)
    one-wiring design m = one-spelling laws.texts design (λ f. Mapping m f Next) (one-mapping m)

  -- ---- where they say a device, nothing but what comes of its map ends the command
  module _ (design m : List ℕ) (w : Device) (device : IsDevice design m w) (Next : Map → Ending) (a : Status) (x : List ℕ)
      (apart : Next w.map a x → ⊥) where
    binding-apart : (d : Design) → AreAlike d w.design → Binding device.text d Next a x → ⊥
    binding-apart d same (inl unbound) = unbound-apart device.text d w.design same a x w.map unbound device.bound
    binding-apart d same (inr (n, binds, rest)) =
        apart (subst (λ (k : Map). Next k a x) (one-map device.text d w.design same n w.map binds device.bound) rest)

    building-apart : Building device.text.top device.file (λ d. Binding device.text d Next) a x → ⊥
    building-apart (inl bad) = file-apart device.text.top device.file a x w.design bad device.accepted
    building-apart (inr (d, accepted, inl looped)) =
        looped-apart laws.texts device.text.top device.file d w.design accepted.1 device.accepted.1 a x w.order.drivers looped device.ordered
    building-apart (inr (d, accepted, inr (order, is, rest))) =
        binding-apart d (designs-alike laws.built device.file device.text.top d w.design accepted.1 device.accepted.1) rest

    pub mapping-apart : Mapping m device.file Next a x → ⊥
    mapping-apart (inl none) = map-apart m a x device.text none device.mapped
    mapping-apart (inr (text, reads, rest)) =
        building-apart
        (subst (λ (t : MapText). Building t.top device.file (λ d. Binding t d Next) a x) (one-text m text device.text reads device.mapped)
        rest)

    pub wiring-apart : Wiring design m Next a x → ⊥
    wiring-apart (inl none) = text-apart laws.texts design a x device.file none device.spelled
    wiring-apart (inr (f, spelled, rest)) =
        mapping-apart
        (subst (λ (g : FileOf ℕ). Mapping m g Next a x) (one-spelled laws.texts design f device.file spelled device.spelled) rest)

  -- ---- one device, but for the design, of which there are several that are alike
  pub same-device : (design m : List ℕ) (v w : Device) → IsDevice design m v → IsDevice design m w → SameDevice v w
  same-device design m v w x y =
      let file = one-spelled laws.texts design y.file x.file y.spelled x.spelled in
      let text = one-text m y.text x.text y.mapped x.mapped in
      let accepted : IsAccepted x.text.top x.file w.design =
      subst (λ (t : MapText). IsAccepted t.top x.file w.design) text
      (subst (λ (f : FileOf ℕ). IsAccepted y.text.top f w.design) file y.accepted) in
      let designs = designs-alike laws.built x.file x.text.top v.design w.design x.accepted.1 accepted.1 in
      let bound = subst (λ (t : MapText). BindsMap t w.design (Ok w.map)) text y.bound in
      record {
        designs = designs;
        ready = record {
          lawful = x.accepted.1.lawful;
          one_map = laws.settles v.design v.order.drivers x.accepted.1.lawful x.ordered;
          mapped = laws.mapped x.text v.design v.map x.bound;
        };
        map = one-map x.text v.design w.design designs v.map w.map x.bound bound;
      }
