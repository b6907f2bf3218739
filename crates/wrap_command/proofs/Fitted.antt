-- The map of a file's design is a map of one of its modules.
use Rattle.std.proofs.Common.{◌≡◌, ℕ, ◌≤◌, ◌+◌, Bool, true, false, if◌then◌else◌, cond, List, [], ◌∷◌, Option, Some, length, is_some}
use Rattle.std.proofs.Common.{suc, refl, ap, sym, subst, arith}
use Rattle.std.specs.List.{AllZip, AllByRecursion}
use Rattle.std.specs.Str.{bytes_eq}
use Rattle.vlog_tree.specs.Shape.{IsGood}
use Rattle.vlog_print.specs.vidi_bits.Number.{IsWidth}
use Rattle.vlog_tree.specs.Tree.{FileOf, ModuleOf}
use Rattle.vidi_bench.specs.vlog_hierarchy.Outlines.{place_from}
use Rattle.shim_gen.specs.trace_model.declared.channel.Channel.{Channel}
use Rattle.net_design.specs.declared.design.Design.{Design}
use Rattle.net_design.specs.declared.design.Port.{Port}
use Rattle.net_design.specs.Lawful.{IsLawful}
use Rattle.vidi_bench.proofs.run_model_lemmas.PinLemmas.{all-at}
use Rattle.shim_gen.specs.chan_map.declared.pins.Map.{Map}
use Rattle.shim_gen.specs.chan_map.declared.pins.Plug.{Plug}
use Rattle.shim_gen.specs.chan_map.declared.pins.Tie.{Tie}
use Rattle.shim_gen.specs.chan_map.declared.text.MapText.{MapText}
use Rattle.shim_gen.specs.chan_map.Bound.{IsPlug, IsTie}
use Rattle.shim_gen.specs.chan_map.Ports.{HaveWidths}
use Rattle.shim_gen.specs.shim_trees.Laws.{IsMapIn}
use Rattle.shim_gen.specs.shim_trees.Wrapped.{module_named}
use Rattle.vidi_bench.specs.Design.{Spells}
use Rattle.wrap_command.specs.Wraps.{IsFitted}

pub spelled_good : (text : List ℕ) (f : FileOf ℕ) → Spells text f → IsGood f
spelled_good text f (tokens, has, (shallow, (good, same))) = good

found-if : (b : Bool) (m : ModuleOf ℕ) (k n : ℕ) (there : Option ℕ) (rest : Option (ModuleOf ℕ)) → (if b then Some k else there) ≡ Some n
    → (there ≡ Some n → is_some rest ≡ true) → is_some (cond b (Some m) rest) ≡ true
found-if true m k n there rest at later = refl
found-if false m k n there rest at later = later at

found-from : (k n : ℕ) (modules : List (ModuleOf ℕ)) (name : List ℕ) → place_from k modules name ≡ Some n
    → is_some (module_named modules name) ≡ true
found-from k n [] name at = absurd (cc)
found-from k n (m ∷ modules) name at = found-if (bytes_eq name m.name) m k n (place_from (k + 1) modules name) (module_named modules name) at
    (found-from (k + 1) n modules name)

zip-length : {X Y : Type 0} (R : X → Y → Type 0) (xs : List X) (ys : List Y) → AllZip R xs ys → length ys ≡ length xs
zip-length R [] [] z = refl
zip-length R [] (y ∷ ys) z = absurd z
zip-length R (x ∷ xs) [] z = absurd z
zip-length R (x ∷ xs) (y ∷ ys) z = ap suc (zip-length R xs ys z.1)

plugs-full : (d : Design) (cs : List Channel) (ps : List Plug) → AllZip (IsPlug d) cs ps
    → AllZip (λ (c : Channel) (plug : Plug). length plug.contents ≡ length c.widths) cs ps
plugs-full d [] [] z = z
plugs-full d [] (p ∷ ps) z = absurd z
plugs-full d (c ∷ cs) [] z = absurd z
plugs-full d (c ∷ cs) (p ∷ ps) z = (zip-length _ c.widths p.contents z.0.contents, plugs-full d cs ps z.1)

tie-narrow : (d : Design) (t : Tie) → HaveWidths d.ports → IsTie d t → t.width ≤ 128
tie-narrow d t widths is =
    let wide : IsWidth is.pin.p.width = all-at (λ (p : Port). IsWidth p.width) d.ports is.pin.port is.pin.p widths is.pin.at in
    let same : is.pin.p.width ≡ t.width = is.pin.width_is in
    let most : is.pin.p.width ≤ 128 = wide.1 in
    omega (arith, same, most)

ties-narrow : (d : Design) (ts : List Tie) → HaveWidths d.ports → AllByRecursion (IsTie d) ts → AllByRecursion (λ (t : Tie). t.width ≤ 128) ts
ties-narrow d [] widths is = is
ties-narrow d (t ∷ ts) widths is = (tie-narrow d t widths is.0, ties-narrow d ts widths is.1)

pub map_in : ((d : Design) → IsLawful d → HaveWidths d.ports) → (text : MapText) (f : FileOf ℕ) (m : Map) → IsFitted text f m → IsMapIn f m
map_in have text f m is =
    let bound = is.bound.1 in
    let top = is.accepted.1.named in
    let widths = have is.design is.accepted.1.lawful in record {
      top = subst (λ (name : List ℕ). is_some (module_named f.modules name) ≡ true) (sym bound.top) (found-from 0 top.0 f.modules text.top top.1);
      table = bound.table;
      plugs = plugs-full is.design m.channels m.plugs bound.plugs_fit;
      ties = ties-narrow is.design m.ties widths bound.ties_fit;
    }
