-- The wrapped tree has good shape.
use Rattle.std.proofs.Common.{◌≡◌, ℕ, ◌≤◌, Bool, true, false, cond, List, [], ◌∷◌, ◌++◌, length, Option, Some, is_some, refl, sym, subst, arith}
use Rattle.std.specs.List.{AllZip, AllByRecursion}
use Rattle.std.specs.Str.{bytes_eq}
use Rattle.std.proofs.lemmas.Slice.Eq.{bytes_eq-Decides}
use Rattle.std.proofs.lemmas.Bool.{false≢true}
use Rattle.std.proofs.lemmas.List.Elements.{recursion_from_All}
use Rattle.vlog_size.proofs.vidi_bits_lemmas.Each.{each_weaker, each_append}
use Rattle.vlog_tree.specs.Tree.{PortOf, ModuleOf, FileOf}
use Rattle.vlog_tree.specs.Shape.{IsGoodName, IsGoodPort, IsGoodModule, AreSomeGood, IsGood}
use Rattle.chan_map.specs.trace_model.declared.channel.Channel.{Channel}
use Rattle.chan_map.specs.trace_model.Channel.{IsChannel}
use Rattle.chan_map.specs.declared.pins.Map.{Map}
use Rattle.chan_map.specs.declared.pins.Plug.{Plug}
use Rattle.shim_trees.specs.Pieces.{Name, each_some}
use Rattle.shim_trees.specs.RecordTop.{record_top}
use Rattle.shim_trees.specs.ReplayTop.{replay_top}
use Rattle.shim_trees.specs.Wrapped.{channel_shims, shims, ports_in, module_named, wrapped}
use Rattle.shim_trees.specs.Laws.{IsMapIn}
use Rattle.shim_trees.proofs.Pieces.{IsSmall, some_good}
use Rattle.shim_trees.proofs.Modules.{IsFewChannel, IsFewPlug, IsFewMap, monitor_good, replayer_good, record_top_good, replay_top_good}

-- ---- the module of a name
found_if : (b : Bool) (x : ModuleOf ℕ) (rest : Option (ModuleOf ℕ)) (name : Name) → bytes_eq name x.name ≡ b → IsGoodModule x
    → (is_some rest ≡ true → IsGoodName name × AllByRecursion IsGoodPort (ports_in rest)) → is_some (cond b (Some x) rest) ≡ true
    → IsGoodName name × AllByRecursion IsGoodPort (ports_in (cond b (Some x) rest))
found_if true x rest name is good more found =
    (subst IsGoodName (sym ((bytes_eq-Decides name x.name).0 is)) good.0, good.4)
found_if false x rest name is good more found = more found

found_good : (modules : List (ModuleOf ℕ)) (name : Name) → AllByRecursion IsGoodModule modules → is_some (module_named modules name) ≡ true
    → IsGoodName name × AllByRecursion IsGoodPort (ports_in (module_named modules name))
found_good [] name good found = absurd (false≢true found)
found_good (x ∷ modules) name good found =
    found_if (bytes_eq name x.name) x (module_named modules name) name refl good.0 (λ h. found_good modules name good.1 h) found

-- ---- what a lawful table bounds
few_widths : (widths : List ℕ) → AllByRecursion (λ (w : ℕ). (1 ≤ w) × (w ≤ 128)) widths → AllByRecursion IsSmall widths
few_widths widths h = each_weaker (λ (w : ℕ). (1 ≤ w) × (w ≤ 128)) IsSmall (λ w both. let few = both.1 in omega (arith, few)) widths h

few_channels : (channels : List Channel) → AllByRecursion IsChannel channels → AllByRecursion IsFewChannel channels
few_channels channels h =
    each_weaker IsChannel IsFewChannel
    (λ c here. (here.ports, few_widths c.widths (recursion_from_All (λ (w : ℕ). (1 ≤ w) × (w ≤ 128)) c.widths here.widths))) channels h

few_plugs : (channels : List Channel) (plugs : List Plug) → AllByRecursion IsFewChannel channels
    → AllZip (λ (c : Channel) (plug : Plug). length plug.contents ≡ length c.widths) channels plugs → AllByRecursion IsFewPlug plugs
few_plugs [] [] few same = tt
few_plugs [] (plug ∷ plugs) few same = absurd same
few_plugs (c ∷ channels) [] few same = absurd same
few_plugs (c ∷ channels) (plug ∷ plugs) few same =
    let here = few.0.0 in let is = same.0 in
    (omega (arith, here, is), few_plugs channels plugs few.1 same.1)

few_map : (f : FileOf ℕ) (m : Map) → IsMapIn f m → IsFewMap m
few_map f m h =
    let channels = few_channels m.channels (recursion_from_All IsChannel m.channels h.table.each) in
    record {
      limit = h.table.few;
      channels = channels;
      plugs = few_plugs m.channels m.plugs channels h.plugs;
      ties = h.ties;
    }

-- ---- the whole file
shims_good : (m : Map) (ports : List (PortOf ℕ)) → IsFewMap m → IsGoodName m.top → AllByRecursion IsGoodPort ports
    → AllByRecursion IsGoodModule (shims m ports)
shims_good m ports few named good =
    let limit = few.limit in
    each_append IsGoodModule (each_some (channel_shims (length m.channels)) 0 m.channels) (record_top m ports ∷ replay_top m ports ∷ [])
    (some_good IsFewChannel IsGoodModule (channel_shims (length m.channels))
    (λ n c small here. (monitor_good n c.widths small here, (replayer_good (length m.channels) n c limit small here, tt))) 0 m.channels
    (omega (arith, limit)) few.channels)
    (record_top_good m ports few named good, (replay_top_good m ports few named good, tt))

more_good : (modules more : List (ModuleOf ℕ)) → AreSomeGood IsGoodModule modules → AllByRecursion IsGoodModule more
    → AreSomeGood IsGoodModule (modules ++ more)
more_good [] more good others = absurd good
more_good (x ∷ modules) more good others = (good.0, each_append IsGoodModule modules more good.1 others)

some_all : (modules : List (ModuleOf ℕ)) → AreSomeGood IsGoodModule modules → AllByRecursion IsGoodModule modules
some_all [] good = absurd good
some_all (x ∷ modules) good = good

pub wrapped_good : (f : FileOf ℕ) (m : Map) → IsGood f → IsMapIn f m → IsGood (wrapped f m)
wrapped_good f m good h =
    let found = found_good f.modules m.top (some_all f.modules good) h.top in
    more_good f.modules (shims m (ports_in (module_named f.modules m.top))) good
    (shims_good m (ports_in (module_named f.modules m.top)) (few_map f m h) found.0 found.1)
