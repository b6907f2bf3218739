-- Pins of plugs, masks bit by bit, and contents channel by channel.
use Rattle.std.proofs.Common.{◌≡◌, ℕ, zero, suc, ◌+◌, ◌<◌, ◌≤◌, List, [], ◌∷◌, ◌++◌, Some, length}
use Rattle.std.proofs.Common.{drop, get_or, slice_get, ap, sym, subst, ◌∙◌, arith}
use Rattle.std.specs.List.{AllZip}
use Rattle.std.proofs.lemmas.List.{drop_more}
use Rattle.std.proofs.lemmas.Option.{same_Some}
use Rattle.run_model.specs.trace_model.declared.channel.Channel.{Channel}
use Rattle.run_model.specs.trace_model.declared.channel.Dir.TheVariants.{Inward, Outward}
use Rattle.net_design.specs.declared.design.Design.{Design}
use Rattle.net_design.specs.declared.design.Direction.TheVariants.{Output}
use Rattle.net_design.specs.Pins.{output_count}
use Rattle.run_model.specs.chan_map.declared.pins.Map.{Map}
use Rattle.run_model.specs.chan_map.declared.pins.Pin.{Pin}
use Rattle.run_model.specs.chan_map.declared.pins.Plug.{Plug}
use Rattle.run_model.specs.chan_map.Bound.{IsPin, IsPlug}
use Rattle.run_model.specs.chan_map.Ports.{source_side, sink_side}
use Rattle.run_model.specs.Building.{joined}
use Rattle.run_model.specs.MapOf.{IsMapOf}
use Rattle.run_model.proofs.PinLemmas.{output-below}
use Rattle.run_model.proofs.RowParts.{has-plug}

pub valid-pin : (d : Design) (x : Channel) (plug : Plug) → IsPlug d x plug → x.dir ≡ Outward → plug.valid.place < output_count d
valid-pin d x plug is dir = output-below d 1 plug.valid (subst (λ e. IsPin d (source_side e) 1 plug.valid) dir is.valid)

pub ready-pin : (d : Design) (x : Channel) (plug : Plug) → IsPlug d x plug → x.dir ≡ Inward → plug.ready.place < output_count d
ready-pin d x plug is dir = output-below d 1 plug.ready (subst (λ e. IsPin d (sink_side e) 1 plug.ready) dir is.ready)

pub content-pins : (d : Design) (x : Channel) (plug : Plug) → IsPlug d x plug → x.dir ≡ Outward
    → AllZip (λ width pin. IsPin d Output width pin) x.widths plug.contents
content-pins d x plug is dir =
    subst (λ e. AllZip (λ width pin. IsPin d (source_side e) width pin) x.widths plug.contents) dir is.contents

pub pin-in : (d : Design) (widths : List ℕ) (pins : List Pin) → AllZip (λ width pin. IsPin d Output width pin) widths pins
    → (i : ℕ) (pin : Pin) → i < length pins → pin ≡ get_or pins i pin → pin.place < output_count d
pin-in d [] [] z i pin l e = absurd (omega arith)
pin-in d [] (p ∷ ps) z i pin l e = absurd z
pin-in d (w ∷ ws) [] z i pin l e = absurd z
pin-in d (w ∷ ws) (p ∷ ps) z zero pin l e = subst (λ (q : Pin). q.place < output_count d) (sym e) (output-below d w p z.0)
pin-in d (w ∷ ws) (p ∷ ps) z (suc i) pin l e = pin-in d ws ps z.1 i pin (omega arith) e

pub plug-is : (d : Design) (m : Map) → IsMapOf d m → (c : ℕ) (x : Channel) (plug : Plug) → slice_get m.channels c ≡ Some x
    → slice_get m.plugs c ≡ Some plug → IsPlug d x plug
plug-is d m is c x plug at there =
    let p = has-plug d m is c x at in
    let same : p.plug ≡ plug = same_Some p.plug plug (sym p.at ∙ there) in
    subst (IsPlug d x) same p.is

pub channels-below : (d : Design) (m : Map) → IsMapOf d m → length m.channels ≤ 128
channels-below d m is = let few = is.table.few in omega (arith, few)

pub joined-more : (f : ℕ → List ℕ) (c : ℕ) (xs : List Channel) → c < length xs
    → joined f c (drop c xs) ≡ f c ++ joined f (c + 1) (drop (c + 1) xs)
joined-more f c [] l = absurd (omega arith)
joined-more f c (x ∷ xs) l = ap (joined f c) (drop_more (x ∷ xs) c x l)
