-- A map is bound to a design in one way.
use Rattle.std.proofs.Common.{◌≡◌, ◌⊎◌, List, [], ◌∷◌, Option, None, Some, inl, inr, refl, sym, ap, ◌∙◌}
use Rattle.std.specs.Option.{option_to_list}
use Rattle.vidi_lines.specs.vidi_bits.Findings.{first}
use Rattle.net_design.specs.declared.design.Design.{Design}
use Rattle.chan_map.specs.declared.error.MapError.{MapError}
use Rattle.chan_map.specs.declared.error.MapError.TheVariants.{Line, Port, Cover, Limit, Memory}
use Rattle.chan_map.specs.declared.text.MapText.{MapText}
use Rattle.chan_map.specs.declared.pins.Map.{Map}
use Rattle.chan_map.specs.declared.pins.Reset.{Reset}
use Rattle.vidi_lines.specs.vidi_bits.Findings.{IsFirst}
use Rattle.chan_map.specs.Told.{map_told}
use Rattle.chan_map.specs.Bound.{map_faults, IsBound, BindsMap}
use Rattle.chan_map.specs.Laws.{OneBinding}
use Rattle.vidi_lines.proofs.vidi_bits_lemmas.OneAnswer.{one-answer}

same-reset : (a b : Option Reset) → option_to_list a ≡ option_to_list b → a ≡ b
same-reset None None e = refl
same-reset None (Some r) e = absurd (cc)
same-reset (Some r) None e = absurd (cc)
same-reset (Some r) (Some s) e = ap Some (same-one r s e)
  where
    same-one : (r s : Reset) → r ∷ [] ≡ s ∷ [] → r ≡ s
    same-one r s e = cc

same-map : (text : MapText) (d : Design) (a b : Map) → IsBound text d a → IsBound text d b → a ≡ b
same-map text d a b x y =
    let top = x.top ∙ sym y.top in
    let channels = x.channels ∙ sym y.channels in
    let plugs = x.plugs ∙ sym y.plugs in
    let ties = x.ties ∙ sym y.ties in
    let reset = same-reset a.reset b.reset (x.reset ∙ sym y.reset) in
    let clock = x.clock ∙ sym y.clock in
    λ i. record { top = top i; channels = channels i; plugs = plugs i; ties = ties i; reset = reset i; clock = clock i }

found : (faults : List MapError) (e : MapError) → IsFirst map_told faults e
    → (e ≡ Memory) ⊎ ((f : MapError) × (e ≡ f) × (first faults ≡ Some f))
found faults (Line n) is = inr (Line n, refl, is)
found faults (Port n) is = inr (Port n, refl, is)
found faults (Cover port times) is = inr (Cover port times, refl, is)
found faults (Limit what got) is = inr (Limit what got, refl, is)
found faults Memory is = inl refl

pub one-binding : OneBinding
one-binding text d = one-answer (λ (a b : Map). a ≡ b) Memory (IsBound text d) (map_faults d text.lines) (λ e. e) (BindsMap text d)
    (λ a x. x) (found (map_faults d text.lines)) (same-map text d)
