-- Offers of a content on the stage's inward channel.
use Rattle.std.proofs.Common.{◌≡◌, ℕ, zero, suc, ◌<◌, List, [], ◌∷◌, All, refl, ap, ◌∙◌, arith}
use Rattle.std.proofs.lemmas.Option.{same_Some}
use Rattle.run_reference.specs.run_model.Offers.{AreZeroWhileDown}
use Rattle.run_reference.specs.trace_model.declared.channel.Channel.{Channel}
use Rattle.run_reference.specs.trace_model.declared.channel.Dir.TheVariants.{Inward, Outward}
use Rattle.run_reference.specs.trace_model.declared.row.Offers.{Offers}
use Rattle.run_reference.specs.trace_model.Row.{AreOffers}
use Rattle.run_stage.specs.Given.{FitsGates}
use Rattle.sample_designs.specs.Stage.{flick_channels, stage_channels}
use Rattle.run_checks.specs.Given.{IsSend}

pub offers_fit : (valids readies content : ℕ) → valids < 4 → readies < 4 → content < 256
    → AreOffers stage_channels (record { valids = valids; readies = readies; contents = content ∷ 0 ∷ [] })
offers_fit valids readies content v r c = record { valids = v; readies = r; contents = (c, (omega arith, tt)) }

-- where the valid of `a` is up
pub zero_up : (content : ℕ)
    → AreZeroWhileDown stage_channels (record { valids = 1; readies = 2; contents = content ∷ 0 ∷ [] })
zero_up content zero x at way down = absurd (cc)
zero_up content (suc zero) x at way down =
    let same = same_Some (record { dir = Outward; name = 98 ∷ []; widths = 8 ∷ [] }) x at in
    let e : Outward ≡ Inward = ap (λ (y : Channel). y.dir) same ∙ way in
    absurd (cc)
zero_up content (suc (suc c)) x at way down = absurd (cc)

-- where it is down
pub zero_down : AreZeroWhileDown stage_channels (record { valids = 0; readies = 2; contents = 0 ∷ 0 ∷ [] })
zero_down zero x at way down = refl
zero_down (suc zero) x at way down =
    let same = same_Some (record { dir = Outward; name = 98 ∷ []; widths = 8 ∷ [] }) x at in
    let e : Outward ≡ Inward = ap (λ (y : Channel). y.dir) same ∙ way in
    absurd (cc)
zero_down (suc (suc c)) x at way down = absurd (cc)

pub send_up : (content : ℕ) → content < 256 → IsSend (record { valids = 1; readies = 2; contents = content ∷ 0 ∷ [] })
send_up content c = record { fit = offers_fit 1 2 content (omega arith) (omega arith) c; zeros = zero_up content }

pub send_down : IsSend (record { valids = 0; readies = 2; contents = 0 ∷ 0 ∷ [] })
send_down = record { fit = offers_fit 0 2 0 (omega arith) (omega arith) (omega arith); zeros = zero_down }

pub offers_of : (os : List Offers) → All IsSend os → All (AreOffers stage_channels) os
offers_of os sends = λ k d l. (sends k d l).fit

pub gated : (offers : Offers) (gates : ℕ) → IsSend offers → gates < 4 → FitsGates stage_channels (record { offers = offers; gates = gates })
gated offers gates send l = record { offers = send.fit; zeros = send.zeros; gates = l }

-- `flick` has no inward channel
flick_zero : (offers : Offers) → AreZeroWhileDown flick_channels offers
flick_zero offers zero x at way down =
    let same = same_Some (record { dir = Outward; name = 98 ∷ []; widths = [] }) x at in
    let e : Outward ≡ Inward = ap (λ (y : Channel). y.dir) same ∙ way in
    absurd (cc)
flick_zero offers (suc c) x at way down = absurd (cc)

pub idle_fits : (offers : Offers) → AreOffers flick_channels offers → FitsGates flick_channels (record { offers = offers; gates = 0 })
idle_fits offers fit = record { offers = fit; zeros = flick_zero offers; gates = omega arith }
