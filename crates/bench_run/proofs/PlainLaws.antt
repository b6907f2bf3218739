-- A plain run is there and is one, and contents stay in it.
use Rattle.std.proofs.Common.{◌≡◌, ℕ, ◌++◌, List, Option, None, Some, get_or, length, refl, ap, sym, subst, ◌∙◌}
use Rattle.std.specs.Prelude.{IfSome}
use Rattle.std.proofs.Math.Logic.{∥∥₁_map}
use Rattle.std.proofs.lemmas.List.Elements.{All-from_get_or, All-get_or}
use Rattle.std.proofs.lemmas.Option.{slice_get-get_or}
use Rattle.run_stage.specs.chan_monitor.vidi_bits.Number.{has}
use Rattle.env_script.specs.trace_model.declared.row.Row.{Row}
use Rattle.env_script.specs.trace_model.declared.row.Offers.{Offers}
use Rattle.run_stage.specs.run_model.Laws.{ContentsStay, IsReady, GatesFit, GatesStay, OffersFit, OffersStay}
use Rattle.run_stage.specs.run_model.Played.{AreStable, all_up}
use Rattle.run_stage.specs.run_model.Run.{AllUp}
use Rattle.run_stage.specs.run_model.Stretches.{AreTheRun, and_stretch, offers_behind, rows_of}
use Rattle.run_stage.proofs.run_model_lemmas.ReplayLaws.{all-up-below}
use Rattle.run_laws.specs.StretchLaws.{Behind, OneEnding}
use Rattle.run_laws.proofs.Ending.{one-ending_in_stretches, the-run_in}
use Rattle.run_laws.proofs.StretchLaws.{one-run_in_stretches, run-stretches_keep_contents}
use Rattle.net_design.specs.declared.design.Design.{Design}
use Rattle.run_stage.specs.chan_map.declared.pins.Map.{Map}
use Rattle.env_script.specs.Offer.{Offer}
use Rattle.env_script.specs.Offered.{offers_after, AreLasting}
use Rattle.env_script.specs.Resets.{is_due_behind}
use Rattle.env_script.proofs.Lasting.{lasting-behind, offers-fit, offers-stay}
use Rattle.bench_run.specs.declared.plain.Spot.{Spot}
use Rattle.bench_run.specs.Laws.{OnePlainRun, PlainRunKeepsContents}
use Rattle.bench_run.specs.Plain.{channel_of, spot_behind, IsPlainRun}

-- ---- behind all rows: what the environment offers, with all gates up
module _ (d : Design) (m : Map) (offer : List Row → ℕ → Offer) (lasting : AreLasting m.channels offer) where
  abbrev offers : List Row → Offers
  offers before = offers_after m.channels offer before

  abbrev plan : List (List Row) → List Row → ℕ
  plan past before = all_up m.channels

  fit-behind : Behind m.channels (λ past. OffersFit m.channels (offers_behind offers past))
  fit-behind past over = offers-fit m.channels (λ before. offer (rows_of past ++ before)) (lasting-behind m.channels offer lasting (rows_of past))

  stay-behind : Behind m.channels (λ past. OffersStay m.channels (offers_behind offers past))
  stay-behind past over before row are =
      offers-stay m.channels (λ b. offer (rows_of past ++ b)) (lasting-behind m.channels offer lasting (rows_of past)) before row are

  up-fit : Behind m.channels (λ past. GatesFit m.channels (plan past))
  up-fit past over before are = all-up-below (length m.channels)

  up-stay : Behind m.channels (λ past. GatesStay m.channels (plan past))
  up-stay past over before row are is c up closed = ap (λ k. has k c) (sym is) ∙ up

-- ---- the run as an answer
pub plain-of : (d : Design) (m : Map) (offer : List Row → ℕ → Offer) (resets : List ℕ) (n : ℕ) (past : List (List Row)) (here : List Row)
    (stop : Option ℕ) → AreTheRun d m (offers_after m.channels offer) (λ before. AllUp m.channels) (is_due_behind resets) n past here stop
    → IsPlainRun d m offer resets n (record { rows = rows_of past ++ here; unstable = spot_behind (rows_of past ++ here) stop })
plain-of d m offer resets n past here None run = record { past = past; here = here; rows = refl; played = run; cycle = tt }
plain-of d m offer resets n past here (Some channel) run = record { past = past; here = here; rows = refl; played = run; cycle = refl }

no-channel : (c : ℕ) → None ≡ Some c → ⊥
no-channel c e = cc

same-some : (c d : ℕ) → Some c ≡ Some d → c ≡ d
same-some c d e = cc

one-spot : (cycle : ℕ) (s t : Option Spot) → channel_of s ≡ channel_of t → IfSome s (λ (spot : Spot). spot.cycle ≡ cycle)
    → IfSome t (λ (spot : Spot). spot.cycle ≡ cycle) → s ≡ t
one-spot cycle None None e p q = refl
one-spot cycle None (Some t) e p q = absurd (no-channel t.channel e)
one-spot cycle (Some s) None e p q = absurd (no-channel s.channel (sym e))
one-spot cycle (Some s) (Some t) e p q =
    let channel : s.channel ≡ t.channel = same-some s.channel t.channel e in
    let same : s.cycle ≡ t.cycle = p ∙ sym q in
    λ i. Some (record { channel = channel i; cycle = same i })

-- with all gates up a run of n cycles ends in one way, in the same stretches
pub one-stretches : (d : Design) (m : Map) (offer : List Row → ℕ → Offer) (resets : List ℕ) → IsReady d m → AreLasting m.channels offer
    → (n : ℕ) → OneEnding (AreTheRun d m (offers_after m.channels offer) (λ before. AllUp m.channels) (is_due_behind resets) n)
one-stretches d m offer resets ready lasting n = one-ending_in_stretches d m ready (offers_after m.channels offer)
    (fit-behind d m offer lasting) (λ past before. all_up m.channels) (up-fit d m offer lasting) (is_due_behind resets) n

pub one-plain_run : OnePlainRun
one-plain_run d m offer resets ready lasting n =
    let os = offers_after m.channels offer in
    let fit = fit-behind d m offer lasting in
    let gates = up-fit d m offer lasting in
    let ends = one-stretches d m offer resets ready lasting n in (
      one-run_in_stretches d m ready os fit (λ past before. all_up m.channels) gates (is_due_behind resets) n,
      (
        ∥∥₁_map ends.0 (λ (x : (past : List (List Row)) × (here : List Row) × (stop : Option ℕ)
            × AreTheRun d m os (λ before. AllUp m.channels) (is_due_behind resets) n past here stop). (
              record { rows = rows_of x.0 ++ x.1; unstable = spot_behind (rows_of x.0 ++ x.1) x.2 },
              plain-of d m offer resets n x.0 x.1 x.2 x.3,
            )),
        λ a b x y.
            (let same = ends.1 x.past y.past x.here y.here (channel_of a.unstable) (channel_of b.unstable) x.played y.played in
            let rows : a.rows ≡ b.rows =
            sym x.rows ∙ ap (λ past. rows_of past ++ x.here) same.0 ∙ ap (λ here. rows_of y.past ++ here) same.1 ∙ y.rows in
            let spot = one-spot (length b.rows) a.unstable b.unstable same.2
            (subst (λ (rs : List Row). IfSome a.unstable (λ (spot : Spot). spot.cycle ≡ length rs)) rows x.cycle) y.cycle in
            λ i. record { rows = rows i; unstable = spot i }),
      ),
    )

-- ---- contents stay
pub plain-keeps : PlainRunKeepsContents
plain-keeps d m offer resets lasting n run is =
    let all = and_stretch is.past is.here in
    let parts = the-run_in d m (offers_after m.channels offer) (λ before. AllUp m.channels) (is_due_behind resets) n is.past is.here
    (channel_of run.unstable) is.played in
    let keeps = run-stretches_keep_contents d m (offers_after m.channels offer) (stay-behind d m offer lasting) (λ past before. all_up m.channels)
    (up-stay d m offer lasting) (is_due_behind resets) all parts.0 in
    All-from_get_or (ContentsStay m.channels) all is.here
    (λ k l. (keeps k (get_or all k is.here) (slice_get-get_or all k is.here l) (All-get_or (AreStable m.channels) all k is.here l parts.1)).0)
