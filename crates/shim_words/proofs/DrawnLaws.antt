-- What is drawn fits the channels.
use Rattle.std.proofs.Common.{◌≡◌, ℕ, suc, ◌+◌, ◌<◌, ◌^◌, true, false, List, [], ◌∷◌, ◌++◌, Option, Some, length, take, replicate}
use Rattle.std.proofs.Common.{get_or, slice_get, ⊎_elim, refl, ap, sym, subst, ◌∙◌, arith}
use Rattle.std.proofs.lemmas.Bool.{cases_Bool, cond-true, cond-false}
use Rattle.std.proofs.lemmas.Grind.{flat_map-append}
use Rattle.std.proofs.lemmas.List.{append-nil}
use Rattle.std.proofs.lemmas.Option.{slice_get_read}
use Rattle.shim_runs.specs.vidi_bits.Number.{has}
use Rattle.shim_runs.specs.trace_model.declared.channel.Channel.{Channel}
use Rattle.shim_runs.specs.trace_model.declared.row.Offers.{Offers}
use Rattle.shim_runs.specs.trace_model.Packet.{Fit, widths_of}
use Rattle.shim_runs.specs.trace_model.Row.{all_widths, content_at, AreOffers}
use Rattle.shim_runs.proofs.trace_model_lemmas.CountingLemmas.{take-suc_get}
use Rattle.shim_runs.specs.run_model.Building.{joined}
use Rattle.shim_runs.specs.run_model.Offers.{no_content, AreZeroWhileDown}
use Rattle.shim_runs.proofs.run_model_lemmas.Contents.{content-fits, content-joined, fit-joined, fit-zeros}
use Rattle.shim_runs.specs.chan_replayer.Fed.{fed_content}

-- one channel more
pub widths-more : (channels : List Channel) (n : ℕ) (x : Channel) → n < length channels → x ≡ get_or channels n x
    → all_widths (take (n + 1) channels) ≡ all_widths (take n channels) ++ x.widths
widths-more channels n x l e =
    let there : slice_get channels n ≡ Some x = slice_get_read channels (length channels) n x refl l e in
    let one : n + 1 ≡ suc n = omega arith in
    ap (λ k. all_widths (take k channels)) one ∙ ap all_widths (take-suc_get channels n x there)
    ∙ flat_map-append (λ (c : Channel). c.widths) (take n channels) (x ∷ [])
    ∙ ap (λ ws. all_widths (take n channels) ++ ws) (append-nil x.widths)

-- ---- offers whose contents are drawn and then cleared
module _ (channels : List Channel) (offers : Offers) (drawn : List ℕ) (fit : Fit (all_widths channels) drawn)
    (made : offers.contents ≡ joined (fed_content channels offers.valids drawn) 0 channels) where
  abbrev numbers : ℕ → List ℕ
  numbers = fed_content channels offers.valids drawn

  numbers-fit : (c : ℕ) (x : Channel) → slice_get channels c ≡ Some x → Fit x.widths (numbers c)
  numbers-fit c x at = ⊎_elim
      (λ (up : has offers.valids c ≡ true). subst (Fit x.widths)
      (sym (cond-true (has offers.valids c) (content_at channels drawn c) (no_content channels c) up))
      (content-fits channels drawn fit c x at))
      (λ (down : has offers.valids c ≡ false). subst (Fit x.widths)
      (sym (cond-false (has offers.valids c) (content_at channels drawn c) (no_content channels c) down
      ∙ ap (λ (o : Option Channel). replicate (length (widths_of o)) 0) at)) (fit-zeros x.widths))
      (cases_Bool (has offers.valids c))

  drawn-fit : Fit (all_widths channels) offers.contents
  drawn-fit = subst (Fit (all_widths channels)) (sym made) (fit-joined numbers channels numbers-fit)

  drawn-zeros : AreZeroWhileDown channels offers
  drawn-zeros c x at dir down =
      ap (λ (xs : List ℕ). content_at channels xs c) made ∙ content-joined numbers channels numbers-fit c x at
      ∙ cond-false (has offers.valids c) (content_at channels drawn c) (no_content channels c) down

-- numbers that fit, on the channels whose valid is up alone, as offers
pub cleared : (channels table : List Channel) (widths drawn : List ℕ) (valids readies : ℕ) (contents : List ℕ) → table ≡ channels
    → widths ≡ all_widths channels → Fit widths drawn → valids < 2 ^ length channels → readies < 2 ^ length channels
    → contents ≡ joined (fed_content table valids drawn) 0 table
    → AreOffers channels (record { valids = valids; readies = readies; contents = contents })
    × AreZeroWhileDown channels (record { valids = valids; readies = readies; contents = contents })
cleared channels table widths drawn valids readies contents same ws fit vs rs made =
    let offers : Offers = record { valids = valids; readies = readies; contents = contents } in
    let fits = subst (λ (w : List ℕ). Fit w drawn) ws fit in
    let is = subst (λ (cs : List Channel). contents ≡ joined (fed_content cs valids drawn) 0 cs) same made in (
      record { valids = vs; readies = rs; contents = drawn-fit channels offers drawn fits is },
      drawn-zeros channels offers drawn fits is,
    )
