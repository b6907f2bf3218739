-- The ports of `vidi_replay_top` behind those that are held: a feed on its inputs, and what stands on its outputs.
use Rattle.std.proofs.Common.{◌≡◌, ℕ, ◌+◌, ◌*◌, ◌<◌, ◌≤◌, ◌^◌, Bool, true, false, List, [], ◌∷◌, ◌++◌, length}
use Rattle.std.proofs.Common.{Some, refl, sym, ap, ◌∙◌, subst, arith, slice_get, get_or, take, drop}
use Rattle.std.specs.Prelude.{codes}
use Rattle.std.specs.List.{AllZip, AllByRecursion}
use Rattle.std.proofs.lemmas.List.Elements.{recursion_from_All}
use Rattle.std.proofs.lemmas.Option.{slice_get_within, get_or_from_slice_get}
use Rattle.std.proofs.Math.Nat.{mul-le-mul_left}
use Rattle.std.proofs.lemmas.List.{length-append, length-take-le, length-drop, get_or-take, get_or-drop, append-nil}
use Rattle.net_sim.specs.vidi_bits.Number.{IsWidth, truth, has}
use Rattle.net_design.specs.declared.design.Direction.TheVariants.{Input}
use Rattle.net_design.specs.declared.design.Port.{Port}
use Rattle.shim_step.specs.vlog_driver.Names.{Name, Full}
use Rattle.replay_run.specs.trace_model.declared.channel.Channel.{Channel}
use Rattle.replay_run.specs.trace_model.declared.channel.Dir.{Dir}
use Rattle.replay_run.specs.trace_model.declared.channel.Dir.TheVariants.{Inward, Outward}
use Rattle.replay_run.specs.trace_model.Packet.{Fit}
use Rattle.replay_run.specs.trace_model.Row.{content_at}
use Rattle.replay_run.proofs.trace_model_lemmas.ContentsLemmas.{fit-length}
use Rattle.replay_run.specs.trace_model.Channel.{IsChannel, IsTable}
use Rattle.replay_run.proofs.run_model_lemmas.Contents.{content-fits}
use Rattle.replay_run.proofs.run_model_lemmas.PinLemmas.{all-at}
use Rattle.replay_run.specs.chan_replayer.declared.feed.Feed.{Feed}
use Rattle.replay_run.specs.chan_replayer.Feed.{need_of, IsFeedOver}
use Rattle.shim_gen.specs.shim_trees.Pieces.{numbered, numbered_twice, each, each_some, upto, input, output}
use Rattle.shim_gen.specs.shim_trees.ReplayTop.{fed_ports, shown_ports, replay_ports}
use Rattle.shim_step.specs.Ports.{HasFedContent}
use Rattle.shim_step.proofs.Stand.{one_bit}
use Rattle.shim_cosim.specs.Rewrapped.{if_inward, channel_inputs, feed_inputs, AreSmallNeeds}
use Rattle.shim_cosim.proofs.Ports.{side, side_append, flat_width}
use Rattle.shim_cosim.proofs.Zips.{zip_append, Fits}
use Rattle.shim_cosim.proofs.Sides.{in_port, ins_inputs, ins_outputs, ins_upto}
use Rattle.shim_cosim.proofs.Pieces.{length_upto, length_each, zip_upto, zip_some, zip_front, zip_back}
use Rattle.shim_cosim.proofs.Pieces.{some_at, upto_at, each_at}

-- ---- the inputs of a channel
abbrev pub need_inputs : ℕ → ℕ → List Port
need_inputs count c = upto (λ j. in_port (numbered_twice (codes "n_") c j) 32) 0 count

abbrev pub fed_inputs : ℕ → Dir → List ℕ → List Port
fed_inputs c Inward ws = each (λ i w. in_port (numbered_twice (codes "s_") c i) w) 0 ws
fed_inputs c Outward ws = []

abbrev pub in_ports : ℕ → ℕ → Channel → List Port
in_ports count c x = in_port (numbered (codes "more_") c) 1 ∷ (need_inputs count c ++ fed_inputs c x.dir x.widths)

ins_fed : (c : ℕ) (dir : Dir) (ws : List ℕ) → side Input (fed_ports c dir ws) ≡ fed_inputs c dir ws
ins_fed c Inward ws = ins_inputs (λ i w. numbered_twice (codes "s_") c i) (λ w. w) 0 ws
ins_fed c Outward ws = refl

ins_shown : (c : ℕ) (dir : Dir) (ws : List ℕ) → side Input (shown_ports c dir ws) ≡ []
ins_shown c Inward ws = refl
ins_shown c Outward ws = ins_outputs (λ i w. numbered_twice (codes "d_") c i) (λ w. w) 0 ws

pub ins_channel : (count c : ℕ) (x : Channel) → side Input (replay_ports count c x) ≡ in_ports count c x
ins_channel count c x =
    let needs = upto (λ j. input (numbered_twice (codes "n_") c j) 32) 0 count in
    let fed = fed_ports c x.dir x.widths in
    let shown = shown_ports c x.dir x.widths in
    let lasts =
    output (numbered (codes "v_") c) 1 ∷ output (numbered (codes "r_") c) 1 ∷ output (numbered (codes "pop_") c) 1 ∷ shown in
    ap (λ ps. in_port (numbered (codes "more_") c) 1 ∷ ps)
    (side_append Input needs (fed ++ lasts)
    ∙ ap (λ ps. ps ++ side Input (fed ++ lasts)) (ins_upto (numbered_twice (codes "n_") c) 32 0 count)
    ∙ ap (λ ps. need_inputs count c ++ ps)
    (side_append Input fed lasts ∙ ap (λ ps. ps ++ side Input lasts) (ins_fed c x.dir x.widths)
    ∙ ap (λ ps. fed_inputs c x.dir x.widths ++ ps) (ins_shown c x.dir x.widths) ∙ append-nil (fed_inputs c x.dir x.widths)))

pub ins_channels : (count k : ℕ) (xs : List Channel) → side Input (each_some (replay_ports count) k xs) ≡ each_some (in_ports count) k xs
ins_channels count k [] = refl
ins_channels count k (x ∷ xs) =
    side_append Input (replay_ports count k x) (each_some (replay_ports count) (k + 1) xs)
    ∙ ap (λ ps. ps ++ side Input (each_some (replay_ports count) (k + 1) xs)) (ins_channel count k x)
    ∙ ap (λ ps. in_ports count k x ++ ps) (ins_channels count (k + 1) xs)

-- ---- its numbers
clock_within : (n c : ℕ) → c < n → n * c + n ≤ n * n
clock_within n c l =
    let le : c + 1 ≤ n = omega (arith, l) in
    let m = mul-le-mul_left n le in
    omega (arith, m)

ports_long : (c : ℕ) (dir : Dir) (ws xs : List ℕ) → length ws ≡ length xs → length (fed_inputs c dir ws) ≡ length (if_inward xs dir)
ports_long c Inward ws xs e = length_each (λ i w. in_port (numbered_twice (codes "s_") c i) w) 0 ws ∙ e
ports_long c Outward ws xs e = refl

module _ (channels : List Channel) (feed : Feed) (over : IsFeedOver channels feed) where
  abbrev n : ℕ
  n = length channels

  abbrev needs : ℕ → List ℕ
  needs c = take n (drop (n * c) feed.needs)

  abbrev content : ℕ → List ℕ
  content c = content_at channels feed.contents c

  needs_long : (c : ℕ) → c < length channels → length (needs c) ≡ length channels
  needs_long c l =
      let a = length-drop (n * c) feed.needs in
      let b = over.needs in
      let w = clock_within n c l in
      length-take-le n (drop (n * c) feed.needs) (omega (arith, a, b, w))

  need_at : (c j : ℕ) → j < length channels → get_or (needs c) j 0 ≡ need_of (length channels) feed c j
  need_at c j l = get_or-take n (drop (n * c) feed.needs) j 0 l ∙ get_or-drop (n * c) feed.needs j 0

  content_long : (c : ℕ) (x : Channel) → slice_get channels c ≡ Some x → length x.widths ≡ length (content c)
  content_long c x at = fit-length x.widths (content c) (content-fits channels feed.contents over.contents c x at)

  front_long : (c : ℕ) → c < length channels → length (need_inputs (length channels) c) ≡ length (needs c)
  front_long c l = length_upto (λ j. in_port (numbered_twice (codes "n_") c j) 32) 0 n ∙ sym (needs_long c l)

  -- as many inputs as numbers
  pub channel_long : (c : ℕ) (x : Channel) → slice_get channels c ≡ Some x
      → length (in_ports (length channels) c x) ≡ length (channel_inputs channels feed c x)
  channel_long c x at =
      let a = front_long c (slice_get_within channels c x at) in
      let b = ports_long c x.dir x.widths (content c) (content_long c x at) in
      let d = length-append (need_inputs n c) (fed_inputs c x.dir x.widths) in
      let e = length-append (needs c) (if_inward (content c) x.dir) in
      omega (arith, a, b, d, e)

  long_from : (i c : ℕ) (x : Channel) → slice_get channels i ≡ Some x → c ≡ 0 + i
      → length (in_ports (length channels) c x) ≡ length (channel_inputs channels feed c x)
  long_from i c x at e =
      let here : i ≡ c = omega (arith, e) in
      subst (λ k. length (in_ports n k x) ≡ length (channel_inputs channels feed k x)) here (channel_long i x at)

  -- ---- a feed that is entered
  module _ (v : Full → ℕ) where
    abbrev Shown : Port → ℕ → Type 0
    Shown p k = v (p.name ∷ []) ≡ k

    module _ (all : AllZip Shown (each_some (in_ports (length channels)) 0 channels) (feed_inputs channels feed)) (c : ℕ) (x : Channel)
        (at : slice_get channels c ≡ Some x) where
      here : AllZip Shown (in_ports (length channels) c x) (channel_inputs channels feed c x)
      here = some_at Shown (in_ports n) (channel_inputs channels feed) 0 channels long_from all c c x at (omega arith)

      pub more_is : v (numbered (codes "more_") c ∷ []) ≡ truth (has feed.more c)
      more_is = here.0

      pub need_is : (j : ℕ) → j < length channels → v (numbered_twice (codes "n_") c j ∷ []) ≡ need_of (length channels) feed c j
      need_is j l =
          upto_at Shown (λ j. in_port (numbered_twice (codes "n_") c j) 32) 0 n (needs c)
          (zip_front Shown (need_inputs n c) (fed_inputs c x.dir x.widths) (needs c) (if_inward (content c) x.dir)
          (front_long c (slice_get_within channels c x at)) here.1) j j (omega arith) l
          ∙ need_at c j l

      fed_is : (dir : Dir) → AllZip Shown (fed_inputs c dir x.widths) (if_inward (content c) dir) → HasFedContent v channels feed c dir x.widths
      fed_is Inward h =
          λ i w e. each_at Shown (λ i w. in_port (numbered_twice (codes "s_") c i) w) 0 x.widths (content c) h i i w (omega arith) e
      fed_is Outward h = tt

      pub content_is : HasFedContent v channels feed c x.dir x.widths
      content_is =
          fed_is x.dir
          (zip_back Shown (need_inputs n c) (fed_inputs c x.dir x.widths) (needs c) (if_inward (content c) x.dir)
          (front_long c (slice_get_within channels c x at)) here.1)

  -- ---- its numbers fit
  fits_in : (name : Name) (w k : ℕ) → IsWidth w → k < 2 ^ w → Fits (in_port name w) k
  fits_in name w k is l = subst (λ z. k < 2 ^ z) (sym (flat_width w is)) l

  truth_small : (b : Bool) → truth b < 2 ^ 1
  truth_small true = omega arith
  truth_small false = omega arith

  word : IsWidth 32
  word = (omega arith, omega arith)

  fed_fits : (c : ℕ) (dir : Dir) (ws xs : List ℕ) → AllByRecursion IsWidth ws → Fit ws xs → AllZip Fits (fed_inputs c dir ws) (if_inward xs dir)
  fed_fits c Inward ws xs lawful fit = each_fits 0 ws xs lawful fit
    where
      each_fits : (k : ℕ) (ws xs : List ℕ) → AllByRecursion IsWidth ws → Fit ws xs
          → AllZip Fits (each (λ i w. in_port (numbered_twice (codes "s_") c i) w) k ws) xs
      each_fits k [] [] lawful fit = tt
      each_fits k [] (x ∷ xs) lawful fit = absurd fit
      each_fits k (w ∷ ws) [] lawful fit = absurd fit
      each_fits k (w ∷ ws) (x ∷ xs) lawful fit =
          (fits_in (numbered_twice (codes "s_") c k) w x lawful.0 fit.0, each_fits (k + 1) ws xs lawful.1 fit.1)
  fed_fits c Outward ws xs lawful fit = tt

  module _ (table : IsTable channels) (small : AreSmallNeeds channels feed) where
    widths_lawful : (c : ℕ) (x : Channel) → slice_get channels c ≡ Some x → AllByRecursion IsWidth x.widths
    widths_lawful c x at = recursion_from_All IsWidth x.widths (all-at IsChannel channels c x table.each at).widths

    channel_fits : (c : ℕ) (x : Channel) → slice_get channels c ≡ Some x
        → AllZip Fits (in_ports (length channels) c x) (channel_inputs channels feed c x)
    channel_fits c x at =
        let l = slice_get_within channels c x at in (
          fits_in (numbered (codes "more_") c) 1 (truth (has feed.more c)) one_bit (truth_small (has feed.more c)),
          zip_append Fits (need_inputs n c) (fed_inputs c x.dir x.widths) (needs c) (if_inward (content c) x.dir)
              (zip_upto Fits (λ j. in_port (numbered_twice (codes "n_") c j) 32) 0 n (needs c) (needs_long c l)
              (λ i j y a e.
              let same : i ≡ j = omega (arith, e) in
              let long = needs_long c l in
              let within = slice_get_within (needs c) i y a in
              let k : i < n = omega (arith, within, long) in
              fits_in (numbered_twice (codes "n_") c j) 32 y word
              (subst (λ m. m < 2 ^ 32) (sym (need_at c i k) ∙ get_or_from_slice_get (needs c) i y 0 a) (small c i l k))))
              (fed_fits c x.dir x.widths (content c) (widths_lawful c x at) (content-fits channels feed.contents over.contents c x at)),
        )

    pub feed_fits : AllZip Fits (each_some (in_ports (length channels)) 0 channels) (feed_inputs channels feed)
    feed_fits =
        zip_some Fits (in_ports n) (channel_inputs channels feed) 0 channels
        (λ i c x at e.
        let here : i ≡ c = omega (arith, e) in
        subst (λ k. AllZip Fits (in_ports n k x) (channel_inputs channels feed k x)) here (channel_fits i x at))
