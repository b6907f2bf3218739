-- The ports of the top that records: what fits its inputs, and what stands on them and on its outputs.
use Rattle.std.proofs.Common.{◌≡◌, ℕ, zero, suc, ◌+◌, ◌<◌, ◌^◌, Bool, List, [], ◌∷◌, ◌++◌, map, length}
use Rattle.std.proofs.Common.{Some, get_or, take, slice_get, refl, sym, ap, ◌∙◌, subst, arith}
use Rattle.std.specs.Prelude.{codes}
use Rattle.std.specs.List.{AllZip, AllByRecursion}
use Rattle.std.proofs.lemmas.List.{map-append, length-map, length-append}
use Rattle.std.proofs.lemmas.List.Sums.{sum_by-cons}
use Rattle.net_sim.specs.vidi_bits.Number.{IsWidth, truth}
use Rattle.vlog_tree.specs.Tree.{PortOf}
use Rattle.shim_step.specs.vlog_driver.Names.{Name, Full}
use Rattle.net_design.specs.declared.design.Direction.TheVariants.{Input, Output}
use Rattle.net_design.specs.declared.design.Port.{Port}
use Rattle.replay_run.specs.trace_model.declared.channel.Channel.{Channel}
use Rattle.replay_run.specs.trace_model.declared.channel.Dir.{Dir}
use Rattle.replay_run.specs.trace_model.declared.channel.Dir.TheVariants.{Inward, Outward}
use Rattle.replay_run.specs.trace_model.declared.row.Row.{Row}
use Rattle.replay_run.specs.trace_model.Packet.{Fit}
use Rattle.replay_run.specs.trace_model.Row.{content_at}
use Rattle.shim_gen.specs.shim_trees.Pieces.{numbered, numbered_twice, each, each_some, port, input, output, source_side, sink_side}
use Rattle.shim_gen.specs.shim_trees.RecordTop.{record_ports}
use Rattle.shim_cosim.specs.Recorded.{entered_inputs, channel_inputs, content_count, output_count, outputs_count}
use Rattle.shim_cosim.proofs.HeldPorts.{truth_below}
use Rattle.shim_cosim.proofs.Ports.{side, side_append, flat_width, IsHeaded}
use Rattle.shim_cosim.proofs.Zips.{Fits, zip_append, zip_split, zip_long}

-- ---- a channel's ports, by its direction
abbrev pub d_name : ℕ → ℕ → Name
d_name c i = numbered_twice (codes "d_") c i

abbrev pub events : ℕ → List (PortOf ℕ)
events c = output (numbered (codes "start_") c) 1 ∷ output (numbered (codes "stop_") c) 1 ∷ []

abbrev pub contents : ℕ → Dir → ℕ → List ℕ → List (PortOf ℕ)
contents c dir k ws = each (λ i w. port (source_side dir) (d_name c i) w) k ws ++ events c

abbrev pub ports : ℕ → Dir → List ℕ → List (PortOf ℕ)
ports c dir ws =
    input (numbered (codes "g_") c) 1 ∷ port (source_side dir) (numbered (codes "v_") c) 1 ∷ port (sink_side dir) (numbered (codes "r_") c) 1
    ∷ contents c dir 0 ws

one_fits : (b : Bool) → truth b < 2 ^ 1
one_fits b = truth_below b

-- ---- inputs
contents_fit : (c k : ℕ) (ws xs : List ℕ) → AllByRecursion IsWidth ws → Fit ws xs → AllZip Fits (side Input (contents c Inward k ws)) xs
contents_fit c k [] [] wide fit = tt
contents_fit c k [] (x ∷ xs) wide fit = absurd fit
contents_fit c k (w ∷ ws) [] wide fit = absurd fit
contents_fit c k (w ∷ ws) (x ∷ xs) wide fit =
    (subst (λ n. x < 2 ^ n) (sym (flat_width w wide.0)) fit.0, contents_fit c (k + 1) ws xs wide.1 fit.1)

no_inputs : (c k : ℕ) (ws : List ℕ) → AllZip Fits (side Input (contents c Outward k ws)) []
no_inputs c k [] = tt
no_inputs c k (w ∷ ws) = no_inputs c (k + 1) ws

channel_fits : (row : Row) (c : ℕ) (dir : Dir) (ws xs : List ℕ) → AllByRecursion IsWidth ws → Fit ws xs
    → AllZip Fits (side Input (ports c dir ws)) (entered_inputs row c xs dir)
channel_fits row c Inward ws xs wide fit = (one_fits _, (one_fits _, contents_fit c 0 ws xs wide fit))
channel_fits row c Outward ws xs wide fit = (one_fits _, (one_fits _, no_inputs c 0 ws))

-- the channels' contents fit, and their widths are lawful
abbrev pub AreFit : List Channel → Row → ℕ → List Channel → Type 0
AreFit channels row k xs = (i c : ℕ) (x : Channel) → slice_get xs i ≡ Some x → c ≡ k + i
    → AllByRecursion IsWidth x.widths × Fit x.widths (content_at channels row.contents c)

later_fit : (channels : List Channel) (row : Row) (k : ℕ) (x : Channel) (xs : List Channel) → AreFit channels row k (x ∷ xs)
    → AreFit channels row (k + 1) xs
later_fit channels row k x xs h i c y at e = h (suc i) c y at (omega (arith, e))

module _ (channels : List Channel) (row : Row) where
  abbrev pub nums : ℕ → Channel → List ℕ
  nums c x = channel_inputs channels row c x

  pub channels_fit : (k : ℕ) (xs : List Channel) → AreFit channels row k xs
      → AllZip Fits (side Input (each_some record_ports k xs)) (each_some nums k xs)
  channels_fit k [] h = tt
  channels_fit k (x ∷ xs) h =
      let here = h 0 k x refl (omega arith) in
      subst (λ ps. AllZip Fits ps (nums k x ++ each_some nums (k + 1) xs)) (sym (side_append Input (record_ports k x) (each_some record_ports (k + 1) xs)))
      (zip_append Fits (side Input (record_ports k x)) (side Input (each_some record_ports (k + 1) xs)) (nums k x) (each_some nums (k + 1) xs)
      (channel_fits row k x.dir x.widths (content_at channels row.contents k) here.0 here.1)
      (channels_fit (k + 1) xs (later_fit channels row k x xs h)))

  module _ (v : Full → ℕ) where
    abbrev pub Shows : Port → ℕ → Type 0
    Shows p n = v (p.name ∷ []) ≡ n

    halves : (k : ℕ) (y : Channel) (xs : List Channel) → AreFit channels row k (y ∷ xs)
        → AllZip Shows (side Input (each_some record_ports k (y ∷ xs))) (each_some nums k (y ∷ xs))
        → AllZip Shows (side Input (record_ports k y)) (nums k y)
        × AllZip Shows (side Input (each_some record_ports (k + 1) xs)) (each_some nums (k + 1) xs)
    halves k y xs h z =
        let here = h 0 k y refl (omega arith) in
        let long : length (side Input (record_ports k y)) ≡ length (nums k y) =
        zip_long Fits (side Input (record_ports k y)) (nums k y)
        (channel_fits row k y.dir y.widths (content_at channels row.contents k) here.0 here.1) in
        zip_split Shows (side Input (record_ports k y)) (side Input (each_some record_ports (k + 1) xs)) (nums k y) (each_some nums (k + 1) xs) long
        (subst (λ ps. AllZip Shows ps (nums k y ++ each_some nums (k + 1) xs))
        (side_append Input (record_ports k y) (each_some record_ports (k + 1) xs)) z)

    pub channel_shows : (k : ℕ) (xs : List Channel) → AreFit channels row k xs
        → AllZip Shows (side Input (each_some record_ports k xs)) (each_some nums k xs)
        → (i c : ℕ) (x : Channel) → slice_get xs i ≡ Some x → c ≡ k + i → AllZip Shows (side Input (record_ports c x)) (nums c x)
    channel_shows k [] h z i c x at e = absurd (cc)
    channel_shows k (y ∷ xs) h z zero c x at e =
        let same : y ≡ x = cc in
        let place : k ≡ c = omega (arith, e) in
        subst (λ n. AllZip Shows (side Input (record_ports n x)) (nums n x)) place
        (subst (λ u. AllZip Shows (side Input (record_ports k u)) (nums k u)) same (halves k y xs h z).0)
    channel_shows k (y ∷ xs) h z (suc i) c x at e =
        channel_shows (k + 1) xs (later_fit channels row k y xs h) (halves k y xs h z).1 i c x at (omega (arith, e))

    -- a channel's contents stand on its ports
    pub contents_show : (c k : ℕ) (ws xs : List ℕ) → AllZip Shows (side Input (contents c Inward k ws)) xs
        → (i j w : ℕ) → slice_get ws i ≡ Some w → j ≡ k + i → v (d_name c j ∷ []) ≡ get_or xs i 0
    contents_show c k [] xs z i j w at e = absurd (cc)
    contents_show c k (u ∷ ws) [] z i j w at e = absurd z
    contents_show c k (u ∷ ws) (x ∷ xs) z zero j w at e =
        ap (λ n. v (d_name c n ∷ [])) (let s : j ≡ k = omega (arith, e) in s) ∙ z.0
    contents_show c k (u ∷ ws) (x ∷ xs) z (suc i) j w at e = contents_show c (k + 1) ws xs z.1 i j w at (omega (arith, e))

-- ---- outputs
zero_plus : (n : ℕ) → 0 + n ≡ n
zero_plus n = omega arith

suc_plus : (m n : ℕ) → suc m + n ≡ suc (m + n)
suc_plus m n = omega arith

one_plus : (n : ℕ) → 1 + n ≡ suc n
one_plus n = omega arith

two_plus : (n : ℕ) → 2 + n ≡ suc (suc n)
two_plus n = omega arith

past : (xs ys : List ℕ) (n : ℕ) → get_or (xs ++ ys) (length xs + n) 0 ≡ get_or ys n 0
past [] ys n = ap (λ k. get_or ys k 0) (zero_plus n)
past (x ∷ xs) ys n = ap (λ k. get_or (x ∷ (xs ++ ys)) k 0) (suc_plus (length xs) n) ∙ past xs ys n

front : (xs ys : List ℕ) (j : ℕ) → j < length xs → get_or (xs ++ ys) j 0 ≡ get_or xs j 0
front [] ys j l = absurd (omega (arith, l))
front (x ∷ xs) ys zero l = refl
front (x ∷ xs) ys (suc j) l = front xs ys j (omega (arith, l))

skipped : (c k : ℕ) (ws : List ℕ) → side Output (contents c Inward k ws) ≡ side Output (events c)
skipped c k [] = refl
skipped c k (w ∷ ws) = skipped c (k + 1) ws

shown_long : (c k : ℕ) (ws : List ℕ) → length (side Output (contents c Outward k ws)) ≡ length ws + 2
shown_long c k [] = refl
shown_long c k (w ∷ ws) = (let h = shown_long c (k + 1) ws in omega (arith, h))

side_long : (c : ℕ) (x : Channel) (dir : Dir) (ws : List ℕ) → ws ≡ x.widths → length (side Output (ports c dir ws)) ≡ 3 + content_count x dir
side_long c x Inward ws e = ap (λ n. suc n) (ap length (skipped c 0 ws))
side_long c x Outward ws e = (let a = shown_long c 0 ws in let b = ap length e in let z : suc (length (side Output (contents c Outward 0 ws))) ≡ 3 + length x.widths = omega (arith, a, b) in z)

module _ (v : Full → ℕ) where
  abbrev pub number : Port → ℕ
  number p = v (p.name ∷ [])

  abbrev pub shown : List (PortOf ℕ) → List ℕ
  shown ps = map number (side Output ps)

  pub shown_append : (xs ys : List (PortOf ℕ)) → shown (xs ++ ys) ≡ shown xs ++ shown ys
  shown_append xs ys = ap (map number) (side_append Output xs ys) ∙ map-append number (side Output xs) (side Output ys)

  long_of : (c : ℕ) (x : Channel) → length (shown (record_ports c x)) ≡ output_count x
  long_of c x = length-map (side Output (record_ports c x)) number ∙ side_long c x x.dir x.widths refl

  pub all_long : (k : ℕ) (xs : List Channel) → length (shown (each_some record_ports k xs)) ≡ outputs_count xs
  all_long k [] = refl
  all_long k (x ∷ xs) =
      ap length (shown_append (record_ports k x) (each_some record_ports (k + 1) xs))
      ∙ length-append (shown (record_ports k x)) (shown (each_some record_ports (k + 1) xs))
      ∙ ap (λ n. n + length (shown (each_some record_ports (k + 1) xs))) (long_of k x)
      ∙ ap (λ n. output_count x + n) (all_long (k + 1) xs) ∙ sym (sum_by-cons output_count x xs)

  -- output j of channel c stands behind those of the channels before it
  pub seat_shows : (k : ℕ) (xs : List Channel) (i c : ℕ) (x : Channel) → slice_get xs i ≡ Some x → c ≡ k + i → (j : ℕ) → j < output_count x
      → get_or (shown (each_some record_ports k xs)) (outputs_count (take i xs) + j) 0 ≡ get_or (shown (record_ports c x)) j 0
  seat_shows k [] i c x at e j l = absurd (cc)
  seat_shows k (y ∷ xs) zero c x at e j l =
      let same : y ≡ x = cc in
      let place : k ≡ c = omega (arith, e) in
      let here : j < length (shown (record_ports k y)) =
      (let a = long_of k y in let b : output_count y ≡ output_count x = ap output_count same in omega (arith, a, b, l)) in
      ap (λ n. get_or (shown (each_some record_ports k (y ∷ xs))) n 0) (zero_plus j)
      ∙ ap (λ zs. get_or zs j 0) (shown_append (record_ports k y) (each_some record_ports (k + 1) xs))
      ∙ front (shown (record_ports k y)) (shown (each_some record_ports (k + 1) xs)) j here
      ∙ ap (λ u. get_or (shown (record_ports k u)) j 0) same ∙ ap (λ n. get_or (shown (record_ports n x)) j 0) place
  seat_shows k (y ∷ xs) (suc i) c x at e j l =
      let a = sum_by-cons output_count y (take i xs) in
      let b = long_of k y in
      let shift : outputs_count (take (suc i) (y ∷ xs)) + j ≡ length (shown (record_ports k y)) + (outputs_count (take i xs) + j) = omega (arith, a, b) in
      ap (λ zs. get_or zs (outputs_count (take (suc i) (y ∷ xs)) + j) 0) (shown_append (record_ports k y) (each_some record_ports (k + 1) xs))
      ∙ ap (λ n. get_or (shown (record_ports k y) ++ shown (each_some record_ports (k + 1) xs)) n 0) shift
      ∙ past (shown (record_ports k y)) (shown (each_some record_ports (k + 1) xs)) (outputs_count (take i xs) + j)
      ∙ seat_shows (k + 1) xs i c x at (omega (arith, e)) j l

  -- a channel's outputs by their places
  pub record Events (c : ℕ) (out : List ℕ) (count : ℕ) : Type 0 where
    pub start : get_or out (1 + count) 0 ≡ v (numbered (codes "start_") c ∷ [])
    pub stop : get_or out (2 + count) 0 ≡ v (numbered (codes "stop_") c ∷ [])

  events_at : (c k : ℕ) (ws : List ℕ) (j : ℕ) → get_or (shown (contents c Outward k ws)) (length ws + j) 0 ≡ get_or (shown (events c)) j 0
  events_at c k [] j = ap (λ n. get_or (shown (events c)) n 0) (zero_plus j)
  events_at c k (w ∷ ws) j =
      ap (λ n. get_or (shown (contents c Outward k (w ∷ ws))) n 0) (suc_plus (length ws) j) ∙ events_at c (k + 1) ws j

  content_is : (c k : ℕ) (ws : List ℕ) (i j w : ℕ) → slice_get ws i ≡ Some w → j ≡ k + i
      → get_or (shown (contents c Outward k ws)) i 0 ≡ v (d_name c j ∷ [])
  content_is c k [] i j w at e = absurd (cc)
  content_is c k (u ∷ ws) zero j w at e = ap (λ n. v (d_name c n ∷ [])) (let s : k ≡ j = omega (arith, e) in s)
  content_is c k (u ∷ ws) (suc i) j w at e = content_is c (k + 1) ws i j w at (omega (arith, e))

  pub ready_shown : (c : ℕ) (ws : List ℕ) → get_or (shown (ports c Inward ws)) 0 0 ≡ v (numbered (codes "r_") c ∷ [])
  ready_shown c ws = refl

  pub valid_shown : (c : ℕ) (ws : List ℕ) → get_or (shown (ports c Outward ws)) 0 0 ≡ v (numbered (codes "v_") c ∷ [])
  valid_shown c ws = refl

  pub content_shown : (c : ℕ) (ws : List ℕ) (i w : ℕ) → slice_get ws i ≡ Some w
      → get_or (shown (ports c Outward ws)) (1 + i) 0 ≡ v (d_name c i ∷ [])
  content_shown c ws i w at =
      ap (λ n. get_or (shown (ports c Outward ws)) n 0) (one_plus i) ∙ content_is c 0 ws i i w at (omega arith)

  pub events_shown : (c : ℕ) (x : Channel) (dir : Dir) (ws : List ℕ) → ws ≡ x.widths → Events c (shown (ports c dir ws)) (content_count x dir)
  events_shown c x Inward ws e = record {
    start = ap (λ ps. get_or (map number ps) 0 0) (skipped c 0 ws);
    stop = ap (λ ps. get_or (map number ps) 1 0) (skipped c 0 ws);
  }
  events_shown c x Outward ws e =
      let n : length ws ≡ length x.widths = ap length e in
      record {
        start =
            ap (λ k. get_or (shown (ports c Outward ws)) k 0) (one_plus (length x.widths))
            ∙ ap (λ k. get_or (shown (contents c Outward 0 ws)) k 0) (let z : length x.widths ≡ length ws + 0 = omega (arith, n) in z)
            ∙ events_at c 0 ws 0;
        stop =
            ap (λ k. get_or (shown (ports c Outward ws)) k 0) (two_plus (length x.widths))
            ∙ ap (λ k. get_or (shown (contents c Outward 0 ws)) k 0) (let z : suc (length x.widths) ≡ length ws + 1 = omega (arith, n) in z)
            ∙ events_at c 0 ws 1;
      }

-- ---- heads
headed_contents : (c i : ℕ) (dir : Dir) (ws : List ℕ) (rest : List (PortOf ℕ)) → AllByRecursion IsHeaded rest
    → AllByRecursion IsHeaded (contents c dir i ws ++ rest)
headed_contents c i dir [] rest h = ((_, refl), ((_, refl), h))
headed_contents c i dir (w ∷ ws) rest h = ((_, refl), headed_contents c (i + 1) dir ws rest h)

pub headed : (k : ℕ) (xs : List Channel) → AllByRecursion IsHeaded (each_some record_ports k xs)
headed k [] = tt
headed k (x ∷ xs) =
    ((_, refl), ((_, refl), ((_, refl), headed_contents k 0 x.dir x.widths (each_some record_ports (k + 1) xs) (headed (k + 1) xs))))
