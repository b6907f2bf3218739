-- The row that stands on the outputs of `vidi_replay_top` is the row that its map shows.
use Rattle.std.proofs.Common.{◌≡◌, ℕ, zero, suc, ◌+◌, ◌<◌, ◌≤◌, ◌==◌, ◌&&◌, not, Bool, true, false, if◌then◌else◌, List, [], ◌∷◌, ◌++◌}
use Rattle.std.proofs.Common.{Some, refl, sym, ap, ◌∙◌, subst, arith, length, map, take, drop, get_or, slice_get}
use Rattle.std.specs.Prelude.{codes}
use Rattle.std.specs.List.{sum_by}
use Rattle.std.proofs.lemmas.List.{length-map, length-append, map-append, length-drop, length-take-le, get_or-take, get_or-drop, ext_get_or}
use Rattle.std.proofs.lemmas.List.Sums.{sum_by-cons}
use Rattle.std.proofs.lemmas.Option.{slice_get_within, get_or_from_slice_get}
use Rattle.net_sim.specs.vidi_bits.Number.{truth, has}
use Rattle.net_sim.proofs.vidi_bits_lemmas.BitLemmas.{has-above}
use Rattle.net_design.specs.declared.design.Direction.TheVariants.{Output}
use Rattle.net_design.specs.declared.design.Port.{Port}
use Rattle.shim_step.specs.vlog_driver.Names.{Full}
use Rattle.replay_run.specs.trace_model.declared.channel.Channel.{Channel}
use Rattle.replay_run.specs.trace_model.declared.channel.Dir.{Dir}
use Rattle.replay_run.specs.trace_model.declared.channel.Dir.TheVariants.{Inward, Outward}
use Rattle.replay_run.specs.trace_model.declared.row.Row.{Row}
use Rattle.replay_run.specs.trace_model.Packet.{Fit}
use Rattle.replay_run.specs.trace_model.Row.{content_at, completes, flies_after, row_before, IsOver, IsMarked}
use Rattle.replay_run.proofs.trace_model_lemmas.ContentsLemmas.{fit-length}
use Rattle.replay_run.specs.run_model.Building.{mask_of}
use Rattle.replay_run.specs.run_model.Offers.{no_content}
use Rattle.replay_run.specs.run_model.Played.{all_up}
use Rattle.replay_run.specs.run_model.Replay.{done}
use Rattle.replay_run.proofs.run_model_lemmas.Contents.{has-all, content-fits, content-joined, fit-joined, same-contents}
use Rattle.replay_run.proofs.run_model_lemmas.RowParts.{channel-at}
use Rattle.replay_run.specs.chan_map.declared.pins.Map.{Map}
use Rattle.replay_run.specs.chan_replayer.declared.feed.Feed.{Feed}
use Rattle.replay_run.specs.chan_replayer.Feed.{IsFedOn}
use Rattle.shim_gen.specs.shim_trees.Pieces.{numbered, numbered_twice, each, each_some, upto, input, output}
use Rattle.shim_gen.specs.shim_trees.ReplayTop.{fed_ports, shown_ports, replay_ports}
use Rattle.shim_step.specs.Ports.{HasContent, content_base, ShowsReplay}
use Rattle.shim_cosim.specs.declared.shown_row.Signal.TheVariants.{Valid, Ready, Pop}
use Rattle.shim_cosim.specs.Rewrapped.{if_outward, output_count, outputs_count, seat, is_raised, content_on, content_of, contents_of, replay_row}
use Rattle.shim_cosim.proofs.Ports.{side, side_append}
use Rattle.shim_cosim.proofs.Sides.{out_port, outs_inputs, outs_outputs, outs_upto}
use Rattle.shim_cosim.proofs.Pieces.{length_each, each_get}
use Rattle.shim_cosim.proofs.ShownRow.{mask_is, outputs_within}

-- ---- the outputs of a channel
abbrev pub shown_outputs : ℕ → Dir → List ℕ → List Port
shown_outputs c Inward ws = []
shown_outputs c Outward ws = each (λ i w. out_port (numbered_twice (codes "d_") c i) w) 0 ws

abbrev pub out_ports : ℕ → Channel → List Port
out_ports c x =
    out_port (numbered (codes "v_") c) 1 ∷ out_port (numbered (codes "r_") c) 1 ∷ out_port (numbered (codes "pop_") c) 1
    ∷ shown_outputs c x.dir x.widths

outs_fed : (c : ℕ) (dir : Dir) (ws : List ℕ) → side Output (fed_ports c dir ws) ≡ []
outs_fed c Inward ws = outs_inputs (λ i w. numbered_twice (codes "s_") c i) (λ w. w) 0 ws
outs_fed c Outward ws = refl

outs_shown : (c : ℕ) (dir : Dir) (ws : List ℕ) → side Output (shown_ports c dir ws) ≡ shown_outputs c dir ws
outs_shown c Inward ws = refl
outs_shown c Outward ws = outs_outputs (λ i w. numbered_twice (codes "d_") c i) (λ w. w) 0 ws

outs_channel : (count c : ℕ) (x : Channel) → side Output (replay_ports count c x) ≡ out_ports c x
outs_channel count c x =
    let needs = upto (λ j. input (numbered_twice (codes "n_") c j) 32) 0 count in
    let fed = fed_ports c x.dir x.widths in
    let lasts =
    output (numbered (codes "v_") c) 1 ∷ output (numbered (codes "r_") c) 1 ∷ output (numbered (codes "pop_") c) 1
    ∷ shown_ports c x.dir x.widths in
    side_append Output needs (fed ++ lasts)
    ∙ ap (λ ps. ps ++ side Output (fed ++ lasts)) (outs_upto (numbered_twice (codes "n_") c) 32 0 count)
    ∙ side_append Output fed lasts
    ∙ ap (λ ps. ps ++ side Output lasts) (outs_fed c x.dir x.widths)
    ∙ ap (λ ps. out_port (numbered (codes "v_") c) 1 ∷ out_port (numbered (codes "r_") c) 1 ∷ out_port (numbered (codes "pop_") c) 1 ∷ ps)
    (outs_shown c x.dir x.widths)

pub outs_channels : (count k : ℕ) (xs : List Channel) → side Output (each_some (replay_ports count) k xs) ≡ each_some out_ports k xs
outs_channels count k [] = refl
outs_channels count k (x ∷ xs) =
    side_append Output (replay_ports count k x) (each_some (replay_ports count) (k + 1) xs)
    ∙ ap (λ ps. ps ++ side Output (each_some (replay_ports count) (k + 1) xs)) (outs_channel count k x)
    ∙ ap (λ ps. out_ports k x ++ ps) (outs_channels count (k + 1) xs)

shown_long : (c : ℕ) (dir : Dir) (ws : List ℕ) → length (shown_outputs c dir ws) ≡ length (if_outward ws dir)
shown_long c Inward ws = refl
shown_long c Outward ws = length_each (λ i w. out_port (numbered_twice (codes "d_") c i) w) 0 ws

pub out_long : (c : ℕ) (x : Channel) → length (out_ports c x) ≡ output_count x
out_long c x = (let e = shown_long c x.dir x.widths in omega (arith, e))

-- ---- numbers by place
module _ {P : Type 0} (g : P → ℕ) (f : ℕ → Channel → List P) (count : Channel → ℕ) (long : (c : ℕ) (x : Channel) → length (f c x) ≡ count x) where
  front_at : (xs ys : List ℕ) (i : ℕ) → i < length xs → get_or (xs ++ ys) i 0 ≡ get_or xs i 0
  front_at [] ys i l = absurd (omega (arith, l))
  front_at (x ∷ xs) ys zero l = refl
  front_at (x ∷ xs) ys (suc i) l = front_at xs ys i (omega (arith, l))

  back_at : (xs ys : List ℕ) (n i : ℕ) → length xs ≡ n → get_or (xs ++ ys) (n + i) 0 ≡ get_or ys i 0
  back_at [] ys zero i e = ap (λ m. get_or ys m 0) (omega arith)
  back_at [] ys (suc n) i e = absurd (omega (arith, e))
  back_at (x ∷ xs) ys zero i e = absurd (omega (arith, e))
  back_at (x ∷ xs) ys (suc n) i e =
      let next : suc n + i ≡ suc (n + i) = omega arith in
      ap (λ m. get_or (x ∷ (xs ++ ys)) m 0) next ∙ back_at xs ys n i (omega (arith, e))

  pub some_length : (k : ℕ) (xs : List Channel) → length (map g (each_some f k xs)) ≡ sum_by count xs
  some_length k [] = refl
  some_length k (x ∷ xs) =
      let a = some_length (k + 1) xs in
      let b = length-map (f k x ++ each_some f (k + 1) xs) g in
      let d = length-append (f k x) (each_some f (k + 1) xs) in
      let e = length-map (each_some f (k + 1) xs) g in
      let h = long k x in
      let s = sum_by-cons count x xs in
      omega (arith, a, b, d, e, h, s)

  pub some_get : (k c j i : ℕ) (x : Channel) (xs : List Channel) → slice_get xs c ≡ Some x → j ≡ k + c → i < count x
      → get_or (map g (each_some f k xs)) (sum_by count (take c xs) + i) 0 ≡ get_or (map g (f j x)) i 0
  some_get k c j i x [] at e l = absurd (cc)
  some_get k zero j i x (y ∷ xs) at e l =
      let same : y ≡ x = cc in
      let here : k ≡ j = omega (arith, e) in
      let many = length-map (f k y) g in
      let own = long k y in
      let size : count y ≡ count x = ap count same in
      let zeros : 0 + i ≡ i = omega arith in
      ap (λ m. get_or (map g (f k y ++ each_some f (k + 1) xs)) m 0) zeros
      ∙ ap (λ zs. get_or zs i 0) (map-append g (f k y) (each_some f (k + 1) xs))
      ∙ front_at (map g (f k y)) (map g (each_some f (k + 1) xs)) i (omega (arith, many, own, size, l))
      ∙ ap (λ z. get_or (map g (f k z)) i 0) same ∙ ap (λ m. get_or (map g (f m x)) i 0) here
  some_get k (suc c) j i x (y ∷ xs) at e l =
      let many = length-map (f k y) g in
      let own = long k y in
      let cons = sum_by-cons count y (take c xs) in
      let sums : sum_by count (take (suc c) (y ∷ xs)) + i ≡ count y + (sum_by count (take c xs) + i) = omega (arith, cons) in
      ap (λ zs. get_or zs (sum_by count (take (suc c) (y ∷ xs)) + i) 0) (map-append g (f k y) (each_some f (k + 1) xs))
      ∙ ap (λ m. get_or (map g (f k y) ++ map g (each_some f (k + 1) xs)) m 0) sums
      ∙ back_at (map g (f k y)) (map g (each_some f (k + 1) xs)) (count y) (sum_by count (take c xs) + i) (omega (arith, many, own))
      ∙ some_get (k + 1) c j i x xs at (omega (arith, e)) l

-- what stands on the outputs, in a map
pub record AreOutputs (channels : List Channel) (v : Full → ℕ) (out : List ℕ) : Type 0 where
  pub long : length out ≡ outputs_count channels
  pub valid : (c : ℕ) (x : Channel) → slice_get channels c ≡ Some x → get_or out (seat channels c + 0) 0 ≡ v (numbered (codes "v_") c ∷ [])
  pub ready : (c : ℕ) (x : Channel) → slice_get channels c ≡ Some x → get_or out (seat channels c + 1) 0 ≡ v (numbered (codes "r_") c ∷ [])
  pub pop : (c : ℕ) (x : Channel) → slice_get channels c ≡ Some x → get_or out (seat channels c + 2) 0 ≡ v (numbered (codes "pop_") c ∷ [])
  pub content : (c : ℕ) (x : Channel) → slice_get channels c ≡ Some x → x.dir ≡ Outward → (i w : ℕ) → slice_get x.widths i ≡ Some w
      → get_or out (seat channels c + (3 + i)) 0 ≡ v (numbered_twice (codes "d_") c i ∷ [])

pub are_outputs : (channels : List Channel) (v : Full → ℕ) → AreOutputs channels v (map (λ (p : Port). v (p.name ∷ [])) (each_some out_ports 0 channels))
are_outputs channels v = record {
  long = some_length g out_ports output_count out_long 0 channels;
  valid = λ c x at. some_get g out_ports output_count out_long 0 c c 0 x channels at (omega arith) (omega arith);
  ready = λ c x at. some_get g out_ports output_count out_long 0 c c 1 x channels at (omega arith) (omega arith);
  pop = λ c x at. some_get g out_ports output_count out_long 0 c c 2 x channels at (omega arith) (omega arith);
  content = λ c x at way i w e.
      some_get g out_ports output_count out_long 0 c c (3 + i) x channels at (omega arith)
      (let l = slice_get_within x.widths i w e in
      let n : output_count x ≡ 3 + length x.widths = ap (λ d. 3 + length (if_outward x.widths d)) way in
      omega (arith, l, n))
      ∙ (let behind : 3 + i ≡ suc (suc (suc i)) = omega arith in ap (λ m. get_or (map g (out_ports c x)) m 0) behind)
      ∙ shown_at c x.dir way x.widths i w e;
}
  where
    g : Port → ℕ
    g p = v (p.name ∷ [])

    shown_at : (c : ℕ) (dir : Dir) → dir ≡ Outward → (ws : List ℕ) (i w : ℕ) → slice_get ws i ≡ Some w
        → get_or (map (λ (p : Port). v (p.name ∷ [])) (shown_outputs c dir ws)) i 0 ≡ v (numbered_twice (codes "d_") c i ∷ [])
    shown_at c Inward way ws i w e = absurd (cc)
    shown_at c Outward way ws i w e = each_get (λ (p : Port). v (p.name ∷ [])) (λ i w. out_port (numbered_twice (codes "d_") c i) w) 0 ws i i w (omega arith) e

-- ---- the row
bit_test : (b : Bool) → (truth b == 1) ≡ b
bit_test true = refl
bit_test false = refl

and_up : (b g : Bool) → g ≡ true → (b && g) ≡ b
and_up true g e = e
and_up false g e = refl

module _ (a : Map) (v : Full → ℕ) (out : List ℕ) (are : AreOutputs a.channels v out) (flight : ℕ) (feed : Feed) (rows : List Row) (row : Row)
    (over : IsOver a.channels row) (marked : IsMarked (row_before rows (length rows)) row) (gates : row.gates ≡ all_up a.channels)
    (fed : (c : ℕ) (x : Channel) → slice_get a.channels c ≡ Some x → IsFedOn a.channels feed (done rows) row c x.dir)
    (ports : ShowsReplay a row v) (flies : (c : ℕ) → has flight c ≡ flies_after (row_before rows (length rows)) c) where
  abbrev n : ℕ
  n = length a.channels

  there : (c : ℕ) → c < length a.channels → (x : Channel) × (slice_get a.channels c ≡ Some x)
  there c l = channel-at a.channels c l

  raised_is : (k m : ℕ) (b : Bool) → k ≡ m → m ≡ truth b → (k == 1) ≡ b
  raised_is k m b e g = ap (λ z. z == 1) (e ∙ g) ∙ bit_test b

  valid_is : (c : ℕ) → c < length a.channels → is_raised a.channels out Valid c ≡ has row.valids c
  valid_is c l = (let x = there c l in raised_is _ _ (has row.valids c) (are.valid c x.0 x.1) (ports.valid c x.0 x.1))

  ready_is : (c : ℕ) → c < length a.channels → is_raised a.channels out Ready c ≡ has row.readies c
  ready_is c l = (let x = there c l in raised_is _ _ (has row.readies c) (are.ready c x.0 x.1) (ports.ready c x.0 x.1))

  pop_is : (c : ℕ) → c < length a.channels → is_raised a.channels out Pop c ≡ completes row c
  pop_is c l = (let x = there c l in raised_is _ _ (completes row c) (are.pop c x.0 x.1) (ports.pop c x.0 x.1))

  gate_up : (c : ℕ) → c < length a.channels → has row.gates c ≡ true
  gate_up c l = ap (λ m. has m c) gates ∙ has-all n c l

  valids_are : row.valids ≡ mask_of (is_raised a.channels out Valid) (length a.channels)
  valids_are =
      mask_is n row.valids (is_raised a.channels out Valid) (λ c l. sym (valid_is c l)) (λ c l. has-above row.valids n c over.valids l)

  readies_are : row.readies ≡ mask_of (is_raised a.channels out Ready) (length a.channels)
  readies_are =
      mask_is n row.readies (is_raised a.channels out Ready) (λ c l. sym (ready_is c l)) (λ c l. has-above row.readies n c over.readies l)

  ends_are : row.ends ≡ mask_of (is_raised a.channels out Pop) (length a.channels)
  ends_are =
      mask_is n row.ends (is_raised a.channels out Pop) (λ c l. marked.ends c ∙ sym (pop_is c l)) (λ c l. has-above row.ends n c over.ends l)

  starts_are : row.starts ≡ mask_of (λ c. is_raised a.channels out Valid c && not (has flight c)) (length a.channels)
  starts_are =
      mask_is n row.starts (λ c. is_raised a.channels out Valid c && not (has flight c))
      (λ c l.
      marked.starts c ∙ ap (λ b. b && not (flies_after (row_before rows (length rows)) c)) (and_up (has row.valids c) (has row.gates c) (gate_up c l) ∙ sym (valid_is c l))
      ∙ ap (λ b. is_raised a.channels out Valid c && not b) (sym (flies c)))
      (λ c l. has-above row.starts n c over.starts l)

  -- ---- contents
  abbrev valids : ℕ
  valids = mask_of (is_raised a.channels out Valid) (length a.channels)

  abbrev f : ℕ → List ℕ
  f c = content_of a.channels valids feed.contents out c (slice_get a.channels c)

  content_is : (c : ℕ) (x : Channel) → slice_get a.channels c ≡ Some x → (dir : Dir) → x.dir ≡ dir → IsFedOn a.channels feed (done rows) row c dir
      → HasContent v (content_base dir) c x.widths (content_at a.channels row.contents c)
      → content_on a.channels valids feed.contents out c x.widths dir ≡ content_at a.channels row.contents c
  content_is c x at Inward way fed_on shown =
      ap (λ m. if has m c then content_at a.channels feed.contents c else no_content a.channels c) (sym valids_are)
      ∙ sym fed_on.1
  content_is c x at Outward way fed_on shown =
      let mine = content_at a.channels row.contents c in
      let count = fit-length x.widths mine (content-fits a.channels row.contents over.contents c x at) in
      let within = out_within c x at in
      let size : output_count x ≡ 3 + length x.widths = ap (λ d. 3 + length (if_outward x.widths d)) way in
      let rest = length-drop (seat a.channels c + 3) out in
      let long : length (take (length x.widths) (drop (seat a.channels c + 3) out)) ≡ length x.widths =
      length-take-le (length x.widths) (drop (seat a.channels c + 3) out) (omega (arith, within, size, rest)) in
      ext_get_or 0 (take (length x.widths) (drop (seat a.channels c + 3) out)) mine (long ∙ count)
      (λ i l.
      let k : i < length x.widths = omega (arith, l, long) in
      let w = channel-at x.widths i k in
      let far : seat a.channels c + 3 + i ≡ seat a.channels c + (3 + i) = omega arith in
      get_or-take (length x.widths) (drop (seat a.channels c + 3) out) i 0 k ∙ get_or-drop (seat a.channels c + 3) out i 0
      ∙ ap (λ m. get_or out m 0) far ∙ are.content c x at way i w.0 w.1 ∙ shown i w.0 w.1)
    where
      out_within : (c : ℕ) (x : Channel) → slice_get a.channels c ≡ Some x → seat a.channels c + output_count x ≤ length out
      out_within c x at =
          let l = slice_get_within a.channels c x at in
          outputs_within a.channels out are.long c x l
          (sym (get_or_from_slice_get a.channels c x x at))

  here_is : (c : ℕ) (x : Channel) → slice_get a.channels c ≡ Some x
      → content_of a.channels valids feed.contents out c (slice_get a.channels c) ≡ content_at a.channels row.contents c
  here_is c x at =
      ap (content_of a.channels valids feed.contents out c) at ∙ content_is c x at x.dir refl (fed c x at) (ports.content c x at)

  fits : (c : ℕ) (x : Channel) → slice_get a.channels c ≡ Some x
      → Fit x.widths (content_of a.channels valids feed.contents out c (slice_get a.channels c))
  fits c x at = subst (Fit x.widths) (sym (here_is c x at)) (content-fits a.channels row.contents over.contents c x at)

  contents_are : row.contents ≡ contents_of a.channels valids feed.contents out
  contents_are =
      same-contents a.channels row.contents (contents_of a.channels valids feed.contents out) over.contents
      (fit-joined (λ c. content_of a.channels valids feed.contents out c (slice_get a.channels c)) a.channels fits)
      (λ c x at.
      sym (here_is c x at)
      ∙ sym (content-joined (λ c. content_of a.channels valids feed.contents out c (slice_get a.channels c)) a.channels fits c x at))

  pub row_is : replay_row a.channels row.fresh flight feed out ≡ row
  row_is =
      λ i. record {
        fresh = row.fresh;
        gates = (sym gates) i;
        valids = (sym valids_are) i;
        readies = (sym readies_are) i;
        contents = (sym contents_are) i;
        starts = (sym starts_are) i;
        ends = (sym ends_are) i;
      }
