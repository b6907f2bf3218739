-- What a simulator's code does in its slots.
use Rattle.std.proofs.Common.{◌≡◌, ℕ, zero, suc, ◌+◌, ◌^◌, ◌<◌, ◌≤◌, IsTrue}
use Rattle.std.proofs.Common.{if◌then◌else◌, List, [], ◌∷◌, All, length, length-append}
use Rattle.std.proofs.Common.{get_or, take, drop, reverse, slice_index, refl, ap, sym, subst, ◌∙◌, arith}
use Rattle.std.specs.List.{flat_map}
use Rattle.std.proofs.Math.Seq.{drop-append_seam}
use Rattle.std.proofs.lemmas.List.{length-take-le, take-append-le, take-take, length-map, length-drop}
use Rattle.net_order.proofs.Entered.{entered_long}
use Rattle.net_design.specs.declared.act.Act.{Act}
use Rattle.net_design.specs.declared.act.Code.{Code}
use Rattle.net_design.specs.declared.act.Timing.TheVariants.{Blocking, Nonblocking}
use Rattle.net_design.specs.declared.design.Net.{Net}
use Rattle.net_design.specs.declared.design.Port.{Port}
use Rattle.net_design.specs.declared.design.Driver.{Driver}
use Rattle.net_design.specs.declared.design.Design.{Design}
use Rattle.net_design.specs.declared.values.Update.{Update}
use Rattle.net_design.specs.declared.values.Values.{Values}
use Rattle.net_design.specs.Updates.{block_updates}
use Rattle.net_design.specs.Settled.{word_count, clocked}
use Rattle.net_design.specs.Lawful.{IsLawful, IsState, IsInRange, is_span, is_room}
use Rattle.net_design.specs.Pins.{FitPins}
use Rattle.net_design.proofs.LawfulCode.{net_width_le, block_more, room_within, span_within}
use Rattle.net_order.specs.Run.{enters, entered, acts_of, run_all, start}
use Rattle.net_order.proofs.OneMap.{start_fits}
use Rattle.net_instr.specs.declared.instr.Instr.{Instr}
use Rattle.net_instr.specs.Machine.{AreBelow, AreSafe, exec}
use Rattle.net_instr.specs.Layout.{view, span, shown, state, IsReady, Moves}
use Rattle.net_instr.specs.Expressions.{IsThere, HasRoom}
use Rattle.net_instr.specs.Statements.{block_code, IsBlockThere}
use Rattle.net_instr.proofs.Running.{RunsTo, runs_nothing, runs_then, first_below, last_below}
use Rattle.net_instr.proofs.Views.{view_by}
use Rattle.net_instr.proofs.Acts.{Does, does_nothing, does_then, block_right}
use Rattle.net_instr.proofs.Safe.{safe_both, block_safe}
use Rattle.net_instr.proofs.Whole.{whole}
use Rattle.net_sim.specs.Slots.{widths_of, span_of, shown_in, state_in, drivers_code, blocks_code, settling_code, clocking_code, copied}

-- ---- code of lawful designs
acts_there : (widths : List ℕ) (W : ℕ) (xs : List Driver) → ((k : ℕ) (x : Driver) → k < length xs
    → IsBlockThere widths W (get_or xs k x).code.acts)
    → (i : ℕ) → IsBlockThere widths W (acts_of xs i)
acts_there widths W [] f i = tt
acts_there widths W (x ∷ xs) f zero = f zero x (omega arith)
acts_there widths W (x ∷ xs) f (suc i) = acts_there widths W xs (λ k y l. f (suc k) y (omega arith)) i

module _ (d : Design) (law : IsLawful d) where
  widths : List ℕ
  widths = widths_of d

  pub block_there : (acts : List Act) → IsInRange d acts → IsBlockThere (widths_of d) (word_count d) acts
  block_there acts h =
      block_more (λ s. IsTrue (is_span d s)) (IsThere (widths_of d) (word_count d)) (λ r n. IsTrue (is_room d r n)) (HasRoom
      (widths_of d) (word_count d))
      (λ s x. let w = span_within d law s x in (subst (λ k. s.net < k) (sym (length-map d.nets (λ (n : Net). n.width))) w.0, w.1))
      (λ r n x. room_within d law r n x)
      acts h

  pub drivers_there : All (λ (x : Driver). IsBlockThere (widths_of d) (word_count d) x.code.acts) d.drivers
  drivers_there = λ k x l. block_there (get_or d.drivers k x).code.acts (law.drivers k x l).code.acts

  pub blocks_there : All (λ (c : Code). IsBlockThere (widths_of d) (word_count d) c.acts) d.blocks
  blocks_there = λ k c l. block_there (get_or d.blocks k c).acts (law.blocks k c l).code.acts

-- ---- safe code
drivers_safe : (widths : List ℕ) (W : ℕ) → ((m : ℕ) → slice_index widths m ≤ 128) → (xs : List Driver) (order : List ℕ)
    → ((i : ℕ) → IsBlockThere widths W (acts_of xs i)) → AreSafe (drivers_code widths W xs order)
drivers_safe widths W narrow xs [] h = tt
drivers_safe widths W narrow xs (i ∷ order) h =
    safe_both (drivers_code widths W xs order) (block_code widths W 0 (acts_of xs i)) (drivers_safe widths W narrow xs order h)
    (block_safe widths W narrow 0 (acts_of xs i) (h i))

blocks_safe : (widths : List ℕ) (W : ℕ) → ((m : ℕ) → slice_index widths m ≤ 128) → (cs : List Code)
    → ((k : ℕ) (c : Code) → k < length cs → IsBlockThere widths W (get_or cs k c).acts) → AreSafe (blocks_code widths W cs)
blocks_safe widths W narrow [] h = tt
blocks_safe widths W narrow (c ∷ cs) h =
    safe_both (blocks_code widths W cs) (block_code widths W (span widths W) c.acts)
    (blocks_safe widths W narrow cs (λ k x l. h (suc k) x (omega arith))) (block_safe widths W narrow (span widths W) c.acts
    (h zero c (omega arith)))

-- ---- what code does
-- the code makes the shown numbers v, and keeps the state
record Shows (widths : List ℕ) (W : ℕ) (code : List Instr) (v : Values) (s : List ℕ) : Type 0 where
  after : List ℕ
  runs : RunsTo code s after
  shows : shown widths W after ≡ v
  moves : state widths W after ≡ state widths W s
  long : length after ≡ length s
  ready : IsReady widths W after

drivers_run : (widths : List ℕ) (W : ℕ) (xs : List Driver) → ((i : ℕ) → IsBlockThere widths W (acts_of xs i)) → (order : List ℕ) (s : List ℕ)
    → AreBelow (length s) (drivers_code widths W xs order) → IsReady widths W s
    → Shows widths W (drivers_code widths W xs order) (run_all xs order (shown widths W s)) s
drivers_run widths W xs h [] s i r = record { after = s; runs = runs_nothing s; shows = refl; moves = refl; long = refl; ready = r }
drivers_run widths W xs h (k ∷ order) s i r =
    let late = drivers_code widths W xs order in
    let early = block_code widths W 0 (acts_of xs k) in
    let x : Does widths W Blocking early (block_updates Blocking (acts_of xs k) (shown widths W s)) s =
    block_right widths W Blocking (acts_of xs k) s (h k) (last_below (length s) late early i) r in
    let y = drivers_run widths W xs h order x.after (subst (λ l. AreBelow l late) (sym x.moved.long) (first_below (length s) late early i))
    x.moved.ready in
    record {
      after = y.after;
      runs = runs_then early late s x.after y.after x.runs y.runs;
      shows = y.shows ∙ ap (run_all xs order) x.moved.shows;
      moves = y.moves ∙ x.moved.moves;
      long = y.long ∙ x.moved.long;
      ready = y.ready;
    }

abbrev block_writes : Values → Code → List Update
block_writes v c = block_updates Nonblocking c.acts v

blocks_run : (widths : List ℕ) (W : ℕ) (cs : List Code) → ((k : ℕ) (c : Code) → k < length cs → IsBlockThere widths W (get_or cs k c).acts)
    → (s : List ℕ) → AreBelow (length s) (blocks_code widths W cs) → IsReady widths W s
    → Does widths W Nonblocking (blocks_code widths W cs) (flat_map (block_writes (shown widths W s)) cs) s
blocks_run widths W [] h s i r = does_nothing widths W Nonblocking s r
blocks_run widths W (c ∷ cs) h s i r =
    let late = blocks_code widths W cs in
    let early = block_code widths W (span widths W) c.acts in
    let us = block_updates Nonblocking c.acts (shown widths W s) in
    let x : Does widths W Nonblocking early us s =
    block_right widths W Nonblocking c.acts s (h zero c (omega arith)) (last_below (length s) late early i) r in
    let y = blocks_run widths W cs (λ k e l. h (suc k) e (omega arith)) x.after
    (subst (λ l. AreBelow l late) (sym x.moved.long) (first_below (length s) late early i)) x.moved.ready in
    does_then widths W Nonblocking early late us (flat_map (block_writes (shown widths W s)) cs) s x
    (subst (λ v. Does widths W Nonblocking late (flat_map (block_writes v) cs) x.after) x.moved.shows y)

-- ---- the state copied, and pins entered
pub copied_front : (k : ℕ) (s : List ℕ) → k + k ≤ length s → take k (copied k s) ≡ take k (drop k s)
copied_front k s l =
    let long : length (take k (drop k s)) ≡ k = length-take-le k (drop k s) (let e = length-drop k s in omega (arith, e, l)) in
    take-append-le k (take k (drop k s)) (drop k s) (omega (arith, long)) ∙ take-take k k (drop k s) (omega arith)

pub copied_back : (k : ℕ) (s : List ℕ) → k + k ≤ length s → drop k (copied k s) ≡ drop k s
copied_back k s l =
    let long : length (take k (drop k s)) ≡ k = length-take-le k (drop k s) (let e = length-drop k s in omega (arith, e, l)) in
    ap (λ j. drop j (copied k s)) (sym long) ∙ drop-append_seam (take k (drop k s)) (drop k s)

pub copied_long : (k : ℕ) (s : List ℕ) → k + k ≤ length s → length (copied k s) ≡ length s
copied_long k s l =
    let e = length-drop k s in
    let long : length (take k (drop k s)) ≡ k = length-take-le k (drop k s) (omega (arith, e, l)) in
    let sum = length-append (take k (drop k s)) (drop k s) in
    omega (arith, e, long, sum, l)

entered_take : (ports : List Port) (pins : List ℕ) (k : ℕ) (xs : List ℕ) → take k (entered ports pins xs) ≡ entered ports pins (take k xs)
entered_take [] pins k xs = refl
entered_take (p ∷ ports) pins zero [] = refl
entered_take (p ∷ ports) pins (suc k) [] = refl
entered_take (p ∷ ports) pins zero (x ∷ xs) = refl
entered_take (p ∷ ports) pins (suc k) (x ∷ xs) =
    ap (λ ys. (if enters p then slice_index pins 0 else x) ∷ ys) (entered_take ports (if enters p then drop 1 pins else pins) k xs)

pub entered_drop : (ports : List Port) (pins : List ℕ) (k : ℕ) (xs : List ℕ) → length ports ≤ k → drop k (entered ports pins xs) ≡ drop k xs
entered_drop [] pins k xs l = refl
entered_drop (p ∷ ports) pins zero xs l = absurd (omega arith)
entered_drop (p ∷ ports) pins (suc k) [] l = refl
entered_drop (p ∷ ports) pins (suc k) (x ∷ xs) l = entered_drop ports (if enters p then drop 1 pins else pins) k xs (omega arith)

entered_view : (n W : ℕ) (ports : List Port) (pins s : List ℕ) → length ports ≤ n
    → view n W (entered ports pins s) ≡ record { nets = entered ports pins (view n W s).nets; words = (view n W s).words }
entered_view n W ports pins s l =
    let words : drop n (take (n + W) (entered ports pins s)) ≡ drop n (take (n + W) s) =
    ap (drop n) (entered_take ports pins (n + W) s) ∙ entered_drop ports pins n (take (n + W) s) l in
    ap (λ (xs : List ℕ). record { nets = xs; words = drop n (take (n + W) (entered ports pins s)) }) (entered_take ports pins n s)
    ∙ ap (λ (xs : List ℕ). record { nets = entered ports pins (take n s); words = xs }) words

module _ (d : Design) (order : List ℕ) where
  -- what is known of slots after settling
  pub record Settles (s pins u : List ℕ) : Type 0 where
    pub shows : shown_in d u ≡ run_all d.drivers order (start d (state_in d s) pins)
    pub moves : state_in d u ≡ state_in d s
    pub long : length u ≡ length s
    pub ready : IsReady (widths_of d) (word_count d) u

-- ---- settling and clocking
module _ (d : Design) (law : IsLawful d) (order : List ℕ) where
  narrow : (m : ℕ) → slice_index (widths_of d) m ≤ 128
  narrow m = net_width_le d law m

  all_there : (i : ℕ) → IsBlockThere (widths_of d) (word_count d) (acts_of d.drivers i)
  all_there i = acts_there (widths_of d) (word_count d) d.drivers (λ k x l. block_there d law (get_or d.drivers k x).code.acts
      (law.drivers k x l).code.acts) i

  pub settling_safe : AreSafe (settling_code d order)
  settling_safe = drivers_safe (widths_of d) (word_count d) narrow d.drivers order all_there

  pub clocking_safe : AreSafe (clocking_code d)
  clocking_safe = blocks_safe (widths_of d) (word_count d) narrow d.blocks (blocks_there d law)

  -- slots in which the state is shown, with pins entered
  begin : (s pins : List ℕ) → List ℕ
  begin s pins = entered d.ports pins (copied (span_of d) s)

  few_ports : length d.ports ≤ length (widths_of d)
  few_ports = subst (λ k. length d.ports ≤ k) (sym (length-map d.nets (λ (n : Net). n.width))) law.ports

  begin_shown : (s pins : List ℕ) → span_of d + span_of d ≤ length s
      → shown_in d (entered d.ports pins (copied (span_of d) s)) ≡ start d (state_in d s) pins
  begin_shown s pins l =
      entered_view (length (widths_of d)) (word_count d) d.ports pins (copied (span_of d) s) few_ports
      ∙ ap (λ (v : Values). start d v pins)
      (view_by (length (widths_of d)) (word_count d) (drop (span_of d) s) (copied (span_of d) s) (copied_front (span_of d) s l))

  begin_state : (s pins : List ℕ) → span_of d + span_of d ≤ length s
      → state_in d (entered d.ports pins (copied (span_of d) s)) ≡ state_in d s
  begin_state s pins l =
      let few = few_ports in
      ap (view (length (widths_of d)) (word_count d))
      (entered_drop d.ports pins (span_of d) (copied (span_of d) s) (omega (arith, few)) ∙ copied_back (span_of d) s l)

  pub settled_slots : (s pins : List ℕ) → IsReady (widths_of d) (word_count d) s → IsState d (state_in d s) → FitPins d pins
      → AreBelow (length s) (settling_code d order)
      → Settles d order s pins (exec (reverse (settling_code d order)) 0 (entered d.ports pins (copied (span_of d) s)))
  settled_slots s pins r is fit i =
      let u = entered d.ports pins (copied (span_of d) s) in
      let long : length u ≡ length s = entered_long d.ports pins (copied (span_of d) s) ∙ copied_long (span_of d) s r.long in
      let shows = begin_shown s pins r.long in
      let moves = begin_state s pins r.long in
      let fits = start_fits d law (state_in d s) pins is fit in
      let ready : IsReady (widths_of d) (word_count d) u = record {
        long = let h = r.long in omega (arith, h, long);
        shown_fits = λ m l. subst (λ (v : Values). slice_index v.nets m < 2 ^ slice_index (widths_of d) m) (sym shows) (fits.each m);
        state_fits = λ m l. subst (λ (v : Values). slice_index v.nets m < 2 ^ slice_index (widths_of d) m) (sym moves) (r.state_fits m l);
      } in
      let x = drivers_run (widths_of d) (word_count d) d.drivers all_there order u (subst (λ l. AreBelow l
      (settling_code d order)) (sym long) i) ready in
      let same = whole (settling_code d order) u x.after x.runs in
      subst (λ w. Settles d order s pins w) (sym same) (record {
        shows = x.shows ∙ ap (run_all d.drivers order) shows;
        moves = x.moves ∙ moves;
        long = x.long ∙ long;
        ready = x.ready;
      })

  pub clocked_slots : (s : List ℕ) → IsReady (widths_of d) (word_count d) s → AreBelow (length s) (clocking_code d)
      → Moves (widths_of d) (word_count d) Nonblocking (clocked d (shown_in d s)) s (exec (reverse (clocking_code d)) 0 s)
  clocked_slots s r i =
      let x = blocks_run (widths_of d) (word_count d) d.blocks (blocks_there d law) s i r in
      subst (λ u. Moves (widths_of d) (word_count d) Nonblocking (clocked d (shown_in d s)) s u)
      (sym (whole (clocking_code d) s x.after x.runs)) x.moved
