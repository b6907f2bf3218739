-- The modules of the shims have good shape.
use Rattle.std.proofs.Common.{◌++◌, ◌≡◌, ◌≢◌, ℕ, zero, suc, ◌+◌, ◌<◌, ◌≤◌, ◌^◌, Bool, true, false, if◌then◌else◌, List, [], ◌∷◌, map}
use Rattle.std.proofs.Common.{Option, None, Some, refl, subst, arith, length, slice_get, option_map}
use Rattle.std.specs.Prelude.{codes}
use Rattle.std.specs.List.{AllByRecursion}
use Rattle.std.specs.Option.{option_to_list}
use Rattle.std.specs.Str.{bytes_eq}
use Rattle.std.proofs.lemmas.Slice.Eq.{bytes_eq-Decides}
use Rattle.vlog_size.proofs.vidi_bits_lemmas.Each.{each_append}
use Rattle.vlog_size.specs.Table.{Named, value_of}
use Rattle.vlog_tree.specs.declared.expr.BinaryOp.TheVariants.{Plus}
use Rattle.vlog_tree.specs.Tree.{ExprOf, BinaryExpr, BeginStmt, PortOf}
use Rattle.vlog_tree.specs.Shape.{level, IsGoodName, IsGoodExpr, IsGoodOption, AreGoodStmts, IsGoodPort, IsGoodConn, IsGoodItem, IsGoodModule}
use Rattle.chan_map.specs.trace_model.declared.channel.Channel.{Channel}
use Rattle.chan_map.specs.trace_model.declared.channel.Dir.{Dir}
use Rattle.chan_map.specs.trace_model.declared.channel.Dir.TheVariants.{Inward, Outward}
use Rattle.chan_map.specs.trace_model.declared.packet.TheConstants.{MOST_CHANNELS}
use Rattle.chan_map.specs.declared.pins.Map.{Map}
use Rattle.chan_map.specs.declared.pins.Pin.{Pin}
use Rattle.chan_map.specs.declared.pins.Plug.{Plug}
use Rattle.chan_map.specs.declared.pins.Reset.{Reset}
use Rattle.chan_map.specs.declared.pins.Tie.{Tie}
use Rattle.shim_trees.specs.Pieces.{Name, numbered, numbered_twice, each, each_some, upto, net, not_net, both, input, output, source_side}
use Rattle.shim_trees.specs.Pieces.{port, wire, reg, next, conn, gated_content}
use Rattle.shim_trees.specs.Monitor.{monitor_ports, gates, events, monitor_items, monitor}
use Rattle.shim_trees.specs.Replayer.{side_ports, replayer_ports, covers, covering, counting, shown_items, replayer_items, replayer}
use Rattle.shim_trees.specs.Links.{link, tied_link, plug_links, channel_links, links, reset_width, tie_width, held, tied_input, tied_port}
use Rattle.shim_trees.specs.Links.{tied_ports, dut_conn, dut, content_wires}
use Rattle.shim_trees.specs.RecordTop.{record_ports, record_wires, source_ready, sink_valid, source_content, sink_content, source_conns, sink_conns, monitor_conns}
use Rattle.shim_trees.specs.RecordTop.{monitor_item, record_name, record_top}
use Rattle.shim_trees.specs.ReplayTop.{fed_ports, shown_ports, replay_ports, replay_wires, side_conns, replayer_conns, replayer_item, replay_name, replay_top}
use Rattle.shim_trees.proofs.Names.{fixed_name, letter_name, numbered_name, twice_name, tied_name}
use Rattle.shim_trees.proofs.Pieces.{IsSmall, got, each_good, some_good, flat_good, upto_good, clk_name, kv_name, kr_name, sv_name, sr_name}
use Rattle.shim_trees.proofs.Pieces.{s_name, k_name, good_net, good_both, good_without, good_port, good_bit, good_wire, good_reg}
use Rattle.shim_trees.proofs.Pieces.{good_assign, assign_both, assign_without, good_next, good_at_clock, good_gated, good_conn, good_unjoined, good_instance}

-- a channel of few contents of few bits
abbrev pub IsFew : List ℕ → Type 0
IsFew widths = (length widths ≤ 16) × AllByRecursion IsSmall widths

abbrev pub IsFewChannel : Channel → Type 0
IsFewChannel c = IsFew c.widths

room_for : (widths : List ℕ) → length widths ≤ 16 → 0 + length widths < 2 ^ 64
room_for widths few = omega (arith, few)

-- ---- names that the tops share
g_name : (n : ℕ) → IsSmall n → IsGoodName (numbered (codes "g_") n)
g_name n small = numbered_name (codes "g_") n refl refl small

v_name : (n : ℕ) → IsSmall n → IsGoodName (numbered (codes "v_") n)
v_name n small = numbered_name (codes "v_") n refl refl small

r_name : (n : ℕ) → IsSmall n → IsGoodName (numbered (codes "r_") n)
r_name n small = numbered_name (codes "r_") n refl refl small

w_name : (n : ℕ) → IsSmall n → IsGoodName (numbered (codes "w_") n)
w_name n small = numbered_name (codes "w_") n refl refl small

pop_name : (n : ℕ) → IsSmall n → IsGoodName (numbered (codes "pop_") n)
pop_name n small = numbered_name (codes "pop_") n refl refl small

d_name : (n i : ℕ) → IsSmall n → IsSmall i → IsGoodName (numbered_twice (codes "d_") n i)
d_name n i one other = twice_name (codes "d_") n i refl refl one other

gated_name : (n i : ℕ) → IsSmall n → IsSmall i → IsGoodName (numbered_twice (codes "k_") n i)
gated_name n i one other = twice_name (codes "k_") n i refl refl one other

-- ---- the monitor
monitor_ports_good : (widths : List ℕ) → IsFew widths → AllByRecursion IsGoodPort (monitor_ports widths)
monitor_ports_good widths few =
    let room = room_for widths few.0 in (
      good_bit _ clk_name,
      (
        good_bit _ (fixed_name (codes "g") refl refl),
        (
          good_bit _ sv_name,
          (
            good_bit _ sr_name,
            each_append IsGoodPort (each (λ i w. input (numbered (codes "s") i) w) 0 widths) _
                (each_good IsSmall IsGoodPort (λ i w. input (numbered (codes "s") i) w) (λ i w small good. good_port _ w (s_name i small) good)
                0 widths room few.1) (
                  good_bit _ kv_name,
                  (
                    good_bit _ kr_name,
                    each_append IsGoodPort (each (λ i w. output (numbered (codes "k") i) w) 0 widths) _
                        (each_good IsSmall IsGoodPort (λ i w. output (numbered (codes "k") i) w) (λ i w small good. good_port _ w (k_name i small) good)
                        0 widths room few.1) (
                          good_bit _ (fixed_name (codes "start") refl refl),
                          (good_bit _ (fixed_name (codes "stop") refl refl), tt),
                        ),
                  ),
                ),
          ),
        ),
      ),
    )

gated_good : (widths : List ℕ) → IsFew widths → AllByRecursion IsGoodItem (each gated_content 0 widths)
gated_good widths few =
    each_good IsSmall IsGoodItem gated_content (λ i w small good. good_gated i w small good) 0 widths (room_for widths few.0) few.1

fly_name : IsGoodName (codes "fly")
fly_name = fixed_name (codes "fly") refl refl

g_port : IsGoodName (codes "g")
g_port = fixed_name (codes "g") refl refl

start_port : IsGoodName (codes "start")
start_port = fixed_name (codes "start") refl refl

stop_port : IsGoodName (codes "stop")
stop_port = fixed_name (codes "stop") refl refl

gates_good : AllByRecursion IsGoodItem gates
gates_good =
    let fly = good_reg (codes "fly") 1 fly_name (omega arith) in
    let valid = assign_both (codes "kv") (codes "sv") (codes "g") kv_name sv_name g_port in
    (fly, (valid, (assign_both (codes "sr") (codes "kr") (codes "g") sr_name kr_name g_port, tt)))

events_good : AllByRecursion IsGoodItem events
events_good =
    let start = assign_without (codes "start") (codes "kv") (codes "fly") start_port kv_name fly_name in
    let stop = assign_both (codes "stop") (codes "kv") (codes "kr") stop_port kv_name kr_name in
    let value = good_without (codes "kv") (codes "kr") kv_name kr_name in
    let fly = good_next (codes "fly") (both (net (codes "kv")) (not_net (codes "kr"))) fly_name value in
    (start, (stop, (good_at_clock (next (codes "fly") (both (net (codes "kv")) (not_net (codes "kr")))) fly, tt)))

monitor_items_good : (widths : List ℕ) → IsFew widths → AllByRecursion IsGoodItem (monitor_items widths)
monitor_items_good widths few =
    each_append IsGoodItem gates (each gated_content 0 widths ++ events) gates_good
    (each_append IsGoodItem (each gated_content 0 widths) events (gated_good widths few) events_good)

-- the first port of a module has a direction
some_not_none : {X : Type 0} (x : X) → Some x ≢ None
some_not_none x e = (cc)

pub monitor_good : (n : ℕ) (widths : List ℕ) → IsSmall n → IsFew widths → IsGoodModule (monitor n widths)
monitor_good n widths small few = (
  numbered_name (codes "vidi_m_") n refl refl small,
  tt,
  tt,
  some_not_none _,
  monitor_ports_good widths few,
  monitor_items_good widths few,
)

-- ---- the replayer
side_ports_good : (dir : Dir) (widths : List ℕ) → IsFew widths → AllByRecursion IsGoodPort (side_ports dir widths)
side_ports_good Inward widths few =
    let room = room_for widths few.0 in
    each_append IsGoodPort (each (λ i w. input (numbered (codes "s") i) w) 0 widths) _
    (each_good IsSmall IsGoodPort (λ i w. input (numbered (codes "s") i) w) (λ i w small good. good_port _ w (s_name i small) good)
    0 widths room few.1) (
      good_bit _ kv_name,
      (
        good_bit _ kr_name,
        each_good IsSmall IsGoodPort (λ i w. output (numbered (codes "k") i) w) (λ i w small good. good_port _ w (k_name i small) good)
            0 widths room few.1,
      ),
    )
side_ports_good Outward widths few = (good_bit _ sv_name, (good_bit _ sr_name, tt))

more_name : IsGoodName (codes "more")
more_name = fixed_name (codes "more") refl refl

pop_port : IsGoodName (codes "pop")
pop_port = fixed_name (codes "pop") refl refl

c_name : (j : ℕ) → IsSmall j → IsGoodName (numbered (codes "c") j)
c_name j small = letter_name 99 j refl small

n_name : (j : ℕ) → IsSmall j → IsGoodName (numbered (codes "n") j)
n_name j small = letter_name 110 j refl small

done_name : (j : ℕ) → IsSmall j → IsGoodName (numbered (codes "d") j)
done_name j small = letter_name 100 j refl small

replayer_ports_good : (count : ℕ) (dir : Dir) (widths : List ℕ) → count ≤ MOST_CHANNELS → IsFew widths
    → AllByRecursion IsGoodPort (replayer_ports count dir widths)
replayer_ports_good count dir widths limit few = (
  good_bit _ clk_name,
  (
    good_bit _ more_name,
    each_append IsGoodPort (upto (λ j. input (numbered (codes "n") j) 32) 0 count) _
        (upto_good IsGoodPort (λ j. input (numbered (codes "n") j) 32) (λ j small. good_port _ 32 (n_name j small) (omega arith)) 0 count
        (omega (arith, limit)))
        (each_append IsGoodPort (upto (λ j. input (numbered (codes "d") j) 1) 0 count) _
        (upto_good IsGoodPort (λ j. input (numbered (codes "d") j) 1) (λ j small. good_bit _ (done_name j small)) 0 count
        (omega (arith, limit)))
        (each_append IsGoodPort (side_ports dir widths) _ (side_ports_good dir widths few) (good_bit _ pop_port, tt))),
  ),
)

covers_good : (j : ℕ) → IsSmall j → IsGoodExpr (covers j)
covers_good j small =
    (omega arith, omega arith, good_net (numbered (codes "c") j) (c_name j small), good_net (numbered (codes "n") j) (n_name j small))

covering_good : (j count : ℕ) (e : ExprOf ℕ) → j + count < 2 ^ 64 → 5 ≤ level e → IsGoodExpr e → IsGoodExpr (covering j count e)
covering_good j zero e room high good = good
covering_good j (suc count) e room high good =
    covering_good (j + 1) count (both e (covers j)) (omega (arith, room)) (omega arith)
    (good_both e (covers j) high (omega arith) good (covers_good j (omega (arith, room))))

counting_good : (j count : ℕ) → j + count < 2 ^ 64 → AreGoodStmts (counting j count)
counting_good j zero room = tt
counting_good j (suc count) room =
    let small : IsSmall j = omega (arith, room) in (
      good_next (numbered (codes "c") j) (BinaryExpr (net (numbered (codes "c") j)) Plus (net (numbered (codes "d") j))) (c_name j small)
          (omega arith, omega arith, good_net (numbered (codes "c") j) (c_name j small), good_net (numbered (codes "d") j) (done_name j small)),
      counting_good (j + 1) count (omega (arith, room)),
    )

shown_items_good : (count : ℕ) (dir : Dir) (widths : List ℕ) → count ≤ MOST_CHANNELS → IsFew widths
    → AllByRecursion IsGoodItem (shown_items count dir widths)
shown_items_good count Inward widths limit few = (
  good_assign (codes "kv") (covering 0 count (net (codes "more"))) kv_name (covering_good 0 count (net (codes "more")) (omega (arith, limit)) (omega arith)
      (good_net (codes "more") more_name)),
  each_append IsGoodItem (each gated_content 0 widths) _ (gated_good widths few)
      (assign_both (codes "pop") (codes "kv") (codes "kr") pop_port kv_name kr_name, tt),
)
shown_items_good count Outward widths limit few = (
  good_assign (codes "sr") (covering 0 count (net (codes "more"))) sr_name (covering_good 0 count (net (codes "more")) (omega (arith, limit)) (omega arith)
      (good_net (codes "more") more_name)),
  (assign_both (codes "pop") (codes "sv") (codes "sr") pop_port sv_name sr_name, tt),
)

replayer_items_good : (count : ℕ) (dir : Dir) (widths : List ℕ) → count ≤ MOST_CHANNELS → IsFew widths
    → AllByRecursion IsGoodItem (replayer_items count dir widths)
replayer_items_good count dir widths limit few =
    each_append IsGoodItem (upto (λ j. reg (numbered (codes "c") j) 32) 0 count) _
    (upto_good IsGoodItem (λ j. reg (numbered (codes "c") j) 32) (λ j small. good_reg _ 32 (c_name j small) (omega arith)) 0 count
    (omega (arith, limit)))
    (each_append IsGoodItem (shown_items count dir widths) _ (shown_items_good count dir widths limit few)
    (good_at_clock (BeginStmt (counting 0 count)) (counting_good 0 count (omega (arith, limit))), tt))

pub replayer_good : (count n : ℕ) (c : Channel) → count ≤ MOST_CHANNELS → IsSmall n → IsFewChannel c → IsGoodModule (replayer count n c)
replayer_good count n c limit small few = (
  numbered_name (codes "vidi_q_") n refl refl small,
  tt,
  tt,
  some_not_none _,
  replayer_ports_good count c.dir c.widths limit few,
  replayer_items_good count c.dir c.widths limit few,
)

-- ---- what the design's ports are joined to

-- where its pin's name is good, its net's is
abbrev IsGoodLink : Named Name → Type 0
IsGoodLink l = IsGoodName l.name → IsGoodName l.value

abbrev pub IsFewPlug : Plug → Type 0
IsFewPlug plug = length plug.contents ≤ 16

every : {X : Type 0} (P : X → Type 0) (xs : List X) → ((x : X) → P x) → AllByRecursion P xs
every P [] h = tt
every P (x ∷ xs) h = (h x, every P xs h)

contents_linked : (base : Name) (n : ℕ) → IsSmall n → ((i : ℕ) → IsSmall i → IsGoodName (numbered_twice base n i)) → (pins : List Pin)
    → length pins ≤ 16 → AllByRecursion IsGoodLink (each (λ i pin. link pin (numbered_twice base n i)) 0 pins)
contents_linked base n small good pins few =
    each_good (λ (pin : Pin). Unit {0}) IsGoodLink (λ i pin. link pin (numbered_twice base n i)) (λ i pin i_small _ _. good i i_small) 0 pins
    (omega (arith, few)) (every (λ (pin : Pin). Unit {0}) pins (λ pin. tt))

plug_linked : (valid ready : Name) (n : ℕ) (dir : Dir) (plug : Plug) → IsSmall n → IsGoodName (numbered valid n) → IsGoodName (numbered ready n)
    → IsFewPlug plug → AllByRecursion IsGoodLink (plug_links valid ready n dir plug)
plug_linked valid ready n Inward plug small one other few =
    ((λ _. one), ((λ _. r_name n small), contents_linked (codes "k_") n small (λ i i_small. gated_name n i small i_small) plug.contents few))
plug_linked valid ready n Outward plug small one other few =
    ((λ _. v_name n small), ((λ _. other), contents_linked (codes "d_") n small (λ i i_small. d_name n i small i_small) plug.contents few))

channel_linked : (valid ready : Name) (n : ℕ) (dir : Dir) (plugs : List Plug) (o : Option Plug) → slice_get plugs n ≡ o → IsSmall n
    → IsGoodName (numbered valid n) → IsGoodName (numbered ready n) → AllByRecursion IsFewPlug plugs
    → AllByRecursion IsGoodLink (channel_links valid ready n dir o)
channel_linked valid ready n dir plugs None is small one other few = tt
channel_linked valid ready n dir plugs (Some plug) is small one other few =
    plug_linked valid ready n dir plug small one other (got IsFewPlug plugs n plug few is)

tied_linked : {X : Type 0} (pin : X → Pin) (xs : List X) → AllByRecursion IsGoodLink (map (λ x. tied_link (pin x)) xs)
tied_linked pin [] = tt
tied_linked pin (x ∷ xs) = ((λ good. tied_name (pin x).name good), tied_linked pin xs)

links_good : (valid ready : Name) (m : Map) → ((n : ℕ) → IsSmall n → IsGoodName (numbered valid n))
    → ((n : ℕ) → IsSmall n → IsGoodName (numbered ready n)) → length m.channels ≤ MOST_CHANNELS → AllByRecursion IsFewPlug m.plugs
    → AllByRecursion IsGoodLink (links valid ready m)
links_good valid ready m one other limit few = (
  (λ _. clk_name),
  each_append IsGoodLink (map (λ (r : Reset). tied_link r.pin) (option_to_list m.reset)) _
      (tied_linked (λ (r : Reset). r.pin) (option_to_list m.reset))
      (each_append IsGoodLink (map (λ (t : Tie). tied_link t.pin) m.ties) _ (tied_linked (λ (t : Tie). t.pin) m.ties)
      (some_good (λ (c : Channel). Unit {0}) IsGoodLink (λ n (c : Channel). channel_links valid ready n c.dir (slice_get m.plugs n))
      (λ n c small _. channel_linked valid ready n c.dir m.plugs (slice_get m.plugs n) refl small (one n small) (other n small) few)
      0 m.channels (omega (arith, limit)) (every (λ (c : Channel). Unit {0}) m.channels (λ c. tt)))),
)

-- the net of a good name
net_if : (b : Bool) (x : Name) (l : Named Name) (rest : Option Name) → bytes_eq x l.name ≡ b → IsGoodName x → IsGoodLink l
    → IsGoodOption IsGoodExpr (option_map net rest) → IsGoodOption IsGoodExpr (option_map net (if b then Some l.value else rest))
net_if true x l rest is good linked more = good_net l.value (linked (subst IsGoodName ((bytes_eq-Decides x l.name).0 is) good))
net_if false x l rest is good linked more = more

net_good : (ls : List (Named Name)) (x : Name) → IsGoodName x → AllByRecursion IsGoodLink ls
    → IsGoodOption IsGoodExpr (option_map net (value_of ls x))
net_good [] x good h = tt
net_good (l ∷ ls) x good h = net_if (bytes_eq x l.name) x l (value_of ls x) refl good h.0 (net_good ls x good h.1)

conns_good : (ls : List (Named Name)) (ports : List (PortOf ℕ)) → AllByRecursion IsGoodLink ls → AllByRecursion IsGoodPort ports
    → AllByRecursion IsGoodConn (map (dut_conn ls) ports)
conns_good ls [] h good = tt
conns_good ls (p ∷ ports) h good = ((good.0.1, net_good ls p.id.name good.0.1 h), conns_good ls ports h good.1)

dut_good : (ls : List (Named Name)) (kind : Name) (ports : List (PortOf ℕ)) → IsGoodName kind → AllByRecursion IsGoodLink ls
    → AllByRecursion IsGoodPort ports → IsGoodItem (dut ls kind ports)
dut_good ls kind ports named h good =
    good_instance kind (codes "dut") (map (dut_conn ls) ports) named (fixed_name (codes "dut") refl refl) (conns_good ls ports h good)

-- ---- the inputs for the reset and the ties
abbrev IsNarrow : Named ℕ → Type 0
IsNarrow x = IsSmall x.value

width_if : (b : Bool) (x : Name) (w : ℕ) (rest : Option ℕ) → IsGoodName x → IsSmall w → AllByRecursion IsGoodPort (tied_input x rest)
    → AllByRecursion IsGoodPort (tied_input x (if b then Some w else rest))
width_if true x w rest good small more = (good_port _ w (tied_name x good) small, tt)
width_if false x w rest good small more = more

tied_good : (ws : List (Named ℕ)) (x : Name) → IsGoodName x → AllByRecursion IsNarrow ws → AllByRecursion IsGoodPort (tied_input x (value_of ws x))
tied_good [] x good h = tt
tied_good (w ∷ ws) x good h = width_if (bytes_eq x w.name) x w.value (value_of ws x) good h.0 (tied_good ws x good h.1)

abbrev pub IsNarrowTie : Tie → Type 0
IsNarrowTie t = t.width ≤ 128

ties_narrow : (ties : List Tie) → AllByRecursion IsNarrowTie ties → AllByRecursion IsNarrow (map tie_width ties)
ties_narrow [] h = tt
ties_narrow (t ∷ ties) h = let few = h.0 in (omega (arith, few), ties_narrow ties h.1)

reset_narrow : (rs : List Reset) → AllByRecursion IsNarrow (map reset_width rs)
reset_narrow [] = tt
reset_narrow (r ∷ rs) = (omega arith, reset_narrow rs)

tied_ports_good : (m : Map) (ports : List (PortOf ℕ)) → AllByRecursion IsNarrowTie m.ties → AllByRecursion IsGoodPort ports
    → AllByRecursion IsGoodPort (tied_ports m ports)
tied_ports_good m ports narrow good =
    flat_good IsGoodPort IsGoodPort (tied_port (held m))
    (λ p here. tied_good (held m) p.id.name here.1 (each_append IsNarrow (map reset_width (option_to_list m.reset)) (map tie_width m.ties)
    (reset_narrow (option_to_list m.reset)) (ties_narrow m.ties narrow))) ports good

content_wires_good : (n : ℕ) (dir : Dir) (widths : List ℕ) → IsSmall n → IsFew widths → AllByRecursion IsGoodItem (content_wires n dir widths)
content_wires_good n Inward widths small few =
    each_good IsSmall IsGoodItem (λ i w. wire (numbered_twice (codes "k_") n i) w)
    (λ i w i_small good. good_wire _ w (gated_name n i small i_small) good) 0 widths (room_for widths few.0) few.1
content_wires_good n Outward widths small few = tt

-- ---- the top that records
record_ports_good : (n : ℕ) (c : Channel) → IsSmall n → IsFewChannel c → AllByRecursion IsGoodPort (record_ports n c)
record_ports_good n c small few = (
  good_bit _ (g_name n small),
  (
    good_bit _ (v_name n small),
    (
      good_bit _ (r_name n small),
      each_append IsGoodPort (each (λ i w. port (source_side c.dir) (numbered_twice (codes "d_") n i) w) 0 c.widths) _
          (each_good IsSmall IsGoodPort (λ i w. port (source_side c.dir) (numbered_twice (codes "d_") n i) w)
          (λ i w i_small good. good_port _ w (d_name n i small i_small) good) 0 c.widths (room_for c.widths few.0) few.1) (
            good_bit _ (numbered_name (codes "start_") n refl refl small),
            (good_bit _ (numbered_name (codes "stop_") n refl refl small), tt),
          ),
    ),
  ),
)

record_wires_good : (n : ℕ) (c : Channel) → IsSmall n → IsFewChannel c → AllByRecursion IsGoodItem (record_wires n c)
record_wires_good n c small few =
    (good_wire _ 1 (w_name n small) (omega arith), content_wires_good n c.dir c.widths small few)

source_ready_good : (n : ℕ) (dir : Dir) → IsSmall n → IsGoodConn (source_ready n dir)
source_ready_good n Inward small = good_unjoined _ sr_name
source_ready_good n Outward small = good_conn _ _ sr_name (w_name n small)

sink_valid_good : (n : ℕ) (dir : Dir) → IsSmall n → IsGoodConn (sink_valid n dir)
sink_valid_good n Inward small = good_conn _ _ kv_name (w_name n small)
sink_valid_good n Outward small = good_unjoined _ kv_name

sink_content_good : (n : ℕ) (dir : Dir) (i w : ℕ) → IsSmall n → IsSmall i → IsGoodConn (sink_content n dir i w)
sink_content_good n Inward i w small i_small = good_conn _ _ (k_name i i_small) (gated_name n i small i_small)
sink_content_good n Outward i w small i_small = good_unjoined _ (k_name i i_small)

source_conns_good : (n : ℕ) (dir : Dir) (widths : List ℕ) → IsSmall n → IsFew widths → AllByRecursion IsGoodConn (source_conns n dir widths)
source_conns_good n dir widths small few =
    let contents = each_good IsSmall IsGoodConn (source_content n) (λ i w i_small _. good_conn _ _ (s_name i i_small) (d_name n i small i_small))
    0 widths (room_for widths few.0) few.1 in
    let gate = good_conn (codes "g") (numbered (codes "g_") n) g_port (g_name n small) in
    let valid = good_conn (codes "sv") (numbered (codes "v_") n) sv_name (v_name n small) in
    (good_conn (codes "clk") (codes "clk") clk_name clk_name, (gate, (valid, (source_ready_good n dir small, contents))))

sink_conns_good : (n : ℕ) (dir : Dir) (widths : List ℕ) → IsSmall n → IsFew widths → AllByRecursion IsGoodConn (sink_conns n dir widths)
sink_conns_good n dir widths small few =
    let contents = each_good IsSmall IsGoodConn (sink_content n dir) (λ i w i_small _. sink_content_good n dir i w small i_small)
    0 widths (room_for widths few.0) few.1 in
    let start = good_conn (codes "start") (numbered (codes "start_") n) start_port (numbered_name (codes "start_") n refl refl small) in
    let stop = good_conn (codes "stop") (numbered (codes "stop_") n) stop_port (numbered_name (codes "stop_") n refl refl small) in
    let ready = good_conn (codes "kr") (numbered (codes "r_") n) kr_name (r_name n small) in
    (sink_valid_good n dir small, (ready, each_append IsGoodConn (each (sink_content n dir) 0 widths) _ contents (start, (stop, tt))))

monitor_conns_good : (n : ℕ) (dir : Dir) (widths : List ℕ) → IsSmall n → IsFew widths → AllByRecursion IsGoodConn (monitor_conns n dir widths)
monitor_conns_good n dir widths small few =
    each_append IsGoodConn (source_conns n dir widths) (sink_conns n dir widths) (source_conns_good n dir widths small few)
    (sink_conns_good n dir widths small few)

monitor_item_good : (n : ℕ) (c : Channel) → IsSmall n → IsFewChannel c → IsGoodItem (monitor_item n c)
monitor_item_good n c small few =
    good_instance _ _ (monitor_conns n c.dir c.widths) (numbered_name (codes "vidi_m_") n refl refl small)
    (numbered_name (codes "m_") n refl refl small) (monitor_conns_good n c.dir c.widths small few)

-- ---- the tops, for a map of few channels of few contents and narrow ties, round a design of this name and these ports
pub record IsFewMap (m : Map) : Type 0 where
  pub limit : length m.channels ≤ MOST_CHANNELS
  pub channels : AllByRecursion IsFewChannel m.channels
  pub plugs : AllByRecursion IsFewPlug m.plugs
  pub ties : AllByRecursion IsNarrowTie m.ties

pub record_top_good : (m : Map) (ports : List (PortOf ℕ)) → IsFewMap m → IsGoodName m.top → AllByRecursion IsGoodPort ports
    → IsGoodModule (record_top m ports)
record_top_good m ports few named good =
    let limit = few.limit in (
      fixed_name record_name refl refl,
      tt,
      tt,
      some_not_none _,
      (
        good_bit _ clk_name,
        each_append IsGoodPort (tied_ports m ports) _ (tied_ports_good m ports few.ties good)
            (some_good IsFewChannel IsGoodPort record_ports record_ports_good 0 m.channels (omega (arith, limit)) few.channels),
      ),
      each_append IsGoodItem (each_some record_wires 0 m.channels) _
          (some_good IsFewChannel IsGoodItem record_wires record_wires_good 0 m.channels (omega (arith, limit)) few.channels) (
            dut_good (links (codes "w_") (codes "w_") m) m.top ports named (links_good (codes "w_") (codes "w_") m w_name w_name limit few.plugs) good,
            each_good IsFewChannel IsGoodItem monitor_item monitor_item_good 0 m.channels (omega (arith, limit)) few.channels,
          ),
    )

-- ---- the top that replays
fed_good : (n : ℕ) (dir : Dir) (widths : List ℕ) → IsSmall n → IsFew widths → AllByRecursion IsGoodPort (fed_ports n dir widths)
fed_good n Inward widths small few =
    each_good IsSmall IsGoodPort (λ i w. input (numbered_twice (codes "s_") n i) w)
    (λ i w i_small good. good_port _ w (twice_name (codes "s_") n i refl refl small i_small) good) 0 widths (room_for widths few.0) few.1
fed_good n Outward widths small few = tt

shown_good : (n : ℕ) (dir : Dir) (widths : List ℕ) → IsSmall n → IsFew widths → AllByRecursion IsGoodPort (shown_ports n dir widths)
shown_good n Inward widths small few = tt
shown_good n Outward widths small few =
    each_good IsSmall IsGoodPort (λ i w. output (numbered_twice (codes "d_") n i) w)
    (λ i w i_small good. good_port _ w (d_name n i small i_small) good) 0 widths (room_for widths few.0) few.1

need_name : (n j : ℕ) → IsSmall n → IsSmall j → IsGoodName (numbered_twice (codes "n_") n j)
need_name n j one other = twice_name (codes "n_") n j refl refl one other

replay_ports_good : (count : ℕ) → count ≤ MOST_CHANNELS → (n : ℕ) (c : Channel) → IsSmall n → IsFewChannel c
    → AllByRecursion IsGoodPort (replay_ports count n c)
replay_ports_good count limit n c small few = (
  good_bit _ (numbered_name (codes "more_") n refl refl small),
  each_append IsGoodPort (upto (λ j. input (numbered_twice (codes "n_") n j) 32) 0 count) _
      (upto_good IsGoodPort (λ j. input (numbered_twice (codes "n_") n j) 32)
      (λ j j_small. good_port _ 32 (need_name n j small j_small) (omega arith)) 0 count (omega (arith, limit)))
      (each_append IsGoodPort (fed_ports n c.dir c.widths) _ (fed_good n c.dir c.widths small few) (
        good_bit _ (v_name n small),
        (
          good_bit _ (r_name n small),
          (
            good_bit _ (pop_name n small),
            shown_good n c.dir c.widths small few,
          ),
        ),
      )),
)

side_conns_good : (n : ℕ) (dir : Dir) (widths : List ℕ) → IsSmall n → IsFew widths → AllByRecursion IsGoodConn (side_conns n dir widths)
side_conns_good n Inward widths small few =
    let room = room_for widths few.0 in
    each_append IsGoodConn (each (λ i (w : ℕ). conn (numbered (codes "s") i) (numbered_twice (codes "s_") n i)) 0 widths) _
    (each_good IsSmall IsGoodConn (λ i (w : ℕ). conn (numbered (codes "s") i) (numbered_twice (codes "s_") n i))
    (λ i w i_small _. good_conn _ _ (s_name i i_small) (twice_name (codes "s_") n i refl refl small i_small)) 0 widths room few.1) (
      good_conn _ _ kv_name (v_name n small),
      (
        good_conn _ _ kr_name (r_name n small),
        each_good IsSmall IsGoodConn (λ i (w : ℕ). conn (numbered (codes "k") i) (numbered_twice (codes "k_") n i))
            (λ i w i_small _. good_conn _ _ (k_name i i_small) (gated_name n i small i_small)) 0 widths room few.1,
      ),
    )
side_conns_good n Outward widths small few =
    (good_conn _ _ sv_name (v_name n small), (good_conn _ _ sr_name (r_name n small), tt))

replayer_conns_good : (count : ℕ) → count ≤ MOST_CHANNELS → (n : ℕ) (c : Channel) → IsSmall n → IsFewChannel c
    → AllByRecursion IsGoodConn (replayer_conns count n c.dir c.widths)
replayer_conns_good count limit n c small few = (
  good_conn _ _ clk_name clk_name,
  (
    good_conn _ _ more_name (numbered_name (codes "more_") n refl refl small),
    each_append IsGoodConn (upto (λ j. conn (numbered (codes "n") j) (numbered_twice (codes "n_") n j)) 0 count) _
        (upto_good IsGoodConn (λ j. conn (numbered (codes "n") j) (numbered_twice (codes "n_") n j))
        (λ j j_small. good_conn _ _ (n_name j j_small) (need_name n j small j_small)) 0 count (omega (arith, limit)))
        (each_append IsGoodConn (upto (λ j. conn (numbered (codes "d") j) (numbered (codes "pop_") j)) 0 count) _
        (upto_good IsGoodConn (λ j. conn (numbered (codes "d") j) (numbered (codes "pop_") j))
        (λ j j_small. good_conn _ _ (done_name j j_small) (pop_name j j_small)) 0 count (omega (arith, limit)))
        (each_append IsGoodConn (side_conns n c.dir c.widths) _ (side_conns_good n c.dir c.widths small few)
        (good_conn _ _ pop_port (pop_name n small), tt))),
  ),
)

replayer_item_good : (count : ℕ) → count ≤ MOST_CHANNELS → (n : ℕ) (c : Channel) → IsSmall n → IsFewChannel c → IsGoodItem (replayer_item count n c)
replayer_item_good count limit n c small few =
    good_instance _ _ (replayer_conns count n c.dir c.widths) (numbered_name (codes "vidi_q_") n refl refl small)
    (numbered_name (codes "q_") n refl refl small) (replayer_conns_good count limit n c small few)

pub replay_top_good : (m : Map) (ports : List (PortOf ℕ)) → IsFewMap m → IsGoodName m.top → AllByRecursion IsGoodPort ports
    → IsGoodModule (replay_top m ports)
replay_top_good m ports few named good =
    let limit = few.limit in (
      fixed_name replay_name refl refl,
      tt,
      tt,
      some_not_none _,
      (
        good_bit _ clk_name,
        each_append IsGoodPort (tied_ports m ports) _ (tied_ports_good m ports few.ties good)
            (some_good IsFewChannel IsGoodPort (replay_ports (length m.channels)) (replay_ports_good (length m.channels) limit) 0 m.channels
            (omega (arith, limit)) few.channels),
      ),
      each_append IsGoodItem (each_some replay_wires 0 m.channels) _
          (some_good IsFewChannel IsGoodItem replay_wires (λ n c small here. content_wires_good n c.dir c.widths small here) 0 m.channels
          (omega (arith, limit)) few.channels) (
            dut_good (links (codes "v_") (codes "r_") m) m.top ports named (links_good (codes "v_") (codes "r_") m v_name r_name limit few.plugs) good,
            each_good IsFewChannel IsGoodItem (replayer_item (length m.channels)) (replayer_item_good (length m.channels) limit) 0 m.channels
                (omega (arith, limit)) few.channels,
          ),
    )
