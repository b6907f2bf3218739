-- The links of a map of a design: no two pins have the same name, so each is found by its name.
use Rattle.std.proofs.Common.{◌≡◌, ◌≢◌, ℕ, suc, ◌+◌, List, [], ◌∷◌, ◌++◌, map, Option, None, Some, IfSome, refl, sym, ap}
use Rattle.std.proofs.Common.{◌∙◌, subst, arith, inl, inr, slice_get, take, append_assoc}
use Rattle.std.specs.Prelude.{codes, count_by}
use Rattle.std.specs.List.{AllByRecursion, AllZip}
use Rattle.std.specs.Option.{option_to_list}
use Rattle.std.proofs.lemmas.List.{map-append}
use Rattle.net_order.proofs.vidi_bits_lemmas.Each.{each_append}
use Rattle.shim_trees.specs.vlog_size.Table.{Named, value_of}
use Rattle.net_design.specs.declared.design.Design.{Design}
use Rattle.net_design.specs.declared.design.Direction.{Direction}
use Rattle.net_design.specs.declared.design.Direction.TheVariants.{Input}
use Rattle.net_design.specs.declared.design.Port.{Port}
use Rattle.net_design.specs.Settled.{same_direction}
use Rattle.chan_replayer.specs.trace_model.declared.channel.Channel.{Channel}
use Rattle.chan_replayer.specs.trace_model.declared.channel.Dir.{Dir}
use Rattle.chan_replayer.specs.trace_model.declared.channel.Dir.TheVariants.{Inward, Outward}
use Rattle.chan_replayer.specs.chan_map.declared.pins.Map.{Map}
use Rattle.chan_replayer.specs.chan_map.declared.pins.Pin.{Pin}
use Rattle.chan_replayer.specs.chan_map.declared.pins.Plug.{Plug}
use Rattle.chan_replayer.specs.chan_map.declared.pins.Reset.{Reset}
use Rattle.chan_replayer.specs.chan_map.declared.pins.Tie.{Tie}
use Rattle.chan_replayer.specs.chan_map.Ports.{source_side, sink_side}
use Rattle.chan_replayer.specs.chan_map.Bound.{IsPin, IsPlug, IsTie}
use Rattle.chan_replayer.specs.chan_map.Places.{places, plug_places, plugs_places}
use Rattle.chan_replayer.specs.run_model.MapOf.{IsMapOf}
use Rattle.shim_trees.specs.Pieces.{Name, each, each_some, numbered_twice}
use Rattle.shim_trees.specs.Links.{link, tied_link, plug_links, channel_links, links, reset_width, tie_width, held}
use Rattle.flat_parts.proofs.SettledLists.{map_map}
use Rattle.shim_step.proofs.Elements.{Distinct, distinct_from, distinct_front, Has, has_left, has_right, has_map, found, Apart}
use Rattle.shim_step.proofs.Lists.{has_some, in_option}

abbrev names : {V : Type 0} → List (Named V) → List Name
names {V} xs = map (λ (x : Named V). x.name) xs

other_names : {V : Type 0} (x : Name) (ys : List (Named V)) → AllByRecursion (λ y. x ≢ y) (names ys)
    → AllByRecursion (λ (y : Named V). x ≢ y.name) ys
other_names x [] h = tt
other_names x (y ∷ ys) h = (h.0, other_names x ys h.1)

pub apart_names : {V : Type 0} (xs : List (Named V)) → Distinct (names xs) → Apart xs
apart_names [] h = tt
apart_names (x ∷ xs) h = (other_names x.name xs h.0, apart_names xs h.1)

-- ---- the pins of a map with their directions
abbrev Way : Type 0
Way = Direction × Pin

abbrev spot : Way → Direction × ℕ
spot w = (w.0, w.1.place)

abbrev name_of : Way → Name
name_of w = w.1.name

abbrev plug_ways : Dir → Plug → List Way
plug_ways dir plug =
    (source_side dir, plug.valid) ∷ (sink_side dir, plug.ready) ∷ map (λ (p : Pin). (source_side dir, p)) plug.contents

abbrev plugs_ways : List Channel → List Plug → List Way
plugs_ways (x ∷ xs) (plug ∷ plugs) = plug_ways x.dir plug ++ plugs_ways xs plugs
plugs_ways xs plugs = []

abbrev reset_way : Reset → Way
reset_way r = (Input, r.pin)

abbrev tie_way : Tie → Way
tie_way t = (Input, t.pin)

abbrev ways : Map → List Way
ways a = (Input, a.clock) ∷ (map reset_way (option_to_list a.reset) ++ (map tie_way a.ties ++ plugs_ways a.channels a.plugs))

-- their places
plugs_spots : (xs : List Channel) (plugs : List Plug) → map spot (plugs_ways xs plugs) ≡ plugs_places xs plugs
plugs_spots [] plugs = refl
plugs_spots (x ∷ xs) [] = refl
plugs_spots (x ∷ xs) (plug ∷ plugs) =
    map-append spot (plug_ways x.dir plug) (plugs_ways xs plugs)
    ∙ ap (λ ys. ((source_side x.dir, plug.valid.place) ∷ (sink_side x.dir, plug.ready.place) ∷ ys) ++ map spot (plugs_ways xs plugs))
    (map_map spot (λ (p : Pin). (source_side x.dir, p)) plug.contents)
    ∙ ap (λ ys. plug_places x plug ++ ys) (plugs_spots xs plugs)

spots_are : (a : Map) → map spot (ways a) ≡ places a
spots_are a =
    let rs = option_to_list a.reset in
    let rest = map tie_way a.ties ++ plugs_ways a.channels a.plugs in
    ap (λ ys. (Input, a.clock.place) ∷ ys)
    (map-append spot (map reset_way rs) rest
    ∙ ap (λ ys. ys ++ map spot rest) (map_map spot reset_way rs)
    ∙ ap (λ ys. map (λ (r : Reset). (Input, r.pin.place)) rs ++ ys)
    (map-append spot (map tie_way a.ties) (plugs_ways a.channels a.plugs)
    ∙ ap (λ ys. ys ++ map spot (plugs_ways a.channels a.plugs)) (map_map spot tie_way a.ties)
    ∙ ap (λ ys. map (λ (t : Tie). (Input, t.pin.place)) a.ties ++ ys) (plugs_spots a.channels a.plugs)))

-- their names
each_names : (base : Name) (c k : ℕ) (ps : List Pin) → names (each (λ i pin. link pin (numbered_twice base c i)) k ps) ≡ map (λ (p : Pin). p.name) ps
each_names base c k [] = refl
each_names base c k (p ∷ ps) = ap (λ ys. p.name ∷ ys) (each_names base c (k + 1) ps)

module _ (valid ready : Name) where
  plug_names : (c : ℕ) (dir : Dir) (plug : Plug) → names (plug_links valid ready c dir plug) ≡ map name_of (plug_ways dir plug)
  plug_names c Inward plug =
      ap (λ ys. plug.valid.name ∷ plug.ready.name ∷ ys)
      (each_names (codes "k_") c 0 plug.contents ∙ sym (map_map name_of (λ (p : Pin). (source_side Inward, p)) plug.contents))
  plug_names c Outward plug =
      ap (λ ys. plug.valid.name ∷ plug.ready.name ∷ ys)
      (each_names (codes "d_") c 0 plug.contents ∙ sym (map_map name_of (λ (p : Pin). (source_side Outward, p)) plug.contents))

  plugs_names : (d : Design) (all : List Plug) (k : ℕ) (xs : List Channel) (plugs : List Plug) → AllZip (IsPlug d) xs plugs
      → ((i j : ℕ) → j ≡ k + i → slice_get all j ≡ slice_get plugs i)
      → names (each_some (λ n (c : Channel). channel_links valid ready n c.dir (slice_get all n)) k xs) ≡ map name_of (plugs_ways xs plugs)
  plugs_names d all k [] plugs z h = refl
  plugs_names d all k (x ∷ xs) [] z h = absurd z
  plugs_names d all k (x ∷ xs) (plug ∷ plugs) z h =
      let here : slice_get all k ≡ Some plug = h 0 k (omega arith) in
      let f : ℕ → Channel → List (Named Name) = λ n (c : Channel). channel_links valid ready n c.dir (slice_get all n) in
      map-append (λ (y : Named Name). y.name) (f k x) (each_some f (k + 1) xs)
      ∙ ap (λ o. names (channel_links valid ready k x.dir o) ++ names (each_some f (k + 1) xs)) here
      ∙ ap (λ ys. ys ++ names (each_some f (k + 1) xs)) (plug_names k x.dir plug)
      ∙ ap (λ ys. map name_of (plug_ways x.dir plug) ++ ys)
      (plugs_names d all (k + 1) xs plugs z.1 (λ i j e. h (suc i) j (omega (arith, e))))
      ∙ sym (map-append name_of (plug_ways x.dir plug) (plugs_ways xs plugs))

  names_are : (d : Design) (a : Map) → IsMapOf d a → names (links valid ready a) ≡ map name_of (ways a)
  names_are d a is =
      let rs = option_to_list a.reset in
      let f : ℕ → Channel → List (Named Name) = λ n (c : Channel). channel_links valid ready n c.dir (slice_get a.plugs n) in
      let nm : Named Name → Name = λ (y : Named Name). y.name in
      let rest : List (Named Name) = map (λ (t : Tie). tied_link t.pin) a.ties ++ each_some f 0 a.channels in
      ap (λ ys. a.clock.name ∷ ys)
      (map-append nm (map (λ (r : Reset). tied_link r.pin) rs) rest
      ∙ ap (λ ys. ys ++ map nm rest) (map_map nm (λ (r : Reset). tied_link r.pin) rs ∙ sym (map_map name_of reset_way rs))
      ∙ ap (λ ys. map name_of (map reset_way rs) ++ ys)
      (map-append nm (map (λ (t : Tie). tied_link t.pin) a.ties) (each_some f 0 a.channels)
      ∙ ap (λ ys. ys ++ map nm (each_some f 0 a.channels))
      (map_map nm (λ (t : Tie). tied_link t.pin) a.ties ∙ sym (map_map name_of tie_way a.ties))
      ∙ ap (λ ys. map name_of (map tie_way a.ties) ++ ys)
      (plugs_names d a.plugs 0 a.channels a.plugs is.plugs (λ i j e. ap (slice_get a.plugs) (let s : j ≡ i = omega (arith, e) in s)))
      ∙ sym (map-append name_of (map tie_way a.ties) (plugs_ways a.channels a.plugs)))
      ∙ sym (map-append name_of (map reset_way rs) (map tie_way a.ties ++ plugs_ways a.channels a.plugs)))

-- ---- each is a port of the design
abbrev IsWay : Design → Way → Type 0
IsWay d w = (width : ℕ) × IsPin d w.0 width w.1

contents_are_ways : (d : Design) (side : Direction) (ws : List ℕ) (ps : List Pin) → AllZip (λ width pin. IsPin d side width pin) ws ps
    → AllByRecursion (IsWay d) (map (λ (p : Pin). (side, p)) ps)
contents_are_ways d side [] [] z = tt
contents_are_ways d side (w ∷ ws) [] z = absurd z
contents_are_ways d side [] (p ∷ ps) z = absurd z
contents_are_ways d side (w ∷ ws) (p ∷ ps) z = ((w, z.0), contents_are_ways d side ws ps z.1)

plugs_are_ways : (d : Design) (xs : List Channel) (plugs : List Plug) → AllZip (IsPlug d) xs plugs → AllByRecursion (IsWay d) (plugs_ways xs plugs)
plugs_are_ways d [] plugs z = tt
plugs_are_ways d (x ∷ xs) [] z = tt
plugs_are_ways d (x ∷ xs) (plug ∷ plugs) z =
    each_append (IsWay d) (plug_ways x.dir plug) (plugs_ways xs plugs)
    ((1, z.0.valid), ((1, z.0.ready), contents_are_ways d (source_side x.dir) x.widths plug.contents z.0.contents))
    (plugs_are_ways d xs plugs z.1)

reset_is_way : (d : Design) (o : Option Reset) → IfSome o (λ (r : Reset). IsPin d Input 1 r.pin)
    → AllByRecursion (IsWay d) (map reset_way (option_to_list o))
reset_is_way d None h = tt
reset_is_way d (Some r) h = ((1, h), tt)

ties_are_ways : (d : Design) (ts : List Tie) → AllByRecursion (IsTie d) ts → AllByRecursion (IsWay d) (map tie_way ts)
ties_are_ways d [] h = tt
ties_are_ways d (t ∷ ts) h = ((t.width, h.0.pin), ties_are_ways d ts h.1)

all_ways : (d : Design) (a : Map) → IsMapOf d a → AllByRecursion (IsWay d) (ways a)
all_ways d a is = (
  (1, is.clock),
  each_append (IsWay d) (map reset_way (option_to_list a.reset)) (map tie_way a.ties ++ plugs_ways a.channels a.plugs)
      (reset_is_way d a.reset is.reset)
      (each_append (IsWay d) (map tie_way a.ties) (plugs_ways a.channels a.plugs) (ties_are_ways d a.ties is.ties)
      (plugs_are_ways d a.channels a.plugs is.plugs)),
)

-- ---- so the names differ, since the places do and no two ports have the same name
abbrev PortsDiffer : Design → Type 0
PortsDiffer d = (j k : ℕ) (p q : Port) → slice_get d.ports j ≡ Some p → slice_get d.ports k ≡ Some q → p.name ≡ q.name → j ≡ k

same_port : (p q : Port) → Some p ≡ Some q → p ≡ q
same_port p q e = (cc)

module _ (d : Design) (differ : PortsDiffer d) where
  same_spot : (w u : Way) → IsWay d w → IsWay d u → w.1.name ≡ u.1.name → spot w ≡ spot u
  same_spot w u a b e =
      let x = a.1 in
      let y = b.1 in
      let at : x.port ≡ y.port = differ x.port y.port x.p y.p x.at y.at (x.name ∙ e ∙ sym y.name) in
      let one : x.p ≡ y.p = same_port x.p y.p (sym x.at ∙ ap (slice_get d.ports) at ∙ y.at) in
      let way : w.0 ≡ u.0 = sym x.direction_is ∙ ap (λ (p : Port). p.direction) one ∙ y.direction_is in
      let place : w.1.place ≡ u.1.place =
      x.place ∙ ap (λ k. count_by (λ (q : Port). same_direction w.0 q.direction) (take k d.ports)) at
      ∙ ap (λ way. count_by (λ (q : Port). same_direction way q.direction) (take y.port d.ports)) way ∙ sym y.place in
      ap (λ way. (way, w.1.place)) way ∙ ap (λ k. (u.0, k)) place

  others : (w : Way) (us : List Way) → IsWay d w → AllByRecursion (IsWay d) us → AllByRecursion (λ y. spot w ≢ y) (map spot us)
      → AllByRecursion (λ y. name_of w ≢ y) (map name_of us)
  others w [] a h s = tt
  others w (u ∷ us) a h s = ((λ e. s.0 (same_spot w u a h.0 e)), others w us a h.1 s.1)

  names_distinct : (ws : List Way) → AllByRecursion (IsWay d) ws → Distinct (map spot ws) → Distinct (map name_of ws)
  names_distinct [] h s = tt
  names_distinct (w ∷ ws) h s = (others w ws h.0 h.1 s.0, names_distinct ws h.1 s.1)

  module _ (a : Map) (is : IsMapOf d a) where
    ways_distinct : Distinct (map name_of (ways a))
    ways_distinct = names_distinct (ways a) (all_ways d a is) (subst Distinct (sym (spots_are a)) (distinct_from (places a) is.differ))

    pub links_apart : (valid ready : Name) → Apart (links valid ready a)
    links_apart valid ready = apart_names (links valid ready a) (subst Distinct (sym (names_are valid ready d a is)) ways_distinct)

    -- a link is found by its pin's name
    pub linked : (valid ready : Name) (l : Named Name) → Has (links valid ready a) l → value_of (links valid ready a) l.name ≡ Some l.value
    linked valid ready l there = (found (links valid ready a) l (links_apart valid ready) there).value

    -- the widths of the reset and the ties are found too
    held_names : names (held a) ≡ map name_of (map reset_way (option_to_list a.reset) ++ map tie_way a.ties)
    held_names =
        let rs = option_to_list a.reset in
        let nm : Named ℕ → Name = λ (y : Named ℕ). y.name in
        map-append nm (map reset_width rs) (map tie_width a.ties)
        ∙ ap (λ ys. ys ++ map nm (map tie_width a.ties)) (map_map nm reset_width rs ∙ sym (map_map name_of reset_way rs))
        ∙ ap (λ ys. map name_of (map reset_way rs) ++ ys) (map_map nm tie_width a.ties ∙ sym (map_map name_of tie_way a.ties))
        ∙ sym (map-append name_of (map reset_way rs) (map tie_way a.ties))

    held_distinct : Distinct (map name_of (map reset_way (option_to_list a.reset) ++ map tie_way a.ties))
    held_distinct =
        let front = map reset_way (option_to_list a.reset) ++ map tie_way a.ties in
        let rest = plugs_ways a.channels a.plugs in
        distinct_front (map name_of front) (map name_of rest)
        (subst Distinct
        (ap (map name_of) (sym (append_assoc (map reset_way (option_to_list a.reset)) (map tie_way a.ties) rest)) ∙ map-append name_of front rest)
        ways_distinct.1)

    pub width_found : (l : Named ℕ) → Has (held a) l → value_of (held a) l.name ≡ Some l.value
    width_found l there = (found (held a) l (apart_names (held a) (subst Distinct (sym held_names) held_distinct)) there).value

-- ---- what is a link
module _ (valid ready : Name) (a : Map) where
  abbrev resets : List (Named Name)
  resets = map (λ (r : Reset). tied_link r.pin) (option_to_list a.reset)

  abbrev ties : List (Named Name)
  ties = map (λ (t : Tie). tied_link t.pin) a.ties

  abbrev plugged : List (Named Name)
  plugged = each_some (λ n (c : Channel). channel_links valid ready n c.dir (slice_get a.plugs n)) 0 a.channels

  pub clock_link : Has (links valid ready a) (link a.clock (codes "clk"))
  clock_link = inl refl

  pub reset_link : (r : Reset) → a.reset ≡ Some r → Has (links valid ready a) (tied_link r.pin)
  reset_link r e = inr (has_left resets (ties ++ plugged) _ (has_map (λ (r : Reset). tied_link r.pin) (option_to_list a.reset) r (in_option a.reset r e)))

  pub tie_link : (t : Tie) → Has a.ties t → Has (links valid ready a) (tied_link t.pin)
  tie_link t h =
      inr (has_right resets (ties ++ plugged) _ (has_left ties plugged _ (has_map (λ (t : Tie). tied_link t.pin) a.ties t h)))

  pub plug_link : (c : ℕ) (x : Channel) (plug : Plug) → slice_get a.channels c ≡ Some x → slice_get a.plugs c ≡ Some plug → (l : Named Name)
      → Has (plug_links valid ready c x.dir plug) l → Has (links valid ready a) l
  plug_link c x plug at pat l h =
      inr (has_right resets (ties ++ plugged) l (has_right ties plugged l
      (has_some (λ n (y : Channel). channel_links valid ready n y.dir (slice_get a.plugs n)) 0 a.channels c x c l (omega arith) at
      (subst (λ o. Has (channel_links valid ready c x.dir o) l) (sym pat) h))))

pub reset_held : (a : Map) (r : Reset) → a.reset ≡ Some r → Has (held a) (reset_width r)
reset_held a r e =
    has_left (map reset_width (option_to_list a.reset)) (map tie_width a.ties) _
    (has_map reset_width (option_to_list a.reset) r (in_option a.reset r e))

pub tie_held : (a : Map) (t : Tie) → Has a.ties t → Has (held a) (tie_width t)
tie_held a t h =
    has_right (map reset_width (option_to_list a.reset)) (map tie_width a.ties) _ (has_map tie_width a.ties t h)
