-- A table of ports by name grows port by port.
use Rattle.std.proofs.Common.{◌≡◌, ℕ, suc, ◌+◌, ◌<◌, ◌≤◌, Bool, true, false, cond, if◌then◌else◌, nat_eq, List, [], ◌∷◌, ◌++◌, Option}
use Rattle.std.proofs.Common.{Some, None, take, drop, length, get_or, refl, sym, ap, ◌∙◌, arith, drop-cons, length-take}
use Rattle.std.proofs.lemmas.List.{take_more}
use Rattle.std.proofs.lemmas.List.Sums.{sum_by_more}
use Rattle.std.specs.Prelude.{count_by}
use Rattle.std.specs.Cmp.Lexicographic.{pointwise}
use Rattle.std.specs.Map.{lookup}
use Rattle.std.specs.Str.{bytes_eq}
use Rattle.vidi_lines.specs.vidi_bits.Findings.{or_first}
use Rattle.indexmap.specs.IndexMap.{IndexMap, get, get_by, insert_entry}
use Rattle.indexmap.proofs.CallerLemmas.{insert_entry-new}
use Rattle.net_design.specs.declared.design.Port.{Port}
use Rattle.net_design.specs.declared.design.Direction.{Direction}
use Rattle.net_design.specs.declared.design.Direction.TheVariants.{Input, Output}
use Rattle.net_design.specs.Settled.{same_direction}
use Rattle.chan_map.specs.declared.sockets.Socket.{Socket}
use Rattle.chan_map.specs.Ports.{socket, socket_from}
use Rattle.chan_map.proofs.Keys.{Key, same_key}

abbrev pub is_key : List ℕ → Key → Bool
is_key q v = pointwise nat_eq q v.items

lookup_push : (test : Key → Bool) (es : List (Key × Socket)) (v : Key) (s : Socket)
    → lookup test (es ++ (v, s) ∷ []) ≡ or_first (lookup test es) (if test v then Some s else None)
lookup_push test [] v s = refl
lookup_push test (e ∷ es) v s = ap (λ rest. cond (test e.0) (Some e.1) rest) (lookup_push test es v s) ∙ cond_else (test e.0) e.1
    (lookup test es) _
  where
    cond_else : (b : Bool) (x : Socket) (y z : Option Socket) → cond b (Some x) (or_first y z) ≡ or_first (cond b (Some x) y) z
    cond_else true x y z = refl
    cond_else false x y z = refl

pub grown : {S : Type 0} (m : IndexMap Key Socket S) (new : List (Key × Socket)) (v : Key) (s : Socket) (name q : List ℕ) → v.items ≡ name
    → get_by (is_key name) m ≡ None → new ≡ insert_entry same_key m.entries v s
    → lookup (is_key q) new ≡ or_first (get_by (is_key q) m) (if bytes_eq q name then Some s else None)
grown m new v s name q is absent inserted =
    let none : get same_key m v ≡ None = ap (λ n. get_by (is_key n) m) is ∙ absent in
    ap (lookup (is_key q)) (inserted ∙ insert_entry-new same_key m v s none) ∙ lookup_push (is_key q) m.entries v s
    ∙ ap (λ n. or_first (get_by (is_key q) m) (if bytes_eq q n then Some s else None)) is

pub counted : (d : Direction) (ports : List Port) (i n : ℕ) (p : Port) → i < length ports → p ≡ get_or ports i p
    → n ≡ count_by (λ (q : Port). same_direction d q.direction) (take i ports)
    → n + (if same_direction d p.direction then 1 else 0) ≡ count_by (λ (q : Port). same_direction d q.direction) (take (i + 1) ports)
counted d ports i n p within at is =
    ap (λ k. k + (if same_direction d p.direction then 1 else 0)) is
    ∙ ap (λ (x : Port). count_by (λ (q : Port). same_direction d q.direction) (take i ports) +
    (if same_direction d x.direction then 1 else 0)) at
    ∙ sym (sum_by_more (λ (q : Port). cond (same_direction d q.direction) 1 0) ports i p within)

same_place : (d : Direction) (before : List Port) (inputs outputs : ℕ)
    → inputs ≡ count_by (λ (q : Port). same_direction Input q.direction) before
    → outputs ≡ count_by (λ (q : Port). same_direction Output q.direction) before
    → (if same_direction Input d then inputs else outputs) ≡ count_by (λ (q : Port). same_direction d q.direction) before
same_place Input before inputs outputs i o = i
same_place Output before inputs outputs i o = o

found_at : (old rest whole : Option Socket) (b : Bool) (s : Socket) → or_first old (if b then Some s else rest) ≡ whole
    → or_first (or_first old (if b then Some s else None)) rest ≡ whole
found_at None rest whole true s e = e
found_at None rest whole false s e = e
found_at (Some t) rest whole b s e = e

length_front : (ports : List Port) (i : ℕ) → i < length ports → length (take i ports) ≡ i
length_front ports i within = omega (arith, length-take i ports)

same_socket : (before : List Port) (p : Port) (i place : ℕ) → length before ≡ i
    → place ≡ count_by (λ (r : Port). same_direction p.direction r.direction) before
    → socket before p ≡ record { port = i; direction = p.direction; place = place; width = p.width }
same_socket before p i place long is =
    ap (λ k. record {
      port = k;
      direction = p.direction;
      place = count_by
          (λ (r : Port). same_direction p.direction r.direction) before;
      width = p.width;
    }) long
    ∙ ap (λ k. record { port = i; direction = p.direction; place = k; width = p.width }) (sym is)

pub place_counted : (ports : List Port) (i inputs outputs place : ℕ) (d : Direction)
    → inputs ≡ count_by (λ (q : Port). same_direction Input q.direction) (take i ports)
    → outputs ≡ count_by (λ (q : Port). same_direction Output q.direction) (take i ports)
    → place ≡ (if same_direction Input d then inputs else outputs)
    → place ≡ count_by (λ (q : Port). same_direction d q.direction) (take i ports)
place_counted ports i inputs outputs place d ins outs is = is ∙ same_place d (take i ports) inputs outputs ins outs

pub next_found : (ports : List Port) (i place : ℕ) (p : Port) (q : List ℕ) (old new whole : Option Socket) → i < length ports
    → p ≡ get_or ports i p
    → place ≡ count_by (λ (r : Port). same_direction p.direction r.direction) (take i ports)
    → or_first old (socket_from (take i ports) (drop i ports) q) ≡ whole
    → new ≡ or_first old (if bytes_eq q p.name then Some record { port = i; direction = p.direction; place = place; width = p.width }
    else None)
    → or_first new (socket_from (take (i + 1) ports) (drop (i + 1) ports) q) ≡ whole
next_found ports i place p q old new whole within at is so_far grew =
    let here : Socket = record { port = i; direction = p.direction; place = place; width = p.width } in
    let after : suc i ≡ i + 1 = omega arith in
    let split : drop i ports ≡ p ∷ drop (i + 1) ports =
    drop-cons ports i p within ∙ ap (λ (x : Port). x ∷ drop (suc i) ports) (sym at) ∙ ap (λ k. p ∷ drop k ports) after in
    let front : take i ports ++ p ∷ [] ≡ take (i + 1) ports = ap (λ (x : Port). take i ports ++ x ∷ []) at ∙ sym
    (take_more ports i p within) in
    let long : length (take i ports) ≡ i = length_front ports i within in
    let same : socket (take i ports) p ≡ here = same_socket (take i ports) p i place long is in
    let step : socket_from (take i ports) (drop i ports) q ≡
    (if bytes_eq q p.name then Some here else socket_from (take (i + 1) ports) (drop (i + 1) ports) q) =
    ap (λ rest. socket_from (take i ports) rest q) split
    ∙ ap (λ (x : Socket). if bytes_eq q p.name then Some x else socket_from (take i ports ++ p ∷ []) (drop (i + 1) ports) q) same
    ∙ ap (λ before. if bytes_eq q p.name then Some here else socket_from before (drop (i + 1) ports) q) front in
    ap (λ o. or_first o (socket_from (take (i + 1) ports) (drop (i + 1) ports) q)) grew
    ∙ found_at old (socket_from (take (i + 1) ports) (drop (i + 1) ports) q) whole (bytes_eq q p.name) here
    (ap (or_first old) (sym step) ∙ so_far)

pub one_more : (b : Bool) (n m i : ℕ) → m ≡ (if b then 1 else 0) → n ≤ i → n + m ≤ i + 1
one_more true n m i e le = omega arith
one_more false n m i e le = omega arith
