-- The pins of lines that fit: each port as often as it is named.
use Rattle.std.proofs.Common.{◌≡◌, ℕ, ◌+◌, ◌<◌, ◌≤◌, ◌||◌, Bool, true, false, List, [], ◌∷◌, ◌++◌, map, Some, None, length, refl, sym, ap}
use Rattle.std.proofs.Common.{◌∙◌, arith, inl, inr}
use Rattle.std.specs.Prelude.{count_by}
use Rattle.std.specs.List.{flat_map, list_all, list_any}
use Rattle.std.specs.Option.{option_to_list}
use Rattle.std.proofs.lemmas.Bool.{cases_lt, or_right}
use Rattle.std.proofs.lemmas.List.Sums.{sum_by-append}
use Rattle.vidi_lines.proofs.vidi_bits_lemmas.Bools.{left_of, right_of}
use Rattle.trace_model.proofs.RowLaws.{flag}
use Rattle.trace_model.specs.declared.channel.Channel.{Channel as Row}
use Rattle.net_design.specs.declared.design.Port.{Port}
use Rattle.net_design.specs.declared.design.Direction.{Direction}
use Rattle.net_design.specs.declared.design.Direction.TheVariants.{Input, Output}
use Rattle.net_design.specs.declared.design.Design.{Design}
use Rattle.net_design.specs.Settled.{same_direction}
use Rattle.chan_map.specs.declared.map_text.Entry.{Entry}
use Rattle.chan_map.specs.declared.map_text.Entry.TheVariants.{Top, Clock, Tie, Reset, Ignore, Channel}
use Rattle.chan_map.specs.declared.map_text.MapLine.{MapLine}
use Rattle.chan_map.specs.declared.pins.Pin.{Pin}
use Rattle.chan_map.specs.declared.pins.Plug.{Plug}
use Rattle.chan_map.specs.declared.pins.Tie.{Tie as TieOf}
use Rattle.chan_map.specs.declared.pins.Reset.{Reset as ResetOf}
use Rattle.chan_map.specs.Follow.{entries, clock_name, is_reset, may_follow, follow}
use Rattle.chan_map.specs.Ports.{socket_named, is_pin, source_side, sink_side, line_fits, names_of, is_port, times}
use Rattle.chan_map.specs.Reasons.{all_names}
use Rattle.chan_map.specs.Bound.{place_of, pin_named, rows_of, plugs_of, ties_of, resets_of, later, table_of}
use Rattle.chan_map.specs.Places.{is_at, reset_places, tie_places, plugs_places}
use Rattle.chan_map.proofs.Found.{bit_pin, tied_pin}
use Rattle.chan_map.proofs.Fitting.{Fits}
use Rattle.chan_map.proofs.Tabled.{follows_told}
use Rattle.chan_map.proofs.Places.{Hits, standing, hits_in, hits_out, times_out, count_cons, inside}

-- the places of the ports with these names
abbrev pub named_places : List Port → Direction → List (List ℕ) → List (Direction × ℕ)
named_places ports side names = map (λ name. (side, place_of (socket_named ports name))) names

-- the names of outputs that are passed over
abbrev pub ignored : Entry → List (List ℕ)
ignored (Ignore port) = port ∷ []
ignored entry = []

-- ---- how often a port is one of the pins that lines add

counted : (ports : List Port) (way : Direction) (place k : ℕ) → Hits ports way place k → (side : Direction) (name : List ℕ)
    → is_pin side (socket_named ports name) ≡ true
    → flag (is_at way place (side, place_of (socket_named ports name))) ≡ flag (is_port k (socket_named ports name))
counted ports way place k hits side name pin = ap (λ b. flag b) (hits side name pin)

-- a pin in front on one side, and its name on the other
front : {A B : Type 0} (f : A → Bool) (g : B → Bool) (x : A) (y : B) (xs : List A) (ys : List B) (n : ℕ) → flag (f x) ≡ flag (g y)
    → count_by f xs + n ≡ count_by g ys → count_by f (x ∷ xs) + n ≡ count_by g (y ∷ ys)
front f g x y xs ys n e h = omega (arith, count_cons f x xs, count_cons g y ys, e, h)

abbrev others : List Port → Direction → ℕ → List (List ℕ) → List ResetOf → List TieOf → List (List ℕ) → ℕ
others ports way place clocks resets ties passed =
    count_by (is_at way place) (named_places ports Input clocks) + (count_by (is_at way place) (reset_places resets)
    + (count_by (is_at way place) (tie_places ties) + count_by (is_at way place) (named_places ports Output passed)))

contents_counted : (ports : List Port) (way : Direction) (place k : ℕ) → Hits ports way place k → (side : Direction) (names : List (List ℕ))
    → list_all (λ name. is_pin side (socket_named ports name)) names ≡ true → (rest : List (Direction × ℕ)) (words : List (List ℕ)) (n : ℕ)
    → count_by (is_at way place) rest + n ≡ times ports words k
    → count_by (is_at way place) (map (λ (p : Pin). (side, p.place)) (map (pin_named ports) names) ++ rest) + n ≡ times ports
    (names ++ words) k
contents_counted ports way place k hits side [] e rest words n h = h
contents_counted ports way place k hits side (name ∷ names) e rest words n h =
    front (is_at way place) (λ x. is_port k (socket_named ports x)) (side, place_of (socket_named ports name)) name
    (map (λ (p : Pin). (side, p.place)) (map (pin_named ports) names) ++ rest) (names ++ words) n
    (counted ports way place k hits side name (left_of _ _ e))
    (contents_counted ports way place k hits side names (right_of _ _ e) rest words n h)

line_counted : (d : Design) (way : Direction) (place k : ℕ) → Hits d.ports way place k → (entry : Entry) → line_fits d entry ≡ true
    → (clocks : List (List ℕ)) (resets : List ResetOf) (ties : List TieOf) (passed : List (List ℕ)) (rows : List Row)
    (plugs : List Plug) (words : List (List ℕ))
    → count_by (is_at way place) (plugs_places rows plugs) + others d.ports way place clocks resets ties passed ≡ times d.ports words k
    → count_by (is_at way place) (plugs_places (rows_of d.ports entry ++ rows) (plugs_of d.ports entry ++ plugs))
    + others d.ports way place (clock_name entry ++ clocks) (resets_of d.ports entry ++ resets) (ties_of d.ports entry ++ ties)
    (ignored entry ++ passed)
    ≡ times d.ports (names_of entry ++ words) k
line_counted d way place k hits (Top name) e clocks resets ties passed rows plugs words h = h
line_counted d way place k hits (Clock port) e clocks resets ties passed rows plugs words h =
    let one = counted d.ports way place k hits Input port (bit_pin Input (socket_named d.ports port) (left_of _ _ e)).0 in
    omega (
      arith,
      h,
      one,
      count_cons (is_at way place) (Input, place_of (socket_named d.ports port)) (named_places d.ports Input clocks),
      count_cons (λ x. is_port k (socket_named d.ports x)) port words,
    )
line_counted d way place k hits (Tie port number) e clocks resets ties passed rows plugs words h =
    let one = counted d.ports way place k hits Input port (tied_pin number (socket_named d.ports port) e).0 in
    omega (
      arith,
      h,
      one,
      count_cons (is_at way place) (Input, place_of (socket_named d.ports port)) (tie_places ties),
      count_cons (λ x. is_port k (socket_named d.ports x)) port words,
    )
line_counted d way place k hits (Reset port active cycles) e clocks resets ties passed rows plugs words h =
    let one = counted d.ports way place k hits Input port (bit_pin Input (socket_named d.ports port) e).0 in
    omega (
      arith,
      h,
      one,
      count_cons (is_at way place) (Input, place_of (socket_named d.ports port)) (reset_places resets),
      count_cons (λ x. is_port k (socket_named d.ports x)) port words,
    )
line_counted d way place k hits (Ignore port) e clocks resets ties passed rows plugs words h =
    let one = counted d.ports way place k hits Output port e in
    omega (
      arith,
      h,
      one,
      count_cons (is_at way place) (Output, place_of (socket_named d.ports port)) (named_places d.ports Output passed),
      count_cons (λ x. is_port k (socket_named d.ports x)) port words,
    )
line_counted d way place k hits (Channel c) e clocks resets ties passed rows plugs words h =
    let test = is_at way place in
    let name_test : List ℕ → Bool = λ x. is_port k (socket_named d.ports x) in
    let contents = map (λ (p : Pin). (source_side c.dir, p.place)) (map (pin_named d.ports) c.contents) ++ plugs_places rows plugs in
    let ready : Direction × ℕ = (sink_side c.dir, place_of (socket_named d.ports c.ready)) in
    let n = others d.ports way place clocks resets ties passed in
    let inner = contents_counted d.ports way place k hits (source_side c.dir) c.contents (right_of _ _ (right_of _ _ e))
    (plugs_places rows plugs) words n h in
    front test name_test (source_side c.dir, place_of (socket_named d.ports c.valid)) c.valid (ready ∷ contents)
    (c.ready ∷ (c.contents ++ words)) n
    (counted d.ports way place k hits (source_side c.dir) c.valid
    (bit_pin (source_side c.dir) (socket_named d.ports c.valid) (left_of _ _ e)).0)
    (front test name_test ready c.ready contents (c.contents ++ words) n
    (counted d.ports way place k hits (sink_side c.dir) c.ready
    (bit_pin (sink_side c.dir) (socket_named d.ports c.ready) (left_of _ _ (right_of _ _ e))).0) inner)

abbrev passed_of : List MapLine → List (List ℕ)
passed_of lines = flat_map (λ (l : MapLine). ignored l.entry) lines

abbrev pub resets_in : Design → List MapLine → List ResetOf
resets_in d lines = flat_map (λ (l : MapLine). resets_of d.ports l.entry) lines

abbrev pub ties_in : Design → List MapLine → List TieOf
ties_in d lines = flat_map (λ (l : MapLine). ties_of d.ports l.entry) lines

abbrev pub plugs_in : Design → List MapLine → List Plug
plugs_in d lines = flat_map (λ (l : MapLine). plugs_of d.ports l.entry) lines

lines_counted : (d : Design) (way : Direction) (place k : ℕ) → Hits d.ports way place k → (lines : List MapLine) → Fits d lines
    → count_by (is_at way place) (plugs_places (table_of d lines) (plugs_in d lines))
    + others d.ports way place (flat_map clock_name (entries lines)) (resets_in d lines) (ties_in d lines) (passed_of lines)
    ≡ times d.ports (all_names lines) k
lines_counted d way place k hits [] fits = refl
lines_counted d way place k hits (l ∷ lines) fits =
    line_counted d way place k hits l.entry fits.0 (flat_map clock_name (entries lines)) (resets_in d lines) (ties_in d lines)
    (passed_of lines) (table_of d lines) (plugs_in d lines)
    (all_names lines) (lines_counted d way place k hits lines fits.1)

-- ---- the pins of the whole map

-- in the order of `places`
abbrev pub all_places : Design → List MapLine → List ℕ → List (Direction × ℕ)
all_places d lines clock =
    (Input, place_of (socket_named d.ports clock)) ∷
    (reset_places (resets_in d lines) ++ (tie_places (ties_in d lines) ++ plugs_places (table_of d lines) (plugs_in d lines)))

count_append : {A : Type 0} (p : A → Bool) (xs ys : List A) → count_by p (xs ++ ys) ≡ count_by p xs + count_by p ys
count_append p xs ys = sum_by-append (λ x. flag (p x)) xs ys

all_counted : (d : Design) (way : Direction) (place k : ℕ) → Hits d.ports way place k → (lines : List MapLine) → Fits d lines
    → (clock : List ℕ) → flat_map clock_name (entries lines) ≡ clock ∷ []
    → count_by (is_at way place) (all_places d lines clock) + count_by (is_at way place) (named_places d.ports Output (passed_of lines))
    ≡ times d.ports (all_names lines) k
all_counted d way place k hits lines fits clock is =
    let test = is_at way place in
    let rest = plugs_places (table_of d lines) (plugs_in d lines) in
    let ties = tie_places (ties_in d lines) in
    let resets = reset_places (resets_in d lines) in
    let first : Direction × ℕ = (Input, place_of (socket_named d.ports clock)) in
    let clocks : count_by test (named_places d.ports Input (flat_map clock_name (entries lines))) ≡ count_by test (first ∷ []) =
    ap (λ names. count_by test (named_places d.ports Input names)) is in
    omega (
      arith,
      lines_counted d way place k hits lines fits,
      clocks,
      count_cons test first [],
      count_cons test first (resets ++ (ties ++ rest)),
      count_append test resets (ties ++ rest),
      count_append test ties rest,
    )

-- an output that is passed over is no input
no_input : (ports : List Port) (place : ℕ) (names : List (List ℕ)) → count_by (is_at Input place) (named_places ports Output names) ≡ 0
no_input ports place [] = refl
no_input ports place (name ∷ names) =
    let off : flag (is_at Input place (Output, place_of (socket_named ports name))) ≡ 0 = refl in
    omega (
      arith,
      count_cons (is_at Input place) (Output, place_of (socket_named ports name))
          (named_places ports Output names),
      off,
      no_input ports place names,
    )

pub covered : (d : Design) (lines : List MapLine) → Fits d lines → (clock : List ℕ) → flat_map clock_name (entries lines) ≡ clock ∷ []
    → ((k : ℕ) → k < length d.ports → times d.ports (all_names lines) k ≡ 1)
    → (place : ℕ) → place < count_by (λ (q : Port). same_direction Input q.direction) d.ports
    → count_by (is_at Input place) (all_places d lines clock) ≡ 1
covered d lines fits clock is once place within =
    let s = standing (λ (q : Port). same_direction Input q.direction) d.ports place within in
    omega (
      arith,
      all_counted d Input place s.port (hits_in d.ports Input place s) lines fits clock is,
      no_input d.ports place (passed_of lines),
      once s.port (inside d.ports s.port s.p s.at),
    )

pub few : (d : Design) (lines : List MapLine) → Fits d lines → (clock : List ℕ) → flat_map clock_name (entries lines) ≡ clock ∷ []
    → ((k : ℕ) → k < length d.ports → times d.ports (all_names lines) k ≡ 1)
    → (way : Direction) (place : ℕ) → count_by (is_at way place) (all_places d lines clock) ≤ 1
few d lines fits clock is once way place =
    elim (cases_lt place (count_by (λ (q : Port). same_direction way q.direction) d.ports)) [
      | inl w ↦
          let s = standing (λ (q : Port). same_direction way q.direction) d.ports place w in
          omega (
            arith,
            all_counted d way place s.port (hits_in d.ports way place s) lines fits clock is,
            once s.port
                (inside d.ports s.port s.p s.at),
          )
      | inr w ↦ omega (
        arith,
        all_counted d way place (length d.ports)
            (hits_out d.ports way place w) lines fits clock is,
        times_out d.ports (all_names lines),
      )
    ]

-- ---- the one reset

or_more : (b c e : Bool) → (c ≡ true → e ≡ true) → (b || c) ≡ true → (b || e) ≡ true
or_more true c e more h = refl
or_more false c e more h = more h

any_front : (f : Entry → Bool) (xs : List Entry) (x : Entry) → list_any f xs ≡ true → list_any f (xs ++ x ∷ []) ≡ true
any_front f [] x e = let off : false ≡ true = e in absurd (cc)
any_front f (y ∷ xs) x e = or_more (f y) (list_any f xs) (list_any f (xs ++ x ∷ [])) (any_front f xs x) e

any_last : (f : Entry → Bool) (xs : List Entry) (x : Entry) → f x ≡ true → list_any f (xs ++ x ∷ []) ≡ true
any_last f [] x e = ap (λ b. b || false) e
any_last f (y ∷ xs) x e = or_right (f y) (list_any f (xs ++ x ∷ [])) (any_last f xs x e)

none_more : (d : Design) (entry : Entry) (before : List Entry) (rest : List ResetOf) → list_any is_reset before ≡ true
    → may_follow before entry ≡ true → rest ≡ []
    → resets_of d.ports entry ++ rest ≡ []
none_more d (Top name) before rest there m e = e
none_more d (Clock port) before rest there m e = e
none_more d (Tie port number) before rest there m e = e
none_more d (Reset port active cycles) before rest there m e =
    let no : list_any is_reset before ≡ false = follows_told before (Reset port active cycles) refl m in
    let off : true ≡ false = sym there ∙ no in absurd (cc)
none_more d (Ignore port) before rest there m e = e
none_more d (Channel c) before rest there m e = e

no_more : (d : Design) (before : List Entry) (lines : List MapLine) → list_any is_reset before ≡ true
    → follow before (entries lines) ≡ true → resets_in d lines ≡ []
no_more d before [] there f = refl
no_more d before (l ∷ lines) there f =
    none_more d l.entry before (resets_in d lines) there (left_of (may_follow before l.entry) _ f)
    (no_more d (before ++ l.entry ∷ []) lines (any_front is_reset before l.entry there) (right_of (may_follow before l.entry) _ f))

first_one : (d : Design) (entry : Entry) (before : List Entry) (lines : List MapLine) → follow (before ++ entry ∷ []) (entries lines) ≡ true
    → option_to_list (later None (resets_in d lines)) ≡ resets_in d lines
    → option_to_list (later None (resets_of d.ports entry ++ resets_in d lines)) ≡ resets_of d.ports entry ++ resets_in d lines
first_one d (Top name) before lines f e = e
first_one d (Clock port) before lines f e = e
first_one d (Tie port number) before lines f e = e
first_one d (Reset port active cycles) before lines f e =
    let r : ResetOf = record { pin = pin_named d.ports port; active = active; cycles = cycles } in
    ap (λ rest. option_to_list (later (Some r) rest)) none ∙ ap (λ rest. r ∷ rest) (sym none)
  where
    none : resets_in d lines ≡ []
    none = no_more d (before ++ Reset port active cycles ∷ []) lines (any_last is_reset before (Reset port active cycles) refl) f
first_one d (Ignore port) before lines f e = e
first_one d (Channel c) before lines f e = e

one_reset_behind : (d : Design) (before : List Entry) (lines : List MapLine) → follow before (entries lines) ≡ true
    → option_to_list (later None (resets_in d lines)) ≡ resets_in d lines
one_reset_behind d before [] f = refl
one_reset_behind d before (l ∷ lines) f =
    let rest = right_of (may_follow before l.entry) _ f in
    first_one d l.entry before lines rest (one_reset_behind d (before ++ l.entry ∷ []) lines rest)

pub one_reset : (d : Design) (lines : List MapLine) → follow [] (entries lines) ≡ true
    → option_to_list (later None (flat_map (λ (l : MapLine). resets_of d.ports l.entry) lines)) ≡ flat_map
    (λ (l : MapLine). resets_of d.ports l.entry) lines
one_reset d lines f = one_reset_behind d [] lines f
