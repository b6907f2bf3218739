-- What the drivers and clocked blocks of the flat design name is what their duties and blocks do.
use Rattle.std.proofs.Common.{◌≡◌, ℕ, ◌+◌, ◌==◌, ◌||◌, Bool, true, false, cond, if◌then◌else◌, List, [], ◌∷◌, ◌++◌, map}
use Rattle.std.proofs.Common.{refl, ap, sym, ◌∙◌, append_assoc}
use Rattle.std.specs.List.{AllZip, count_by, flat_map, list_any}
use Rattle.std.proofs.lemmas.List.Sums.{sum_by-append, sum_by-cons}
use Rattle.flat_parts.specs.net_code.BitMap.{is_among}
use Rattle.flat_parts.specs.vidi_bits.Findings.{told_if}
use Rattle.net_design.specs.declared.act.Code.{Code}
use Rattle.net_design.specs.declared.act.Place.{Place}
use Rattle.net_design.specs.declared.act.Place.TheVariants.{Bits as PlaceBits, BitsFrom, Word as PlaceWord, WordFrom}
use Rattle.net_design.specs.declared.design.Driver.{Driver}
use Rattle.net_design.specs.Bits.{place_writes}
use Rattle.flat_parts.specs.net_code.Targets.{block_targets, place_net, place_room, nets_named, rooms_named, bit_count}
use Rattle.flat_parts.specs.net_drive.Drive.{driver_places, wire_places, always_names, block_names, block_count}
use Rattle.flat_parts.specs.vlog_block.Naming.{always_names as of_block}
use Rattle.flat_parts.specs.vlog_driver.Sites.{names_at_site}
use Rattle.flat_parts.specs.vlog_block.Naming.{Naming, place_names}
use Rattle.flat_parts.specs.vlog_driver.Duties.{Duty, Assigns, Settles, Does}
use Rattle.flat_parts.specs.Drivers.{ClockedBlock, IsBlockOf}
use Rattle.flat_drive.specs.Findings.{duty_count, driver_count, settled_names, clocked_names, blocks_name}
use Rattle.flat_drive.specs.Findings.{is_net, is_room, net_blocks, room_blocks}

-- ---- drivers

if_not : (b : Bool) (ps : List Place) → b ≡ false → (if b then [] else ps) ≡ ps
if_not true ps e = absurd cc
if_not false ps e = refl

if_so : (b : Bool) (ps : List Place) → b ≡ true → (if b then [] else ps) ≡ []
if_so true ps e = refl
if_so false ps e = absurd cc

one_driver : (x : Duty) (d : Driver) → Does x d → (m k : ℕ) → bit_count (driver_places d) m k ≡ duty_count m k x
one_driver (Assigns line to target from e) d h m k =
    ap (λ ps. bit_count ps m k) (if_not d.always (block_targets d.code.acts) h.always) ∙ h.count m k
one_driver (Settles p a) d h m k = ap (λ ps. bit_count ps m k) (if_so d.always (block_targets d.code.acts) h.always)

places_counted : (duties : List Duty) (drivers : List Driver) → AllZip Does duties drivers → (m k : ℕ)
    → bit_count (flat_map driver_places drivers) m k ≡ driver_count duties m k
places_counted [] [] h m k = refl
places_counted [] (d ∷ ds) h m k = absurd h
places_counted (x ∷ xs) [] h m k = absurd h
places_counted (x ∷ xs) (d ∷ ds) h m k =
    sum_by-append (λ (p : Place). cond (place_writes p m k) 1 0) (driver_places d) (flat_map driver_places ds)
    ∙ ap (λ n. n + bit_count (flat_map driver_places ds) m k) (one_driver x d h.0 m k)
    ∙ ap (λ n. duty_count m k x + n) (places_counted xs ds h.1 m k)
    ∙ sym (sum_by-cons (duty_count m k) x xs)

pub wires_counted : (duties : List Duty) (drivers : List Driver) → AllZip Does duties drivers → (m k : ℕ)
    → bit_count (wire_places drivers) m k ≡ driver_count duties m k
unfolding wire_places
wires_counted duties drivers h m k = places_counted duties drivers h m k

-- ---- blocks, where lists of numbers are among places as names are

net_among : (m : ℕ) (ps : List Place) → is_among m (flat_map place_net ps) ≡ list_any (is_net m) (place_names ps)
net_among m [] = refl
net_among m (PlaceBits s n ∷ ps) = ap (λ b. (s.net == m) || b) (net_among m ps)
net_among m (BitsFrom s i w ∷ ps) = ap (λ b. (s.net == m) || b) (net_among m ps)
net_among m (PlaceWord r i low w n ∷ ps) = net_among m ps
net_among m (WordFrom r i size j w ∷ ps) = net_among m ps

room_among : (m : ℕ) (ps : List Place) → is_among m (flat_map place_room ps) ≡ list_any (is_room m) (place_names ps)
room_among m [] = refl
room_among m (PlaceBits s n ∷ ps) = room_among m ps
room_among m (BitsFrom s i w ∷ ps) = room_among m ps
room_among m (PlaceWord r i low w n ∷ ps) = ap (λ b. (r.first == m) || b) (room_among m ps)
room_among m (WordFrom r i size j w ∷ ps) = ap (λ b. (r.first == m) || b) (room_among m ps)

module _ (names : List Place → List ℕ) (is_that : ℕ → Naming → Bool)
    (alike : (m : ℕ) (ps : List Place) → is_among m (names ps) ≡ list_any (is_that m) (place_names ps)) where
  abbrev counts : ℕ → List (List Naming) → ℕ
  counts m named = count_by (list_any (is_that m)) named

  among_code : (m : ℕ) (ps : List Place) (ns : List Naming) → place_names ps ≡ ns → is_among m (names ps) ≡ list_any (is_that m) ns
  among_code m ps ns e = alike m ps ∙ ap (list_any (is_that m)) e

  one_block : (m : ℕ) (c : List ℕ) (cs : List (List ℕ)) (n : List Naming) (ns : List (List Naming))
      → is_among m c ≡ list_any (is_that m) n → block_count cs m ≡ counts m ns → block_count (c ∷ cs) m ≡ counts m (n ∷ ns)
  one_block m c cs n ns e h =
      sum_by-cons (λ x. cond (is_among m x) 1 0) c cs
      ∙ ap (λ b. cond b 1 0 + block_count cs m) e
      ∙ ap (λ k. cond (list_any (is_that m) n) 1 0 + k) h
      ∙ sym (sum_by-cons (λ x. cond (list_any (is_that m) x) 1 0) n ns)

  clocked_counted : (m : ℕ) (bs : List ClockedBlock) (cs : List Code) → AllZip IsBlockOf bs cs
      → block_count (map (λ (c : Code). names (block_targets c.acts)) cs) m ≡ counts m (map clocked_names bs)
  clocked_counted m [] [] h = refl
  clocked_counted m [] (c ∷ cs) h = absurd h
  clocked_counted m (b ∷ bs) [] h = absurd h
  clocked_counted m (b ∷ bs) (c ∷ cs) h =
      one_block m (names (block_targets c.acts)) (map (λ (c : Code). names (block_targets c.acts)) cs) (clocked_names b)
      (map clocked_names bs)
      (among_code m (block_targets c.acts) (clocked_names b) h.0.names) (clocked_counted m bs cs h.1)

  told_not : (b : Bool) (n : List ℕ) (cs : List (List ℕ)) → b ≡ false → told_if b n ++ cs ≡ cs
  told_not true n cs e = absurd cc
  told_not false n cs e = refl

  told_so : (b : Bool) (n : List ℕ) (cs : List (List ℕ)) → b ≡ true → told_if b n ++ cs ≡ n ∷ cs
  told_so true n cs e = refl
  told_so false n cs e = absurd cc

  -- an `always @*` more or another driver
  one_duty : (m : ℕ) (x : Duty) (d : Driver) (cs : List (List ℕ)) (ns : List (List Naming)) → Does x d → block_count cs m ≡ counts m ns
      → block_count (always_names names d ++ cs) m ≡ counts m (settled_names x ++ ns)
  one_duty m (Assigns line to target from e) d cs ns h k =
      ap (λ zs. block_count zs m) (told_not d.always (names (block_targets d.code.acts)) cs h.always) ∙ k
  one_duty m (Settles p a) d cs ns h k =
      ap (λ zs. block_count zs m) (told_so d.always (names (block_targets d.code.acts)) cs h.always)
      ∙ one_block m (names (block_targets d.code.acts)) cs (names_at_site p (of_block p.names a)) ns
      (among_code m (block_targets d.code.acts) (names_at_site p (of_block p.names a)) h.names) k

  pub blocks_counted : (m : ℕ) (duties : List Duty) (drivers : List Driver) (bs : List ClockedBlock) (cs : List Code)
      → AllZip Does duties drivers → AllZip IsBlockOf bs cs
      → block_count (block_names names drivers cs) m ≡ counts m (blocks_name duties bs)
  blocks_counted m [] [] bs cs h k = clocked_counted m bs cs k
  blocks_counted m [] (d ∷ ds) bs cs h k = absurd h
  blocks_counted m (x ∷ xs) [] bs cs h k = absurd h
  blocks_counted m (x ∷ xs) (d ∷ ds) bs cs h k =
      ap (λ zs. block_count zs m) (append_assoc (always_names names d) (flat_map (always_names names) ds)
      (map (λ (c : Code). names (block_targets c.acts)) cs))
      ∙ one_duty m x d (block_names names ds cs) (blocks_name xs bs) h.0 (blocks_counted m xs ds bs cs h.1 k)
      ∙ ap (counts m) (sym (append_assoc (settled_names x) (flat_map settled_names xs) (map clocked_names bs)))

pub nets_counted : (m : ℕ) (duties : List Duty) (drivers : List Driver) (bs : List ClockedBlock) (cs : List Code)
    → AllZip Does duties drivers → AllZip IsBlockOf bs cs
    → block_count (block_names nets_named drivers cs) m ≡ net_blocks (blocks_name duties bs) m
unfolding nets_named
nets_counted m duties drivers bs cs h k = blocks_counted (flat_map place_net) is_net net_among m duties drivers bs cs h k

pub rooms_counted : (m : ℕ) (duties : List Duty) (drivers : List Driver) (bs : List ClockedBlock) (cs : List Code)
    → AllZip Does duties drivers → AllZip IsBlockOf bs cs
    → block_count (block_names rooms_named drivers cs) m ≡ room_blocks (blocks_name duties bs) m
unfolding rooms_named
rooms_counted m duties drivers bs cs h k = blocks_counted (flat_map place_room) is_room room_among m duties drivers bs cs h k
