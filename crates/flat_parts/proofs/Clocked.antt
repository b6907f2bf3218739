-- The updates of the design's clocked blocks are those of each instance's, at its seat.
use Rattle.std.proofs.Common.{◌≡◌, ℕ, ◌+◌, ◌≤◌, List, [], ◌∷◌, ◌++◌, map, length, refl, ap, sym, ◌∙◌, arith}
use Rattle.std.specs.List.{flat_map, AllZip, Contains}
use Rattle.std.proofs.lemmas.List.{length-map, append-nil}
use Rattle.std.proofs.lemmas.List.Sums.{sum_by-cons}
use Rattle.vlog_driver.proofs.Words.{length-words}
use Rattle.vlog_tree.specs.Tree.{EventOf, PosedgeEvent, ImplicitEvent, AlwaysOf, ItemOf, WiresItem, DrivenWiresItem}
use Rattle.vlog_tree.specs.Tree.{RegsItem, LocalparamsItem, AssignItem, AlwaysItem, InstanceItem}
use Rattle.vlog_elab.specs.vlog_size.declared.scope.ScopeMemory.{ScopeMemory}
use Rattle.vlog_elab.specs.vlog_size.declared.scope.Scope.{Scope}
use Rattle.vlog_elab.specs.vlog_size.Names.{Readable}
use Rattle.vlog_elab.specs.vlog_size.Table.{Named}
use Rattle.net_design.specs.declared.act.Code.{Code}
use Rattle.net_design.specs.declared.act.Timing.TheVariants.{Nonblocking}
use Rattle.net_design.specs.declared.values.Update.{Update}
use Rattle.net_design.specs.declared.values.Values.{Values}
use Rattle.net_design.specs.Updates.{block_updates}
use Rattle.vlog_driver.specs.net_code.Moved.{moved_update}
use Rattle.vlog_elab.specs.vlog_scope.Scope.{words_of}
use Rattle.vlog_driver.specs.vlog_block.Sources.{words_before}
use Rattle.vlog_driver.specs.vlog_block.Updates.{timing_of, always_updates}
use Rattle.vlog_elab.specs.Instances.{ModuleInstance}
use Rattle.vlog_driver.specs.Names.{Full, numbers_at}
use Rattle.vlog_driver.specs.Placed.{Placed, placed_items, names_at}
use Rattle.vlog_driver.specs.Next.{event_updates, item_updates, clocked_updates}
use Rattle.vlog_driver.proofs.SameHolds.{updated_alike}
use Rattle.vlog_driver.proofs.SameUpdates.{AreIn, body_in, both_in}
use Rattle.vlog_driver.specs.Sites.{numbers_from}
use Rattle.flat_parts.specs.Seats.{Seat, seats_of, site_at}
use Rattle.flat_parts.specs.Drivers.{ClockedBlock, IsBlockOf, event_blocks, item_blocks, placed_blocks, seat_blocks, all_blocks}
use Rattle.flat_parts.specs.Laws.{numbers_of, SeatsStand}
use Rattle.flat_parts.proofs.Joined.{each_of, parts_joined, parts_long, parts_of_parts, map_parts}
use Rattle.flat_parts.proofs.Applied.{AreOwn, moved_own}

-- ---- an instance's own numbers
abbrev pub own_part : (Full → ℕ) → (Full → ℕ → ℕ) → ModuleInstance → Values
own_part nets words i = numbers_at nets words i.path i.scope

all_words : (ms : List (Named ScopeMemory)) → words_before ms (length ms) ≡ words_of ms
all_words [] = refl
all_words (m ∷ ms) =
    ap (λ n. m.value.length + n) (all_words ms) ∙ sym (sum_by-cons (λ (a : Named ScopeMemory). a.value.length) m ms)

same_length : (n m k : ℕ) → n ≡ k → m ≡ k → n ≤ m
same_length n m k h g = omega (arith, h, g)

pub nets_long : (nets : Full → ℕ) (words : Full → ℕ → ℕ) (i : ModuleInstance)
    → length (own_part nets words i).nets ≡ length i.scope.nets
nets_long nets words i = length-map i.scope.nets _

pub words_as_many : (nets : Full → ℕ) (words : Full → ℕ → ℕ) (i : ModuleInstance)
    → length (own_part nets words i).words ≡ words_of i.scope.memories
words_as_many nets words i = parts_long _ (λ (m : Named ScopeMemory). m.value.length) (λ m. length-words _ 0 m.value.length) i.scope.memories

pub own_parts : (nets : Full → ℕ) (words : Full → ℕ → ℕ) → AreOwn (own_part nets words)
own_parts nets words = record {
  nets = nets_long nets words;
  words = words_as_many nets words;
  long = λ i. record {
    nets = same_length (length i.scope.nets) (length (own_part nets words i).nets) (length i.scope.nets) refl (nets_long nets words i);
    words = same_length (words_before i.scope.memories (length i.scope.memories)) (length (own_part nets words i).words)
        (words_of i.scope.memories) (all_words i.scope.memories) (words_as_many nets words i);
  };
}

-- ---- an instance's own updates are of its nets and words
abbrev pub own_updates : (Full → ℕ) → (Full → ℕ → ℕ) → ModuleInstance → List Update
own_updates nets words i = clocked_updates i.tree i.scope (own_part nets words i)

module _ (s : Scope) (v : Values) where
  event_in : (k : ℕ) (e : EventOf ℕ) (a : AlwaysOf ℕ) → AreIn (names_at s k) (event_updates e (names_at s k) a v)
  event_in k (PosedgeEvent clock) a = body_in (names_at s k) (timing_of a.event) a.body v
  event_in k (ImplicitEvent parens) a = tt

  item_in : (k : ℕ) (item : ItemOf ℕ) → AreIn (names_at s k) (item_updates (names_at s k) item v)
  item_in k (WiresItem range ids) = tt
  item_in k (DrivenWiresItem range ws) = tt
  item_in k (RegsItem range gs) = tt
  item_in k (LocalparamsItem range vs) = tt
  item_in k (AssignItem assigns) = tt
  item_in k (AlwaysItem a) = event_in k a.event a
  item_in k (InstanceItem i) = tt

  items_in : (ps : List Placed)
      → AreIn (names_at s 0) (flat_map (λ (p : Placed). item_updates (names_at s p.declared) p.item v) ps)
  items_in [] = tt
  items_in (p ∷ ps) =
      both_in (names_at s 0) (item_updates (names_at s p.declared) p.item v)
      (flat_map (λ (q : Placed). item_updates (names_at s q.declared) q.item v) ps) (item_in p.declared p.item) (items_in ps)

pub updates_in : (nets : Full → ℕ) (words : Full → ℕ → ℕ) (i : ModuleInstance) → AreIn (names_at i.scope 0) (own_updates nets words i)
updates_in nets words i = items_in i.scope (own_part nets words i) (placed_items i.tree i.scope)

-- ---- the blocks
-- the updates of a clocked block of the flat design
abbrev site_updates : Values → ClockedBlock → List Update
site_updates v b = map (moved_update b.site.base.net b.site.base.word) (always_updates b.site.names b.block (numbers_from b.site v))

codes_update : (v : Values) (bs : List ClockedBlock) (cs : List Code) → AllZip IsBlockOf bs cs
    → flat_map (λ (c : Code). block_updates Nonblocking c.acts v) cs ≡ flat_map (site_updates v) bs
codes_update v [] [] h = refl
codes_update v [] (c ∷ cs) h = absurd h
codes_update v (b ∷ bs) [] h = absurd h
codes_update v (b ∷ bs) (c ∷ cs) h =
    ap (λ us. us ++ flat_map (λ (x : Code). block_updates Nonblocking x.acts v) cs) (h.0.updates v)
    ∙ ap (λ us. site_updates v b ++ us) (codes_update v bs cs h.1)

module _ (nets : Full → ℕ) (words : Full → ℕ → ℕ) (is : List ModuleInstance) (stand : SeatsStand) (x : Seat)
    (here : Contains (seats_of is) x) where
  event_there : (k : ℕ) (e : EventOf ℕ) (a : AlwaysOf ℕ)
      → flat_map (site_updates (numbers_of nets words is)) (event_blocks e (site_at x k) a)
      ≡ map (moved_update x.base.net x.base.word) (event_updates e (names_at x.instance.scope k) a (own_part nets words x.instance))
  event_there k (PosedgeEvent clock) a =
      let names : Readable = names_at x.instance.scope k in
      append-nil (site_updates (numbers_of nets words is) (record { site = site_at x k; block = a }))
      ∙ ap (map (moved_update x.base.net x.base.word))
      (updated_alike names (numbers_from (site_at x k) (numbers_of nets words is)) (own_part nets words x.instance) a
      (stand nets words is x k here).numbers)
  event_there k (ImplicitEvent parens) a = refl

  item_there : (k : ℕ) (item : ItemOf ℕ)
      → flat_map (site_updates (numbers_of nets words is)) (item_blocks (site_at x k) item)
      ≡ map (moved_update x.base.net x.base.word) (item_updates (names_at x.instance.scope k) item (own_part nets words x.instance))
  item_there k (WiresItem range ids) = refl
  item_there k (DrivenWiresItem range ws) = refl
  item_there k (RegsItem range gs) = refl
  item_there k (LocalparamsItem range vs) = refl
  item_there k (AssignItem assigns) = refl
  item_there k (AlwaysItem a) = event_there k a.event a
  item_there k (InstanceItem i) = refl

  seat_there : flat_map (site_updates (numbers_of nets words is)) (seat_blocks x) ≡ moved_own (own_updates nets words) x
  unfolding seat_blocks
  seat_there =
      let items : List Placed = placed_items x.instance.tree x.instance.scope in
      let v : Values = numbers_of nets words is in
      parts_of_parts (site_updates v) (placed_blocks x) items
      ∙ parts_joined (λ p. flat_map (site_updates v) (placed_blocks x p))
      (λ p. map (moved_update x.base.net x.base.word) (item_updates (names_at x.instance.scope p.declared) p.item (own_part nets words x.instance)))
      items (each_of _ items (λ p c. item_there p.declared p.item))
      ∙ map_parts (moved_update x.base.net x.base.word)
      (λ p. item_updates (names_at x.instance.scope p.declared) p.item (own_part nets words x.instance)) items

pub clocked_there : (nets : Full → ℕ) (words : Full → ℕ → ℕ) (is : List ModuleInstance) → SeatsStand → (cs : List Code)
    → AllZip IsBlockOf (all_blocks (seats_of is)) cs
    → flat_map (λ (c : Code). block_updates Nonblocking c.acts (numbers_of nets words is)) cs
    ≡ flat_map (moved_own (own_updates nets words)) (seats_of is)
unfolding all_blocks
clocked_there nets words is stand cs h =
    let v : Values = numbers_of nets words is in
    codes_update v (all_blocks (seats_of is)) cs h
    ∙ parts_of_parts (site_updates v) seat_blocks (seats_of is)
    ∙ parts_joined (λ x. flat_map (site_updates v) (seat_blocks x)) (moved_own (own_updates nets words)) (seats_of is)
    (each_of (λ x. flat_map (site_updates v) (seat_blocks x) ≡ moved_own (own_updates nets words) x) (seats_of is)
    (λ x c. seat_there nets words is stand x c))
