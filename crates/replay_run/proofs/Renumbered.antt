-- What is held back of an epoch and waited for in it is that of the first epoch, but for the number of the epoch.
use Rattle.std.proofs.Common.{◌≡◌, ℕ, ◌==◌, ◌&&◌, ◌||◌, Bool, true, false, cond, not, List, [], ◌∷◌, ◌++◌, Option, None, Some, length, map, refl}
use Rattle.std.proofs.Common.{sym, ap, ◌∙◌, eq-eqb}
use Rattle.std.specs.Prelude.{is_some}
use Rattle.std.specs.List.{enumerate_from, filter, flat_map, list_any}
use Rattle.std.proofs.lemmas.List.{map-append}
use Rattle.trace_code.specs.trace_model.declared.channel.Channel.{Channel}
use Rattle.trace_code.specs.trace_model.declared.channel.Dir.{Dir}
use Rattle.trace_code.specs.trace_model.declared.channel.Dir.TheVariants.{Inward, Outward}
use Rattle.trace_code.specs.trace_model.declared.event.Event.{Event}
use Rattle.trace_code.specs.trace_model.declared.event.Kind.TheVariants.{Start, End}
use Rattle.trace_code.specs.trace_model.declared.packet.Packet.{Packet}
use Rattle.trace_code.specs.trace_model.declared.row.Row.{Row}
use Rattle.trace_code.specs.trace_model.Clock.{clock}
use Rattle.trace_code.specs.trace_model.Recording.{shown}
use Rattle.run_stage.specs.run_model.declared.held.Await.{Await}
use Rattle.run_stage.specs.run_model.declared.held.Held.{Held}
use Rattle.run_stage.specs.run_model.Held.{awaits, controlled_in, event_in, flies, held_at, held_event, held_if, held_in, is_held, next_event_in}
use Rattle.run_stage.specs.run_model.Held.{packet_place, recorded_next_in, same_event, same_kind, waits_in}
use Rattle.run_stage.specs.run_model.Replay.{done}

-- the same event of this epoch
abbrev pub numbered : ℕ → Event → Event
numbered e x = record { channel = x.channel; kind = x.kind; index = x.index; epoch = e }

abbrev pub held-numbered : ℕ → Held → Held
held-numbered e h = record { event = numbered e h.event; awaits = h.awaits }

-- ---- lists
flat_map-as : {X A B : Type 0} (f : X → List B) (g : X → List A) (r : A → B) → ((x : X) → f x ≡ map r (g x)) → (xs : List X)
    → flat_map f xs ≡ map r (flat_map g xs)
flat_map-as f g r same [] = refl
flat_map-as f g r same (x ∷ xs) =
    ap (λ ys. ys ++ flat_map f xs) (same x) ∙ ap (λ ys. map r (g x) ++ ys) (flat_map-as f g r same xs) ∙ sym (map-append r (g x) (flat_map g xs))

flat_map-both : {X A : Type 0} (f : X → List A) (q : X → X) (r : A → A) → ((x : X) → f (q x) ≡ map r (f x)) → (xs : List X)
    → flat_map f (map q xs) ≡ map r (flat_map f xs)
flat_map-both f q r same [] = refl
flat_map-both f q r same (x ∷ xs) =
    ap (λ ys. ys ++ flat_map f (map q xs)) (same x) ∙ ap (λ ys. map r (f x) ++ ys) (flat_map-both f q r same xs)
    ∙ sym (map-append r (f x) (flat_map f xs))

filter-as : {A B : Type 0} (P : B → Bool) (Q : A → Bool) (r : A → B) → ((x : A) → P (r x) ≡ Q x) → (xs : List A)
    → filter P (map r xs) ≡ map r (filter Q xs)
filter-as P Q r same [] = refl
filter-as P Q r same (x ∷ xs) =
    ap (λ b. cond b (r x ∷ filter P (map r xs)) (filter P (map r xs))) (same x)
    ∙ ap (λ ys. cond (Q x) (r x ∷ ys) ys) (filter-as P Q r same xs) ∙ one (Q x) (filter Q xs)
  where
    one : (b : Bool) (ys : List _) → cond b (r x ∷ map r ys) (map r ys) ≡ map r (cond b (x ∷ ys) ys)
    one true ys = refl
    one false ys = refl

map-twice : (e : ℕ) (xs : List Event) → map (numbered e) (map (numbered 0) xs) ≡ map (numbered e) xs
map-twice e [] = refl
map-twice e (x ∷ xs) = ap (λ ys. numbered e x ∷ ys) (map-twice e xs)

-- ---- what is held back
held-if : (e : ℕ) (x : Event) (list : List Await) → held_if (numbered e x) list ≡ map (held-numbered e) (held_if x list)
held-if e x [] = refl
held-if e x (a ∷ list) = refl

module _ (channels : List Channel) (packets : List Packet) (rows : List Row) where
  held-at : (e : ℕ) (x : Event) (place : Option ℕ)
      → held_at channels packets rows (numbered e x) place ≡ map (held-numbered e) (held_at channels packets rows x place)
  held-at e x None = refl
  held-at e x (Some p) = held-if e x (awaits channels (done rows) (clock packets p))

  controlled-as : (e c : ℕ) (dir : Dir) → controlled_in e rows c dir ≡ map (numbered e) (controlled_in 0 rows c dir)
  controlled-as e c Inward = one (flies rows c)
    where
      one : (b : Bool) → cond b [] (event_in e c Start (shown Start c rows) ∷ [])
          ≡ map (numbered e) (cond b [] (event_in 0 c Start (shown Start c rows) ∷ []))
      one true = refl
      one false = refl
  controlled-as e c Outward = refl

  held-of : (e : ℕ) (c : ℕ × Channel) → flat_map (held_event channels packets rows) (controlled_in e rows c.0 c.1.dir)
      ≡ map (held-numbered e) (flat_map (held_event channels packets rows) (controlled_in 0 rows c.0 c.1.dir))
  held-of e c = ap (flat_map (held_event channels packets rows)) (controlled-as e c.0 c.1.dir)
      ∙ flat_map-both (held_event channels packets rows) (numbered e) (held-numbered e) (λ x. held-at e x (packet_place packets x))
      (controlled_in 0 rows c.0 c.1.dir)

  pub held-in : (e : ℕ) → held_in e channels packets rows ≡ map (held-numbered e) (held_in 0 channels packets rows)
  held-in e = flat_map-as (λ (c : ℕ × Channel). flat_map (held_event channels packets rows) (controlled_in e rows c.0 c.1.dir))
      (λ (c : ℕ × Channel). flat_map (held_event channels packets rows) (controlled_in 0 rows c.0 c.1.dir)) (held-numbered e) (held-of e)
      (enumerate_from 0 channels)

  -- ---- what is waited for
  next-as : (e c : ℕ) → next_event_in e rows c ≡ numbered e (next_event_in 0 rows c)
  next-as e c = one (flies rows c)
    where
      one : (b : Bool) → cond b (event_in e c End (shown End c rows)) (event_in e c Start (shown Start c rows))
          ≡ numbered e (cond b (event_in 0 c End (shown End c rows)) (event_in 0 c Start (shown Start c rows)))
      one true = refl
      one false = refl

  recorded-as : (e c : ℕ) → recorded_next_in e packets rows c ≡ map (numbered e) (recorded_next_in 0 packets rows c)
  recorded-as e c = ap (λ (x : Event). cond (is_some (packet_place packets x)) (x ∷ []) []) (next-as e c)
      ∙ one (next_event_in 0 rows c) (is_some (packet_place packets (next_event_in 0 rows c)))
    where
      one : (x : Event) (b : Bool) → cond b (numbered e x ∷ []) [] ≡ map (numbered e) (cond b (x ∷ []) [])
      one x true = refl
      one x false = refl

  -- two events of one epoch
  abbrev beside : Event → Held → Bool
  beside x h = (h.event.channel == x.channel) && (same_kind h.event.kind x.kind && (h.event.index == x.index))

  held-as : (e : ℕ) (x : Event) (helds : List Held) → is_held (map (held-numbered e) helds) (numbered e x) ≡ list_any (beside x) helds
  held-as e x [] = refl
  held-as e x (h ∷ helds) = ap (λ b. (b && beside x h) || is_held (map (held-numbered e) helds) (numbered e x)) (eq-eqb e e refl)
      ∙ ap (λ b. beside x h || b) (held-as e x helds)

  abbrev free : Event → Bool
  free x = not (list_any (beside x) (held_in 0 channels packets rows))

  abbrev next-events : List Event
  next-events = flat_map (λ (c : ℕ × Channel). recorded_next_in 0 packets rows c.0) (enumerate_from 0 channels)

  waits-of : (e : ℕ) → waits_in e channels packets rows ≡ map (numbered e) (filter free next-events)
  waits-of e =
      let P : Event → Bool = λ x. not (is_held (held_in e channels packets rows) x) in
      ap (filter P) (flat_map-as (λ (c : ℕ × Channel). recorded_next_in e packets rows c.0)
      (λ (c : ℕ × Channel). recorded_next_in 0 packets rows c.0) (numbered e) (λ c. recorded-as e c.0) (enumerate_from 0 channels))
      ∙ filter-as P free (numbered e) (λ x. ap not (ap (λ helds. is_held helds (numbered e x)) (held-in e)
      ∙ held-as e x (held_in 0 channels packets rows))) next-events

  pub waits-in : (e : ℕ) → waits_in e channels packets rows ≡ map (numbered e) (waits_in 0 channels packets rows)
  waits-in e = waits-of e ∙ sym (map-twice e (filter free next-events)) ∙ ap (map (numbered e)) (sym (waits-of 0))
