-- What one row more does to what has completed, and to the memory.
use Rattle.std.proofs.Common.{◌≡◌, ℕ, zero, suc, ◌+◌, ◌≤◌, ◌<◌, ◌++◌, Bool, true, false, cond, List, [], ◌∷◌, map, length, replicate, Some}
use Rattle.std.proofs.Common.{refl, ap, sym, ◌∙◌, ⊎_elim, arith, append-nil}
use Rattle.std.specs.Prelude.{slice_get}
use Rattle.std.specs.List.{filter, zip}
use Rattle.std.proofs.lemmas.Bool.{cases_Bool, cond-true, cond-false}
use Rattle.std.proofs.lemmas.List.{length-append, map-append}
use Rattle.std.proofs.lemmas.List.Concat.{flat_map-append}
use Rattle.std.proofs.lemmas.List.Elements.{filter-append}
use Rattle.std.proofs.lemmas.List.FromFn.{get_or-map-range_with_len, length-map-range_with_len}
use Rattle.std.proofs.lemmas.Option.{same_Some, slice_get-get_or, slice_get_within}
use Rattle.axi_burst.specs.declared.axi.AddressPorts.{AddressPorts}
use Rattle.axi_burst.specs.declared.transfers.Address.{Address}
use Rattle.axi_burst.specs.Transfers.{begun_address}
use Rattle.env_script.specs.trace_model.declared.row.Row.{Row}
use Rattle.env_script.specs.trace_model.Row.{completes, content_at}
use Rattle.axi_memory.specs.declared.served.Served.{Served}
use Rattle.axi_memory.specs.declared.turn.Turn.{Turn}
use Rattle.axi_memory.specs.Memory.{all_written, asks_on, done, memory_after, taken, turns, turns_of, write_asks, write_beats, written}
use Rattle.axi_memory.specs.Stands.{first_turn}

-- ---- lists
pub push-some : (t : Row → Bool) (xs : List Row) (x : Row) → t x ≡ true → filter t (xs ++ x ∷ []) ≡ filter t xs ++ x ∷ []
push-some t xs x h = filter-append t xs (x ∷ []) ∙ ap (λ zs. filter t xs ++ zs) (cond-true (t x) (x ∷ []) [] h)

pub push-none : (t : Row → Bool) (xs : List Row) (x : Row) → t x ≡ false → filter t (xs ++ x ∷ []) ≡ filter t xs
push-none t xs x h = filter-append t xs (x ∷ []) ∙ ap (λ zs. filter t xs ++ zs) (cond-false (t x) (x ∷ []) [] h) ∙ append-nil (filter t xs)

zip-long : {X Y : Type 0} (xs : List X) (ys more : List Y) → length xs ≤ length ys → zip xs (ys ++ more) ≡ zip xs ys
zip-long [] ys more l = refl
zip-long (x ∷ xs) [] more l = absurd (omega (arith, l))
zip-long (x ∷ xs) (y ∷ ys) more l = ap (λ zs. (x, y) ∷ zs) (zip-long xs ys more (omega (arith, l)))

zip-push : {X Y : Type 0} (xs : List X) (x : X) (ys : List Y) (y : Y) → slice_get ys (length xs) ≡ Some y
    → zip (xs ++ x ∷ []) ys ≡ zip xs ys ++ (x, y) ∷ []
zip-push [] x [] y e = absurd (cc)
zip-push [] x (z ∷ ys) y e = ap (λ w. (x, w) ∷ []) (same_Some z y e)
zip-push (a ∷ xs) x [] y e = absurd (cc)
zip-push (a ∷ xs) x (z ∷ ys) y e = ap (λ zs. (a, z) ∷ zs) (zip-push xs x ys y e)

pub get-front : {Y : Type 0} (ys more : List Y) (n : ℕ) (y : Y) → slice_get ys n ≡ Some y → slice_get (ys ++ more) n ≡ Some y
get-front [] more n y e = absurd (cc)
get-front (z ∷ ys) more zero y e = e
get-front (z ∷ ys) more (suc n) y e = get-front ys more n y e

pub get-behind : {X : Type 0} (front xs : List X) (i : ℕ) → slice_get (front ++ xs) (length front + i) ≡ slice_get xs i
get-behind [] xs i = let e : 0 + i ≡ i = omega arith in ap (slice_get xs) e
get-behind {X} (y ∷ front) xs i =
    let e : length (y ∷ front) + i ≡ suc (length front + i) = omega arith in
    ap (slice_get (y ∷ (front ++ xs))) e ∙ get-behind front xs i

-- ---- the beats of bursts
pub beats-push : (asks : List Address) (a : Address) → turns (asks ++ a ∷ []) ≡ turns asks ++ turns_of a
beats-push asks a = flat_map-append turns_of asks (a ∷ []) ∙ ap (λ zs. turns asks ++ zs) (append-nil (turns_of a))

pub length-beats : (asks : List Address) (a : Address) → length (turns (asks ++ a ∷ [])) ≡ length (turns asks) + a.beats
length-beats asks a = ap length (beats-push asks a) ∙ length-append (turns asks) (turns_of a)
    ∙ ap (λ n. length (turns asks) + n) (length-map-range_with_len (λ i. record { ask = a; beat = i }) 0 a.beats)

pub beat-at : (asks : List Address) (t : Turn) → t.beat < t.ask.beats
    → slice_get (turns (asks ++ t.ask ∷ [])) (length (turns asks) + t.beat) ≡ Some t
beat-at asks t l =
    let f : ℕ → Turn = λ i. record { ask = t.ask; beat = i } in
    let long = length-map-range_with_len f 0 t.ask.beats in
    ap (λ xs. slice_get xs (length (turns asks) + t.beat)) (beats-push asks t.ask)
    ∙ get-behind (turns asks) (turns_of t.ask) t.beat
    ∙ slice_get-get_or (turns_of t.ask) t.beat t (omega (arith, long, l))
    ∙ ap Some (get_or-map-range_with_len f 0 t.ask.beats t.beat t.beat t l (omega arith))

written-append : (p : Served) (words : List ℕ) (a b : List (List ℕ × Turn)) → all_written p words (a ++ b) ≡ all_written p (all_written p words a) b
written-append p words [] b = refl
written-append p words (x ∷ a) b = written-append p (written p words x) a b

-- ---- one more row
module _ (p : Served) (rows : List Row) (row : Row) where
  abbrev more : List Row
  more = rows ++ row ∷ []

  abbrev content_on : ℕ → List ℕ
  content_on c = content_at p.channels row.contents c

  abbrev contents : ℕ → Row → List ℕ
  contents c r = content_at p.channels r.contents c

  pub taken-none : (c : ℕ) → completes row c ≡ false → taken p.channels c more ≡ taken p.channels c rows
  taken-none c h = ap (map (contents c)) (push-none (λ (r : Row). completes r c) rows row h)

  pub taken-some : (c : ℕ) → completes row c ≡ true → taken p.channels c more ≡ taken p.channels c rows ++ content_on c ∷ []
  taken-some c h = ap (map (contents c)) (push-some (λ (r : Row). completes r c) rows row h)
      ∙ map-append (contents c) (filter (λ (r : Row). completes r c) rows) (row ∷ [])

  pub done-none : (c : ℕ) → completes row c ≡ false → done p c more ≡ done p c rows
  done-none c h = ap length (taken-none c h)

  pub done-some : (c : ℕ) → completes row c ≡ true → done p c more ≡ done p c rows + 1
  done-some c h = ap length (taken-some c h) ∙ length-append (taken p.channels c rows) (content_on c ∷ [])

  -- as many more as this row has
  pub done-more : (c : ℕ) (b : Bool) → completes row c ≡ b → done p c more ≡ done p c rows + cond b 1 0
  done-more c true h = done-some c h
  done-more c false h = let e = done-none c h in omega (arith, e)

  pub asks-none : (ports : AddressPorts) → completes row ports.channel ≡ false → asks_on p ports more ≡ asks_on p ports rows
  asks-none ports h = ap (map (begun_address p.ports.beat ports)) (taken-none ports.channel h)

  pub asks-some : (ports : AddressPorts) → completes row ports.channel ≡ true
      → asks_on p ports more ≡ asks_on p ports rows ++ (first_turn p ports row).ask ∷ []
  asks-some ports h = ap (map (begun_address p.ports.beat ports)) (taken-some ports.channel h)
      ∙ map-append (begun_address p.ports.beat ports) (taken p.channels ports.channel rows) (content_on ports.channel ∷ [])

  pub asks-more : (ports : AddressPorts) (b : Bool) → completes row ports.channel ≡ b
      → asks_on p ports more ≡ asks_on p ports rows ++ cond b ((first_turn p ports row).ask ∷ []) []
  asks-more ports true h = asks-some ports h
  asks-more ports false h = asks-none ports h ∙ sym (append-nil (asks_on p ports rows))

  -- the beats that were asked for are a front of those asked for later
  record Extends (ports : AddressPorts) : Type 0 where
    pub extra : List Turn
    pub is : turns (asks_on p ports more) ≡ turns (asks_on p ports rows) ++ extra

  extends : (ports : AddressPorts) → Extends ports
  extends ports = ⊎_elim
      (λ (t : completes row ports.channel ≡ true). record {
        extra = turns_of (first_turn p ports row).ask;
        is = ap turns (asks-some ports t) ∙ beats-push (asks_on p ports rows) (first_turn p ports row).ask;
      })
      (λ (t : completes row ports.channel ≡ false). record {
        extra = [];
        is = ap turns (asks-none ports t) ∙ sym (append-nil (turns (asks_on p ports rows)));
      })
      (cases_Bool (completes row ports.channel))

  abbrev zeros : List ℕ
  zeros = replicate p.ports.words 0

  abbrev ws : List (List ℕ)
  ws = taken p.channels p.ports.writes.w rows

  abbrev beats : List Turn
  beats = turns (write_asks p rows)

  -- no write beat, and not more of them than were asked for
  pub memory-kept : completes row p.ports.writes.w ≡ false → done p p.ports.writes.w rows ≤ write_beats p rows
      → memory_after p more ≡ memory_after p rows
  memory-kept h l =
      let e = extends p.ports.writes.aw in
      ap (λ xs. all_written p zeros (zip xs (turns (write_asks p more)))) (taken-none p.ports.writes.w h)
      ∙ ap (λ ys. all_written p zeros (zip ws ys)) e.is
      ∙ ap (all_written p zeros) (zip-long ws beats e.extra l)

  -- a write beat, whose burst was asked for in a row before
  pub memory-grown : (beat : Turn) → completes row p.ports.writes.w ≡ true → slice_get beats (done p p.ports.writes.w rows) ≡ Some beat
      → memory_after p more ≡ written p (memory_after p rows) (content_on p.ports.writes.w, beat)
  memory-grown beat h at =
      let e = extends p.ports.writes.aw in
      let within = slice_get_within beats (length ws) beat at in
      let short : length ws ≤ length beats = omega (arith, within) in
      ap (λ xs. all_written p zeros (zip xs (turns (write_asks p more)))) (taken-some p.ports.writes.w h)
      ∙ ap (λ ys. all_written p zeros (zip (ws ++ content_on p.ports.writes.w ∷ []) ys)) e.is
      ∙ ap (all_written p zeros) (zip-push ws (content_on p.ports.writes.w) (beats ++ e.extra) beat (get-front beats e.extra (length ws) beat at))
      ∙ ap (λ zs. all_written p zeros (zs ++ (content_on p.ports.writes.w, beat) ∷ [])) (zip-long ws beats e.extra short)
      ∙ written-append p zeros (zip ws beats) ((content_on p.ports.writes.w, beat) ∷ [])
