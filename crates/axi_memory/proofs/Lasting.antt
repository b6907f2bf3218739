-- What a memory offers fits its channels, and stays until it is taken.
use Rattle.std.proofs.Common.{◌≡◌, ℕ, ◌+◌, ◌≤◌, ◌%◌, ◌^◌, ◌&&◌, ◌++◌, Bool, true, false, ltb, leb, eqb, cond}
use Rattle.std.proofs.Common.{List, [], ◌∷◌, map, length, take, Option, None, Some, is_none, is_some}
use Rattle.std.proofs.Common.{refl, ap, sym, subst, ◌∙◌, arith, ltb-true, leb-true, le-leb, eqb-true, eq-eqb, ne_eqb, pow_pos, mod-lt}
use Rattle.std.specs.Prelude.{slice_get}
use Rattle.std.specs.List.{enumerate_from, filter}
use Rattle.std.proofs.lemmas.Bool.{cond-true, cond-false, cond_both, and_parts, and_from, or_from}
use Rattle.std.proofs.lemmas.List.{length-append, length-map}
use Rattle.std.proofs.lemmas.List.Elements.{filter-append}
use Rattle.axi_burst.specs.declared.axi_text.Role.{Role}
use Rattle.axi_burst.specs.declared.axi_text.Role.TheVariants.{WriteAddress, WriteData, WriteResponse, ReadAddress, ReadData}
use Rattle.axi_burst.specs.Binding.{is_inward}
use Rattle.env_script.specs.trace_model.declared.channel.Channel.{Channel}
use Rattle.env_script.specs.trace_model.declared.channel.Dir.{Dir}
use Rattle.env_script.specs.trace_model.declared.channel.Dir.TheVariants.{Inward, Outward}
use Rattle.env_script.specs.trace_model.declared.row.Row.{Row}
use Rattle.env_script.specs.trace_model.vidi_bits.Number.{has}
use Rattle.env_script.specs.trace_model.Packet.{Fit, widths_of}
use Rattle.env_script.specs.trace_model.Row.{completes, content_at, sink_valid}
use Rattle.env_script.specs.Offer.{Offer, Carries, FitsOffer, nothing}
use Rattle.axi_memory.specs.declared.served.Ports.{Ports}
use Rattle.axi_memory.specs.declared.served.Served.{Served}
use Rattle.axi_memory.specs.declared.turn.Turn.{Turn}
use Rattle.axi_memory.specs.Memory.{Standing, content, done, gives, id_under, is_place, memory_after, offer_as, offer_b, offer_of, offer_r, read_asks}
use Rattle.axi_memory.specs.Memory.{read_number, read_turn, response, role_at, shown_since, shows, standing_after, takes, turns, word_under}
use Rattle.axi_memory.specs.Memory.{write_asks}
use Rattle.axi_memory.specs.Memory.{write_beats}
use Rattle.axi_memory.specs.Laws.{MemoryIsLasting}
use Rattle.axi_memory.specs.Stands.{AreServed, Obeys, has_dir, served}
use Rattle.axi_memory.proofs.Going.{front-same}
use Rattle.axi_memory.proofs.Growing.{asks-none, done-none}

-- ---- the channels
abbrev pub channel_of : Ports → Role → ℕ
channel_of ports WriteAddress = ports.writes.aw.channel
channel_of ports WriteData = ports.writes.w
channel_of ports WriteResponse = ports.writes.b
channel_of ports ReadAddress = ports.reads.ar.channel
channel_of ports ReadData = ports.reads.r

abbrev dir_of : Role → Dir
dir_of WriteResponse = Inward
dir_of ReadData = Inward
dir_of role = Outward

dirs-differ : (o : Option Channel) → has_dir Inward o ≡ true → has_dir Outward o ≡ true → ⊥
dirs-differ None i o = (cc)
dirs-differ (Some x) i o = absurd (let z : cond true false true ≡ true = subst (λ b. cond b false true ≡ true) i o in cc)

has-inward : (x : Channel) → is_inward x.dir ≡ true → x.dir ≡ Inward
has-inward x h = inward x.dir h
  where
    inward : (d : Dir) → is_inward d ≡ true → d ≡ Inward
    inward Inward h = refl
    inward Outward h = (cc)

has-outward : (x : Channel) → cond (is_inward x.dir) false true ≡ true → x.dir ≡ Outward
has-outward x h = outward x.dir h
  where
    outward : (d : Dir) → cond (is_inward d) false true ≡ true → d ≡ Outward
    outward Inward h = (cc)
    outward Outward h = refl

is-there : (dir : Dir) (o : Option Channel) → has_dir dir o ≡ true → (x : Channel) × (o ≡ Some x) × (x.dir ≡ dir)
is-there dir None h = (cc)
is-there Inward (Some x) h = (x, refl, has-inward x h)
is-there Outward (Some x) h = (x, refl, has-outward x h)

module _ (channels : List Channel) (ports : Ports) (is : AreServed channels ports) where
  abbrev p : Served
  p = served channels ports

  abbrev aw : ℕ
  aw = ports.writes.aw.channel

  abbrev w : ℕ
  w = ports.writes.w

  abbrev b : ℕ
  b = ports.writes.b

  abbrev ar : ℕ
  ar = ports.reads.ar.channel

  abbrev r : ℕ
  r = ports.reads.r

  opposite : (c d : ℕ) → has_dir Inward (slice_get channels c) ≡ true → has_dir Outward (slice_get channels d) ≡ true → eqb c d ≡ false
  opposite c d i o = ne_eqb c d (λ e. dirs-differ (slice_get channels d) (ap (λ k. has_dir Inward (slice_get channels k)) (sym e) ∙ i) o)

  opposite-too : (c d : ℕ) → has_dir Outward (slice_get channels c) ≡ true → has_dir Inward (slice_get channels d) ≡ true → eqb c d ≡ false
  opposite-too c d o i = ne_eqb c d (λ e. dirs-differ (slice_get channels d) i (ap (λ k. has_dir Outward (slice_get channels k)) (sym e) ∙ o))

  -- ---- each channel has its role
  role-aw : role_at ports aw ≡ Some WriteAddress
  role-aw = cond-true (eqb aw aw) (Some WriteAddress) _ (eq-eqb aw aw refl)

  role-w : role_at ports w ≡ Some WriteData
  role-w = cond-false (eqb w aw) (Some WriteAddress) _ is.w_aw ∙ cond-true (eqb w w) (Some WriteData) _ (eq-eqb w w refl)

  role-b : role_at ports b ≡ Some WriteResponse
  role-b = cond-false (eqb b aw) (Some WriteAddress) _ (opposite b aw is.b is.aw) ∙ cond-false (eqb b w) (Some WriteData) _ (opposite b w is.b is.w)
      ∙ cond-true (eqb b b) (Some WriteResponse) _ (eq-eqb b b refl)

  role-ar : role_at ports ar ≡ Some ReadAddress
  role-ar = cond-false (eqb ar aw) (Some WriteAddress) _ is.ar_aw ∙ cond-false (eqb ar w) (Some WriteData) _ is.ar_w
      ∙ cond-false (eqb ar b) (Some WriteResponse) _ (opposite-too ar b is.ar is.b) ∙ cond-true (eqb ar ar) (Some ReadAddress) _ (eq-eqb ar ar refl)

  role-r : role_at ports r ≡ Some ReadData
  role-r = cond-false (eqb r aw) (Some WriteAddress) _ (opposite r aw is.r is.aw) ∙ cond-false (eqb r w) (Some WriteData) _ (opposite r w is.r is.w)
      ∙ cond-false (eqb r b) (Some WriteResponse) _ is.r_b ∙ cond-false (eqb r ar) (Some ReadAddress) _ (opposite r ar is.r is.ar)
      ∙ cond-true (eqb r r) (Some ReadData) _ (eq-eqb r r refl)

  abbrev Is : ℕ → Option Role → Type 0
  Is c o = (role : Role) → o ≡ Some role → c ≡ channel_of ports role

  some-role : (c : ℕ) (own : Role) → c ≡ channel_of ports own → Is c (Some own)
  some-role c own e role at = let same : own ≡ role = cc in e ∙ ap (channel_of ports) same

  pub role-is : (c : ℕ) → Is c (role_at ports c)
  role-is c =
      cond_both (eqb c aw) (Some WriteAddress) _ (Is c) (λ t. some-role c WriteAddress (eqb-true c aw t))
      (λ n. cond_both (eqb c w) (Some WriteData) _ (Is c) (λ t. some-role c WriteData (eqb-true c w t))
      (λ n. cond_both (eqb c b) (Some WriteResponse) _ (Is c) (λ t. some-role c WriteResponse (eqb-true c b t))
      (λ n. cond_both (eqb c ar) (Some ReadAddress) _ (Is c) (λ t. some-role c ReadAddress (eqb-true c ar t))
      (λ n. cond_both (eqb c r) (Some ReadData) None (Is c) (λ t. some-role c ReadData (eqb-true c r t))
      (λ n role at. absurd (let z : None ≡ Some role = at in cc))))))

  -- ---- what is offered fits
  dir-at : (c d : ℕ) (dir : Dir) (x : Channel) → has_dir dir (slice_get channels d) ≡ true → c ≡ d → slice_get channels c ≡ Some x → x.dir ≡ dir
  dir-at c d dir x h e at =
      let (y, there, is) = is-there dir (slice_get channels d) h in
      let same : Some x ≡ Some y = sym at ∙ ap (slice_get channels) e ∙ there in
      let z : x ≡ y = cc in ap (λ (k : Channel). k.dir) z ∙ is

  fit-numbers : (at : ℕ → ℕ) (widths : List ℕ) (k : ℕ) → Fit widths (map (λ (x : ℕ × ℕ). at x.0 % 2 ^ x.1) (enumerate_from k widths))
  fit-numbers at [] k = tt
  fit-numbers at (v ∷ widths) k = (mod-lt (at k) (pow_pos v), fit-numbers at widths (k + 1))

  fit-content : (c d : ℕ) (x : Channel) (at : ℕ → ℕ) → c ≡ d → slice_get channels c ≡ Some x → Fit x.widths (content channels d at)
  fit-content c d x at same e = subst (λ widths. Fit widths (content channels d at)) (ap widths_of (ap (slice_get channels) (sym same) ∙ e))
      (fit-numbers at (widths_of (slice_get channels d)) 0)

  takes-fits : (x : Channel) (up : Bool) → x.dir ≡ Outward → FitsOffer x (takes up)
  takes-fits x up dir = record { inward = λ v. absurd (cc); outward = λ r. dir; empty = λ v. refl }

  gives-fits : (x : Channel) (up : Bool) (numbers : List ℕ) → x.dir ≡ Inward → Fit x.widths numbers → FitsOffer x (gives up numbers)
  gives-fits x true numbers dir fit = record { inward = λ v. (dir, fit); outward = λ r. absurd (cc); empty = λ v. absurd (cc) }
  gives-fits x false numbers dir fit = record { inward = λ v. absurd (cc); outward = λ r. absurd (cc); empty = λ v. refl }

  nothing-fits : (x : Channel) → FitsOffer x nothing
  nothing-fits x = record { inward = λ v. absurd (cc); outward = λ r. absurd (cc); empty = λ v. refl }

  fits-as : (s : Standing) (c : ℕ) (x : Channel) (o : Option Role) → Is c o → slice_get channels c ≡ Some x → FitsOffer x (offer_as p s o)
  fits-as s c x None own at = nothing-fits x
  fits-as s c x (Some WriteAddress) own at = takes-fits x s.free (dir-at c aw Outward x is.aw (own WriteAddress refl) at)
  fits-as s c x (Some WriteData) own at = takes-fits x s.wants (dir-at c w Outward x is.w (own WriteData refl) at)
  fits-as s c x (Some WriteResponse) own at = gives-fits x s.answers (content channels b (response p s))
      (dir-at c b Inward x is.b (own WriteResponse refl) at) (fit-content c b x (response p s) (own WriteResponse refl) at)
  fits-as s c x (Some ReadAddress) own at = takes-fits x (is_none s.turn) (dir-at c ar Outward x is.ar (own ReadAddress refl) at)
  fits-as s c x (Some ReadData) own at = gives-fits x (is_some s.turn) (content channels r (read_number p s.turn s.word))
      (dir-at c r Inward x is.r (own ReadData refl) at) (fit-content c r x (read_number p s.turn s.word) (own ReadData refl) at)

  -- ---- rows that carry it take it alone
  ready-taken : (s : Standing) (row : Row) (c : ℕ) → Carries channels (offer_of p s) row → has_dir Outward (slice_get channels c) ≡ true
      → completes row c ≡ true → (offer_of p s c).ready ≡ true
  ready-taken s row c carries out h =
      let (x, at, dir) = is-there Outward (slice_get channels c) out in
      sym (carries.readies c x at dir) ∙ (and_parts (sink_valid row c) (has row.readies c) h).1

  valid-taken : (s : Standing) (row : Row) (c : ℕ) → Carries channels (offer_of p s) row → has_dir Inward (slice_get channels c) ≡ true
      → completes row c ≡ true → (offer_of p s c).valid ≡ true
  valid-taken s row c carries in_ h =
      let (x, at, dir) = is-there Inward (slice_get channels c) in_ in
      sym (carries.valids c x at dir) ∙ (and_parts (has row.valids c) (has row.gates c) (and_parts (sink_valid row c) (has row.readies c) h).0).0

  pub obeys : (s : Standing) (row : Row) → Carries channels (offer_of p s) row → Obeys p s row
  obeys s row carries = record {
    aw = λ h. sym (ap (λ o. (offer_as p s o).ready) role-aw) ∙ ready-taken s row aw carries is.aw h;
    w = λ h. sym (ap (λ o. (offer_as p s o).ready) role-w) ∙ ready-taken s row w carries is.w h;
    b = λ h. sym (ap (λ o. (offer_as p s o).valid) role-b) ∙ valid-taken s row b carries is.b h;
    ar = λ h. sym (ap (λ o. (offer_as p s o).ready) role-ar) ∙ ready-taken s row ar carries is.ar h;
    r = λ h. sym (ap (λ o. (offer_as p s o).valid) role-r) ∙ valid-taken s row r carries is.r h;
  }

  -- ---- and what is offered stays
  shut : (v : Bool) (f : Bool) → (v ≡ true → f ≡ true) → f ≡ false → v ≡ false
  shut true f h e = absurd (let z : true ≡ false = sym (h refl) ∙ e in cc)
  shut false f h e = refl

  grown : (rows : List Row) (row : Row) (c : ℕ) → done p c rows ≤ done p c (rows ++ row ∷ [])
  grown rows row c =
      let f : Row → List ℕ = λ k. content_at channels k.contents c in
      let t : Row → Bool = λ k. completes k c in
      let a = length-map (filter t rows) f in
      let d = length-map (filter t (rows ++ row ∷ [])) f in
      let e = ap length (filter-append t rows (row ∷ [])) ∙ length-append (filter t rows) (filter t (row ∷ [])) in
      let z : length (map f (filter t rows)) ≤ length (map f (filter t (rows ++ row ∷ []))) = omega (arith, a, d, e) in z

  b-stays : (rows : List Row) (row : Row) → Obeys p (standing_after p rows) row → (standing_after p rows).answers ≡ true
      → completes row b ≡ false → offer_b p (standing_after p (rows ++ row ∷ [])) ≡ offer_b p (standing_after p rows)
  b-stays rows row o up unended =
      let more = rows ++ row ∷ [] in
      let bs = done p b rows in
      let aws = done p aw rows in
      let ws = done p w rows in
      let total = write_beats p rows in
      let parts = and_parts (ltb bs aws) (leb total ws) up in
      let some = ltb-true bs aws parts.0 in
      let not_free : eqb aws bs ≡ false = ne_eqb aws bs (λ e. absurd (omega (arith, e, some))) in
      let no : completes row aw ≡ false = shut (completes row aw) (eqb aws bs) o.aw not_free in
      let asks = asks-none p rows row ports.writes.aw no in
      let late : leb total (done p w more) ≡ true =
      le-leb total (done p w more) (let k = leb-true total ws parts.1 in let g = grown rows row w in omega (arith, k, g)) in
      let still : (standing_after p more).answers ≡ true =
      ap (λ n. ltb (done p b more) n && leb (write_beats p more) (done p w more)) (done-none p rows row aw no)
      ∙ ap (λ n. ltb n aws && leb (write_beats p more) (done p w more)) (done-none p rows row b unended)
      ∙ ap (λ xs. ltb bs aws && leb (length (turns xs)) (done p w more)) asks
      ∙ and_from (ltb bs aws) (leb total (done p w more)) parts.0 late in
      let id : (standing_after p more).id ≡ (standing_after p rows).id =
      ap (λ xs. id_under (slice_get xs (done p b more))) asks
      ∙ ap (λ n. id_under (slice_get (write_asks p rows) n)) (done-none p rows row b unended) in
      ap (λ v. gives v (content channels b (response p (standing_after p more)))) (still ∙ sym up)
      ∙ ap (λ n. gives (standing_after p rows).answers (content channels b (λ k. cond (is_place ports.writes.id k) n 0))) id

  some-none : {X : Type 0} (t : Option X) → is_some t ≡ true → is_none t ≡ false
  some-none None h = (cc)
  some-none (Some t) h = refl

  abbrev offer_r-of : Option Turn → ℕ → Offer
  offer_r-of t word = gives (is_some t) (content channels r (read_number p t word))

  r-stays : (rows : List Row) (row : Row) → Obeys p (standing_after p rows) row → is_some (standing_after p rows).turn ≡ true
      → completes row r ≡ false → offer_r p (standing_after p (rows ++ row ∷ [])) ≡ offer_r p (standing_after p rows)
  r-stays rows row o up unended =
      let more = rows ++ row ∷ [] in
      let none : is_none (read_turn p rows) ≡ false = some-none (read_turn p rows) up in
      let no : completes row ar ≡ false = shut (completes row ar) (is_none (read_turn p rows)) o.ar none in
      let turn : read_turn p more ≡ read_turn p rows =
      ap (λ xs. slice_get (turns xs) (done p r more)) (asks-none p rows row ports.reads.ar no)
      ∙ ap (slice_get (turns (read_asks p rows))) (done-none p rows row r unended) in
      let quiet : shows p row ≡ false = or_from (completes row ar) (completes row r) no unended in
      let words = ap (memory_after p) (front-same p rows row quiet) in
      ap (λ t. offer_r-of t (word_under p (memory_after p (take (shown_since p more) more)) t)) turn
      ∙ ap (λ ws. offer_r-of (read_turn p rows) (word_under p ws (read_turn p rows))) words

  stays-as : (rows : List Row) (row : Row) (c : ℕ) (o : Option Role) → Is c o → Obeys p (standing_after p rows) row
      → (offer_as p (standing_after p rows) o).valid ≡ true → completes row c ≡ false
      → offer_as p (standing_after p (rows ++ row ∷ [])) o ≡ offer_as p (standing_after p rows) o
  stays-as rows row c None own o up unended = absurd (let z : false ≡ true = up in cc)
  stays-as rows row c (Some WriteAddress) own o up unended = absurd (let z : false ≡ true = up in cc)
  stays-as rows row c (Some WriteData) own o up unended = absurd (let z : false ≡ true = up in cc)
  stays-as rows row c (Some WriteResponse) own o up unended = b-stays rows row o up (ap (completes row) (sym (own WriteResponse refl)) ∙ unended)
  stays-as rows row c (Some ReadAddress) own o up unended = absurd (let z : false ≡ true = up in cc)
  stays-as rows row c (Some ReadData) own o up unended = r-stays rows row o up (ap (completes row) (sym (own ReadData refl)) ∙ unended)

pub memory-is-lasting : MemoryIsLasting
memory-is-lasting channels ports is = record {
  fits = λ rows c x at. fits-as channels ports is (standing_after (served channels ports) rows) c x (role_at ports c)
      (role-is channels ports is c) at;
  stays = λ rows row c carries up unended. stays-as channels ports is rows row c (role_at ports c) (role-is channels ports is c)
      (obeys channels ports is (standing_after (served channels ports) rows) row carries) up unended;
}
