-- An AXI file that was bound to channels, and lacks nothing, has the ports of a memory.
use Rattle.std.proofs.Common.{◌≡◌, ℕ, zero, suc, ◌+◌, ◌*◌, ◌≤◌, ◌<◌, Bool, true, false, not, ◌&&◌, ◌||◌, cond, eqb, List, [], ◌∷◌, ◌++◌}
use Rattle.std.proofs.Common.{length, take, get_or}
use Rattle.std.proofs.Common.{All, Option, None, Some, IfSome, slice_get, refl, ap, sym, subst, ◌∙◌, arith, ⊎_elim, eqb-true, eq-eqb, ne_eqb}
use Rattle.std.specs.Prelude.{option_and_then, find, is_none, is_some}
use Rattle.std.specs.List.{list_all, list_any, range_with_len}
use Rattle.std.specs.Option.{option_map}
use Rattle.std.specs.Str.{bytes_eq}
use Rattle.std.proofs.lemmas.Bool.{cases_lt, or_right}
use Rattle.std.proofs.lemmas.List.Quantifiers.{position-Some}
use Rattle.std.proofs.lemmas.Option.{get_or_from_slice_get, same_Some, slice_get_within}
use Rattle.std.proofs.lemmas.Slice.Eq.{bytes_eq-Decides}
use Rattle.axi_burst.specs.declared.axi.AddressPorts.{AddressPorts}
use Rattle.axi_burst.specs.declared.axi.Axi.{Axi}
use Rattle.axi_burst.specs.declared.axi.DataPorts.{DataPorts}
use Rattle.axi_burst.specs.declared.axi.Reads.{Reads}
use Rattle.axi_burst.specs.declared.axi.Writes.{Writes}
use Rattle.axi_burst.specs.declared.axi_text.AxiLine.{AxiLine}
use Rattle.axi_burst.specs.declared.axi_text.AxiText.{AxiText}
use Rattle.axi_burst.specs.declared.axi_text.Entry.{Entry}
use Rattle.axi_burst.specs.declared.axi_text.Entry.TheVariants as E
use Rattle.axi_burst.specs.declared.axi_text.Role.{Role}
use Rattle.axi_burst.specs.declared.axi_text.Role.TheVariants.{WriteAddress, WriteData, WriteResponse, ReadAddress, ReadData}
use Rattle.axi_burst.specs.declared.error.AxiError.TheVariants as e
use Rattle.axi_burst.specs.declared.ports.End.{End}
use Rattle.axi_burst.specs.declared.ports.Ends.{Ends}
use Rattle.axi_burst.specs.Binding.{IsBound, channel_at, channel_named, data_fits, data_ports, ends_from, ends_of, faults_from, first_side}
use Rattle.axi_burst.specs.Binding.{has_width, is_channel}
use Rattle.axi_burst.specs.Binding.{is_exactly, is_free, is_free_under, is_inward, is_named, is_side, line_fits, line_of, names_channel}
use Rattle.axi_burst.specs.Binding.{port_faults, reads_from, row_fits, side, side_of}
use Rattle.axi_burst.specs.Binding.{side_under, with_entry, with_found, writes_from}
use Rattle.axi_burst.specs.Forms.{is_beat}
use Rattle.axi_burst.specs.Kinds.{role_number, same}
use Rattle.axi_burst.specs.Passes.{AreAddressPorts, places_of}
use Rattle.axi_burst.specs.Ports.{address_fits, address_ports, differ, no_ends, same_place, with_channel, words_fit}
use Rattle.axi_burst.specs.Sides.{AreReads, AreWrites}
use Rattle.axi_burst.proofs.BoundPorts.{bound-beat, bound-reads, bound-writes}
use Rattle.env_script.specs.trace_model.declared.channel.Channel.{Channel}
use Rattle.env_script.specs.trace_model.declared.channel.Dir.{Dir}
use Rattle.env_script.specs.trace_model.declared.channel.Dir.TheVariants.{Inward, Outward}
use Rattle.env_script.specs.trace_model.Channel.{IsTable, IsChannel}
use Rattle.env_script.specs.trace_model.Packet.{widths_of}
use Rattle.env_script.specs.trace_model.vidi_bits.Findings.{first, told_if}
use Rattle.env_script.proofs.trace_model_lemmas.vidi_bits_lemmas.Bools.{left_of, right_of}
use Rattle.env_script.proofs.trace_model_lemmas.vidi_bits_lemmas.FindingLaws.{told_none}
use Rattle.env_script.proofs.trace_model_lemmas.vidi_bits_lemmas.Lists.{nil_left, nil_right}
use Rattle.axi_memory.specs.declared.served.Ports.{Ports}
use Rattle.axi_memory.specs.declared.reason.Lack.TheVariants.{Channels, Places, Side, Words}
use Rattle.axi_memory.specs.Lack as lack
use Rattle.axi_memory.specs.Lack.{comes_in, lacks, names_all, takes_writes}
use Rattle.axi_memory.specs.Stands.{AreServed, has_address, has_dir, ports_from, ports_of}

not-true : (b : Bool) → not b ≡ true → b ≡ false
not-true true h = (cc)
not-true false h = refl

not-false : (b : Bool) → not b ≡ false → b ≡ true
not-false true h = refl
not-false false h = (cc)

no-first : {X : Type 0} (xs : List X) → first xs ≡ None → xs ≡ []
no-first [] h = refl
no-first (x ∷ xs) h = (cc)

module _ (beat : ℕ) (channels : List Channel) (lines : List AxiLine) (none : port_faults beat channels lines ≡ []) where
  -- ---- each line fits
  abbrev Fits : ℕ → AxiLine → Type 0
  Fits i l = line_fits beat channels lines (take i lines) l.entry ≡ true

  fits-from : (n : ℕ) (rest : List AxiLine) → faults_from beat channels lines n rest ≡ [] → (i : ℕ) (l : AxiLine) → slice_get rest i ≡ Some l
      → Fits (n + i) l
  fits-from n [] h i l at = (cc)
  fits-from n (x ∷ rest) h zero l at =
      let same : x ≡ l = same_Some x l at in
      let fits = line_fits beat channels lines (take n lines) x.entry in
      let lawful : fits ≡ true = not-false fits (told_none (not fits) (e.Port x.line)
      (nil_left (told_if (not fits) (e.Port x.line)) (faults_from beat channels lines (n + 1) rest) h)) in
      let sum : n + 0 ≡ n = omega arith in
      subst (λ k. Fits k l) (sym sum) (subst (Fits n) same lawful)
  fits-from n (x ∷ rest) h (suc i) l at =
      let fits = line_fits beat channels lines (take n lines) x.entry in
      let sum : n + 1 + i ≡ n + suc i = omega arith in
      subst (λ k. Fits k l) sum (fits-from (n + 1) rest (nil_right (told_if (not fits) (e.Port x.line)) (faults_from beat channels lines
      (n + 1) rest) h) i l at)

  fits : (i : ℕ) (l : AxiLine) → slice_get lines i ≡ Some l → Fits i l
  fits i l at = let e : 0 + i ≡ i = omega arith in subst (λ k. Fits k l) e (fits-from 0 lines none i l at)

  -- ---- a channel comes of a line
  pub record IsOf (role : Role) (d : ℕ) : Type 0 where
    pub i : ℕ
    pub line : AxiLine
    pub name : List ℕ
    pub places : List (Option ℕ)
    pub at : slice_get lines i ≡ Some line
    pub says : line.entry ≡ E.Channel role name places
    pub named : channel_named channels name ≡ Some d

  pub record AreOf (ends : Ends) : Type 0 where
    pub aw : IfSome ends.aw (λ (a : AddressPorts). IsOf WriteAddress a.channel)
    pub w : IfSome ends.w (λ (x : End). IsOf WriteData x.channel)
    pub b : IfSome ends.b (λ (x : End). IsOf WriteResponse x.channel)
    pub ar : IfSome ends.ar (λ (a : AddressPorts). IsOf ReadAddress a.channel)
    pub r : IfSome ends.r (λ (x : End). IsOf ReadData x.channel)
    pub served : IfSome ends.places (λ (d : DataPorts). (places : List ℕ) × (data_fits beat channels lines places ≡ true))

  address-of : (role : Role) (c : ℕ) (places : List (Option ℕ)) → IsOf role c
      → IfSome (address_ports c places) (λ (a : AddressPorts). IsOf role a.channel)
  address-of role c (id ∷ Some addr ∷ len ∷ size ∷ burst ∷ []) is = is
  address-of role c places is = tt

  channel-of : (ends : Ends) (role : Role) (c : ℕ) (places : List (Option ℕ)) → IsOf role c → AreOf ends → AreOf (with_channel ends role c places)
  channel-of ends WriteAddress c places is are =
      record { aw = address-of WriteAddress c places is; w = are.w; b = are.b; ar = are.ar; r = are.r; served = are.served }
  channel-of ends ReadAddress c places is are =
      record { aw = are.aw; w = are.w; b = are.b; ar = address-of ReadAddress c places is; r = are.r; served = are.served }
  channel-of ends WriteData c (last ∷ []) is are = record { aw = are.aw; w = is; b = are.b; ar = are.ar; r = are.r; served = are.served }
  channel-of ends WriteData c places is are = are
  channel-of ends WriteResponse c (id ∷ []) is are = record { aw = are.aw; w = are.w; b = is; ar = are.ar; r = are.r; served = are.served }
  channel-of ends WriteResponse c places is are = are
  channel-of ends ReadData c (id ∷ last ∷ []) is are = record { aw = are.aw; w = are.w; b = are.b; ar = are.ar; r = is; served = are.served }
  channel-of ends ReadData c places is are = are

  found-of : (ends : Ends) (role : Role) (places : List (Option ℕ)) (i : ℕ) (line : AxiLine) (name : List ℕ) → slice_get lines i ≡ Some line
      → line.entry ≡ E.Channel role name places → (o : Option ℕ) → channel_named channels name ≡ o → AreOf ends
      → AreOf (with_found ends role places o)
  found-of ends role places i line name at says None named are = are
  found-of ends role places i line name at says (Some c) named are =
      channel-of ends role c places (record { i = i; line = line; name = name; places = places; at = at; says = says; named = named }) are

  data-of : (o : Option DataPorts) (places : List ℕ) → data_fits beat channels lines places ≡ true
      → IfSome o (λ (d : DataPorts). (places : List ℕ) × (data_fits beat channels lines places ≡ true))
  data-of None places h = tt
  data-of (Some d) places h = (places, h)

  entry-of : (ends : Ends) (i : ℕ) (line : AxiLine) (entry : Entry) → slice_get lines i ≡ Some line → line.entry ≡ entry
      → line_fits beat channels lines (take i lines) entry ≡ true → AreOf ends → AreOf (with_entry channels ends entry)
  entry-of ends i line (E.Channel role name places) at says h are =
      found-of ends role places i line name at says (channel_named channels name) refl are
  entry-of ends i line (E.Memory words) at says h are = record { aw = are.aw; w = are.w; b = are.b; ar = are.ar; r = are.r; served = are.served }
  entry-of ends i line (E.Data places) at says h are =
      record { aw = are.aw; w = are.w; b = are.b; ar = are.ar; r = are.r; served = data-of (data_ports places) places h }

  all-of : (ends : Ends) (n : ℕ) (rest : List AxiLine) → ((i : ℕ) → slice_get rest i ≡ slice_get lines (n + i)) → AreOf ends
      → AreOf (ends_from channels ends rest)
  all-of ends n [] same are = are
  all-of ends n (l ∷ rest) same are =
      let here : slice_get lines n ≡ Some l = let e : n + 0 ≡ n = omega arith in ap (slice_get lines) (sym e) ∙ sym (same 0) in
      all-of (with_entry channels ends l.entry) (n + 1) rest
      (λ i. let e : n + suc i ≡ n + 1 + i = omega arith in same (suc i) ∙ ap (slice_get lines) e)
      (entry-of ends n l l.entry here refl (fits n l here) are)

  pub are-of : AreOf (ends_of channels lines)
  are-of = all-of no_ends 0 lines (λ i. let e : i ≡ 0 + i = omega arith in ap (slice_get lines) e)
      (record { aw = tt; w = tt; b = tt; ar = tt; r = tt; served = tt })

  -- ---- what a line that fits says of its channel
  pub record IsRow (role : Role) (i : ℕ) (name : List ℕ) (d : ℕ) : Type 0 where
    pub x : Channel
    pub there : slice_get channels d ≡ Some x
    pub own : name ≡ x.name
    pub side : is_side (first_side channels lines) (side role x.dir) ≡ true
    pub fresh : is_named (take i lines) name ≡ false

  row-found : (role : Role) (places : List (Option ℕ)) (i : ℕ) (name : List ℕ) (d : ℕ) (o : Option Channel) → slice_get channels d ≡ o
      → row_fits (first_side channels lines) role places o ≡ true → channel_named channels name ≡ Some d → is_named (take i lines) name ≡ false
      → IsRow role i name d
  row-found role places i name d None at h named fresh = (cc)
  row-found role places i name d (Some x) at h named fresh =
      let p : Channel → Bool = λ c. bytes_eq name c.name in
      let found = position-Some p channels d x named in
      let same : get_or channels d x ≡ x = get_or_from_slice_get channels d x x at in record {
        x = x;
        there = at;
        own = (bytes_eq-Decides name x.name).0 (ap p (sym same) ∙ found.1);
        side = left_of (is_side (first_side channels lines) (side role x.dir)) (differ places && words_fit role x.widths places) h;
        fresh = fresh;
      }

  pub row-of : (role : Role) (d : ℕ) (is : IsOf role d) → IsRow role is.i is.name d
  row-of role d is =
      let fit : line_fits beat channels lines (take is.i lines) (E.Channel role is.name is.places) ≡ true =
      subst (λ x. line_fits beat channels lines (take is.i lines) x ≡ true) is.says (fits is.i is.line is.at) in
      let row = right_of (not (is_named (take is.i lines) is.name)) (row_fits (first_side channels lines) role is.places
      (channel_at channels is.name)) fit in
      let fresh = left_of (not (is_named (take is.i lines) is.name)) (row_fits (first_side channels lines) role is.places
      (channel_at channels is.name)) fit in
      let at : channel_at channels is.name ≡ slice_get channels d = ap (λ o. option_and_then (λ c. slice_get channels c) o) is.named in
      row-found role is.places is.i is.name d (slice_get channels d) refl
      (ap (row_fits (first_side channels lines) role is.places) (sym at) ∙ row) is.named (not-true (is_named (take is.i lines) is.name) fresh)

  -- ---- channels of two roles are two
  named-before : (xs : List AxiLine) (i j : ℕ) (l : AxiLine) (name : List ℕ) → slice_get xs i ≡ Some l → i < j → names_channel name l.entry ≡ true
      → is_named (take j xs) name ≡ true
  named-before [] i j l name at lt h = (cc)
  named-before (x ∷ xs) i zero l name at lt h = absurd (omega (arith, lt))
  named-before (x ∷ xs) zero (suc j) l name at lt h =
      let same : x ≡ l = same_Some x l at in
      ap (λ b. b || is_named (take j xs) name) (ap (λ (y : AxiLine). names_channel name y.entry) same ∙ h)
  named-before (x ∷ xs) (suc i) (suc j) l name at lt h =
      ap (λ b. names_channel name x.entry || b) (named-before xs i j l name at (omega (arith, lt)) h)
      ∙ or_right (names_channel name x.entry) true refl

  one-name : (role : Role) (d : ℕ) (is : IsOf role d) (name : List ℕ) → name ≡ is.name → names_channel name is.line.entry ≡ true
  one-name role d is name e = ap (names_channel name) is.says ∙ (bytes_eq-Decides name is.name).1 e

  twice : (role other : Role) (d : ℕ) (a : IsOf role d) (b : IsOf other d) → a.i < b.i → ⊥
  twice role other d a b lt =
      let x = row-of role d a in
      let y = row-of other d b in
      let same : x.x ≡ y.x = same_Some x.x y.x (sym x.there ∙ y.there) in
      let names : b.name ≡ a.name = y.own ∙ ap (λ (k : Channel). k.name) (sym same) ∙ sym x.own in
      let h : true ≡ false = sym (named-before lines a.i b.i a.line b.name a.at lt (one-name role d a b.name names)) ∙ y.fresh in
      absurd (cc)

  apart-at : (role other : Role) (d : ℕ) (a : IsOf role d) (b : IsOf other d) → eqb (role_number role) (role_number other) ≡ false → ⊥
  apart-at role other d a b n = ⊎_elim
      (λ (lt : a.i < b.i). twice role other d a b lt)
      (λ (ge : b.i ≤ a.i). ⊎_elim
      (λ (lt : b.i < a.i). twice other role d b a lt)
      (λ (le : a.i ≤ b.i).
      let i : a.i ≡ b.i = omega (arith, ge, le) in
      let line : a.line ≡ b.line = same_Some a.line b.line (sym a.at ∙ ap (slice_get lines) i ∙ b.at) in
      let entry : E.Channel role a.name a.places ≡ E.Channel other b.name b.places = sym a.says ∙ ap (λ (l : AxiLine). l.entry) line ∙ b.says in
      let roles : role ≡ other = cc in
      let h : true ≡ false = sym (eq-eqb (role_number role) (role_number other) (ap role_number roles)) ∙ n in
      absurd (cc))
      (cases_lt b.i a.i))
      (cases_lt a.i b.i)

  pub two : (role other : Role) (c d : ℕ) → IsOf role c → IsOf other d → eqb (role_number role) (role_number other) ≡ false → eqb c d ≡ false
  two role other c d a b n = ne_eqb c d (λ same. apart-at role other d (subst (IsOf role) same a) b n)

  -- ---- they share a side
  abbrev Found : (AxiLine → Bool) → List AxiLine → Type 0
  Found p xs = (k : ℕ) × (y : AxiLine) × (find p xs ≡ Some y) × (slice_get xs k ≡ Some y) × (p y ≡ true)

  found-by : (p : AxiLine → Bool) (x : AxiLine) (xs : List AxiLine) (l : AxiLine) → p l ≡ true → (b : Bool) → p x ≡ b → (j : ℕ)
      → slice_get (x ∷ xs) j ≡ Some l → ((i : ℕ) → slice_get xs i ≡ Some l → Found p xs) → Found p (x ∷ xs)
  found-by p x xs l h true t j at rest = (0, x, ap (λ b. cond b (Some x) (find p xs)) t, refl, t)
  found-by p x xs l h false t zero at rest =
      let same : x ≡ l = same_Some x l at in
      let z : false ≡ true = sym t ∙ ap p same ∙ h in absurd (cc)
  found-by p x xs l h false t (suc j) at rest =
      let (k, y, f, g, q) = rest j at in
      (suc k, y, ap (λ b. cond b (Some x) (find p xs)) t ∙ f, g, q)

  find-at : (p : AxiLine → Bool) (xs : List AxiLine) (i : ℕ) (l : AxiLine) → slice_get xs i ≡ Some l → p l ≡ true → Found p xs
  find-at p [] i l at h = (cc)
  find-at p (x ∷ xs) i l at h = found-by p x xs l h (p x) refl i at (λ j there. find-at p xs j l there h)

  side-there : (role : Role) (places : List (Option ℕ)) (o : Option Channel) (first : Option Bool) → row_fits first role places o ≡ true
      → (s : Bool) × (option_map (λ (c : Channel). side role c.dir) o ≡ Some s)
  side-there role places None first h = (cc)
  side-there role places (Some x) first h = (side role x.dir, refl)

  entry-side : (i : ℕ) (entry : Entry) → line_fits beat channels lines (take i lines) entry ≡ true → is_channel entry ≡ true
      → (s : Bool) × (side_of channels entry ≡ Some s)
  entry-side i (E.Channel role name places) h is = side-there role places (channel_at channels name) (first_side channels lines)
      (right_of (not (is_named (take i lines) name)) (row_fits (first_side channels lines) role places (channel_at channels name)) h)
  entry-side i (E.Memory words) h is = (cc)
  entry-side i (E.Data places) h is = (cc)

  pub first-there : (role : Role) (d : ℕ) → IsOf role d → (s : Bool) × (first_side channels lines ≡ Some s)
  first-there role d is =
      let (k, y, f, g, q) = find-at (λ (l : AxiLine). is_channel l.entry) lines is.i is.line is.at (ap is_channel is.says) in
      let (s, t) = entry-side k y.entry (fits k y g) q in
      (s, ap (side_under channels) f ∙ t)

  pub side-is : (role : Role) (d : ℕ) (s : Bool) → IsOf role d → first_side channels lines ≡ Some s
      → (x : Channel) × (slice_get channels d ≡ Some x) × (same s (side role x.dir) ≡ true)
  side-is role d s is e = let row = row-of role d is in (row.x, row.there, ap (λ o. is_side o (side role row.x.dir)) (sym e) ∙ row.side)

  -- ---- a word of data has at most 128 bits
  module _ (each : All IsChannel channels) where
    width-small : (x : Channel) (o : Option ℕ) (d place width : ℕ) → slice_get channels d ≡ Some x → slice_get x.widths place ≡ o
        → is_exactly width o ≡ true
        → width ≤ 128
    width-small x None d place width at own h = (cc)
    width-small x (Some n) d place width at own h =
        let good : IsChannel x = subst IsChannel (get_or_from_slice_get channels d x x at) (each d x (slice_get_within channels d x at)) in
        let small = good.widths place n (slice_get_within x.widths place n own) in
        let same = get_or_from_slice_get x.widths place n n own in
        let own_is = eqb-true n width h in
        omega (arith, small, same, own_is)

    row-small : (o : Option Channel) (f : Option ℕ) (width place : ℕ) → option_and_then (λ c. slice_get channels c) f ≡ o
        → has_width width place o ≡ true
        → width ≤ 128
    row-small None f width place e h = (cc)
    row-small (Some x) None width place e h = (cc)
    row-small (Some x) (Some d) width place e h = width-small x (slice_get x.widths place) d place width e refl h

    entry-small : (width place : ℕ) (entry : Entry) → is_free channels width place entry ≡ true → width ≤ 128
    entry-small width place (E.Channel role name places) h = row-small (channel_at channels name) (channel_named channels name) width place refl
        (left_of (has_width width place (channel_at channels name)) (not (list_any (same_place (Some place)) places)) h)
    entry-small width place (E.Memory words) h = (cc)
    entry-small width place (E.Data places) h = (cc)

    line-small : (width place : ℕ) (o : Option AxiLine) → is_free_under channels width place o ≡ true → width ≤ 128
    line-small width place None h = (cc)
    line-small width place (Some l) h = entry-small width place l.entry h

    pub data-small : (places : List ℕ) → data_fits beat channels lines places ≡ true → 8 * beat ≤ 128
    data-small (wdata ∷ wstrb ∷ rdata ∷ []) h = line-small (8 * beat) wdata (line_of lines WriteData)
        (left_of (is_free_under channels (8 * beat) wdata (line_of lines WriteData)) (is_free_under channels beat wstrb (line_of lines WriteData)
        && is_free_under channels (8 * beat) rdata (line_of lines ReadData)) h)
    data-small places h = (cc)

-- ---- all of it
one-inward : (d : Dir) → same false (same true (is_inward d)) ≡ true → cond (is_inward d) false true ≡ true
one-inward Inward h = (cc)
one-inward Outward h = refl

one-outward : (d : Dir) → same false (same false (is_inward d)) ≡ true → is_inward d ≡ true
one-outward Inward h = refl
one-outward Outward h = (cc)

outward-at : (o : Option Channel) (x : Channel) → o ≡ Some x → same false (same true (is_inward x.dir)) ≡ true → has_dir Outward o ≡ true
outward-at o x at h = ap (has_dir Outward) at ∙ one-inward x.dir h

inward-at : (o : Option Channel) (x : Channel) → o ≡ Some x → same false (same false (is_inward x.dir)) ≡ true → has_dir Inward o ≡ true
inward-at o x at h = ap (has_dir Inward) at ∙ one-outward x.dir h

-- the parts of writes and of reads
abbrev made_writes : AddressPorts → End → End → Writes
made_writes x y z = record { aw = x; w = y.channel; last = y.last; b = z.channel; id = z.id }

writes-parts : (aw : Option AddressPorts) (w b : Option End) (ws : Writes) → writes_from aw w b ≡ Some ws
    → (y : End) × (z : End) × (aw ≡ Some ws.aw) × (w ≡ Some y) × (b ≡ Some z) × (ws.w ≡ y.channel) × (ws.b ≡ z.channel)
writes-parts None w b ws h = (cc)
writes-parts (Some x) None b ws h = (cc)
writes-parts (Some x) (Some y) None ws h = (cc)
writes-parts (Some x) (Some y) (Some z) ws h =
    let e : made_writes x y z ≡ ws = same_Some (made_writes x y z) ws h in
    (y, z, ap (λ (k : Writes). Some k.aw) e, refl, refl, sym (ap (λ (k : Writes). k.w) e), sym (ap (λ (k : Writes). k.b) e))

abbrev made_reads : AddressPorts → End → Reads
made_reads x y = record { ar = x; r = y.channel; id = y.id; last = y.last }

reads-parts : (ar : Option AddressPorts) (r : Option End) (rs : Reads) → reads_from ar r ≡ Some rs
    → (y : End) × (ar ≡ Some rs.ar) × (r ≡ Some y) × (rs.r ≡ y.channel)
reads-parts None r rs h = (cc)
reads-parts (Some x) None rs h = (cc)
reads-parts (Some x) (Some y) rs h =
    let e : made_reads x y ≡ rs = same_Some (made_reads x y) rs h in
    (y, ap (λ (k : Reads). Some k.ar) e, refl, sym (ap (λ (k : Reads). k.r) e))

some-of : {X : Type 0} (P : X → Type 0) (o : Option X) (x : X) → o ≡ Some x → IfSome o P → P x
some-of P None x e h = (cc)
some-of P (Some y) x e h = subst P (same_Some y x e) h

address-there : (channels : List Channel) (ports : AddressPorts) → AreAddressPorts channels ports → has_address channels ports ≡ true
address-there channels ports are = ap (λ o. address_fits (widths_of o) (places_of ports)) are.there ∙ are.fit

abbrev made_ports : ℕ → ℕ → Writes → Reads → DataPorts → Ports
made_ports beat n ws rs d = record { beat = beat; words = n; writes = ws; reads = rs; places = d }

some-ports : (beat : ℕ) (words : Option ℕ) (writes : Option Writes) (reads : Option Reads) (places : Option DataPorts) (ports : Ports)
    → ports_from beat words writes reads places ≡ Some ports
    → (beat ≡ ports.beat) × (writes ≡ Some ports.writes) × (reads ≡ Some ports.reads) × (places ≡ Some ports.places)
some-ports beat None writes reads places ports h = (cc)
some-ports beat (Some n) None reads places ports h = (cc)
some-ports beat (Some n) (Some ws) None places ports h = (cc)
some-ports beat (Some n) (Some ws) (Some rs) None ports h = (cc)
some-ports beat (Some n) (Some ws) (Some rs) (Some d) ports h =
    let e : made_ports beat n ws rs d ≡ ports = same_Some (made_ports beat n ws rs d) ports h in
    (ap (λ (k : Ports). k.beat) e, ap (λ (k : Ports). Some k.writes) e, ap (λ (k : Ports). Some k.reads) e, ap (λ (k : Ports). Some k.places) e)

-- ---- where nothing is lacking
record IsWhole (axi : Axi) (channels : List Channel) : Type 0 where
  pub words : is_none axi.memory ≡ false
  pub places : is_none axi.places ≡ false
  pub named : names_all axi (length channels) ≡ true
  pub side : takes_writes channels axi.writes ≡ false

is-whole : (axi : Axi) (channels : List Channel) → first (lacks axi channels) ≡ None → IsWhole axi channels
is-whole axi channels h =
    let all = no-first (lacks axi channels) h in
    let unnamed = not (names_all axi (length channels)) in
    let a = told_if (is_none axi.memory) Words in
    let b = told_if (is_none axi.places) Places in
    let c = told_if unnamed Channels in
    let d = told_if (takes_writes channels axi.writes) Side in
    let behind_a = nil_right a (b ++ (c ++ d)) all in
    let behind_b = nil_right b (c ++ d) behind_a in record {
      words = told_none (is_none axi.memory) Words (nil_left a (b ++ (c ++ d)) all);
      places = told_none (is_none axi.places) Places (nil_left b (c ++ d) behind_a);
      named = not-false (names_all axi (length channels)) (told_none unnamed Channels (nil_left c d behind_b));
      side = told_none (takes_writes channels axi.writes) Side (nil_right c d behind_b);
    }

ports-there : (beat : ℕ) (words : Option ℕ) (writes : Option Writes) (reads : Option Reads) (places : Option DataPorts) (rest : Bool)
    → is_none words ≡ false → is_none places ≡ false → (is_some writes && (is_some reads && rest)) ≡ true
    → ports_from beat words writes reads places ≡ None → ⊥
ports-there beat None writes reads places rest a b c h = (cc)
ports-there beat (Some n) None reads places rest a b c h = absurd (let z : false ≡ true = c in cc)
ports-there beat (Some n) (Some ws) None places rest a b c h = absurd (let z : false ≡ true = c in cc)
ports-there beat (Some n) (Some ws) (Some rs) None rest a b c h = (cc)
ports-there beat (Some n) (Some ws) (Some rs) (Some d) rest a b c h = (cc)

pub no-lack : (axi : Axi) (channels : List Channel) → first (lacks axi channels) ≡ None → ports_of axi ≡ None → ⊥
no-lack axi channels h none =
    let whole = is-whole axi channels h in
    ports-there axi.beat axi.memory axi.writes axi.reads axi.places (list_all (lack.is_named axi) (range_with_len 0 (length channels)))
    whole.words whole.places whole.named none

no-request : (s inward : Bool) → inward ≡ false → same s (same true inward) ≡ true → s ≡ false
no-request true inward e h = absurd (let z : true ≡ false = sym h ∙ e in cc)
no-request false inward e h = refl

module _ (text : AxiText) (channels : List Channel) (axi : Axi) (ports : Ports) (table : IsTable channels) (bound : IsBound text channels axi)
    (none : first (lacks axi channels) ≡ None) (is : ports_of axi ≡ Some ports) where
  abbrev ends : Ends
  ends = ends_of channels text.lines

  abbrev Of : Role → ℕ → Type 0
  Of role d = IsOf text.beat channels text.lines bound.fits role d

  abbrev differing : (role other : Role) (c d : ℕ) → Of role c → Of other d → eqb (role_number role) (role_number other) ≡ false → eqb c d ≡ false
  differing = two text.beat channels text.lines bound.fits

  pub are-served : AreServed channels ports
  are-served =
      let parts = some-ports axi.beat axi.memory axi.writes axi.reads axi.places ports is in
      let ofs = are-of text.beat channels text.lines bound.fits in
      let writes : writes_from ends.aw ends.w ends.b ≡ Some ports.writes = sym (ap (λ (a : Axi). a.writes) bound.axi_is) ∙ parts.1 in
      let reads : reads_from ends.ar ends.r ≡ Some ports.reads = sym (ap (λ (a : Axi). a.reads) bound.axi_is) ∙ parts.2 in
      let places : ends.places ≡ Some ports.places = sym (ap (λ (a : Axi). a.places) bound.axi_is) ∙ parts.3 in
      let (y, z, eaw, ew, eb, w_is, b_is) = writes-parts ends.aw ends.w ends.b ports.writes writes in
      let (v, ear, er, r_is) = reads-parts ends.ar ends.r ports.reads reads in
      let aw : Of WriteAddress ports.writes.aw.channel =
      some-of (λ (a : AddressPorts). Of WriteAddress a.channel) ends.aw ports.writes.aw eaw ofs.aw in
      let w : Of WriteData ports.writes.w = subst (Of WriteData) (sym w_is) (some-of (λ (x : End). Of WriteData x.channel) ends.w y ew ofs.w) in
      let b : Of WriteResponse ports.writes.b =
      subst (Of WriteResponse) (sym b_is) (some-of (λ (x : End). Of WriteResponse x.channel) ends.b z eb ofs.b) in
      let ar : Of ReadAddress ports.reads.ar.channel = some-of (λ (a : AddressPorts). Of ReadAddress a.channel) ends.ar ports.reads.ar ear ofs.ar in
      let r : Of ReadData ports.reads.r = subst (Of ReadData) (sym r_is) (some-of (λ (x : End). Of ReadData x.channel) ends.r v er ofs.r) in
      let (s, there) = first-there text.beat channels text.lines bound.fits WriteAddress ports.writes.aw.channel aw in
      let at = side-is text.beat channels text.lines bound.fits in
      let (x, x_at, x_side) = at WriteAddress ports.writes.aw.channel s aw there in
      let out : is_inward x.dir ≡ false = sym (ap (takes_writes channels) parts.1 ∙ ap comes_in x_at) ∙ (is-whole axi channels none).side in
      let s_is : s ≡ false = no-request s (is_inward x.dir) out x_side in
      let (xw, w_at, w_side) = at WriteData ports.writes.w s w there in
      let (xb, b_at, b_side) = at WriteResponse ports.writes.b s b there in
      let (xar, ar_at, ar_side) = at ReadAddress ports.reads.ar.channel s ar there in
      let (xr, r_at, r_side) = at ReadData ports.reads.r s r there in
      let now : (q i : Bool) → same s (same q i) ≡ true → same false (same q i) ≡ true = λ q i h. subst (λ t. same t (same q i) ≡ true) s_is h in
      let wports : AreWrites channels (Some ports.writes) = subst (AreWrites channels) parts.1 (bound-writes channels text axi bound) in
      let rports : AreReads channels (Some ports.reads) = subst (AreReads channels) parts.2 (bound-reads channels text axi bound) in
      let beat : ports.beat ≡ text.beat = sym parts.0 ∙ bound-beat channels text axi bound in
      let (numbers, fit) = some-of (λ (d : DataPorts). (ps : List ℕ) × (data_fits text.beat channels text.lines ps ≡ true)) ends.places ports.places
      places ofs.served in
      let small = data-small text.beat channels text.lines bound.fits table.each numbers fit in record {
        aw = outward-at _ x x_at (now true (is_inward x.dir) x_side);
        w = outward-at _ xw w_at (now true (is_inward xw.dir) w_side);
        b = inward-at _ xb b_at (now false (is_inward xb.dir) b_side);
        ar = outward-at _ xar ar_at (now true (is_inward xar.dir) ar_side);
        r = inward-at _ xr r_at (now false (is_inward xr.dir) r_side);
        w_aw = differing WriteData WriteAddress _ _ w aw refl;
        ar_aw = differing ReadAddress WriteAddress _ _ ar aw refl;
        ar_w = differing ReadAddress WriteData _ _ ar w refl;
        r_b = differing ReadData WriteResponse _ _ r b refl;
        writes = address-there channels ports.writes.aw wports.aw;
        reads = address-there channels ports.reads.ar rports.ar;
        beat = ap is_beat beat ∙ text.power;
        small = omega (arith, small, beat);
      }
