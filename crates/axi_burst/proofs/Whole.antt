-- A bound file has the channels that its lines name: none is left out.
use Rattle.std.proofs.Common.{◌≡◌, ℕ, ◌+◌, Bool, true, false, not, ◌&&◌, ◌||◌, ◌==◌, List, [], ◌∷◌, Option, None, Some, is_some}
use Rattle.std.proofs.Common.{refl, ap, subst, sym, ◌∙◌, slice_get, take, Ok}
use Rattle.std.specs.Prelude.{option_and_then}
use Rattle.vidi_lines.specs.vidi_bits.Findings.{told_if}
use Rattle.std.proofs.lemmas.Bool.{or_right}
use Rattle.vidi_lines.proofs.vidi_bits_lemmas.Bools.{left_of, or_none, right_of}
use Rattle.vidi_lines.proofs.vidi_bits_lemmas.FindingLaws.{told_none}
use Rattle.vidi_lines.proofs.vidi_bits_lemmas.Lists.{nil_left, nil_right}
use Rattle.trace_model.specs.declared.channel.Channel.{Channel}
use Rattle.axi_burst.specs.declared.axi.AddressPorts.{AddressPorts}
use Rattle.axi_burst.specs.declared.axi.Axi.{Axi}
use Rattle.axi_burst.specs.declared.axi.Reads.{Reads}
use Rattle.axi_burst.specs.declared.axi.Writes.{Writes}
use Rattle.axi_burst.specs.declared.axi_text.AxiLine.{AxiLine}
use Rattle.axi_burst.specs.declared.axi_text.AxiText.{AxiText}
use Rattle.axi_burst.specs.declared.axi_text.Entry.{Entry}
use Rattle.axi_burst.specs.declared.axi_text.Entry.TheVariants as E
use Rattle.axi_burst.specs.declared.axi_text.Role.{Role}
use Rattle.axi_burst.specs.declared.axi_text.Role.TheVariants.{WriteAddress, WriteData, WriteResponse, ReadAddress, ReadData}
use Rattle.axi_burst.specs.declared.axi.DataPorts.{DataPorts}
use Rattle.axi_burst.specs.declared.error.AxiError.TheVariants as e
use Rattle.axi_burst.specs.declared.ports.End.{End}
use Rattle.axi_burst.specs.declared.ports.Ends.{Ends}
use Rattle.axi_burst.specs.Kinds.{has_role, is_of, is_whole, role_number, same}
use Rattle.axi_burst.specs.Ports.{address_fits, address_ports, differ, no_ends, with_channel, words_fit}
use Rattle.axi_burst.specs.Binding.{channel_at, channel_named, ends_from, ends_of, faults_from, first_side, is_named, is_side, line_fits}
use Rattle.axi_burst.specs.Binding.{BindsEnds, IsBound, axi_from, port_faults, reads_from, row_fits, side, with_entry, with_found, writes_from}

-- ---- tests
or-assoc : (a b c : Bool) → ((a || b) || c) ≡ (a || (b || c))
or-assoc true b c = refl
or-assoc false b c = refl

pub not-false : (b : Bool) → not b ≡ false → b ≡ true
not-false true h = refl
not-false false h = (cc)

-- ---- which channels are said
abbrev has_end : Ends → Role → Bool
has_end ends WriteAddress = is_some ends.aw
has_end ends WriteData = is_some ends.w
has_end ends WriteResponse = is_some ends.b
has_end ends ReadAddress = is_some ends.ar
has_end ends ReadData = is_some ends.r

abbrev With : Ends → Ends → Role → Role → Type 0
With new ends own role = has_end new role ≡ (has_end ends role || (role_number role == role_number own))

set_aw : (ends : Ends) (x : Option AddressPorts) (role : Role) → is_some x ≡ true → With (record ends { aw = x }) ends WriteAddress role
set_aw ends x WriteAddress h = h ∙ sym (or_right (is_some ends.aw) true refl)
set_aw ends x WriteData h = or_none (is_some ends.w)
set_aw ends x WriteResponse h = or_none (is_some ends.b)
set_aw ends x ReadAddress h = or_none (is_some ends.ar)
set_aw ends x ReadData h = or_none (is_some ends.r)

set_ar : (ends : Ends) (x : Option AddressPorts) (role : Role) → is_some x ≡ true → With (record ends { ar = x }) ends ReadAddress role
set_ar ends x WriteAddress h = or_none (is_some ends.aw)
set_ar ends x WriteData h = or_none (is_some ends.w)
set_ar ends x WriteResponse h = or_none (is_some ends.b)
set_ar ends x ReadAddress h = h ∙ sym (or_right (is_some ends.ar) true refl)
set_ar ends x ReadData h = or_none (is_some ends.r)

set_w : (ends : Ends) (x : End) (role : Role) → With (record ends { w = Some x }) ends WriteData role
set_w ends x WriteAddress = or_none (is_some ends.aw)
set_w ends x WriteData = sym (or_right (is_some ends.w) true refl)
set_w ends x WriteResponse = or_none (is_some ends.b)
set_w ends x ReadAddress = or_none (is_some ends.ar)
set_w ends x ReadData = or_none (is_some ends.r)

set_b : (ends : Ends) (x : End) (role : Role) → With (record ends { b = Some x }) ends WriteResponse role
set_b ends x WriteAddress = or_none (is_some ends.aw)
set_b ends x WriteData = or_none (is_some ends.w)
set_b ends x WriteResponse = sym (or_right (is_some ends.b) true refl)
set_b ends x ReadAddress = or_none (is_some ends.ar)
set_b ends x ReadData = or_none (is_some ends.r)

set_r : (ends : Ends) (x : End) (role : Role) → With (record ends { r = Some x }) ends ReadData role
set_r ends x WriteAddress = or_none (is_some ends.aw)
set_r ends x WriteData = or_none (is_some ends.w)
set_r ends x WriteResponse = or_none (is_some ends.b)
set_r ends x ReadAddress = or_none (is_some ends.ar)
set_r ends x ReadData = sym (or_right (is_some ends.r) true refl)

keep_memory : (ends : Ends) (x : Option ℕ) (role : Role) → has_end (record ends { memory = x }) role ≡ (has_end ends role || false)
keep_memory ends x WriteAddress = or_none (is_some ends.aw)
keep_memory ends x WriteData = or_none (is_some ends.w)
keep_memory ends x WriteResponse = or_none (is_some ends.b)
keep_memory ends x ReadAddress = or_none (is_some ends.ar)
keep_memory ends x ReadData = or_none (is_some ends.r)

keep_places : (ends : Ends) (x : Option DataPorts) (role : Role) → has_end (record ends { places = x }) role ≡ (has_end ends role || false)
keep_places ends x WriteAddress = or_none (is_some ends.aw)
keep_places ends x WriteData = or_none (is_some ends.w)
keep_places ends x WriteResponse = or_none (is_some ends.b)
keep_places ends x ReadAddress = or_none (is_some ends.ar)
keep_places ends x ReadData = or_none (is_some ends.r)

-- ---- a line that fits says its channel
address-there : (c : ℕ) (widths : List ℕ) (places : List (Option ℕ)) → address_fits widths places ≡ true
    → is_some (address_ports c places) ≡ true
address-there c widths (id ∷ Some addr ∷ len ∷ size ∷ burst ∷ []) h = refl
address-there c widths places h = (cc)

channel-adds : (ends : Ends) (own role : Role) (c : ℕ) (widths : List ℕ) (places : List (Option ℕ)) → words_fit own widths places ≡ true
    → With (with_channel ends own c places) ends own role
channel-adds ends WriteAddress role c widths places h = set_aw ends (address_ports c places) role (address-there c widths places h)
channel-adds ends ReadAddress role c widths places h = set_ar ends (address_ports c places) role (address-there c widths places h)
channel-adds ends WriteData role c widths (last ∷ []) h = set_w ends (record { channel = c; id = None; last = last }) role
channel-adds ends WriteData role c widths places h = (cc)
channel-adds ends WriteResponse role c widths (id ∷ []) h = set_b ends (record { channel = c; id = id; last = None }) role
channel-adds ends WriteResponse role c widths places h = (cc)
channel-adds ends ReadData role c widths (id ∷ last ∷ []) h = set_r ends (record { channel = c; id = id; last = last }) role
channel-adds ends ReadData role c widths places h = (cc)

row-adds : (first : Option Bool) (ends : Ends) (own role : Role) (places : List (Option ℕ)) (c : ℕ) (row : Option Channel)
    → row_fits first own places row ≡ true → With (with_channel ends own c places) ends own role
row-adds first ends own role places c None h = (cc)
row-adds first ends own role places c (Some row) h = channel-adds ends own role c row.widths places
    (right_of (differ places) (words_fit own row.widths places)
    (right_of (is_side first (side own row.dir)) (differ places && words_fit own row.widths places) h))

found-adds : (channels : List Channel) (first : Option Bool) (ends : Ends) (own role : Role) (places : List (Option ℕ)) (found : Option ℕ)
    → row_fits first own places (option_and_then (λ c. slice_get channels c) found) ≡ true
    → With (with_found ends own places found) ends own role
found-adds channels first ends own role places None h = (cc)
found-adds channels first ends own role places (Some c) h = row-adds first ends own role places c (slice_get channels c) h

line-adds : (beat : ℕ) (channels : List Channel) (lines before : List AxiLine) (ends : Ends) (entry : Entry) (role : Role)
    → line_fits beat channels lines before entry ≡ true
    → has_end (with_entry channels ends entry) role ≡ (has_end ends role || is_of role entry)
line-adds beat channels lines before ends (E.Channel own name places) role h =
    found-adds channels (first_side channels lines) ends own role places (channel_named channels name)
    (right_of (not (is_named before name)) (row_fits (first_side channels lines) own places (channel_at channels name)) h)
line-adds beat channels lines before ends (E.Memory words) role h = keep_memory ends (Some words) role
line-adds beat channels lines before ends (E.Data places) role h = keep_places ends (with_entry channels ends (E.Data places)).places role

lines-add : (beat : ℕ) (channels : List Channel) (lines : List AxiLine) (n : ℕ) (ends : Ends) (rest : List AxiLine) (role : Role)
    → faults_from beat channels lines n rest ≡ [] → has_end (ends_from channels ends rest) role ≡ (has_end ends role || has_role rest role)
lines-add beat channels lines n ends [] role h = or_none (has_end ends role)
lines-add beat channels lines n ends (l ∷ rest) role h =
    let fits = line_fits beat channels lines (take n lines) l.entry in
    let here = told_if (not fits) (e.Port l.line) in
    let later = faults_from beat channels lines (n + 1) rest in
    let lawful : fits ≡ true = not-false fits (told_none (not fits) (e.Port l.line) (nil_left here later h)) in
    lines-add beat channels lines (n + 1) (with_entry channels ends l.entry) rest role (nil_right here later h)
    ∙ ap (λ b. b || has_role rest role) (line-adds beat channels lines (take n lines) ends l.entry role lawful)
    ∙ or-assoc (has_end ends role) (is_of role l.entry) (has_role rest role)

-- ---- and so the channels of writes, and of reads, are there exactly where lines name them
writes-there : (aw : Option AddressPorts) (w b : Option End) → same (is_some aw) (is_some w) ≡ true → same (is_some aw) (is_some b) ≡ true
    → is_some (writes_from aw w b) ≡ is_some aw
writes-there None w b h k = refl
writes-there (Some aw) None b h k = (cc)
writes-there (Some aw) (Some w) None h k = (cc)
writes-there (Some aw) (Some w) (Some b) h k = refl

reads-there : (ar : Option AddressPorts) (r : Option End) → same (is_some ar) (is_some r) ≡ true → is_some (reads_from ar r) ≡ is_some ar
reads-there None r h = refl
reads-there (Some ar) None h = (cc)
reads-there (Some ar) (Some r) h = refl

both : (a b c d : Bool) → a ≡ c → b ≡ d → same c d ≡ true → same a b ≡ true
both a b c d p q h = ap (λ x. same x b) p ∙ ap (same c) q ∙ h

module _ (beat : ℕ) (channels : List Channel) (lines : List AxiLine) where
  said : (role : Role) → port_faults beat channels lines ≡ [] → has_end (ends_of channels lines) role ≡ (has_end no_ends role || has_role lines role)
  said role h = lines-add beat channels lines 0 no_ends lines role h

  abbrev has : Role → Bool
  has role = has_role lines role

  abbrev ends : Ends
  ends = ends_of channels lines

  -- the four parts of a whole file
  with_w : is_whole lines ≡ true → same (has WriteAddress) (has WriteData) ≡ true
  with_w k = left_of (same (has WriteAddress) (has WriteData)) (same (has WriteAddress) (has WriteResponse)
      && (same (has ReadAddress) (has ReadData) && (has WriteAddress || has ReadAddress))) k

  behind_w : is_whole lines ≡ true → (same (has WriteAddress) (has WriteResponse)
      && (same (has ReadAddress) (has ReadData) && (has WriteAddress || has ReadAddress))) ≡ true
  behind_w k = right_of (same (has WriteAddress) (has WriteData)) (same (has WriteAddress) (has WriteResponse)
      && (same (has ReadAddress) (has ReadData) && (has WriteAddress || has ReadAddress))) k

  with_b : is_whole lines ≡ true → same (has WriteAddress) (has WriteResponse) ≡ true
  with_b k = left_of (same (has WriteAddress) (has WriteResponse))
      (same (has ReadAddress) (has ReadData) && (has WriteAddress || has ReadAddress)) (behind_w k)

  with_r : is_whole lines ≡ true → same (has ReadAddress) (has ReadData) ≡ true
  with_r k = left_of (same (has ReadAddress) (has ReadData)) (has WriteAddress || has ReadAddress)
      (right_of (same (has WriteAddress) (has WriteResponse))
      (same (has ReadAddress) (has ReadData) && (has WriteAddress || has ReadAddress)) (behind_w k))

  pub whole-writes : port_faults beat channels lines ≡ [] → is_whole lines ≡ true
      → is_some (writes_from ends.aw ends.w ends.b) ≡ has_role lines WriteAddress
  whole-writes h k = writes-there ends.aw ends.w ends.b
      (both (is_some ends.aw) (is_some ends.w) (has WriteAddress) (has WriteData) (said WriteAddress h) (said WriteData h) (with_w k))
      (both (is_some ends.aw) (is_some ends.b) (has WriteAddress) (has WriteResponse) (said WriteAddress h) (said WriteResponse h) (with_b k))
      ∙ said WriteAddress h

  pub whole-reads : port_faults beat channels lines ≡ [] → is_whole lines ≡ true
      → is_some (reads_from ends.ar ends.r) ≡ has_role lines ReadAddress
  whole-reads h k = reads-there ends.ar ends.r
      (both (is_some ends.ar) (is_some ends.r) (has ReadAddress) (has ReadData) (said ReadAddress h) (said ReadData h) (with_r k))
      ∙ said ReadAddress h

-- what a bound file is, of its parts
abbrev axi_with : ℕ → Option Writes → Option Reads → Ends → Axi
axi_with beat writes reads ends = record { beat = beat; writes = writes; reads = reads; memory = ends.memory; places = ends.places }

pub bound : (text : AxiText) (channels : List Channel) (ends : Ends) (writes : Option Writes) (reads : Option Reads)
    → port_faults text.beat channels text.lines ≡ [] → ends ≡ ends_of channels text.lines → writes ≡ writes_from ends.aw ends.w ends.b
    → reads ≡ reads_from ends.ar ends.r
    → IsBound text channels (record { beat = text.beat; writes = writes; reads = reads; memory = ends.memory; places = ends.places })
bound text channels ends writes reads f e w r = record {
  fits = f;
  axi_is = ap (λ (x : Option Writes). axi_with text.beat x reads ends) w
      ∙ ap (λ (x : Option Reads). axi_with text.beat (writes_from ends.aw ends.w ends.b) x ends) r
      ∙ ap (axi_from text.beat) e;
  writes = ap is_some w ∙ ap (λ (x : Ends). is_some (writes_from x.aw x.w x.b)) e
      ∙ whole-writes text.beat channels text.lines f text.whole;
  reads = ap is_some r ∙ ap (λ (x : Ends). is_some (reads_from x.ar x.r)) e
      ∙ whole-reads text.beat channels text.lines f text.whole;
}

pub moved : (beat : ℕ) (cs ds : List Channel) (ls ms : List AxiLine) (ends : Ends) → cs ≡ ds → ls ≡ ms
    → BindsEnds beat cs ls (Ok ends) → BindsEnds beat ds ms (Ok ends)
moved beat cs ds ls ms ends p q h =
    let P : List Channel → Type 0 = λ xs. BindsEnds beat xs ms (Ok ends) in
    let Q : List AxiLine → Type 0 = λ ys. BindsEnds beat cs ys (Ok ends) in
    subst P p (subst Q q h)
