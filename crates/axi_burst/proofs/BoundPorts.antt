-- The channels of a bound file are there, and the words of its addresses fit their ports.
use Rattle.std.proofs.Common.{◌≡◌, ℕ, ◌+◌, ◌<◌, Bool, true, not, ◌&&◌, List, [], ◌∷◌, length, take, Option, None, Some, IfSome, slice_get, refl, ap, sym, subst}
use Rattle.std.specs.Prelude.{option_and_then}
use Rattle.std.proofs.lemmas.Option.{slice_get_within}
use Rattle.trace_model.specs.declared.channel.Channel.{Channel}
use Rattle.vidi_lines.specs.vidi_bits.Findings.{told_if}
use Rattle.vidi_lines.proofs.vidi_bits_lemmas.Bools.{right_of}
use Rattle.vidi_lines.proofs.vidi_bits_lemmas.FindingLaws.{told_none}
use Rattle.vidi_lines.proofs.vidi_bits_lemmas.Lists.{nil_left, nil_right}
use Rattle.axi_burst.specs.declared.axi.AddressPorts.{AddressPorts}
use Rattle.axi_burst.specs.declared.axi.Axi.{Axi}
use Rattle.axi_burst.specs.declared.axi_text.AxiLine.{AxiLine}
use Rattle.axi_burst.specs.declared.axi_text.AxiText.{AxiText}
use Rattle.axi_burst.specs.declared.axi_text.Entry.{Entry}
use Rattle.axi_burst.specs.declared.axi_text.Entry.TheVariants as E
use Rattle.axi_burst.specs.declared.axi_text.Role.{Role}
use Rattle.axi_burst.specs.declared.axi_text.Role.TheVariants.{WriteAddress, WriteData, WriteResponse, ReadAddress, ReadData}
use Rattle.axi_burst.specs.declared.error.AxiError.TheVariants as e
use Rattle.axi_burst.specs.declared.ports.End.{End}
use Rattle.axi_burst.specs.declared.ports.Ends.{Ends}
use Rattle.axi_burst.specs.Binding.{IsBound, channel_at, channel_named, ends_from, ends_of, faults_from, first_side, is_named, is_side, line_fits, reads_from, row_fits, side}
use Rattle.axi_burst.specs.Binding.{with_entry, with_found, writes_from}
use Rattle.axi_burst.specs.Passes.{AreAddressPorts}
use Rattle.axi_burst.specs.Ports.{address_fits, address_ports, differ, no_ends, with_channel, words_fit}
use Rattle.axi_burst.specs.Sides.{AreReads, AreWrites}
use Rattle.axi_burst.proofs.Whole.{not-false}

abbrev AreThere : List Channel → Option AddressPorts → Type 0
AreThere channels o = IfSome o (AreAddressPorts channels)

abbrev IsThere : List Channel → Option End → Type 0
IsThere channels o = IfSome o (λ (x : End). x.channel < length channels)

pub record EndsFit (channels : List Channel) (ends : Ends) : Type 0 where
  pub aw : AreThere channels ends.aw
  pub w : IsThere channels ends.w
  pub b : IsThere channels ends.b
  pub ar : AreThere channels ends.ar
  pub r : IsThere channels ends.r

-- ---- one line more
module _ (channels : List Channel) where
  address-there : (c : ℕ) (row : Channel) (places : List (Option ℕ)) → slice_get channels c ≡ Some row → address_fits row.widths places ≡ true
      → AreThere channels (address_ports c places)
  address-there c row (id ∷ Some addr ∷ len ∷ size ∷ burst ∷ []) at h = record { channel = row; there = at; fit = h }
  address-there c row places at h = (cc)

  channel-fits : (ends : Ends) (own : Role) (c : ℕ) (row : Channel) (places : List (Option ℕ)) → slice_get channels c ≡ Some row
      → words_fit own row.widths places ≡ true → EndsFit channels ends → EndsFit channels (with_channel ends own c places)
  channel-fits ends WriteAddress c row places at h fit =
      record { aw = address-there c row places at h; w = fit.w; b = fit.b; ar = fit.ar; r = fit.r }
  channel-fits ends ReadAddress c row places at h fit =
      record { aw = fit.aw; w = fit.w; b = fit.b; ar = address-there c row places at h; r = fit.r }
  channel-fits ends WriteData c row (last ∷ []) at h fit =
      record { aw = fit.aw; w = slice_get_within channels c row at; b = fit.b; ar = fit.ar; r = fit.r }
  channel-fits ends WriteData c row places at h fit = (cc)
  channel-fits ends WriteResponse c row (id ∷ []) at h fit =
      record { aw = fit.aw; w = fit.w; b = slice_get_within channels c row at; ar = fit.ar; r = fit.r }
  channel-fits ends WriteResponse c row places at h fit = (cc)
  channel-fits ends ReadData c row (id ∷ last ∷ []) at h fit =
      record { aw = fit.aw; w = fit.w; b = fit.b; ar = fit.ar; r = slice_get_within channels c row at }
  channel-fits ends ReadData c row places at h fit = (cc)

  row-there : (first : Option Bool) (ends : Ends) (own : Role) (places : List (Option ℕ)) (c : ℕ) (row : Option Channel)
      → slice_get channels c ≡ row → row_fits first own places row ≡ true → EndsFit channels ends
      → EndsFit channels (with_channel ends own c places)
  row-there first ends own places c None at h fit = (cc)
  row-there first ends own places c (Some row) at h fit = channel-fits ends own c row places at
      (right_of (differ places) (words_fit own row.widths places)
      (right_of (is_side first (side own row.dir)) (differ places && words_fit own row.widths places) h)) fit

  found-there : (first : Option Bool) (ends : Ends) (own : Role) (places : List (Option ℕ)) (found : Option ℕ)
      → row_fits first own places (option_and_then (λ c. slice_get channels c) found) ≡ true → EndsFit channels ends
      → EndsFit channels (with_found ends own places found)
  found-there first ends own places None h fit = (cc)
  found-there first ends own places (Some c) h fit = row-there first ends own places c (slice_get channels c) refl h fit

  line-there : (beat : ℕ) (lines before : List AxiLine) (ends : Ends) (entry : Entry) → line_fits beat channels lines before entry ≡ true
      → EndsFit channels ends → EndsFit channels (with_entry channels ends entry)
  line-there beat lines before ends (E.Channel own name places) h fit =
      found-there (first_side channels lines) ends own places (channel_named channels name)
      (right_of (not (is_named before name)) (row_fits (first_side channels lines) own places (channel_at channels name)) h) fit
  line-there beat lines before ends (E.Memory words) h fit =
      record { aw = fit.aw; w = fit.w; b = fit.b; ar = fit.ar; r = fit.r }
  line-there beat lines before ends (E.Data places) h fit =
      record { aw = fit.aw; w = fit.w; b = fit.b; ar = fit.ar; r = fit.r }

  lines-there : (beat : ℕ) (lines : List AxiLine) (n : ℕ) (ends : Ends) (rest : List AxiLine) → faults_from beat channels lines n rest ≡ []
      → EndsFit channels ends → EndsFit channels (ends_from channels ends rest)
  lines-there beat lines n ends [] h fit = fit
  lines-there beat lines n ends (l ∷ rest) h fit =
      let fits = line_fits beat channels lines (take n lines) l.entry in
      let here = told_if (not fits) (e.Port l.line) in
      let later = faults_from beat channels lines (n + 1) rest in
      let lawful : fits ≡ true = not-false fits (told_none (not fits) (e.Port l.line) (nil_left here later h)) in
      lines-there beat lines (n + 1) (with_entry channels ends l.entry) rest (nil_right here later h)
      (line-there beat lines (take n lines) ends l.entry lawful fit)

  -- ---- and so of all
  writes-there : (aw : Option AddressPorts) (w b : Option End) → AreThere channels aw → IsThere channels w → IsThere channels b
      → AreWrites channels (writes_from aw w b)
  writes-there None w b f g h = tt
  writes-there (Some aw) None b f g h = tt
  writes-there (Some aw) (Some w) None f g h = tt
  writes-there (Some aw) (Some w) (Some b) f g h = record { aw = f; w = g; b = h }

  reads-there : (ar : Option AddressPorts) (r : Option End) → AreThere channels ar → IsThere channels r → AreReads channels (reads_from ar r)
  reads-there None r f g = tt
  reads-there (Some ar) None f g = tt
  reads-there (Some ar) (Some r) f g = record { ar = f; r = g }

  module _ (text : AxiText) (axi : Axi) (bound : IsBound text channels axi) where
    all-there : EndsFit channels (ends_of channels text.lines)
    all-there = lines-there text.beat text.lines 0 no_ends text.lines bound.fits (record { aw = tt; w = tt; b = tt; ar = tt; r = tt })

    pub bound-writes : AreWrites channels axi.writes
    bound-writes =
        let fit = all-there in
        let ends = ends_of channels text.lines in
        subst (AreWrites channels) (sym (ap (λ (x : Axi). x.writes) bound.axi_is)) (writes-there ends.aw ends.w ends.b fit.aw fit.w fit.b)

    pub bound-reads : AreReads channels axi.reads
    bound-reads =
        let fit = all-there in
        let ends = ends_of channels text.lines in
        subst (AreReads channels) (sym (ap (λ (x : Axi). x.reads) bound.axi_is)) (reads-there ends.ar ends.r fit.ar fit.r)

    pub bound-beat : axi.beat ≡ text.beat
    bound-beat = ap (λ (x : Axi). x.beat) bound.axi_is
