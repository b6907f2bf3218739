-- How `commit` goes, step by step.
use Rattle.std.proofs.Common.{◌≡◌, ℕ, ◌+◌, ◌==◌, ◌&&◌, ◌≤◌, ◌++◌, Bool, true, false, cond, List, [], ◌∷◌, Option, None, Some}
use Rattle.std.proofs.Common.{refl, ap, sym, subst, ◌∙◌, arith, ltb-true}
use Rattle.std.specs.Prelude.{slice_get, slice_index, slice_set}
use Rattle.std.specs.Option.{option_map}
use Rattle.std.proofs.lemmas.Bool.Decides.{nat_tests}
use Rattle.std.proofs.lemmas.Option.{same_Some}
use Rattle.axi_burst.specs.declared.axi.AddressPorts.{AddressPorts}
use Rattle.axi_burst.specs.Passes.{IsAddress, places_of}
use Rattle.axi_burst.specs.declared.ports.Word.TheVariants.{Id, Addr, Len, Size, Burst}
use Rattle.axi_burst.specs.Ports.{address_fits, place_fits}
use Rattle.axi_burst.specs.Forms.{is_beat}
use Rattle.axi_burst.specs.Transfers.{FitsAddress}
use Rattle.axi_burst.proofs.Fitting.{content_fits, is-address}
use Rattle.env_script.proofs.run_model_lemmas.Contents.{content-fits}
use Rattle.trace_model.specs.declared.channel.Channel.{Channel}
use Rattle.trace_model.specs.declared.row.Row.{Row}
use Rattle.trace_model.specs.vidi_bits.Number.{has}
use Rattle.trace_model.specs.Packet.{Fit, widths_of}
use Rattle.trace_model.specs.Row.{IsOver, all_widths, content_at}
use Rattle.env_script.specs.Offer.{EndsAreCompletions}
use Rattle.trace_model.proofs.vidi_bits_lemmas.Bools.{right_of}
use Rattle.axi_memory.specs.declared.served.Ports.{Ports}
use Rattle.axi_memory.specs.declared.served.Served.{Served}
use Rattle.axi_memory.specs.declared.turn.Turn.{Turn}
use Rattle.axi_memory.specs.Memory.{merged, word_of, written}
use Rattle.axi_memory.specs.Stands.{AreBeats, AreServed, AreTurns, IsBeat, IsTurn, Obeys, StandsFor, first_turn, has_address, later, moved}
use Rattle.axi_memory.specs.Stands.{next_read, next_shown}
use Rattle.axi_memory.specs.Stands.{next_words, next_write, served, standing, wants, written_under}
use Rattle.axi_memory.proofs.Going.{stands-later}

pub beat-some : (beat : ℕ) → is_beat beat ≡ true → 1 ≤ beat
beat-some beat h = grind (arith, nat_tests)

-- ---- an address that a row brings fits
fits-under : (ports : AddressPorts) (numbers : List ℕ) (o : Option Channel) → address_fits (widths_of o) (places_of ports) ≡ true
    → ((x : Channel) → o ≡ Some x → Fit x.widths numbers) → FitsAddress ports numbers
fits-under ports numbers None h f =
    let rest = place_fits [] Len ports.len && (place_fits [] Size ports.size && place_fits [] Burst ports.burst) in
    let z : false ≡ true = right_of (place_fits [] Id ports.id) (place_fits [] Addr (Some ports.addr) && rest) h in
    absurd (cc)
fits-under ports numbers (Some x) h f = content_fits ports x.widths numbers h (f x refl)

pub asked-fits : (channels : List Channel) (ports : AddressPorts) (contents : List ℕ) → Fit (all_widths channels) contents
    → has_address channels ports ≡ true → FitsAddress ports (content_at channels contents ports.channel)
asked-fits channels ports contents f h = fits-under ports (content_at channels contents ports.channel) (slice_get channels ports.channel) h
    (λ x at. content-fits channels contents f ports.channel x at)

-- ---- the write beat
pub stored : (p : Served) (row : Row) (turn : Option Turn) (t : Turn) (words more content : List ℕ) (at new strobe : ℕ)
    → has row.ends p.ports.writes.w ≡ true → turn ≡ Some t → content ≡ content_at p.channels row.contents p.ports.writes.w → at ≡ word_of p t
    → new ≡ slice_index content p.ports.places.wdata → strobe ≡ slice_index content p.ports.places.wstrb
    → more ≡ slice_set words at (merged p.ports.beat (slice_index words at) new strobe) → more ≡ next_words p row turn words
stored p row turn t words more content at new strobe h is c a n s e =
    let put : ℕ → ℕ → ℕ → List ℕ = λ k x y. slice_set words k (merged p.ports.beat (slice_index words k) x y) in
    e ∙ ap (λ k. put k new strobe) a ∙ ap (λ x. put (word_of p t) x strobe) n ∙ ap (put (word_of p t) (slice_index content p.ports.places.wdata)) s
    ∙ ap (λ xs. written p words (xs, t)) c
    ∙ sym (ap (written_under p words (content_at p.channels row.contents p.ports.writes.w)) is)
    ∙ sym (ap (λ b. cond b (written_under p words (content_at p.channels row.contents p.ports.writes.w) turn) words) h)

-- ---- the turns behind a row
module _ (channels : List Channel) (ports : Ports) (is : AreServed channels ports) (row : Row) (over : IsOver channels row) where
  abbrev p : Served
  p = served channels ports

  first-asked : (address : AddressPorts) → has_address channels address ≡ true → IsAddress (first_turn p address row).ask
  first-asked address h = is-address ports.beat address (record { content = content_at channels row.contents address.channel; at = 0 }) is.beat
      (asked-fits channels address row.contents over.contents h)

  moved-turn : (turn : Option Turn) → wants turn ≡ true → AreTurns turn → AreTurns (option_map moved turn)
  moved-turn None w are t at = absurd (let z : false ≡ true = w in cc)
  moved-turn (Some x) w are t at =
      let own = are x refl in
      let more = ltb-true x.beat x.ask.beats w in
      subst IsTurn (same_Some (moved x) t at) (record { ask = own.ask; within = omega (arith, more) })

  write-turns : (turn : Option Turn) (b aw w : Bool) → (w ≡ true → wants turn ≡ true) → AreTurns turn
      → AreTurns (cond b None (cond aw (Some (first_turn p ports.writes.aw row)) (cond w (option_map moved turn) turn)))
  write-turns turn true aw w o are = λ t at. absurd (let z : None ≡ Some t = at in cc)
  write-turns turn false true w o are = λ t at.
      subst IsTurn (same_Some (first_turn p ports.writes.aw row) t at) (record { ask = first-asked ports.writes.aw is.writes; within = omega arith })
  write-turns turn false false true o are = moved-turn turn (o refl) are
  write-turns turn false false false o are = are

  beat-later : (x : Turn) (end : Bool) → (x.beat + 1 == x.ask.beats) ≡ end → IsBeat x → AreBeats (cond end None (Some (moved x)))
  beat-later x true e own t at = (cc)
  beat-later x false e own t at =
      subst IsBeat (same_Some (moved x) t at) (record { ask = own.ask; within = let l = own.within in grind (arith, nat_tests) })

  later-beats : (turn : Option Turn) → AreBeats turn → AreBeats (later turn)
  later-beats None are = are
  later-beats (Some x) are = beat-later x (x.beat + 1 == x.ask.beats) refl (are x refl)

  read-beats : (turn : Option Turn) (ar r : Bool) → AreBeats turn
      → AreBeats (cond ar (Some (first_turn p ports.reads.ar row)) (cond r (later turn) turn))
  read-beats turn true r are = λ t at.
      let ask = first-asked ports.reads.ar is.reads in
      let least = ask.least in
      subst IsBeat (same_Some (first_turn p ports.reads.ar row) t at) (record { ask = ask; within = omega (arith, least) })
  read-beats turn false true are = later-beats turn are
  read-beats turn false false are = are

  pub write-kept : (writing reading : Option Turn) (shown : ℕ) → EndsAreCompletions row → Obeys p (standing writing reading shown) row
      → AreTurns writing
      → AreTurns (next_write p row writing)
  write-kept writing reading shown ends obeys are =
      write-turns writing (has row.ends ports.writes.b) (has row.ends ports.writes.aw.channel) (has row.ends ports.writes.w)
      (λ t. obeys.w (sym (ends ports.writes.w) ∙ t)) are

  pub read-kept : (reading : Option Turn) → AreBeats reading → AreBeats (next_read p row reading)
  read-kept reading are = read-beats reading (has row.ends ports.reads.ar.channel) (has row.ends ports.reads.r) are

-- ---- all of it
pub committed : (p : Served) (rows : List Row) (row : Row) (writing reading : Option Turn) (shown : ℕ) (words : List ℕ) (cycle : ℕ)
    (writes reads : Option Turn) (shows : ℕ) (more : List ℕ) → more ≡ next_words p row writing words → writes ≡ next_write p row writing
    → reads ≡ next_read p row reading → shows ≡ next_shown p row reads more shown → EndsAreCompletions row
    → Obeys p (standing writing reading shown) row → StandsFor p writing reading shown words cycle rows
    → StandsFor p writes reads shows more (cycle + 1) (rows ++ row ∷ [])
committed p rows row writing reading shown words cycle writes reads shows more w a r s ends obeys stands =
    let now = stands-later p rows row writing reading shown words cycle ends obeys stands in
    let all = rows ++ row ∷ [] in
    let w1 = next_words p row writing words in
    let r1 = next_read p row reading in
    let shown_is : shows ≡ next_shown p row r1 w1 shown = s ∙ ap (λ t. next_shown p row t more shown) r ∙ ap (λ ws. next_shown p row r1 ws shown) w in
    subst (λ ws. StandsFor p writes reads shows ws (cycle + 1) all) (sym w)
    (subst (λ n. StandsFor p writes reads n w1 (cycle + 1) all) (sym shown_is)
    (subst (λ t. StandsFor p writes t (next_shown p row r1 w1 shown) w1 (cycle + 1) all) (sym r)
    (subst (λ t. StandsFor p t r1 (next_shown p row r1 w1 shown) w1 (cycle + 1) all) (sym a) now)))
