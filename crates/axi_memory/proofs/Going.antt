-- What stands for rows goes on by one more.
use Rattle.std.proofs.Common.{◌≡◌, ℕ, ◌+◌, ◌-◌, ◌==◌, ◌≤◌, ◌<◌, ◌++◌, ◌||◌, Bool, true, false, not, cond, List, [], ◌∷◌, length, reverse, take}
use Rattle.std.proofs.Common.{Option, None, Some, is_none, is_some, refl, ap, sym, ◌∙◌, arith, append-nil, length-append, ltb-true}
use Rattle.std.proofs.Common.{leb-true, eqb-true}
use Rattle.std.specs.Prelude.{slice_get}
use Rattle.std.specs.List.{position_or_len}
use Rattle.std.specs.Option.{option_map}
use Rattle.std.proofs.lemmas.Bool.{cond-true, cond-false, not_from_false, not_from_true}
use Rattle.std.proofs.lemmas.Bool.Decides.{nat_tests}
use Rattle.std.proofs.lemmas.List.{reverse-append, take_all, take-append-le}
use Rattle.axi_burst.specs.declared.transfers.Address.{Address}
use Rattle.env_script.specs.trace_model.declared.row.Row.{Row}
use Rattle.env_script.specs.trace_model.vidi_bits.Number.{has}
use Rattle.env_script.specs.trace_model.Row.{completes, content_at}
use Rattle.env_script.specs.Offer.{EndsAreCompletions}
use Rattle.axi_memory.specs.declared.served.Served.{Served}
use Rattle.axi_memory.specs.declared.turn.Turn.{Turn}
use Rattle.axi_memory.specs.Memory.{done, memory_after, read_asks, read_turn, shown_since, shows, turns, word_under, write_asks, written}
use Rattle.axi_memory.specs.Stands.{IsReading, IsWriting, Obeys, StandsFor, answers, first_turn, later, moved, next_read, next_shown}
use Rattle.axi_memory.specs.Stands.{next_words, next_write}
use Rattle.axi_memory.specs.Stands.{standing, wants, written_under}
use Rattle.axi_memory.proofs.Growing.{asks-more, beat-at, done-more, length-beats, memory-grown, memory-kept}
use Rattle.axi_memory.proofs.Kept.{no-more, turn-is}

-- ---- writes
append-none : (asks : List Address) → asks ++ [] ≡ asks
append-none asks = append-nil asks

apart : (t : Turn) → wants (Some t) ≡ true → answers (Some t) ≡ true → ⊥
apart t w a =
    let l = ltb-true t.beat t.ask.beats w in
    let g = leb-true t.ask.beats t.beat a in
    absurd (omega (arith, l, g))

-- by whether `b`, `aw` and `w` complete
abbrev write_by : Bool → Bool → Bool → Turn → Option Turn → Option Turn
write_by b aw w first turn = cond b None (cond aw (Some first) (cond w (option_map moved turn) turn))

module _ (asks asks' : List Address) (ws ws' bs bs' : ℕ) (new : Address) where
  abbrev first : Turn
  first = record { ask = new; beat = 0 }

  writes-later : (turn : Option Turn) (b aw w : Bool) → asks' ≡ asks ++ cond aw (new ∷ []) [] → ws' ≡ ws + cond w 1 0 → bs' ≡ bs + cond b 1 0
      → (b ≡ true → answers turn ≡ true) → (aw ≡ true → is_none turn ≡ true) → (w ≡ true → wants turn ≡ true)
      → IsWriting asks ws bs turn → IsWriting asks' ws' bs' (write_by b aw w first turn)
  writes-later None true aw w ea ew eb ob oa ow is = absurd (let z : false ≡ true = ob refl in cc)
  writes-later None false aw true ea ew eb ob oa ow is = absurd (let z : false ≡ true = ow refl in cc)
  writes-later None false true false ea ew eb ob oa ow (answered, beats) = (
    asks,
    ea,
    omega (arith, eb, answered),
    omega (arith, ew, beats),
    omega arith,
  )
  writes-later None false false false ea ew eb ob oa ow (answered, beats) =
      let same = ea ∙ append-none asks in (
        omega (arith, eb, answered, ap length same),
        omega (arith, ew, beats, ap (λ xs. length (turns xs)) same),
      )
  writes-later (Some t) b true w ea ew eb ob oa ow is = absurd (let z : false ≡ true = oa refl in cc)
  writes-later (Some t) true false true ea ew eb ob oa ow is = absurd (apart t (ow refl) (ob refl))
  writes-later (Some t) true false false ea ew eb ob oa ow (before, is, answered, beats, within) =
      let same = ea ∙ append-none asks ∙ is in
      let last = leb-true t.ask.beats t.beat (ob refl) in (
        omega (arith, eb, answered, ap length same, length-append before (t.ask ∷ [])),
        omega (arith, ew, beats, within, last, ap (λ xs. length (turns xs)) same, length-beats before t.ask),
      )
  writes-later (Some t) false false true ea ew eb ob oa ow (before, is, answered, beats, within) =
      let more = ltb-true t.beat t.ask.beats (ow refl) in (
        before,
        ea ∙ append-none asks ∙ is,
        omega (arith, eb, answered),
        omega (arith, ew, beats),
        omega (arith, more),
      )
  writes-later (Some t) false false false ea ew eb ob oa ow (before, is, answered, beats, within) = (
    before,
    ea ∙ append-none asks ∙ is,
    omega (arith, eb, answered),
    omega (arith, ew, beats),
    within,
  )

-- ---- reads
abbrev read_by : Bool → Bool → Turn → Option Turn → Option Turn
read_by ar r first turn = cond ar (Some first) (cond r (later turn) turn)

module _ (asks asks' : List Address) (rs rs' : ℕ) (new : Address) (some : 1 ≤ new.beats) where
  abbrev first_read : Turn
  first_read = record { ask = new; beat = 0 }

  later-is : (t : Turn) (before : List Address) (end : Bool) → (t.beat + 1 == t.ask.beats) ≡ end → asks' ≡ before ++ t.ask ∷ []
      → rs' ≡ length (turns before) + t.beat + 1 → t.beat < t.ask.beats → IsReading asks' rs' (cond end None (Some (moved t)))
  later-is t before true e ea er within =
      let last = eqb-true (t.beat + 1) t.ask.beats e in
      omega (arith, er, last, ap (λ xs. length (turns xs)) ea, length-beats before t.ask)
  later-is t before false e ea er within = (before, ea, omega (arith, er), grind (arith, nat_tests))

  reads-later : (turn : Option Turn) (ar r : Bool) → asks' ≡ asks ++ cond ar (new ∷ []) [] → rs' ≡ rs + cond r 1 0
      → (ar ≡ true → is_none turn ≡ true) → (r ≡ true → is_some turn ≡ true)
      → IsReading asks rs turn → IsReading asks' rs' (read_by ar r first_read turn)
  reads-later None ar true ea er oa ow is = absurd (let z : false ≡ true = ow refl in cc)
  reads-later None true false ea er oa ow beats = (asks, ea, omega (arith, er, beats), omega (arith, some))
  reads-later None false false ea er oa ow beats =
      let same = ea ∙ append-none asks in
      omega (arith, er, beats, ap (λ xs. length (turns xs)) same)
  reads-later (Some t) true r ea er oa ow is = absurd (let z : false ≡ true = oa refl in cc)
  reads-later (Some t) false true ea er oa ow (before, is, beats, within) =
      later-is t before (t.beat + 1 == t.ask.beats) refl (ea ∙ append-none asks ∙ is) (omega (arith, er, beats)) within
  reads-later (Some t) false false ea er oa ow (before, is, beats, within) =
      (before, ea ∙ append-none asks ∙ is, omega (arith, er, beats), within)

-- ---- the words
module _ (p : Served) (rows : List Row) (row : Row) where
  abbrev more : List Row
  more = rows ++ row ∷ []

  abbrev words_by : Bool → List ℕ → Option Turn → List ℕ
  words_by w words turn = cond w (written_under p words (content_at p.channels row.contents p.ports.writes.w) turn) words

  words-later : (turn : Option Turn) (w : Bool) (words : List ℕ) (bs : ℕ) → completes row p.ports.writes.w ≡ w → (w ≡ true → wants turn ≡ true)
      → IsWriting (write_asks p rows) (done p p.ports.writes.w rows) bs turn → words ≡ memory_after p rows
      → words_by w words turn ≡ memory_after p more
  words-later turn false words bs e ow is same =
      same ∙ sym (memory-kept p rows row e (no-more (write_asks p rows) (done p p.ports.writes.w rows) bs turn is))
  words-later None true words bs e ow is same = absurd (let z : false ≡ true = ow refl in cc)
  words-later (Some t) true words bs e ow (before, is, answered, beats, within) same =
      let at : slice_get (turns (write_asks p rows)) (done p p.ports.writes.w rows) ≡ Some t =
      ap (λ xs. slice_get (turns xs) (done p p.ports.writes.w rows)) is ∙ ap (slice_get (turns (before ++ t.ask ∷ []))) beats
      ∙ beat-at before t (ltb-true t.beat t.ask.beats (ow refl)) in
      ap (λ ws. written p ws (content_at p.channels row.contents p.ports.writes.w, t)) same ∙ sym (memory-grown p rows row t e at)

  -- ---- since when a beat is shown
  since-here : shows p row ≡ true → shown_since p more ≡ length more
  since-here h =
      let back : position_or_len (shows p) (reverse more) ≡ 0 =
      ap (position_or_len (shows p)) (reverse-append rows (row ∷ []))
      ∙ cond-false (not (shows p row)) (1 + position_or_len (shows p) (reverse rows)) 0 (not_from_true (shows p row) h) in
      let z : length more - position_or_len (shows p) (reverse more) ≡ length more = omega (arith, back) in z

  pub since-before : shows p row ≡ false → shown_since p more ≡ shown_since p rows
  since-before h =
      let back : position_or_len (shows p) (reverse more) ≡ 1 + position_or_len (shows p) (reverse rows) =
      ap (position_or_len (shows p)) (reverse-append rows (row ∷ []))
      ∙ cond-true (not (shows p row)) (1 + position_or_len (shows p) (reverse rows)) 0 (not_from_false (shows p row) h) in
      let long = length-append rows (row ∷ []) in
      let z : length more - position_or_len (shows p) (reverse more) ≡ length rows - position_or_len (shows p) (reverse rows)
      = omega (arith, back, long) in z

  pub front-same : shows p row ≡ false → take (shown_since p more) more ≡ take (shown_since p rows) rows
  front-same h =
      let short : shown_since p rows ≤ length rows = omega arith in
      ap (λ k. take k more) (since-before h) ∙ take-append-le (shown_since p rows) rows (row ∷ []) short

  shown-later : (old new : Option Turn) (words : List ℕ) (shown : ℕ) (shows_now : Bool) → shows p row ≡ shows_now
      → (shows_now ≡ false → new ≡ old)
      → words ≡ memory_after p more → new ≡ read_turn p more → shown ≡ word_under p (memory_after p (take (shown_since p rows) rows)) old
      → cond shows_now (word_under p words new) shown ≡ word_under p (memory_after p (take (shown_since p more) more)) (read_turn p more)
  shown-later old new words shown true h kept same turn was =
      ap (λ ws. word_under p ws new) same ∙ ap (word_under p (memory_after p more)) turn
      ∙ ap (λ rs. word_under p (memory_after p rs) (read_turn p more)) (sym (ap (λ k. take k more) (since-here h)
      ∙ take_all (length more) more (omega arith)))
  shown-later old new words shown false h kept same turn was =
      was ∙ ap (word_under p (memory_after p (take (shown_since p rows) rows))) (sym (kept refl) ∙ turn)
      ∙ ap (λ rs. word_under p (memory_after p rs) (read_turn p more)) (sym (front-same h))

  -- ---- all of it
  unmoved : (ar r : Bool) (first : Turn) (turn : Option Turn) → (ar || r) ≡ false → read_by ar r first turn ≡ turn
  unmoved true r first turn h = absurd (let z : true ≡ false = h in cc)
  unmoved false true first turn h = absurd (let z : true ≡ false = h in cc)
  unmoved false false first turn h = refl

  module _ (writing reading : Option Turn) (shown : ℕ) (words : List ℕ) (cycle : ℕ) (ends : EndsAreCompletions row)
      (obeys : Obeys p (standing writing reading shown) row) (st : StandsFor p writing reading shown words cycle rows) where
    abbrev hb : Bool
    hb = has row.ends p.ports.writes.b

    abbrev haw : Bool
    haw = has row.ends p.ports.writes.aw.channel

    abbrev hw : Bool
    hw = has row.ends p.ports.writes.w

    abbrev har : Bool
    har = has row.ends p.ports.reads.ar.channel

    abbrev hr : Bool
    hr = has row.ends p.ports.reads.r

    writes-now : IsWriting (write_asks p more) (done p p.ports.writes.w more) (done p p.ports.writes.b more) (next_write p row writing)
    writes-now = writes-later (write_asks p rows) (write_asks p more) (done p p.ports.writes.w rows) (done p p.ports.writes.w more)
        (done p p.ports.writes.b rows) (done p p.ports.writes.b more) (first_turn p p.ports.writes.aw row).ask writing hb haw hw
        (asks-more p rows row p.ports.writes.aw haw (sym (ends p.ports.writes.aw.channel)))
        (done-more p rows row p.ports.writes.w hw (sym (ends p.ports.writes.w)))
        (done-more p rows row p.ports.writes.b hb (sym (ends p.ports.writes.b)))
        (λ t. obeys.b (sym (ends p.ports.writes.b) ∙ t)) (λ t. obeys.aw (sym (ends p.ports.writes.aw.channel) ∙ t))
        (λ t. obeys.w (sym (ends p.ports.writes.w) ∙ t)) st.writes

    reads-now : IsReading (read_asks p more) (done p p.ports.reads.r more) (next_read p row reading)
    reads-now = reads-later (read_asks p rows) (read_asks p more) (done p p.ports.reads.r rows) (done p p.ports.reads.r more)
        (first_turn p p.ports.reads.ar row).ask (omega arith) reading har hr
        (asks-more p rows row p.ports.reads.ar har (sym (ends p.ports.reads.ar.channel)))
        (done-more p rows row p.ports.reads.r hr (sym (ends p.ports.reads.r)))
        (λ t. obeys.ar (sym (ends p.ports.reads.ar.channel) ∙ t)) (λ t. obeys.r (sym (ends p.ports.reads.r) ∙ t)) st.reads

    abbrev words_now : List ℕ
    words_now = next_words p row writing words

    words-now : words_now ≡ memory_after p more
    words-now = words-later writing hw words (done p p.ports.writes.b rows) (sym (ends p.ports.writes.w))
        (λ t. obeys.w (sym (ends p.ports.writes.w) ∙ t)) st.writes st.words_are

    shows-is : shows p row ≡ (har || hr)
    shows-is = sym (ap (λ b. b || hr) (ends p.ports.reads.ar.channel) ∙ ap (λ b. completes row p.ports.reads.ar.channel || b) (ends p.ports.reads.r))

    pub stands-later : StandsFor p (next_write p row writing) (next_read p row reading) (next_shown p row (next_read p row reading) words_now shown)
        words_now (cycle + 1) more
    stands-later = record {
      cycle_is = omega (arith, st.cycle_is, length-append rows (row ∷ []));
      writes = writes-now;
      reads = reads-now;
      words_are = words-now;
      shown_is = shown-later reading (next_read p row reading) words_now shown (har || hr) shows-is
          (unmoved har hr (first_turn p p.ports.reads.ar row) reading) words-now
          (turn-is (read_asks p more) (done p p.ports.reads.r more) (next_read p row reading) reads-now)
          (st.shown_is ∙ ap (word_under p (memory_after p (take (shown_since p rows) rows)))
          (sym (turn-is (read_asks p rows) (done p p.ports.reads.r rows) reading st.reads)));
    }

-- ---- no row
pub stands-first : (p : Served) (words : List ℕ) → words ≡ memory_after p [] → StandsFor p None None 0 words 0 []
stands-first p words e = record { cycle_is = refl; writes = (refl, refl); reads = refl; words_are = e; shown_is = refl }
