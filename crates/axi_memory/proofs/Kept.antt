-- What is kept of rows offers what the memory offers after them.
use Rattle.std.proofs.Common.{◌≡◌, ℕ, ◌+◌, ◌≤◌, ◌++◌, ◌&&◌, Bool, eqb, leb, ltb, List, [], ◌∷◌, length, Option, None, Some, is_none, is_some}
use Rattle.std.proofs.Common.{ap, sym, ◌∙◌, arith, length-append, lt-ltb, le-ltb, eq-eqb, ne_eqb}
use Rattle.std.specs.Prelude.{slice_get}
use Rattle.std.proofs.lemmas.Bool.Decides.{nat_tests}
use Rattle.std.proofs.lemmas.List.{length-map}
use Rattle.std.proofs.lemmas.Option.{slice_get_past}
use Rattle.axi_burst.specs.declared.axi.AddressPorts.{AddressPorts}
use Rattle.axi_burst.specs.declared.transfers.Address.{Address}
use Rattle.axi_burst.specs.Transfers.{begun_address}
use Rattle.env_script.specs.trace_model.declared.row.Row.{Row}
use Rattle.axi_memory.specs.declared.served.Served.{Served}
use Rattle.axi_memory.specs.declared.turn.Turn.{Turn}
use Rattle.axi_memory.specs.Memory.{Standing, asks_on, done, id_under, offer_of, read_asks, standing_after, taken, turns, write_asks}
use Rattle.axi_memory.specs.Stands.{IsReading, IsWriting, OffersAsKept, StandsFor, answers, id_of, standing, wants}
use Rattle.axi_memory.proofs.Growing.{beat-at, get-behind, length-beats}

pub asked : (p : Served) (ports : AddressPorts) (rows : List Row) → length (asks_on p ports rows) ≡ done p ports.channel rows
asked p ports rows = length-map (taken p.channels ports.channel rows) (begun_address p.ports.beat ports)

shifted : (n a b : ℕ) → ltb (n + a) (n + b) ≡ ltb a b
shifted n a b = grind (arith, nat_tests)

shifted-le : (n a b : ℕ) → leb (n + a) (n + b) ≡ leb a b
shifted-le n a b = grind (arith, nat_tests)

last-of : {X : Type 0} (front : List X) (x : X) → slice_get (front ++ x ∷ []) (length front) ≡ Some x
last-of front x =
    let e : length front ≡ length front + 0 = omega arith in
    ap (slice_get (front ++ x ∷ [])) e ∙ get-behind front (x ∷ []) 0

-- ---- writes: so many addresses, beats and responses
module _ (asks : List Address) (aws ws bs : ℕ) (all : length asks ≡ aws) where
  free-is : (turn : Option Turn) → IsWriting asks ws bs turn → is_none turn ≡ eqb aws bs
  free-is None (answered, beats) = sym (eq-eqb aws bs (sym all ∙ sym answered))
  free-is (Some t) (before, is, answered, beats, within) =
      let long = ap length is ∙ length-append before (t.ask ∷ []) in
      sym (ne_eqb aws bs (λ e. absurd (omega (arith, e, long, answered, all))))

  out-is : (turn : Option Turn) → IsWriting asks ws bs turn → ltb bs aws ≡ is_some turn
  out-is None (answered, beats) = le-ltb bs aws (omega (arith, answered, all))
  out-is (Some t) (before, is, answered, beats, within) =
      let long = ap length is ∙ length-append before (t.ask ∷ []) in
      lt-ltb bs aws (omega (arith, long, answered, all))

  total-is : (before : List Address) (t : Turn) → asks ≡ before ++ t.ask ∷ [] → length (turns asks) ≡ length (turns before) + t.ask.beats
  total-is before t is = ap (λ xs. length (turns xs)) is ∙ length-beats before t.ask

  wants-is : (turn : Option Turn) → IsWriting asks ws bs turn → wants turn ≡ (ltb bs aws && ltb ws (length (turns asks)))
  wants-is None now = sym (ap (λ b. b && ltb ws (length (turns asks))) (out-is None now))
  wants-is (Some t) (before, is, answered, beats, within) =
      sym (ap (λ b. b && ltb ws (length (turns asks))) (out-is (Some t) (before, is, answered, beats, within))
      ∙ ap (λ n. ltb n (length (turns asks))) beats ∙ ap (ltb (length (turns before) + t.beat)) (total-is before t is)
      ∙ shifted (length (turns before)) t.beat t.ask.beats)

  answers-is : (turn : Option Turn) → IsWriting asks ws bs turn → answers turn ≡ (ltb bs aws && leb (length (turns asks)) ws)
  answers-is None now = sym (ap (λ b. b && leb (length (turns asks)) ws) (out-is None now))
  answers-is (Some t) (before, is, answered, beats, within) =
      sym (ap (λ b. b && leb (length (turns asks)) ws) (out-is (Some t) (before, is, answered, beats, within))
      ∙ ap (leb (length (turns asks))) beats ∙ ap (λ n. leb n (length (turns before) + t.beat)) (total-is before t is)
      ∙ shifted-le (length (turns before)) t.ask.beats t.beat)

  id-is : (turn : Option Turn) → IsWriting asks ws bs turn → id_of turn ≡ id_under (slice_get asks bs)
  id-is None (answered, beats) = sym (ap id_under (slice_get_past asks bs (omega (arith, answered))))
  id-is (Some t) (before, is, answered, beats, within) =
      sym (ap id_under (ap (λ xs. slice_get xs bs) is ∙ ap (slice_get (before ++ t.ask ∷ [])) answered ∙ last-of before t.ask))

-- no beat came that wasn't asked for
pub no-more : (asks : List Address) (ws bs : ℕ) (turn : Option Turn) → IsWriting asks ws bs turn → ws ≤ length (turns asks)
no-more asks ws bs None (answered, beats) = omega (arith, beats)
no-more asks ws bs (Some t) (before, is, answered, beats, within) =
    let all = ap (λ xs. length (turns xs)) is ∙ length-beats before t.ask in
    omega (arith, all, beats, within)

-- ---- reads
pub turn-is : (asks : List Address) (rs : ℕ) (turn : Option Turn) → IsReading asks rs turn → turn ≡ slice_get (turns asks) rs
turn-is asks rs None beats = sym (slice_get_past (turns asks) rs (omega (arith, beats)))
turn-is asks rs (Some t) (before, is, beats, within) =
    sym (ap (λ xs. slice_get (turns xs) rs) is ∙ ap (slice_get (turns (before ++ t.ask ∷ []))) beats ∙ beat-at before t within)

-- ---- all of it
abbrev made : Bool → Bool → Bool → ℕ → Option Turn → ℕ → Standing
made f w a i t m = record { free = f; wants = w; answers = a; id = i; turn = t; word = m }

same : (f g w x a b : Bool) (i j : ℕ) (t u : Option Turn) (m n : ℕ) → f ≡ g → w ≡ x → a ≡ b → i ≡ j → t ≡ u → m ≡ n
    → made f w a i t m ≡ made g x b j u n
same f g w x a b i j t u m n e1 e2 e3 e4 e5 e6 = cc

pub stands-so : (p : Served) (writing reading : Option Turn) (shown : ℕ) (words : List ℕ) (cycle : ℕ) (rows : List Row)
    → StandsFor p writing reading shown words cycle rows → standing writing reading shown ≡ standing_after p rows
stands-so p writing reading shown words cycle rows st =
    let asks = write_asks p rows in
    let aws = done p p.ports.writes.aw.channel rows in
    let ws = done p p.ports.writes.w rows in
    let bs = done p p.ports.writes.b rows in
    let all = asked p p.ports.writes.aw rows in
    same _ _ _ _ _ _ _ _ _ _ _ _ (free-is asks aws ws bs all writing st.writes) (wants-is asks aws ws bs all writing st.writes)
    (answers-is asks aws ws bs all writing st.writes) (id-is asks aws ws bs all writing st.writes)
    (turn-is (read_asks p rows) (done p p.ports.reads.r rows) reading st.reads) st.shown_is

pub offers-as-kept : (p : Served) → OffersAsKept p
offers-as-kept p writing reading shown words cycle rows st c =
    ap (λ s. offer_of p s c) (stands-so p writing reading shown words cycle rows st)
