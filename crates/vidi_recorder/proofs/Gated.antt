-- The gates of a recorder behind stretches: they are fixed, and stay up until a completion.
use Rattle.std.proofs.Common.{◌≡◌, ℕ, zero, suc, ◌+◌, ◌<◌, ◌^◌, Bool, true, false, not, List, [], ◌∷◌, ◌++◌, Some, All, length, get_or, slice_get}
use Rattle.std.proofs.Common.{ap, sym, subst, ◌∙◌, append_assoc, add-one, arith}
use Rattle.std.proofs.Math.Bool.{and-false}
use Rattle.std.proofs.lemmas.Bool.{and_from}
use Rattle.std.proofs.lemmas.List.{length-map, length_push}
use Rattle.std.proofs.lemmas.List.Elements.{All-from_get_or, All-head, All-nil, All-tail}
use Rattle.std.proofs.lemmas.Nat.{pow_pos}
use Rattle.std.proofs.lemmas.Option.{same_Some, slice_get-get_or}
use Rattle.vidi_io.specs.vidi_bits.Number.{has}
use Rattle.vidi_io.proofs.vidi_bits_lemmas.BitLemmas.{fits_by_bits}
use Rattle.trace_code.specs.trace_model.declared.channel.Channel.{Channel}
use Rattle.trace_code.specs.trace_model.declared.row.Row.{Row}
use Rattle.trace_code.specs.trace_model.Channel.{content_bytes}
use Rattle.trace_code.specs.trace_model.Row.{completes, is_in_flight, AreRows, IsOver}
use Rattle.trace_code.proofs.trace_model_lemmas.CountingLemmas.{slice_get-last}
use Rattle.trace_code.proofs.trace_model_lemmas.MaskLemmas.{no-bit-from-has}
use Rattle.env_script.specs.chan_map.vidi_bits.Findings.{is_nil}
use Rattle.env_script.specs.run_model.Played.{is_fresh_after}
use Rattle.env_script.specs.run_model.Stretches.{rows_of}
use Rattle.env_script.proofs.run_model_lemmas.RunLaws.{GatesAreFixed, StayUp}
use Rattle.run_laws.specs.StretchLaws.{Behind}
use Rattle.room_ledger.specs.Gates.{Plan, charged_at, keeps, AreGates}
use Rattle.room_ledger.specs.Reservation.{AreRaised}
use Rattle.room_ledger.proofs.Existence.{has-gates}
use Rattle.room_ledger.proofs.GateLaws.{one-set, some-row}
use Rattle.vidi_recorder.specs.Course.{gates_behind, sizes_of}
use Rattle.run_laws.proofs.StretchLaws.{all-over}

-- ---- each row
each-in : (P : Row → Type 0) (xs : List Row) → All P xs → (u : ℕ) (r : Row) → slice_get xs u ≡ Some r → P r
each-in P [] all u r at = absurd (cc)
each-in P (x ∷ xs) all zero r at = subst P (same_Some x r at) (All-head P x xs all)
each-in P (x ∷ xs) all (suc u) r at = each-in P xs (All-tail P x xs all) u r at

each-both : (P : Row → Type 0) (xs ys : List Row) → ((u : ℕ) (r : Row) → slice_get xs u ≡ Some r → P r)
    → ((u : ℕ) (r : Row) → slice_get ys u ≡ Some r → P r) → (u : ℕ) (r : Row) → slice_get (xs ++ ys) u ≡ Some r → P r
each-both P [] ys f h u r at = h u r at
each-both P (x ∷ xs) ys f h zero r at = f 0 r at
each-both P (x ∷ xs) ys f h (suc u) r at = each-both P xs ys (λ v s. f (suc v) s) h u r at

pub each-behind : (P : Row → Type 0) (past : List (List Row)) (here : List Row) → All (All P) past
    → ((u : ℕ) (r : Row) → slice_get here u ≡ Some r → P r) → (u : ℕ) (r : Row) → slice_get (rows_of past ++ here) u ≡ Some r → P r
each-behind P [] here all f u r at = f u r at
each-behind P (s ∷ past) here all f u r at =
    each-both P s (rows_of past ++ here) (each-in P s (All-head (All P) s past all))
    (each-behind P past here (All-tail (All P) s past all) f) u r
    (subst (λ (rs : List Row). slice_get rs u ≡ Some r) (append_assoc s (rows_of past) here) at)

-- the rows of stretches, each of which is over the channels
pub each-over : (channels : List Channel) (ss : List (List Row))
    → ((k : ℕ) (rows : List Row) → slice_get ss k ≡ Some rows → AreRows channels rows) → All (All (IsOver channels)) ss
each-over channels ss are = All-from_get_or (All (IsOver channels)) ss []
    (λ k l. all-over channels (get_or ss k []) (are k (get_or ss k []) (slice_get-get_or ss k [] l)))

-- ---- exactly one set of gates is up
pub gates-fixed : (channels : List Channel) (plan : Plan) → Behind channels (λ past. GatesAreFixed channels (gates_behind channels plan past))
gates-fixed channels plan past over before are =
    let sizes = sizes_of channels in
    let rows = rows_of past ++ before in
    let fresh = is_fresh_after (not (is_nil past)) before in
    let many = length-map channels content_bytes in
    let each = each-behind (IsOver channels) past before over (λ u row at. (are u row at).0) in
    let there = has-gates sizes plan rows (length rows) fresh
    (λ u row at. subst (λ n. row.gates < 2 ^ n) (sym many) (each u row at).gates) (omega arith) in
    record {
      mask = there.0;
      is = there.1;
      below = subst (λ n. there.0 < 2 ^ n) many (mask-within sizes rows (length rows) fresh there.0 there.1);
      only = one-set sizes plan rows (length rows) fresh;
    }
  where
    mask-within : (sizes : List ℕ) (rows : List Row) (t : ℕ) (fresh : Bool) (gates : ℕ) → AreGates sizes plan rows t fresh gates
        → gates < 2 ^ length sizes
    mask-within sizes rows zero fresh gates is = let some = pow_pos (length sizes) in omega (arith, is, some)
    mask-within sizes rows (suc t) fresh gates is =
        let before = some-row (λ row. AreRaised sizes plan.capacity (charged_at sizes plan rows (suc t) fresh) (keeps row fresh) (is_in_flight row)
        (has gates)) (slice_get rows t) is in
        fits_by_bits gates (length sizes) (λ k l. no-bit-from-has gates k (before.2.channels k l))

-- ---- gates stay
gates-on : (sizes : List ℕ) (plan : Plan) (before : List Row) (row : Row) (next : ℕ)
    → AreGates sizes plan (before ++ row ∷ []) (suc (length before)) false next → (c : ℕ) → keeps row false c ≡ true → has next c ≡ true
gates-on sizes plan before row next is c kept-up =
    let all = before ++ row ∷ [] in
    let found = some-row (λ r. AreRaised sizes plan.capacity (charged_at sizes plan all (suc (length before)) false) (keeps r false) (is_in_flight r)
    (has next)) (slice_get all (length before)) is in
    let same : row ≡ found.0 = same_Some row found.0 (sym (slice_get-last before row) ∙ found.1) in
    found.2.stay c (ap (λ (r : Row). keeps r false c) (sym same) ∙ kept-up)

-- a row behind another one of its stretch isn't fresh
pub not-first : (later : Bool) (before : List Row) (row : Row) → is_fresh_after later (before ++ row ∷ []) ≡ false
not-first later [] row = and-false later
not-first later (x ∷ before) row = and-false later

pub gates-stay : (channels : List Channel) (plan : Plan) (past : List (List Row)) → StayUp channels (gates_behind channels plan past)
gates-stay channels plan past = record {
  stay = λ before row next are g n c up unended.
      (let rows = rows_of past ++ before in
      let sizes = sizes_of channels in
      let same : rows_of past ++ (before ++ row ∷ []) ≡ rows ++ row ∷ [] = sym (append_assoc (rows_of past) before (row ∷ [])) in
      let fresh = is_fresh_after (not (is_nil past)) (before ++ row ∷ []) in
      let gates : AreGates sizes plan (rows ++ row ∷ []) (suc (length rows)) false next =
      subst (λ (t : ℕ). AreGates sizes plan (rows ++ row ∷ []) t false next) (length_push rows row ∙ add-one (length rows))
      (subst (λ b. AreGates sizes plan (rows ++ row ∷ []) (length (rows ++ row ∷ [])) b next) (not-first (not (is_nil past)) before row)
      (subst (λ (rs : List Row). AreGates sizes plan rs (length rs) fresh next) same n)) in
      gates-on sizes plan rows row next gates c (and_from (has row.gates c) (not (completes row c)) up (ap not unended)));
}
