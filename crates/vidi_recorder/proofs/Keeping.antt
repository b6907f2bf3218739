-- A recorder keeps a row, over plain values.
use Rattle.std.proofs.Common.{◌≡◌, ℕ, ◌+◌, ◌-◌, ◌*◌, ◌≤◌, ◌&&◌, Bool, true, false, not, nat_lt, cond, List, [], ◌∷◌, ◌++◌, Option, length, drop, take}
use Rattle.std.proofs.Common.{refl, subst, sym, ap, ◌∙◌, append_assoc, add-one, arith}
use Rattle.std.specs.Borrow.{GName}
use Rattle.std.specs.Io.KnownBytes.{append_known}
use Rattle.std.proofs.lemmas.Bool.{and_parts}
use Rattle.std.proofs.lemmas.List.{length_push}
use Rattle.std.proofs.lemmas.List.Sums.{count_by-le-length}
use Rattle.trace_code.specs.trace_model.declared.channel.Channel.{Channel}
use Rattle.trace_code.specs.trace_model.declared.row.Row.{Row}
use Rattle.trace_code.specs.trace_model.Channel.{IsTable}
use Rattle.trace_code.specs.trace_model.Epoch.{restarts}
use Rattle.trace_code.specs.trace_model.Recording.{end_of, has_event}
use Rattle.trace_code.specs.Encoding.{header_bytes, row_bytes}
use Rattle.trace_code.proofs.RowsBytes.{end-within}
use Rattle.trace_code.proofs.trace_model_lemmas.CountingLemmas.{count-push}
use Rattle.env_script.specs.chan_map.declared.pins.Map.{Map}
use Rattle.env_script.specs.chan_map.vidi_bits.Findings.{is_nil}
use Rattle.env_script.specs.run_model.Stretches.{Turns, rows_of}
use Rattle.env_script.specs.declared.stalls.Stalls.{Stalls}
use Rattle.env_script.specs.Offer.{Offer}
use Rattle.env_script.specs.Offered.{AreLasting}
use Rattle.env_script.specs.Plan.{allowance_at}
use Rattle.env_script.specs.Resets.{is_due}
use Rattle.room_ledger.specs.Gates.{Plan, drained, left, permit_at}
use Rattle.room_ledger.specs.Ledger.{Ledger, Emitted, MayEmit, Regranted, may_reset}
use Rattle.room_ledger.proofs.Following.{keeps-gates, permit-front}
use Rattle.run_stage.specs.Stretching.{all_rows, AreRuledStretches}
use Rattle.vidi_io.specs.Sink.{AppendsSome}
use Rattle.vidi_recorder.specs.declared.cells.Cells.{Cells}
use Rattle.vidi_recorder.specs.Course.{permit_before, plan_of, sizes_of, turns_within}
use Rattle.vidi_recorder.specs.Standing.{BreaksAt, Cut, Going, IsNextFresh, Lent, StandsAt, end_so_far, lent, reset_bytes, rule_within, IsRestarted}
use Rattle.vidi_recorder.proofs.Going.{Cycle, bytes_behind, end-more, fresh-last, mixed-long, put-long}
use Rattle.vidi_recorder.proofs.Turning.{IsNext, next-row}
use Rattle.vidi_recorder.proofs.Turns.{count-few, cut-next, going-next}
use Rattle.run_stage.proofs.Stretching.{all-more}

-- what is known of a recorder at a cycle
pub record Knows (m : Map) (offer : List Row → ℕ → Offer) (stalls : Stalls) (times : List ℕ) (cycles : ℕ) (given : List Channel)
    (begun told : Option (List ℕ)) (stands_for : List Row → Type 0) (current : ℕ → Offer) (cells : Cells) (past : List (List Row))
    (here : List Row) (row : Row) : Type 0 where
  pub table : IsTable m.channels
  pub channels : given ≡ m.channels
  pub at : StandsAt m.channels (plan_of stalls times) times cycles begun told stands_for current cells past here
  pub ruled : AreRuledStretches m (rule_within m.channels offer (plan_of stalls times) times cycles)
      (Turns (turns_within m.channels (plan_of stalls times) times cycles)) past (here ++ row ∷ [])

-- what a cycle puts: the packet of a row, and behind it that of a reset where one comes
pub record Puts (channels : List Channel) (plan : Plan) (times : List ℕ) (cycles : ℕ) (rows : List Row) (row : Row) (t : ℕ)
    (cells kept turned : Cells) (comes : Bool) : Type 0 where
  pub is : Emitted cells.room row.starts row.ends kept.room
  pub put : kept.store.items ≡ cells.store.items ++ row_bytes channels (t - cells.end) row
  pub ended : kept.end ≡ cond (has_event row) (t + 1) cells.end
  pub said : comes ≡ turns_within channels plan times cycles (rows ++ row ∷ [])
  pub can : comes ≡ true → may_reset kept.room ≡ true
  pub restarted : IsRestarted comes kept.room turned.room
  pub put_reset : turned.store.items ≡ kept.store.items ++ reset_bytes comes (t + 1 - kept.end)

-- ---- when a reset is due
-- no reset is due where there are no times
due-alone : (times : List ℕ) (k n : ℕ) (p : Bool) → (is_due times k n && (not (is_nil times) && p)) ≡ (is_due times k n && p)
due-alone [] k n p = refl
due-alone (t ∷ times) k n p = refl

-- the rows with one more

-- where its packet ends, and how many there are
pub end-after : (event : Bool) (t old new : ℕ) → new ≡ cond event (t + 1) old → old ≤ t → new ≤ t + 1
end-after true t old new e l = omega (arith, e)
end-after false t old new e l = omega (arith, e, l)

pub count-after : (event : Bool) (t old new : ℕ) → new ≡ old + cond event 1 0 → old ≤ 2 * t + 1 → new ≤ 2 * t + 2
count-after true t old new e l = omega (arith, e, l)
count-after false t old new e l = omega (arith, e, l)

-- a reset leaves the contents' sizes
pub kept_sizes : (comes : Bool) (old new : Ledger) → IsRestarted comes old new → new.sizes ≡ old.sizes
kept_sizes true old new is = is.sizes
kept_sizes false old new same = ap (λ (l : Ledger). l.sizes) same

module _ (m : Map) (offer : List Row → ℕ → Offer) (stalls : Stalls) (times : List ℕ) (cycles : ℕ) (given : List Channel)
    (begun told : Option (List ℕ)) (stands_for : List Row → Type 0) (current : ℕ → Offer) (cells : Cells) (past : List (List Row))
    (here : List Row) (row : Row) (lasts : AreLasting m.channels offer)
    (k : Knows m offer stalls times cycles given begun told stands_for current cells past here row) where
  abbrev rows : List Row
  rows = all_rows past here

  abbrev plan : Plan
  plan = plan_of stalls times

  -- ---- before it is kept
  pub some : Going m.channels plan k.at.far.header.0 rows cells.fresh cells.room cells.store.items told cells.packets
  some = k.at.far.going k.at.far.header.0 k.at.far.header.1

  pub row-next : IsNext m.channels (offer rows) cells.room rows cells.fresh row
  row-next = next-row m offer plan times cycles past here row cells.fresh cells.room lasts k.at.next some.stands k.ruled

  pub may : MayEmit cells.room row.starts row.ends
  may = (keeps-gates (sizes_of m.channels) plan).lawful rows cells.fresh row cells.room some.stands row-next.follows

  pub ended-within : (cycle : ℕ) → length rows ≡ cycle → cells.end ≤ cycle
  ended-within cycle long =
      let ends = k.at.far.ends in
      let l = so_far cells.fresh in
      omega (arith, ends, l, long)
    where
      so_far : (fresh : Bool) → end_so_far rows fresh ≤ length rows
      so_far true = omega arith
      so_far false = end-within rows

  pub packets-within : (cycle : ℕ) → length rows ≡ cycle → cells.packets ≤ 2 * cycle + 1
  packets-within cycle long =
      count-few m.channels plan k.at.far.header.0 rows cells.fresh cells.room cells.store.items told cells.packets cycle some long

  pub resets-within : (cycle : ℕ) → length rows ≡ cycle → cells.resets ≤ cycle + 1
  resets-within cycle long =
      let came = k.at.far.came in
      let few = count_by-le-length (λ (r : Row). r.fresh) rows in
      let one = most cells.fresh in
      omega (arith, came, few, one, long)
    where
      most : (fresh : Bool) → cond fresh 1 0 ≤ 1
      most true = omega arith
      most false = omega arith

  -- ---- its packet is in the store
  module _ (t : ℕ) (long : length rows ≡ t) (emitted : Ledger) (is : Emitted cells.room row.starts row.ends emitted) where
    longer : length (rows ++ row ∷ []) ≡ t + 1
    longer = length_push rows row ∙ ap (λ n. n + 1) long

    own-gap : row_bytes m.channels (t - cells.end) row ≡ bytes_behind m.channels rows row
    own-gap =
        ap (λ n. row_bytes m.channels (n - cells.end) row) (sym long)
        ∙ ap (λ n. row_bytes m.channels (length rows - n) row) (k.at.far.ends ∙ ap (end_so_far rows) (sym row-next.mark))

    pub waits-mid : (mixed : List ℕ) → mixed ≡ cells.store.items ++ row_bytes m.channels (t - cells.end) row → length mixed ≡ emitted.used
    waits-mid mixed put =
        ap length put ∙ ap (λ bs. length (cells.store.items ++ bs)) own-gap
        ∙ put-long m.channels plan k.at.far.header.0 rows cells.fresh row cells.room emitted cells.store.items told cells.packets some k.table
        row-next.over is

    came-mid : cells.resets ≡ restarts (rows ++ row ∷ [])
    came-mid =
        let came = k.at.far.came in
        let push = count-push (λ (r : Row). r.fresh) rows row in
        let same = ap {B = ℕ} (λ b. cond b 1 0) row-next.mark in
        omega (arith, came, push, same)

    -- the permit is that of the row's cycle
    permit-mid : permit_before (sizes_of m.channels) plan (rows ++ row ∷ []) (length (rows ++ row ∷ []))
        ≡ permit_at (sizes_of m.channels) plan rows (length rows) cells.fresh
    permit-mid =
        ap (permit_before (sizes_of m.channels) plan (rows ++ row ∷ [])) (length_push rows row ∙ add-one (length rows))
        ∙ ap (permit_at (sizes_of m.channels) plan (rows ++ row ∷ []) (length rows)) (fresh-last plan rows row)
        ∙ permit-front (sizes_of m.channels) plan rows (row ∷ []) (length rows) (plan.resets && row.fresh) (omega arith)
        ∙ ap (permit_at (sizes_of m.channels) plan rows (length rows))
        (ap (λ r. r && row.fresh) (sym some.stands.resets) ∙ row-next.follows.mark)

    -- a reset comes where it is due and there is the permit
    pub comes-is : (comes : Bool) (now : ℕ) → now ≡ cells.resets
        → comes ≡ (nat_lt (t + 1) cycles && (is_due times now (t + 1) && may_reset emitted))
        → comes ≡ turns_within m.channels plan times cycles (rows ++ row ∷ [])
    comes-is comes now same e =
        let permit = permit_at (sizes_of m.channels) plan rows (length rows) cells.fresh in
        e
        ∙ ap (λ p. nat_lt (t + 1) cycles && (is_due times now (t + 1) && p))
        ((keeps-gates (sizes_of m.channels) plan).permit rows cells.fresh cells.room emitted row.starts row.ends some.stands is)
        ∙ ap (λ b. nat_lt (t + 1) cycles && b) (due-alone times now (t + 1) permit)
        ∙ ap (λ n. nat_lt (t + 1) cycles && (is_due times n (t + 1) && permit)) (same ∙ came-mid)
        ∙ ap (λ n. nat_lt n cycles && (is_due times (restarts (rows ++ row ∷ [])) n && permit)) (sym longer)
        ∙ ap (λ p. nat_lt (length (rows ++ row ∷ [])) cycles
        && (is_due times (restarts (rows ++ row ∷ [])) (length (rows ++ row ∷ [])) && p)) (sym permit-mid)

    pub may-turn : (comes : Bool) (now : ℕ) → comes ≡ (nat_lt (t + 1) cycles && (is_due times now (t + 1) && may_reset emitted))
        → comes ≡ true → may_reset emitted ≡ true
    may-turn comes now e h =
        let both = and_parts (nat_lt (t + 1) cycles) (is_due times now (t + 1) && may_reset emitted) (sym e ∙ h) in
        (and_parts (is_due times now (t + 1)) (may_reset emitted) both.1).1

  -- ---- and that of the reset behind it
  module _ (t : ℕ) (long : length rows ≡ t) (kept turned : Cells) (comes : Bool)
      (p : Puts m.channels plan times cycles rows row t cells kept turned comes) where
    end-mid : kept.end ≡ end_of 0 0 (rows ++ row ∷ [])
    end-mid =
        p.ended ∙ ap (λ n. cond (has_event row) (n + 1) cells.end) (sym long)
        ∙ ap (λ n. cond (has_event row) (length rows + 1) n) (k.at.far.ends ∙ ap (end_so_far rows) (sym row-next.mark))
        ∙ sym (end-more rows row)

    cycle : Cycle m.channels plan rows cells.fresh row comes cells.room kept.room turned.room cells.store.items turned.store.items
    cycle =
        let own = bytes_behind m.channels rows row in
        record {
          table = k.table;
          over = row-next.over;
          mark = row-next.mark;
          follows = row-next.follows;
          put_row = p.is;
          may = p.can;
          put_reset = p.restarted;
          put = p.put_reset
              ∙ ap (λ bs. bs ++ reset_bytes comes (t + 1 - kept.end)) (p.put ∙ ap (λ bs. cells.store.items ++ bs) (own-gap t long kept.room p.is))
              ∙ ap (λ n. (cells.store.items ++ own) ++ reset_bytes comes (n - kept.end)) (sym (longer t long kept.room p.is))
              ∙ ap (λ n. (cells.store.items ++ own) ++ reset_bytes comes (length (rows ++ row ∷ []) - n)) end-mid;
        }

    pub ends-now : (now : ℕ) → now ≡ cond comes (t + 1) kept.end → now ≡ end_so_far (rows ++ row ∷ []) comes
    ends-now now e = e ∙ ap (λ n. cond comes n kept.end) (sym (longer t long kept.room p.is))
        ∙ ap (λ n. cond comes (length (rows ++ row ∷ [])) n) end-mid

    pub came-now : (now was : ℕ) → was ≡ cells.resets → now ≡ was + cond comes 1 0 → now ≡ restarts (rows ++ row ∷ []) + cond comes 1 0
    came-now now was same e = e ∙ ap (λ n. n + cond comes 1 0) (same ∙ came-mid t long kept.room p.is)

    pub waits-now : length turned.store.items ≡ turned.room.used
    waits-now = mixed-long m.channels plan k.at.far.header.0 rows cells.fresh row comes cells.room kept.room turned.room turned.room
        cells.store.items turned.store.items told told cells.packets some cycle

    pub going-more : (new : Ledger) (rest : List ℕ) (now : Option (List ℕ)) (allowance : Option ℕ) (one two : ℕ)
        → allowance ≡ allowance_at stalls.drains t → Regranted (record turned.room { used = left allowance turned.room.used }) new
        → rest ≡ drop (drained allowance turned.room.used) turned.store.items
        → now ≡ append_known told (take (drained allowance turned.room.used) turned.store.items)
        → one ≡ cells.packets + cond (has_event row) 1 0 → two ≡ one + cond comes 1 0
        → (first : Option (List ℕ)) → begun ≡ append_known first (header_bytes m.channels)
        → Going m.channels plan first (rows ++ row ∷ []) comes new rest now two
    going-more new rest now allowance one two e again r n a b first begins =
        going-next m.channels plan first rows cells.fresh row comes cells.room kept.room turned.room new cells.store.items turned.store.items told
        now cells.packets (k.at.far.going first begins) cycle allowance (e ∙ ap (allowance_at stalls.drains) (sym long)) rest two again r n
        (b ∙ ap (λ c. c + cond comes 1 0) a)

    pub cut-now : (now : Option (List ℕ)) (allowance : Option ℕ) → allowance ≡ allowance_at stalls.drains t
        → AppendsSome told now (take (drained allowance turned.room.used) turned.store.items) → (first : Option (List ℕ))
        → begun ≡ append_known first (header_bytes m.channels)
        → Cut m.channels plan first (rows ++ row ∷ []) (turns_within m.channels plan times cycles (rows ++ row ∷ [])) now
    cut-now now allowance e some first begins =
        subst (λ b. Cut m.channels plan first (rows ++ row ∷ []) b now) p.said
        (cut-next m.channels plan first rows cells.fresh row comes cells.room kept.room turned.room turned.room cells.store.items
        turned.store.items told now cells.packets (k.at.far.going first begins) cycle allowance
        (e ∙ ap (allowance_at stalls.drains) (sym long)) some)

    pub next-now : IsNextFresh m.channels plan times cycles past (here ++ row ∷ []) comes
    next-now = record {
      begins = λ e. absurd (none here e);
      goes_on = λ l. p.said ∙ ap (turns_within m.channels plan times cycles) (all-more past here row);
    }
      where
        none : (rs : List Row) → rs ++ row ∷ [] ≡ [] → ⊥
        none rs e = let a = length_push rs row in let b = ap length e in omega (arith, a, b)

-- ---- under names that are equal
module _ (m n : Map) (stalls others : Stalls) (times moments : List ℕ) (cycles turns : ℕ) (env was_env of_cells was_cells sink was_sink : GName)
    (same : lent n others moments turns env of_cells sink ≡ lent m stalls times cycles was_env was_cells was_sink)
    (begun told : Option (List ℕ)) (stands_for : List Row → Type 0) where
  pub own : (offer other : List Row → ℕ → Offer) (given : List Channel) (current : ℕ → Offer) (cells : Cells) (past : List (List Row))
      (here : List Row) (row : Row) → other ≡ offer
      → Knows m offer stalls times cycles given begun told stands_for current cells past here row
      → Knows n other others moments turns given begun told stands_for current cells past here row
  own offer other given current cells past here row e knows =
      subst (λ (l : Lent). Knows l.map other l.stalls l.times l.cycles given begun told stands_for current cells past here row) (sym same)
      (subst (λ (x : List Row → ℕ → Offer). Knows m x stalls times cycles given begun told stands_for current cells past here row) (sym e)
      knows)

  pub stands-back : (current : ℕ → Offer) (cells : Cells) (past : List (List Row)) (here : List Row)
      → StandsAt n.channels (plan_of others moments) moments turns begun told stands_for current cells past here
      → StandsAt m.channels (plan_of stalls times) times cycles begun told stands_for current cells past here
  stands-back current cells past here at =
      subst (λ (l : Lent). StandsAt l.map.channels (plan_of l.stalls l.times) l.times l.cycles begun told stands_for current cells past here)
      same at

  pub breaks-back : (rows : List Row) → BreaksAt n.channels (plan_of others moments) moments turns begun told stands_for rows
      → BreaksAt m.channels (plan_of stalls times) times cycles begun told stands_for rows
  breaks-back rows at =
      subst (λ (l : Lent). BreaksAt l.map.channels (plan_of l.stalls l.times) l.times l.cycles begun told stands_for rows) same at
