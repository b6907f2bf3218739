-- The table of a bound map is that of a lawful header.
use Rattle.std.proofs.Common.{◌≡◌, ◌≢◌, ℕ, zero, suc, ◌<◌, ◌≤◌, ◌&&◌, ◌||◌, not, Bool, true, false, nat_lt, nat_le, List, [], ◌∷◌, ◌++◌}
use Rattle.std.proofs.Common.{map, Option, Some, None, length, get_or, refl, sym, ap, subst, ◌∙◌, arith, append_assoc, append-nil}
use Rattle.std.proofs.Common.{if◌then◌else◌}
use Rattle.std.specs.Prelude.{All}
use Rattle.std.specs.List.{list_all, list_any, AllByRecursion, AllPairs}
use Rattle.std.specs.Str.{bytes_eq}
use borrow.Author.Tests.{leb-true, ltb-false}
use Rattle.std.proofs.Math.ListN.{get_or-map}
use Rattle.std.proofs.lemmas.List.{map-append, length-map}
use Rattle.std.proofs.lemmas.List.Elements.{All-from_recursion}
use Rattle.std.proofs.lemmas.List.Sums.{AllPass-from_list_all}
use Rattle.std.proofs.lemmas.List.Quantifiers.{all_pairs_push}
use Rattle.std.proofs.lemmas.Slice.Eq.{bytes_eq-Decides}
use Rattle.vidi_lines.proofs.vidi_bits_lemmas.Bools.{left_of, right_of}
use Rattle.vidi_lines.proofs.vidi_bits_lemmas.Each.{each_append}
use Rattle.vidi_lines.specs.vidi_bits.Findings.{is_nil, told_if}
use Rattle.trace_model.specs.declared.channel.Channel.{Channel as Row}
use Rattle.trace_model.specs.declared.packet.TheConstants.{MOST_CHANNELS}
use Rattle.trace_model.specs.Channel.{is_letter, is_letter_or_digit, IsName, IsChannel, IsTable}
use Rattle.vidi_lines.specs.vidi_bits.Number.{IsWidth}
use Rattle.net_design.specs.declared.design.Direction.{Direction}
use Rattle.net_design.specs.declared.design.Design.{Design}
use Rattle.chan_map.specs.declared.error.MapError.TheVariants as F
use Rattle.chan_map.specs.declared.error.MapLimit.TheVariants as M
use Rattle.chan_map.specs.declared.map_text.Entry.{Entry}
use Rattle.chan_map.specs.declared.map_text.Entry.TheVariants.{Top, Clock, Tie, Reset, Ignore, Channel}
use Rattle.chan_map.specs.declared.map_text.MapLine.{MapLine}
use Rattle.chan_map.specs.declared.sockets.Socket.{Socket}
use Rattle.chan_map.specs.Forms.{is_channel_name}
use Rattle.chan_map.specs.Follow.{entries, is_top, channel_name, channel_names, repeats, may_follow, follow, is_named}
use Rattle.chan_map.specs.Ports.{socket_named, is_pin, source_side, line_fits, HaveWidths}
use Rattle.chan_map.specs.Reasons.{count_faults, width_faults, byte_faults, limit_faults, capped}
use Rattle.chan_map.specs.Bound.{width_of, width_named, rows_of, table_of}
use Rattle.chan_map.proofs.Found.{socket_is, port_width}
use Rattle.chan_map.proofs.Fitting.{Fits, no_left, no_right, told_none}

told_never : {A : Type 0} (b : Bool) (x : A) → told_if b x ≡ [] → b ≡ false
told_never true x e = absurd (cc)
told_never false x e = refl

-- ---- names

name_is : (name : List ℕ) → is_channel_name name ≡ true → IsName name
name_is [] e = let off : false ≡ true = e in absurd (cc)
name_is (b ∷ bs) e = (
  left_of (is_letter b) _ e,
  AllPass-from_list_all is_letter_or_digit bs (left_of (list_all is_letter_or_digit bs) _ (right_of (is_letter b) _ e)),
  leb-true _ _ (right_of (list_all is_letter_or_digit bs) _ (right_of (is_letter b) _ e)),
)

row_names : (d : Design) (entry : Entry) → is_named entry ≡ true → AllByRecursion (λ (r : Row). IsName r.name) (rows_of d.ports entry)
row_names d (Top name) e = tt
row_names d (Clock port) e = tt
row_names d (Tie port number) e = tt
row_names d (Reset port active cycles) e = tt
row_names d (Ignore port) e = tt
row_names d (Channel c) e = (name_is c.name e, tt)

table_names : (d : Design) (lines : List MapLine) → list_all is_named (entries lines) ≡ true
    → AllByRecursion (λ (r : Row). IsName r.name) (table_of d lines)
table_names d [] e = tt
table_names d (l ∷ lines) e =
    each_append (λ (r : Row). IsName r.name) (rows_of d.ports l.entry) (table_of d lines)
    (row_names d l.entry (left_of (is_named l.entry) _ e)) (table_names d lines (right_of (is_named l.entry) _ e))

-- ---- widths

pin_width : (d : Design) → HaveWidths d.ports → (side : Direction) (name : List ℕ) (o : Option Socket) → socket_named d.ports name ≡ o
    → is_pin side o ≡ true → IsWidth (width_of o)
pin_width d widths side name None at e = let off : false ≡ true = e in absurd (cc)
pin_width d widths side name (Some s) at e =
    let is = socket_is d.ports name s at in
    let width : s.width ≡ is.p.width = ap (λ (x : Socket). x.width) is.is in
    rw width (port_width d.ports widths s.port is.p is.at)

names_widths : (d : Design) → HaveWidths d.ports → (side : Direction) (names : List (List ℕ))
    → list_all (λ name. is_pin side (socket_named d.ports name)) names ≡ true
    → AllByRecursion (λ w. (1 ≤ w) × (w ≤ 128)) (map (width_named d.ports) names)
names_widths d widths side [] e = tt
names_widths d widths side (name ∷ names) e =
    (pin_width d widths side name (socket_named d.ports name) refl (left_of _ _ e), names_widths d widths side names (right_of _ _ e))

abbrev HasWidths : Row → Type 0
HasWidths r = All (λ w. (1 ≤ w) × (w ≤ 128)) r.widths

row_widths : (d : Design) → HaveWidths d.ports → (entry : Entry) → line_fits d entry ≡ true
    → AllByRecursion HasWidths (rows_of d.ports entry)
row_widths d widths (Top name) e = tt
row_widths d widths (Clock port) e = tt
row_widths d widths (Tie port number) e = tt
row_widths d widths (Reset port active cycles) e = tt
row_widths d widths (Ignore port) e = tt
row_widths d widths (Channel c) e = (
  All-from_recursion (λ w. (1 ≤ w) × (w ≤ 128)) (map (width_named d.ports) c.contents)
      (names_widths d widths (source_side c.dir) c.contents (right_of _ _ (right_of _ _ e))),
  tt,
)

table_widths : (d : Design) → HaveWidths d.ports → (lines : List MapLine) → Fits d lines → AllByRecursion HasWidths (table_of d lines)
table_widths d widths [] fits = tt
table_widths d widths (l ∷ lines) fits =
    each_append HasWidths (rows_of d.ports l.entry) (table_of d lines) (row_widths d widths l.entry fits.0)
    (table_widths d widths lines fits.1)

few_ports : (table : List Row) → width_faults table ≡ [] → AllByRecursion (λ (r : Row). length r.widths ≤ 16) table
few_ports [] e = tt
few_ports (r ∷ table) e = (
  ltb-false _ _ (told_never (nat_lt 16 (length r.widths)) _ (no_left _ (width_faults table) e)),
  few_ports table (no_right (told_if (nat_lt 16 (length r.widths)) (F.Limit M.Ports (capped (length r.widths)))) (width_faults table) e),
)

rows_lawful : (table : List Row) → AllByRecursion (λ (r : Row). IsName r.name) table → AllByRecursion HasWidths table
    → AllByRecursion (λ (r : Row). length r.widths ≤ 16) table
    → AllByRecursion IsChannel table
rows_lawful [] names widths few = tt
rows_lawful (r ∷ table) names widths few =
    (record { name = names.0; ports = few.0; widths = widths.0 }, rows_lawful table names.1 widths.1 few.1)

-- ---- names that differ

or_left : (a b : Bool) → (a || b) ≡ false → a ≡ false
or_left true b e = e
or_left false b e = refl

or_right : (a b : Bool) → (a || b) ≡ false → b ≡ false
or_right true b e = let off : true ≡ false = e in absurd (cc)
or_right false b e = e

none_at : (name : List ℕ) (xs : List (List ℕ)) → list_any (bytes_eq name) xs ≡ false → (k : ℕ) (d : List ℕ) → k < length xs
    → get_or xs k d ≢ name
none_at name [] e k d within same = absurd (omega arith)
none_at name (x ∷ xs) e zero d within same =
    let yes : bytes_eq name x ≡ true = (bytes_eq-Decides name x).1 (sym same) in
    let no : bytes_eq name x ≡ false = or_left (bytes_eq name x) _ e in
    absurd (cc)
none_at name (x ∷ xs) e (suc k) d within same = none_at name xs (or_right (bytes_eq name x) _ e) k d (omega arith) same

names_append : (xs ys : List Entry) → channel_names (xs ++ ys) ≡ channel_names xs ++ channel_names ys
names_append [] ys = refl
names_append (x ∷ xs) ys = ap (λ l. channel_name x ++ l) (names_append xs ys) ∙ sym
    (append_assoc (channel_name x) (channel_names xs) (channel_names ys))

abbrev Differ : List (List ℕ) → Type 0
Differ names = AllPairs (λ (a b : List ℕ). a ≢ b) names

not_repeated : (n t r : Bool) → t ≡ false → (if n then t else (not t && not r)) ≡ true → r ≡ false
not_repeated true t r never m = absurd (cc)
not_repeated false true r never m = absurd (cc)
not_repeated false false true never m = let off : false ≡ true = m in absurd (cc)
not_repeated false false false never m = refl

pub follows_told : (before : List Entry) (entry : Entry) → is_top entry ≡ false → may_follow before entry ≡ true
    → repeats before entry ≡ false
follows_told before entry no_top m = not_repeated (is_nil before) (is_top entry) (repeats before entry) no_top m

differ_more : (before : List Entry) (entry : Entry) → may_follow before entry ≡ true → Differ (channel_names before)
    → Differ (channel_names before ++ channel_name entry)
differ_more before (Top name) m differ = subst Differ (sym (append-nil (channel_names before))) differ
differ_more before (Clock port) m differ = subst Differ (sym (append-nil (channel_names before))) differ
differ_more before (Tie port number) m differ = subst Differ (sym (append-nil (channel_names before))) differ
differ_more before (Reset port active cycles) m differ = subst Differ (sym (append-nil (channel_names before))) differ
differ_more before (Ignore port) m differ = subst Differ (sym (append-nil (channel_names before))) differ
differ_more before (Channel c) m differ =
    all_pairs_push (λ (a b : List ℕ). a ≢ b) (channel_names before) c.name differ
    (none_at c.name (channel_names before) (follows_told before (Channel c) refl m))

names_differ : (before more : List Entry) → follow before more ≡ true → Differ (channel_names before)
    → Differ (channel_names (before ++ more))
names_differ before [] f differ = subst (λ l. Differ (channel_names l)) (sym (append-nil before)) differ
names_differ before (x ∷ more) f differ =
    let one : Differ (channel_names (before ++ x ∷ [])) =
    subst Differ (ap (λ l. channel_names before ++ l) (sym (append-nil (channel_name x))) ∙ sym (names_append before (x ∷ [])))
    (differ_more before x (left_of (may_follow before x) _ f) differ) in
    subst (λ l. Differ (channel_names l)) (append_assoc before (x ∷ []) more)
    (names_differ (before ++ x ∷ []) more (right_of (may_follow before x) _ f) one)

named_rows : (d : Design) (entry : Entry) → map (λ (r : Row). r.name) (rows_of d.ports entry) ≡ channel_name entry
named_rows d (Top name) = refl
named_rows d (Clock port) = refl
named_rows d (Tie port number) = refl
named_rows d (Reset port active cycles) = refl
named_rows d (Ignore port) = refl
named_rows d (Channel c) = refl

named_table : (d : Design) (lines : List MapLine) → map (λ (r : Row). r.name) (table_of d lines) ≡ channel_names (entries lines)
named_table d [] = refl
named_table d (l ∷ lines) =
    map-append (λ (r : Row). r.name) (rows_of d.ports l.entry) (table_of d lines) ∙ ap
    (λ xs. xs ++ map (λ (r : Row). r.name) (table_of d lines)) (named_rows d l.entry)
    ∙ ap (λ ys. channel_name l.entry ++ ys) (named_table d lines)

differ_back : (table : List Row) → Differ (map (λ (r : Row). r.name) table) → AllPairs (λ (a b : Row). a.name ≢ b.name) table
differ_back table differ = λ i j d less within same.
    differ i j d.name less (omega (arith, length-map table (λ (r : Row). r.name)))
    (get_or-map (λ (r : Row). r.name) table i d ∙ same ∙ sym (get_or-map (λ (r : Row). r.name) table j d))

pub table_is : (d : Design) → HaveWidths d.ports → (lines : List MapLine) → Fits d lines → follow [] (entries lines) ≡ true
    → list_all is_named (entries lines) ≡ true
    → limit_faults (table_of d lines) ≡ [] → IsTable (table_of d lines)
table_is d widths lines fits follows named none =
    let table = table_of d lines in
    let count : nat_le 1 (length table) && nat_le (length table) MOST_CHANNELS ≡ true = told_none _ _ (no_left (count_faults table) _ none) in
    let others : width_faults table ++ byte_faults table ≡ [] = no_right (count_faults table) _ none in
    record {
      some = leb-true _ _ (left_of _ _ count);
      few = leb-true _ _ (right_of (nat_le 1 (length table)) _ count);
      each = All-from_recursion IsChannel table
          (rows_lawful table (table_names d lines named) (table_widths d widths lines fits)
          (few_ports table (no_left (width_faults table) _ others)));
      differ = differ_back table (subst Differ (sym (named_table d lines))
          (names_differ [] (entries lines) follows (λ i j x less within. absurd (omega arith))));
      content = ltb-false _ _ (told_never _ _ (no_right (width_faults table) _ others));
    }
