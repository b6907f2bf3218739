-- The longest list of whole units is the one that is found from the front.
use Rattle.std.proofs.Common.{◌≡◌, ℕ, zero, suc, ◌+◌, ◌-◌, ◌<◌, ◌≤◌, Bool, true, false, Option, None, Some, if◌then◌else◌, List, [], ◌∷◌}
use Rattle.std.proofs.Common.{◌++◌, length, map, take, drop, codes, refl, sym, ap, subst, ◌∙◌, arith, append_assoc, length-append}
use Rattle.std.specs.List.{AllByRecursion, flat_map}
use Rattle.std.proofs.lemmas.List.{map-append, take-append-drop, length-drop}
use Rattle.std.proofs.Math.Seq.{take-length}
use Rattle.vlog_item.proofs.vlog_lex_lemmas.Sample.{name_a}
use Rattle.vlog_item.specs.vlog_lex.declared.token.Token.{Token}
use Rattle.vlog_item.specs.vlog_lex.declared.token.TokenKind.{TokenKind}
use Rattle.vlog_item.specs.vlog_lex.declared.token.TokenKind.TheVariants.{Identifier, Reserved, Decimal, Based, Other}
use Rattle.vlog_tree.specs.declared.terminal.Terminal.TheVariants as t
use Rattle.vlog_tree.specs.Words.{WordOf, NameWord, Fixed}
use Rattle.vlog_tree.specs.Tree.{ParameterOf, PortOf, ItemOf, AlwaysItem, ModuleOf}
use Rattle.vlog_tree.specs.Spelling.{with_commas, in_row, hash_words, parameter_words, port_words}
use Rattle.vlog_tree.specs.Shape.{IsGoodName, IsFirstHeaded, IsGoodParameter, IsFirstDirected, IsGoodPort, IsGoodItem, IsGoodModule}
use Rattle.vlog_tree.specs.Shape.{AreSomeGood}
use Rattle.vlog_item.specs.vlog_expr.Marks.{TokenOf, Toks, marked, all_marked, spelled, spell, AreWords, IsLawfulText, AreLawful, is_terminal}
use Rattle.vlog_item.specs.vlog_expr.Marks.{after}
use Rattle.vlog_item.specs.vlog_expr.Lawful.{IsUnlawful}
use Rattle.vlog_item.specs.vlog_expr.Bare.{forget, forget_all}
use Rattle.vlog_item.specs.vlog_expr.Reader.{◌>>=◌, found_or, Read, fuel_for}
use Rattle.vlog_item.specs.vlog_expr.Laws.{Holds, seen}
use Rattle.vlog_item.specs.BareItem.{bare_item}
use Rattle.vlog_parse.specs.FileReader.{header_at}
use Rattle.vlog_item.specs.ItemReader.{item_at}
use Rattle.vlog_parse.specs.UnitReader.{whole_item, unit_at, read_or, behind_units}
use Rattle.vlog_parse.specs.Units.{UnitOf, Header, ItemUnit, Endmodule, module_units, unit_words, IsWhole, AreWhole, BeginWith}
use Rattle.vlog_parse.specs.Units.{AreLongest}
use Rattle.vlog_parse.specs.Units.{line_or, last_line, first_line, IsItemLine, OneItemLine}
use Rattle.vlog_item.proofs.vlog_expr_lemmas.Spelled.{U, spell_append}
use Rattle.vlog_item.proofs.vlog_expr_lemmas.Found.{From, again}
use Rattle.vlog_item.proofs.vlog_expr_lemmas.Maps.{marked_length}
use Rattle.vlog_item.proofs.vlog_expr_lemmas.Natural.{over_bind, over_found, after_natural}
use Rattle.vlog_item.proofs.vlog_expr_lemmas.Whole.{AreLawfulWords, lawful_append, spell_lawful, length_forget}
use Rattle.vlog_item.proofs.vlog_stmt_lemmas.Sure.{Sure, nothing, sure, next, either, after_found}
use Rattle.vlog_item.proofs.vlog_stmt_lemmas.Steps.{step, skipped}
use Rattle.vlog_item.proofs.ItemFound.{item_found}
use Rattle.vlog_parse.proofs.FileFound.{header_found}
use Rattle.vlog_item.proofs.ItemSpelled.{item_read, no_endmodule, some_item}
use Rattle.vlog_parse.proofs.FileSpelled.{header_read}
use Rattle.vlog_item.proofs.ItemNatural.{item_same}
use Rattle.vlog_parse.proofs.FileNatural.{bare_header, header_same}
use Rattle.vlog_parse.proofs.FileWhole.{all_commas_lawful, hash_lawful, port_lawful, parameter_lawful, item_lawful}

abbrev UnitU : Type 0
UnitU = UnitOf U

-- whether a module is open behind a unit
abbrev is_inside : UnitU → Bool
is_inside (Header name params ports) = true
is_inside (ItemUnit i) = true
is_inside Endmodule = false

-- a good unit, in a module or not
abbrev FitsIn : Bool → UnitU → Type 0
FitsIn false (Header name params ports) = IsGoodName name × IsFirstHeaded params × AllByRecursion IsGoodParameter params
    × IsFirstDirected ports × AllByRecursion IsGoodPort ports
FitsIn false (ItemUnit i) = ⊥
FitsIn false Endmodule = ⊥
FitsIn true (Header name params ports) = ⊥
FitsIn true (ItemUnit i) = IsGoodItem i
FitsIn true Endmodule = Unit {0}

-- good units, one after the other
abbrev pub Fit : Bool → List UnitU → Type 0
Fit inside [] = Unit {0}
Fit inside (u ∷ us) = FitsIn inside u × Fit (is_inside u) us

-- a good unit, before what makes it whole, is read
whole_again : (i : ItemOf U) (r : Toks U) → IsWhole (ItemUnit i) r → whole_item i r ≡ Some tt
whole_again (AlwaysItem a) r w = ap (λ (o : Option (U × Toks U)). found_or o (Some tt) (λ o. None)) w
whole_again _ r w = refl

unit_again : (n : ℕ) (inside : Bool) (u : UnitU) (r : Toks U) → FitsIn inside u → IsWhole u r → fuel_for (length (unit_words u)) ≤ n
    → unit_at n inside (spell tt (unit_words u) r) ≡ Some (is_inside u, r)
unit_again n false (Header name qs ps) r g w h =
    let end = Fixed t.ParenClose ∷ Fixed t.Semicolon ∷ [] in
    let long = length-append (hash_words parameter_words qs) (Fixed t.ParenOpen ∷ (with_commas port_words ps ++ end)) in
    let longer = length-append (with_commas port_words ps) end in
    step _ (header_read U tt name qs ps [] n r g.1 g.2 g.3 g.4 (omega arith) (omega arith)) refl
unit_again n false (ItemUnit i) r g w h = absurd g
unit_again n false Endmodule r g w h = absurd g
unit_again n true (Header name qs ps) r g w h = absurd g
unit_again n true (ItemUnit i) r g w h =
    skipped _ (no_endmodule U tt i r) (step _ (item_read U tt i n r g w h) (step _ (whole_again i r w) refl))
unit_again n true Endmodule r g w h = refl

-- what is read is a good unit that is whole
abbrev AtUnit : Bool → Toks U → Bool × Toks U → Type 0
AtUnit inside ws x = (u : UnitU) × FitsIn inside u × (is_inside u ≡ x.0) × IsWhole u x.1 × From U ws (unit_words u) x.1

none_found : {X : Type 0} (o : Option X) → Sure (found_or o (Some tt) (λ x. None)) (λ (w : U). o ≡ None)
none_found None = sure tt refl
none_found (Some x) = nothing

whole_found : (i : ItemOf U) (r : Toks U) → Sure (whole_item i r) (λ (w : U). IsWhole (ItemUnit i) r)
whole_found (AlwaysItem a) r = none_found (after t.Else r)
whole_found _ r = sure tt tt

unit_found : (n : ℕ) (inside : Bool) (ws : Toks U) → AreLawful ws → Sure (unit_at n inside ws) (AtUnit inside ws)
unit_found n false ws h =
    next (header_found U n ws h) (λ x g. sure _ (
      Header x.0.0 x.0.1 x.0.2,
      (g.0, g.1.0, g.1.1, g.2.0, g.2.1),
      refl,
      tt,
      again U ws x.1 _ _
          (ap (λ (words : List (WordOf U)). Fixed t.Module ∷ NameWord x.0.0 ∷
          (hash_words parameter_words x.0.1 ++ Fixed t.ParenOpen ∷ words))
          (append_assoc (with_commas port_words x.0.2) (Fixed t.ParenClose ∷ []) (Fixed t.Semicolon ∷ [])))
          g.3,
    ))
unit_found n true ws h =
    either (after_found U t.Endmodule ws h)
    (next (item_found U n ws h) (λ x g. next (whole_found x.0 x.1) (λ w gw. sure _ (ItemUnit x.0, g.0, refl, gw, g.1))))
    (λ o f. sure _ (Endmodule, tt, refl, tt, f))

-- tokens without lines that are these words are spelled so
words_spell : (words : List (WordOf U)) (ws rest : Toks U) → AreWords words ws rest → ws ≡ spell tt words rest
words_spell [] ws rest h = h
words_spell (w ∷ words) [] rest h = absurd h
words_spell (w ∷ words) (token ∷ ws) rest h = λ i. h.0 i ∷ words_spell words ws rest h.1 i

length_spelled : (words : List (WordOf U)) (r : Toks U) → length (spell tt words r) ≡ length words + length r
length_spelled [] r = omega arith
length_spelled (w ∷ words) r = omega (arith, length_spelled words r)

some_unit : (u : UnitU) → 0 < length (unit_words u)
some_unit (Header name qs ps) = omega arith
some_unit (ItemUnit i) = some_item U tt i
some_unit Endmodule = omega arith

-- the first of good units that the tokens spell is read
front_unit : (n : ℕ) (inside : Bool) (ws : Toks U) (v : UnitU) (vs : List UnitU) (r : Toks U) → fuel_for (length ws) ≤ n → FitsIn inside v
    → ws ≡ spell tt (in_row unit_words (v ∷ vs)) r → IsWhole v (spell tt (in_row unit_words vs) r) → unit_at n inside ws
    ≡ Some (is_inside v, spell tt (in_row unit_words vs) r)
front_unit n inside ws v vs r h g e w =
    let parts = e ∙ spell_append U tt (unit_words v) (in_row unit_words vs) r in
    let rest = spell tt (in_row unit_words vs) r in
    let long = ap (λ (us : Toks U). length us) parts ∙ length_spelled (unit_words v) rest in
    ap (λ (us : Toks U). unit_at n inside us) parts ∙ unit_again n inside v rest g w (omega (arith, long))

-- units that are found from the front, and of which there is no longer list
pub record Greedy (inside : Bool) (ws rest : Toks U) : Type 0 where
  pub units : List UnitU
  pub fit : Fit inside units
  pub spells : ws ≡ spell tt (in_row unit_words units) rest
  pub whole : AreWhole units rest
  pub longest : (vs : List UnitU) (r : Toks U) → Fit inside vs → ws ≡ spell tt (in_row unit_words vs) r → AreWhole vs r
      → length vs ≤ length units

some_none : {X : Type 0} (x : X) → Some x ≡ None → ⊥
some_none x h = cc

same_read : (x y : Bool × Toks U) → Some x ≡ Some y → x ≡ y
same_read x y h = cc

none_longer : (n : ℕ) (inside : Bool) (ws : Toks U) → fuel_for (length ws) ≤ n → unit_at n inside ws ≡ None
    → (vs : List UnitU) (r : Toks U) → Fit inside vs → ws ≡ spell tt (in_row unit_words vs) r → AreWhole vs r → length vs ≤ 0
none_longer n inside ws h none [] r f e w = omega arith
none_longer n inside ws h none (v ∷ vs) r f e w = absurd (some_none (is_inside v, spell tt (in_row unit_words vs) r)
    (sym (front_unit n inside ws v vs r h f.0 e w.0) ∙ none))

some_longer : (n : ℕ) (inside : Bool) (ws : Toks U) (x : Bool × Toks U) (m : ℕ) → fuel_for (length ws) ≤ n → unit_at n inside ws ≡ Some x
    → ((vs : List UnitU) (r : Toks U) → Fit x.0 vs → x.1 ≡ spell tt (in_row unit_words vs) r → AreWhole vs r → length vs ≤ m)
    → (vs : List UnitU) (r : Toks U) → Fit inside vs → ws ≡ spell tt (in_row unit_words vs) r → AreWhole vs r → length vs ≤ suc m
some_longer n inside ws x m h some longest [] r f e w = omega arith
some_longer n inside ws x m h some longest (v ∷ vs) r f e w =
    let same = same_read x (is_inside v, spell tt (in_row unit_words vs) r) (sym some ∙ front_unit n inside ws v vs r h f.0 e w.0) in
    let rest = longest vs r (subst (λ (b : Bool). Fit b vs) (sym (ap (λ (y : Bool × Toks U). y.0) same)) f.1)
    (ap (λ (y : Bool × Toks U). y.1) same) w.1 in
    omega (arith, rest)

abbrev Rest : ℕ → ℕ → Type 0
Rest n left = (inside : Bool) (ws : Toks U) → AreLawful ws → fuel_for (length ws) ≤ n → length ws ≤ left
    → Greedy inside ws (behind_units n left inside ws)

greedy_step : (n left : ℕ) (inside : Bool) (ws : Toks U) (o : Option (Bool × Toks U)) → Rest n left → fuel_for (length ws) ≤ n
    → length ws ≤ suc left
    → unit_at n inside ws ≡ o → Holds o (AtUnit inside ws) → Greedy inside ws (read_or o ws (λ u. behind_units n left u.0 u.1))
greedy_step n left inside ws None rec h l e s = record {
  units = [];
  fit = tt;
  spells = refl;
  whole = tt;
  longest = none_longer n inside ws
      h e;
}
greedy_step n left inside ws (Some x) rec h l e (u, fits, is, whole, from) =
    let first : ws ≡ spell tt (unit_words u) x.1 = words_spell (unit_words u) ws x.1 from.spells in
    let long = ap (λ (us : Toks U). length us) first ∙ length_spelled (unit_words u) x.1 in
    let more = rec x.0 x.1 from.lawful (omega (arith, long)) (omega (arith, long, some_unit u)) in
    let rest = behind_units n left x.0 x.1 in
    record {
      units = u ∷ more.units;
      fit = (fits, subst (λ (b : Bool). Fit b more.units) (sym is) more.fit);
      spells =
          first ∙ ap (spell tt (unit_words u)) more.spells ∙ sym (spell_append U tt (unit_words u) (in_row unit_words more.units) rest);
      whole = (subst (λ (us : Toks U). IsWhole u us) more.spells whole, more.whole);
      longest = some_longer n inside ws x (length more.units) h e more.longest;
    }

none_empty : (inside : Bool) (vs : List UnitU) (r : Toks U) → [] ≡ spell tt (in_row unit_words vs) r → length vs ≤ 0
none_empty inside [] r e = omega arith
none_empty inside (v ∷ vs) r e =
    let long = ap (λ (us : Toks U). length us) e ∙ length_spelled (unit_words v ++ in_row unit_words vs) r in
    absurd (omega (arith, long, some_unit v, length-append (unit_words v) (in_row unit_words vs)))

pub greedy : (n left : ℕ) (inside : Bool) (ws : Toks U) → AreLawful ws → fuel_for (length ws) ≤ n → length ws ≤ left
    → Greedy inside ws (behind_units n left inside ws)
greedy n zero inside [] g h l = record { units = []; fit = tt; spells = refl; whole = tt; longest = λ vs r f e w. none_empty inside vs r e }
greedy n zero inside (token ∷ ws) g h l = absurd (omega arith)
greedy n (suc left) inside ws g h l = greedy_step n left inside ws (unit_at n inside ws) (greedy n left) h l refl
    (unit_found n inside ws g).holds

-- two lists of as many units end at one place
pub same_rest : (us vs : List UnitU) (inside : Bool) (ws r q : Toks U) → Fit inside us → Fit inside vs → ws
    ≡ spell tt (in_row unit_words us) r
    → ws ≡ spell tt (in_row unit_words vs) q
    → AreWhole us r → AreWhole vs q → length us ≡ length vs → r ≡ q
same_rest [] [] inside ws r q f g d e w x l = sym d ∙ e
same_rest [] (v ∷ vs) inside ws r q f g d e w x l = absurd (omega (arith, l))
same_rest (u ∷ us) [] inside ws r q f g d e w x l = absurd (omega (arith, l))
same_rest (u ∷ us) (v ∷ vs) inside ws r q f g d e w x l =
    let n = fuel_for (length ws) in
    let same = same_read (is_inside u, spell tt (in_row unit_words us) r) (is_inside v, spell tt (in_row unit_words vs) q)
    (sym (front_unit n inside ws u us r (omega arith) f.0 d w.0) ∙ front_unit n inside ws v vs q (omega arith) g.0 e x.0) in
    same_rest us vs (is_inside u) (spell tt (in_row unit_words us) r) r q f.1
    (subst (λ (b : Bool). Fit b vs) (sym (ap (λ (y : Bool × Toks U). y.0) same)) g.1) refl (ap (λ (y : Bool × Toks U). y.1) same) w.1 x.1
    (omega (arith, l))

-- the units of a file fit, and so does each front of them
fit_items : (is : List (ItemOf U)) (more : List UnitU) → AllByRecursion IsGoodItem is → Fit false more
    → Fit true ((map ItemUnit is ++ Endmodule ∷ []) ++ more)
fit_items [] more g f = (tt, f)
fit_items (i ∷ is) more g f = (g.0, fit_items is more g.1 f)

fit_modules : (ms : List (ModuleOf U)) → AllByRecursion IsGoodModule ms → Fit false (flat_map module_units ms)
fit_modules [] g = tt
fit_modules (m ∷ ms) g = ((g.0.0, g.0.1, g.0.2, g.0.3, g.0.4), fit_items m.items (flat_map module_units ms) g.0.5 (fit_modules ms g.1))

all_good : (ms : List (ModuleOf U)) → AreSomeGood IsGoodModule ms → AllByRecursion IsGoodModule ms
all_good [] g = tt
all_good (m ∷ ms) g = g

fit_front : (inside : Bool) (us more : List UnitU) → Fit inside (us ++ more) → Fit inside us
fit_front inside [] more f = tt
fit_front inside (u ∷ us) more f = (f.0, fit_front (is_inside u) us more f.1)

pub begin_fit : (us : List UnitU) (ws r : Toks U) → BeginWith us ws r → Fit false us
begin_fit us ws r b = fit_front false us b.more (subst (λ (vs : List UnitU). Fit false vs) b.parts
    (fit_modules b.file.modules (all_good b.file.modules b.good)))

-- a file that begins with good units
abbrev least : ModuleOf U
least = record { name = codes "a"; parameters = []; ports = []; items = [] }

record Outside (us : List UnitU) : Type 0 where
  pub modules : List (ModuleOf U)
  pub good : AreSomeGood IsGoodModule modules
  pub more : List UnitU
  pub parts : flat_map module_units modules ≡ us ++ more

record Inside (us : List UnitU) : Type 0 where
  pub items : List (ItemOf U)
  pub fine : AllByRecursion IsGoodItem items
  pub modules : List (ModuleOf U)
  pub good : AllByRecursion IsGoodModule modules
  pub more : List UnitU
  pub parts : (map ItemUnit items ++ Endmodule ∷ []) ++ flat_map module_units modules ≡ us ++ more

least_good : IsGoodModule least
least_good = (name_a, tt, tt, tt, tt, tt)

mutual
  outside_file : (us : List UnitU) → Fit false us → Outside us
  outside_file [] f = record { modules = least ∷ []; good = (least_good, tt); more = flat_map module_units (least ∷ []); parts = refl }
  outside_file (Header name qs ps ∷ us) f =
      let r = inside_file us f.1 in
      record {
        modules = record { name = name; parameters = qs; ports = ps; items = r.items } ∷ r.modules;
        good = ((f.0.0, f.0.1, f.0.2, f.0.3, f.0.4, r.fine), r.good);
        more = r.more;
        parts = ap (λ (vs : List UnitU). Header name qs ps ∷ vs) r.parts;
      }
  outside_file (ItemUnit i ∷ us) f = absurd f.0
  outside_file (Endmodule ∷ us) f = absurd f.0

  inside_file : (us : List UnitU) → Fit true us → Inside us
  inside_file [] f = record { items = []; fine = tt; modules = []; good = tt; more = Endmodule ∷ []; parts = refl }
  inside_file (Header name qs ps ∷ us) f = absurd f.0
  inside_file (ItemUnit i ∷ us) f =
      let r = inside_file us f.1 in
      record {
        items = i ∷ r.items;
        fine = (f.0, r.fine);
        modules = r.modules;
        good = r.good;
        more = r.more;
        parts = ap
            (λ (vs : List UnitU). ItemUnit i ∷ vs) r.parts;
      }
  inside_file (Endmodule ∷ us) f =
      let r = outside_file us f.1 in
      record {
        items = [];
        fine = tt;
        modules = r.modules;
        good = all_good r.modules r.good;
        more = r.more;
        parts = ap
            (λ (vs : List UnitU). Endmodule ∷ vs) r.parts;
      }

pub begin_with : (us : List UnitU) (ws r : Toks U) → Fit false us → ws ≡ spell tt (in_row unit_words us) r → AreWhole us r
    → BeginWith us ws r
begin_with us ws r f e w =
    let o = outside_file us f in
    record { file = record { modules = o.modules }; good = o.good; more = o.more; parts = o.parts; spelled = e; whole = w }

unlawful_kind : (kind : TokenKind) (text : List ℕ) (line : U) (rest : Toks U) → (IsLawfulText kind text → ⊥)
    → after t.Else (record { kind = kind; text = text; line = line } ∷ rest) ≡ None
unlawful_kind Identifier text line rest h = refl
unlawful_kind Reserved text line rest h = absurd (h tt)
unlawful_kind Decimal text line rest h = refl
unlawful_kind Based text line rest h = refl
unlawful_kind Other text line rest h = refl

unlawful_else : (bad : Toks U) → IsUnlawful bad → after t.Else bad ≡ None
unlawful_else [] h = refl
unlawful_else (token ∷ rest) h = unlawful_kind token.kind token.text token.line rest h

if_other : {X : Type 0} (b : Bool) (x y : X) → (if b then Some x else None) ≡ None → (if b then Some y else None) ≡ None
if_other true x y e = absurd (some_none x e)
if_other false x y e = refl

else_more : (ws bad : Toks U) → IsUnlawful bad → after t.Else ws ≡ None → after t.Else (ws ++ bad) ≡ None
else_more [] bad h e = unlawful_else bad h
else_more (token ∷ ws) bad h e = if_other (is_terminal t.Else token) (token.line, ws) (token.line, ws ++ bad) e

else_less : (ws bad : Toks U) → after t.Else (ws ++ bad) ≡ None → after t.Else ws ≡ None
else_less [] bad e = refl
else_less (token ∷ ws) bad e = if_other (is_terminal t.Else token) (token.line, ws ++ bad) (token.line, ws) e

spell_behind : (words : List (WordOf U)) (r bad : Toks U) → spell tt words r ++ bad ≡ spell tt words (r ++ bad)
spell_behind [] r bad = refl
spell_behind (w ∷ words) r bad = ap (λ (us : Toks U). spelled tt w ∷ us) (spell_behind words r bad)

-- whole units stay whole where such a token or nothing follows
unit_more : (u : UnitU) (ws bad : Toks U) → IsUnlawful bad → IsWhole u ws → IsWhole u (ws ++ bad)
unit_more (Header name qs ps) ws bad h w = tt
unit_more (ItemUnit (AlwaysItem a)) ws bad h w = else_more ws bad h w
unit_more (ItemUnit _) ws bad h w = tt
unit_more Endmodule ws bad h w = tt

unit_less : (u : UnitU) (ws bad : Toks U) → IsWhole u (ws ++ bad) → IsWhole u ws
unit_less (Header name qs ps) ws bad w = tt
unit_less (ItemUnit (AlwaysItem a)) ws bad w = else_less ws bad w
unit_less (ItemUnit _) ws bad w = tt
unit_less Endmodule ws bad w = tt

units_more : (us : List UnitU) (r bad : Toks U) → IsUnlawful bad → AreWhole us r → AreWhole us (r ++ bad)
units_more [] r bad h w = tt
units_more (u ∷ us) r bad h w = (
  subst (λ (ws : Toks U). IsWhole u ws) (spell_behind (in_row unit_words us) r bad)
      (unit_more u (spell tt (in_row unit_words us) r) bad h w.0),
  units_more us r bad h w.1,
)

units_less : (us : List UnitU) (r bad : Toks U) → AreWhole us (r ++ bad) → AreWhole us r
units_less [] r bad w = tt
units_less (u ∷ us) r bad w = (
  unit_less u (spell tt (in_row unit_words us) r) bad (subst (λ (ws : Toks U). IsWhole u ws)
      (sym (spell_behind (in_row unit_words us) r bad)) w.0),
  units_less us r bad w.1,
)

-- the words of good units are lawful
unit_lawful : (inside : Bool) (u : UnitU) → FitsIn inside u → AreLawfulWords (unit_words u)
unit_lawful false (Header name qs ps) f =
    let end = Fixed t.ParenClose ∷ Fixed t.Semicolon ∷ [] in (
      tt,
      (
        f.0,
        lawful_append (hash_words parameter_words qs) (Fixed t.ParenOpen ∷ (with_commas port_words ps ++ end))
            (hash_lawful U (ParameterOf U) IsGoodParameter parameter_words (parameter_lawful U) qs f.2) (
              tt,
              lawful_append (with_commas port_words ps) end
                  (all_commas_lawful U (PortOf U) IsGoodPort port_words (port_lawful U) ps f.4) (tt, (tt, tt)),
            ),
      ),
    )
unit_lawful false (ItemUnit i) f = absurd f
unit_lawful false Endmodule f = absurd f
unit_lawful true (Header name qs ps) f = absurd f
unit_lawful true (ItemUnit i) f = item_lawful U i f
unit_lawful true Endmodule f = (tt, tt)

units_lawful : (inside : Bool) (us : List UnitU) → Fit inside us → AreLawfulWords (in_row unit_words us)
units_lawful inside [] f = tt
units_lawful inside (u ∷ us) f = lawful_append (unit_words u) (in_row unit_words us) (unit_lawful inside u f.0)
    (units_lawful (is_inside u) us f.1)

no_front : (w : WordOf U) (words : List (WordOf U)) (bad r : Toks U) → AreLawfulWords (w ∷ words) → IsUnlawful bad → bad
    ≡ spelled tt w ∷ r → ⊥
no_front w words bad r h l e = subst (λ (ws : Toks U). IsUnlawful ws) e l (spell_lawful tt (w ∷ words) h).0

abbrev first_of : TokenOf U → Toks U → TokenOf U
first_of x [] = x
first_of x (token ∷ ws) = token

abbrev rest_of : Toks U → Toks U
rest_of [] = []
rest_of (token ∷ ws) = ws

-- lawful words at the front lie before the unlawful token
cut : (words : List (WordOf U)) (ws bad r : Toks U) → AreLawfulWords words → IsUnlawful bad → ws ++ bad ≡ spell tt words r → (q : Toks U)
    × (r ≡ q ++ bad) × (ws ≡ spell tt words q)
cut [] ws bad r h l e = (ws, sym e, refl)
cut (w ∷ words) [] bad r h l e = absurd (no_front w words bad (spell tt words r) h l e)
cut (w ∷ words) (token ∷ ws) bad r h l e =
    let q = cut words ws bad r h.1 l (ap rest_of e) in
    let head : token ≡ spelled tt w = ap (first_of token) e in
    (q.0, q.1, λ i. head i ∷ q.2 i)

-- the list stays the longest
pub greedy_more : (ws rest bad : Toks U) → IsUnlawful bad → Greedy false ws rest → Greedy false (ws ++ bad) (rest ++ bad)
greedy_more ws rest bad h g = record {
  units = g.units;
  fit = g.fit;
  spells = ap (λ (us : Toks U). us ++ bad) g.spells ∙ spell_behind (in_row unit_words g.units) rest bad;
  whole = units_more g.units rest bad h g.whole;
  longest = λ vs r f e w.
      let q = cut (in_row unit_words vs) ws bad r (units_lawful false vs f) h e in
      g.longest vs q.0 f q.2 (units_less vs q.0 bad (subst (λ (us : Toks U). AreWhole vs us) q.1 w));
}

pub are_longest : (ws rest : Toks U) (g : Greedy false ws rest) → AreLongest g.units ws rest
are_longest ws rest g = record {
  begins = begin_with g.units ws rest g.fit g.spells g.whole;
  longest = λ us r b. g.longest us r (begin_fit us ws r b) b.spelled b.whole;
}

-- without lines the same stands behind the units
abbrev no_else : {A : Type 0} → Option (A × Toks A) → Option U
no_else o = found_or o (Some tt) (λ o. None)

abbrev no_line : ℕ → U
no_line a = tt

after_bare : (p : Option (U × Toks U)) (o : Option (ℕ × Toks ℕ)) → p ≡ seen no_line o → no_else p ≡ no_else o
after_bare p None e = ap (λ (o : Option (U × Toks U)). no_else o) e
after_bare p (Some x) e = ap (λ (o : Option (U × Toks U)). no_else o) e

whole_bare : (i : ItemOf ℕ) (r : Toks ℕ) → whole_item (bare_item i) (forget_all r) ≡ whole_item i r
whole_bare (AlwaysItem a) r = after_bare (after t.Else (forget_all r)) (after t.Else r) (after_natural ℕ t.Else r)
whole_bare _ r = refl

abbrev same : Bool → Bool
same b = b

behind_whole : (o : Option U) (p : Option U) (r : Toks ℕ) → p ≡ o → (p >>= λ w. Some (true, forget_all r))
    ≡ seen same (o >>= λ w. Some (true, r))
behind_whole None p r e = ap (λ (o : Option U). o >>= λ w. Some (true, forget_all r)) e
behind_whole (Some w) p r e = ap (λ (o : Option U). o >>= λ w. Some (true, forget_all r)) e

unit_natural : (n : ℕ) (inside : Bool) (ws : Toks ℕ) → unit_at n inside (forget_all ws) ≡ seen same (unit_at n inside ws)
unit_natural n false ws =
    over_bind ℕ bare_header same (header_at n ws) (header_at n (forget_all ws)) (λ h. Some (true, h.1)) (λ h. Some (true, h.1))
    (header_same ℕ n ws).is (λ h. refl)
unit_natural n true ws =
    over_found ℕ (λ (a : ℕ). tt) same (after t.Endmodule ws) (after t.Endmodule (forget_all ws))
    (item_at n ws >>= λ i. whole_item i.0 i.1 >>= λ w. Some (true, i.1))
    (item_at n (forget_all ws) >>= λ i. whole_item i.0 i.1 >>= λ w. Some (true, i.1))
    (λ o. Some (false, o.1)) (λ o. Some (false, o.1))
    (after_natural ℕ t.Endmodule ws)
    (over_bind ℕ bare_item same (item_at n ws) (item_at n (forget_all ws)) (λ i. whole_item i.0 i.1 >>= λ w. Some (true, i.1))
    (λ i. whole_item i.0 i.1 >>= λ w. Some (true, i.1))
    (item_same ℕ n ws).is
    (λ i. behind_whole (whole_item i.0 i.1) (whole_item (bare_item i.0) (forget_all i.1)) i.1 (whole_bare i.0 i.1)))
    (λ o. refl)

behind_seen : (n left : ℕ) (ws : Toks ℕ) (o : Read ℕ Bool) (p : Read U Bool) → p ≡ seen same o
    → ((inside : Bool) (us : Toks ℕ) → behind_units n left inside (forget_all us) ≡ forget_all (behind_units n left inside us))
    → read_or p (forget_all ws) (λ u. behind_units n left u.0 u.1) ≡ forget_all (read_or o ws (λ u. behind_units n left u.0 u.1))
behind_seen n left ws None p e rec = ap (λ (o : Read U Bool). read_or o (forget_all ws) (λ u. behind_units n left u.0 u.1)) e
behind_seen n left ws (Some x) p e rec = ap (λ (o : Read U Bool). read_or o (forget_all ws) (λ u. behind_units n left u.0 u.1)) e
    ∙ rec x.0 x.1

behind_natural : (n left : ℕ) (inside : Bool) (ws : Toks ℕ) → behind_units n left inside (forget_all ws)
    ≡ forget_all (behind_units n left inside ws)
behind_natural n zero inside ws = refl
behind_natural n (suc left) inside ws = behind_seen n left ws (unit_at n inside ws) (unit_at n inside (forget_all ws))
    (unit_natural n inside ws) (behind_natural n left)

-- the line behind the units that are found in the lawful front of the tokens
forget_append : (a b : Toks ℕ) → forget_all (a ++ b) ≡ forget_all a ++ forget_all b
forget_append [] b = refl
forget_append (token ∷ a) b = ap (λ (us : Toks U). forget token ∷ us) (forget_append a b)

forget_lawful : (ws : Toks ℕ) → AreLawful ws → AreLawful (forget_all ws)
forget_lawful [] h = tt
forget_lawful (token ∷ ws) h = (h.0, forget_lawful ws h.1)

forget_unlawful : (ws : Toks ℕ) → IsUnlawful ws → IsUnlawful (forget_all ws)
forget_unlawful [] h = tt
forget_unlawful (token ∷ ws) h = h

pub rest_short : (front : Toks ℕ) → AreLawful front → length (behind_units (fuel_for (length front)) (fuel_for (length front)) false front)
    ≤ length front
rest_short front l =
    let n = fuel_for (length front) in
    let rest = behind_units n n false front in
    let same = length_forget front in
    let g = greedy n n false (forget_all front) (forget_lawful front l) (omega (arith, same)) (omega (arith, same)) in
    let long = ap (λ (us : Toks U). length us) g.spells ∙ length_spelled (in_row unit_words g.units)
    (behind_units n n false (forget_all front)) in
    let short = ap (λ (us : Toks U). length us) (behind_natural n n false front) ∙ length_forget rest in
    omega (arith, same, long, short)

pub item_line : (front bad : Toks ℕ) (line k : ℕ) → AreLawful front → IsUnlawful bad
    → k ≡ length front - length (behind_units (fuel_for (length front)) (fuel_for (length front)) false front)
    → line ≡ first_line (front ++ bad) (drop k (front ++ bad)) → IsItemLine (front ++ bad) line
item_line front bad line k l h is its =
    let n = fuel_for (length front) in
    let rest = behind_units n n false front in
    let same = length_forget front in
    let found = greedy n n false (forget_all front) (forget_lawful front l) (omega (arith, same)) (omega (arith, same)) in
    let g = greedy_more (forget_all front) (forget_all rest) (forget_all bad) (forget_unlawful bad h)
    (subst (λ (us : Toks U). Greedy false (forget_all front) us) (behind_natural n n false front) found) in
    let place : k ≡ length (front ++ bad) - length (forget_all rest ++ forget_all bad) =
    omega (arith, is, length-append front bad, length-append (forget_all rest) (forget_all bad), length_forget rest, length_forget bad) in
    record {
      units = g.units;
      rest = forget_all rest ++ forget_all bad;
      longest = subst (λ (us : Toks U). AreLongest g.units us (forget_all rest ++ forget_all bad)) (sym (forget_append front bad))
          (are_longest (forget_all front ++ forget_all bad) (forget_all rest ++ forget_all bad) g);
      its_line = its ∙ ap (λ (i : ℕ). first_line (front ++ bad) (drop i (front ++ bad))) place;
    }

pub marked_drop : (n : ℕ) (ts : List Token) → all_marked (drop n ts) ≡ drop n (all_marked ts)
marked_drop zero ts = refl
marked_drop (suc n) [] = refl
marked_drop (suc n) (token ∷ ts) = marked_drop n ts

-- one turn of the loop over units
pub units_turn : (n m l : ℕ) (inside : Bool) (ws : Toks ℕ) (x : Bool × Toks ℕ) → m ≡ suc l → unit_at n inside ws ≡ Some x
    → behind_units n m inside ws ≡ behind_units n l x.0 x.1
units_turn n m l inside ws x e h =
    ap (λ (i : ℕ). behind_units n i inside ws) e ∙ ap (λ (o : Read ℕ Bool). read_or o ws (λ u. behind_units n l u.0 u.1)) h

pub units_stop : (n m l : ℕ) (inside : Bool) (ws : Toks ℕ) → m ≡ suc l → unit_at n inside ws ≡ None → behind_units n m inside ws ≡ ws
units_stop n m l inside ws e h =
    ap (λ (i : ℕ). behind_units n i inside ws) e ∙ ap (λ (o : Read ℕ Bool). read_or o ws (λ u. behind_units n l u.0 u.1)) h

-- a slice from a place on, as the code makes it
abbrev from_place : ℕ → List Token → List Token
from_place k ts = take (length ts - k) (drop k ts)

from_drop : (k : ℕ) (ts : List Token) → from_place k ts ≡ drop k ts
from_drop k ts = ap (λ (n : ℕ). take n (drop k ts)) (sym (length-drop k ts)) ∙ take-length (drop k ts)

pub last_line_of : (ts : List Token) (k line : ℕ) → k ≡ length ts - 1 → line ≡ line_or 1 (all_marked (from_place k ts)) → line
    ≡ last_line (all_marked ts)
last_line_of ts k line e h =
    let at : k ≡ length (all_marked ts) - 1 = omega (arith, e, marked_length ts) in
    h ∙ ap (λ (us : List Token). line_or 1 (all_marked us)) (from_drop k ts) ∙ ap (line_or 1) (marked_drop k ts)
    ∙ ap (λ (i : ℕ). line_or 1 (drop i (all_marked ts))) at

-- the same as the code finds it
pub item_line_of : (ts : List Token) (n fuel place line : ℕ) (rest : List Token) → AreLawful (all_marked (take n ts))
    → IsUnlawful (all_marked (drop n ts))
    → fuel ≡ fuel_for (length (take n ts)) → all_marked rest ≡ behind_units fuel fuel false (all_marked (take n ts)) → place
    ≡ length (take n ts) - length rest
    → (last : ℕ) → last ≡ last_line (all_marked ts) → line ≡ line_or last (all_marked (from_place place ts))
    → IsItemLine (all_marked ts) line
item_line_of ts n fuel place line rest l h f b p last e its =
    let front = all_marked (take n ts) in
    let bad = all_marked (drop n ts) in
    let parts : front ++ bad ≡ all_marked ts = sym (map-append marked (take n ts) (drop n ts)) ∙ ap all_marked (take-append-drop n ts) in
    let enough : fuel ≡ fuel_for (length front) = f ∙ ap fuel_for (sym (marked_length (take n ts))) in
    let behind : all_marked rest ≡ behind_units (fuel_for (length front)) (fuel_for (length front)) false front =
    b ∙ ap (λ (m : ℕ). behind_units m m false front) enough in
    let at : place ≡ length front - length (behind_units (fuel_for (length front)) (fuel_for (length front)) false front) =
    omega (arith, p, marked_length (take n ts), marked_length rest, ap (λ (us : Toks ℕ). length us) behind) in
    subst (λ (us : Toks ℕ). IsItemLine us line) parts
    (item_line front bad line place l h at
    (its ∙ ap (λ (i : ℕ). line_or i (all_marked (from_place place ts))) e
    ∙ ap (λ (us : List Token). first_line (all_marked ts) (all_marked us)) (from_drop place ts)
    ∙ ap (λ (us : Toks ℕ). first_line (all_marked ts) us) (marked_drop place ts)
    ∙ ap (λ (us : Toks ℕ). first_line us (drop place us)) (sym parts)))

antisym : (a b : ℕ) → a ≤ b → b ≤ a → a ≡ b
antisym a b h k = omega (arith, h, k)

pub one_item_line : OneItemLine
one_item_line ws a b x y =
    let us = x.longest.begins in
    let vs = y.longest.begins in
    let many = antisym (length x.units) (length y.units) (y.longest.longest x.units x.rest us) (x.longest.longest y.units y.rest vs) in
    let same = same_rest x.units y.units false (forget_all ws) x.rest y.rest
    (begin_fit x.units (forget_all ws) x.rest us) (begin_fit y.units (forget_all ws) y.rest vs) us.spelled vs.spelled us.whole vs.whole many
    in
    x.its_line ∙ ap (λ (us : Toks U). first_line ws (drop (length ws - length us) ws)) same ∙ sym y.its_line
