-- The longest token of any kind is the longest of the kinds that begin with its first byte.
use Rattle.std.proofs.Common.{◌≡◌, ◌≢◌, ℕ, suc, ◌+◌, ◌<◌, ◌≤◌, Bool, true, false, cond, List, [], ◌∷◌, ◌++◌, ◌==◌, ◌||◌, length, take, drop}
use Rattle.std.proofs.Common.{sym, refl, ap, ◌∙◌, subst, ⊎_elim, arith, nat_le, append_assoc, append-nil, take-append-drop, length-take-le}
use Rattle.std.proofs.Common.{length-append, take_at}
use Rattle.std.specs.List.{list_any, list_all}
use Rattle.std.specs.Str.{bytes_eq}
use Rattle.std.proofs.lemmas.Slice.Eq.{bytes_eq-Decides}
use Rattle.std.proofs.lemmas.Bool.{false≢true, or_cases, or_left, and_parts, and_from, both_ways, le-leb}
use Rattle.std.proofs.lemmas.Bool.{eqb-true, leb-true, cases_lt}
use Rattle.std.proofs.lemmas.Bool.Decides.{nat_tests}
use Rattle.vlog_lex.specs.Words.{is_among, symbols, is_symbol}
use Rattle.vlog_lex.specs.Front.{IsLongestFront, has_symbol}
use Rattle.vlog_lex.specs.Lexeme.{begins_name, is_digit_of, IsName, IsDecimal, IsBased}
use Rattle.vlog_lex.specs.Lexeme.{IsSymbol, IsToken, IsLongest}
use Rattle.vlog_lex.specs.declared.token.TokenKind.{TokenKind}
use Rattle.vlog_lex.specs.declared.token.TokenKind.TheVariants.{Identifier, Reserved, Decimal, Based, Other}
use Rattle.vlog_lex.proofs.Numbers.{decimal_before_quote}

-- what a byte can begin: a name, a number, or neither
abbrev class_of_byte : ℕ → ℕ
class_of_byte b = cond (begins_name b) 1 (cond (is_digit_of 100 b || (b == 39)) 2 3)

abbrev class : List ℕ → ℕ
class [] = 0
class (b ∷ bs) = class_of_byte b

abbrev pub class_of_kind : TokenKind → ℕ
class_of_kind Identifier = 1
class_of_kind Reserved = 1
class_of_kind Decimal = 2
class_of_kind Based = 2
class_of_kind Other = 3

class_front : (front tail : List ℕ) → 0 < class front → class (front ++ tail) ≡ class front
class_front [] tail some = absurd (omega arith)
class_front (b ∷ front) tail some = refl

name_class : (text : List ℕ) → IsName text → class text ≡ 1
name_class [] run = absurd run
name_class (b ∷ text) run = ap (λ t. cond t 1 (cond (is_digit_of 100 b || (b == 39)) 2 3)) run.0

digit_no_name : (b : ℕ) → is_digit_of 100 b ≡ true → begins_name b ≡ false
digit_no_name b h = grind (arith, nat_tests)

decimal_class : (text : List ℕ) → IsDecimal text → class text ≡ 2
decimal_class [] run = absurd run
decimal_class (b ∷ text) run =
    ap (λ t. cond t 1 (cond (is_digit_of 100 b || (b == 39)) 2 3)) (digit_no_name b run.0)
    ∙ ap (λ t. cond t 2 3) (or_left (is_digit_of 100 b) (b == 39) run.0)

based_class : (text : List ℕ) → IsBased text → class text ≡ 2
based_class text based = ap class based.spelled ∙ ⊎_elim (λ none. ap (λ t. class (t ++ 39 ∷ based.base ∷ based.digits)) none)
    (λ run. class_front based.size (39 ∷ based.base ∷ based.digits) (omega (arith, decimal_class based.size run))
    ∙ decimal_class based.size run) based.sized

-- what holds of each text of a list holds of a text that is among them
pub holds_among : (P : List ℕ → Bool) (texts : List (List ℕ)) (text : List ℕ) → is_among texts text ≡ true → list_all P texts ≡ true
    → P text ≡ true
holds_among P [] text h all = absurd (false≢true h)
holds_among P (t ∷ texts) text h all =
    let parts = and_parts (P t) (list_all P texts) all in
    let Q : List ℕ → Type 0 = λ x. P x ≡ true in
    ⊎_elim
    (λ here. subst Q (sym ((bytes_eq-Decides text t).0 here)) parts.0)
    (λ there. holds_among P texts text there parts.1)
    (or_cases (bytes_eq text t) (list_any (bytes_eq text) texts) h)

symbol_class : (text : List ℕ) → is_symbol text ≡ true → class text ≡ 3
unfolding is_symbol
symbol_class text h = eqb-true _ _ (holds_among (λ t. class t == 3) symbols text h refl)

pub symbol_short : (text : List ℕ) → is_symbol text ≡ true → length text ≤ 3
unfolding is_symbol
symbol_short text h = leb-true _ _ (holds_among (λ t. nat_le (length t) 3) symbols text h refl)

kind_class : (kind : TokenKind) (text : List ℕ) → IsToken kind text → class text ≡ class_of_kind kind
kind_class Identifier text token = name_class text token.0
kind_class Reserved text token = name_class text token.0
kind_class Decimal text token = decimal_class text token
kind_class Based text token = based_class text token
kind_class Other text token = symbol_class text token

class_some : (kind : TokenKind) → 0 < class_of_kind kind
class_some Identifier = omega arith
class_some Reserved = omega arith
class_some Decimal = omega arith
class_some Based = omega arith
class_some Other = omega arith

-- the first byte says the class
same_class : (k j : TokenKind) (f t g u : List ℕ) → IsToken k f → IsToken j g → f ++ t ≡ g ++ u → class_of_kind k ≡ class_of_kind j
same_class k j f t g u a b e =
    let x = kind_class k f a in
    let y = kind_class j g b in
    let m = class_front f t (omega (arith, x, class_some k)) in
    let n = class_front g u (omega (arith, y, class_some j)) in
    sym x ∙ sym m ∙ ap class e ∙ n ∙ y

-- a token has a byte
pub token_some : (kind : TokenKind) (text : List ℕ) → IsToken kind text → 0 < length text
token_some kind [] token = absurd (omega (arith, kind_class kind [] token, class_some kind))
token_some kind (b ∷ text) token = omega arith

decimal_no_based : (text : List ℕ) → IsDecimal text → IsBased text → ⊥
decimal_no_based text decimal based =
    let short = decimal_before_quote text [] based.size (based.base ∷ based.digits) (append-nil text ∙ based.spelled) decimal in
    let long : length text ≡ length based.size + suc (suc (length based.digits)) = ap length based.spelled
    ∙ length-append based.size (39 ∷ based.base ∷ based.digits) in
    omega arith

-- a text is a token of one kind
pub one_kind : (k j : TokenKind) (text : List ℕ) → IsToken k text → IsToken j text → k ≡ j
one_kind k j text a b = by_class k j text a b (same_class k j text [] text [] a b refl)
  where
    by_class : (k j : TokenKind) (text : List ℕ) → IsToken k text → IsToken j text → class_of_kind k ≡ class_of_kind j → k ≡ j
    by_class Identifier Identifier text a b c = refl
    by_class Identifier Reserved text a b c = absurd (a.1 b.1)
    by_class Reserved Identifier text a b c = absurd (b.1 a.1)
    by_class Reserved Reserved text a b c = refl
    by_class Decimal Decimal text a b c = refl
    by_class Decimal Based text a b c = absurd (decimal_no_based text a b)
    by_class Based Decimal text a b c = absurd (decimal_no_based text b a)
    by_class Based Based text a b c = refl
    by_class Other Other text a b c = refl
    by_class k j text a b c = absurd (omega arith)

-- a front of n bytes that is a token is the longest, if the tokens of its class are no longer
by_class : (kind : TokenKind) (n : ℕ) (bytes : List ℕ) → n ≤ length bytes → IsToken kind (take n bytes)
    → ((other : TokenKind) (front tail : List ℕ) → front ++ tail ≡ bytes → IsToken other front → class_of_kind other ≡ class_of_kind kind
    → length front ≤ n)
    → IsLongest kind (take n bytes) (drop n bytes)
by_class kind n bytes fits token bound = record {
  token = token;
  longest = λ other front tail e found.
      let class = same_class other kind front tail (take n bytes) (drop n bytes) found token e in
      omega (arith, bound other front tail (e ∙ take-append-drop n bytes) found class, length-take-le n bytes fits);
}

pub longest_name : (kind : TokenKind) (n : ℕ) (bytes : List ℕ) → IsLongestFront IsName n bytes → IsToken kind (take n bytes)
    → class_of_kind kind ≡ 1 → IsLongest kind (take n bytes) (drop n bytes)
longest_name kind n bytes name token one =
    by_class kind n bytes name.fits token (λ other front tail e found class. bound other front tail n bytes name e found (class ∙ one))
  where
    bound : (other : TokenKind) (front tail : List ℕ) (n : ℕ) (bytes : List ℕ) → IsLongestFront IsName n bytes → front ++ tail ≡ bytes
        → IsToken other front → class_of_kind other ≡ 1 → length front ≤ n
    bound Identifier front tail n bytes name e found class = name.longest front tail e found.0
    bound Reserved front tail n bytes name e found class = name.longest front tail e found.0
    bound _ front tail n bytes name e found class = absurd (omega arith)

pub longest_based : (n : ℕ) (bytes : List ℕ) → IsLongestFront IsBased n bytes → 0 < n → IsLongest Based (take n bytes) (drop n bytes)
longest_based n bytes based some =
    by_class Based n bytes based.fits (based.found some) (λ other front tail e found class. bound other front tail n bytes based some e
    found class)
  where
    decimal_bound : (front tail : List ℕ) (n : ℕ) (bytes : List ℕ) → n ≤ length bytes → IsBased (take n bytes) → front ++ tail ≡ bytes
        → IsDecimal front → length front ≤ n
    decimal_bound front tail n bytes fits based e decimal =
        let split : front ++ tail ≡ based.size ++ 39 ∷ (based.base ∷ (based.digits ++ drop n bytes)) =
        e ∙ sym (take-append-drop n bytes) ∙ ap (λ t. t ++ drop n bytes) based.spelled
        ∙ append_assoc based.size (39 ∷ based.base ∷ based.digits) (drop n bytes) in
        let short = decimal_before_quote front tail based.size (based.base ∷ (based.digits ++ drop n bytes)) split decimal in
        let long : length (take n bytes) ≡ length based.size + suc (suc (length based.digits)) = ap length based.spelled
        ∙ length-append based.size (39 ∷ based.base ∷ based.digits) in
        omega (arith, short, long, length-take-le n bytes fits)

    bound : (other : TokenKind) (front tail : List ℕ) (n : ℕ) (bytes : List ℕ) → IsLongestFront IsBased n bytes → 0 < n → front ++ tail
        ≡ bytes → IsToken other front → class_of_kind other ≡ 2 → length front ≤ n
    bound Based front tail n bytes based some e found class = based.longest front tail e found
    bound Decimal front tail n bytes based some e found class = decimal_bound front tail n bytes based.fits (based.found some) e found
    bound _ front tail n bytes based some e found class = absurd (omega arith)

pub longest_decimal : (n : ℕ) (bytes : List ℕ) → IsLongestFront IsBased 0 bytes → IsLongestFront IsDecimal n bytes → 0 < n
    → IsLongest Decimal (take n bytes) (drop n bytes)
longest_decimal n bytes based decimal some =
    by_class Decimal n bytes decimal.fits (decimal.found some) (λ other front tail e found class. bound other front tail n bytes based
    decimal e found class)
  where
    bound : (other : TokenKind) (front tail : List ℕ) (n : ℕ) (bytes : List ℕ) → IsLongestFront IsBased 0 bytes
        → IsLongestFront IsDecimal n bytes → front ++ tail ≡ bytes → IsToken other front → class_of_kind other ≡ 2 → length front ≤ n
    bound Based front tail n bytes based decimal e found class = omega (arith, based.longest front tail e found)
    bound Decimal front tail n bytes based decimal e found class = decimal.longest front tail e found
    bound _ front tail n bytes based decimal e found class = absurd (omega arith)

pub longest_symbol : (n : ℕ) (bytes : List ℕ) → IsLongestFront IsSymbol n bytes → 0 < n → IsLongest Other (take n bytes) (drop n bytes)
longest_symbol n bytes symbol some =
    by_class Other n bytes symbol.fits (symbol.found some) (λ other front tail e found class. bound other front tail n bytes symbol e found
    class)
  where
    bound : (other : TokenKind) (front tail : List ℕ) (n : ℕ) (bytes : List ℕ) → IsLongestFront IsSymbol n bytes → front ++ tail ≡ bytes
        → IsToken other front → class_of_kind other ≡ 3 → length front ≤ n
    bound Other front tail n bytes symbol e found class = symbol.longest front tail e found
    bound _ front tail n bytes symbol e found class = absurd (omega arith)

-- no token is a front where none of the four sets has one
pub no_token : (bytes : List ℕ) → IsLongestFront IsName 0 bytes → IsLongestFront IsBased 0 bytes → IsLongestFront IsDecimal 0 bytes
    → IsLongestFront IsSymbol 0 bytes
    → (kind : TokenKind) (front tail : List ℕ) → front ++ tail ≡ bytes → ¬ IsToken kind front
no_token bytes name based decimal symbol kind front tail e token =
    let few = bound kind front tail bytes name based decimal symbol e token in
    omega (arith, few, token_some kind front token)
  where
    bound : (kind : TokenKind) (front tail bytes : List ℕ) → IsLongestFront IsName 0 bytes → IsLongestFront IsBased 0 bytes
        → IsLongestFront IsDecimal 0 bytes → IsLongestFront IsSymbol 0 bytes
        → front ++ tail ≡ bytes → IsToken kind front → length front ≤ 0
    bound Identifier front tail bytes name based decimal symbol e token = name.longest front tail e token.0
    bound Reserved front tail bytes name based decimal symbol e token = name.longest front tail e token.0
    bound Decimal front tail bytes name based decimal symbol e token = decimal.longest front tail e token
    bound Based front tail bytes name based decimal symbol e token = based.longest front tail e token
    bound Other front tail bytes name based decimal symbol e token = symbol.longest front tail e token

-- the longest symbol, by trying the lengths from 3 down
tried : (n : ℕ) (bytes : List ℕ) → n ≤ length bytes → (0 < n → is_symbol (take n bytes) ≡ true)
    → ((m : ℕ) → n < m → m ≤ 3 → has_symbol bytes m ≡ true → ⊥) → IsLongestFront IsSymbol n bytes
tried n bytes fits found none = record {
  fits = fits;
  found = found;
  longest = λ front tail e symbol.
      let all : length front ≤ length bytes = omega (arith, sym (ap length e) ∙ length-append front tail) in
      let is : front ≡ take (length front) bytes = sym (take_at front tail (length front) refl) ∙ ap (take (length front)) e in
      let P : List ℕ → Type 0 = λ t. is_symbol t ≡ true in
      ⊎_elim
      (λ (longer : n < length front). absurd (none (length front) longer (symbol_short front symbol)
      (and_from _ _ (le-leb _ _ all) (subst P is symbol))))
      (λ short. short)
      (cases_lt n (length front));
}

pub symbol_found : (n : ℕ) (bytes : List ℕ) → has_symbol bytes n ≡ true → ((m : ℕ) → n < m → m ≤ 3 → has_symbol bytes m ≡ false)
    → IsLongestFront IsSymbol n bytes
symbol_found n bytes has none =
    let parts = and_parts _ _ has in
    tried n bytes (leb-true n (length bytes) parts.0) (λ some. parts.1) (λ m more few symbol. both_ways _ (none m more few) symbol)

pub symbol_none : (bytes : List ℕ) → ((m : ℕ) → 0 < m → m ≤ 3 → has_symbol bytes m ≡ false) → IsLongestFront IsSymbol 0 bytes
symbol_none bytes none = tried 0 bytes (omega arith) (λ some. absurd (omega arith))
    (λ m more few symbol. both_ways _ (none m more few) symbol)

-- the lengths up to 3
pub from_3 : (t : ℕ → Bool) → t 3 ≡ false → (m : ℕ) → 2 < m → m ≤ 3 → t m ≡ false
from_3 t three m more few =
    let P : ℕ → Type 0 = λ k. t k ≡ false in
    let is : 3 ≡ m = omega arith in subst P is three

pub from_2 : (t : ℕ → Bool) → t 2 ≡ false → t 3 ≡ false → (m : ℕ) → 1 < m → m ≤ 3 → t m ≡ false
from_2 t two three m more few =
    let P : ℕ → Type 0 = λ k. t k ≡ false in
    ⊎_elim
    (λ (small : m < 3). let is : 2 ≡ m = omega arith in subst P is two)
    (λ large. let is : 3 ≡ m = omega arith in subst P is three)
    (cases_lt m 3)

pub from_1 : (t : ℕ → Bool) → t 1 ≡ false → t 2 ≡ false → t 3 ≡ false → (m : ℕ) → 0 < m → m ≤ 3 → t m ≡ false
from_1 t one two three m more few =
    let P : ℕ → Type 0 = λ k. t k ≡ false in
    ⊎_elim
    (λ (small : m < 2). let is : 1 ≡ m = omega arith in subst P is one)
    (λ large. from_2 t two three m large few)
    (cases_lt m 2)

-- a text whose longest token is a part of it is no token
pub part_token : (kind other : TokenKind) (n : ℕ) (text : List ℕ) → n ≤ length text → IsLongest kind (take n text) (drop n text) → n
    ≢ length text → ¬ IsToken other text
part_token kind other n text fits longest part token =
    let no_more = longest.longest other text [] (append-nil text ∙ sym (take-append-drop n text)) token in
    part (omega (arith, no_more, fits, length-take-le n text fits))
