-- A tree of good shape whose tokens pass no limit is, lines aside, the file of its own tokens.
use Rattle.std.proofs.Common.{◌≡◌, ℕ, ◌≤◌, List, [], ◌∷◌, Result, Ok, Err, length, map, inl, inr, refl, sym, ap, subst, ◌∙◌}
use Rattle.std.specs.Prelude.{IfOk}
use Rattle.vlog_print.specs.vlog_lex.declared.token.Token.{Token}
use Rattle.vlog_tree.specs.Tree.{FileOf}
use Rattle.vlog_tree.specs.Lines.{bare}
use Rattle.vlog_tree.specs.Shape.{IsGood}
use Rattle.vlog_tree.specs.Spelling.{toks}
use Rattle.vlog_tree.proofs.Marks.{toks_bare}
use Rattle.vlog_print.specs.vlog_parse.Marks.{all_marked}
use Rattle.vlog_print.specs.vlog_parse.Depth.{IsShallow}
use Rattle.vlog_print.specs.vlog_parse.Parsing.{IsFileOf, Refuses}
use Rattle.vlog_print.specs.vlog_parse.declared.error.ParseError.TheVariants.{Item}
use Rattle.vlog_print.specs.Printed.{IsTextOf, PrintedIsRead, PrintedIsSpelled}
use Rattle.shim_gen.specs.chan_map.declared.pins.Map.{Map}
use Rattle.shim_gen.specs.shim_trees.Wrapped.{reserved_names, wrapped}
use Rattle.vidi_bench.specs.vidi_answer.declared.answer.Ended.{Ended}
use Rattle.vidi_bench.specs.Design.{text_limit}
use Rattle.wrap_command.specs.Shims.{file_text, IsClearTree, IsFaultyTree, IsLong, IsReadAs, IsUnwrapped, IsWrapped}
use Rattle.vidi_bench.proofs.Chain.{Implies}

abbrev unlined : Token → Token
unlined t = record { kind = t.kind; text = t.text; line = 0 }

unlined-twice : (ts : List Token) → map unlined (map unlined ts) ≡ map unlined ts
unlined-twice [] = refl
unlined-twice (t ∷ ts) = ap (λ (us : List Token). unlined t ∷ us) (unlined-twice ts)

good-read : (text : List ℕ) (w : FileOf ℕ) → IsReadAs text w → IsGood (bare w)
good-read text w (tokens, has, low, (good, same)) = good

spelled-flat : (text : List ℕ) (w : FileOf ℕ) → IsTextOf w text → toks w ≡ map unlined (toks w)
spelled-flat text w (ts, has, same) = sym same ∙ sym (unlined-twice ts) ∙ ap (λ (us : List Token). map unlined us) same

pub own_file : PrintedIsSpelled → PrintedIsRead → (w : FileOf ℕ) → IsGood w → IsShallow (all_marked (toks w)) → IsFileOf (toks w) (bare w)
own_file spelled read w good low =
    (good-read (file_text w) w (read w good low), toks_bare w ∙ spelled-flat (file_text w) w (spelled w good))

-- so no refusal for its grammar comes of such a tree's tokens
pub never_item : PrintedIsSpelled → PrintedIsRead → (w : FileOf ℕ) (line : ℕ) → IsGood w → Refuses (toks w) (Item line) → ⊥
never_item spelled read w line good (its, low, none) = none (bare w) (own_file spelled read w good low)

-- ---- from the wrapped tree to what is answered of it
abbrev IsClearText : FileOf ℕ → Type 0
IsClearText w = IsClearTree w × (length (file_text w) ≤ text_limit) × IsReadAs (file_text w) w

pub wrapped-said : PrintedIsRead → (f : FileOf ℕ) (m : Map) (w : FileOf ℕ) (text : List ℕ) → w ≡ wrapped f m → IsGood w → reserved_names f ≡ []
    → IsClearTree w → text ≡ file_text w → length text ≤ text_limit → IsWrapped f m
wrapped-said read f m w text same good names clear is fits =
    let short : length (file_text w) ≤ text_limit = subst (λ (b : List ℕ). length b ≤ text_limit) is fits in
    let all : IsClearText (wrapped f m) = subst IsClearText same (clear, short, read w good clear.shallow) in
    record { names = names; clear = all.0; fits = all.1; reads = all.2 }

pub faulty-unwrapped : (f : FileOf ℕ) (m : Map) (w : FileOf ℕ) → w ≡ wrapped f m → reserved_names f ≡ []
    → Implies (IsFaultyTree w) (IsUnwrapped f m)
faulty-unwrapped f m w same names a x is = inr (names, inl (subst (λ (t : FileOf ℕ). IsFaultyTree t a x) same is))

pub long-unwrapped : (f : FileOf ℕ) (m : Map) (w : FileOf ℕ) → w ≡ wrapped f m → reserved_names f ≡ [] → IsClearTree w
    → Implies (IsLong w) (IsUnwrapped f m)
long-unwrapped f m w same names clear a x is =
    inr (names, inr (subst IsClearTree same clear, subst (λ (t : FileOf ℕ). IsLong t a x) same is))

pub text-said : (f : FileOf ℕ) (m : Map) (w : FileOf ℕ) (r : Result (List ℕ) Ended) → w ≡ wrapped f m → IfOk r (λ text. text ≡ file_text w)
    → IfOk r (λ text. text ≡ file_text (wrapped f m))
text-said f m w (Ok text) same is = is ∙ ap (λ (t : FileOf ℕ). file_text t) same
text-said f m w (Err e) same is = tt

pub wrapped-ok : PrintedIsRead → (f : FileOf ℕ) (m : Map) (w : FileOf ℕ) (r : Result (List ℕ) Ended) → w ≡ wrapped f m → IsGood w
    → reserved_names f ≡ [] → IsClearTree w → IfOk r (λ text. text ≡ file_text w) → IfOk r (λ text. length text ≤ text_limit)
    → IfOk r (λ _. IsWrapped f m)
wrapped-ok read f m w (Ok text) same good names clear is fits = wrapped-said read f m w text same good names clear is fits
wrapped-ok read f m w (Err e) same good names clear is fits = tt
