-- A wave is told by its text.
use Rattle.std.proofs.Common.{◌≡◌, ◌≢◌, ℕ, zero, suc, ◌+◌, ◌*◌, ◌^◌, ◌-◌, ◌≤◌, ◌<◌, ◌&&◌, true, leb, List, [], ◌∷◌, length, All, refl, sym, subst, ◌∙◌, ap, arith, le-leb, ltb-true, get_or, Some, slice_get, slice_index}
use Rattle.std.proofs.lemmas.Bool.{and_from}
use Rattle.std.proofs.lemmas.List.Elements.{All-head, All-tail}
use Rattle.std.proofs.Math.Nat.{mul-le-mul_left, pow-le-pow_right}
use Rattle.vlog_lex.specs.vidi_bits.Number.{IsWidth}
use Rattle.vlog_lex.proofs.Solid.{is_solid, token_solid}
use Rattle.vlog_lex.specs.declared.token.TokenKind.TheVariants.{Identifier}
use Rattle.vlog_lex.specs.Span.{Each}
use Rattle.wave_text.specs.declared.wave.WaveNet.{WaveNet}
use Rattle.wave_text.specs.declared.wave.Wave.{Wave}
use Rattle.wave_text.specs.Names.{parts}
use Rattle.wave_text.specs.Reading.{largest, WaveIsRead}
use Rattle.wave_text.specs.Wave.{most_numbers, IsIdentifier, IsNet, FitsRow, IsWave}
use Rattle.wave_text.proofs.Joined.{is_word, are_words}
use Rattle.wave_text.proofs.Nets.{IsPlain}
use Rattle.wave_text.proofs.Rows.{IsSmall, AreSmall}
use Rattle.wave_text.proofs.Law.{told-is-read}

solid-word : (text : List ℕ) → Each is_solid text → is_word text ≡ true
solid-word [] h = refl
solid-word (b ∷ text) h = and_from (leb 33 b) (is_word text) (le-leb 33 b (let l = ltb-true 32 b h.0 in omega (arith, l))) (solid-word text h.1)

name-word : (name : List ℕ) → IsIdentifier name → is_word name ≡ true
name-word name is = solid-word name (token_solid Identifier name is)

names-words : (ps : List (List ℕ)) → All IsIdentifier ps → are_words ps ≡ true
names-words [] h = refl
names-words (p ∷ ps) h = and_from (is_word p) (are_words ps) (name-word p (All-head IsIdentifier p ps h)) (names-words ps (All-tail IsIdentifier p ps h))

plain-nets : (nets : List WaveNet) → All IsNet nets → All IsPlain nets
plain-nets nets are k d l = let is = are k d l in (names-words (parts (get_or nets k d).name) is.names, is.width.1)

small-number : (w x : ℕ) → w ≤ 128 → x < 2 ^ w → x ≤ largest
small-number w x l h = let most : 2 ^ w ≤ 2 ^ 128 = pow-le-pow_right (omega arith) l in omega (arith, h, most)

small-bit : (w x : ℕ) → x < 2 ^ w → w ≡ 1 → x < 2
small-bit w x h e = subst (λ (k : ℕ). x < 2 ^ k) e h

fits-tail : (net : WaveNet) (nets : List WaveNet) (x : ℕ) (xs : List ℕ) → FitsRow (net ∷ nets) (x ∷ xs) → FitsRow nets xs
fits-tail net nets x xs fits = record {
  long = let l = fits.long in omega (arith, l);
  each = λ k y at. fits.each (suc k) y at;
}

small-row : (nets : List WaveNet) (xs : List ℕ) → All IsNet nets → FitsRow nets xs → AreSmall nets xs
small-row [] [] are fits = tt
small-row [] (x ∷ xs) are fits = let l = fits.long in absurd (omega (arith, l))
small-row (net ∷ nets) [] are fits = let l = fits.long in absurd (omega (arith, l))
small-row (net ∷ nets) (x ∷ xs) are fits =
    let here : x < 2 ^ net.width = fits.each 0 net refl in (
      record { bit = small-bit net.width x here; wide = small-number net.width x (All-head IsNet net nets are).width.1 here },
      small-row nets xs (All-tail IsNet net nets are) (fits-tail net nets x xs fits),
    )

length-some : (nets : List WaveNet) → nets ≢ [] → 1 ≤ length nets
length-some [] h = absurd (h refl)
length-some (x ∷ nets) h = omega arith

few-rows : (r n : ℕ) → 1 ≤ n → r * n ≤ most_numbers → r < 2 ^ 64
few-rows r n some few = let m = mul-le-mul_left r some in let z : r < 2 ^ 64 = omega (arith, m, few) in z

few-nets : (r n : ℕ) → r * n ≤ most_numbers → 0 < r → n ≤ most_numbers
few-nets r n few some = grind (arith, mul-le-mul_left n some, few)

pub wave-is-read : WaveIsRead
wave-is-read w is = told-is-read w record {
  top = name-word w.top is.top;
  plain = plain-nets w.nets is.nets;
  small = λ k d l. small-row w.nets (get_or w.rows k d) is.nets (is.fit k d l);
  few = few-nets (length w.rows) (length w.nets) is.few;
  rows = few-rows (length w.rows) (length w.nets) (length-some w.nets is.some) is.few;
}
