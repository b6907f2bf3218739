-- What is read is of good shape and spelled so: lists.
use Rattle.std.proofs.Common.{◌≡◌, ℕ, zero, suc, List, [], ◌∷◌, ◌++◌, sym, ap, ◌∙◌, append_assoc, append-nil}
use Rattle.std.specs.List.{AllByRecursion}
use Rattle.vlog_tree.specs.declared.terminal.Terminal.TheVariants as t
use Rattle.vlog_tree.specs.Words.{WordOf, Fixed}
use Rattle.vlog_tree.specs.Spelling.{after_commas, with_commas, in_row}
use Rattle.vlog_tree.specs.Shape.{AreSomeGood}
use Rattle.vlog_expr.specs.Marks.{Toks, AreLawful}
use Rattle.vlog_expr.specs.Reader.{Read, more_at, some_at}
use Rattle.vlog_expr.proofs.Found.{From, again}
use Rattle.vlog_stmt.proofs.Sure.{Sure, nothing, sure, next, either, ◌▹◌, after_found}

-- at least one, of which the first meets a condition of its own
abbrev pub AreLed : {X : Type 0} → (X → Type 0) → (X → Type 0) → List X → Type 0
AreLed First Good [] = ⊥
AreLed First Good (x ∷ xs) = First x × AllByRecursion Good xs

pub led_good : {X : Type 0} (Good : X → Type 0) (xs : List X) → AreLed Good Good xs → AreSomeGood Good xs
led_good Good [] g = g
led_good Good (x ∷ xs) g = g

pub all_snoc : {X : Type 0} (Good : X → Type 0) (xs : List X) (x : X) → AllByRecursion Good xs → Good x → AllByRecursion Good (xs ++ x ∷ [])
all_snoc Good [] x g h = (h, tt)
all_snoc Good (y ∷ ys) x g h = (g.0, all_snoc Good ys x g.1 h)

pub led_snoc : {X : Type 0} (First Good : X → Type 0) (xs : List X) (x : X) → AreLed First Good xs → Good x
    → AreLed First Good (xs ++ x ∷ [])
led_snoc First Good [] x g h = absurd g
led_snoc First Good (y ∷ ys) x g h = (g.0, all_snoc Good ys x g.1 h)

pub some_snoc : {X : Type 0} (Good : X → Type 0) (xs : List X) (x : X) → AreSomeGood Good xs → Good x → AreSomeGood Good (xs ++ x ∷ [])
some_snoc Good [] x g h = absurd g
some_snoc Good (y ∷ ys) x g h = (g.0, all_snoc Good ys x g.1 h)

pub commas_snoc : {A X : Type 0} (words : X → List (WordOf A)) (xs : List X) (x : X) → after_commas words xs ++ Fixed t.Comma ∷ words x
    ≡ after_commas words (xs ++ x ∷ [])
commas_snoc {A = A} words [] x = ap (λ (ws : List (WordOf A)). Fixed t.Comma ∷ ws) (sym (append-nil (words x)))
commas_snoc {A = A} words (y ∷ ys) x = ap (λ (ws : List (WordOf A)). Fixed t.Comma ∷ ws)
    (append_assoc (words y) (after_commas words ys) (Fixed t.Comma ∷ words x)
    ∙ ap (λ (ws : List (WordOf A)). words y ++ ws) (commas_snoc words ys x))

pub row_snoc : {A X : Type 0} (words : X → List (WordOf A)) (xs : List X) (x : X) → in_row words xs ++ words x ≡ in_row words (xs ++ x ∷ [])
row_snoc words [] x = sym (append-nil (words x))
row_snoc {A = A} words (y ∷ ys) x = append_assoc (words y) (in_row words ys) (words x)
    ∙ ap (λ (ws : List (WordOf A)). words y ++ ws) (row_snoc words ys x)

pub alone : {A : Type 0} {ws rest : Toks A} {a : List (WordOf A)} → From A ws a rest → From A ws (a ++ []) rest
alone {A = A} {ws = ws} {rest = rest} {a = a} f = again A ws rest a (a ++ []) (sym (append-nil a)) f

-- something good, with these words
abbrev pub At : {A X : Type 0} → (X → Type 0) → (X → List (WordOf A)) → Toks A → X × Toks A → Type 0
At {A = A} Good words w x = Good x.0 × From A w (words x.0) x.1

-- items with commas between them, behind a first one
module _ (A X : Type 0) (one : Toks A → Read A X) (First Good : X → Type 0) (words : X → List (WordOf A))
    (read : (ws : Toks A) → AreLawful ws → Sure (one ws) (At Good words ws)) where
  more_step : (w mid rest : Toks A) (xs : List X) (x : X) → At (AreLed First Good) (with_commas words) w (xs, mid) → Good x
      → From A mid (Fixed t.Comma ∷ words x) rest
      → At (AreLed First Good) (with_commas words) w (xs ++ x ∷ [], rest)
  more_step w mid rest [] x g h f = absurd g.0
  more_step w mid rest (y ∷ ys) x g h f = (
    led_snoc First Good (y ∷ ys) x g.0 h,
    again A w rest ((words y ++ after_commas words ys) ++ Fixed t.Comma ∷ words x) (words y ++ after_commas words (ys ++ x ∷ []))
        (append_assoc (words y) (after_commas words ys) (Fixed t.Comma ∷ words x)
        ∙ ap (λ (ws : List (WordOf A)). words y ++ ws) (commas_snoc words ys x)) (g.1 ▹ f),
  )

  pub more_found : (n : ℕ) (w ws : Toks A) (xs : List X) → At (AreLed First Good) (with_commas words) w (xs, ws)
      → Sure (more_at one n xs ws) (At (AreLed First Good) (with_commas words) w)
  more_found zero w ws xs g = nothing
  more_found (suc n) w ws xs g =
      either (after_found A t.Comma ws g.1.lawful) (sure _ g)
      (λ c fc. next (read c.1 fc.lawful) (λ x gx. more_found n w x.1 (xs ++ x.0 ∷ []) (more_step w ws x.1 xs x.0 g gx.0 (fc ▹ gx.1))))

-- items with commas between them
pub some_found : (A X : Type 0) (one : Toks A → Read A X) (Good : X → Type 0) (words : X → List (WordOf A))
    → ((ws : Toks A) → AreLawful ws → Sure (one ws) (At Good words ws))
    → (n : ℕ) (ws : Toks A) → AreLawful ws → Sure (some_at one n ws) (At (AreLed Good Good) (with_commas words) ws)
some_found A X one Good words read n ws h = next (read ws h) (λ x g. more_found A X one Good Good words read n ws x.1 (x.0 ∷ [])
    ((g.0, tt), alone g.1))
