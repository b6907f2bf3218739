use Rattle.std.proofs.Common.{◌≡◌, ◌∙◌, ap, subst, min, List, ℕ, Option}
use Rattle.vlog_tree.specs.declared.expr.NumberKind.{NumberKind}
use Rattle.vlog_tree.specs.Plain.{plain_number}
use Rattle.vlog_size.specs.declared.facts.Facts.{Facts}
use Rattle.vlog_size.specs.declared.literal.Literal.{Literal}
use Rattle.vlog_size.specs.Facts.{Shows}
use Rattle.vlog_size.specs.Limits.{TOP}
use Rattle.vlog_size.specs.Literal.{is_unsized_literal, literal_width, literal_number, spelled_number}
use Rattle.vlog_size.specs.Size.{of_number}
use Rattle.vlog_size.proofs.evaluated.number_at.Goals as goal

-- what is said of a literal that is read is said of the literal of this kind
of_kind : (l : Literal) (k : NumberKind) (text : List ℕ) (line : ℕ) (f : Facts) → l.kind ≡ k
    → ((t : List ℕ) → l.is_unsized ≡ is_unsized_literal l.kind t → l.width ≡ min (literal_width l.kind t) TOP
    → l.spelled ≡ spelled_number l.kind t → Shows f (of_number (record { kind = l.kind; text = t; line = line })))
    → l.is_unsized ≡ is_unsized_literal k text → l.width ≡ min (literal_width k text) TOP → l.spelled ≡ spelled_number k text
    → Shows f (of_number (record { kind = k; text = text; line = line }))
of_kind l k text line f same says =
    subst (λ k. l.is_unsized ≡ is_unsized_literal k text → l.width ≡ min (literal_width k text) TOP → l.spelled ≡ spelled_number k text
    → Shows f (of_number (record { kind = k; text = text; line = line }))) same (says text)

-- and so of its number
number_of_kind : (l : Literal) (k : NumberKind) (text : List ℕ) (n : Option ℕ) → l.kind ≡ k
    → ((t : List ℕ) → l.width ≡ min (literal_width l.kind t) TOP → l.spelled ≡ spelled_number l.kind t → n ≡ literal_number l.kind t)
    → l.width ≡ min (literal_width k text) TOP → l.spelled ≡ spelled_number k text → n ≡ literal_number k text
number_of_kind l k text n same says =
    subst (λ k. l.width ≡ min (literal_width k text) TOP → l.spelled ≡ spelled_number k text → n ≡ literal_number k text) same (says text)

pub returns : goal.returns
returns c =
    let kind = c.args.number.now.kind in
    let text = c.args.number.now.text in
    let read = c.read_literal-literal in
    let width = read.ensures.width ∙ ap (λ t. min (literal_width kind t) TOP) c.as_slice.ensures in
    let spelled = read.ensures.spelled ∙ ap (spelled_number kind) c.as_slice.ensures in
    c.reached.ensures (of_number (plain_number c.args.number.now))
    (of_kind read.result kind text c.args.number.now.line c.number_facts-facts.result read.ensures.kind c.number_facts-facts.ensures
    (read.ensures.is_unsized ∙ ap (is_unsized_literal kind) c.as_slice.ensures) width spelled)
    (λ h k. number_of_kind read.result kind text c.read_number-n.result read.ensures.kind c.read_number-n.ensures width spelled)
