-- Lines that fit a design make pins that are its ports'.
use Rattle.std.proofs.Common.{◌≡◌, ℕ, suc, zero, ◌+◌, ◌<◌, ◌==◌, not, Bool, true, false, List, [], ◌∷◌, ◌++◌, map, Option, Some, None}
use Rattle.std.proofs.Common.{length, refl, ap, subst, ◌∙◌, arith}
use Rattle.std.specs.Prelude.{IfSome}
use Rattle.std.specs.List.{flat_map, list_all, AllZip, AllByRecursion}
use Rattle.std.proofs.lemmas.Bool.{eqb-true}
use Rattle.vidi_lines.proofs.vidi_bits_lemmas.Bools.{left_of, right_of}
use Rattle.vidi_lines.proofs.vidi_bits_lemmas.Each.{each_append}
use Rattle.vidi_lines.specs.vidi_bits.Findings.{told_if}
use Rattle.net_design.specs.declared.design.Port.{Port}
use Rattle.net_design.specs.declared.design.Direction.{Direction}
use Rattle.net_design.specs.declared.design.Direction.TheVariants.{Input}
use Rattle.net_design.specs.declared.design.Design.{Design}
use Rattle.chan_map.specs.declared.error.MapError.TheVariants as F
use Rattle.chan_map.specs.declared.map_text.Entry.{Entry}
use Rattle.chan_map.specs.declared.map_text.Entry.TheVariants.{Top, Clock, Tie, Reset, Ignore, Channel}
use Rattle.chan_map.specs.declared.map_text.MapLine.{MapLine}
use Rattle.chan_map.specs.declared.pins.Reset.{Reset as ResetOf}
use Rattle.chan_map.specs.Follow.{entries, clock_name}
use Rattle.chan_map.specs.Ports.{socket_named, is_pin, source_side, sink_side, line_fits, times}
use Rattle.chan_map.specs.Reasons.{port_faults, cover_from, capped}
use Rattle.chan_map.specs.Bound.{pin_named, width_named, rows_of, plugs_of, ties_of, resets_of, later, table_of, IsPin, IsPlug, IsTie}
use Rattle.chan_map.proofs.Found.{pin_is, bit_is, tie_is}

pub no_left : {A : Type 0} (xs ys : List A) → xs ++ ys ≡ [] → xs ≡ []
no_left [] ys e = refl
no_left (x ∷ xs) ys e = absurd (cc)

pub no_right : {A : Type 0} (xs ys : List A) → xs ++ ys ≡ [] → ys ≡ []
no_right [] ys e = e
no_right (x ∷ xs) ys e = absurd (cc)

pub told_none : {A : Type 0} (b : Bool) (x : A) → told_if (not b) x ≡ [] → b ≡ true
told_none true x e = refl
told_none false x e = absurd (cc)

zip_append : {A B : Type 0} (R : A → B → Type 0) (xs us : List A) (ys vs : List B) → AllZip R xs ys → AllZip R us vs
    → AllZip R (xs ++ us) (ys ++ vs)
zip_append R [] us [] vs h k = k
zip_append R [] us (y ∷ ys) vs h k = absurd h
zip_append R (x ∷ xs) us [] vs h k = absurd h
zip_append R (x ∷ xs) us (y ∷ ys) vs h k = (h.0, zip_append R xs us ys vs h.1 k)

abbrev pub Fits : Design → List MapLine → Type 0
Fits d lines = AllByRecursion (λ (l : MapLine). line_fits d l.entry ≡ true) lines

pub lines_fit : (d : Design) (lines : List MapLine) → port_faults d lines ≡ [] → Fits d lines
lines_fit d [] e = tt
lines_fit d (l ∷ lines) e = (
  told_none (line_fits d l.entry) (F.Port l.line) (no_left (told_if (not (line_fits d l.entry)) (F.Port l.line)) (port_faults d lines) e),
  lines_fit d lines (no_right (told_if (not (line_fits d l.entry)) (F.Port l.line)) (port_faults d lines) e),
)

-- ---- plugs

contents_fit : (d : Design) (side : Direction) (names : List (List ℕ))
    → list_all (λ name. is_pin side (socket_named d.ports name)) names ≡ true
    → AllZip (λ width pin. IsPin d side width pin) (map (width_named d.ports) names) (map (pin_named d.ports) names)
contents_fit d side [] e = tt
contents_fit d side (name ∷ names) e =
    (pin_is d side name (socket_named d.ports name) refl (left_of _ _ e), contents_fit d side names (right_of _ _ e))

plug_fits : (d : Design) (entry : Entry) → line_fits d entry ≡ true → AllZip (IsPlug d) (rows_of d.ports entry) (plugs_of d.ports entry)
plug_fits d (Top name) e = tt
plug_fits d (Clock port) e = tt
plug_fits d (Tie port number) e = tt
plug_fits d (Reset port active cycles) e = tt
plug_fits d (Ignore port) e = tt
plug_fits d (Channel c) e = (
  record {
    valid = bit_is d (source_side c.dir) c.valid (left_of _ _ e);
    ready = bit_is d (sink_side c.dir) c.ready (left_of _ _ (right_of _ _ e));
    contents = contents_fit d (source_side c.dir) c.contents (right_of _ _ (right_of _ _ e));
  },
  tt,
)

pub plugs_fit : (d : Design) (lines : List MapLine) → Fits d lines
    → AllZip (IsPlug d) (table_of d lines) (flat_map (λ (l : MapLine). plugs_of d.ports l.entry) lines)
plugs_fit d [] fits = tt
plugs_fit d (l ∷ lines) fits =
    zip_append (IsPlug d) (rows_of d.ports l.entry) (table_of d lines) (plugs_of d.ports l.entry)
    (flat_map (λ (x : MapLine). plugs_of d.ports x.entry) lines)
    (plug_fits d l.entry fits.0) (plugs_fit d lines fits.1)

-- ---- ties, reset, clock

tie_fits : (d : Design) (entry : Entry) → line_fits d entry ≡ true → AllByRecursion (IsTie d) (ties_of d.ports entry)
tie_fits d (Top name) e = tt
tie_fits d (Clock port) e = tt
tie_fits d (Tie port number) e = (tie_is d port number e, tt)
tie_fits d (Reset port active cycles) e = tt
tie_fits d (Ignore port) e = tt
tie_fits d (Channel c) e = tt

pub ties_fit : (d : Design) (lines : List MapLine) → Fits d lines
    → AllByRecursion (IsTie d) (flat_map (λ (l : MapLine). ties_of d.ports l.entry) lines)
ties_fit d [] fits = tt
ties_fit d (l ∷ lines) fits = each_append (IsTie d) (ties_of d.ports l.entry) _ (tie_fits d l.entry fits.0) (ties_fit d lines fits.1)

abbrev pub IsResetOf : Design → ResetOf → Type 0
IsResetOf d r = IsPin d Input 1 r.pin

reset_fits : (d : Design) (entry : Entry) → line_fits d entry ≡ true → AllByRecursion (IsResetOf d) (resets_of d.ports entry)
reset_fits d (Top name) e = tt
reset_fits d (Clock port) e = tt
reset_fits d (Tie port number) e = tt
reset_fits d (Reset port active cycles) e = (bit_is d Input port e, tt)
reset_fits d (Ignore port) e = tt
reset_fits d (Channel c) e = tt

resets_fit : (d : Design) (lines : List MapLine) → Fits d lines
    → AllByRecursion (IsResetOf d) (flat_map (λ (l : MapLine). resets_of d.ports l.entry) lines)
resets_fit d [] fits = tt
resets_fit d (l ∷ lines) fits = each_append (IsResetOf d) (resets_of d.ports l.entry) _ (reset_fits d l.entry fits.0)
    (resets_fit d lines fits.1)

later_fits : (d : Design) (o : Option ResetOf) (xs : List ResetOf) → IfSome o (IsResetOf d) → AllByRecursion (IsResetOf d) xs
    → IfSome (later o xs) (IsResetOf d)
later_fits d o [] h k = h
later_fits d o (x ∷ xs) h k = later_fits d (Some x) xs k.0 k.1

pub last_reset_fits : (d : Design) (lines : List MapLine) → Fits d lines
    → IfSome (later None (flat_map (λ (l : MapLine). resets_of d.ports l.entry) lines)) (IsResetOf d)
last_reset_fits d lines fits = later_fits d None _ tt (resets_fit d lines fits)

abbrev pub IsClockName : Design → List ℕ → Type 0
IsClockName d name = line_fits d (Clock name) ≡ true

clock_name_fits : (d : Design) (entry : Entry) → line_fits d entry ≡ true → AllByRecursion (IsClockName d) (clock_name entry)
clock_name_fits d (Top name) e = tt
clock_name_fits d (Clock port) e = (e, tt)
clock_name_fits d (Tie port number) e = tt
clock_name_fits d (Reset port active cycles) e = tt
clock_name_fits d (Ignore port) e = tt
clock_name_fits d (Channel c) e = tt

clock_names_fit : (d : Design) (lines : List MapLine) → Fits d lines → AllByRecursion (IsClockName d) (flat_map clock_name (entries lines))
clock_names_fit d [] fits = tt
clock_names_fit d (l ∷ lines) fits = each_append (IsClockName d) (clock_name l.entry) _ (clock_name_fits d l.entry fits.0)
    (clock_names_fit d lines fits.1)

pub clock_fits : (d : Design) (lines : List MapLine) (clock : List ℕ) → Fits d lines → flat_map clock_name (entries lines) ≡ clock ∷ []
    → line_fits d (Clock clock) ≡ true
clock_fits d lines clock fits one = (subst (AllByRecursion (IsClockName d)) one (clock_names_fit d lines fits)).0

-- ---- each port once

once_from : (ports : List Port) (words : List (List ℕ)) (k : ℕ) (rest : List Port) → cover_from ports words k rest ≡ [] → (j : ℕ)
    → j < length rest → times ports words (k + j) ≡ 1
once_from ports words k [] e j within = absurd (omega arith)
once_from ports words k (p ∷ rest) e zero within =
    let here : times ports words k ≡ 1 = eqb-true _ _
    (told_none (times ports words k == 1) (F.Cover p.name (capped (times ports words k)))
    (no_left _ (cover_from ports words (k + 1) rest) e)) in
    let at : k + zero ≡ k = omega arith in
    ap (times ports words) at ∙ here
once_from ports words k (p ∷ rest) e (suc j) within =
    let at : k + suc j ≡ k + 1 + j = omega arith in
    ap (times ports words) at
    ∙ once_from ports words (k + 1) rest
    (no_right (told_if (not (times ports words k == 1)) (F.Cover p.name (capped (times ports words k))))
    (cover_from ports words (k + 1) rest) e) j (omega arith)

pub once : (ports : List Port) (words : List (List ℕ)) → cover_from ports words 0 ports ≡ [] → (k : ℕ) → k < length ports
    → times ports words k ≡ 1
once ports words e k within = let at : k ≡ 0 + k = omega arith in ap (times ports words) at ∙ once_from ports words 0 ports e k within
