-- The ports that names are those of, and their widths.
use Rattle.std.proofs.Common.{◌≡◌, ℕ, ◌<◌, ◌^◌, Bool, true, false, if◌then◌else◌, List, [], ◌∷◌, ◌++◌, Option, Some, None, length, get_or}
use Rattle.std.proofs.Common.{take, refl, sym, ap, subst, ◌∙◌, arith, append_assoc, inl, inr}
use Rattle.std.specs.Prelude.{slice_get, count_by}
use Rattle.std.specs.Str.{bytes_eq}
use Rattle.std.proofs.lemmas.List.{take-append-le, take_all}
use Rattle.std.proofs.lemmas.Option.{slice_get_cases, get_or_from_slice_get, slice_get-get_or}
use Rattle.std.proofs.lemmas.Slice.Eq.{bytes_eq-Decides}
use borrow.Author.Tests.{ltb-true}
use Rattle.std.proofs.lemmas.Bool.{eqb-true}
use Rattle.vidi_lines.proofs.vidi_bits_lemmas.Bools.{left_of, right_of}
use Rattle.vidi_lines.specs.vidi_bits.Number.{IsWidth}
use Rattle.net_design.specs.declared.design.Port.{Port}
use Rattle.net_design.specs.declared.design.Direction.{Direction}
use Rattle.net_design.specs.declared.design.Direction.TheVariants.{Input, Output}
use Rattle.net_design.specs.declared.design.Design.{Design}
use Rattle.net_design.specs.Settled.{same_direction}
use Rattle.net_design.specs.Lawful.{IsLawful}
use Rattle.chan_map.specs.declared.sockets.Socket.{Socket}
use Rattle.chan_map.specs.Ports.{socket, socket_from, socket_named, is_pin, is_bit, is_tied, HaveWidths}
use Rattle.chan_map.specs.Bound.{place_of, width_of, pin_named, width_named, IsPin, IsTie}

-- the socket is that of a port with this name
pub record IsSocket (ports : List Port) (name : List ℕ) (s : Socket) : Type 0 where
  pub p : Port
  pub at : slice_get ports s.port ≡ Some p
  pub named : name ≡ p.name
  pub is : s ≡ socket (take s.port ports) p

here : (before : List Port) (p : Port) (rest : List Port) → slice_get (before ++ p ∷ rest) (length before) ≡ Some p
here [] p rest = refl
here (x ∷ before) p rest = here before p rest

front : (before rest : List Port) → take (length before) (before ++ rest) ≡ before
front before rest = take-append-le (length before) before rest (omega arith) ∙ take_all (length before) before (omega arith)

socket_at : (before rest : List Port) (p : Port) (name : List ℕ) (s : Socket) (b : Bool) → bytes_eq name p.name ≡ b
    → (socket_from (before ++ p ∷ []) rest name ≡ Some s → IsSocket ((before ++ p ∷ []) ++ rest) name s)
    → (if b then Some (socket before p) else socket_from (before ++ p ∷ []) rest name) ≡ Some s → IsSocket (before ++ p ∷ rest) name s
socket_at before rest p name s true eq later e =
    let is : socket before p ≡ s = cc in
    subst (IsSocket (before ++ p ∷ rest) name) is record {
      p = p;
      at = here before p rest;
      named = (bytes_eq-Decides name p.name).0 eq;
      is = ap (λ b. socket b p) (sym (front before (p ∷ rest)));
    }
socket_at before rest p name s false eq later e = subst (λ ports. IsSocket ports name s) (append_assoc before (p ∷ []) rest) (later e)

socket_is_from : (before ports : List Port) (name : List ℕ) (s : Socket) → socket_from before ports name ≡ Some s
    → IsSocket (before ++ ports) name s
socket_is_from before [] name s e = let off : None ≡ Some s = e in absurd (cc)
socket_is_from before (p ∷ rest) name s e = socket_at before rest p name s (bytes_eq name p.name) refl
    (socket_is_from (before ++ p ∷ []) rest name s) e

pub socket_is : (ports : List Port) (name : List ℕ) (s : Socket) → socket_named ports name ≡ Some s → IsSocket ports name s
socket_is ports name s e = socket_is_from [] ports name s e

-- ---- widths

there : (ports : List Port) (k : ℕ) (p : Port) → slice_get ports k ≡ Some p → k < length ports
there ports k p at = elim (slice_get_cases ports k).1 [ inl w ↦ w.1 | inr w ↦ let off : Some p ≡ None = sym at ∙ w.1 in absurd (cc) ]

pub port_width : (ports : List Port) → HaveWidths ports → (k : ℕ) (p : Port) → slice_get ports k ≡ Some p → IsWidth p.width
port_width ports widths k p at = subst (λ (x : Port). IsWidth x.width) (get_or_from_slice_get ports k p p at)
    (widths k p (there ports k p at))

net_width : (d : Design) → IsLawful d → (k : ℕ) (p : Port) → slice_get d.ports k ≡ Some p → IsWidth p.width
net_width d lawful k p at =
    let inside : k < length d.ports = there d.ports k p at in
    elim (slice_get_cases d.nets k).1 [
      | inl w ↦
          let width : w.0.width ≡ p.width = (lawful.port_nets k p w.0 at w.2).1 in
          let n : IsWidth (get_or d.nets k w.0).width = (lawful.nets k w.0 (omega (arith, lawful.ports))).0 in
          rw (← width, ← w.3) n
      | inr w ↦ absurd (omega (arith, w.0, lawful.ports))
    ]

pub lawful_widths : (d : Design) → IsLawful d → HaveWidths d.ports
lawful_widths d lawful = λ k p within. net_width d lawful k (get_or d.ports k p) (slice_get-get_or d.ports k p within)

pub narrow : (d : Design) → HaveWidths d.ports → (name : List ℕ) → width_named d.ports name < 256
narrow d widths name = by (socket_named d.ports name) refl
  where
    by : (o : Option Socket) → socket_named d.ports name ≡ o → width_of o < 256
    by None e = omega arith
    by (Some s) e =
        let is = socket_is d.ports name s e in
        let w = port_width d.ports widths s.port is.p is.at in
        omega (arith, ap (λ (x : Socket). x.width) is.is, w.1)

-- ---- pins

pub same : (d e : Direction) → same_direction d e ≡ true → e ≡ d
same Input Input e = refl
same Input Output e = let off : false ≡ true = e in absurd (cc)
same Output Input e = let off : false ≡ true = e in absurd (cc)
same Output Output e = refl

pub pin_is : (d : Design) (direction : Direction) (name : List ℕ) (o : Option Socket) → socket_named d.ports name ≡ o
    → is_pin direction o ≡ true
    → IsPin d direction (width_named d.ports name) (pin_named d.ports name)
pin_is d direction name None e pin = let off : false ≡ true = pin in absurd (cc)
pin_is d direction name (Some s) e pin =
    let is = socket_is d.ports name s e in
    let way : s.direction ≡ direction = same direction s.direction pin in
    let of_port : s.direction ≡ is.p.direction = ap (λ (x : Socket). x.direction) is.is in
    record {
      port = s.port;
      p = is.p;
      at = is.at;
      name = sym is.named;
      direction_is = sym of_port ∙ way;
      width_is = sym (ap width_of e ∙ ap (λ (x : Socket). x.width) is.is);
      place = ap place_of e ∙ ap (λ (x : Socket). x.place) is.is
          ∙ ap (λ (x : Direction). count_by (λ (q : Port). same_direction x q.direction) (take s.port d.ports)) (sym of_port ∙ way);
    }

pub bit_pin : (direction : Direction) (o : Option Socket) → is_bit direction o ≡ true → (is_pin direction o ≡ true) × (width_of o ≡ 1)
bit_pin direction None e = let off : false ≡ true = e in absurd (cc)
bit_pin direction (Some s) e = (left_of _ _ e, eqb-true _ _ (right_of _ _ e))

pub bit_is : (d : Design) (direction : Direction) (name : List ℕ) → is_bit direction (socket_named d.ports name) ≡ true
    → IsPin d direction 1 (pin_named d.ports name)
bit_is d direction name e =
    let both = bit_pin direction (socket_named d.ports name) e in
    subst (λ w. IsPin d direction w (pin_named d.ports name)) both.1 (pin_is d direction name (socket_named d.ports name) refl both.0)

pub tied_pin : (number : ℕ) (o : Option Socket) → is_tied number o ≡ true → (is_pin Input o ≡ true) × (number < 2 ^ width_of o)
tied_pin number None e = let off : false ≡ true = e in absurd (cc)
tied_pin number (Some s) e = (left_of _ _ e, ltb-true _ _ (right_of _ _ e))

pub tie_is : (d : Design) (name : List ℕ) (number : ℕ) → is_tied number (socket_named d.ports name) ≡ true
    → IsTie d record { pin = pin_named d.ports name; width = width_named d.ports name; number = number }
tie_is d name number e =
    let both = tied_pin number (socket_named d.ports name) e in
    record { pin = pin_is d Input name (socket_named d.ports name) refl both.0; fits = both.1 }
