-- What holds where nothing is found.
use Rattle.std.proofs.Common.{◌≡◌, ℕ, zero, suc, ◌+◌, ◌<◌, ◌≤◌, min, ◌==◌, not, nat_lt, Bool, true, false, List, [], ◌∷◌, Some}
use Rattle.std.proofs.Common.{slice_get, ⊎_elim, refl, ap, sym, ◌∙◌, arith}
use Rattle.std.proofs.lemmas.Bool.{cases_lt, eqb-true, lt-ltb, not-false}
use Rattle.std.proofs.lemmas.Option.{same_Some}
use Rattle.net_code.specs.vidi_bits.Findings.{told_if}
use Rattle.net_design.specs.declared.act.Code.{Code}
use Rattle.net_design.specs.declared.act.Place.{Place}
use Rattle.net_design.specs.declared.design.Net.{Net}
use Rattle.net_design.specs.declared.design.DesignMemory.{DesignMemory}
use Rattle.net_design.specs.declared.design.Driver.{Driver}
use Rattle.net_drive.specs.declared.findings.NetKind.{NetKind}
use Rattle.net_drive.specs.declared.findings.NetKind.TheVariants.{Pin, Wire, Reg}
use Rattle.net_drive.specs.declared.findings.Misdriven.{Misdriven}
use Rattle.net_code.specs.Targets.{nets_named, rooms_named, bit_count}
use Rattle.net_drive.specs.Drive.{block_count, block_names, wire_places, kind_at, kind_faults, bit_faults, nets_from}
use Rattle.net_drive.specs.Drive.{memory_at, memories_from, net_faults, memory_faults, drive_faults}
use Rattle.net_drive.specs.Laws.{IsDriven}
use Rattle.net_code.proofs.vidi_bits_lemmas.Bools.{not_both}
use Rattle.net_code.proofs.vidi_bits_lemmas.Lists.{nil_left, nil_right}

told_none : (b : Bool) (x : Misdriven) → told_if b x ≡ [] → b ≡ false
told_none true x e = absurd (cc)
told_none false x e = refl

bits_none : (places : List Place) (m pins k n : ℕ) → bit_faults places m pins k n ≡ [] → (j : ℕ) → k ≤ j → j < k + n
    → pins + bit_count places m j ≡ 1
bits_none places m pins k zero e j from to = absurd (omega arith)
bits_none places m pins k (suc n) e j from to =
    let test = pins + bit_count places m k == 1 in
    let here : test ≡ true = not-false test (told_none (not test) _ (nil_left (told_if (not test) _) _ e)) in
    ⊎_elim
    (λ (more : k < j). bits_none places m pins (k + 1) n (nil_right (told_if (not test) _) _ e) j (omega arith) (omega arith))
    (λ (last : j ≤ k).
    let same : k ≡ j = omega arith in
    sym (ap (λ i. pins + bit_count places m i) same) ∙ eqb-true (pins + bit_count places m k) 1 here)
    (cases_lt k j)

few_of : (n : ℕ) → nat_lt 1 n ≡ false → n ≤ 1
few_of n e = ⊎_elim
    (λ (many : 1 < n). absurd (not_both (nat_lt 1 n) (lt-ltb 1 n many) e))
    (λ (few : n ≤ 1). few)
    (cases_lt 1 n)

right_of : (places : List Place) (blocks : List (List ℕ)) (m width : ℕ) (kind : NetKind) → kind_faults places blocks m width kind ≡ []
    → IsDriven places blocks m width kind
right_of places blocks m width Pin e = λ k l.
    let h : 1 + bit_count places m k ≡ 1 = bits_none places m 1 0 (min width 128) e k (omega arith) (omega arith) in omega (arith, h)
right_of places blocks m width Wire e = λ k l.
    let h : 0 + bit_count places m k ≡ 1 = bits_none places m 0 0 (min width 128) e k (omega arith) (omega arith) in omega (arith, h)
right_of places blocks m width Reg e = few_of (block_count blocks m) (told_none (nat_lt 1 (block_count blocks m)) _ e)

net_none : (places : List Place) (blocks : List (List ℕ)) (kinds : List NetKind) (i : ℕ) (nets : List Net)
    → nets_from places blocks kinds i nets ≡ [] → (m : ℕ) (n : Net) → slice_get nets m ≡ Some n
    → kind_faults places blocks (i + m) n.width (kind_at kinds (i + m)) ≡ []
net_none places blocks kinds i [] e m n is = absurd (cc)
net_none places blocks kinds i (x ∷ nets) e zero n is =
    let same : i + 0 ≡ i = omega arith in
    ap (λ j. kind_faults places blocks j n.width (kind_at kinds j)) same
    ∙ sym (ap (λ (y : Net). kind_faults places blocks i y.width (kind_at kinds i)) (same_Some x n is))
    ∙ nil_left (kind_faults places blocks i x.width (kind_at kinds i)) _ e
net_none places blocks kinds i (x ∷ nets) e (suc m) n is =
    let same : i + suc m ≡ i + 1 + m = omega arith in
    ap (λ j. kind_faults places blocks j n.width (kind_at kinds j)) same
    ∙ net_none places blocks kinds (i + 1) nets (nil_right (kind_faults places blocks i x.width (kind_at kinds i)) _ e) m n is

memory_none : (blocks : List (List ℕ)) (i : ℕ) (memories : List DesignMemory) → memories_from blocks i memories ≡ []
    → (j : ℕ) (a : DesignMemory) → slice_get memories j ≡ Some a → block_count blocks a.room.first ≤ 1
memory_none blocks i [] e j a is = absurd (cc)
memory_none blocks i (x ∷ memories) e zero a is =
    few_of (block_count blocks a.room.first) (sym (ap (λ (y : DesignMemory). nat_lt 1 (block_count blocks y.room.first)) (same_Some x a is))
    ∙ told_none (nat_lt 1 (block_count blocks x.room.first)) _ (nil_left (memory_at blocks i x.room.first) _ e))
memory_none blocks i (x ∷ memories) e (suc j) a is =
    memory_none blocks (i + 1) memories (nil_right (memory_at blocks i x.room.first) _ e) j a is

pub all_driven : (nets : List Net) (kinds : List NetKind) (memories : List DesignMemory) (drivers : List Driver) (blocks : List Code)
    → drive_faults nets kinds memories drivers blocks ≡ [] → (m : ℕ) (n : Net) → slice_get nets m ≡ Some n
    → IsDriven (wire_places drivers) (block_names nets_named drivers blocks) m n.width (kind_at kinds m)
all_driven nets kinds memories drivers blocks e m n is =
    let none = nil_left (net_faults nets kinds drivers blocks) (memory_faults memories drivers blocks) e in
    let same : m ≡ 0 + m = omega arith in
    right_of (wire_places drivers) (block_names nets_named drivers blocks) m n.width (kind_at kinds m)
    (ap (λ j. kind_faults (wire_places drivers) (block_names nets_named drivers blocks) j n.width (kind_at kinds j)) same
    ∙ net_none (wire_places drivers) (block_names nets_named drivers blocks) kinds 0 nets none m n is)

pub memories_once : (nets : List Net) (kinds : List NetKind) (memories : List DesignMemory) (drivers : List Driver) (blocks : List Code)
    → drive_faults nets kinds memories drivers blocks ≡ [] → (i : ℕ) (a : DesignMemory) → slice_get memories i ≡ Some a
    → block_count (block_names rooms_named drivers blocks) a.room.first ≤ 1
memories_once nets kinds memories drivers blocks e i a is =
    memory_none (block_names rooms_named drivers blocks) 0 memories
    (nil_right (net_faults nets kinds drivers blocks) (memory_faults memories drivers blocks) e) i a is
