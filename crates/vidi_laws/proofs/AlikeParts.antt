-- The parts of two flat designs of one file: drivers, blocks and registers that stand for the same things.
use Rattle.std.proofs.Common.{◌≡◌, ℕ, ◌==◌, ◌&&◌, not, nat_lt, Bool, if◌then◌else◌, List, [], ◌∷◌, refl, ap, sym, ◌∙◌}
use Rattle.std.specs.Int.{bit_at}
use Rattle.std.specs.List.{AllZip}
use Rattle.std.proofs.lemmas.Nat.Bits.{same_from_bits}
use Rattle.net_design.specs.declared.act.Code.{Code}
use Rattle.net_design.specs.declared.act.Timing.TheVariants.{Nonblocking}
use Rattle.net_design.specs.declared.design.Driver.{Driver}
use Rattle.net_design.specs.declared.design.Register.{Register}
use Rattle.net_design.specs.declared.values.Values.{Values}
use Rattle.net_design.specs.Bits.{named}
use Rattle.net_design.specs.Last.{IsNarrow}
use Rattle.net_design.specs.Settled.{initial_number}
use Rattle.net_design.specs.Updates.{block_updates, run}
use Rattle.vidi_commands.specs.vidi_bits.Number.{has}
use Rattle.vidi_commands.specs.vlog_driver.Duties.{Duty, Assigns, Settles, Does}
use Rattle.vidi_commands.specs.flat_parts.Drivers.{ClockedBlock, IsBlockOf}
use Rattle.vidi_commands.specs.flat_parts.State.{RegPlace, IsRegisterOf, always_writes_bit}
use Rattle.vidi_laws.proofs.AlikeLists.{any-alike}

-- ---- drivers
pub reads-alike : (m k : ℕ) (u : Duty) (x y : Driver) → Does u x → Does u y → named x.code.reads m k ≡ named y.code.reads m k
reads-alike m k (Assigns line to target from e) x y a b = a.reads m k ∙ sym (b.reads m k)
reads-alike m k (Settles p s) x y a b = a.reads m k ∙ sym (b.reads m k)

writes-alike : (m k : ℕ) (u : Duty) (x y : Driver) → Does u x → Does u y
    → (x.always && named x.code.writes m k) ≡ (y.always && named y.code.writes m k)
writes-alike m k (Assigns line to target from e) x y a b =
    let always = a.always ∙ sym b.always in
    let writes = a.writes m k ∙ sym (b.writes m k) in
    λ i. always i && writes i
writes-alike m k (Settles p s) x y a b =
    let always = a.always ∙ sym b.always in
    let writes = a.writes m k ∙ sym (b.writes m k) in
    λ i. always i && writes i

-- one driver changes nothing where another with its duty doesn't
pub holds-alike : (v : Values) → IsNarrow v → (u : Duty) (x y : Driver) → Does u x → Does u y → run x.code.acts v ≡ v
    → run y.code.acts v ≡ v
holds-alike v narrow (Assigns line to target from e) x y a b h = (b.holds v narrow).1 ((a.holds v narrow).0 h)
holds-alike v narrow (Settles p s) x y a b h = (b.holds v narrow).1 ((a.holds v narrow).0 h)

pub always-alike : (m k : ℕ) (us : List Duty) (xs ys : List Driver) → AllZip Does us xs → AllZip Does us ys
    → always_writes_bit xs m k ≡ always_writes_bit ys m k
always-alike m k us xs ys a b = any-alike Does (λ (x : Driver). x.always && named x.code.writes m k) (writes-alike m k) us xs ys a b

-- ---- clocked blocks
pub updates-alike : (v : Values) (b : ClockedBlock) (x y : Code) → IsBlockOf b x → IsBlockOf b y
    → block_updates Nonblocking x.acts v ≡ block_updates Nonblocking y.acts v
updates-alike v b x y p q = p.updates v ∙ sym (q.updates v)

-- ---- registers
pub register-of : (us : List Duty) (xs ys : List Driver) → AllZip Does us xs → AllZip Does us ys → (q : RegPlace) (r : Register)
    → IsRegisterOf xs q r → IsRegisterOf ys q r
register-of us xs ys a b q r is = record {
  net = is.net;
  held = λ k. is.held k ∙ ap (λ (w : Bool). nat_lt k q.width && not w) (always-alike q.net k us xs ys a b);
  initial = is.initial;
}

module _ (drivers : List Driver) where
  held-alike : (q : RegPlace) (r s : Register) → IsRegisterOf drivers q r → IsRegisterOf drivers q s → (k : ℕ)
      → has r.held k ≡ has s.held k
  held-alike q r s a b k = a.held k ∙ sym (b.held k)

  pub holds-bit : (m k : ℕ) (q : RegPlace) (r s : Register) → IsRegisterOf drivers q r → IsRegisterOf drivers q s
      → ((r.net == m) && has r.held k) ≡ ((s.net == m) && has s.held k)
  holds-bit m k q r s a b =
      let net = a.net ∙ sym b.net in
      let held = held-alike q r s a b k in
      λ i. (net i == m) && held i

  begins-alike : (q : RegPlace) (r s : Register) → IsRegisterOf drivers q r → IsRegisterOf drivers q s → r.initial ≡ s.initial
  begins-alike q r s a b = same_from_bits r.initial s.initial (λ k.
      (a.initial k
      ∙ ap (λ (h : Bool). if h then bit_at q.initial k else 0) (held-alike q r s a b k)
      ∙ sym (b.initial k)))

  pub initial-alike : (m : ℕ) (qs : List RegPlace) (rs ss : List Register) → AllZip (IsRegisterOf drivers) qs rs
      → AllZip (IsRegisterOf drivers) qs ss → initial_number rs m ≡ initial_number ss m
  initial-alike m [] [] [] a b = refl
  initial-alike m [] [] (s ∷ ss) a b = absurd b
  initial-alike m [] (r ∷ rs) ss a b = absurd a
  initial-alike m (q ∷ qs) [] ss a b = absurd a
  initial-alike m (q ∷ qs) (r ∷ rs) [] a b = absurd b
  initial-alike m (q ∷ qs) (r ∷ rs) (s ∷ ss) a b =
      let net : r.net ≡ s.net = a.0.net ∙ sym b.0.net in
      let begins = begins-alike q r s a.0 b.0 in
      let rest = initial-alike m qs rs ss a.1 b.1 in
      λ i. if net i == m then begins i else rest i
