-- From the laws of the parts to the design of a file.
use Rattle.std.proofs.Common.{◌≢◌, ℕ, List, [], ◌∷◌}
use Rattle.std.specs.Prelude.{All, AllPairs}
use Rattle.std.specs.List.{AllZip, AllByRecursion}
use Rattle.vlog_tree.specs.Tree.{ModuleOf, FileOf}
use Rattle.flat_drive.specs.vlog_elab.Instances.{instances}
use Rattle.flat_drive.specs.vlog_elab.Reasons as elab
use Rattle.net_design.specs.declared.act.Code.{Code}
use Rattle.net_design.specs.declared.act.Timing.TheVariants.{Blocking, Nonblocking}
use Rattle.net_design.specs.declared.design.Driver.{Driver}
use Rattle.net_design.specs.declared.design.Design.{Design}
use Rattle.net_design.specs.Bits.{HasBits}
use Rattle.net_design.specs.Names.{net_names}
use Rattle.net_design.specs.Lawful.{IsLawful}
use Rattle.flat_drivers.specs.Duties.{Duty, Assigns, Settles, Does}
use Rattle.flat_drive.specs.flat_parts.Seats.{seats_of}
use Rattle.flat_drive.specs.flat_parts.Drivers.{ClockedBlock, IsBlockOf, all_duties, all_blocks}
use Rattle.flat_drive.specs.flat_parts.Built.{IsBuilt}
use Rattle.flat_drive.specs.flat_parts.Laws.{IsTop, InstancesAreAll, PathsDiffer, FirstIsTop, BuiltNumbers, SeatsStand, NetsHaveSeats}
use Rattle.flat_drive.specs.flat_parts.Laws.{NetsHaveOneSeat, NetsAreThose, NamesDiffer, HeldAlike, InitialAlike}
use Rattle.flat_clock.specs.flat_parts.Settled.{SettledByLaws}
use Rattle.flat_clock.proofs.flat_parts_lemmas.SettledLists.{all_each}
use Rattle.flat_clock.specs.flat_parts.Next.{NextAlike, InitialStateAlike}
use Rattle.vlog_design.specs.Design.{IsDesignOf}
use Rattle.vlog_design.specs.Parts.{HasTop}

-- ---- masks

driver-bits : (u : Duty) (x : Driver) → Does u x → HasBits Blocking x.code
driver-bits (Assigns line to target from e) x does = does.bits
driver-bits (Settles p a) x does = does.bits

each-driver : (us : List Duty) (xs : List Driver) → AllZip Does us xs → AllByRecursion (λ (x : Driver). HasBits Blocking x.code) xs
each-driver [] [] zip = tt
each-driver (u ∷ us) (x ∷ xs) (does, rest) = (driver-bits u x does, each-driver us xs rest)
each-driver [] (x ∷ xs) zip = absurd zip
each-driver (u ∷ us) [] zip = absurd zip

pub drivers-bits : (us : List Duty) (xs : List Driver) → AllZip Does us xs → All (λ (x : Driver). HasBits Blocking x.code) xs
drivers-bits us xs zip = (all_each (λ (x : Driver). HasBits Blocking x.code) xs).1 (each-driver us xs zip)

each-block : (bs : List ClockedBlock) (cs : List Code) → AllZip IsBlockOf bs cs → AllByRecursion (λ (c : Code). HasBits Nonblocking c) cs
each-block [] [] zip = tt
each-block (b ∷ bs) (c ∷ cs) (is, rest) = (is.bits, each-block bs cs rest)
each-block [] (c ∷ cs) zip = absurd zip
each-block (b ∷ bs) [] zip = absurd zip

pub blocks-bits : (bs : List ClockedBlock) (cs : List Code) → AllZip IsBlockOf bs cs → All (λ (c : Code). HasBits Nonblocking c) cs
blocks-bits bs cs zip = (all_each (λ (c : Code). HasBits Nonblocking c) cs).1 (each-block bs cs zip)

-- ---- the design of a file

-- the laws of the parts
pub record Laws : Type 0 where
  pub all : InstancesAreAll
  pub paths : PathsDiffer
  pub first : FirstIsTop
  pub numbers : BuiltNumbers
  pub stand : SeatsStand
  pub seats : NetsHaveSeats
  pub one : NetsHaveOneSeat
  pub those : NetsAreThose
  pub names : PathsDiffer → NamesDiffer
  pub held : NetsHaveOneSeat → HeldAlike
  pub begins : NetsHaveOneSeat → NetsAreThose → InitialAlike
  pub settled : SettledByLaws
  pub next : InstancesAreAll → BuiltNumbers → SeatsStand → NextAlike
  pub initial : InstancesAreAll → BuiltNumbers → SeatsStand → NetsHaveSeats → InitialAlike → InitialStateAlike

-- what is known of the built design of a file
abbrev pub BuiltAs : FileOf ℕ → List ℕ → Design → Type 0
BuiltAs file name d = (m : ModuleOf ℕ) → IsTop file name m → IsBuilt file.modules m (instances file name) d

pub other-names : Laws → (file : FileOf ℕ) (name : List ℕ) (d : Design) → elab.Clear file name → HasTop file name
    → BuiltAs file name d → AllPairs (λ (a b : List (List ℕ)). a ≢ b) (net_names d)
other-names laws file name d clear (m, top) built = laws.names laws.paths file name m d clear (built m top)

pub whole : Laws → (file : FileOf ℕ) (name : List ℕ) (d : Design) → elab.Clear file name → HasTop file name → BuiltAs file name d
    → IsLawful d → IsDesignOf file name d
whole laws file name d clear (m, top) built lawful = record {
  top = m;
  named = top;
  built = built m top;
  means = record {
    settled = laws.settled laws.all laws.paths laws.first laws.numbers laws.stand laws.seats (laws.held laws.one)
        file name m d clear top (built m top);
    next = laws.next laws.all laws.numbers laws.stand file name m d clear top (built m top);
    initial = laws.initial laws.all laws.numbers laws.stand laws.seats (laws.begins laws.one laws.those)
        file name m d clear top (built m top);
  };
  lawful = lawful;
}

pub own-drivers : (file : FileOf ℕ) (name : List ℕ) (d : Design) → HasTop file name → BuiltAs file name d
    → All (λ (x : Driver). HasBits Blocking x.code) d.drivers
own-drivers file name d (m, top) built = drivers-bits (all_duties (seats_of (instances file name))) d.drivers (built m top).drivers

pub own-blocks : (file : FileOf ℕ) (name : List ℕ) (d : Design) → HasTop file name → BuiltAs file name d
    → All (λ (c : Code). HasBits Nonblocking c) d.blocks
own-blocks file name d (m, top) built = blocks-bits (all_blocks (seats_of (instances file name))) d.blocks (built m top).blocks
