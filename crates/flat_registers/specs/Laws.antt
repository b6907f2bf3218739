-- What the laws of this crate say: with the layout of nets that the crate takes, the design's state is the file's.
use Rattle.flat_parts.specs.Laws.{NetsHaveOneSeat, NetsAreThose, HeldAlike, InitialAlike}

-- where each net of the design is that of one instance, the design holds the bits that the file's state does
abbrev pub HeldWhereOneSeat : Type 0
HeldWhereOneSeat = NetsHaveOneSeat → HeldAlike

-- and begins with the file's initial numbers
abbrev pub InitialWhereOneSeat : Type 0
InitialWhereOneSeat = NetsHaveOneSeat → NetsAreThose → InitialAlike
