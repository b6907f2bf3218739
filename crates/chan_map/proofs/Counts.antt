-- A port that is found is one of the ports.
use Rattle.std.proofs.Common.{length-append, ◌≡◌, ℕ, ◌+◌, ◌<◌, Bool, true, false, if◌then◌else◌, List, [], ◌∷◌, ◌++◌, Some, None, length}
use Rattle.std.proofs.Common.{ap, arith}
use Rattle.std.specs.Str.{bytes_eq}
use Rattle.net_design.specs.declared.design.Port.{Port}
use Rattle.chan_map.specs.declared.sockets.Socket.{Socket}
use Rattle.chan_map.specs.Ports.{socket, socket_from, socket_named}

found_below : (b : Bool) (before rest : List Port) (p : Port) (q : List ℕ) (s : Socket)
    → (socket_from (before ++ p ∷ []) rest q ≡ Some s → s.port < length (before ++ p ∷ []) + length rest)
    → (if b then Some (socket before p) else socket_from (before ++ p ∷ []) rest q) ≡ Some s → s.port < length before + length (p ∷ rest)
found_below true before rest p q s later e = let is : socket before p ≡ s = cc in omega (arith, ap (λ (x : Socket). x.port) is)
found_below false before rest p q s later e = omega (arith, later e, length-append before (p ∷ []))

pub socket_below : (before ports : List Port) (q : List ℕ) (s : Socket) → socket_from before ports q ≡ Some s
    → s.port < length before + length ports
socket_below before [] q s e = let off : None ≡ Some s = e in absurd (cc)
socket_below before (p ∷ rest) q s e = found_below (bytes_eq q p.name) before rest p q s (socket_below (before ++ p ∷ []) rest q s) e

pub port_below : (ports : List Port) (q : List ℕ) (s : Socket) → socket_named ports q ≡ Some s → s.port < length ports
port_below ports q s e = omega (arith, socket_below [] ports q s e)
