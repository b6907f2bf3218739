-- What has completed on the channels of a port, as the passes see it.
use Rattle.std.specs.Prelude.{◌≡◌, ℕ, ◌<◌, ◌++◌, true, false, List, [], length, Option, None, Some}
use Rattle.trace_model.specs.declared.channel.Channel.{Channel}
use Rattle.trace_model.specs.declared.trace.Trace.{Trace}
use Rattle.axi_burst.specs.declared.axi.Broken.{Broken}
use Rattle.axi_burst.specs.declared.axi.Burst.{Burst}
use Rattle.axi_burst.specs.declared.axi.Reads.{Reads}
use Rattle.axi_burst.specs.declared.axi.Writes.{Writes}
use Rattle.axi_burst.specs.declared.sides.ReadOut.{ReadOut}
use Rattle.axi_burst.specs.declared.sides.Written.{Written}
use Rattle.axi_burst.specs.Bursts.{address_faults, bursts_of, last_faults, got_on, read_faults, response_faults, responses, sent_on}
use Rattle.axi_burst.specs.Passes.{AreAddressPorts}
use Rattle.axi_burst.specs.Transfers.{addresses}

-- the channels are there, and the words of addresses fit their ports
pub record AreWritePorts (channels : List Channel) (ws : Writes) : Type 0 where
  pub aw : AreAddressPorts channels ws.aw
  pub w : ws.w < length channels
  pub b : ws.b < length channels

pub record AreReadPorts (channels : List Channel) (rs : Reads) : Type 0 where
  pub ar : AreAddressPorts channels rs.ar
  pub r : rs.r < length channels

abbrev pub AreWrites : List Channel → Option Writes → Type 0
AreWrites channels None = Unit {0}
AreWrites channels (Some ws) = AreWritePorts channels ws

abbrev pub AreReads : List Channel → Option Reads → Type 0
AreReads channels None = Unit {0}
AreReads channels (Some rs) = AreReadPorts channels rs

-- ---- what is known of writes and of reads
pub record HasNoWrites (x : Written) : Type 0 where
  pub asks : x.asks.items ≡ []
  pub sent : x.sent.items ≡ []
  pub answers : x.answers.items ≡ []

pub record HasWrites (beat : ℕ) (ws : Writes) (t : Trace) (x : Written) : Type 0 where
  pub aw : x.aw ≡ ws.aw.channel
  pub w : x.w ≡ ws.w
  pub b : x.b ≡ ws.b
  pub asks : x.asks.items ≡ addresses beat ws.aw t
  pub sent : x.sent.items ≡ sent_on ws t
  pub answers : x.answers.items ≡ responses ws t

abbrev pub IsWritten : ℕ → Option Writes → Trace → Written → Type 0
IsWritten beat None t x = HasNoWrites x
IsWritten beat (Some ws) t x = HasWrites beat ws t x

pub record HasNoReads (x : ReadOut) : Type 0 where
  pub asks : x.asks.items ≡ []
  pub got : x.got.items ≡ []

pub record HasReads (beat : ℕ) (rs : Reads) (t : Trace) (x : ReadOut) : Type 0 where
  pub ar : x.ar ≡ rs.ar.channel
  pub r : x.r ≡ rs.r
  pub asks : x.asks.items ≡ addresses beat rs.ar t
  pub got : x.got.items ≡ got_on rs t

abbrev pub IsReadOut : ℕ → Option Reads → Trace → ReadOut → Type 0
IsReadOut beat None t x = HasNoReads x
IsReadOut beat (Some rs) t x = HasReads beat rs t x

-- ---- what they break, and their bursts
abbrev pub faults_in : ℕ → Written → ReadOut → List Broken
faults_in beat w r = address_faults w.aw beat w.asks.items
    ++ (address_faults r.ar beat r.asks.items
    ++ (last_faults w.w w.asks.items w.sent.items
    ++ (response_faults w.b w.asks.items w.sent.items w.answers.items
    ++ read_faults r.r r.asks.items r.got.items)))

abbrev pub bursts_in : Written → ReadOut → List Burst
bursts_in w r = bursts_of true w.asks.items w.answers.items ++ bursts_of false r.asks.items r.got.items
