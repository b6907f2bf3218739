use Rattle.std.proofs.Common.{◌≡◌, drop}
use Rattle.env_script.specs.Forms.{channel_named}
use Rattle.env_script.proofs.forms.channel_named.Given as goal

abbrev pub invariant-loop-c : goal.invariant-loop-c
invariant-loop-c l = channel_named l.c (drop l.c l.channels) l.name ≡ channel_named 0 l.channels l.name
