use Rattle.std.proofs.Common.{rules, ◌≡◌, ◌<◌, ◌≤◌, length, get_or}
use Rattle.flat_clock.proofs.Positions.{port_there, no_port_there}
use Rattle.flat_clock.proofs.place.port_of.Goals as goal

pub returns-in-Some-get : goal.returns-in-Some-get
returns-in-Some-get c =
    let within : c.in-Some.place < length c.args.names.now = search rules in
    let at : c.in-Some-get.name.now ≡ get_or c.args.names.now c.in-Some.place c.in-Some-get.name.now = search rules in
    port_there c.args.ports.now c.args.names.now c.args.place c.in-Some.place c.in-Some-get.name.now c.as_slice.result.now
    c.port_named.result
    c.in-Some.is within at c.as_slice.ensures c.port_named.ensures

pub returns-in-None-get : goal.returns-in-None-get
returns-in-None-get c =
    let past : length c.args.names.now ≤ c.in-Some.place = search rules in
    no_port_there c.args.ports.now c.args.names.now c.args.place c.in-Some.place c.in-Some.is past
