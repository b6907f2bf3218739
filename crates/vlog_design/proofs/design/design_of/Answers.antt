use Rattle.vlog_tree.specs.Plain.{plain}
use Rattle.vlog_design.proofs.Joined.{own-drivers, own-blocks, whole}
use Rattle.vlog_design.proofs.design.design_of.Goals as goal

pub is_lawful-requires-clause-drivers : goal.is_lawful-requires-clause-drivers
is_lawful-requires-clause-drivers c =
    own-drivers (plain c.args.file.now) c.args.top.now c.in_ok-design.design c.in_ok-design.ensures.top c.in_ok-design.ensures.built

pub is_lawful-requires-clause-blocks : goal.is_lawful-requires-clause-blocks
is_lawful-requires-clause-blocks c =
    own-blocks (plain c.args.file.now) c.args.top.now c.in_ok-design.design c.in_ok-design.ensures.top c.in_ok-design.ensures.built

pub is_lawful-requires-clause-names : goal.is_lawful-requires-clause-names
is_lawful-requires-clause-names c =
    c.names_differ.ensures c.instances_are_paths.ensures.differ (plain c.args.file.now) c.args.top.now c.in_ok-design.ensures.top.0
    c.in_ok-design.design c.requires.clear
    (c.in_ok-design.ensures.built c.in_ok-design.ensures.top.0 c.in_ok-design.ensures.top.1)

pub returns : goal.returns
returns c = whole (record {
  all = c.instances_are_paths.ensures.all;
  paths = c.instances_are_paths.ensures.differ;
  first = c.instances_are_paths.ensures.first;
  numbers = c.built_numbers.ensures;
  stand = c.seats_stand.ensures;
  seats = c.nets_have_seats.ensures.seats;
  one = c.nets_have_seats.ensures.one;
  those = c.nets_have_seats.ensures.those;
  names = c.names_differ.ensures;
  held = c.registers_are_state.ensures.held;
  begins = c.registers_are_state.ensures.initial;
  settled = c.settled_alike.ensures.settled;
  next = c.state_alike.ensures.next;
  initial = c.state_alike.ensures.initial;
}) (plain c.args.file.now) c.args.top.now c.in_ok-design.design c.requires.clear c.in_ok-design.ensures.top c.in_ok-design.ensures.built
    (c.in_ok-is_lawful.ensures.0 c.if-not-branch.false)
