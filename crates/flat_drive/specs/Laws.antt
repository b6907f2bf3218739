-- What is found in the flat design is what is found in the instances.
use Rattle.std.specs.Prelude.{◌≡◌, List}
use Rattle.std.specs.List.{AllZip}
use Rattle.net_design.specs.declared.act.Code.{Code}
use Rattle.net_design.specs.declared.design.Driver.{Driver}
use Rattle.flat_parts.specs.vlog_driver.Duties.{Does}
use Rattle.flat_parts.specs.vlog_elab.Instances.{ModuleInstance}
use Rattle.flat_parts.specs.Seats.{seats_of}
use Rattle.flat_parts.specs.Drivers.{all_duties, all_blocks, IsBlockOf}
use Rattle.flat_drive.specs.Reasons.{flat_findings}
use Rattle.flat_drive.specs.Findings.{drive_findings}

-- with drivers and clocked blocks that do what the instances' items say
abbrev pub FindingsAreTheFiles : Type 0
FindingsAreTheFiles = (is : List ModuleInstance) (drivers : List Driver) (blocks : List Code)
    → AllZip Does (all_duties (seats_of is)) drivers → AllZip IsBlockOf (all_blocks (seats_of is)) blocks
    → flat_findings is drivers blocks ≡ drive_findings (seats_of is)
