pub mod Latch
pub mod Masks
pub mod Blocks
pub mod LatchExamples
pub mod Told
pub mod Names
pub mod Placed
pub mod Instances
pub mod Items
pub mod Settled
pub mod Next
pub mod Own
pub mod MeaningExamples
pub mod Sites
pub mod Drivers
pub mod Duties
pub mod Held
pub use Rattle.vlog_block.specs.Faultless
pub use Rattle.vlog_block.specs.Updates
pub use Rattle.net_drive.specs.net_code as net_code
pub use Rattle.net_drive.specs as net_drive
pub use Rattle.vlog_block.specs as vlog_block
