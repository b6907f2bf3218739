pub mod Instances
pub mod Seats
pub mod Nets
pub mod Drivers
pub mod State
pub mod Marks
pub mod Built
pub mod Meaning
pub mod Laws
pub mod Settled
pub mod Next
pub use Rattle.vlog_driver.specs.net_code as net_code
pub use Rattle.vlog_driver.specs.net_drive as net_drive
pub use Rattle.vlog_elab.specs.vidi_bits as vidi_bits
pub use Rattle.vlog_driver.specs.vlog_block as vlog_block
pub use Rattle.vlog_driver.specs as vlog_driver
pub use Rattle.vlog_elab.specs as vlog_elab
pub use Rattle.vlog_elab.specs.vlog_hierarchy as vlog_hierarchy
pub use Rattle.vlog_elab.specs.vlog_names as vlog_names
pub use Rattle.vlog_elab.specs.vlog_scope as vlog_scope
pub use Rattle.vlog_elab.specs.vlog_size as vlog_size
