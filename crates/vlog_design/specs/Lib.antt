pub mod Design
pub mod Reasons
pub mod Parts
pub mod Laws
pub use Rattle.flat_drive.specs.flat_parts as flat_parts
pub use Rattle.net_order.specs as net_order
pub use Rattle.flat_drive.specs.vlog_driver as vlog_driver
pub use Rattle.flat_drive.specs.vlog_elab as vlog_elab
pub use Rattle.flat_drive.specs.vlog_hierarchy as vlog_hierarchy
pub use Rattle.flat_drive.specs.vlog_names as vlog_names
pub use Rattle.flat_drive.specs.vlog_size as vlog_size
