pub mod Lists
pub mod Named
pub mod Kids
pub mod Within
pub mod Differing
pub mod Found
pub mod Listed
pub mod SettledLists
pub mod SettledPaths
pub mod Unfound
pub mod Fits
pub mod Ports
pub mod Items
pub mod Held
pub mod Settled
pub mod Joined
pub mod Applied
pub mod Clocked
pub mod Instances
pub mod Next
pub mod Initial
pub use Rattle.vlog_driver.proofs.net_code_lemmas as net_code_lemmas
pub use Rattle.vlog_elab.proofs.vidi_bits_lemmas as vidi_bits_lemmas
pub use Rattle.vlog_driver.proofs as vlog_driver_lemmas
pub use Rattle.vlog_elab.proofs as vlog_elab_lemmas
pub use Rattle.vlog_elab.proofs.vlog_hierarchy_lemmas as vlog_hierarchy_lemmas
pub use Rattle.vlog_elab.proofs.vlog_names_lemmas as vlog_names_lemmas
pub use Rattle.vlog_elab.proofs.vlog_scope_lemmas as vlog_scope_lemmas
pub use Rattle.vlog_elab.proofs.vlog_size_lemmas as vlog_size_lemmas
