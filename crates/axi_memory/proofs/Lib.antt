mod Bytes
pub mod Bound
pub mod Growing
pub mod Kept
pub mod Going
pub mod Lasting
pub mod Numbers
pub mod Steps
pub use Rattle.axi_burst.proofs as axi_burst_lemmas
pub use Rattle.env_script.proofs as env_script_lemmas
