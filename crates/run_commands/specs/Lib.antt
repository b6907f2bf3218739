pub mod Checks
pub mod Recorded
pub mod Records
pub mod Runs
pub mod Said
pub use Rattle.bench_run.specs as bench_run
pub use Rattle.net_sim.specs as net_sim
pub use Rattle.net_sim.specs.net_order as net_order
pub use Rattle.bench_run.specs.env_script as env_script
pub use Rattle.vidi_bench.specs as vidi_bench
pub use Rattle.vidi_recorder.specs as vidi_recorder
