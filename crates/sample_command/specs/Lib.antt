pub mod Said
pub mod Sampled
pub mod Samples
pub use Rattle.run_commands.specs.bench_run as bench_run
pub use Rattle.replay_command.specs as replay_command
pub use Rattle.replay_command.specs.replay_run as replay_run
pub use Rattle.sample_gen.specs.room_ledger as room_ledger
pub use Rattle.run_commands.specs as run_commands
pub use Rattle.sample_gen.specs as sample_gen
pub use Rattle.sample_gen.specs.env_script as env_script
pub use Rattle.replay_command.specs.trace_code as trace_code
pub use Rattle.replay_command.specs.trace_compare as trace_compare
pub use Rattle.run_commands.specs.vidi_recorder as vidi_recorder
