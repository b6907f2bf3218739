pub mod QuietSamples
pub mod SampleTexts
pub mod Sampled
pub use Rattle.run_commands.proofs.bench_run_lemmas as bench_run_lemmas
pub use Rattle.replay_command.proofs as replay_command_lemmas
pub use Rattle.replay_command.proofs.replay_run_lemmas as replay_run_lemmas
pub use Rattle.sample_gen.proofs.room_ledger_lemmas as room_ledger_lemmas
pub use Rattle.run_commands.proofs as run_commands_lemmas
pub use Rattle.run_commands.proofs.vidi_recorder_lemmas as vidi_recorder_lemmas
