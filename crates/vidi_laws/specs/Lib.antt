pub mod Alike
pub mod Headline
pub mod Migrated
pub mod OneAnswer
pub mod OneRun
