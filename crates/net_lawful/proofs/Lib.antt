pub mod MaskTests
pub mod RoomLaws
pub mod RegisterLaws
pub mod WordRows
pub mod PlaceLaws
pub mod CodeLaws
pub mod DrivenLaws
pub mod LawfulParts
