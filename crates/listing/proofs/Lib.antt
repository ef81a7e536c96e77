pub mod TextLaws
pub mod OutputLaws
pub mod ReportLaws
pub mod RoomLaws
pub mod Sample
pub mod Listing
