pub mod FilesLemmas
pub mod PlacesLemmas
pub mod ReportLemmas
