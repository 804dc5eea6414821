pub mod Octets
pub mod Lines
pub mod ConvertLines
pub mod TraceLines
pub mod JsonLines
pub mod DumpJson
pub mod ConvertJson
pub mod BodyLines
