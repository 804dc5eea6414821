pub mod TableLines
pub mod TableJson
pub mod SessionJson
pub mod Direction
