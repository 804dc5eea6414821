pub mod IorTextFault
pub mod IorText
