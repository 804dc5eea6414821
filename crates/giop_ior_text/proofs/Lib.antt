pub mod HexLemmas
pub mod IorTextLemmas
