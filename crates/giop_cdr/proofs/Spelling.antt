-- What is spelled is read, and nothing else is; what is spelled by parts.
pub mod FieldSpelling
pub mod CountSpelling
pub mod TextSpelling
pub mod SequenceSpelling
pub mod Composing
pub mod BooleanSpelling
pub mod SpelledLemmas
pub mod PaddingLemmas
