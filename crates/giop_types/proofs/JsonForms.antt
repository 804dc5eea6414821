-- What the JSON forms rest on.
pub mod JsonTextLemmas
pub mod OrdinalLemmas
pub mod ToJsonLemmas
pub mod FromJsonLemmas
pub mod NumberTextLemmas
pub mod NumberShownLemmas
pub mod JsonLeavesBack
pub mod JsonObjects
pub mod JsonBack
pub mod DescBack
pub mod ReferenceLemmas
pub mod JsonFloatLemmas
pub mod ValuesTextLemmas
pub mod ViewedPlain
pub mod ReferenceBack
pub mod ParseLemmas
pub mod InterfaceLemmas
