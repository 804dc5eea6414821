pub mod KeyLemmas
pub mod KeyFaultLemmas
pub mod CutLemmas
pub mod ListLemmas
pub mod NumberLemmas
pub mod StepLemmas
pub mod PartLemmas
pub mod AddressLemmas
pub mod GrammarLemmas
pub mod PieceLemmas
pub mod StopLemmas
pub mod HostFaultLemmas
pub mod VersionFaultLemmas
pub mod AddressFaultLemmas
pub mod KeyFirstLemmas
pub mod FirstFaultLemmas
pub mod RefusedAddressLemmas
pub mod RefusedKeyLemmas
pub mod RefusedLemmas
pub mod WritingLemmas
pub mod WrittenLemmas
pub mod BackLemmas
mod HeldLemmas
mod GrowsLemmas
pub mod IorLemmas
mod OctetLemmas
pub mod IiopLemmas
pub mod ToIorLemmas
pub mod IorTextLemmas
pub mod ServiceContextLemmas
