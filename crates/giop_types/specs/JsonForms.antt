-- Descriptions and values in JSON, and the text of a reference.
pub mod JsonText
pub mod NumberText
pub mod ToJson
pub mod ValuesText
pub mod FormFault
pub mod FromJson
pub mod Ordinals
pub mod DescFromJson
pub mod DescToJson
pub mod InterfaceFromJson
pub mod InterfaceToJson
pub mod InterfaceForms
pub mod Plain
pub mod Parse
pub mod Reference
