pub mod CorbalocFault
pub mod Corbaloc
pub mod CorbalocReading
pub mod AddressAt
pub mod CorbalocWriting
pub mod Ior
pub mod Iiop
pub mod ToIor
