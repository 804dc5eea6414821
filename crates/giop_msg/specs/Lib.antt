pub mod Kind
pub mod Fault
pub mod Header
pub mod Msg
pub mod Stream
pub mod Laws
pub mod RequestHead
