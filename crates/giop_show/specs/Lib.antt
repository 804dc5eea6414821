pub mod Status
pub mod Forms
pub mod FileText
pub mod Refusals
pub mod Rest
pub mod Bodies
