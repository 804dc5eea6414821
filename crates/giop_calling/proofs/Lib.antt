pub mod OnCall
