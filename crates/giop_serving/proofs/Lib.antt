pub mod OnServe
