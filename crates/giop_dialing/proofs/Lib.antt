pub mod CarriedLemmas
