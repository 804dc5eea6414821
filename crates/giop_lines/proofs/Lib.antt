pub mod OctetsLemmas
