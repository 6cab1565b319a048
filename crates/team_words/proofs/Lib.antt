pub mod TeamNodeLemmas
