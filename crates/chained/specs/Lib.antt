pub mod Chains
pub mod Changes
pub mod Making
pub mod Nodes
pub mod Reading
pub mod Walks
pub mod NodesLemmas
