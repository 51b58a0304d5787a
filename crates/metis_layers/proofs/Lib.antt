pub mod ByLayer
pub mod Copies
pub mod CountedTable
pub mod CounterFacts
pub mod Counts
mod DemandSums
pub mod Deploying
pub mod Examples
pub mod Going
pub mod Hops
pub mod LayerFacts
pub mod Layered
pub mod Numbers
pub mod Order
pub mod Repeated
pub mod RoundFacts
pub mod Sets
pub mod Short
mod SlotExamples
pub mod SlotLines
pub mod SlotLists
pub mod Slots
pub mod Standing
pub mod Tables
pub mod TypeWeights
pub mod Ways
pub mod WorkFacts
