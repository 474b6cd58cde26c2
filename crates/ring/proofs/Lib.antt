pub mod Closing
pub mod Missing
pub mod Queues
pub mod Rounds
pub mod Turning
pub mod Writing
