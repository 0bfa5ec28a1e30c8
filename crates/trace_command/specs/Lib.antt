pub mod Commands
pub mod Configs
pub mod PairLists
pub mod Paths
pub mod FileNames
pub mod Refusals
pub mod Requests
