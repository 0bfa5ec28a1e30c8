pub mod AddressedRequests
pub mod EventPlans
pub mod WantedMasks
pub mod States
pub mod LateReads
pub mod PreparedTakes
pub mod ValueEmissions
pub mod private
