pub mod MountEntries
pub mod AskedRequests
pub mod MountHistories
pub mod LiveMountSeen
pub mod LiveMounts
pub mod MountCallers
pub mod ShownMounts
pub mod private
