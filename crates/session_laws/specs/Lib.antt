pub mod HeardSessions
pub mod WholeSessions
