pub mod Causes
pub mod FaultFeeds
pub mod FaultNumbers
pub mod FirstReasons
