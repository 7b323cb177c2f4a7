pub mod Heads
pub mod View
pub mod Sends
pub mod Locks
pub mod OneFire
pub mod Plans
