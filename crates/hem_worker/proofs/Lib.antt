pub mod EndsKept
pub mod Named
pub mod Waiting
mod Fired
mod Lengthened
pub mod SoFar
mod RoundsRun
mod Rooms
pub mod Settled
mod ChannelsKept
pub mod Stuck
