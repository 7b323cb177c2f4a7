mod Pushed
mod Channels
mod Rows
mod Added
mod Crews
