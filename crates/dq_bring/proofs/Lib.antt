pub mod Ends
pub mod Gives
pub mod Leases
pub mod Moves
pub mod Pushed
pub mod Standings
pub mod Trials
