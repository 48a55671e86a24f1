pub mod Dials
pub mod Flights
pub mod Phases
pub mod Told
pub mod Tried
pub mod Turned
pub mod Views
