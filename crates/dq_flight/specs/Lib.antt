pub mod Flights
pub mod Looks
pub mod States
