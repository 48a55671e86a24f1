mod Counted
mod Lookups
mod Resolved
