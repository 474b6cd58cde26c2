pub mod Kinds
pub mod Listings
pub mod Openings
pub mod Visits
