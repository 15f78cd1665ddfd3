pub mod Fitting
pub mod FoursBack
pub mod Lengths
pub mod Places
pub mod Giving
pub mod RoundTrip
