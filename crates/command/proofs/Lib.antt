pub mod Bools
pub mod Tables
pub mod Numbers
pub mod RoundTrip
pub mod Encoding
