-- The worked cases, computed.
pub mod Cases
