pub mod Words
pub mod Places
pub mod Laying
pub mod Wiping
