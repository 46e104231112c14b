-- In reading order: digits, the text that is written, a text's lines, a line's record, what is read; and worked cases.
pub mod Digits
pub mod Text
pub mod Lines
pub mod Record
pub mod Reading
pub mod Cases
