-- In reading order: digits and their tables; a text's lines; a line's record; a line at a position; the pass over all lines;
-- bytes stored one after another; the bytes that the records say.
pub mod DigitLaws
pub mod LineLaws
pub mod RecordLaws
pub mod Standing
pub mod Scanning
pub mod Storing
pub mod Said
pub mod TextLaws
pub mod FullLaws
pub mod FullText
pub mod Written
pub mod RoundTrip
pub mod Canonical
pub mod Answered
