-- In reading order: text, and how it is put into a buffer.
pub mod Text
pub mod Buffer
