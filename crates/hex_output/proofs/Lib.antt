-- In reading order: what is put at an output's front, what `write_output` puts, what `read_output` puts, and inputs longer than a program's buffer.
pub mod Fronts
pub mod WritingLaws
pub mod ReadingLaws
pub mod Longer
