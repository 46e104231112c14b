-- The worked cases of Intel HEX hold, computed by the definitions. Assumes nothing.
use mathlib.Core.Path.{◌≡◌, refl}
use Rattle.hex_format.specs.Digits.{capital, is_digit, digit_value}
use Rattle.hex_format.specs.Text.{pairs_of, total, data_lines, hex_of}
use Rattle.hex_format.specs.Lines.{text_lines}
use Rattle.hex_format.specs.Record.{bytes_from, all_digits, well_formed, is_data, is_end}
use Rattle.hex_format.specs.Reading.{malformed, bad_checksum, bad_span, said_by, text_number}
use Rattle.hex_format.specs.Cases.{each_read, each_written, each_span, hex_cases, hex_texts, span_cases}

pub texts-read : each_read hex_cases ≡ hex_cases
unfolding is_digit digit_value total text_lines bytes_from all_digits well_formed is_data is_end malformed bad_checksum bad_span said_by text_number
texts-read = refl

pub bytes-written : each_written hex_texts ≡ hex_texts
unfolding capital pairs_of total data_lines hex_of
bytes-written = refl

pub spans-told : each_span span_cases ≡ span_cases
unfolding is_digit digit_value bytes_from all_digits well_formed is_data is_end bad_span
spans-told = refl
