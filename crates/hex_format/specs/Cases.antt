-- Worked cases of Intel HEX: texts and how each is read, and bytes with the text that is written of them. A second witness of the definitions:
-- all checksums and answers were worked out by hand, from document 02's sentences and the public specification (proofs/Cases.antt computes them).
use Rattle.std.specs.Prelude.{Bool, true, false, cond, List, [], ◌∷◌, ◌++◌, ℕ, zero, suc, eqb, drop, replicate}
use Prim.Native.Char.{code}
use Prim.Native.String.{String, [] as none, ◌∷◌ as first}
use Rattle.image.specs.Cases.{whole}
use Rattle.hex_format.specs.Text.{hex_of}
use Rattle.hex_format.specs.Lines.{text_lines}
use Rattle.hex_format.specs.Reading.{bad_span, said_by, text_number}

abbrev pub characters : String → List ℕ
characters none = []
characters (first c s) = code c ∷ characters s

-- a text, the number that it is refused by, 0 where it is read, and the bytes that are read
pub record HexCase : Type 0 where
  pub text : List ℕ
  pub number : ℕ
  pub bytes : List ℕ

abbrev pub gives : String → List ℕ → HexCase
gives text bytes = record { text = characters text; number = 0; bytes = bytes }

abbrev pub refused_text : ℕ → String → HexCase
refused_text number text = record { text = characters text; number = number; bytes = [] }

-- so many bytes that go up by one, from n on
abbrev pub up_from : ℕ → ℕ → List ℕ
up_from n zero = []
up_from n (suc count) = n ∷ up_from (suc n) count

abbrev pub read_texts : List HexCase
read_texts =
    -- the end record alone says no bytes
    gives ":00000001FF\n" []
    -- one byte, which is no image: 01 + AB = AC, and AC + 54 = 100
    ∷ gives ":01000000AB54\n:00000001FF\n" (0xAB ∷ [])
    -- a checksum of 00: 01 + FF = 100
    ∷ gives ":01000000FF00\n:00000001FF\n" (0xFF ∷ [])
    -- a record of 16 bytes, the most: 10 + 78 = 88
    ∷ gives ":10000000000102030405060708090A0B0C0D0E0F78\n:00000001FF\n" (up_from 0 16)
    -- 17 bytes in two records; the address counts: 01 + 10 + 10 = 21
    ∷ gives ":10000000000102030405060708090A0B0C0D0E0F78\n:0100100010DF\n:00000001FF\n" (up_from 0 17)
    -- a short record before a longer one: 03 + 06 = 09; 05 + 03 + 1E = 26
    ∷ gives ":03000000010203F7\n:050003000405060708DA\n:00000001FF\n" (up_from 1 8)
    -- capitals: 03 + AB + CD + EF = 26A
    ∷ gives ":03000000ABCDEF96\n:00000001FF\n" (0xAB ∷ 0xCD ∷ 0xEF ∷ [])
    -- small letters
    ∷ gives ":03000000abcdef96\n:00000001ff\n" (0xAB ∷ 0xCD ∷ 0xEF ∷ [])
    -- both in one record
    ∷ gives ":03000000aBcDeF96\n:00000001fF\n" (0xAB ∷ 0xCD ∷ 0xEF ∷ [])
    -- CR LF
    ∷ gives ":01000000AB54\r\n:00000001FF\r\n" (0xAB ∷ [])
    -- each line has its own end
    ∷ gives ":01000000AB54\r\n:00000001FF\n" (0xAB ∷ [])
    ∷ gives ":01000000AB54\n:00000001FF\r\n" (0xAB ∷ [])
    -- the last line end is missing
    ∷ gives ":01000000AB54\n:00000001FF" (0xAB ∷ [])
    ∷ gives ":01000000AB54\r\n:00000001FF" (0xAB ∷ [])
    -- the image of document 01's case "Whole": 10 + 4D = 5D; 10 + 10 + 2A = 4A; 04 + 20 + 12 = 36
    ∷ gives
    ":1000000002030015000100060001022000080100A3\n:10001000000208010101020A020000010D000100B6\n:0400200005000D00CA\n:00000001FF\n"
    whole
    ∷ []

-- 27: a line that is no record. Where a character is no digit, the checksum is right for what a careless reader takes it for
abbrev pub malformed_lines : List HexCase
malformed_lines =
    -- an empty line
    refused_text 27 "\n"
    ∷ refused_text 27 "\r\n"
    ∷ refused_text 27 "\n:00000001FF\n"
    ∷ refused_text 27 ":01000000AB54\n\n:00000001FF\n"
    -- no colon in the first place
    ∷ refused_text 27 "00000001FF\n"
    ∷ refused_text 27 ";00000001FF\n"
    ∷ refused_text 27 " :00000001FF\n"
    ∷ refused_text 27 "::00000001FF\n"
    -- G as 16: 01 + B0 = B1; and as 0: 01 + A0 = A1
    ∷ refused_text 27 ":01000000AG4F\n:00000001FF\n"
    ∷ refused_text 27 ":01000000AG5F\n:00000001FF\n"
    -- g as 16
    ∷ refused_text 27 ":01000000Ag4F\n:00000001FF\n"
    -- `@` stands before A, and "`" before a: as 9, 01 + A9 = AA
    ∷ refused_text 27 ":01000000A@56\n:00000001FF\n"
    ∷ refused_text 27 ":01000000A`56\n:00000001FF\n"
    -- `/` stands before 0: as 0; and `:` after 9: as 10, 01 + AA = AB, and as 3, 01 + A3 = A4
    ∷ refused_text 27 ":01000000A/5F\n:00000001FF\n"
    ∷ refused_text 27 ":01000000A:55\n:00000001FF\n"
    ∷ refused_text 27 ":01000000A:5C\n:00000001FF\n"
    -- a space: as 0, 01 + 00 = 01; and at the end of a line
    ∷ refused_text 27 ":010000000 FF\n:00000001FF\n"
    ∷ refused_text 27 ":01000000 0FF\n:00000001FF\n"
    ∷ refused_text 27 ":00000001FF \n"
    -- F with the eighth bit set, C6
    ∷ refused_text 27 ":00000001FÆ\n"
    -- an odd count of digits
    ∷ refused_text 27 ":00000001F\n"
    ∷ refused_text 27 ":00000001FF0\n"
    ∷ refused_text 27 ":01000000AB5\n:00000001FF\n"
    -- fewer than 10 digits
    ∷ refused_text 27 ":\n"
    ∷ refused_text 27 ":00\n"
    ∷ refused_text 27 ":00000001\n"
    -- a length that is not the count of data bytes, one more and one fewer: 02 + AB = AD; 01 + AB + CD = 179
    ∷ refused_text 27 ":02000000AB53\n:00000001FF\n"
    ∷ refused_text 27 ":01000000ABCD87\n:00000001FF\n"
    -- a CR that no LF follows is a character of its line
    ∷ refused_text 27 ":00000001FF\r"
    ∷ refused_text 27 ":01000000AB54\r:00000001FF\r"
    ∷ refused_text 27 ":01000000AB54\r:00000001FF\n"
    -- CR CR LF
    ∷ refused_text 27 ":01000000AB54\r\r\n:00000001FF\n"
    ∷ refused_text 27 ":00000001FF\r\r\n"
    -- LF CR
    ∷ refused_text 27 ":01000000AB54\n\r:00000001FF\n"
    ∷ refused_text 27 ":00000001FF\n\r"
    -- another control character is no line end, alone or before an LF
    ∷ refused_text 27 ":00000001FF\t"
    ∷ refused_text 27 ":00000001FF\t\n"
    -- the characters before `0` and before the colon, in the first places
    ∷ refused_text 27 ":/0000001FF\n"
    ∷ refused_text 27 "900000001FF\n"
    ∷ []

-- 27: a record that is not allowed, each with a right checksum
abbrev pub malformed_records : List HexCase
malformed_records =
    -- no data, also in the last line, and 17 bytes of it
    refused_text 27 ":0000000000\n:00000001FF\n"
    ∷ refused_text 27 ":0000000000\n"
    ∷ refused_text 27 ":110000000000000000000000000000000000000000EF\n:00000001FF\n"
    -- types 02 to 05: 02 + 02 + 10 = 14; 04 + 03 + 38 = 3F; 02 + 04 + 08 = 0E; 04 + 05 + CD = D6
    ∷ refused_text 27 ":020000021000EC\n:00000001FF\n"
    ∷ refused_text 27 ":0400000300003800C1\n:00000001FF\n"
    ∷ refused_text 27 ":020000040800F2\n:00000001FF\n"
    ∷ refused_text 27 ":04000005000000CD2A\n:00000001FF\n"
    -- types FF and 80: 01 + FF + AB = 1AB; 01 + 80 + AB = 12C
    ∷ refused_text 27 ":010000FFAB55\n:00000001FF\n"
    ∷ refused_text 27 ":01000080ABD4\n:00000001FF\n"
    -- type 02 in place of the end record
    ∷ refused_text 27 ":00000002FE\n"
    -- an end record whose address is not 0, in its low and its high byte, and where the data end: 01 + 01 = 02
    ∷ refused_text 27 ":00000101FE\n"
    ∷ refused_text 27 ":00010001FE\n"
    ∷ refused_text 27 ":01000000AB54\n:00000101FE\n"
    -- an end record with data: 01 + 01 + AA = AC
    ∷ refused_text 27 ":01000001AA54\n"
    -- text after the end record: an empty line, a character, a second end record, a data record
    ∷ refused_text 27 ":00000001FF\n\n"
    ∷ refused_text 27 ":00000001FF\r\n\r\n"
    ∷ refused_text 27 ":00000001FF\n "
    ∷ refused_text 27 ":00000001FF\n\0"
    ∷ refused_text 27 ":00000001FF\n\u{1a}"
    ∷ refused_text 27 ":00000001FF\n:00000001FF\n"
    ∷ refused_text 27 ":00000001FF\n:01000000AB54\n"
    ∷ refused_text 27 ":01000000AB54\n:00000001FF\n:01000100CD31\n:00000001FF\n"
    ∷ []

-- 28
abbrev pub wrong_checksums : List HexCase
wrong_checksums =
    -- one too many, one too few
    refused_text 28 ":01000000AB55\n:00000001FF\n"
    ∷ refused_text 28 ":01000000AB53\n:00000001FF\n"
    -- in the end record; there without the type
    ∷ refused_text 28 ":00000001FE\n"
    ∷ refused_text 28 ":0000000100\n"
    ∷ refused_text 28 ":01000000AB54\n:00000001FE"
    -- without the data: 01 + FF = 100; the sum itself; and without the count it is the first of these rows
    ∷ refused_text 28 ":01000000ABFF\n:00000001FF\n"
    ∷ refused_text 28 ":01000000ABAC\n:00000001FF\n"
    -- without the address: 01 + 10 = 11
    ∷ refused_text 28 ":10000000000102030405060708090A0B0C0D0E0F78\n:0100100010EF\n:00000001FF\n"
    ∷ []

-- 29
abbrev pub wrong_spans : List HexCase
wrong_spans =
    -- no line, so none is malformed; the end is missing
    refused_text 29 ""
    -- missing end
    ∷ refused_text 29 ":01000000AB54\n"
    ∷ refused_text 29 ":01000000AB54"
    -- a gap: 01 + 02 + CD = D0
    ∷ refused_text 29 ":01000000AB54\n:01000200CD30\n:00000001FF\n"
    -- the same record twice
    ∷ refused_text 29 ":01000000AB54\n:01000000AB54\n:00000001FF\n"
    -- an overlap of one byte: 02 + AB + CD = 17A; 01 + 01 + EF = F1
    ∷ refused_text 29 ":02000000ABCD86\n:01000100EF0F\n:00000001FF\n"
    -- the first address is not 0; nor is it where the records descend: 01 + 01 + CD = CF
    ∷ refused_text 29 ":01000100CD31\n:00000001FF\n"
    ∷ refused_text 29 ":01000100CD31\n:01000000AB54\n:00000001FF\n"
    -- the high byte of the address comes first: this one is 1000
    ∷ refused_text 29 ":10000000000102030405060708090A0B0C0D0E0F78\n:0110000010DF\n:00000001FF\n"
    -- FFF0 after one byte: 10 + FF + F0 = 1FF
    ∷ refused_text 29 ":01000000AB54\n:10FFF0000000000000000000000000000000000001\n:00000001FF\n"
    ∷ []

-- "each over the whole text before the next"
abbrev pub in_order : List HexCase
in_order =
    -- a malformed last line after a wrong checksum, and after a gap
    refused_text 27 ":01000000AB55\n:00000001G\n"
    ∷ refused_text 27 ":01000100CD31\n:00000001FF\n\n"
    -- a second end record, both checksums wrong
    ∷ refused_text 27 ":00000001FE\n:00000001FE\n"
    -- a type and an end record's address, with wrong checksums
    ∷ refused_text 27 ":020000040800F3\n:00000001FF\n"
    ∷ refused_text 27 ":00000101FF\n"
    -- a wrong checksum in the end record, though the first address is not 0
    ∷ refused_text 28 ":01000100CD31\n:00000001FE\n"
    -- a wrong checksum, though the end is missing
    ∷ refused_text 28 ":01000000AB55\n"
    ∷ []

abbrev pub hex_cases : List HexCase
hex_cases = read_texts ++ malformed_lines ++ malformed_records ++ wrong_checksums ++ wrong_spans ++ in_order

-- what the definitions make of a row's text
abbrev pub as_read : HexCase → HexCase
as_read c =
    let lines : List (List ℕ) = text_lines c.text in
    let number : ℕ = text_number lines in
    record { text = c.text; number = number; bytes = cond (eqb number 0) (said_by lines) [] }

abbrev pub each_read : List HexCase → List HexCase
each_read [] = []
each_read (c ∷ cs) = as_read c ∷ each_read cs

-- bytes, and their text from a character on
pub record HexText : Type 0 where
  pub bytes : List ℕ
  pub from : ℕ
  pub text : List ℕ

abbrev pub hex_text : List ℕ → ℕ → String → HexText
hex_text bytes from text = record { bytes = bytes; from = from; text = characters text }

abbrev pub hex_texts : List HexText
hex_texts =
    -- no bytes, which are no image
    hex_text [] 0 ":00000001FF\n"
    -- the smallest good image: 07 + 11 = 18
    ∷ hex_text (0x01 ∷ 0x01 ∷ 0x00 ∷ 0x02 ∷ 0x00 ∷ 0x0D ∷ 0x00 ∷ []) 0 ":0700000001010002000D00E8\n:00000001FF\n"
    -- capitals: 04 + DE + AD + BE + EF = 33C
    ∷ hex_text (0xDE ∷ 0xAD ∷ 0xBE ∷ 0xEF ∷ []) 0 ":04000000DEADBEEFC4\n:00000001FF\n"
    -- a checksum of 00
    ∷ hex_text (0xFF ∷ []) 0 ":01000000FF00\n:00000001FF\n"
    -- 15, 16 and 17 bytes: 0F + 69 = 78; 10 + 78 = 88; 01 + 10 + 10 = 21
    ∷ hex_text (up_from 0 15) 0 ":0F000000000102030405060708090A0B0C0D0E88\n:00000001FF\n"
    ∷ hex_text (up_from 0 16) 0 ":10000000000102030405060708090A0B0C0D0E0F78\n:00000001FF\n"
    ∷ hex_text (up_from 0 17) 0 ":10000000000102030405060708090A0B0C0D0E0F78\n:0100100010DF\n:00000001FF\n"
    -- two full records, and none of 0 bytes after them
    ∷ hex_text
    (replicate 32 0)
    0
    ":1000000000000000000000000000000000000000F0\n:1000100000000000000000000000000000000000E0\n:00000001FF\n"
    -- the image of document 01's case "Whole"
    ∷ hex_text
    whole
    0
    ":1000000002030015000100060001022000080100A3\n:10001000000208010101020A020000010D000100B6\n:0400200005000D00CA\n:00000001FF\n"
    -- an address past 00FF, after 16 records of 44 characters: 10 + 01 = 11
    ∷ hex_text (replicate 272 0) 704 ":1001000000000000000000000000000000000000EF\n:00000001FF\n"
    ∷ []

-- what the definitions make of a row's bytes
abbrev pub as_written : HexText → HexText
as_written c = record { bytes = c.bytes; from = c.from; text = drop c.from (hex_of c.bytes) }

abbrev pub each_written : List HexText → List HexText
each_written [] = []
each_written (c ∷ cs) = as_written c ∷ each_written cs

-- lines after so many bytes, and whether they are refused by 29: a text that reaches the last address is too long to stand here
pub record SpanCase : Type 0 where
  pub count : ℕ
  pub lines : List (List ℕ)
  pub bad : Bool

-- a data record's line, and the end record's
abbrev pub then_end : ℕ → String → Bool → SpanCase
then_end count line bad = record { count = count; lines = characters line ∷ characters ":00000001FF" ∷ []; bad = bad }

abbrev pub span_cases : List SpanCase
span_cases =
    -- 16 bytes up to FFFF, and one past it: 10 + FF + F1 = 200
    then_end 65520 ":10FFF0000000000000000000000000000000000001" false
    ∷ then_end 65521 ":10FFF1000000000000000000000000000000000000" true
    -- 15 bytes up to FFFF: 0F + FF + F1 = 1FF
    ∷ then_end 65521 ":0FFFF10000000000000000000000000000000001" false
    -- the last byte alone, and one past it: 01 + FF + FF = 1FF; 02 + FF + FF = 200
    ∷ then_end 65535 ":01FFFF000001" false
    ∷ then_end 65535 ":02FFFF00000000" true
    -- address 0 again after 65,536 bytes: 01
    ∷ then_end 65536 ":0100000000FF" true
    -- the end record after 65,536 bytes, and no end record
    ∷ record { count = 65536; lines = characters ":00000001FF" ∷ []; bad = false }
    ∷ record { count = 65536; lines = []; bad = true }
    ∷ []

-- what the definition makes of a row's lines
abbrev pub as_span : SpanCase → SpanCase
as_span c = record { count = c.count; lines = c.lines; bad = bad_span c.count c.lines }

abbrev pub each_span : List SpanCase → List SpanCase
each_span [] = []
each_span (c ∷ cs) = as_span c ∷ each_span cs
