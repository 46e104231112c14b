-- Inputs of the print program, and all that it prints of them, worked out by hand: document 01's starred case "Whole", how an input can end, the
-- numbers in it, and each kind of last line. A second witness of what is read and of the text (proofs/Cases.antt computes them).
use Rattle.std.specs.Prelude.{List, [], ◌∷◌, ◌++◌, ℕ, replicate}
use Rattle.image.specs.Cases.{one_routine, whole}
use Rattle.demands.specs.Cases.{whole_schedule}
use Rattle.text.specs.Text.{ascii}
use Rattle.transcript.specs.Transcript.{text_of}

-- a row of the table
pub record PrintedCase : Type 0 where
  pub input : List ℕ
  pub text : List ℕ

-- 1 core, no arguments, allowance 100, and the image `01 01 00 02 00 0D 00` of 7 bytes
abbrev pub returning : List ℕ
returning = (0x01 ∷ 0x00 ∷ 0x64 ∷ 0x00 ∷ 0x00 ∷ 0x00 ∷ 0x07 ∷ 0x00 ∷ []) ++ one_routine (0x0D ∷ 0x00 ∷ [])

-- 1 core, two arguments and the allowance, of four bytes each, the image 03 0 0 1; 0D 0 of 11 bytes, and two steps
abbrev pub subtracting : List ℕ → List ℕ
subtracting words =
    (0x01 ∷ 0x02 ∷ []) ++ words
    ++ (0x0B ∷ 0x00 ∷ 0x01 ∷ 0x02 ∷ 0x02 ∷ 0x06 ∷ 0x00 ∷ 0x03 ∷ 0x00 ∷ 0x00 ∷ 0x01 ∷ 0x0D ∷ 0x00 ∷ 0x01 ∷ 0x00 ∷ 0x01 ∷ 0x00 ∷ [])

abbrev pub printed : List PrintedCase
printed =
    -- "Whole": "2 cores, no arguments, allowance 100", an image of 36 bytes
    record {
      input = (0x02 ∷ 0x00 ∷ 0x64 ∷ 0x00 ∷ 0x00 ∷ 0x00 ∷ 0x24 ∷ 0x00 ∷ []) ++ whole ++ whole_schedule;
      text = ascii "0 0\n1 0\n2 0\n3 15\n4 0\n5 0\n6 0\n7 0\n8 0\n9 0\n10 0\n11 19\nfinished 10 20\n";
    }
    -- nothing, and a core count of 0 alone: "Input that ends before the schedule gives `refused 25`"
    ∷ record { input = []; text = ascii "refused 25\n" }
    ∷ record { input = 0x00 ∷ []; text = ascii "refused 25\n" }
    -- an image cut short by one byte, also where the core count is 0
    ∷ record { input = 0x00 ∷ 0x00 ∷ 0x64 ∷ 0x00 ∷ 0x00 ∷ 0x00 ∷ 0x02 ∷ 0x00 ∷ 0x01 ∷ []; text = ascii "refused 25\n" }
    -- the same image whole: 23
    ∷ record { input = 0x00 ∷ 0x00 ∷ 0x64 ∷ 0x00 ∷ 0x00 ∷ 0x00 ∷ 0x02 ∷ 0x00 ∷ 0x01 ∷ 0x01 ∷ []; text = ascii "refused 23\n" }
    -- "empty schedule: open"
    ∷ record { input = returning; text = ascii "open 0\n" }
    -- "one step: result 0, 1 unit"
    ∷ record { input = returning ++ (0x01 ∷ 0x00 ∷ []); text = ascii "0 0\nfinished 0 1\n" }
    -- "Schedule byte 05: 13"
    ∷ record { input = returning ++ (0x01 ∷ 0x00 ∷ 0x05 ∷ 0x00 ∷ []); text = ascii "refused 13\n" }
    -- an argument that routine 0 does not have: "24: argument count differs from routine 0's"
    ∷ record {
      input =
          (0x01 ∷ 0x01 ∷ 0x05 ∷ 0x00 ∷ 0x00 ∷ 0x00 ∷ 0x64 ∷ 0x00 ∷ 0x00 ∷ 0x00 ∷ 0x07 ∷ 0x00 ∷ []) ++ one_routine (0x0D ∷ 0x00 ∷ [])
          ++ (0x01 ∷ 0x00 ∷ []);
      text = ascii "refused 24\n";
    }
    -- "image length (two bytes)": 07 01 is 263, and 7 bytes follow
    ∷ record {
      input = (0x01 ∷ 0x00 ∷ 0x64 ∷ 0x00 ∷ 0x00 ∷ 0x00 ∷ 0x07 ∷ 0x01 ∷ []) ++ one_routine (0x0D ∷ 0x00 ∷ []) ++ (0x01 ∷ 0x00 ∷ []);
      text = ascii "refused 25\n";
    }
    -- 02 01 is 258: an image whose code is 251 joins and a return, and a step
    ∷ record {
      input =
          (0x01 ∷ 0x00 ∷ 0x64 ∷ 0x00 ∷ 0x00 ∷ 0x00 ∷ 0x02 ∷ 0x01 ∷ []) ++ one_routine (replicate 251 0x0A ++ (0x0D ∷ 0x00 ∷ [])) ++ (0x01 ∷ 0x00 ∷ []);
      text = ascii "0 0\nopen 1\n";
    }
    -- "arguments, allowance (four bytes each)", "little-endian": 01 02 03 04 is 67,305,985, less 1 it is 67,305,984, and 00 01 00 00 is 256
    ∷ record {
      input = subtracting (0x01 ∷ 0x02 ∷ 0x03 ∷ 0x04 ∷ 0x01 ∷ 0x00 ∷ 0x00 ∷ 0x00 ∷ 0x00 ∷ 0x01 ∷ 0x00 ∷ 0x00 ∷ []);
      text = ascii "0 0\n1 0\nfinished 67305984 2\n";
    }
    -- 0 − 1 is 2^32 − 1; the allowance of 1 is too small for the return
    ∷ record {
      input = subtracting (0x00 ∷ 0x00 ∷ 0x00 ∷ 0x00 ∷ 0x01 ∷ 0x00 ∷ 0x00 ∷ 0x00 ∷ 0x02 ∷ 0x00 ∷ 0x00 ∷ 0x00 ∷ []);
      text = ascii "0 0\n1 0\nfinished 4294967295 2\n";
    }
    ∷ record {
      input = subtracting (0x00 ∷ 0x00 ∷ 0x00 ∷ 0x00 ∷ 0x01 ∷ 0x00 ∷ 0x00 ∷ 0x00 ∷ 0x01 ∷ 0x00 ∷ 0x00 ∷ 0x00 ∷ []);
      text = ascii "0 0\n1 22\nopen 1\n";
    }
    -- "`faulted` number thread offset (the command's thread, and its first byte in the image)": 01 1 32; 08 1 0 0 1; 0D 0, and 01 0 31; 05 0 0;
    -- 0D 0: thread 1 stores at 31, at byte 9 + 11 + 4
    ∷ record {
      input =
          (0x01 ∷ 0x00 ∷ 0x64 ∷ 0x00 ∷ 0x00 ∷ 0x00 ∷ 0x1D ∷ 0x00 ∷ 0x02 ∷ 0x02 ∷ 0x00 ∷ 0x0B ∷ 0x00 ∷ 0x01 ∷ 0x00 ∷ 0x09 ∷ 0x00 ∷ [])
          ++ (0x01 ∷ 0x01 ∷ 0x20 ∷ 0x00 ∷ 0x08 ∷ 0x01 ∷ 0x00 ∷ 0x00 ∷ 0x01 ∷ 0x0D ∷ 0x00 ∷ [])
          ++ (0x01 ∷ 0x00 ∷ 0x1F ∷ 0x00 ∷ 0x05 ∷ 0x00 ∷ 0x00 ∷ 0x0D ∷ 0x00 ∷ [])
          ++ (0x01 ∷ 0x00 ∷ 0x01 ∷ 0x00 ∷ 0x01 ∷ 0x00 ∷ 0x01 ∷ 0x00 ∷ []);
      text = ascii "0 0\n1 0\n2 0\n3 10\nfaulted 10 1 24\n";
    }
    -- "words start zero": 01 0 31; 04 0 0; 01 1 32; 04 1 1; 02 0 0 1; 0D 0 adds the last parameter word and the first memory word
    ∷ record {
      input =
          (0x01 ∷ 0x00 ∷ 0x64 ∷ 0x00 ∷ 0x00 ∷ 0x00 ∷ 0x19 ∷ 0x00 ∷ 0x01 ∷ 0x02 ∷ 0x00 ∷ 0x14 ∷ 0x00 ∷ [])
          ++ (0x01 ∷ 0x00 ∷ 0x1F ∷ 0x00 ∷ 0x04 ∷ 0x00 ∷ 0x00 ∷ 0x01 ∷ 0x01 ∷ 0x20 ∷ 0x00 ∷ 0x04 ∷ 0x01 ∷ 0x01 ∷ [])
          ++ (0x02 ∷ 0x00 ∷ 0x00 ∷ 0x01 ∷ 0x0D ∷ 0x00 ∷ []) ++ (0x01 ∷ 0x00 ∷ 0x01 ∷ 0x00 ∷ 0x01 ∷ 0x00 ∷ 0x01 ∷ 0x00 ∷ 0x01 ∷ 0x00 ∷ 0x01 ∷ 0x00 ∷ []);
      text = ascii "0 0\n1 0\n2 0\n3 0\n4 0\n5 0\nfinished 0 8\n";
    }
    ∷ []

-- what is printed of each row's input, by the definition and by hand
abbrev pub printed_text : List PrintedCase → List (List ℕ)
printed_text [] = []
printed_text (c ∷ cs) = text_of c.input ∷ printed_text cs

abbrev pub text_by_hand : List PrintedCase → List (List ℕ)
text_by_hand [] = []
text_by_hand (c ∷ cs) = c.text ∷ text_by_hand cs
