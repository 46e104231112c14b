-- What is put of the front of an input is the whole input's text. Assumes nothing.
use Rattle.std.proofs.Common.{◌≡◌, ℕ, ◌≤◌, ◌++◌, List, length, take, drop, None, Some, IfSome, OnOk, Result, Ok, Err, ap, subst, ◌∙◌, arith}
use Rattle.std.proofs.Math.Seq.{take_all, take_at}
use Rattle.std.specs.declared.option.Option.{Option}
use Rattle.std.specs.Io.KnownBytes.{Appends}
use Rattle.transcript.specs.Transcript.{text_of}
use Rattle.transcript.specs.Writing.{Prints}
use Rattle.transcript.proofs.Longer.{rest-ignored}
use Rattle.print.specs.Bytes.{AreBytes}

pub printed : (input output after : List ℕ) (n : ℕ) → length output ≡ 163871 → Prints input output after n → take n after ≡ text_of input
printed input output after n size p =
    let fits : length (text_of input) ≤ length output = omega (arith, p.all, p.most) in
    let front : after ≡ text_of input ++ drop (length (text_of input)) output =
    p.text ∙ ap (λ (l : List ℕ). l ++ drop (length (text_of input)) output) (take_all (length output) (text_of input) fits) in
    ap (take n) front ∙ take_at (text_of input) (drop (length (text_of input)) output) n (omega (arith, p.all))

-- what follows the first 99,332 bytes has no part in the text
pub whole-known : {E : Type 0} (known old new : Option (List ℕ)) (r : Result (Unit {0}) E) → OnOk r (IfSome known (λ xs. Appends old new (text_of (take 99332 xs))))
    → OnOk r (IfSome known (λ xs. AreBytes xs → Appends old new (text_of xs)))
whole-known None old new (Ok x) a = tt
whole-known None old new (Err e) a = tt
whole-known (Some xs) old new (Ok x) a = λ bytes. subst (Appends old new) (rest-ignored xs bytes) a
whole-known (Some xs) old new (Err e) a = tt
