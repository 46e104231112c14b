-- A written command reads back as itself, and an accepted command's bytes are written again unchanged. Assumes nothing.
use borrow.Author.Tests.{le-leb, lt-leb, ne_eqb, le-ltb, leb-false, ltb-false, eqb-false}
use mathlib.Core.Bool.{Bool, true, false, cond}
use mathlib.Core.List.{List, [], ◌∷◌, ◌++◌}
use mathlib.Core.Path.{◌≡◌, refl, sym, ◌∙◌, ap}
use Prim.Native.Nat.{ℕ, zero, suc, ◌+◌, ◌-◌, ◌≤◌, ◌<◌}
use native.Mathlib.Nat.{add-zero}
use native.Mathlib.Omega.{arith}
use lib.Dec.{leb, ltb, eqb}
use lib.ListN.{length, take, drop, get_or}
use lib.Seq.{drop-cons}
use Rattle.command.specs.declared.Command.{Command}
use Rattle.command.specs.declared.Command.TheVariants.{Set, Add, Subtract, Load, Store, JumpIfZero, Jump, Lfork, Fork, Join, Suspend, Yield, Return, Share}
use Rattle.std.specs.Prelude.{Result, Ok, Err}
use Rattle.command.specs.declared.CommandError.{CommandError}
use Rattle.command.specs.declared.CommandError.TheVariants.{Unknown, CutOff}
use Rattle.command.proofs.Tables.{width-most}
use Rattle.command.proofs.Numbers.{Read, read, read-4, read-5, read-0}
use Rattle.command.specs.Command.{command_at, decoded, decoded_at, bytes_of_command, pair, low, high, width_of, OperandsFit, ReadAs}

two_bytes : (v : ℕ) → v < 65536 → pair (low v) (high v) ≡ v
two_bytes v h = omega arith

-- where a whole command stands, it is found
pub accepts : (s : List ℕ) (at n : ℕ) → width_of (get_or s at 0) ≡ suc n → at + suc n ≤ length s → command_at s at ≡ Ok (decoded_at s at, suc n)
unfolding command_at
accepts s at n w h = simp (w, lt-leb (length s) at (omega arith), ne_eqb (suc n) 0 (λ e. omega arith), le-ltb (length s - at) (suc n) (omega arith))

-- "A written command reads back as itself", whatever follows it
pub reads-back : (command : Command) (rest : List ℕ) → OperandsFit command → command_at (bytes_of_command command ++ rest) 0 ≡ Ok (command, length (bytes_of_command command))
unfolding bytes_of_command decoded
reads-back (Set d v) rest h = rw (two_bytes v h) at (accepts (bytes_of_command (Set d v) ++ rest) 0 3 refl (omega arith))
reads-back (Add d a b) rest h = accepts (bytes_of_command (Add d a b) ++ rest) 0 3 refl (omega arith)
reads-back (Subtract d a b) rest h = accepts (bytes_of_command (Subtract d a b) ++ rest) 0 3 refl (omega arith)
reads-back (Load d a) rest h = accepts (bytes_of_command (Load d a) ++ rest) 0 2 refl (omega arith)
reads-back (Store a b) rest h = accepts (bytes_of_command (Store a b) ++ rest) 0 2 refl (omega arith)
reads-back (JumpIfZero a t) rest h = rw (two_bytes t h) at (accepts (bytes_of_command (JumpIfZero a t) ++ rest) 0 3 refl (omega arith))
reads-back (Jump t) rest h = rw (two_bytes t h) at (accepts (bytes_of_command (Jump t) ++ rest) 0 2 refl (omega arith))
reads-back (Lfork r d a w) rest h = accepts (bytes_of_command (Lfork r d a w) ++ rest) 0 4 refl (omega arith)
reads-back (Fork r d a w) rest h = accepts (bytes_of_command (Fork r d a w) ++ rest) 0 4 refl (omega arith)
reads-back Join rest h = accepts (bytes_of_command Join ++ rest) 0 0 refl (omega arith)
reads-back Suspend rest h = accepts (bytes_of_command Suspend ++ rest) 0 0 refl (omega arith)
reads-back Yield rest h = accepts (bytes_of_command Yield ++ rest) 0 0 refl (omega arith)
reads-back (Return a) rest h = accepts (bytes_of_command (Return a) ++ rest) 0 1 refl (omega arith)
reads-back (Share a) rest h = accepts (bytes_of_command (Share a) ++ rest) 0 1 refl (omega arith)

-- what a found command says of the bytes
pub record Stands (s : List ℕ) (at : ℕ) (command : Command) (n : ℕ) : Type 0 where
  pub is : command ≡ decoded_at s at
  pub width : n ≡ width_of (get_or s at 0)
  pub some : 1 ≤ n
  pub whole : at + n ≤ length s

pub stands : (s : List ℕ) (at : ℕ) (command : Command) (n : ℕ) → command_at s at ≡ Ok (command, n) → Stands s at command n
unfolding command_at
stands s at command n found =
    go (leb (length s) at) (eqb (width_of (get_or s at 0)) 0) (ltb (length s - at) (width_of (get_or s at 0))) refl refl refl found
  where
    go : (end none short : Bool) → leb (length s) at ≡ end → eqb (width_of (get_or s at 0)) 0 ≡ none
        → ltb (length s - at) (width_of (get_or s at 0)) ≡ short
        → cond {A = Result (Command × ℕ) CommandError} end (Err CutOff) (cond none (Err Unknown) (cond short (Err CutOff) (Ok (decoded_at s at, width_of (get_or s at 0))))) ≡ Ok (command, n)
        → Stands s at command n
    go true none short e f g h = let z : ◌≡◌ {A = ℕ} 0 1 = cc in absurd (omega arith)
    go false true short e f g h = let z : ◌≡◌ {A = ℕ} 0 1 = cc in absurd (omega arith)
    go false false true e f g h = let z : ◌≡◌ {A = ℕ} 0 1 = cc in absurd (omega arith)
    go false false false e f g h =
        let p : ◌≡◌ {A = Command × ℕ} (decoded_at s at, width_of (get_or s at 0)) (command, n) = cc in
        let w : n ≡ width_of (get_or s at 0) = sym (ap (λ q. q.1) p) in
        let i : command ≡ decoded_at s at = sym (ap (λ q. q.0) p) in
        let a : at < length s = leb-false _ _ e in
        let b : (width_of (get_or s at 0) ≡ 0) → ⊥ = eqb-false _ _ f in
        let d : width_of (get_or s at 0) ≤ length s - at = ltb-false _ _ g in
        let p : 1 ≤ width_of (get_or s at 0) = positive (width_of (get_or s at 0)) b in
        record { is = i; width = w; some = omega arith; whole = omega arith }
      where
        positive : (k : ℕ) → ((k ≡ 0) → ⊥) → 1 ≤ k
        positive zero b = absurd (b refl)
        positive (suc k) b = omega arith

-- the bytes from a position on, one by one
abbrev pub from : List ℕ → ℕ → ℕ → List ℕ
from s at zero = []
from s at (suc n) = get_or s at 0 ∷ from s (suc at) n

pub taken : (s : List ℕ) (at n : ℕ) → at + n ≤ length s → take n (drop at s) ≡ from s at n
taken s at zero h = refl
taken s at (suc n) h = rw (drop-cons s at 0 (omega arith), taken s (suc at) n (omega arith))

fewer : (s : List ℕ) (at n m : ℕ) → n ≤ m → take n (from s at m) ≡ from s at n
fewer s at zero m h = refl
fewer s at (suc n) zero h = absurd (omega arith)
fewer s at (suc n) (suc m) h = ap (λ l. get_or s at 0 ∷ l) (fewer s (suc at) n m (omega arith))

-- the five bytes that a command is decoded from
abbrev five : List ℕ → ℕ → List ℕ
five s at = get_or s at 0 ∷ get_or s (at + 1) 0 ∷ get_or s (at + 2) 0 ∷ get_or s (at + 3) 0 ∷ get_or s (at + 4) 0 ∷ []

from-five : (s : List ℕ) (at : ℕ) → from s at 5 ≡ five s at
from-five s at =
    let a : suc at ≡ at + 1 = omega arith in
    let b : suc (suc at) ≡ at + 2 = omega arith in
    let c : suc (suc (suc at)) ≡ at + 3 = omega arith in
    let d : suc (suc (suc (suc at))) ≡ at + 4 = omega arith in
    rw (d, c, b, a)

low-pair : (x y : ℕ) → x < 256 → y < 256 → low (pair x y) ≡ x
low-pair x y h k = omega arith

high-pair : (x y : ℕ) → x < 256 → y < 256 → high (pair x y) ≡ y
high-pair x y h k = omega arith

-- a decoded command's bytes are those that it was decoded from
module _ (x y z w : ℕ) (hx : x < 256) (hy : y < 256) (hz : z < 256) where
  encoded-again : (byte : ℕ) → 1 ≤ width_of byte → bytes_of_command (decoded byte x y z w) ≡ take (width_of byte) (byte ∷ x ∷ y ∷ z ∷ w ∷ [])
  unfolding bytes_of_command decoded
  encoded-again zero h = absurd (omega arith)
  encoded-again (suc zero) h = rw (low-pair y z hy hz, high-pair y z hy hz)
  encoded-again (suc (suc zero)) h = refl
  encoded-again (suc (suc (suc zero))) h = refl
  encoded-again (suc (suc (suc (suc zero)))) h = refl
  encoded-again (suc (suc (suc (suc (suc zero))))) h = refl
  encoded-again (suc (suc (suc (suc (suc (suc zero)))))) h = rw (low-pair y z hy hz, high-pair y z hy hz)
  encoded-again (suc (suc (suc (suc (suc (suc (suc zero))))))) h = rw (low-pair x y hx hy, high-pair x y hx hy)
  encoded-again (suc (suc (suc (suc (suc (suc (suc (suc zero)))))))) h = refl
  encoded-again (suc (suc (suc (suc (suc (suc (suc (suc (suc zero))))))))) h = refl
  encoded-again (suc (suc (suc (suc (suc (suc (suc (suc (suc (suc zero)))))))))) h = refl
  encoded-again (suc (suc (suc (suc (suc (suc (suc (suc (suc (suc (suc zero))))))))))) h = refl
  encoded-again (suc (suc (suc (suc (suc (suc (suc (suc (suc (suc (suc (suc zero)))))))))))) h = refl
  encoded-again (suc (suc (suc (suc (suc (suc (suc (suc (suc (suc (suc (suc (suc zero))))))))))))) h = refl
  encoded-again (suc (suc (suc (suc (suc (suc (suc (suc (suc (suc (suc (suc (suc (suc zero)))))))))))))) h = refl
  encoded-again (suc (suc (suc (suc (suc (suc (suc (suc (suc (suc (suc (suc (suc (suc (suc k))))))))))))))) h = absurd (omega arith)

-- every byte of a list is below 256
abbrev pub Bytes : List ℕ → Type 0
Bytes s = (i : ℕ) → get_or s i 0 < 256

-- "an accepted command's bytes are written again unchanged"
pub writes_again : (s : List ℕ) → Bytes s → (at : ℕ) (command : Command) (n : ℕ) → command_at s at ≡ Ok (command, n)
    → bytes_of_command command ≡ take n (drop at s)
writes_again s small at command n found =
    let f = stands s at command n found in
    rw (f.is, taken s at n f.whole, ← fewer s at n 5 (rw f.width (width-most (get_or s at 0))), from-five s at, f.width)
    (encoded-again _ _ _ _ (small (at + 1)) (small (at + 2)) (small (at + 3)) (get_or s at 0) (rw f.width at f.some))

pub read_as : (s : List ℕ) → Bytes s → (at : ℕ) (answer : Result (Command × ℕ) CommandError) → answer ≡ command_at s at → ReadAs s at answer
read_as s small at answer is =
    let met : Read s at answer = rw is (read s at) in
    record {
      is = is;
      number4 = read-4 s at met;
      number5 = read-5 s at met;
      number0 = read-0 s at met;
      again = λ command n found. writes_again s small at command n (sym is ∙ found);
    }

-- past the end there is no command
pub at-end : (s : List ℕ) (at : ℕ) → length s ≤ at → command_at s at ≡ Err CutOff
unfolding command_at
at-end s at h = rw (le-leb (length s) at h)

-- a command takes no more than its own bytes
decoded-needs : (x y z w x' y' z' w' byte : ℕ) → 1 ≤ width_of byte → (1 < width_of byte → x ≡ x') → (2 < width_of byte → y ≡ y') → (3 < width_of byte → z ≡ z')
    → (4 < width_of byte → w ≡ w') → decoded byte x y z w ≡ decoded byte x' y' z' w'
unfolding decoded
decoded-needs x y z w x' y' z' w' zero n a b c d = absurd (omega arith)
decoded-needs x y z w x' y' z' w' (suc zero) n a b c d = rw (a (omega arith), b (omega arith), c (omega arith))
decoded-needs x y z w x' y' z' w' (suc (suc zero)) n a b c d = rw (a (omega arith), b (omega arith), c (omega arith))
decoded-needs x y z w x' y' z' w' (suc (suc (suc zero))) n a b c d = rw (a (omega arith), b (omega arith), c (omega arith))
decoded-needs x y z w x' y' z' w' (suc (suc (suc (suc zero)))) n a b c d = rw (a (omega arith), b (omega arith))
decoded-needs x y z w x' y' z' w' (suc (suc (suc (suc (suc zero))))) n a b c d = rw (a (omega arith), b (omega arith))
decoded-needs x y z w x' y' z' w' (suc (suc (suc (suc (suc (suc zero)))))) n a b c d = rw (a (omega arith), b (omega arith), c (omega arith))
decoded-needs x y z w x' y' z' w' (suc (suc (suc (suc (suc (suc (suc zero))))))) n a b c d = rw (a (omega arith), b (omega arith))
decoded-needs x y z w x' y' z' w' (suc (suc (suc (suc (suc (suc (suc (suc zero)))))))) n a b c d = rw (a (omega arith), b (omega arith), c (omega arith), d (omega arith))
decoded-needs x y z w x' y' z' w' (suc (suc (suc (suc (suc (suc (suc (suc (suc zero))))))))) n a b c d = rw (a (omega arith), b (omega arith), c (omega arith), d (omega arith))
decoded-needs x y z w x' y' z' w' (suc (suc (suc (suc (suc (suc (suc (suc (suc (suc zero)))))))))) n a b c d = refl
decoded-needs x y z w x' y' z' w' (suc (suc (suc (suc (suc (suc (suc (suc (suc (suc (suc zero))))))))))) n a b c d = refl
decoded-needs x y z w x' y' z' w' (suc (suc (suc (suc (suc (suc (suc (suc (suc (suc (suc (suc zero)))))))))))) n a b c d = refl
decoded-needs x y z w x' y' z' w' (suc (suc (suc (suc (suc (suc (suc (suc (suc (suc (suc (suc (suc zero))))))))))))) n a b c d = rw (a (omega arith))
decoded-needs x y z w x' y' z' w' (suc (suc (suc (suc (suc (suc (suc (suc (suc (suc (suc (suc (suc (suc zero)))))))))))))) n a b c d = rw (a (omega arith))
decoded-needs x y z w x' y' z' w' (suc (suc (suc (suc (suc (suc (suc (suc (suc (suc (suc (suc (suc (suc (suc k))))))))))))))) n a b c d = absurd (omega arith)

-- the same bytes at another place are the same command
pub found_alike : (s t : List ℕ) (at at' n : ℕ) (command : Command) → command_at s at ≡ Ok (command, n) → at' + n ≤ length t
    → ((i : ℕ) → i < n → get_or t (at' + i) 0 ≡ get_or s (at + i) 0) → command_at t at' ≡ Ok (command, n)
found_alike s t at at' zero command found room same = absurd (let f = stands s at command zero found in omega (arith, f.some))
found_alike s t at at' (suc n) command found room same =
    accepts t at' n (rw first (sym f.width)) room ∙ ap (λ c. Ok (c, suc n)) (alike ∙ sym f.is)
  where
    f : Stands s at command (suc n)
    f = stands s at command (suc n) found

    first : get_or t at' 0 ≡ get_or s at 0
    first = rw (add-zero, add-zero) at (same 0 (omega arith))

    alike : decoded_at t at' ≡ decoded_at s at
    alike =
        let w = f.width in
        rw first
        (decoded-needs _ _ _ _ _ _ _ _ (get_or s at 0) (omega arith) (λ h. same 1 (omega arith)) (λ h. same 2 (omega arith)) (λ h. same 3 (omega arith))
        (λ h. same 4 (omega arith)))
