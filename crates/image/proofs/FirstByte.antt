-- What a first byte says of its command: that there is none, that it has no target, and whether it may stand last. Assumes nothing.
use mathlib.Core.Bool.{Bool, true}
use mathlib.Core.Path.{◌≡◌, refl}
use Prim.Native.Nat.{ℕ, zero, suc, ◌≤◌, ◌<◌}
use native.Mathlib.Omega.{arith}
use lib.ListN.{length, get_or-eq_default}
use Rattle.command.specs.Command.{decoded, widths, width_of}
use Rattle.image.specs.Code.{ends, target_good}
use Rattle.image.specs.Marks.{may_end}

-- a byte is none of the first n numbers from 1 on
abbrev pub NoneOf : ℕ → ℕ → Type 0
NoneOf byte zero = Unit {0}
NoneOf byte (suc n) = NoneOf byte n × (byte ≡ suc n → ⊥)

beyond : (byte n : ℕ) → NoneOf byte n → 1 ≤ byte → n < byte
beyond byte zero none h = h
beyond byte (suc n) none h = let d = none.1 in let l : n < byte = beyond byte n none.0 h in omega arith

-- a byte that is no command has no width
pub no-width : (byte : ℕ) → NoneOf byte 14 → width_of byte ≡ 0
no-width zero none = refl
no-width (suc k) none = let past : length widths ≤ suc k = beyond (suc k) 14 none (omega arith) in get_or-eq_default widths 0 past

module _ (x y z w : ℕ) where
  -- only 06 and 07 have a target
  pub no_target : (start : ℕ → Bool) (byte : ℕ) → 1 ≤ width_of byte → (byte ≡ 6 → ⊥) → (byte ≡ 7 → ⊥) → target_good start (decoded byte x y z w) ≡ true
  unfolding decoded
  no_target start zero h n m = absurd (omega arith)
  no_target start (suc zero) h n m = refl
  no_target start (suc (suc zero)) h n m = refl
  no_target start (suc (suc (suc zero))) h n m = refl
  no_target start (suc (suc (suc (suc zero)))) h n m = refl
  no_target start (suc (suc (suc (suc (suc zero))))) h n m = refl
  no_target start (suc (suc (suc (suc (suc (suc zero)))))) h n m = absurd (n refl)
  no_target start (suc (suc (suc (suc (suc (suc (suc zero))))))) h n m = absurd (m refl)
  no_target start (suc (suc (suc (suc (suc (suc (suc (suc zero)))))))) h n m = refl
  no_target start (suc (suc (suc (suc (suc (suc (suc (suc (suc zero))))))))) h n m = refl
  no_target start (suc (suc (suc (suc (suc (suc (suc (suc (suc (suc zero)))))))))) h n m = refl
  no_target start (suc (suc (suc (suc (suc (suc (suc (suc (suc (suc (suc zero))))))))))) h n m = refl
  no_target start (suc (suc (suc (suc (suc (suc (suc (suc (suc (suc (suc (suc zero)))))))))))) h n m = refl
  no_target start (suc (suc (suc (suc (suc (suc (suc (suc (suc (suc (suc (suc (suc zero))))))))))))) h n m = refl
  no_target start (suc (suc (suc (suc (suc (suc (suc (suc (suc (suc (suc (suc (suc (suc zero)))))))))))))) h n m = refl
  no_target start (suc (suc (suc (suc (suc (suc (suc (suc (suc (suc (suc (suc (suc (suc (suc k))))))))))))))) h n m = absurd (omega arith)

  -- 07 and 0D may stand last
  pub end-byte : (byte : ℕ) → 1 ≤ width_of byte → may_end byte ≡ ends (decoded byte x y z w)
  unfolding decoded
  end-byte zero h = absurd (omega arith)
  end-byte (suc zero) h = refl
  end-byte (suc (suc zero)) h = refl
  end-byte (suc (suc (suc zero))) h = refl
  end-byte (suc (suc (suc (suc zero)))) h = refl
  end-byte (suc (suc (suc (suc (suc zero))))) h = refl
  end-byte (suc (suc (suc (suc (suc (suc zero)))))) h = refl
  end-byte (suc (suc (suc (suc (suc (suc (suc zero))))))) h = refl
  end-byte (suc (suc (suc (suc (suc (suc (suc (suc zero)))))))) h = refl
  end-byte (suc (suc (suc (suc (suc (suc (suc (suc (suc zero))))))))) h = refl
  end-byte (suc (suc (suc (suc (suc (suc (suc (suc (suc (suc zero)))))))))) h = refl
  end-byte (suc (suc (suc (suc (suc (suc (suc (suc (suc (suc (suc zero))))))))))) h = refl
  end-byte (suc (suc (suc (suc (suc (suc (suc (suc (suc (suc (suc (suc zero)))))))))))) h = refl
  end-byte (suc (suc (suc (suc (suc (suc (suc (suc (suc (suc (suc (suc (suc zero))))))))))))) h = refl
  end-byte (suc (suc (suc (suc (suc (suc (suc (suc (suc (suc (suc (suc (suc (suc zero)))))))))))))) h = refl
  end-byte (suc (suc (suc (suc (suc (suc (suc (suc (suc (suc (suc (suc (suc (suc (suc k))))))))))))))) h = absurd (omega arith)
