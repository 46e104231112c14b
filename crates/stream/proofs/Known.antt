-- What is written of what was read, where the bytes of the reader and of the writer may be known. Assumes nothing.
use Rattle.std.proofs.Common.{◌≡◌, ℕ, List, take, None, Some, IfSome, OnOk, Result, Ok, Err, subst}
use Rattle.std.specs.declared.option.Option.{Option}
use Rattle.std.specs.Io.KnownBytes.{Appends}

-- bytes that were written are what `f` says of all that was there to read, if they are so for each reader that has what was read at its front
pub appends-known : {E : Type 0} (f : List ℕ → List ℕ) (known old new : Option (List ℕ)) (r : Result (Unit {0}) E) (front bytes : List ℕ) (room : ℕ)
    → IfSome known (λ xs. front ≡ take room xs) → ((xs : List ℕ) → front ≡ take room xs → bytes ≡ f xs)
    → OnOk r (Appends old new bytes) → OnOk r (IfSome known (λ xs. Appends old new (f xs)))
appends-known f None old new (Ok x) front bytes room is says a = tt
appends-known f None old new (Err e) front bytes room is says a = tt
appends-known f (Some xs) old new (Ok x) front bytes room is says a = subst (Appends old new) (says xs is) a
appends-known f (Some xs) old new (Err e) front bytes room is says a = tt
