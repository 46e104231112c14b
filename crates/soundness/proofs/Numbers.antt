-- In a sound state each number is met exactly under its condition. Assumes nothing but that the state is sound.
use Rattle.rules.specs.State.{Job, State}
use Rattle.rules.specs.Sound.{Sound}
use Rattle.soundness.specs.Numbers.{Numbers}
use Rattle.soundness.proofs.Refusals.{step-19, step-14, step-15, step-22, step-12, step-9, step-10, step-11, step-31, step-20, step-21, step-numbers}
use Rattle.soundness.proofs.QueueRefusals.{take-19, take-14, take-15, take-16, take-numbers, enable-19, enable-17, enable-numbers}
use Rattle.soundness.proofs.StealRefusals.{steal-19, steal-14, steal-15, steal-18, steal-22, steal-12, steal-9, steal-10, steal-11, steal-31, steal-20, steal-21, steal-numbers}

pub numbers : (j : Job) (s : State) → Sound j s → Numbers j s
numbers j s sound = record {
  steps = λ c. record {
    number19 = step-19 j s sound c;
    number14 = step-14 j s sound c;
    number15 = step-15 j s sound c;
    number22 = step-22 j s sound c;
    number12 = step-12 j s sound c;
    number9 = step-9 j s sound c;
    number10 = step-10 j s sound c;
    number11 = step-11 j s sound c;
    number31 = step-31 j s sound c;
    number20 = step-20 j s sound c;
    number21 = step-21 j s sound c;
    others = step-numbers j s sound c;
  };
  takes = λ c. record {
    number19 = take-19 s c;
    number14 = take-14 s c;
    number15 = take-15 s c;
    number16 = take-16 s c;
    others = take-numbers s c;
  };
  steals = λ c t. record {
    number19 = steal-19 j s sound c t;
    number14 = steal-14 j s sound c t;
    number15 = steal-15 j s sound c t;
    number18 = steal-18 j s sound c t;
    number22 = steal-22 j s sound c t;
    number12 = steal-12 j s sound c t;
    number9 = steal-9 j s sound c t;
    number10 = steal-10 j s sound c t;
    number11 = steal-11 j s sound c t;
    number31 = steal-31 j s sound c t;
    number20 = steal-20 j s sound c t;
    number21 = steal-21 j s sound c t;
    others = steal-numbers j s sound c t;
  };
  enables = λ t. record { number19 = enable-19 s t; number17 = enable-17 s t; others = enable-numbers s t };
}
