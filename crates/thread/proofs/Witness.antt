-- The theorem has something to speak of: a run of the worked case in an order that is not the serial run's. The parent forks twice before
-- either child has run, the children have the numbers 5 and 3, and the younger returns first. From this run `document-agrees` gives the
-- serial run's outcome.
use mathlib.Core.Path.{◌≡◌, refl, ◌∙◌}
use Prim.Native.Nat.{ℕ, zero, suc, ◌≤◌, ◌<◌}
use native.Mathlib.Decide.{ℕ_discrete, dec_lt}
use native.Mathlib.Omega.{arith}
use Rattle.forkjoin.proofs.Update.{update, update_other}
use Rattle.forkjoin.proofs.Language.{Act, halt, advance, load, store, fork, join, ret}
use Rattle.forkjoin.proofs.SerialRun.{done, zeros}
use Rattle.forkjoin.proofs.ThreadPool.{Pool, Cell, free, used, root, child, step-own, step-fork, step-join, step-return}
use Rattle.forkjoin.proofs.PoolRun.{rest, next}
use Rattle.forkjoin.proofs.PoolStart.{start-cells}
use Rattle.forkjoin.proofs.ChildCount.{alone, children}
use Rattle.window.specs.declared.Window.{Window}
use Rattle.window.specs.Rights.{may_load, may_store, cut_at, root_window}
use Rattle.window.proofs.Laws.{root-fits}
use Rattle.window.proofs.Instance.{windows}
use Rattle.thread.specs.Effect.{run, any_pending, unless_pending, provided, forking, effect_of}
use Rattle.thread.proofs.ThreadState.{ThreadState, act_of, deliver}
use Rattle.thread.proofs.LawfulThreads.{threads}
use Rattle.thread.proofs.CarriedThreads.{does, carried-threads}
use Rattle.thread.proofs.DocumentJob.{DocumentRun, document-serial, document-agrees}
use Rattle.thread.proofs.MarkedWindows.{window-tests, root-own, root-job}
use Rattle.thread.proofs.Example.{worked, fetched, weigh}

abbrev Thread : Type 0
Thread = ThreadState Window

abbrev doing : Thread → Act Thread
doing l = does windows window-tests worked 0 l

-- the thread after its act, and a fork's child
abbrev onward : Thread → Act Thread → Thread
onward l (halt n) = l
onward l (advance q) = q
onward l (load a f) = l
onward l (store a v q) = q
onward l (fork d c q) = q
onward l (join f) = f zeros
onward l (ret v) = l

abbrev new-child : Thread → Act Thread → Thread
new-child l (halt n) = l
new-child l (advance q) = l
new-child l (load a f) = l
new-child l (store a v q) = l
new-child l (fork d c q) = c
new-child l (join f) = l
new-child l (ret v) = l

abbrev after : Thread → Thread
after l = onward l (doing l)

-- the root up to its join, its children, and the root with their values
abbrev p0 : Thread
p0 = (root-job worked zeros).root-thread

abbrev p1 : Thread
p1 = after p0

abbrev p2 : Thread
p2 = after p1

abbrev p3 : Thread
p3 = after p2

abbrev a0 : Thread
a0 = new-child p1 (doing p1)

abbrev b0 : Thread
b0 = new-child p2 (doing p2)

abbrev a1 : Thread
a1 = after a0

abbrev b1 : Thread
b1 = after b0

abbrev p4 : Thread
p4 = deliver p3 1 5

abbrev p5 : Thread
p5 = deliver p4 0 5

abbrev p6 : Thread
p6 = after p5

abbrev p7 : Thread
p7 = after p6

sets : doing p0 ≡ advance p1
unfolding act_of effect_of forking unless_pending provided any_pending run fetched weigh may_load may_store cut_at ℕ_discrete
sets = refl

forks-a : doing p1 ≡ fork 0 a0 p2
unfolding act_of effect_of forking unless_pending provided any_pending run fetched weigh may_load may_store cut_at ℕ_discrete
forks-a = refl

forks-b : doing p2 ≡ fork 1 b0 p3
unfolding act_of effect_of forking unless_pending provided any_pending run fetched weigh may_load may_store cut_at ℕ_discrete
forks-b = refl

sets-a : doing a0 ≡ advance a1
unfolding act_of effect_of forking unless_pending provided any_pending run fetched weigh may_load may_store cut_at ℕ_discrete
sets-a = refl

sets-b : doing b0 ≡ advance b1
unfolding act_of effect_of forking unless_pending provided any_pending run fetched weigh may_load may_store cut_at ℕ_discrete
sets-b = refl

returns-a : doing a1 ≡ ret 5
unfolding act_of effect_of forking unless_pending provided any_pending run fetched weigh may_load may_store cut_at ℕ_discrete
returns-a = refl

returns-b : doing b1 ≡ ret 5
unfolding act_of effect_of forking unless_pending provided any_pending run fetched weigh may_load may_store cut_at ℕ_discrete
returns-b = refl

joins : doing p5 ≡ join (λ _. p6)
unfolding act_of effect_of forking unless_pending provided any_pending run fetched weigh may_load may_store cut_at ℕ_discrete
joins = refl

adds : doing p6 ≡ advance p7
unfolding act_of effect_of forking unless_pending provided any_pending run fetched weigh may_load may_store cut_at ℕ_discrete
adds = refl

returns : doing p7 ≡ ret 10
unfolding act_of effect_of forking unless_pending provided any_pending run fetched weigh may_load may_store cut_at ℕ_discrete
returns = refl

-- the thread tables, step by step
abbrev f0 : ℕ → Cell Thread
f0 = start-cells (threads windows window-tests worked) (carried-threads windows window-tests worked) p0 zeros

abbrev f1 : ℕ → Cell Thread
f1 = update f0 0 (used p1 root)

abbrev f2 : ℕ → Cell Thread
f2 = update (update f1 0 (used p2 root)) 5 (used a0 (child 0 0))

abbrev f3 : ℕ → Cell Thread
f3 = update (update f2 0 (used p3 root)) 3 (used b0 (child 0 1))

abbrev f4 : ℕ → Cell Thread
f4 = update f3 3 (used b1 (child 0 1))

abbrev f5 : ℕ → Cell Thread
f5 = update f4 5 (used a1 (child 0 0))

abbrev f6 : ℕ → Cell Thread
f6 = update (update f5 3 free) 0 (used p4 root)

abbrev f7 : ℕ → Cell Thread
f7 = update (update f6 5 free) 0 (used p5 root)

abbrev f8 : ℕ → Cell Thread
f8 = update f7 0 (used p6 root)

abbrev f9 : ℕ → Cell Thread
f9 = update f8 0 (used p7 root)

-- no number above 31 is used
limited : (f : ℕ → Cell Thread) (k : ℕ) (c : Cell Thread) → k ≤ 31 → ((t : ℕ) → 31 < t → f t ≡ free) → (t : ℕ) → 31 < t → update f k c t ≡ free
limited f k c h l t x = update_other f k c t (λ e. omega arith) ∙ l t x

limited-0 : (t : ℕ) → 31 < t → f0 t ≡ free
limited-0 zero h = absurd (omega arith)
limited-0 (suc _) h = refl

limited-1 : (t : ℕ) → 31 < t → f1 t ≡ free
limited-1 = limited (f0) 0 (used p1 root) (omega arith) (limited-0)

limited-2 : (t : ℕ) → 31 < t → f2 t ≡ free
limited-2 = limited (update (f1) 0 (used p2 root)) 5 (used a0 (child 0 0)) (omega arith) (limited (f1) 0 (used p2 root) (omega arith) (limited-1))

limited-3 : (t : ℕ) → 31 < t → f3 t ≡ free
limited-3 = limited (update (f2) 0 (used p3 root)) 3 (used b0 (child 0 1)) (omega arith) (limited (f2) 0 (used p3 root) (omega arith) (limited-2))

limited-4 : (t : ℕ) → 31 < t → f4 t ≡ free
limited-4 = limited (f3) 3 (used b1 (child 0 1)) (omega arith) (limited-3)

limited-5 : (t : ℕ) → 31 < t → f5 t ≡ free
limited-5 = limited (f4) 5 (used a1 (child 0 0)) (omega arith) (limited-4)

limited-6 : (t : ℕ) → 31 < t → f6 t ≡ free
limited-6 = limited (update (f5) 3 (free)) 0 (used p4 root) (omega arith) (limited (f5) 3 (free) (omega arith) (limited-5))

limited-7 : (t : ℕ) → 31 < t → f7 t ≡ free
limited-7 = limited (update (f6) 5 (free)) 0 (used p5 root) (omega arith) (limited (f6) 5 (free) (omega arith) (limited-6))

limited-8 : (t : ℕ) → 31 < t → f8 t ≡ free
limited-8 = limited (f7) 0 (used p6 root) (omega arith) (limited-7)

limited-9 : (t : ℕ) → 31 < t → f9 t ≡ free
limited-9 = limited (f8) 0 (used p7 root) (omega arith) (limited-8)

-- at the join both children have ended
childless : (b : ℕ) (r : Thread) (d : ℕ) → f7 b ≡ used r (child 0 d) → ⊥
unfolding ℕ_discrete
childless b r d h = go (dec_lt b 32)
  where
    none_left : children f7 0 32 ≡ 0
    none_left = refl

    go : Dec (b < 32) → ⊥
    go (yes x) = alone f7 0 32 none_left b x r d h
    go (no x) = let e = limited-7 b (omega arith) in let z : ◌≡◌ {A = ℕ} 0 1 = cc in omega arith

abbrev last : Pool Thread
last = record { cell = f9; words = zeros; units = 19 }

-- fork, fork, the younger child, the elder child, their returns in that order, the join and the sum
ran : DocumentRun windows window-tests worked root_window root-fits root-own zeros 100 zeros last
unfolding act_of effect_of forking unless_pending provided any_pending run fetched weigh may_load may_store cut_at ℕ_discrete
ran = next 0 (step-own p0 p1 root refl refl) limited-1
    (next 0 (step-fork p1 a0 p2 root 0 5 refl forks-a refl) limited-2
    (next 0 (step-fork p2 b0 p3 root 1 3 refl forks-b refl) limited-3
    (next 3 (step-own b0 b1 (child 0 1) refl refl) limited-4
    (next 5 (step-own a0 a1 (child 0 0) refl refl) limited-5
    (next 3 (step-return b1 p3 root 0 1 5 refl returns-b refl) limited-6
    (next 5 (step-return a1 p4 root 0 0 5 refl returns-a refl) limited-7
    (next 0 (step-join p5 p6 root refl joins childless) limited-8
    (next 0 (step-own p6 p7 root refl refl) limited-9 rest))))))))

-- so the serial run gives 10, by 20 units
serial-is : document-serial windows window-tests worked root_window root-fits root-own zeros 100 zeros ≡ done 10 zeros 20
unfolding act_of effect_of forking unless_pending provided any_pending run fetched weigh may_load may_store cut_at ℕ_discrete
serial-is = document-agrees windows window-tests worked root_window root-fits root-own zeros 100 zeros last ran 0 10 p7 refl returns (omega arith)
