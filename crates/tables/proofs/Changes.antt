-- Reads and stores of tables of the right size and of another, and one store after another. Assumes nothing.
use Rattle.std.proofs.Common.{◌≡◌, ℕ, ◌%◌, ◌<◌, List, length, refl, ap, ◌∙◌, mod-eq_of_lt}
use Rattle.thread.specs.declared.Thread.{Thread}
use Rattle.thread.specs.Thread.{blank_thread}
use Rattle.rules.specs.State.{State, thread_at, on_core}
use Rattle.rules.specs.Update.{set_thread, set_core}
use Rattle.tables.specs.Meaning.{size, meaning}
use Rattle.tables.specs.Change.{Reads, Becomes}

module _ {A : Type 0} (xs : List ℕ) (part : State → A) (none : A) where
  pub unread : (length xs ≡ size → ⊥) → Reads xs none part none
  unread n = record { means = λ l. absurd (n l); other = λ _. refl }

  pub read : (r : A) → length xs ≡ size → ((words memory : List ℕ) → r ≡ part (meaning xs words memory)) → Reads xs r part none
  read r l f = record { means = λ _. f; other = λ n. absurd (n l) }

pub unchanged : (xs : List ℕ) (change : State → State) → (length xs ≡ size → ⊥) → Becomes xs xs change
unchanged xs change n = record { means = λ l. absurd (n l); sized = refl; other = λ _. refl }

pub changed : (xs ys : List ℕ) (change : State → State) → length xs ≡ size → length ys ≡ length xs
    → ((words memory : List ℕ) → meaning ys words memory ≡ change (meaning xs words memory)) → Becomes xs ys change
changed xs ys change l k f = record { means = λ _. f; sized = k; other = λ n. absurd (n l) }

-- one after another
pub then : {xs ys zs : List ℕ} {f g : State → State} → Becomes xs ys f → Becomes ys zs g → Becomes xs zs (λ s. g (f s))
then {xs} {ys} {zs} {f} {g} p q = record {
  means = λ l words memory. q.means (p.sized ∙ l) words memory ∙ ap g (p.means l words memory);
  sized = q.sized ∙ p.sized;
  other = λ n. q.other (λ l. n (rw p.sized at l)) ∙ p.other n;
}

-- a change that comes to the same here
pub here : {xs ys : List ℕ} {f g : State → State} → (length xs ≡ size → (words memory : List ℕ) → f (meaning xs words memory) ≡ g (meaning xs words memory))
    → Becomes xs ys f → Becomes xs ys g
here e p = record { means = λ l words memory. p.means l words memory ∙ e l words memory; sized = p.sized; other = p.other }

-- and one that is the same everywhere
pub likewise : {xs ys : List ℕ} {f g : State → State} → ((s : State) → f s ≡ g s) → Becomes xs ys f → Becomes xs ys g
likewise e p = record { means = λ l words memory. p.means l words memory ∙ e (meaning _ words memory); sized = p.sized; other = p.other }

-- what a thread's and a core's number give that is small
module _ {xs : List ℕ} (l : length xs ≡ size) (words memory : List ℕ) where
  pub thread-seen : (t : ℕ) (r : Thread) → t < 32 → Reads xs r (λ s. thread_at s (t % 32)) blank_thread → r ≡ thread_at (meaning xs words memory) t
  thread-seen t r h e = e.means l words memory ∙ ap (thread_at (meaning xs words memory)) (mod-eq_of_lt h)

  pub core-seen : (c r : ℕ) → c < 4 → Reads xs r (λ s. on_core s (c % 4)) 0 → r ≡ on_core (meaning xs words memory) c
  core-seen c r h e = e.means l words memory ∙ ap (on_core (meaning xs words memory)) (mod-eq_of_lt h)

  pub thread-stored : {ys : List ℕ} (t : ℕ) (th : Thread) → t < 32 → Becomes xs ys (set_thread (t % 32) th)
      → meaning ys words memory ≡ set_thread t th (meaning xs words memory)
  thread-stored t th h e = e.means l words memory ∙ ap (λ (k : ℕ). set_thread k th (meaning xs words memory)) (mod-eq_of_lt h)

  pub core-stored : {ys : List ℕ} (c t : ℕ) → c < 4 → Becomes xs ys (set_core (c % 4) t) → meaning ys words memory ≡ set_core c t (meaning xs words memory)
  core-stored c t h e = e.means l words memory ∙ ap (λ (k : ℕ). set_core k t (meaning xs words memory)) (mod-eq_of_lt h)
