-- Stores one after another, said of the rules. Assumes nothing.
use Rattle.std.proofs.Common.{◌≡◌, ℕ, ◌+◌, ◌%◌, ◌^◌, ◌<◌, true, false, List, [], length, ap, ◌∙◌, mod-eq_of_lt}
use Rattle.stacklets.specs.Tops.{popped_tops}
use Rattle.tables.specs.Change.{Becomes, charges, pops, set_units}
use Rattle.thread.specs.declared.Thread.{Thread}
use Rattle.thread.specs.declared.Status.{Status}
use Rattle.thread.specs.declared.Status.TheVariants.{Running}
use Rattle.thread.specs.Thread.{with_status, disconnected}
use Rattle.rules.specs.State.{State, thread_at}
use Rattle.rules.specs.Update.{set_thread, set_core, set_tops, charge}
use Rattle.rules.specs.Leave.{leaves}
use Rattle.tables.specs.Meaning.{size, meaning}

-- a connected thread leaves, and its parent runs
pub leaves-lent : (c t : ℕ) (status : Status) (s s1 s2 s3 : State) (th q a b : Thread)
    → th ≡ thread_at s t → th.connected ≡ true → a ≡ disconnected status th → s1 ≡ set_thread t a s
    → q ≡ thread_at s1 th.origin.parent → b ≡ with_status Running q → s2 ≡ set_thread th.origin.parent b s1 → s3 ≡ set_core c th.origin.parent s2
    → s3 ≡ leaves c t status s
unfolding leaves
leaves-lent c t status s s1 s2 s3 th q a b ht hc ha g1 hq hb g2 g3 = rw (g3, g2, hb, hq, g1, ha, ← ht, hc)

-- an unconnected one leaves the core idle
pub leaves-idle : (c t : ℕ) (status : Status) (s s1 s2 : State) (th a : Thread)
    → th ≡ thread_at s t → th.connected ≡ false → a ≡ disconnected status th → s1 ≡ set_thread t a s → s2 ≡ set_core c 32 s1
    → s2 ≡ leaves c t status s
unfolding leaves
leaves-idle c t status s s1 s2 th a ht hc ha g1 g2 = rw (g2, g1, ha, ← ht, hc)

-- a weight is charged, with room for it
pub charged : {xs ys : List ℕ} (w : ℕ) → length xs ≡ size → (meaning xs [] []).units + w < 2 ^ 32 → Becomes xs ys (charges w) → (words memory : List ℕ)
    → meaning ys words memory ≡ charge w (meaning xs words memory)
unfolding meaning
charged {xs} w l h b words memory = b.means l words memory ∙ ap (λ (u : ℕ). set_units u (meaning xs words memory)) (mod-eq_of_lt h)

-- the frame at a base goes
pub popped : {xs ys : List ℕ} (base : ℕ) → length xs ≡ size → base < 1024 → Becomes xs ys (pops (base % 1024)) → (words memory : List ℕ)
    → meaning ys words memory ≡ set_tops (popped_tops (meaning xs words memory).store.tops base) (meaning xs words memory)
popped {xs} base l h b words memory = b.means l words memory ∙ ap (λ (k : ℕ). pops k (meaning xs words memory)) (mod-eq_of_lt h)
