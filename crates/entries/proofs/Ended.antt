-- A return, as a chain of stores, is the rule's. Assumes nothing.
use Rattle.std.proofs.Common.{◌≡◌, ℕ, ◌+◌, ◌<◌, Bool, true, false, cond, leb, List, [], length, set, sym, ap, ◌∙◌, length-set, get_or-set_other, leb-false}
use Rattle.image.specs.Layout.{slots_of}
use Rattle.queue.specs.Contents.{appended, capacity}
use Rattle.stacklets.specs.Tops.{popped_tops}
use Rattle.stacklets.specs.Frames.{wiped}
use Rattle.stacklets.proofs.Words.{length-framed}
use Rattle.thread.specs.declared.Thread.{Thread}
use Rattle.thread.specs.declared.Status.{Status}
use Rattle.thread.specs.Thread.{blank_thread, without_child, is_root, none}
use Rattle.rules.specs.State.{Job, State, thread_at, finished}
use Rattle.rules.specs.Update.{set_thread, set_core, set_tops, set_free_threads, set_free_stacklets, set_ready, set_words, set_outcome, charge}
use Rattle.rules.specs.Turn.{Turn}
use Rattle.rules.specs.Return.{stacklets_without, retired, status_after, ready_after, return_to_parent, return_of}

pub retired-by : (o : Turn) (s s1 s2 s3 s4 s5 : State) (b : Thread)
    → s1 ≡ charge o.weight s → s2 ≡ set_tops (popped_tops s1.store.tops o.thread.origin.base) s1
    → s3 ≡ set_free_stacklets (stacklets_without o.thread.origin.base s2.queues.free_stacklets) s2
    → s4 ≡ set_free_threads (appended capacity s3.queues.free_threads o.number) s3
    → b ≡ blank_thread → s5 ≡ set_thread o.number b s4 → s5 ≡ retired o s
retired-by o s s1 s2 s3 s4 s5 b g1 g2 g3 g4 hb g5 = rw (g5, hb, g4, g3, g2, g1)

-- there are as many words once a frame is cleared and a value is written
pub delivered-length : (ws us vs : List ℕ) (base n i v : ℕ) → us ≡ wiped ws base n → vs ≡ set us i v → length vs ≡ length ws
delivered-length ws us vs base n i v e f = ap length f ∙ length-set us i v ∙ ap length e ∙ length-framed ws base n []

-- another thread's record stays
pub left_behind : (o : Turn) (s s1 : State) (p : ℕ) (q : Thread) → s1 ≡ retired o s → ¬ (p ≡ o.number) → q ≡ thread_at s1 p → q ≡ thread_at s p
left_behind o s s1 p q e n f = f ∙ rw e (get_or-set_other s.threads o.number p blank_thread blank_thread n)

pub returned-by : (j : Job) (o : Turn) (p v : ℕ) (s sw s1 s2 s3 s4 : State) (q a : Thread) (st : Status) (words : List ℕ) (k : ℕ) (b : Bool)
    → b ≡ is_root o.thread → b ≡ false → p ≡ o.thread.origin.parent
    → q ≡ thread_at s p → sw ≡ set_words words s → s1 ≡ retired o sw
    → words ≡ set (wiped s.store.words o.thread.origin.base (slots_of j.image o.thread.origin.routine)) (q.origin.base + o.thread.origin.result) v
    → st ≡ status_after o.thread.connected q → a ≡ without_child st q → s2 ≡ set_thread p a s1
    → s3 ≡ set_ready (ready_after o.thread.connected q p s2.queues.ready) s2
    → k ≡ cond o.thread.connected p none → s4 ≡ set_core o.core k s3
    → s4 ≡ return_of j s o v
unfolding return_of return_to_parent
returned-by j o p v s sw s1 s2 s3 s4 q a st words k b e f hp hq gw g1 hw hst ha g2 g3 hk g4 = rw (← e, f, ← hp, ← hq, g4, hk, g3, g2, ha, hst, g1, gw, hw)

pub returned-root : (j : Job) (o : Turn) (v : ℕ) (s sw s1 s2 s3 : State) (words : List ℕ) (b : Bool) → b ≡ is_root o.thread → b ≡ true → sw ≡ set_words words s
    → s1 ≡ retired o sw → words ≡ wiped s.store.words o.thread.origin.base (slots_of j.image o.thread.origin.routine) → s2 ≡ set_core o.core none s1 → s3 ≡ set_outcome (finished v) s2
    → s3 ≡ return_of j s o v
unfolding return_of
returned-root j o v s sw s1 s2 s3 words b e f gw g1 hw g2 g3 = rw (g3, g2, g1, gw, hw, ← e, f)

pub has-parent : (p : ℕ) (b : Bool) → b ≡ leb 32 p → b ≡ false → p < 32
has-parent p b e f = leb-false 32 p (sym e ∙ f)
