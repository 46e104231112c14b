-- A fork that is carried out, as a chain of stores, is the rule's. Assumes nothing.
use Rattle.std.proofs.Common.{◌≡◌, ℕ, ◌+◌, ◌/◌, ◌%◌, ◌<◌, ◌≤◌, Bool, true, false, cond, ◌&&◌, List, [], ◌∷◌, length, sym, refl, ap, ◌∙◌, mod-eq_of_lt, arith, None, Some}
use Rattle.image.specs.Layout.{slots_of, arguments_of}
use Rattle.std.specs.declared.option.Option.{Option}
use Rattle.queue.specs.Contents.{front_of, tail_of}
use Rattle.queue.proofs.Laws.{nothing-empty, number-first}
use Rattle.stacklets.specs.Tops.{is_topmost, fits_on, base_on, pushed_tops}
use Rattle.stacklets.specs.Frames.{pushed_words, arguments_at}
use Rattle.window.specs.Rights.{child_of, rest_of, cut_at}
use Rattle.thread.specs.declared.Status.{Status}
use Rattle.thread.specs.declared.Thread.{Thread}
use Rattle.thread.specs.Thread.{origin_of, new_thread, behind_fork}
use Rattle.rules.specs.declared.ForkKind.{ForkKind}
use Rattle.rules.specs.State.{Job, State}
use Rattle.rules.specs.Update.{accepted, refused, set_thread, set_tops, set_free_stacklets, set_words, charge}
use Rattle.rules.specs.Turn.{Turn}
use Rattle.rules.specs.Fork.{place_of, goes_above, Asked, born, fork_on, fork_with, fork_of, child_goes, is_connected, handed}
use Rattle.entries.specs.Given.{place_by, both_records, left_by, hands_out_number}
use Rattle.dispatch.specs.Orderly.{HeadBelow}
use Rattle.window.specs.declared.Window.{Window}
use Rattle.window.specs.declared.Cut.{Cut}
use Rattle.std.specs.Prelude.{Option, Some, None}
use Rattle.window.proofs.Laws.{cut-means, cut-made}
use Rattle.tables.specs.Change.{Reads, Becomes, Pushes, pushes}
use Rattle.dispatch.proofs.Queues.{head-below}
use Rattle.tables.specs.Meaning.{size, meaning}

-- other words
pub with-words : (xs ws ws' ms : List ℕ) → meaning xs ws' ms ≡ set_words ws' (meaning xs ws ms)
unfolding meaning
with-words xs ws ws' ms = refl

-- the place by the stacklet that is found, with the free stacklets that are left
place-go : (above : Bool) (p : ℕ) (free : List ℕ) → place_by (cond above (Some p) (front_of free)) (cond above free (tail_of free)) ≡ place_of above p free
unfolding place_of
place-go true p free = refl
place-go false p [] = refl
place-go false p (y ∷ ys) = refl

place-by : (above : Bool) (p : ℕ) (free : List ℕ) (spot : Option ℕ) → spot ≡ cond above (Some p) (front_of free)
    → place_by spot (cond above free (tail_of free)) ≡ place_of above p free
place-by above p free spot e = rw e (place-go above p free)

-- where no stacklet is free, handing one out changes nothing
rest-none : (free : List ℕ) → front_of free ≡ None → tail_of free ≡ free
rest-none free e = rw (nothing-empty free e)

pub none_left : (s : State) (rest : List ℕ) → rest ≡ tail_of s.queues.free_stacklets → front_of s.queues.free_stacklets ≡ None → set_free_stacklets rest s ≡ s
none_left s rest e f = ap (λ (xs : List ℕ). set_free_stacklets xs s) (e ∙ rest-none s.queues.free_stacklets f)

module _ (j : Job) (s : State) (o : Turn) (f : Asked) where
  -- "20: no free thread number"
  pub no_number : (kind : ForkKind) (first : Option ℕ) → first ≡ front_of s.queues.free_threads → first ≡ None → refused 20 s ≡ fork_of j s kind o f
  unfolding fork_of fork_with
  no_number kind first e1 e2 = rw (nothing-empty s.queues.free_threads (sym e1 ∙ e2))

  module _ (kind : ForkKind) (n sl size : ℕ) (above : Bool) (first spot : Option ℕ) (tops : List ℕ) (e1 : first ≡ front_of s.queues.free_threads)
      (e2 : first ≡ Some n) (e3 : sl ≡ slots_of j.image o.thread.origin.routine) (e4 : size ≡ slots_of j.image f.routine) (e0 : tops ≡ s.store.tops)
      (e5 : above ≡ (is_connected kind && (is_topmost tops o.thread.origin.base sl && fits_on tops (o.thread.origin.base / 64) size)))
      (e6 : spot ≡ cond above (Some (o.thread.origin.base / 64)) (front_of s.queues.free_stacklets)) where
    place_found : place_of (goes_above j s kind o.thread f.routine) (o.thread.origin.base / 64) s.queues.free_stacklets ≡ place_by spot (left_by above s).queues.free_stacklets
    unfolding goes_above
    place_found = rw (← e0, ← e4, ← e3, ← e5) (sym (place-by above (o.thread.origin.base / 64) s.queues.free_stacklets spot e6))

    pub fork-found : fork_on s (λ x xs. born j s kind o f (handed n (tail_of s.queues.free_threads) x xs)) (place_by spot (left_by above s).queues.free_stacklets) ≡ fork_of j s kind o f
    unfolding fork_of fork_with
    fork-found = rw (← place_found, number-first s.queues.free_threads n (sym e1 ∙ e2))

    -- "21: a stacklet is needed and none is free"
    pub no-stacklet : spot ≡ None → refused 21 s ≡ fork_of j s kind o f
    unfolding fork_on
    no-stacklet e7 = rw (← fork-found, e7)

    -- the stores one after another
    pub born-by : (x : ℕ) → spot ≡ Some x → (s0 s1 s2 s3 s4 s5 s6 : State) (ws : List ℕ) (base ar : ℕ)
        → s0 ≡ set_words ws s → s1 ≡ left_by above s0 → s2 ≡ hands_out_number s1 → s3 ≡ both_records kind o.number n o.thread o.next f base s2
        → s4 ≡ charge o.weight s3 → s5 ≡ set_tops (pushed_tops s4.store.tops x size) s4 → s6 ≡ child_goes kind o.core n s5
        → base ≡ base_on s2.store.tops x → ar ≡ arguments_of j.image f.routine
        → ws ≡ pushed_words s4.store.tops s.store.words x size (arguments_at s.store.words (o.thread.origin.base + f.first) ar)
        → accepted s6 ≡ fork_of j s kind o f
    unfolding fork_on born
    born-by x e7 s0 s1 s2 s3 s4 s5 s6 ws base ar g0 g1 g2 g3 g4 g5 g6 hb ha hw = go ∙ fork-found
      where
        same2 : s2.store.tops ≡ s.store.tops
        same2 = rw (g2, g1, g0)

        same4 : s4.store.tops ≡ s.store.tops
        same4 = rw (g4, g3) same2

        g5' : s5 ≡ set_tops (pushed_tops s.store.tops x size) s4
        g5' = g5 ∙ ap (λ (ts : List ℕ). set_tops (pushed_tops ts x size) s4) same4

        hb' : base ≡ base_on s.store.tops x
        hb' = hb ∙ ap (λ (ts : List ℕ). base_on ts x) same2

        hw' : ws ≡ pushed_words s.store.tops s.store.words x size (arguments_at s.store.words (o.thread.origin.base + f.first) ar)
        hw' = hw ∙ ap (λ (ts : List ℕ). pushed_words ts s.store.words x size (arguments_at s.store.words (o.thread.origin.base + f.first) ar)) same4

        go : accepted s6 ≡ fork_on s (λ x xs. born j s kind o f (handed n (tail_of s.queues.free_threads) x xs)) (place_by spot (left_by above s).queues.free_stacklets)
        go = rw (g6, g5', g4, g3, g2, g1, g0, hb', hw', ha, e4, e7)

-- the stacklet that is found is one of 16
pub spot-low : (above : Bool) (p x : ℕ) (free : List ℕ) (spot : Option ℕ) → p < 16 → HeadBelow 16 free → spot ≡ cond above (Some p) (front_of free)
    → spot ≡ Some x → x < 16
spot-low true p x free spot l h f g = let z : p ≡ x = cc in omega arith
spot-low false p x free spot l h f g = head-below free 16 x h (sym f ∙ g)

-- the two parts of a cut in range
pub cut_parts : (w : Window) (e : ℕ) (c : Option Cut) (child rest : Window) → c ≡ cut_at w e → c ≡ Some (record { child = child; rest = rest }) → (child ≡ child_of w e) × (rest ≡ rest_of w e)
cut_parts w e c child rest f g = let m = cut-means w e _ (sym f ∙ g) in (ap (λ (x : Cut). x.child) m.is, ap (λ (x : Cut). x.rest) m.is)

pub cut-never : (w : Window) (e : ℕ) (c : Option Cut) → w.mark ≤ e → e ≤ w.ceiling → c ≡ cut_at w e → c ≡ None → ⊥
cut-never w e c l h f g = let k = cut-made w e l h in let z : ◌≡◌ {A = ℕ} 0 1 = cc in omega arith

-- a new frame on a stacklet below 16
module _ {xs : List ℕ} (l : length xs ≡ size) (x slots : ℕ) (low : x < 16) (words memory : List ℕ) where
  pub frame_pushed : (ys : List ℕ) → Becomes xs ys (pushes (x % 16) slots)
      → meaning ys words memory ≡ set_tops (pushed_tops (meaning xs words memory).store.tops x slots) (meaning xs words memory)
  frame_pushed ys b = b.means l words memory ∙ ap (λ (k : ℕ). pushes k slots (meaning xs words memory)) (mod-eq_of_lt low)

  pub frame-laid : (before after arguments : List ℕ) → Pushes xs (x % 16) slots arguments before after
      → after ≡ pushed_words (meaning xs words memory).store.tops before x slots arguments
  frame-laid before after arguments b =
      b.means l words memory ∙ ap (λ (k : ℕ). pushed_words (meaning xs words memory).store.tops before k slots arguments) (mod-eq_of_lt low)

  pub base-found : (base : ℕ) → Reads xs base (λ s. base_on s.store.tops (x % 16)) 0 → base ≡ base_on (meaning xs words memory).store.tops x
  base-found base b = b.means l words memory ∙ ap (λ (k : ℕ). base_on (meaning xs words memory).store.tops k) (mod-eq_of_lt low)

-- the records of both threads by their parts
pub parent_is : (h th : Thread) (st st' : Status) (next d : ℕ) (w w' : Window) → h ≡ behind_fork st next d w th → st ≡ st' → w ≡ w' → h ≡ behind_fork st' next d w' th
parent_is h th st st' next d w w' e f g = rw (e, f, g)

pub child-is : (h : Thread) (st st' : Status) (b b' : Bool) (r t d base : ℕ) (w w' : Window) → h ≡ new_thread (origin_of r t d base) st b w → st ≡ st' → b ≡ b' → w ≡ w'
    → h ≡ new_thread (origin_of r t d base) st' b' w'
child-is h st st' b b' r t d base w w' e f g k = rw (e, f, g, k)

-- what is stored before the units leaves them
pub room-kept : (above : Bool) (kind : ForkKind) (t n next base w most : ℕ) (th : Thread) (f : Asked) (s s1 s2 s3 : State) → s1 ≡ left_by above s
    → s2 ≡ hands_out_number s1 → s3 ≡ both_records kind t n th next f base s2 → s.units + w < most → s3.units + w < most
room-kept above kind t n next base w most th f s s1 s2 s3 e1 e2 e3 l = rw (e3, e2, e1) l

pub both_stored : (s : State) (t n : ℕ) (p p' h h' : Thread) → t < 32 → n < 32 → p ≡ p' → h ≡ h'
    → set_thread (n % 32) h (set_thread (t % 32) p s) ≡ set_thread n h' (set_thread t p' s)
both_stored s t n p p' h h' l m e f = rw (mod-eq_of_lt l, mod-eq_of_lt m, e, f)
