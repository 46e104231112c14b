-- Tables of zeros, the numbers laid out, the root on core 0: the state at Start. Assumes nothing.
use mathlib.Core.List.{List}
use mathlib.Core.Path.{◌≡◌, refl, sym, ap, ◌∙◌}
use Prim.Native.Nat.{ℕ}
use lib.ListN.{length, replicate}
use Rattle.image.specs.Layout.{slots_of}
use Rattle.stacklets.specs.Tops.{pushed_tops}
use Rattle.stacklets.specs.Frames.{pushed_words}
use Rattle.rules.specs.State.{Job, State, job_of}
use Rattle.rules.specs.Update.{set_tops}
use Rattle.rules.specs.Start.{start_state}
use Rattle.tables.specs.Meaning.{size, meaning}
use Rattle.tables.specs.Change.{Becomes, Clears}
use Rattle.tables.proofs.Zeros.{zeros, zero-threads, zero-cores, zero-units, zero-outcome}
use Rattle.start.specs.Start.{all_free, root_runs, Starts}

laid : (j : Job) (count : ℕ) (arguments memory : List ℕ) →
    root_runs count (all_free (set_tops (pushed_tops (replicate 16 0) 0 (slots_of j.image 0)) (meaning (replicate size 0) (pushed_words (replicate 16 0) (replicate 1024 0) 0 (slots_of j.image 0) arguments) memory)))
    ≡ start_state j count arguments memory
unfolding meaning start_state
laid j count arguments memory =
    rw (zero-threads (replicate size 0) (zeros size), zero-cores (replicate size 0) (zeros size), zero-units (replicate size 0) (zeros size), zero-outcome (replicate size 0) (zeros size)) refl

started : (j : Job) (count : ℕ) (arguments memory : List ℕ) {xs zs ps qs ys tops words : List ℕ} → length xs ≡ size → Clears xs zs →
    Becomes zs ps (set_tops tops) → Becomes ps qs all_free → Becomes qs ys (root_runs count) →
    tops ≡ pushed_tops (replicate 16 0) 0 (slots_of j.image 0) →
    words ≡ pushed_words (replicate 16 0) (replicate 1024 0) 0 (slots_of j.image 0) arguments →
    meaning ys words memory ≡ start_state j count arguments memory
started j count arguments memory {xs} {zs} {ps} {qs} {ys} {tops} {words} l z a b r te we =
    let lz : length zs ≡ size = z.sized ∙ l in
    let la : length ps ≡ size = a.sized ∙ lz in
    let lb : length qs ≡ size = b.sized ∙ la in
    r.means lb words memory
    ∙ ap (root_runs count) (b.means la words memory ∙ ap all_free (a.means lz words memory))
    ∙ rw (z.zeros l, te, we) (laid j count arguments memory)

kept : {xs zs ps qs ys : List ℕ} {f g h : State → State} → Clears xs zs → Becomes zs ps f → Becomes ps qs g → Becomes qs ys h → (length xs ≡ size → ⊥) → ys ≡ xs
kept z a b r n =
    r.other (λ e. n (sym (b.sized ∙ a.sized ∙ z.sized) ∙ e))
    ∙ b.other (λ e. n (sym (a.sized ∙ z.sized) ∙ e))
    ∙ a.other (λ e. n (sym z.sized ∙ e))
    ∙ z.other n

pub starting : {image arguments : List ℕ} {count n : ℕ} {xs zs ps qs ys first tops ws cs vs : List ℕ} → Clears xs zs →
    Becomes zs ps (set_tops tops) → Becomes ps qs all_free → Becomes qs ys (root_runs count) →
    first ≡ replicate 16 0 → n ≡ slots_of image 0 → cs ≡ replicate (length ws) 0 → tops ≡ pushed_tops first 0 n → vs ≡ pushed_words first cs 0 n arguments →
    Starts image arguments count xs ys ws vs
starting {image} {arguments} {count} z a b r fe ne ce te ve =
    record {
      means = λ l w starts parameters memory allowance.
          started (job_of image starts parameters allowance) count arguments memory l z a b r (te ∙ rw (fe, ne) refl) (ve ∙ rw (fe, ne, ce, w) refl);
      other = kept z a b r;
      framed = ve ∙ rw (fe, ne, ce) refl;
    }
