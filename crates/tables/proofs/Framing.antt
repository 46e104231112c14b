-- A new frame: the stacklet's top and the words. Assumes nothing.
use Rattle.std.proofs.Common.{◌≡◌, ℕ, ◌+◌, ◌≤◌, true, false, ltb, leb, List, [], length, sym, refl, ap, ◌∙◌, leb-true}
use Rattle.command.proofs.Bools.{both}
use Rattle.stacklets.specs.Tops.{top_at, base_on, fits_on, pushed_tops}
use Rattle.stacklets.specs.Frames.{framed, pushed_words}
use Rattle.rules.specs.Update.{set_tops}
use Rattle.tables.specs.Meaning.{size, meaning}
use Rattle.tables.specs.Change.{Reads, Becomes, Pushes, set_top, pushes}

module _ (xs : List ℕ) (x slots : ℕ) (l : length xs ≡ size) where
  -- where it fits
  module _ (fit : Reads xs true (λ s. fits_on s.store.tops x slots) false) where
    pub room : (top : ℕ) → Reads xs top (λ s. top_at s.store.tops x) 0 → top + slots ≤ 64
    unfolding fits_on
    room top t =
        rw (t.means l [] []) (leb-true (top_at (meaning xs [] []).store.tops x + slots) 64 (both (ltb x 16) (leb (top_at (meaning xs [] []).store.tops x + slots) 64) (sym (fit.means l [] []))).1)

    pub pushed : (ys : List ℕ) (top : ℕ) → Reads xs top (λ s. top_at s.store.tops x) 0 → Becomes xs ys (set_top x (top + slots)) → Becomes xs ys (pushes x slots)
    unfolding pushed_tops
    pushed ys top t b = record {
      means = λ k words memory. b.means k words memory
          ∙ ap (λ (tops : List ℕ). set_tops tops (meaning xs words memory)) (rw (← fit.means l words memory, t.means l words memory));
      sized = b.sized;
      other = b.other;
    }

    pub laid : (before after arguments : List ℕ) (base : ℕ) → Reads xs base (λ s. base_on s.store.tops x) 0 → after ≡ framed before base slots arguments
        → Pushes xs x slots arguments before after
    unfolding pushed_words
    laid before after arguments base b e = record {
      means = λ k words memory. e ∙ rw (← fit.means l words memory, ← b.means l words memory);
      other = λ n. absurd (n l);
    }

  -- where it does not
  module _ (full : Reads xs false (λ s. fits_on s.store.tops x slots) false) where
    pub not-pushed : Becomes xs xs (pushes x slots)
    unfolding pushed_tops
    not-pushed = record { means = λ k words memory. rw (← full.means l words memory); sized = refl; other = λ _. refl }

    pub not-laid : (before arguments : List ℕ) → Pushes xs x slots arguments before before
    unfolding pushed_words
    not-laid before arguments = record { means = λ k words memory. rw (← full.means l words memory); other = λ _. refl }
