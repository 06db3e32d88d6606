-- The clocks that the lines above define, as a set of numbers: what it says of a clock, and the set with a line more. Assumes nothing.
use mathlib.Core.Path.{◌≡◌, refl, sym, subst, ◌∙◌}
use mathlib.Core.Logic.{◌↔◌, ◌⊎◌, inl, inr}
use mathlib.Core.Bool.{Bool, true, false, cond, ◌||◌, false≢true}
use mathlib.Core.List.{List, [], ◌∷◌, ◌++◌}
use Prim.Native.Nat.{ℕ, ◌≤◌, ◌<◌}
use native.Mathlib.Omega.{arith}
use borrow.Author.Tests.{eqb-true, eq-eqb}
use lib.Dec.{eqb}
use lib.ListN.{length}
use Rattle.constraint.specs.Ticks.{Ticks, none, adding}
use Rattle.forms.specs.Forms.{Word, Words, Line, words_of, one_of}
use Rattle.forms.specs.Lines.{names_in, clock_names, Some, DefinesClock, standing}
use Rattle.forms.proofs.ClockNames.{Keeps, names_keep, names_more, standing_below, standing_one}
use Rattle.forms.proofs.FormNames.{defined_named}
use Rattle.forms.proofs.SomeLaws.{or_true, some_none, some_more, some_last, some_cases}

-- ---- the numbers of the clocks that some lines define
pub record Marks (above : List Line) (F : Ticks) : Type 0 where
  pub marked : (c : Word) → Some (DefinesClock c) above → F (standing (clock_names above) c) ≡ true
  pub only : (k : ℕ) → F k ≡ true → (c : Word) × Some (DefinesClock c) above × (standing (clock_names above) c ≡ k)

pub no_marks : Marks [] none
no_marks = record { marked = λ c s. absurd (some_none (DefinesClock c) [] refl s); only = λ k e. absurd (false≢true e) }

module _ (above : List Line) (F : Ticks) (m : Marks above F) where
  abbrev us : Words
  us = clock_names above

  -- whether a clock is marked, by its number among names that keep those numbers
  module _ (vs : Words) (k : Keeps us vs) (h : length us ≤ 32) (c : Word) where
    pub marked_row : (F (cond (one_of vs c) (standing vs c) 32) ≡ true) ↔ Some (DefinesClock c) above
    marked_row = (λ e. to (one_of vs c) refl (m.only _ e), from)
      where
        to : (x : Bool) → one_of vs c ≡ x → (d : Word) × Some (DefinesClock d) above × (standing us d ≡ cond x (standing vs c) 32) → Some (DefinesClock c) above
        to true q d =
            let f = k d.0 (defined_named [] above d.0 d.1) in
            subst (λ (w : Word). Some (DefinesClock w) above) (standing_one vs d.0 c f.0 q (f.1 ∙ d.2)) d.1
        to false q d =
            let b : standing us d.0 < length us = standing_below us d.0 (defined_named [] above d.0 d.1) in
            let e : standing us d.0 ≡ 32 = d.2 in
            absurd (omega arith)

        from : Some (DefinesClock c) above → F (cond (one_of vs c) (standing vs c) 32) ≡ true
        from s = let f = k c (defined_named [] above c s) in rw (f.0, f.1) (m.marked c s)

  -- ---- with a line more
  module _ (l : Line) where
    abbrev vs : Words
    vs = clock_names (above ++ l ∷ [])

    keeps : Keeps us vs
    keeps = rw (names_more [] above l) (names_keep us (names_in (words_of l)))

    still : (c : Word) → Some (DefinesClock c) above → standing vs c ≡ standing us c
    still c s = (keeps c (defined_named [] above c s)).1

    module _ (G : Ticks) (grows : (k : ℕ) → F k ≡ true → G k ≡ true) where
      marked_above : (c : Word) → Some (DefinesClock c) above → G (standing vs c) ≡ true
      marked_above c s = rw (still c s) (grows (standing us c) (m.marked c s))

    only_above : (k : ℕ) → F k ≡ true → (c : Word) × Some (DefinesClock c) (above ++ l ∷ []) × (standing vs c ≡ k)
    only_above k e = let h = m.only k e in (h.0, some_more (DefinesClock h.0) l above h.1, still h.0 h.1 ∙ h.2)

    -- it defines none
    pub marks_same : ((c : Word) → DefinesClock c l → ⊥) → Marks (above ++ l ∷ []) F
    marks_same f = record { marked = λ c s. go c (some_cases (DefinesClock c) l above s); only = only_above }
      where
        go : (c : Word) → Some (DefinesClock c) above ⊎ DefinesClock c l → F (standing vs c) ≡ true
        go c (inl s) = marked_above F (λ k e. e) c s
        go c (inr d) = absurd (f c d)

    -- it defines c alone
    pub marks_one : (c : Word) → DefinesClock c l → ((d : Word) → DefinesClock d l → d ≡ c) → Marks (above ++ l ∷ []) (adding (standing vs c) F)
    marks_one c d f = record { marked = λ w s. go w (some_cases (DefinesClock w) l above s); only = λ k e. new k (F k) refl e }
      where
        go : (w : Word) → Some (DefinesClock w) above ⊎ DefinesClock w l → adding (standing vs c) F (standing vs w) ≡ true
        go w (inl s) = marked_above (adding (standing vs c) F) (λ k e. rw e) w s
        go w (inr h) = rw (f w h, eq-eqb (standing vs c) (standing vs c) refl) (or_true (F (standing vs c)))

        new : (k : ℕ) (x : Bool) → F k ≡ x → (x || eqb k (standing vs c)) ≡ true → (w : Word) × Some (DefinesClock w) (above ++ l ∷ []) × (standing vs w ≡ k)
        new k true q e = only_above k q
        new k false q e = (c, some_last (DefinesClock c) l above d, sym (eqb-true k (standing vs c) e))
