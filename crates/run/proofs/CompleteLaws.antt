-- Completed steps: judging them is completing and judging step by step, since an accepted step leaves the words moved. Their named clocks are the
-- recorded ones, and each is what these complete to with the words after the steps before it. Assumes nothing.
use Rattle.std.specs.Prelude.{Option, Some, None, Ok}
use Rattle.limit.specs.declared.Place.{Place}
use mathlib.Core.Path.{◌≡◌, refl, sym, ap, ap₂, ◌∙◌}
use mathlib.Core.List.{List, [], ◌∷◌, ◌++◌, map, append-nil}
use Prim.Native.Nat.{ℕ, suc, ◌%◌, ◌^◌, ◌<◌}
use native.Mathlib.Omega.{arith}
use lib.ListN.{length, length-append}
use lib.Seq.{append_snoc}
use Rattle.constraint.specs.Implicit.{completed}
use Rattle.constraint.specs.Million.{first_past}
use Rattle.constraint.specs.Ticks.{Ticks, bits}
use Rattle.constraint.specs.declared.Configuration.{Configuration}
use Rattle.constraint.specs.declared.Constraint.{Constraint}
use Rattle.constraint.specs.declared.Word.{Word}
use Rattle.constraint.proofs.ImplicitLaws.{completed_keeps}
use Rattle.recording.specs.Body.{Ending}
use Rattle.recording.specs.declared.Step.{Step}
use Rattle.judging.specs.Step.{Judged, first_failing, moved, handed_back, judged}
use Rattle.judging.specs.declared.NotHeld.TheVariants.{Failed, PastMillion}
use Rattle.run.specs.Complete.{with_set, complete_all, as_recorded}
use Rattle.run.specs.Run.{Judging, after_step, judge_all}

-- ---- one step

module _ (named : ℕ) (rs : List Constraint) (e : Ending) where
  -- what is left to complete and judge
  abbrev pub judge_rest : (n : ℕ) → Configuration → List Step → Judging
  judge_rest n c ss = judge_all rs n c (complete_all named rs c.words ss) e

  module _ (n : ℕ) (c : Configuration) (s : Step) (ss : List Step) where
    abbrev F : Ticks
    F = bits (completed named rs c.words s.ticks)

    pub one_step : judge_rest n c (s ∷ ss) ≡ after_step rs n s (judged F rs c).outcome c (judged F rs c).configuration (λ d. judge_rest (suc n) d ss)
    unfolding judge_all complete_all judged
    one_step = go (first_failing F 1 rs c.words) (first_past 1 rs (moved F rs c.words))
      where
        j : Option Place → Option Place → Judged
        j f b = handed_back Failed f c (handed_back PastMillion b c (record { outcome = Ok tt; configuration = record { words = moved F rs c.words } }))

        go : (f b : Option Place)
            → after_step rs n (with_set (completed named rs c.words s.ticks) s) (j f b).outcome c (j f b).configuration (λ d. judge_all rs (suc n) d (complete_all named rs (moved F rs c.words) ss) e)
            ≡ after_step rs n s (j f b).outcome c (j f b).configuration (λ d. judge_rest (suc n) d ss)
        go (Some p) b = unfold after_step in refl
        go None (Some p) = unfold after_step in refl
        go None None = unfold after_step in refl

-- ---- the named clocks

-- the steps tick named clocks alone
abbrev pub AllNamed : (named : ℕ) → List Step → Type 0
AllNamed named ss = (before later : List Step) (s : Step) → ss ≡ before ++ s ∷ later → s.ticks < 2 ^ named

module _ (named : ℕ) (rs : List Constraint) where
  all_later : {s : Step} {ss : List Step} → AllNamed named (s ∷ ss) → AllNamed named ss
  all_later {s} all before later q e = all (s ∷ before) later q (ap (λ l. s ∷ l) e)

  pub as_recorded_lem : (ws : List Word) (ss : List Step) → AllNamed named ss → map (as_recorded named) (complete_all named rs ws ss) ≡ ss
  unfolding complete_all
  as_recorded_lem ws [] all = refl
  as_recorded_lem ws (s ∷ ss) all =
      ap₂ (λ (f : ℕ) (qs : List Step). with_set f s ∷ qs) (completed_keeps named rs ws s.ticks (all [] ss s refl)) (as_recorded_lem (moved (bits (completed named rs ws s.ticks)) rs ws) ss (all_later all))

  -- after: the words after steps
  module _ (after : List Step → List Word) (more : (ss : List Step) (s : Step) → after (ss ++ s ∷ []) ≡ moved (bits s.ticks) rs (after ss)) where
    pub completes_recorded : (done ss before later : List Step) (s : Step) → AllNamed named ss → complete_all named rs (after done) ss ≡ before ++ s ∷ later
        → completed named rs (after (done ++ before)) (s.ticks % 2 ^ named) ≡ s.ticks
    unfolding complete_all
    completes_recorded done [] before later s all e = absurd (omega (arith, length-append before (s ∷ later), ap length e))
    completes_recorded done (q ∷ ss) [] later s all e =
        let f = completed named rs (after done) q.ticks in
        let here : with_set f q ≡ s = cc in
        let ticks : f ≡ s.ticks = ap (λ (x : Step). x.ticks) here in
        rw append-nil (ap (completed named rs (after done)) (ap (λ (x : ℕ). x % 2 ^ named) (sym ticks) ∙ completed_keeps named rs (after done) q.ticks (all [] ss q refl)) ∙ ticks)
    completes_recorded done (q ∷ ss) (x ∷ before) later s all e =
        let f = completed named rs (after done) q.ticks in
        let here : with_set f q ≡ x = cc in
        let rest : complete_all named rs (moved (bits f) rs (after done)) ss ≡ before ++ s ∷ later = cc in
        let words : after (done ++ x ∷ []) ≡ moved (bits f) rs (after done) = more done x ∙ ap (λ (y : Step). moved (bits y.ticks) rs (after done)) (sym here) in
        rw append_snoc at (completes_recorded (done ++ x ∷ []) ss before later s (all_later all) (ap (λ ws. complete_all named rs ws ss) words ∙ rest))
