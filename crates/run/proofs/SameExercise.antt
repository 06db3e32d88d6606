-- Steps in which nothing ticks are accepted and move no word: a recording is completed and judged as the steps in which something ticks alone are,
-- each at its time as it is stamped. Assumes nothing.
use Rattle.std.specs.Prelude.{Result, Ok, Err, None}
use mathlib.Core.Path.{◌≡◌, refl, sym, ap, ap₂, ◌∙◌}
use mathlib.Core.Bool.{Bool, true, false, cond}
use mathlib.Core.List.{List, [], ◌∷◌, map}
use Prim.Native.Nat.{ℕ, suc}
use borrow.Author.Tests.{eqb-true}
use lib.Dec.{eqb}
use lib.ListN.{take}
use Rattle.constraint.specs.Implicit.{completed}
use Rattle.constraint.specs.Lists.{broken_word}
use Rattle.constraint.specs.Ticks.{Ticks, bits}
use Rattle.constraint.specs.declared.Configuration.{Configuration}
use Rattle.constraint.specs.declared.Constraint.{Constraint}
use Rattle.constraint.specs.declared.Word.{Word}
use Rattle.constraint.proofs.ImplicitLaws.{completed_none}
use Rattle.constraint.proofs.TickSets.{bits_zero}
use Rattle.recording.specs.Body.{Ending, ended, Reading}
use Rattle.recording.specs.declared.Step.{Step}
use Rattle.run.specs.Complete.{complete_all}
use Rattle.run.specs.Judgement.{ticking, timed, bare, SameExercise}
use Rattle.run.specs.Run.{Judging, after_step, judge_all, ran}
use Rattle.judging.specs.Step.{moved, judged}
use Rattle.judging.specs.declared.NotHeld.{NotHeld}
use Rattle.judging.specs.declared.NotHeld.TheVariants.{Failed, PastMillion}
use Rattle.judging.proofs.StepLaws.{moved_none, judged_none, judged_in_range}

-- ---- one more step accepted

abbrev later : Judging → Judging
later j = record { said = j.said; steps = suc j.steps; configuration = j.configuration }

after_later : (rs : List Constraint) (n : ℕ) (s : Step) (o : Result (Unit {0}) NotHeld) (b a : Configuration) (f g : Configuration → Judging)
    → ((c : Configuration) → f c ≡ later (g c)) → after_step rs (suc n) s o b a f ≡ later (after_step rs n s o b a g)
unfolding after_step
after_later rs n s (Ok u) b a f g h = h _
after_later rs n s (Err (Failed p)) b a f g h = refl
after_later rs n s (Err (PastMillion p)) b a f g h = refl

judged_later : (rs : List Constraint) (n : ℕ) (c : Configuration) (ss : List Step) (e : Ending) → judge_all rs (suc n) c ss e ≡ later (judge_all rs n c ss e)
unfolding judge_all
judged_later rs n c [] e = refl
judged_later rs n c (s ∷ ss) e = after_later rs n s _ c _ _ _ (λ d. judged_later rs _ d ss e)

-- ---- the steps in which something ticks, alone: each its time, as it is stamped, and its tick set

abbrev alone : ℕ × ℕ → Step
alone p = record { mark = record { 0 = 0 }; time = record { 0 = p.0 }; ticks = p.1 }

module _ (stamp : ℕ → ℕ) where
  abbrev stamped : Step → ℕ × ℕ
  stamped s = (stamp s.time.0, s.ticks)

  -- steps ss, judged with j, are judged as those of ps alone are, with k
  record JudgedAs (ps : List (ℕ × ℕ)) (k : Judging) (ss : List Step) (j : Judging) : Type 0 where
    said : bare stamp j.said ≡ k.said
    steps : ticking stamp (take (suc j.steps) ss) ≡ take (suc k.steps) ps
    configuration : j.configuration ≡ k.configuration

  module _ (ps : List (ℕ × ℕ)) (k : Judging) (s : Step) (ss : List Step) (j : Judging) (a : JudgedAs ps k ss j) where
    one_empty : eqb s.ticks 0 ≡ true → JudgedAs ps k (s ∷ ss) (later j)
    one_empty e = record { said = a.said; steps = rw e a.steps; configuration = a.configuration }

    one_ticking : eqb s.ticks 0 ≡ false → JudgedAs (stamped s ∷ ps) (later k) (s ∷ ss) (later j)
    one_ticking e = record { said = a.said; steps = rw e (ap (λ l. stamped s ∷ l) a.steps); configuration = a.configuration }

  module _ (rs : List Constraint) where
    abbrev JudgedAlone : Configuration → List Step → Type 0
    JudgedAlone c ss = JudgedAs (ticking stamp ss) (judge_all rs 0 c (map alone (ticking stamp ss)) ended) ss (judge_all rs 0 c ss ended)

    after_alone : (ps : List (ℕ × ℕ)) (ss : List Step) (s : Step) (o : Result (Unit {0}) NotHeld) (b a : Configuration) (f g : Configuration → Judging) → eqb s.ticks 0 ≡ false
        → JudgedAs (stamped s ∷ ps) (f a) (s ∷ ss) (g a) → JudgedAs (stamped s ∷ ps) (after_step rs 0 (alone (stamped s)) o b a f) (s ∷ ss) (after_step rs 0 s o b a g)
    unfolding after_step
    after_alone ps ss s (Ok u) b a f g e h = h
    after_alone ps ss s (Err (Failed p)) b a f g e h = record { said = refl; steps = rw e; configuration = refl }
    after_alone ps ss s (Err (PastMillion p)) b a f g e h = record { said = refl; steps = rw e; configuration = refl }

    module _ (c : Configuration) (s : Step) (ss : List Step) where
      empty_held : eqb s.ticks 0 ≡ true → broken_word rs c.words ≡ None → judged (bits s.ticks) rs c ≡ record { outcome = Ok tt; configuration = c }
      empty_held e h = rw (eqb-true s.ticks 0 e, bits_zero) (judged_none rs c h)

      empty_step : eqb s.ticks 0 ≡ true → broken_word rs c.words ≡ None → JudgedAlone c ss → JudgedAlone c (s ∷ ss)
      unfolding judge_all after_step
      empty_step e h a = rw (e, empty_held e h, judged_later rs 0 c ss ended) (one_empty _ _ s ss _ a e)

      ticking_step : eqb s.ticks 0 ≡ false → JudgedAlone (judged (bits s.ticks) rs c).configuration ss → JudgedAlone c (s ∷ ss)
      unfolding judge_all
      ticking_step e a = rw e (after_alone (ticking stamp ss) ss s _ c _ _ _ e (rw (judged_later rs 0 _ (map alone (ticking stamp ss)) ended, judged_later rs 0 _ ss ended) (one_ticking _ _ s ss _ a e)))

    judged_alone : (c : Configuration) (ss : List Step) → broken_word rs c.words ≡ None → JudgedAlone c ss
    unfolding judge_all
    judged_alone c [] h = record { said = refl; steps = refl; configuration = refl }
    judged_alone c (s ∷ ss) h = go (eqb s.ticks 0) refl (judged_alone c ss h) (judged_alone (judged (bits s.ticks) rs c).configuration ss (judged_in_range (bits s.ticks) rs c h))
      where
        go : (x : Bool) → eqb s.ticks 0 ≡ x → JudgedAlone c ss → JudgedAlone (judged (bits s.ticks) rs c).configuration ss → JudgedAlone c (s ∷ ss)
        go true e stayed moved = empty_step c s ss e h stayed
        go false e stayed moved = ticking_step c s ss e moved

    -- the completed steps in which something ticks are those, as recorded, completed alone: where nothing ticks, no implicit clock does
    module _ (named : ℕ) where
      abbrev completed_alone : List Word → List (ℕ × ℕ) → List (ℕ × ℕ)
      completed_alone ws ps = ticking timed (complete_all named rs ws (map alone ps))

      completed_alone_lem : (ws : List Word) (ss : List Step) → ticking stamp (complete_all named rs ws ss) ≡ completed_alone ws (ticking stamp ss)
      unfolding complete_all
      completed_alone_lem ws [] = refl
      completed_alone_lem ws (s ∷ ss) = go (eqb s.ticks 0) refl (λ vs. completed_alone_lem vs ss)
        where
          f : ℕ
          f = completed named rs ws s.ticks

          -- the step's tick set in front, where something ticks in it
          front : ℕ → List (ℕ × ℕ) → List (ℕ × ℕ)
          front g ps = cond (eqb g 0) ps ((stamp s.time.0, g) ∷ ps)

          go : (x : Bool) → eqb s.ticks 0 ≡ x → ((vs : List Word) → ticking stamp (complete_all named rs vs ss) ≡ completed_alone vs (ticking stamp ss))
              → front f (ticking stamp (complete_all named rs (moved (bits f) rs ws) ss)) ≡ completed_alone ws (cond x (ticking stamp ss) (stamped s ∷ ticking stamp ss))
          go true e ih =
              let z : f ≡ 0 = ap (completed named rs ws) (eqb-true s.ticks 0 e) ∙ completed_none named rs ws in
              let stay : moved (bits f) rs ws ≡ ws = ap (λ (g : ℕ). moved (bits g) rs ws) z ∙ ap (λ (F : Ticks). moved F rs ws) bits_zero ∙ moved_none rs ws in
              ap₂ (λ (g : ℕ) (vs : List Word). front g (ticking stamp (complete_all named rs vs ss))) z stay ∙ ih ws
          go false e ih = ap (front f) (ih (moved (bits f) rs ws))

      pub completed_same : (ws : List Word) (ss qs : List Step) → ticking stamp ss ≡ ticking stamp qs → ticking stamp (complete_all named rs ws ss) ≡ ticking stamp (complete_all named rs ws qs)
      completed_same ws ss qs same = completed_alone_lem ws ss ∙ ap (completed_alone ws) same ∙ sym (completed_alone_lem ws qs)

    pub same_exercise : (n : ℕ) (c : Configuration) (g h : Reading) → broken_word rs c.words ≡ None → ticking stamp g.steps ≡ ticking stamp h.steps
        → SameExercise stamp g h (ran n (judge_all rs 0 c g.steps ended)) (ran n (judge_all rs 0 c h.steps ended))
    same_exercise n c g h p same =
        let one = judged_alone c g.steps p in
        let other = rw (← same) at (judged_alone c h.steps p) in
        record {
          verdict = one.said ∙ sym other.said;
          steps = one.steps ∙ sym other.steps;
          configuration = one.configuration ∙ sym other.configuration;
        }
