-- The three demands: 2 from how the steps of a recording split into the accepted ones and what ends them; 1 from that split, and from the order
-- of the checks of the calls on records; 3 as `constraint` has it. Assumes nothing.
use mathlib.Core.Path.{◌≡◌, refl, sym, ap, ap₂, ◌∙◌}
use mathlib.Core.List.{List, [], ◌∷◌, ◌++◌, append-nil}
use mathlib.Core.Logic.{◌⊎◌, inl, inr}
use Prim.Native.Nat.{ℕ}
use lib.ListN.{length}
use Rattle.limit.specs.Limit.{number_of}
use Rattle.limit.specs.declared.Limit.TheVariants.{VariableUnknown}
use Rattle.limit.proofs.Numbers.{refusals_differ}
use Rattle.constraint.proofs.Demand3.{demand_3}
use Rattle.constraint.proofs.PlaceRefusals.{same_place_refused}
use Rattle.table.specs.Reader as table
use Rattle.table.proofs.TableVerdict.{refused_exactly, read_exactly, records_are_forms, every_table_passes}
use Rattle.recording.specs.Body.{Ending, ended, refused_at, Reading, ends_with}
use Rattle.recording.specs.declared.Step.{Step}
use Rattle.recording.specs.declared.UnknownNames.{UnknownNames}
use Rattle.recording.specs.declared.UnknownNames.TheVariants.{Refused as Strict, Ignored}
use Rattle.recording.proofs.Choices.{reading_alike}
use Rattle.judging.proofs.AnswerLaws.{every_step_answers}
use Rattle.run.specs.Complete.{complete_all}
use Rattle.run.specs.Demands.{Demand1, Demand2, NeverImplicit, ChoicesAgree, Demand3}
use Rattle.run.specs.Judgement.{Accepted as AllAccepted, Judges, Ends, at_end, fails, past, after}
use Rattle.run.specs.Refusals.{RunRefuses, by_table, by_reading, by_million}
use Rattle.run.specs.Run.{Said, SaidDetermines, accepted, violated, refused, Told, ending_said, judge_all, ran, run_table, with_table, run_of, zeros, records_of, table_of, recorded_by, completed_for, reading_by}
use Rattle.run.specs.declared.Verdict.TheVariants.{Accepted, Violated, Refused}
use Rattle.run.proofs.JudgingLaws.{Split, split, judged_split}
use Rattle.run.proofs.SingleSteps.{single_steps, names_no_implicit}

-- ---- the run of a table that is refused, and of one that is read

module _ (t r : List ℕ) (u : UnknownNames) where
  run_refused : (n p : ℕ) → (table.read_table t).said ≡ table.refused n p → run_of t r u ≡ record { said = refused n p; steps = 0; constraints = 0; configuration = zeros }
  unfolding with_table
  run_refused n p e = rw e

  pub run_read : (table.read_table t).said ≡ table.read → run_of t r u ≡ run_table (table_of t) (reading_by t r u)
  unfolding with_table
  run_read e = rw e

  run_split : (table.read_table t).said ≡ table.read → (x : Split (table_of t).records (reading_by t r u).ending (reading_by t r u).steps)
      → run_of t r u ≡ record { said = x.said; steps = length x.accepted; constraints = length (records_of (table_of t)); configuration = after (table_of t) x.accepted }
  run_split e x = run_read e ∙ ap (ran (length (records_of (table_of t)))) (judged_split (table_of t) (every_table_passes t e) (reading_by t r u).ending (reading_by t r u).steps x)

-- ---- demand 2

judges : (t r : List ℕ) (u : UnknownNames) → (table.read_table t).said ≡ table.read → Judges (table_of t) (reading_by t r u) (run_of t r u)
judges t r u e =
    let x = split (table_of t).records (reading_by t r u).ending (reading_by t r u).steps in
    rw (run_split t r u e x) (record {
      accepted = x.accepted;
      left = x.left;
      steps = x.place;
      held = x.held;
      ends = x.ends;
      count = refl;
      constraints = refl;
      words = refl;
      single = single_steps t r u e x.accepted x.left (reading_by t r u).ending x.said x.held x.place x.ends;
    })

pub demand_2 : Demand2
demand_2 t r u h = let e = (read_exactly t).1 h in (records_are_forms t e, judges t r u e)

pub never_implicit : NeverImplicit
never_implicit t r u before later s c h = names_no_implicit t r u ((read_exactly t).1 h) before later s c

-- ---- demand 1

when_refused : (t r : List ℕ) (u : UnknownNames) {n p : ℕ} → RunRefuses t r u n p → (run_of t r u).said ≡ refused n p
when_refused t r u {n} {p} (by_table e) = rw (run_refused t r u n p ((refused_exactly t n p).1 e))
when_refused t r u (by_reading e q h) = rw (run_split t r u ((read_exactly t).1 e) (record { accepted = (reading_by t r u).steps; left = []; said = ending_said (reading_by t r u).ending; place = sym (append-nil _); held = h; ends = at_end })) (ap ending_said q)
when_refused t r u (by_million before later s c e q h hold f) = rw (run_split t r u ((read_exactly t).1 e) (record { accepted = before; left = s ∷ later; said = _; place = q; held = h; ends = past hold f }))

-- of a verdict that is a refusal: the run is refused so
abbrev Refusing : (t r : List ℕ) → UnknownNames → Said → Type 0
Refusing t r u accepted = Unit {0}
Refusing t r u (violated l p) = Unit {0}
Refusing t r u (refused n p) = RunRefuses t r u n p

module _ (t r : List ℕ) (u : UnknownNames) where
  module _ (e : (table.read_table t).said ≡ table.read) where
    ending_refuses : AllAccepted (table_of t).records (reading_by t r u).steps → (x : Ending) → (reading_by t r u).ending ≡ x → Refusing t r u (ending_said x)
    ending_refuses h ended q = tt
    ending_refuses h (refused_at l p) q = by_reading ((read_exactly t).0 e) q h

    end_refuses : {ss left : List Step} {said : Said} → (reading_by t r u).steps ≡ ss ++ left → AllAccepted (table_of t).records ss → Ends (table_of t).records (reading_by t r u).ending ss left said → Refusing t r u said
    end_refuses place h at_end = ending_refuses (rw (place, append-nil) h) (reading_by t r u).ending refl
    end_refuses place h (fails f) = tt
    end_refuses place h (past hold f) = by_million _ _ _ _ ((read_exactly t).0 e) place h hold f

  run_refuses : Refusing t r u (run_of t r u).said
  run_refuses = go (table.read_table t).said refl
    where
      go : (x : table.Said) → (table.read_table t).said ≡ x → Refusing t r u (run_of t r u).said
      go table.read e = let j = judges t r u e in end_refuses e j.steps j.held j.ends
      go (table.refused n p) e = rw (run_refused t r u n p e) (by_table ((refused_exactly t n p).0 e))

pub demand_1 : Demand1
demand_1 = record {
  run_refused = λ t r u n p. (λ e. rw e at (run_refuses t r u), when_refused t r u);
  table_refused = λ t r u n p e. run_refused t r u n p ((refused_exactly t n p).1 e);
  step_answers = every_step_answers;
  same_place_refused = same_place_refused;
}

-- ---- both choices

pub choices_agree : ChoicesAgree
unfolding judge_all complete_all
choices_agree t r h = go (table.read_table t).said refl
  where
    -- what was read is the same, or 38 ends it
    alike : (table.read_table t).said ≡ table.read → (recorded_by t r Strict ≡ recorded_by t r Ignored) ⊎ ((p : ℕ) × (recorded_by t r Strict ≡ ends_with (refused_at VariableUnknown p))) → run_of t r Strict ≡ run_of t r Ignored
    alike e (inl q) = run_read t r Strict e ∙ ap (λ (g : Reading). run_table (table_of t) (completed_for (table_of t) g)) q ∙ sym (run_read t r Ignored e)
    alike e (inr (p, q)) = absurd (h p (ap (λ (d : Told). d.said) (run_read t r Strict e ∙ ap (λ (g : Reading). run_table (table_of t) (completed_for (table_of t) g)) q)))

    go : (x : table.Said) → (table.read_table t).said ≡ x → run_of t r Strict ≡ run_of t r Ignored
    go table.read e = alike e (reading_alike _ _ r)
    go (table.refused n p) e = run_refused t r Strict n p e ∙ sym (run_refused t r Ignored n p e)

-- ---- demand 3

pub demand_3_holds : Demand3
demand_3_holds = demand_3

-- ---- a verdict in document 01's words is that of one value alone

pub said_determines : SaidDetermines
said_determines Accepted Accepted e = refl
said_determines Accepted (Violated l t) e = cc
said_determines Accepted (Refused s) e = cc
said_determines (Violated l t) Accepted e = cc
said_determines (Violated l t) (Violated k u) e =
    let h : l.0 ≡ k.0 = cc in
    let i : t.0 ≡ u.0 = cc in
    ap₂ (λ (x y : ℕ). Violated (record { 0 = x }) (record { 0 = y })) h i
said_determines (Violated l t) (Refused s) e = cc
said_determines (Refused r) Accepted e = cc
said_determines (Refused r) (Violated l t) e = cc
said_determines (Refused r) (Refused s) e =
    let n : number_of r.limit ≡ number_of s.limit = cc in
    let p : r.place.0 ≡ s.place.0 = cc in
    ap Refused (refusals_differ r s n p)
