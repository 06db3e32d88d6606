-- The steps of a run are single steps: 59 and 60 let pass what the reader made and what accepted steps leave, 61 the named clocks of a step, which
-- complete to the run's step, and the single step is judged as that is. Assumes nothing.
use mathlib.Core.Path.{◌≡◌, refl, ap, ◌∙◌, subst}
use mathlib.Core.Bool.{false}
use mathlib.Core.List.{List, [], ◌∷◌, ◌++◌, map, append_assoc, nil≢cons}
use Prim.Native.Nat.{ℕ, ◌%◌, ◌^◌, ◌≤◌}
use native.Mathlib.Nat.{mod-lt}
use native.Mathlib.Omega.{arith}
use lib.ListN.{length}
use lib.Pow.{pow_pos}
use Rattle.constraint.specs.Implicit.{defines_implicit}
use Rattle.constraint.specs.Ticks.{bits}
use Rattle.constraint.specs.declared.Constraint.{Constraint}
use Rattle.grammar.specs.Building.{clocks_in}
use Rattle.grammar.specs.declared.Table.{Table}
use Rattle.table.specs.Reader as table
use Rattle.table.proofs.TableVerdict.{every_table_passes}
use Rattle.recording.specs.Body.{Ending}
use Rattle.recording.specs.Variables.{naming_in}
use Rattle.recording.specs.declared.Step.{Step}
use Rattle.recording.specs.declared.UnknownNames.{UnknownNames}
use Rattle.recording.proofs.StepTicks.{named_clock, one_ticking, reading_ticking}
use Rattle.judging.specs.Single.{StepTold, accepted, judged_told}
use Rattle.judging.specs.Step.{judged}
use Rattle.judging.proofs.AnswerLaws.{passed, every_step_answers}
use Rattle.run.specs.Complete.{as_recorded}
use Rattle.run.specs.Judgement.{HoldsAt, FirstWithout, Accepted, Ends, at_end, fails, past, after, step_on, Stops, by_record, by_million, SingleSteps}
use Rattle.run.specs.Run.{Said, violated, records_of, start_of, table_of, recorded_by, reading_by}
use Rattle.run.proofs.CompleteLaws.{AllNamed, as_recorded_lem, completes_recorded}
use Rattle.run.proofs.JudgingLaws.{words_after, accepted_in_range, judged_on, judged_stop, judged_full, record_of_first, line_of_first}

-- the steps before an accepted one are accepted
accepted_before : (all : List Constraint) (before later : List Step) (s : Step) → Accepted all (before ++ s ∷ later) → Accepted all before
accepted_before all before later s h b l q e = h b (l ++ s ∷ later) q (ap (λ k. k ++ s ∷ later) e ∙ append_assoc b (q ∷ l) (s ∷ later))

module _ (t r : List ℕ) (u : UnknownNames) (e : (table.read_table t).said ≡ table.read) where
  abbrev b : Table
  b = table_of t

  -- only clocks of the table tick
  all_named : AllNamed (clocks_in b).named (recorded_by t r u).steps
  all_named before later s q =
      let n = (clocks_in b).named in
      let room : n ≤ 32 = omega (arith, (every_table_passes t e).clocks) in
      one_ticking (naming_in t b.names u) room before later s (rw q at (reading_ticking (naming_in t b.names u) room (named_clock t b.names) r))

  pub steps_recorded : map (as_recorded (clocks_in b).named) (reading_by t r u).steps ≡ (recorded_by t r u).steps
  steps_recorded = as_recorded_lem (clocks_in b).named (records_of b) (start_of b).words (recorded_by t r u).steps all_named

  -- a step of the recording, after accepted ones, is judged as the single step
  single_step : (ss later : List Step) (s : Step) → (reading_by t r u).steps ≡ ss ++ s ∷ later → Accepted b.records ss
      → step_on b (after b ss) s ≡ judged_told (judged (bits s.ticks) (records_of b) (after b ss))
  single_step ss later s q h =
      let p = every_table_passes t e in
      let n = (clocks_in b).named in
      let f = s.ticks % 2 ^ n in
      passed (clocks_in b) (records_of b) (after b ss) f (record { records = p.records; words = accepted_in_range b p ss h; ticks = mod-lt s.ticks (pow_pos n) })
      ∙ ap (λ (g : ℕ). judged_told (judged (bits g) (records_of b) (after b ss))) (completes_recorded n (records_of b) (λ qs. (after b qs).words) (words_after b p) [] (recorded_by t r u).steps ss later s all_named q)

  -- the record that stops a run defines no implicit clock, as it stops the single step
  pub names_no_implicit : (ss later : List Step) (s : Step) (c : Constraint) → (reading_by t r u).steps ≡ ss ++ s ∷ later → Accepted b.records ss → FirstWithout (HoldsAt ss s) b.records c
      → defines_implicit (clocks_in b).named c ≡ false
  names_no_implicit ss later s c q h f =
      let p = every_table_passes t e in
      let said = ap (λ (x : StepTold). x.said) (single_step ss later s q h ∙ ap judged_told (judged_stop b p ss s h f)) in
      rw (record_of_first b p f) at ((every_step_answers (clocks_in b) (records_of b) (after b ss) _).never_implicit (length f.earlier) said)

  stops_at : (ss left : List Step) (x : Ending) (said : Said) → Accepted b.records ss → (reading_by t r u).steps ≡ ss ++ left → Ends b.records x ss left said
      → (later : List Step) (s : Step) → left ≡ s ∷ later → Stops b (after b ss) s said
  stops_at ss left x said h place at_end later s q = absurd (nil≢cons q)
  stops_at ss left x said h place (fails {s = o} {later = os} f) later s q =
      let p = every_table_passes t e in
      let same : o ≡ s = cc in
      subst (λ (v : Step). Stops b (after b ss) v said) same
      (subst (λ (l : ℕ). Stops b (after b ss) o (violated l o.time.0)) (line_of_first b p f)
      (by_record (single_step ss os o place h ∙ ap judged_told (judged_stop b p ss o h f))))
  stops_at ss left x said h place (past {s = o} {later = os} hold f) later s q =
      let p = every_table_passes t e in
      let same : o ≡ s = cc in
      subst (λ (v : Step). Stops b (after b ss) v said) same (by_million (single_step ss os o place h ∙ ap judged_told (judged_full b p ss o h hold f)))

  pub single_steps : (ss left : List Step) (x : Ending) (said : Said) → Accepted b.records ss → (reading_by t r u).steps ≡ ss ++ left → Ends b.records x ss left said → SingleSteps b ss left said
  single_steps ss left x said h place ends = record { each = each; stop = stops_at ss left x said h place ends }
    where
      each : (before later : List Step) (s : Step) → ss ≡ before ++ s ∷ later → step_on b (after b before) s ≡ record { said = accepted; configuration = after b (before ++ s ∷ []) }
      each before later s q =
          let p = every_table_passes t e in
          let all : Accepted b.records (before ++ s ∷ later) = rw q at h in
          let ok = accepted_before b.records before later s all in
          let held = all before later s refl in
          let at : (reading_by t r u).steps ≡ before ++ s ∷ (later ++ left) = place ∙ ap (λ k. k ++ left) q ∙ append_assoc before (s ∷ later) left in
          single_step before (later ++ left) s at ok ∙ ap judged_told (judged_on b p before s ok held.0 held.1)
