-- The run step by step is the run: a step that a mark or the end closes, as one turn of what is left to complete and judge. Assumes nothing.
use Rattle.std.specs.Prelude.{Option, Some, None, Ok, Err}
use mathlib.Core.Path.{◌≡◌, refl, sym, ap, ◌∙◌}
use mathlib.Core.Bool.{true≢false}
use Rattle.std.specs.Result.{is_err}
use mathlib.Core.List.{List}
use Prim.Native.Nat.{ℕ, suc, ◌+◌, ◌≤◌}
use native.Mathlib.Numerals.{add-one}
use native.Mathlib.Omega.{arith}
use lib.ListN.{length}
use Rattle.limit.specs.Limit.{number_of}
use Rattle.constraint.specs.Implicit.{completed}
use Rattle.constraint.specs.Lists.{slots, start_words, broken_word}
use Rattle.constraint.specs.Million.{first_past}
use Rattle.constraint.specs.Ticks.{Ticks, bits}
use Rattle.limit.specs.declared.Place.{Place}
use Rattle.constraint.specs.declared.Clocks.{Clocks}
use Rattle.constraint.specs.declared.Configuration.{Configuration}
use Rattle.constraint.specs.declared.Constraint.{Constraint}
use Rattle.constraint.proofs.ImplicitLaws.{completed_none}
use Rattle.constraint.proofs.TickSets.{bits_zero}
use Rattle.judging.proofs.StepLaws.{judged_none}
use Rattle.grammar.specs.Building.{clocks_in, constraints_in}
use Rattle.judging.specs.Code.{Ready}
use Rattle.constraint.specs.declared.Word.{Word}
use Rattle.grammar.specs.declared.Table.{Table}
use Rattle.table.specs.Reader as table
use Rattle.table.proofs.TableVerdict.{every_table_passes}
use Rattle.limit.specs.declared.Refusal.{Refusal}
use Rattle.recording.specs.Body.{Ending, ended, refused_at, Reading, ends_with, closing, onward, body_steps, reading}
use Rattle.limit.specs.Checked.{passed}
use Rattle.recording.specs.Header.{words, Header, opened}
use Rattle.recording.specs.Variables.{Naming, naming_in}
use Rattle.recording.proofs.FewSteps.{few_steps}
use Rattle.recording.proofs.HeaderLaws.{opened_within}
use Rattle.recording.specs.declared.Step.{Step}
use Rattle.recording.specs.declared.UnknownNames.{UnknownNames}
use Rattle.run.specs.Complete.{complete_all}
use Rattle.run.specs.StepByStep.{verdict_of, after, judge_on, came_to}
use Rattle.run.specs.Run.{ending_said, after_step, judge_all, refused, records_of, start_of, zeros, ran, completed_for, run_table, with_table, run_of}
use Rattle.judging.specs.Single.{all_ticks}
use Rattle.judging.specs.Step.{Judged, judged_as, first_failing, moved, handed_back, judged}
use Rattle.judging.specs.declared.NotHeld.{NotHeld}
use Rattle.judging.specs.declared.NotHeld.TheVariants.{Failed, PastMillion}
use Rattle.run.specs.declared.whole_run.Progress.{Progress}
use Rattle.run.specs.declared.Verdict.TheVariants.{Refused}
use Rattle.judging.proofs.StepLaws.{judged_in_range}
use Rattle.run.proofs.CompleteLaws.{judge_rest, one_step}

-- ---- a run starts ready
pub ready : (b : Table) (p : table.Passes b) (k : Clocks) (rs : List Constraint) (c : Configuration) → k ≡ clocks_in b → rs ≡ constraints_in b → c.words ≡ start_words (slots 64 rs) → Ready k rs c.words
ready b p k rs c e q w = rw (w, q, e) (record { room = p.constraints; fit = p.records; inside = p.words })

-- ---- no step is left

pub none_left : (named : ℕ) (rs : List Constraint) (b : Progress) (e : Ending)
    → judge_on named rs b (ends_with e) ≡ record { said = ending_said e; steps = b.steps; configuration = b.configuration }
unfolding judge_on judge_all complete_all
none_left named rs b e = refl

pub ended_on : (named : ℕ) (rs : List Constraint) (b : Progress) → judge_on named rs b (ends_with ended) ≡ came_to (Ok tt) b
ended_on named rs b = none_left named rs b ended

pub refused_on : (named : ℕ) (rs : List Constraint) (b : Progress) (f : Refusal) → judge_on named rs b (ends_with (refused_at f.limit f.place.0)) ≡ came_to (Err (Refused f)) b
refused_on named rs b f = none_left named rs b (refused_at f.limit f.place.0)

-- ---- a step that is closed, and the judging of it

-- without ticks every record holds, and no word moves
pub quiet : (clocks : Clocks) (rs : List Constraint) (c : Configuration) (f : ℕ) → f ≡ 0 → broken_word rs c.words ≡ None → judged_as (Ok tt) c ≡ judged (all_ticks clocks rs c.words f) rs c
quiet clocks rs c f q inside =
    let none-ticks = ap (λ (g : ℕ). bits (completed clocks.named rs c.words g)) q ∙ ap bits (completed_none clocks.named rs c.words) ∙ bits_zero in
    sym (ap (λ (G : Ticks). judged G rs c) none-ticks ∙ judged_none rs c inside)

module _ (named : ℕ) (rs : List Constraint) (b : Progress) (s : Step) where
  abbrev F : Ticks
  F = bits (completed named rs b.configuration.words s.ticks)

  -- every record holds, and no word leaves its million: the run goes on from the configuration after it
  pub taken : (c : Configuration) → judged_as (Ok tt) c ≡ judged F rs b.configuration → (g : Reading) → judge_on named rs b (closing (Some s) g) ≡ judge_on named rs (after (b.steps + 1) c) g
  unfolding judge_on closing after_step
  taken c q g = one_step named rs g.ending b.steps b.configuration s g.steps ∙ rw (← q, add-one b.steps)

  -- it is not taken: the configuration stays, and the run is over
  stays : (r : NotHeld) (c : Configuration) → judged_as (Err r) c ≡ judged F rs b.configuration → b.configuration ≡ c
  unfolding judged
  stays r c q = go (first_failing F 1 rs b.configuration.words) (first_past 1 rs (moved F rs b.configuration.words)) q
    where
      go : (f p : Option Place)
          → judged_as (Err r) c ≡ handed_back Failed f b.configuration (handed_back PastMillion p b.configuration (record { outcome = Ok tt; configuration = record { words = moved F rs b.configuration.words } }))
          → b.configuration ≡ c
      go (Some i) p e = sym (ap (λ (j : Judged). j.configuration) e)
      go None (Some i) e = sym (ap (λ (j : Judged). j.configuration) e)
      go None None e = absurd (true≢false (ap (λ (j : Judged). is_err j.outcome) e))

  pub stopped : (r : NotHeld) (c : Configuration) → judged_as (Err r) c ≡ judged F rs b.configuration → (g : Reading) → judge_on named rs b (closing (Some s) g) ≡ came_to (Err (verdict_of rs s r)) (after b.steps c)
  unfolding judge_on closing after_step
  stopped r c q g = one_step named rs g.ending b.steps b.configuration s g.steps ∙ rw (← q, ← stays r c q) (go r)
    where
      go : (r : NotHeld) → after_step rs b.steps s (Err r) b.configuration b.configuration (λ d. judge_rest named rs g.ending (suc b.steps) d g.steps) ≡ came_to (Err (verdict_of rs s r)) b
      go (Failed p) = refl
      go (PastMillion p) = refl

  -- the words stay in range
  pub still_inside : (c : Configuration) → judged_as (Ok tt) c ≡ judged F rs b.configuration → broken_word rs b.configuration.words ≡ None → broken_word rs c.words ≡ None
  still_inside c q inside = ap (λ (j : Judged). broken_word rs j.configuration.words) q ∙ judged_in_range F rs b.configuration inside

-- ---- the table

module _ (t : List ℕ) (b : Table) (e : table.told (Ok b) ≡ table.read_table t) where
  pub is_read : (table.read_table t).said ≡ table.read
  is_read = ap (λ (x : table.Told). x.said) (sym e)

  pub is_table : (table.read_table t).table ≡ b
  is_table = ap (λ (x : table.Told). x.table) (sym e)

  pub table_passes : table.Passes b
  table_passes = rw (← is_table) (every_table_passes t is_read)

  -- the run of what was read by it
  pub table_read : (r : List ℕ) (u : UnknownNames)
      → run_of t r u ≡ ran (length (records_of b)) (judge_on (clocks_in b).named (records_of b) (after 0 (start_of b)) (reading (naming_in t b.names u) r))
  unfolding with_table judge_on
  table_read r u = rw is_read (ap (λ (d : Table). run_table d (completed_for d (reading (naming_in t d.names u) r))) is_table)

  -- with the constraints and the start in code
  pub run_is : (r : List ℕ) (u : UnknownNames) (k : Clocks) (rs : List Constraint) (c : Configuration) → k ≡ clocks_in b → rs ≡ constraints_in b → c.words ≡ start_words (slots 64 rs)
      → ran (length rs) (judge_on k.named rs (after 0 c) (reading (naming_in t b.names u) r)) ≡ run_of t r u
  run_is r u k rs c e q w =
      let s : c ≡ start_of b = ap (λ (ws : List Word). record { words = ws }) (rw q at w) in
      rw (e, q, s) (sym (table_read r u))

pub table_refused : (t r : List ℕ) (u : UnknownNames) (f : Refusal) → table.told (Err f) ≡ table.read_table t
    → run_of t r u ≡ record { said = refused (number_of f.limit) f.place.0; steps = 0; constraints = 0; configuration = zeros }
unfolding with_table
table_refused t r u f e = rw (← e)

-- ---- the recording

-- behind a header that was read stand the steps of the body
pub reading_is : (g : Naming) (r : List ℕ) (h : Header) → passed h ≡ opened g r → body_steps h.variables r None h.body ≡ reading g r
unfolding onward
reading_is g r h e = rw (← e)

-- at most 65,536 of them
pub few_steps_in : (g : Naming) (r : List ℕ) (h : Header) (at : ℕ) → passed h ≡ opened g r → length (body_steps h.variables r None (words r at)).steps ≤ 65_536
few_steps_in g r h at e = omega (arith, opened_within g r h (sym e), few_steps h.variables r at)

pub one_fewer : (s : Step) (g h : Reading) → h ≡ closing (Some s) g → length h.steps ≡ 1 + length g.steps
unfolding closing
one_fewer s g h e = ap (λ (x : Reading). length x.steps) e ∙ omega arith
