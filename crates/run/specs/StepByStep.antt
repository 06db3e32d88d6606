-- Of the code's shape: the run step by step, what has been judged so far, and what is left to judge. proofs/RunLaws shows that it comes to
-- what Run says. Assumes nothing.
use Rattle.std.specs.Prelude.{◌≡◌, List, ℕ, ◌+◌, Some, None, Result, Ok, Err, MatchResult}
use Rattle.limit.specs.declared.Limit.TheVariants.{Million}
use Rattle.constraint.specs.declared.Configuration.{Configuration}
use Rattle.constraint.specs.declared.Constraint.{Constraint}
use Rattle.constraint.specs.Lists.{broken_word}
use Rattle.recording.specs.Body.{Reading, closing}
use Rattle.recording.specs.declared.Step.{Step}
use Rattle.judging.specs.declared.NotHeld.{NotHeld}
use Rattle.judging.specs.declared.NotHeld.TheVariants.{Failed, PastMillion}
use Rattle.run.specs.Complete.{complete_all}
use Rattle.run.specs.Run.{Judging, judge_all, line_of, said, accepted}
use Rattle.run.specs.declared.Verdict.{Verdict}
use Rattle.run.specs.declared.whole_run.Progress.{Progress}
use Rattle.run.specs.declared.Verdict.TheVariants.{Violated, Refused}

-- the verdict on a step that is not taken
abbrev pub verdict_of : List Constraint → Step → NotHeld → Verdict
verdict_of rs s (Failed p) = Violated (record { 0 = line_of rs p }) s.time
verdict_of rs s (PastMillion p) = Refused (record { limit = Million; place = s.mark })

-- what was judged so far: the number of accepted steps, and the configuration after them
abbrev pub after : (steps : ℕ) → Configuration → Progress
after n c = record { steps = n; configuration = c }

-- what is left to complete and judge, of what was recorded, after what was judged so far
unfoldable pub judge_on : (named : ℕ) → List Constraint → Progress → Reading → Judging
judge_on named rs b g = judge_all rs b.steps b.configuration (complete_all named rs b.configuration.words g.steps) g.ending

-- how judging came to its end: at the recording's end, or before it with a verdict
abbrev pub came_to : Result (Unit {0}) Verdict → Progress → Judging
came_to (Ok u) b = record { said = accepted; steps = b.steps; configuration = b.configuration }
came_to (Err v) b = record { said = said v; steps = b.steps; configuration = b.configuration }

-- a step is judged after what was judged so far: it is accepted, and the run goes on with words in range; or the run is over
abbrev pub Takes : (named : ℕ) → List Constraint → (before : Progress) → Step → Result (Unit {0}) Verdict → (now : Progress) → Type 0
Takes named rs b s r d =
    MatchResult r
    (λ u. (broken_word rs d.configuration.words ≡ None) × (d.steps ≡ b.steps + 1) × ((g : Reading) → judge_on named rs b (closing (Some s) g) ≡ judge_on named rs d g))
    (λ v. (g : Reading) → judge_on named rs b (closing (Some s) g) ≡ came_to (Err v) d)
