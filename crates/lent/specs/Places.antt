-- Of the code's shape: the lowest place where something is amiss; how one record fits; and limits 59 and 60, once the first 64 records are known.
-- Assumes nothing.
use Rattle.std.specs.Prelude.{Bool, true, false, cond, ◌||◌, List, [], ℕ, ◌+◌, ltb, drop, Option, Some, None, Result, Ok, Err}
use Rattle.std.specs.Option.{option_or}
use Rattle.limit.specs.declared.Limit.{Limit}
use Rattle.limit.specs.declared.Place.{Place}
use Rattle.limit.specs.declared.Refusal.{Refusal}
use Rattle.constraint.specs.Lists.{at, counts_fit, first_out}
use Rattle.constraint.specs.Look.{fitted_among, fitted}
use Rattle.constraint.specs.Meaning.{defined_of}
use Rattle.constraint.specs.Ticks.{with_ticks}
use Rattle.constraint.specs.declared.Clocks.{Clocks}
use Rattle.constraint.specs.declared.Constraint.{Constraint}
use Rattle.constraint.specs.declared.Fitted.{Fitted}
use Rattle.constraint.specs.declared.Word.{Word}

-- the lowest place at which a test fails
abbrev pub lowest : (known : Option Place) (passes : Bool) (place : Place) → Option Place
lowest known true p = known
lowest known false p = option_or known (Some p)

-- how a record fits: among the named clocks, or else among all. Where the counts of clocks fit, it fits among all in both cases
abbrev pub fitted_here : Clocks → (earlier : ℕ) → Constraint → Fitted
fitted_here clocks earlier r =
    record {
      fits = (fitted_among clocks.named earlier r).fits || (fitted clocks earlier r).fits;
      defined = with_ticks earlier (defined_of r);
    }

-- 59: a clock count over 32, and a named count above it, has place 0; the first record that does not fit; over 64 records have place 65
abbrev pub unfit_at : Clocks → (unfit : Option Place) (count : ℕ) → Option Place
unfit_at clocks unfit count = cond (counts_fit clocks) (option_or unfit (cond (ltb 64 count) (at 65) None)) (at 0)

-- 60: the first word out of range, those beyond the records among them
abbrev pub out_at : (out : Option Place) (count : ℕ) → List Word → Option Place
out_at out count ws = option_or out (first_out (count + 1) [] (drop count ws))

-- what a check says, by the place at which its limit is broken
abbrev pub refused_at : Limit → Option Place → Result (Unit {0}) Refusal
refused_at l None = Ok tt
refused_at l (Some p) = Err (record { limit = l; place = p })
