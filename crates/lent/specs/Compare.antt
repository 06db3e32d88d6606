-- Of the code's shape: the same-place question as a walk over the records, what one record adds to what is known of those before it, and the
-- answer at the end. proofs/CompareLaws shows that it comes to what SamePlace says. Assumes nothing.
use Rattle.std.specs.Prelude.{true, cond, None, ◌&&◌, List, [], ◌∷◌, ℕ, suc}
use Rattle.limit.specs.declared.Limit.TheVariants.{Records, ConfigurationWord}
use Rattle.limit.specs.declared.Place.{Place}
use Rattle.constraint.specs.Meaning.{in_range}
use Rattle.constraint.specs.SamePlace.{Answer, same, different, refuse_at, same_word, word_at}
use Rattle.constraint.specs.declared.Clocks.{Clocks}
use Rattle.constraint.specs.declared.Constraint.{Constraint}
use Rattle.constraint.specs.declared.Word.{Word}
use Rattle.lent.specs.Places.{lowest, fitted_here, unfit_at, out_at}
use Rattle.lent.specs.declared.Comparison.{Comparison}

-- before the first record
abbrev pub begins_same : Clocks → Comparison
begins_same clocks = record { clocks = clocks; earlier = 0; unfit = None; first = None; second = None; same = true }

-- what the record at place p adds, with its word w in the first configuration and v in the second
unfoldable pub compared : Comparison → (p : Place) → Constraint → (w v : Word) → Comparison
compared k p r w v = record {
  clocks = k.clocks;
  earlier = (fitted_here k.clocks k.earlier r).defined;
  unfit = lowest k.unfit (fitted_here k.clocks k.earlier r).fits p;
  first = lowest k.first (in_range r w) p;
  second = lowest k.second (in_range r v) p;
  same = k.same && same_word w v;
}

-- record by record
unfoldable pub compared_all : (i : ℕ) → Comparison → List Constraint → (first second : List Word) → Comparison
compared_all i k [] ws vs = k
compared_all i k (r ∷ rs) ws vs = compared_all (suc i) (compared k (record { 0 = suc i }) r (word_at ws i) (word_at vs i)) rs ws vs

-- the answer, after count records
unfoldable pub concluded_same : Comparison → (count : ℕ) → (first second : List Word) → Answer
concluded_same k n ws vs =
    refuse_at Records (unfit_at k.clocks k.unfit n)
    (refuse_at ConfigurationWord (out_at k.first n ws)
    (refuse_at ConfigurationWord (out_at k.second n vs)
    (cond k.same same different)))
