-- Tests of words, one by one; and the lines of a text. Assumes nothing.
use mathlib.Core.Path.{◌≡◌, sym, ap, ◌∙◌}
use mathlib.Core.Bool.{Bool, true, false, cond, ◌&&◌, ◌||◌, or-true, or_assoc, and-or_distrib_left}
use mathlib.Core.List.{List, [], ◌∷◌}
use Prim.Native.Nat.{ℕ, ◌+◌, ◌≤◌, ◌<◌}
use native.Mathlib.Decide.{dec_lt}
use native.Mathlib.Omega.{arith}
use borrow.Author.Tests.{le-leb, lt-leb}
use lib.Dec.{leb}
use lib.ListN.{length, drop}
use Rattle.text.specs.Bytes.{in_class, passes}
use Rattle.text.specs.Split.{span, pieces_at, run_end}
use Rattle.text.specs.declared.Class.TheVariants.{Newline}
use Rattle.text.proofs.Runs.{piece_more, piece_last}
use Rattle.text.specs.declared.Span.{Span}
use Rattle.table.specs.Answers.{lines_from, either, flaws_of, word_flaws}
use Rattle.table.specs.Reader.{any_word, long_name, bad_number, bad_list, twice}
use Rattle.table.specs.declared.Flaws.{Flaws}

-- ---- a test of some word
module _ (p : Span → List Span → Bool) (w : Span) (us : List Span) where
  pub any_stop : p w us ≡ true → any_word p (w ∷ us) ≡ true
  unfolding any_word
  any_stop q = rw q

  pub any_more : any_word p us ≡ true → any_word p (w ∷ us) ≡ true
  unfolding any_word
  any_more q = rw q (or-true (p w us))

-- the four tests in one walk
pub flaws_on : (t : List ℕ) (ask : Bool) (f : Flaws) (w : Span) (us : List Span) → either (either f (word_flaws t ask w us)) (flaws_of t ask us) ≡ either f (flaws_of t ask (w ∷ us))
unfolding any_word
flaws_on t ask f w us = λ i. record {
  long = or_assoc f.long (long_name t w us) (any_word (long_name t) us) i;
  bad = or_assoc f.bad (bad_number t w us) (any_word (bad_number t) us) i;
  list = or_assoc f.list (bad_list t w us) (any_word (bad_list t) us) i;
  twice = (or_assoc f.twice (ask && twice t w us) (ask && any_word (twice t) us) ∙ ap (λ (x : Bool). f.twice || x) (sym (and-or_distrib_left ask (twice t w us) (any_word (twice t) us)))) i;
}

-- ---- lines
pub one_line : (t : List ℕ) (at e : ℕ) → at ≤ length t → e ≡ run_end (passes Newline false) at (drop at t) → lines_from t at ≡ span at e ∷ lines_from t (e + 1)
one_line t at e h q = rw (le-leb at (length t) h) (go (dec_lt e (length t)))
  where
    go : Dec (e < length t) → pieces_at (in_class Newline) t at ≡ span at e ∷ cond (leb (e + 1) (length t)) (pieces_at (in_class Newline) t (e + 1)) []
    go (yes k) = rw (le-leb (e + 1) (length t) (omega arith)) (piece_more (in_class Newline) t at e q k)
    go (no k) = rw (lt-leb (e + 1) (length t) (omega arith)) (piece_last (in_class Newline) t at e q (omega arith))
