-- What the other crates cite of a constraint's meaning, beside `Named` (a form looks only at the clocks that it names) and
-- `TickSets` (tick sets as numbers): the empty tick set, start words, and where the next word lies. Assumes nothing.
use mathlib.Core.Path.{◌≡◌, refl, sym, ap, subst}
use mathlib.Core.List.{List}
use mathlib.Core.Logic.{◌⊎◌, inl, inr}
use mathlib.Core.Bool.{Bool, true, false, not, cond, ◌&&◌, ◌||◌, and-false, or-true, true≢false, false≢true}
use Prim.Native.Nat.{ℕ, zero, suc, ◌/◌, ◌<◌, ◌≤◌}
use native.Mathlib.Decide.{dec_lt}
use native.Mathlib.Omega.{arith}
use borrow.Author.Tests.{leb-true, le-leb}
use lib.Dec.{leb}
use lib.IntN.{ℤ, pos, negsuc}
use lib.ListN.{length, get_or}
use Rattle.constraint.specs.Meaning.{word, positive, above, is, planned, delayed, due, holds_when, counter_of, awaited, counter_range, fits, Keep, Zero, One, tally, change, moved, holds, next_word, start, in_range}
use Rattle.constraint.specs.Pairs.{together}
use Rattle.constraint.specs.Ticks.{Ticks, none, with_tick}
use Rattle.constraint.specs.declared.Constraint.{Constraint}
use Rattle.constraint.specs.declared.Counter.{Counter}
use Rattle.constraint.specs.declared.Counter.TheVariants.{Fixed, Gap, Lead, Countdown, StrictSample, Sample, Until, Pending}
use Rattle.constraint.specs.declared.Definition.{Definition}
use Rattle.constraint.specs.declared.Definition.TheVariants.{Union, Inter, Lub, Glb, Await, StrictlySampled, Sampled, Upto, Deferred}
use Rattle.constraint.specs.declared.Kind.{Kind}
use Rattle.constraint.specs.declared.Kind.TheVariants.{Empty, Relates, Defines}
use Rattle.constraint.specs.declared.Relation.TheVariants.{Coincides, Excludes, SubClock, StrictlyPrecedes, Precedes}
use Rattle.constraint.specs.declared.Word.{Word}
use Rattle.constraint.proofs.Booleans.{and_l, and_r}
use Rattle.constraint.proofs.Delay.{number_left, plan_small}
use Rattle.constraint.proofs.Words.{lone, delay_word}

-- ---- the empty tick set holds in every form and moves no word

pub due_none : (k : Definition) (w : Word) → due k w false false ≡ false
due_none Union w = refl
due_none Inter w = refl
due_none Lub w = simp and-false
due_none Glb w = simp and-false
due_none (Await n) w = simp and-false
due_none StrictlySampled w = simp and-false
due_none Sampled w = simp and-false
due_none Upto w = simp and-false
due_none (Deferred ns) w = refl

holds_none_when : (k : Kind) (w : Word) → holds_when k w false false false ≡ true
holds_none_when Empty w = refl
holds_none_when (Relates Coincides) w = refl
holds_none_when (Relates Excludes) w = refl
holds_none_when (Relates SubClock) w = refl
holds_none_when (Relates StrictlyPrecedes) w = or-true (above w)
holds_none_when (Relates Precedes) w = or-true (above w)
holds_none_when (Defines k) w = rw (due_none k w)

moved_none : (k : Counter) (w : Word) → moved (change k w false false) w ≡ w
moved_none Fixed w = refl
moved_none Gap w = refl
moved_none Lead w = refl
moved_none (Countdown n) w = simp and-false
moved_none StrictSample w = simp and-false
moved_none Sample w = simp and-false
moved_none Until w = simp and-false
moved_none (Pending ns) w = refl

pub holds_none : (r : Constraint) (w : Word) → holds r w none ≡ true
holds_none r w = holds_none_when r.kind w

pub next_none : (r : Constraint) (w : Word) → next_word r w none ≡ w
next_none r w = moved_none (counter_of r.kind) w

-- ---- start words are in range

-- a first word of at most top, and 0
at_most_lem : (top m : ℕ) → ((leb 0 m && leb m top) && true) ≡ true → m ≤ top
at_most_lem top m e = leb-true m top (and_r (leb 0 m) _ (and_l _ _ e))

in_most : (top m : ℕ) → m ≤ top → ((leb 0 m && leb m top) && true) ≡ true
in_most top m h = rw (le-leb 0 m (omega arith), le-leb m top h) refl

start_fits : (k : Counter) → fits (counter_range k) (word (counter_range k).start) ≡ true
start_fits Fixed = refl
start_fits Gap = refl
start_fits Lead = refl
start_fits (Countdown n) = in_most (awaited n) (awaited n) (omega arith)
start_fits StrictSample = refl
start_fits Sample = refl
start_fits Until = refl
start_fits (Pending ns) = rw (le-leb 0 (length ns) (omega arith)) refl

pub start_in_range : (r : Constraint) → in_range r (start r) ≡ true
start_in_range r = start_fits (counter_of r.kind)

-- ---- where a record holds from a word in range, the next word is in range, or passes a million by one

-- past a million by one: of the four forms with a million alone
abbrev pub Past : Counter → Word → Type 0
Past Fixed w = ⊥
Past Gap w = w ≡ word (pos 1_000_001)
Past Lead w = (w ≡ word (pos 1_000_001)) ⊎ (w ≡ word (negsuc 1_000_000))
Past (Countdown n) w = ⊥
Past StrictSample w = ⊥
Past Sample w = ⊥
Past Until w = ⊥
Past (Pending ns) w = ⊥

abbrev Lands : Counter → Word → Type 0
Lands k w = (fits (counter_range k) w ≡ true) ⊎ Past k w

-- what is so of a word with 0 behind it is so of one in the range of a counter that has one word
of_first : (k : Counter) (P : Word → Type 0) (w : Word) → (counter_range k).most_used ≡ pos 0 → fits (counter_range k) w ≡ true → (fits (counter_range k) (word w.first) ≡ true → P (word w.first)) → P w
of_first k P w o e f =
    let x = lone (counter_range k) w o e in
    subst P (sym x) (f (subst (λ (v : Word). fits (counter_range k) v ≡ true) x e))

gap_next : (a b : Bool) (z : ℤ) → fits (counter_range Gap) (word z) ≡ true → (a ≡ false → b ≡ true → positive z ≡ true) → Lands Gap (moved (tally a b) (word z))
gap_next true true z e h = inl e
gap_next false false z e h = inl e
gap_next true false (pos m) e h = go (dec_lt m 1_000_000)
  where
    go : Dec (m < 1_000_000) → Lands Gap (word (pos (suc m)))
    go (yes p) = inl (in_most 1_000_000 (suc m) p)
    go (no p) = inr (ap (λ (i : ℕ). word (pos i)) (omega (arith, at_most_lem 1_000_000 m e)))
gap_next true false (negsuc m) e h = absurd (false≢true e)
gap_next false true (pos zero) e h = absurd (false≢true (h refl refl))
gap_next false true (pos (suc m)) e h = inl (in_most 1_000_000 m (omega (arith, at_most_lem 1_000_000 (suc m) e)))
gap_next false true (negsuc m) e h = absurd (false≢true e)

lead_next : (a b : Bool) (z : ℤ) → fits (counter_range Lead) (word z) ≡ true → Lands Lead (moved (tally a b) (word z))
lead_next true true z e = inl e
lead_next false false z e = inl e
lead_next true false (pos m) e = go (dec_lt m 1_000_000)
  where
    go : Dec (m < 1_000_000) → Lands Lead (word (pos (suc m)))
    go (yes p) = inl (rw (le-leb (suc m) 1_000_000 p) refl)
    go (no p) = inr (inl (ap (λ (i : ℕ). word (pos i)) (omega (arith, leb-true m 1_000_000 (and_l _ _ e)))))
lead_next true false (negsuc zero) e = inl refl
lead_next true false (negsuc (suc m)) e = inl (rw (le-leb m 999_999 (omega (arith, leb-true (suc m) 999_999 (and_l _ _ (and_l _ _ e))))) refl)
lead_next false true (pos zero) e = inl refl
lead_next false true (pos (suc m)) e = inl (rw (le-leb m 1_000_000 (omega (arith, leb-true (suc m) 1_000_000 (and_l _ _ e)))) refl)
lead_next false true (negsuc m) e = go (dec_lt m 999_999)
  where
    go : Dec (m < 999_999) → Lands Lead (word (negsuc (suc m)))
    go (yes p) = inl (rw (le-leb (suc m) 999_999 p) refl)
    go (no p) = inr (inr (ap (λ (i : ℕ). word (negsuc i)) (omega (arith, leb-true m 999_999 (and_l _ _ (and_l _ _ e))))))

countdown_next : (n : ℕ) (a b : Bool) (z : ℤ) → fits (counter_range (Countdown n)) (word z) ≡ true → Lands (Countdown n) (moved (change (Countdown n) (word z) a b) (word z))
countdown_next n true b (pos zero) e = inl e
countdown_next n true b (pos (suc m)) e = inl (in_most (awaited n) m (omega (arith, at_most_lem (awaited n) (suc m) e)))
countdown_next n true b (negsuc m) e = inl e
countdown_next n false b z e = rw (and-false (positive z)) (inl e)

-- the sampling counters and upto: a change leads to 0 or to 1
strict_next : (p q : Bool) (z : ℤ) → fits (counter_range StrictSample) (word z) ≡ true → Lands StrictSample (moved (cond p One (cond q Zero Keep)) (word z))
strict_next true q z e = inl refl
strict_next false true z e = inl refl
strict_next false false z e = inl e

sample_next : (o p q : Bool) (z : ℤ) → fits (counter_range Sample) (word z) ≡ true → Lands Sample (moved (cond o Zero (cond p One (cond q Zero Keep))) (word z))
sample_next true p q z e = inl refl
sample_next false true q z e = inl refl
sample_next false false true z e = inl refl
sample_next false false false z e = inl e

until_next : (q : Bool) (z : ℤ) → fits (counter_range Until) (word z) ≡ true → Lands Until (moved (cond q Zero Keep) (word z))
until_next true z e = inl refl
until_next false z e = inl e

-- precedence allows b without a only above 0
b_alone : (x a b : Bool) → (x || (not b || a)) ≡ true → a ≡ false → b ≡ true → x ≡ true
b_alone true a b e p q = refl
b_alone false true b e p q = absurd (true≢false p)
b_alone false false true e p q = e
b_alone false false false e p q = q

b_strictly : (x a b : Bool) → (x || not b) ≡ true → a ≡ false → b ≡ true → x ≡ true
b_strictly true a b e p q = refl
b_strictly false a true e p q = e
b_strictly false a false e p q = q

-- a delay: the pending ticks stay 32 bits, and a number is used only where one is left
module _ (ns : List ℕ) where
  in_pending : (p u : ℕ) → p < 4294967296 → u ≤ length ns → fits (counter_range (Pending ns)) (together p u) ≡ true
  in_pending p u h g = rw (le-leb 0 p (omega arith), le-leb p 4294967295 (omega arith), le-leb 0 u (omega arith), le-leb u (length ns) g) refl

  plan_next : (m p u : ℕ) → p < 4294967296 → u ≤ length ns → (0 < m → u < length ns) → fits (counter_range (Pending ns)) (planned m (together p u)) ≡ true
  plan_next zero p u h g f = in_pending p u h g
  plan_next (suc k) p u h g f = in_pending (with_tick p k) (suc u) (plan_small p k h) (f (omega arith))

  step_next : (a b : Bool) (p u : ℕ) → p < 4294967296 → u ≤ length ns → fits (counter_range (Pending ns)) (delayed ns (together p u) a b) ≡ true
  step_next a true p u h g = plan_next (cond a (get_or ns u 0) 0) (p / 2) u (omega arith) g (number_left a ns u)
  step_next a false p u h g = plan_next (cond a (get_or ns u 0) 0) p u h g (number_left a ns u)

  pending_next : (a b : Bool) (w : Word) → fits (counter_range (Pending ns)) w ≡ true → fits (counter_range (Pending ns)) (delayed ns w a b) ≡ true
  pending_next a b w e =
      let d = delay_word ns w e in
      subst (λ (v : Word). fits (counter_range (Pending ns)) (delayed ns v a b) ≡ true) (sym d.whole) (step_next a b d.pending d.used d.small d.few)

next_lands : (k : Kind) (w : Word) (a b c : Bool) → fits (counter_range (counter_of k)) w ≡ true → holds_when k w a b c ≡ true → Lands (counter_of k) (moved (change (counter_of k) w a b) w)
next_lands Empty w a b c e h = inl e
next_lands (Relates Coincides) w a b c e h = inl e
next_lands (Relates Excludes) w a b c e h = inl e
next_lands (Relates SubClock) w a b c e h = inl e
next_lands (Relates StrictlyPrecedes) w a b c e h = of_first Gap (λ v. Lands Gap (moved (tally a b) v)) w refl e (λ f. gap_next a b w.first f (b_strictly (above w) a b h))
next_lands (Relates Precedes) w a b c e h = of_first Gap (λ v. Lands Gap (moved (tally a b) v)) w refl e (λ f. gap_next a b w.first f (b_alone (above w) a b h))
next_lands (Defines Union) w a b c e h = inl e
next_lands (Defines Inter) w a b c e h = inl e
next_lands (Defines Lub) w a b c e h = of_first Lead (λ v. Lands Lead (moved (tally a b) v)) w refl e (lead_next a b w.first)
next_lands (Defines Glb) w a b c e h = of_first Lead (λ v. Lands Lead (moved (tally a b) v)) w refl e (lead_next a b w.first)
next_lands (Defines (Await n)) w a b c e h = of_first (Countdown n) (λ v. Lands (Countdown n) (moved (change (Countdown n) v a b) v)) w refl e (countdown_next n a b w.first)
next_lands (Defines StrictlySampled) w a b c e h =
    of_first StrictSample (λ v. Lands StrictSample (moved (change StrictSample w a b) v)) w refl e (strict_next (is 2 w && a) (is 1 w && b) w.first)
next_lands (Defines Sampled) w a b c e h =
    of_first Sample (λ v. Lands Sample (moved (change Sample w a b) v)) w refl e (sample_next (is 2 w && (a && b)) (is 2 w && a) (is 1 w && b) w.first)
next_lands (Defines Upto) w a b c e h = of_first Until (λ v. Lands Until (moved (change Until w a b) v)) w refl e (until_next (is 1 w && b) w.first)
next_lands (Defines (Deferred ns)) w a b c e h = inl (pending_next ns a b w e)

pub next_in_range : (r : Constraint) (w : Word) (F : Ticks) → in_range r w ≡ true → holds r w F ≡ true → (in_range r (next_word r w F) ≡ true) ⊎ Past (counter_of r.kind) (next_word r w F)
next_in_range r w F e h = next_lands r.kind w _ _ _ e h
