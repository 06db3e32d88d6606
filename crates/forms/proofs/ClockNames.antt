-- Names in the order of first appearance: more names keep the numbers of those that are there, and two names have two numbers.
-- Assumes nothing.
use mathlib.Core.Path.{◌≡◌, refl, sym, ap, ◌∙◌}
use mathlib.Core.Bool.{Bool, true, false, cond, ◌||◌, true≢false, false≢true}
use mathlib.Core.List.{List, [], ◌∷◌, ◌++◌}
use Prim.Native.Nat.{ℕ, suc, ◌+◌, ◌≤◌, ◌<◌}
use native.Mathlib.Omega.{arith}
use lib.ListN.{length, length-append}
use Rattle.text.specs.Bytes.{same_bytes}
use Rattle.text.proofs.Bytes.{same_equal, equal_same, differ_same}
use Rattle.forms.specs.Forms.{Word, Words, Line, words_of, one_of}
use Rattle.forms.specs.Lines.{names_in, pairs_in, constraints_in, with_names, with_lines, pairs, constraints, standing}
use Rattle.forms.proofs.SomeLaws.{or_true}

pub same_turned : (a b : List ℕ) → same_bytes a b ≡ same_bytes b a
same_turned a b = go (same_bytes b a) refl
  where
    go : (x : Bool) → same_bytes b a ≡ x → same_bytes a b ≡ x
    go true e = ap (λ (u : Word). same_bytes u b) (sym (same_equal b a e)) ∙ equal_same b
    go false e = differ_same a b (λ q. true≢false (sym (equal_same a) ∙ ap (λ (u : Word). same_bytes u a) q ∙ e))

-- ---- a name among others

pub has : (us vs : Words) (w : Word) → one_of (us ++ w ∷ vs) w ≡ true
unfolding one_of
has [] vs w = rw (equal_same w)
has (u ∷ us) vs w = rw (has us vs w) (or_true (same_bytes w u))

pub found : (us : Words) (w : Word) → one_of us w ≡ true → (a : Words) × (b : Words) × (us ≡ a ++ w ∷ b)
unfolding one_of
found [] w e = absurd (false≢true e)
found (u ∷ us) w e = go (same_bytes w u) refl e (found us w)
  where
    go : (x : Bool) → same_bytes w u ≡ x → (x || one_of us w) ≡ true → (one_of us w ≡ true → (a : Words) × (b : Words) × (us ≡ a ++ w ∷ b)) → (a : Words) × (b : Words) × (u ∷ us ≡ a ++ w ∷ b)
    go true q e ih = ([], us, ap (λ (v : Word). v ∷ us) (sym (same_equal w u q)))
    go false q e ih = let h = ih e in (u ∷ h.0, h.1, ap (λ (vs : Words). u ∷ vs) h.2)

-- its number
pub standing_below : (us : Words) (w : Word) → one_of us w ≡ true → standing us w < length us
unfolding one_of standing
standing_below [] w e = absurd (false≢true e)
standing_below (u ∷ us) w e = rw (same_turned u w) (go (same_bytes w u) e (standing_below us w))
  where
    go : (x : Bool) → (x || one_of us w) ≡ true → (one_of us w ≡ true → standing us w < length us) → cond x 0 (suc (standing us w)) < suc (length us)
    go true e ih = omega arith
    go false e ih = let h : standing us w < length us = ih e in omega arith

pub standing_one : (us : Words) (v w : Word) → one_of us v ≡ true → one_of us w ≡ true → standing us v ≡ standing us w → v ≡ w
unfolding one_of standing
standing_one [] v w d e q = absurd (false≢true e)
standing_one (u ∷ us) v w d e q = go (same_bytes v u) (same_bytes w u) refl refl d e (rw (same_turned u v, same_turned u w) at q) (standing_one us v w)
  where
    go : (x y : Bool) → same_bytes v u ≡ x → same_bytes w u ≡ y → (x || one_of us v) ≡ true → (y || one_of us w) ≡ true → cond x 0 (suc (standing us v)) ≡ cond y 0 (suc (standing us w))
        → (one_of us v ≡ true → one_of us w ≡ true → standing us v ≡ standing us w → v ≡ w) → v ≡ w
    go true true a b d e q ih = same_equal v u a ∙ sym (same_equal w u b)
    go true false a b d e q ih = absurd (omega arith)
    go false true a b d e q ih = absurd (omega arith)
    go false false a b d e q ih = ih d e (omega arith)

-- ---- names that keep the numbers of others
abbrev pub Keeps : (us vs : Words) → Type 0
Keeps us vs = (w : Word) → one_of us w ≡ true → (one_of vs w ≡ true) × (standing vs w ≡ standing us w)

pub keeps_more : (us vs : Words) → Keeps us (us ++ vs)
unfolding one_of standing
keeps_more [] vs w e = absurd (false≢true e)
keeps_more (u ∷ us) vs w e = rw (same_turned u w) (go (same_bytes w u) e (keeps_more us vs w))
  where
    go : (x : Bool) → (x || one_of us w) ≡ true → (one_of us w ≡ true → (one_of (us ++ vs) w ≡ true) × (standing (us ++ vs) w ≡ standing us w))
        → ((x || one_of (us ++ vs) w) ≡ true) × (cond x 0 (suc (standing (us ++ vs) w)) ≡ cond x 0 (suc (standing us w)))
    go true e ih = (refl, refl)
    go false e ih = ((ih e).0, ap suc (ih e).1)

pub keeps_same : (us : Words) → Keeps us us
keeps_same us w e = (e, refl)

pub keeps_then : (us vs ws : Words) → Keeps us vs → Keeps vs ws → Keeps us ws
keeps_then us vs ws f g w e = let h = f w e in let k = g w h.0 in (k.0, k.1 ∙ h.1)

-- ---- the names so far with those of some words

-- with one
abbrev pub with_one : Words → Word → Words
with_one us w = cond (one_of us w) us (us ++ w ∷ [])

keeps_one : (us : Words) (w : Word) → Keeps us (with_one us w)
keeps_one us w = go (one_of us w)
  where
    go : (x : Bool) → Keeps us (cond x us (us ++ w ∷ []))
    go true = keeps_same us
    go false = keeps_more us (w ∷ [])

has_one : (us : Words) (w : Word) → one_of (with_one us w) w ≡ true
has_one us w = go (one_of us w) refl
  where
    go : (x : Bool) → one_of us w ≡ x → one_of (cond x us (us ++ w ∷ [])) w ≡ true
    go true e = e
    go false e = has us [] w

pub grows_one : (us : Words) (w : Word) → length us ≤ length (with_one us w)
grows_one us w = go (one_of us w)
  where
    go : (x : Bool) → length us ≤ length (cond x us (us ++ w ∷ []))
    go true = omega arith
    go false = simp length-append (omega arith)

pub names_keep : (us ws : Words) → Keeps us (with_names us ws)
unfolding with_names
names_keep us [] = keeps_same us
names_keep us (w ∷ ws) = keeps_then us (with_one us w) (with_names (with_one us w) ws) (keeps_one us w) (names_keep (with_one us w) ws)

pub names_grow : (us ws : Words) → length us ≤ length (with_names us ws)
unfolding with_names
names_grow us [] = omega arith
names_grow us (w ∷ ws) = omega (arith, grows_one us w, names_grow (with_one us w) ws)

-- each of them is there
abbrev pub AllOf : (us ws : Words) → Type 0
AllOf us [] = Unit {0}
AllOf us (w ∷ ws) = (one_of us w ≡ true) × AllOf us ws

pub all_left : (us vs ws : Words) → AllOf us (vs ++ ws) → AllOf us vs
all_left us [] ws a = tt
all_left us (v ∷ vs) ws a = (a.0, all_left us vs ws a.1)

pub all_right : (us vs ws : Words) → AllOf us (vs ++ ws) → AllOf us ws
all_right us [] ws a = a
all_right us (v ∷ vs) ws a = all_right us vs ws a.1

pub all_kept : (us vs ws : Words) → Keeps us vs → AllOf us ws → AllOf vs ws
all_kept us vs [] k a = tt
all_kept us vs (w ∷ ws) k a = ((k w a.0).0, all_kept us vs ws k a.1)

pub names_have : (us ws : Words) → AllOf (with_names us ws) ws
unfolding with_names
names_have us [] = tt
names_have us (w ∷ ws) = ((names_keep (with_one us w) ws w (has_one us w)).0, names_have (with_one us w) ws)

-- ---- of lines, the last of which is l
pub lines_keep : (us : Words) (ls : List Line) → Keeps us (with_lines us ls)
unfolding with_lines
lines_keep us [] = keeps_same us
lines_keep us (l ∷ ls) = keeps_then us (with_names us (names_in (words_of l))) (with_lines (with_names us (names_in (words_of l))) ls) (names_keep us (names_in (words_of l))) (lines_keep (with_names us (names_in (words_of l))) ls)

pub names_more : (us : Words) (ls : List Line) (l : Line) → with_lines us (ls ++ l ∷ []) ≡ with_names (with_lines us ls) (names_in (words_of l))
unfolding with_lines
names_more us [] l = refl
names_more us (k ∷ ls) l = names_more (with_names us (names_in (words_of k))) ls l

pub constraints_more : (ls : List Line) (l : Line) → constraints (ls ++ l ∷ []) ≡ constraints ls + constraints_in (words_of l)
unfolding constraints
constraints_more [] l = omega arith
constraints_more (k ∷ ls) l = omega (arith, constraints_more ls l)

pub pairs_more : (ls : List Line) (l : Line) → pairs (ls ++ l ∷ []) ≡ pairs ls + pairs_in (words_of l)
unfolding pairs
pairs_more [] l = omega arith
pairs_more (k ∷ ls) l = omega (arith, pairs_more ls l)
