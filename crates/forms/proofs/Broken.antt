-- Limits in the order of their checks, line by line: a table that is refused is refused in one way, and is not read. Assumes nothing.
use mathlib.Core.Path.{◌≡◌, refl, sym, ap, subst, ◌∙◌}
use mathlib.Core.List.{List, [], ◌∷◌, ◌++◌, append-nil, append_assoc}
use Prim.Native.Nat.{ℕ, zero, suc, ◌+◌, ◌≤◌, ◌<◌}
use native.Mathlib.Decide.{dec_lt}
use native.Mathlib.Omega.{arith}
use lib.ListN.{length, get_or}
use Rattle.limit.specs.Limit.{number_of}
use Rattle.limit.specs.declared.Limit.{Limit}
use Rattle.limit.specs.declared.Limit.TheVariants.{LineByte, TableConstraints}
use Rattle.forms.specs.Forms.{Line, lines_of}
use Rattle.forms.specs.Lines.{line_checks, turn, Breaks, byte_outside, nested_too_deep, no_partner, fits_no_form, name_too_long, await_number_outside, delay_list_outside, name_twice, defined_above, too_many_clocks, too_many_constraints, BreaksNothing, NothingBroken, TableRefuses, too_long, by_line, TableReads}

-- ---- one line: no limit is broken whose check comes before a turn
abbrev pub Clear : List Line → Line → ℕ → Type 0
Clear above l n = (k : Limit) → turn k < n → Breaks above l k → ⊥

-- the check that has a turn
abbrev pub check_at : ℕ → Limit
check_at n = get_or line_checks n LineByte

module _ (above : List Line) (l : Line) where
  -- what a line breaks is one of the checks of a line
  pub line_limits : {m : Limit} → Breaks above l m → check_at (turn m) ≡ m
  line_limits (byte_outside s) = refl
  line_limits (nested_too_deep h) = refl
  line_limits (no_partner h) = refl
  line_limits (fits_no_form f n) = refl
  line_limits (name_too_long s) = refl
  line_limits (await_number_outside h s) = refl
  line_limits (delay_list_outside h s) = refl
  line_limits (name_twice a b d n e) = refl
  line_limits (defined_above d s) = refl
  line_limits (too_many_clocks f h) = refl
  line_limits (too_many_constraints f h) = refl

  same_turn : (m k : Limit) → check_at (turn m) ≡ m → check_at (turn k) ≡ k → turn m ≡ turn k → m ≡ k
  same_turn m k p q e = sym p ∙ ap check_at e ∙ q

  pub clear_first : Clear above l (turn LineByte)
  clear_first k h b = omega arith

  pub clear_next : (m : Limit) → check_at (turn m) ≡ m → Clear above l (turn m) → (Breaks above l m → ⊥) → Clear above l (suc (turn m))
  clear_next m e c f k h b = go (dec_lt (turn k) (turn m))
    where
      go : Dec (turn k < turn m) → ⊥
      go (yes j) = c k j b
      go (no j) = f (subst (Breaks above l) (same_turn k m (line_limits b) e (omega arith)) b)

  pub clear_last : Clear above l (suc (turn TableConstraints)) → BreaksNothing above l
  clear_last c m b = c m (last_turn b) b
    where
      last_turn : {m : Limit} → Breaks above l m → turn m < suc (turn TableConstraints)
      last_turn (byte_outside s) = omega arith
      last_turn (nested_too_deep h) = omega arith
      last_turn (no_partner h) = omega arith
      last_turn (fits_no_form f n) = omega arith
      last_turn (name_too_long s) = omega arith
      last_turn (await_number_outside h s) = omega arith
      last_turn (delay_list_outside h s) = omega arith
      last_turn (name_twice a b d n e) = omega arith
      last_turn (defined_above d s) = omega arith
      last_turn (too_many_clocks f h) = omega arith
      last_turn (too_many_constraints f h) = omega arith

  one_limit : (m k : Limit) → Breaks above l m → Clear above l (turn m) → Breaks above l k → Clear above l (turn k) → number_of m ≡ number_of k
  one_limit m k b c d e = go (dec_lt (turn m) (turn k)) (dec_lt (turn k) (turn m))
    where
      go : Dec (turn m < turn k) → Dec (turn k < turn m) → number_of m ≡ number_of k
      go (yes h) y = absurd (e m h b)
      go (no h) (yes j) = absurd (c k j d)
      go (no h) (no j) = ap number_of (same_turn m k (line_limits b) (line_limits d) (omega arith))

-- ---- lines below others: the one with the index k, from 0, breaks m first of all
abbrev pub Stops : (above lines : List Line) → Limit → ℕ → Type 0
Stops above [] m k = ⊥
Stops above (l ∷ ls) m zero = Breaks above l m × Clear above l (turn m)
Stops above (l ∷ ls) m (suc k) = BreaksNothing above l × Stops (above ++ l ∷ []) ls m k

one_stop : (above lines : List Line) (m n : Limit) (j k : ℕ) → Stops above lines m j → Stops above lines n k → (number_of m ≡ number_of n) × (j ≡ k)
one_stop above [] m n j k s q = absurd s
one_stop above (l ∷ ls) m n zero zero s q = (one_limit above l m n s.0 s.1 q.0 q.1, refl)
one_stop above (l ∷ ls) m n zero (suc k) s q = absurd (q.0 m s.0)
one_stop above (l ∷ ls) m n (suc j) zero s q = absurd (s.0 n q.0)
one_stop above (l ∷ ls) m n (suc j) (suc k) s q = let h = one_stop (above ++ l ∷ []) ls m n j k s.1 q.1 in (h.0, ap suc h.1)

never_stops : (above lines : List Line) (m : Limit) (k : ℕ) → NothingBroken above lines → Stops above lines m k → ⊥
unfolding NothingBroken
never_stops above [] m k h s = s
never_stops above (l ∷ ls) m zero h s = h.0 m s.0
never_stops above (l ∷ ls) m (suc k) h s = never_stops (above ++ l ∷ []) ls m k h.1 s.1

-- ---- such a line stands below lines that break nothing
record Parted (above lines : List Line) (m : Limit) (k : ℕ) : Type 0 where
  before : List Line
  behind : List Line
  it : Line
  place : lines ≡ before ++ it ∷ behind
  held : NothingBroken above before
  broken : Breaks (above ++ before) it m
  first : Clear (above ++ before) it (turn m)
  index : length before ≡ k

parted : (above lines : List Line) (m : Limit) (k : ℕ) → Stops above lines m k → Parted above lines m k
unfolding NothingBroken
parted above [] m k s = absurd s
parted above (l ∷ ls) m zero s = record { before = []; behind = ls; it = l; place = refl; held = tt; broken = rw append-nil s.0; first = rw append-nil s.1; index = refl }
parted above (l ∷ ls) m (suc k) s =
    let h = parted (above ++ l ∷ []) ls m k s.1 in
    record {
      before = l ∷ h.before;
      behind = h.behind;
      it = h.it;
      place = ap (λ (ks : List Line). l ∷ ks) h.place;
      held = (s.0, h.held);
      broken = rw append_assoc at h.broken;
      first = rw append_assoc at h.first;
      index = ap suc h.index;
    }

stops_there : (above before behind : List Line) (l : Line) (m : Limit) → NothingBroken above before → Breaks (above ++ before) l m → Clear (above ++ before) l (turn m) → Stops above (before ++ l ∷ behind) m (length before)
unfolding NothingBroken
stops_there above [] behind l m h b c = (rw append-nil at b, rw append-nil at c)
stops_there above (x ∷ before) behind l m h b c = (h.0, stops_there (above ++ x ∷ []) before behind l m h.1 (rw append_assoc b) (rw append_assoc c))

-- ---- the table
pub stops_refuses : (t : List ℕ) → length t ≤ 4_096 → (m : Limit) (k : ℕ) → Stops [] (lines_of t) m k → TableRefuses t (number_of m) (1 + k)
stops_refuses t h m k s =
    let p = parted [] (lines_of t) m k s in
    let e : length p.before + 1 ≡ 1 + k = omega (arith, p.index) in
    rw (← e) (by_line p.before p.behind p.it h p.place p.held p.broken p.first)

module _ (t : List ℕ) where
  by_line_stops : (above below : List Line) (l : Line) (m : Limit) → lines_of t ≡ above ++ l ∷ below → NothingBroken [] above → Breaks above l m → Clear above l (turn m) → Stops [] (lines_of t) m (length above)
  by_line_stops above below l m e h b c = rw e (stops_there [] above below l m h b c)

  pub refused_once : {n p m q : ℕ} → TableRefuses t n p → TableRefuses t m q → (n ≡ m) × (p ≡ q)
  refused_once (too_long h) (too_long k) = (refl, refl)
  refused_once (too_long h) (by_line above below l s e d b c) = absurd (omega arith)
  refused_once (by_line above below l s e d b c) (too_long h) = absurd (omega arith)
  refused_once (by_line above below l {m = m} s e d b c) (by_line above' below' l' {m = m'} s' e' d' b' c') =
      let h = one_stop [] (lines_of t) m m' (length above) (length above') (by_line_stops above below l m e d b c) (by_line_stops above' below' l' m' e' d' b' c') in
      (h.0, ap (λ (k : ℕ). k + 1) h.1)

  pub not_both : {n p : ℕ} → TableReads t → TableRefuses t n p → ⊥
  not_both r (too_long h) = omega arith
  not_both r (by_line above below l {m = m} s e d b c) = never_stops [] (lines_of t) m (length above) r.1 (by_line_stops above below l m e d b c)
