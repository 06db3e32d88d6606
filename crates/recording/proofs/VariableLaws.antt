-- Ids as numbers, which tell ids of up to 4 bytes apart, and the look-ups of ids and clocks, unfolded by one variable from an index on.
-- Assumes nothing.
use Rattle.std.specs.Prelude.{Some, None}
use Rattle.std.specs.List.{list_any}
use mathlib.Core.Path.{◌≡◌, refl, sym, ap, ◌∙◌}
use mathlib.Core.Bool.{Bool, true, false, cond, ◌||◌}
use mathlib.Core.List.{List, [], ◌∷◌, ◌++◌, map}
use Prim.Native.Nat.{ℕ, zero, suc, ◌+◌, ◌-◌, ◌*◌, ◌/◌, ◌%◌, ◌≤◌, ◌<◌, min}
use native.Mathlib.Numerals.{add-one}
use native.Mathlib.Omega.{arith}
use borrow.Author.Tests.{eqb-true, eqb-false, ltb-false, eq-eqb, ne_eqb, ltb-true, lt-ltb, le-leb, lt-leb}
use lib.Dec.{eqb, ltb}
use lib.ListN.{length, take, drop, get_or, set, replicate}
use lib.Seq.{drop-nil, get_or-set_same, get_or-set_other}
use Rattle.constraint.proofs.Booleans.{and_l, and_r}
use Rattle.text.specs.Bytes.{all_bytes, same_bytes}
use Rattle.text.proofs.Bytes.{same_equal, equal_same}
use Rattle.recording.specs.Variables.{Variable, with_id, look_up, has_clock, all_declared}
use Rattle.recording.specs.Index.{code_of, digit_of, Bytes, bytes_of_code, variables_of, declared, bucket_of, Starts, starting, starts_with, fields}
use Rattle.recording.specs.declared.variables.Variables.TheInside.{Inside}

-- ---- ids as numbers

pub code_digits : (w : List ℕ) → length w ≤ 4
    → digit_of (drop 0 w) + 256 * (digit_of (drop 1 w) + 256 * (digit_of (drop 2 w) + 256 * digit_of (drop 3 w))) ≡ code_of w
unfolding code_of
code_digits [] h = refl
code_digits (a ∷ []) h = omega arith
code_digits (a ∷ b ∷ []) h = omega arith
code_digits (a ∷ b ∷ c ∷ []) h = omega arith
code_digits (a ∷ b ∷ c ∷ d ∷ []) h = omega arith
code_digits (a ∷ b ∷ c ∷ d ∷ e ∷ w) h = absurd (omega arith)

byte : (b : ℕ) (bs : List ℕ) → b + 1 ≤ 256 → Bytes bs → Bytes (b ∷ bs)
unfolding all_bytes
byte b bs h t = rw (lt-ltb b 256 (omega arith)) t

no_bytes : Bytes []
unfolding all_bytes
no_bytes = refl

pub bytes_digits : (w : List ℕ) → length w ≤ 4
    → digit_of (drop 0 w) ≤ 256 → digit_of (drop 1 w) ≤ 256 → digit_of (drop 2 w) ≤ 256 → digit_of (drop 3 w) ≤ 256 → Bytes w
bytes_digits [] h p q r s = no_bytes
bytes_digits (a ∷ []) h p q r s = byte a [] p no_bytes
bytes_digits (a ∷ b ∷ []) h p q r s = byte a _ p (byte b [] q no_bytes)
bytes_digits (a ∷ b ∷ c ∷ []) h p q r s = byte a _ p (byte b _ q (byte c [] r no_bytes))
bytes_digits (a ∷ b ∷ c ∷ d ∷ []) h p q r s = byte a _ p (byte b _ q (byte c _ r (byte d [] s no_bytes)))
bytes_digits (a ∷ b ∷ c ∷ d ∷ e ∷ w) h p q r s = absurd (omega arith)

-- the number of an id stands for it
pub code_back : (n : ℕ) (w : List ℕ) → length w ≤ n → Bytes w → bytes_of_code n (code_of w) ≡ w
unfolding bytes_of_code code_of all_bytes
code_back zero [] h t = refl
code_back zero (b ∷ bs) h t = absurd (omega arith)
code_back (suc n) [] h t = refl
code_back (suc n) (b ∷ bs) h t =
    let p : b < 256 = ltb-true b 256 (and_l (ltb b 256) _ t) in
    let s : b + 1 + 256 * code_of bs ≡ suc (b + 256 * code_of bs) = omega arith in
    let m : (b + 256 * code_of bs) % 256 ≡ b = omega arith in
    let d : (b + 256 * code_of bs) / 256 ≡ code_of bs = omega arith in
    rw (s, m, d, code_back n bs (omega arith) (and_r (ltb b 256) _ t))

-- and the id of a number has that number, unless it was cut
code_forth : (n c : ℕ) → length (bytes_of_code n c) < n → code_of (bytes_of_code n c) ≡ c
unfolding bytes_of_code code_of
code_forth zero c h = absurd (omega arith)
code_forth (suc n) zero h = refl
code_forth (suc n) (suc c) h = let e : code_of (bytes_of_code n (c / 256)) ≡ c / 256 = code_forth n (c / 256) (omega arith) in rw e (omega arith)

-- so comparing numbers is comparing ids
pub same_code : (c : ℕ) (w : List ℕ) → length w ≤ 4 → Bytes w → same_bytes (bytes_of_code 5 c) w ≡ eqb c (code_of w)
same_code c w h t = go (same_bytes (bytes_of_code 5 c) w) (eqb c (code_of w)) refl refl
  where
    go : (x y : Bool) → same_bytes (bytes_of_code 5 c) w ≡ x → eqb c (code_of w) ≡ y → same_bytes (bytes_of_code 5 c) w ≡ eqb c (code_of w)
    go true true p q = p ∙ sym q
    go false false p q = p ∙ sym q
    go true false p q =
        let s : bytes_of_code 5 c ≡ w = same_equal (bytes_of_code 5 c) w p in
        let l : length (bytes_of_code 5 c) ≡ length w = ap (λ (x : List ℕ). length x) s in
        p ∙ sym (eq-eqb _ _ (sym (code_forth 5 c (omega arith)) ∙ ap code_of s))
    go false true p q =
        let s : c ≡ code_of w = eqb-true _ _ q in
        ap (λ (x : List ℕ). same_bytes x w) (ap (bytes_of_code 5) s ∙ code_back 5 w (omega arith) t) ∙ (equal_same w ∙ sym q)

-- ---- the variables from an index on

pub variables_next : (n : ℕ) (cs ks : List ℕ) (i : ℕ) → i < n → n ≤ length cs → n ≤ length ks
    → drop i (variables_of n cs ks) ≡ record { id = bytes_of_code 5 (get_or cs i 0); clock = get_or ks i 0 } ∷ drop (i + 1) (variables_of n cs ks)
unfolding variables_of
variables_next n cs ks i h p q = rw (add-one i) (go n cs ks i h p q)
  where
    go : (n : ℕ) (cs ks : List ℕ) (i : ℕ) → i < n → n ≤ length cs → n ≤ length ks
        → drop i (variables_of n cs ks) ≡ record { id = bytes_of_code 5 (get_or cs i 0); clock = get_or ks i 0 } ∷ drop (suc i) (variables_of n cs ks)
    go zero cs ks i h p q = absurd (omega arith)
    go (suc n) [] ks i h p q = absurd (omega arith)
    go (suc n) (c ∷ cs) [] i h p q = absurd (omega arith)
    go (suc n) (c ∷ cs) (k ∷ ks) zero h p q = refl
    go (suc n) (c ∷ cs) (k ∷ ks) (suc i) h p q = go n cs ks i (omega arith) (omega arith) (omega arith)

pub variables_done : (n : ℕ) (cs ks : List ℕ) (i : ℕ) → n ≤ i → drop i (variables_of n cs ks) ≡ []
unfolding variables_of
variables_done zero cs ks i h = drop-nil i
variables_done (suc n) cs ks zero h = absurd (omega arith)
variables_done (suc n) [] ks (suc i) h = refl
variables_done (suc n) (c ∷ cs) [] (suc i) h = refl
variables_done (suc n) (c ∷ cs) (k ∷ ks) (suc i) h = variables_done n cs ks i (omega arith)

pub length_variables : (n : ℕ) (cs ks : List ℕ) → n ≤ length cs → n ≤ length ks → length (variables_of n cs ks) ≡ n
unfolding variables_of
length_variables zero cs ks p q = refl
length_variables (suc n) [] ks p q = absurd (omega arith)
length_variables (suc n) (c ∷ cs) [] p q = absurd (omega arith)
length_variables (suc n) (c ∷ cs) (k ∷ ks) p q = ap suc (length_variables n cs ks (omega arith) (omega arith))

-- one variable more
pub variables_more : (n : ℕ) (cs ks : List ℕ) (c k : ℕ) → n < length cs → n < length ks
    → variables_of (n + 1) (set cs n c) (set ks n k) ≡ variables_of n cs ks ++ record { id = bytes_of_code 5 c; clock = k } ∷ []
unfolding variables_of
variables_more n cs ks c k p q = rw (add-one n) (go n cs ks p q)
  where
    go : (n : ℕ) (cs ks : List ℕ) → n < length cs → n < length ks
        → variables_of (suc n) (set cs n c) (set ks n k) ≡ variables_of n cs ks ++ record { id = bytes_of_code 5 c; clock = k } ∷ []
    go n [] ks p q = absurd (omega arith)
    go n (x ∷ cs) [] p q = absurd (omega arith)
    go zero (x ∷ cs) (y ∷ ks) p q = refl
    go (suc n) (x ∷ cs) (y ∷ ks) p q = ap (λ (vs : List Variable). record { id = bytes_of_code 5 x; clock = y } ∷ vs) (go n cs ks (omega arith) (omega arith))

pub code_kept : (c : ℕ) (id : List ℕ) → c ≡ code_of id → Bytes id → length id ≤ 4 → code_of (bytes_of_code 5 c) ≡ c
code_kept c id e t h = rw e (ap code_of (code_back 5 id (omega (arith, h)) t))

pub declared_more : (vs : List Variable) (id : List ℕ) (c k m : ℕ) → c ≡ code_of id → Bytes id → length id ≤ 4 → k ≡ m
    → vs ++ record { id = bytes_of_code 5 c; clock = k } ∷ [] ≡ vs ++ record { id = id; clock = m } ∷ []
declared_more vs id c k m e t h q = rw (e, code_back 5 id (omega arith) t, q)

module _ (n : ℕ) (cs ks : List ℕ) (i : ℕ) where
  -- the search for an id
  module _ (w : List ℕ) where
    pub id_done : n ≤ i → with_id (drop i (variables_of n cs ks)) w ≡ None
    unfolding with_id
    id_done h = rw (variables_done n cs ks i h)

    module _ (h : i < n) (p : n ≤ length cs) (q : n ≤ length ks) (short : length w ≤ 4) (t : Bytes w) where
      id_turn : with_id (drop i (variables_of n cs ks)) w ≡ cond (eqb (get_or cs i 0) (code_of w)) (Some (get_or ks i 0)) (with_id (drop (i + 1) (variables_of n cs ks)) w)
      unfolding with_id
      id_turn = rw (variables_next n cs ks i h p q, same_code (get_or cs i 0) w short t)

      pub id_stop : get_or cs i 0 ≡ code_of w → with_id (drop i (variables_of n cs ks)) w ≡ Some (get_or ks i 0)
      id_stop e = id_turn ∙ rw (eq-eqb _ _ e)

      pub id_on : (get_or cs i 0 ≡ code_of w → ⊥) → with_id (drop i (variables_of n cs ks)) w ≡ with_id (drop (i + 1) (variables_of n cs ks)) w
      id_on e = id_turn ∙ rw (ne_eqb _ _ e)

-- a clock among those of the variables
pub clock_among : (n : ℕ) (cs ks : List ℕ) (k : ℕ) → n ≤ length cs → n ≤ length ks → list_any (λ y. eqb y k) (take n ks) ≡ has_clock (variables_of n cs ks) k
unfolding variables_of has_clock
clock_among zero cs ks k p q = refl
clock_among (suc n) [] ks k p q = absurd (omega arith)
clock_among (suc n) (c ∷ cs) [] k p q = absurd (omega arith)
clock_among (suc n) (c ∷ cs) (y ∷ ks) k p q = ap (λ (b : Bool). eqb y k || b) (clock_among n cs ks k (omega arith) (omega arith))

module _ (vs : List Variable) (w : List ℕ) where
  pub look_long : 4 < length w → look_up vs w ≡ None
  look_long h = rw (lt-leb (length w) 4 h)

  pub look_short : length w ≤ 4 → look_up vs w ≡ with_id vs w
  look_short h = rw (le-leb (length w) 4 h)

-- what was found among the variables in code
pub look_of : (us vs : List Variable) (w : List ℕ) → us ≡ vs → length w ≤ 4 → with_id us w ≡ look_up vs w
look_of us vs w e h = rw (e, look_short vs w h)

-- the clocks below a number, one by one from the top
module _ (vs : List Variable) (k j : ℕ) (e : k ≡ j + 1) where
  pub all_stop : has_clock vs j ≡ false → all_declared vs k ≡ false
  unfolding all_declared
  all_stop h = rw (e, add-one j, h)

  pub all_on : has_clock vs j ≡ true → all_declared vs k ≡ all_declared vs j
  unfolding all_declared
  all_on h = rw (e, add-one j, h)

pub all_done : (vs : List Variable) (k : ℕ) → k ≡ 0 → all_declared vs k ≡ true
unfolding all_declared
all_done vs k e = rw e

-- as many as are seen are counted
pub room : (v : Inside) (vs : List Variable) → declared v ≡ vs → length (declared v) ≡ v.count → length vs < 128 → v.count < 128
room v vs e c h = omega (arith, c, ap (λ (us : List Variable). length us) e, h)

-- ---- where a search begins

-- one variable more, and a start of its bucket that is no higher than before, nor than the variable
pub starts_more : (n : ℕ) (cs ss : List ℕ) (c b s : ℕ) → n < length cs → b ≡ bucket_of c → b < length ss → s ≤ get_or ss b 0 → s ≤ n → Starts n cs ss → Starts (n + 1) (set cs n c) (set ss b s)
starts_more n cs ss c b s room is inside low last starts j high = go (eqb j n) refl
  where
    old : (i : ℕ) → get_or ss i 0 ≤ j → get_or (set ss b s) i 0 ≤ j
    old i h = pick (eqb i b) refl
      where
        pick : (x : Bool) → eqb i b ≡ x → get_or (set ss b s) i 0 ≤ j
        pick true q = let k = eqb-true i b q in rw (k, get_or-set_same ss b s 0 inside) (omega (arith, low, rw k at h))
        pick false q = rw (get_or-set_other ss b i s 0 (eqb-false i b q)) h

    go : (x : Bool) → eqb j n ≡ x → get_or (set ss b s) (bucket_of (get_or (set cs n c) j 0)) 0 ≤ j
    go true e = let k = eqb-true j n e in rw (k, get_or-set_same cs n c 0 room, ← is, get_or-set_same ss b s 0 inside) last
    go false e = let k = eqb-false j n e in rw (get_or-set_other cs n j c 0 k) (old _ (starts j (omega (arith, high, k))))

-- up to the start of its bucket no variable has the id
pub starts_skip : (n : ℕ) (cs ks ss w : List ℕ) → n ≤ length cs → n ≤ length ks → Starts n cs ss → length w ≤ 4 → Bytes w
    → (k : ℕ) → k ≤ get_or ss (bucket_of (code_of w)) 0 → with_id (drop k (variables_of n cs ks)) w ≡ with_id (variables_of n cs ks) w
starts_skip n cs ks ss w p q starts short t zero low = refl
starts_skip n cs ks ss w p q starts short t (suc k) low = go (ltb k n) refl ∙ starts_skip n cs ks ss w p q starts short t k (omega (arith, low))
  where
    differs : k < n → get_or cs k 0 ≡ code_of w → ⊥
    differs h e =
        let past : get_or ss (bucket_of (code_of w)) 0 ≤ k = rw e at (starts k h) in
        omega (arith, past, low)

    go : (y : Bool) → ltb k n ≡ y → with_id (drop (suc k) (variables_of n cs ks)) w ≡ with_id (drop k (variables_of n cs ks)) w
    go true e = let h = ltb-true k n e in rw (← add-one k) (sym (id_on n cs ks k w h p q short t (differs h)))
    go false e = let h = ltb-false k n e in id_done n cs ks (suc k) w (omega (arith, h)) ∙ sym (id_done n cs ks k w h)

-- ---- the fields that a list of variables gives

length_more : (vs : List Variable) (v : Variable) → length (vs ++ v ∷ []) ≡ length vs + 1
length_more [] v = omega arith
length_more (u ∷ us) v = omega (arith, length_more us v)

-- one number more, where there is room behind the others
number_more : (f : Variable → ℕ) (vs : List Variable) (v : Variable) (k : ℕ)
    → map f (vs ++ v ∷ []) ++ replicate k 0 ≡ set (map f vs ++ replicate (suc k) 0) (length vs) (f v)
number_more f [] v k = refl
number_more f (u ∷ us) v k = ap (λ (xs : List ℕ). f u ∷ xs) (number_more f us v k)

numbers_more : (f : Variable → ℕ) (vs : List Variable) (v : Variable) → length vs < 128
    → map f (vs ++ v ∷ []) ++ replicate (128 - length (vs ++ v ∷ [])) 0 ≡ set (map f vs ++ replicate (128 - length vs) 0) (length vs) (f v)
numbers_more f vs v h =
    let more : 128 - length vs ≡ suc (128 - length (vs ++ v ∷ [])) = omega (arith, length_more vs v, h) in
    rw more (number_more f vs v (128 - length (vs ++ v ∷ [])))

starting_on : (ss : List ℕ) (i : ℕ) (vs : List Variable) (v : Variable) → starts_with ss i (vs ++ v ∷ []) ≡ starting (starts_with ss i vs) (i + length vs) v
unfolding starts_with
starting_on ss i [] v = let none : i + 0 ≡ i = omega arith in rw none
starting_on ss i (u ∷ us) v = let on : i + suc (length us) ≡ suc i + length us = omega arith in rw on (starting_on (starting ss i u) (suc i) us v)

starting_more : (ss : List ℕ) (vs : List Variable) (v : Variable) → starts_with ss 0 (vs ++ v ∷ []) ≡ starting (starts_with ss 0 vs) (length vs) v
starting_more ss vs v = let none : 0 + length vs ≡ length vs = omega arith in rw none at (starting_on ss 0 vs v)

-- the fields with one variable more
abbrev with_one : Inside → Variable → Inside
with_one u v = record {
  ids = set u.ids u.count (code_of v.id);
  clocks = set u.clocks u.count v.clock;
  count = u.count + 1;
  starts = starting u.starts u.count v;
}

fields_more : (vs : List Variable) (v : Variable) → length vs < 128 → fields (vs ++ v ∷ []) ≡ with_one (fields vs) v
unfolding fields
fields_more vs v h = λ i. record {
  ids = numbers_more (λ (u : Variable). code_of u.id) vs v h i;
  clocks = numbers_more (λ (u : Variable). u.clock) vs v h i;
  count = length_more vs v i;
  starts = starting_more (replicate 241 128) vs v i;
}

-- what was declared gives the fields with one variable more, whose id has the number c
pub given_more : (v : Inside) (c k b s : ℕ) → v.count < 128 → v.count < length v.ids → v.count < length v.clocks → length (declared v) ≡ v.count
    → code_of (bytes_of_code 5 c) ≡ c → b ≡ bucket_of c → s ≡ min (get_or v.starts b 0) v.count → fields (declared v) ≡ v
    → fields (variables_of (v.count + 1) (set v.ids v.count c) (set v.clocks v.count k))
    ≡ record { ids = set v.ids v.count c; clocks = set v.clocks v.count k; count = v.count + 1; starts = set v.starts b s }
given_more v c k b s room inside beside counted back is low given =
    let x : Variable = record { id = bytes_of_code 5 c; clock = k } in
    ap fields (variables_more v.count v.ids v.clocks c k inside beside)
    ∙ (fields_more (declared v) x (omega (arith, counted, room))
    ∙ (ap (λ (u : Inside). with_one u x) given
    ∙ rw (back, low, is)))
