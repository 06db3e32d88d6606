-- A step works out the ticks of implicit clocks: record by record, each clock that a record names is settled once that record is reached, since
-- 59 lets a record use only named clocks and those defined above it, and no clock is defined twice. Assumes nothing.
use mathlib.Core.Path.{◌≡◌, refl, sym, ap, ◌∙◌}
use mathlib.Core.Bool.{Bool, true, false, not, cond, ◌&&◌, ◌||◌, true≢false, false≢true, or-true, or-false, and-false, beq}
use mathlib.Core.List.{List, [], ◌∷◌, ◌++◌, map}
use Prim.Native.Nat.{ℕ, zero, suc, ◌%◌, ◌^◌, ◌<◌, ◌≤◌}
use native.Mathlib.Nat.{lt_of_lt_of_le, mod-eq_of_lt}
use native.Mathlib.Omega.{arith}
use borrow.Author.Tests.{ltb-true, lt-ltb, ltb-false, eqb-true, eq-eqb}
use lib.Dec.{ltb, eqb}
use lib.Pow.{pow_mono}
use Rattle.std.specs.Prelude.{None}
use Rattle.constraint.specs.Implicit.{implied, implied_of, completed, Each, defines_implicit, ImplicitHold, EveryStepCompletes, ImplicitNeverFails}
use Rattle.constraint.specs.Lists.{all_known, first_unfit, broken_record}
use Rattle.constraint.specs.Meaning.{due, holds, defined_by, operands, defined_of, used_of, clocks_of, well_formed}
use Rattle.constraint.specs.SamePlace.{record_at}
use Rattle.constraint.specs.Ticks.{Ticks, none, any, adding_all, bits, with_ticks}
use Rattle.constraint.specs.declared.Clocks.{Clocks}
use Rattle.constraint.specs.declared.Constraint.{Constraint}
use Rattle.constraint.specs.declared.Definition.{Definition}
use Rattle.constraint.specs.declared.Kind.{Kind}
use Rattle.constraint.specs.declared.Kind.TheVariants.{Empty, Relates, Defines}
use Rattle.constraint.specs.declared.Word.{Word}
use Rattle.constraint.proofs.Booleans.{and_l, and_r, or_l, or_r}
use Rattle.constraint.proofs.Demand3.{clocks_pass, named_pass, record_passes, once_passes, used_passes, later_pass}
use Rattle.constraint.proofs.Laws.{due_none}
use Rattle.constraint.proofs.Named.{due_looks}
use Rattle.constraint.proofs.OneMore.{known_still}
use Rattle.constraint.proofs.TickSets.{with_tick_adds, with_tick_below, with_tick_high, bits_below, bits_zero}

-- ---- lists of records with their words

module _ (P : Constraint → Word → Type 0) where
  each_none : (ws : List Word) → Each P [] ws
  each_none ws i h k = absurd (omega arith)

  each_wordless : (rs : List Constraint) → Each P rs []
  each_wordless rs i h k = absurd (omega arith)

  module _ (r : Constraint) (rs : List Constraint) (w : Word) (ws : List Word) where
    each_more : P r w → Each P rs ws → Each P (r ∷ rs) (w ∷ ws)
    each_more p ps zero h k = p
    each_more p ps (suc i) h k = ps i (omega arith) (omega arith)

    each_here : Each P (r ∷ rs) (w ∷ ws) → P r w
    each_here ps = ps 0 (omega arith) (omega arith)

    each_later : Each P (r ∷ rs) (w ∷ ws) → Each P rs ws
    each_later ps i h k = ps (suc i) (omega arith) (omega arith)

-- ---- what is settled: a clock that is named, or has a definition above

abbrev settled : (n : ℕ) → Ticks → ℕ → Bool
settled n E x = ltb x n || E x

or_more : (x y z : Bool) → (x || y) ≡ true → (y ≡ true → z ≡ true) → (x || z) ≡ true
or_more true y z e f = refl
or_more false y z e f = f e

adding_more : (ks : List ℕ) (E : Ticks) (x : ℕ) → E x ≡ true → adding_all ks E x ≡ true
adding_more [] E x e = e
adding_more (k ∷ ks) E x e = rw (adding_more ks E x e)

module _ (n : ℕ) (ks : List ℕ) (E : Ticks) where
  settled_more : (x : ℕ) → settled n E x ≡ true → settled n (adding_all ks E) x ≡ true
  settled_more x e = or_more (ltb x n) (E x) (adding_all ks E x) e (adding_more ks E x)

  known_more : (is : List ℕ) → all_known n E is ≡ true → all_known n (adding_all ks E) is ≡ true
  known_more = known_still n n E (adding_all ks E) settled_more

-- the clock that a record defines is settled by it, and so are all that it names
own_settled : (n : ℕ) (E : Ticks) (c : ℕ) → settled n (adding_all (c ∷ []) E) c ≡ true
own_settled n E c = rw (eq-eqb c c refl, or-true (E c), or-true (ltb c n))

names_settled : (n : ℕ) (E : Ticks) (r : Constraint) → all_known n E (used_of r) ≡ true → all_known n (adding_all (defined_of r) E) (clocks_of r) ≡ true
names_settled n E r e = go r.kind (used_of r) (known_more n (defined_of r) E (used_of r) e)
  where
    go : (k : Kind) (is : List ℕ) → all_known n (adding_all (defined_by k r.defined) E) is ≡ true → all_known n (adding_all (defined_by k r.defined) E) (defined_by k r.defined ++ is) ≡ true
    go Empty is u = u
    go (Relates k) is u = u
    go (Defines k) is u = rw (own_settled n E r.defined, u)

-- and no other is
newly_settled : (n : ℕ) (E : Ticks) (r : Constraint) (x : ℕ) → settled n E x ≡ false → settled n (adding_all (defined_of r) E) x ≡ true → (k : Definition) × (r.kind ≡ Defines k) × (x ≡ r.defined)
newly_settled n E r x z = go r.kind
  where
    go : (k : Kind) → settled n (adding_all (defined_by k r.defined) E) x ≡ true → (d : Definition) × (k ≡ Defines d) × (x ≡ r.defined)
    go Empty u = absurd (false≢true (sym z ∙ u))
    go (Relates k) u = absurd (false≢true (sym z ∙ u))
    go (Defines k) u = (k, refl, eqb-true x r.defined (rw (or_l (ltb x n) (E x) z, or_r (ltb x n) (E x) z) at u))

-- two sets with the same ticks of what is settled have them of all clocks that are known
map_same : (n : ℕ) (E F G : Ticks) → ((x : ℕ) → settled n E x ≡ true → F x ≡ G x) → (is : List ℕ) → all_known n E is ≡ true → map F is ≡ map G is
map_same n E F G same [] e = refl
map_same n E F G same (i ∷ is) e = rw (same i (and_l (settled n E i) _ e), map_same n E F G same is (and_r (settled n E i) _ e))

-- ---- the clock that a record makes tick

-- none, or the implicit one that it defines
by_implied : (n : ℕ) (r : Constraint) (w : Word) (F : Ticks) (P : List ℕ → Type 0) → P [] → ((k : Definition) → r.kind ≡ Defines k → ltb r.defined n ≡ false → P (r.defined ∷ [])) → P (implied_of n r w F)
by_implied n r w F P z s = go r.kind refl
  where
    go : (k : Kind) → r.kind ≡ k → P (implied n k w (F r.first) (F r.second) r.defined)
    go Empty q = z
    go (Relates k) q = z
    go (Defines k) q = there (ltb r.defined n) refl (due k w (F r.first) (F r.second))
      where
        there : (t : Bool) → ltb r.defined n ≡ t → (u : Bool) → P (cond (not t && u) (r.defined ∷ []) [])
        there true e u = z
        there false e true = s k q e
        there false e false = z

implicit_is : (n : ℕ) (r : Constraint) → defines_implicit n r ≡ true → (k : Definition) × (r.kind ≡ Defines k) × (ltb r.defined n ≡ false)
implicit_is n r m = go r.kind refl
  where
    under : (t : Bool) → (not t || false) ≡ true → t ≡ false
    under true e = absurd (false≢true e)
    under false e = refl

    go : (k : Kind) → r.kind ≡ k → (d : Definition) × (r.kind ≡ Defines d) × (ltb r.defined n ≡ false)
    go Empty q = absurd (false≢true (rw q at m))
    go (Relates k) q = absurd (false≢true (rw q at m))
    go (Defines k) q = (k, q, under (ltb r.defined n) (rw q at m))

defined_below : (m : ℕ) (r : Constraint) (k : Definition) → well_formed m r ≡ true → r.kind ≡ Defines k → r.defined < m
defined_below m r k ok q = ltb-true r.defined m (and_l _ _ (and_l _ _ (and_l _ _ (rw q at ok))))

-- a record that names no other than named clocks makes none tick
pub implied_named : (n : ℕ) (r : Constraint) (w : Word) (F : Ticks) → well_formed n r ≡ true → implied_of n r w F ≡ []
implied_named n r w F ok = by_implied n r w F (λ ks. ks ≡ []) refl (λ k q p. let c : n ≤ r.defined = ltb-false _ _ p in absurd (omega (arith, defined_below n r k ok q)))

beq_same : (x : Bool) → beq x x ≡ true
beq_same true = refl
beq_same false = refl

same_beq : (x y : Bool) → beq x y ≡ true → x ≡ y
same_beq true true e = refl
same_beq true false e = absurd (false≢true e)
same_beq false true e = absurd (false≢true e)
same_beq false false e = refl

-- ---- one record, which 59 lets pass behind records that define the clocks of E
module _
    (clocks : Clocks) (room : clocks.count ≤ 32) (r : Constraint) (w : Word) (f : ℕ) (E : Ticks)
    (ok : well_formed clocks.count r ≡ true) (once : any E (defined_of r) ≡ false) (used : all_known clocks.named E (used_of r) ≡ true) where
  abbrev n : ℕ
  n = clocks.named

  abbrev next : ℕ
  next = with_ticks f (implied_of n r w (bits f))

  abbrev E' : Ticks
  E' = adding_all (defined_of r) E

  next_bits : bits next ≡ adding_all (implied_of n r w (bits f)) (bits f)
  next_bits =
      by_implied n r w (bits f) (λ ks. bits (with_ticks f ks) ≡ adding_all ks (bits f)) refl
      (λ k q p. with_tick_adds f r.defined (lt_of_lt_of_le (defined_below clocks.count r k ok q) room))

  -- an implicit clock that the record defines was not settled
  unsettled : (k : Definition) → r.kind ≡ Defines k → ltb r.defined n ≡ false → settled n E r.defined ≡ false
  unsettled k q p = rw (p, or_l (E r.defined) false (rw q at once))

  -- what is settled stays
  kept : (x : ℕ) → settled n E x ≡ true → bits next x ≡ bits f x
  kept x s = ap (λ F. F x) next_bits ∙ by_implied n r w (bits f) (λ ks. adding_all ks (bits f) x ≡ bits f x) refl (λ k q p. other k q p (eqb x r.defined) refl)
    where
      other : (k : Definition) → r.kind ≡ Defines k → ltb r.defined n ≡ false → (t : Bool) → eqb x r.defined ≡ t → (bits f x || t) ≡ bits f x
      other k q p true e = absurd (true≢false (sym s ∙ (rw (eqb-true x r.defined e) (unsettled k q p))))
      other k q p false e = or-false (bits f x)

  -- nothing ticks but what is settled
  module _ (sound : (x : ℕ) → bits f x ≡ true → settled n E x ≡ true) where
    sound_next : (x : ℕ) → bits next x ≡ true → settled n E' x ≡ true
    sound_next x e =
        by_implied n r w (bits f) (λ ks. adding_all ks (bits f) x ≡ true → settled n E' x ≡ true) (λ u. settled_more n (defined_of r) E x (sound x u))
        (λ k q p u. either k q (bits f x) refl u) (sym (ap (λ F. F x) next_bits) ∙ e)
      where
        either : (k : Definition) → r.kind ≡ Defines k → (t : Bool) → bits f x ≡ t → (t || eqb x r.defined) ≡ true → settled n E' x ≡ true
        either k q true s u = settled_more n (defined_of r) E x (sound x s)
        either k q false s u = rw (eqb-true x r.defined u, q) (own_settled n E r.defined)

    -- an implicit clock ticks exactly when it is due
    ticks_due : (k : Definition) → r.kind ≡ Defines k → ltb r.defined n ≡ false → bits next r.defined ≡ due k w (bits f r.first) (bits f r.second)
    ticks_due k q p = ap (λ F. F r.defined) next_bits ∙ rw (q, p) (go (due k w (bits f r.first) (bits f r.second)))
      where
        silent : (t : Bool) → bits f r.defined ≡ t → t ≡ false
        silent true e = absurd (true≢false (sym (sound r.defined e) ∙ unsettled k q p))
        silent false e = refl

        go : (t : Bool) → adding_all (cond t (r.defined ∷ []) []) (bits f) r.defined ≡ t
        go true = rw (eq-eqb r.defined r.defined refl) (or-true (bits f r.defined))
        go false = silent (bits f r.defined) refl

    -- the record in a set with the same ticks of what is settled: before it, and with it
    due_same : (G : Ticks) → ((x : ℕ) → settled n E x ≡ true → G x ≡ bits f x) → (k : Definition) → r.kind ≡ Defines k → ltb r.defined n ≡ false
        → due k w (G r.first) (G r.second) ≡ bits next r.defined
    due_same G same k q p = due_looks k w G (bits f) r.first r.second (map_same n E G (bits f) same (operands k r.first r.second) (rw q at used)) ∙ sym (ticks_due k q p)

    one_holds : (G : Ticks) → ((x : ℕ) → settled n E' x ≡ true → G x ≡ bits next x) → defines_implicit n r ≡ true → holds r w G ≡ true
    one_holds G same m =
        let (k, q, p) = implicit_is n r m in
        let own : settled n E' r.defined ≡ true = rw q (own_settled n E r.defined) in
        let d : due k w (G r.first) (G r.second) ≡ bits next r.defined = due_same G (λ x s. same x (settled_more n (defined_of r) E x s) ∙ kept x s) k q p in
        rw q (rw (d, same r.defined own) (beq_same (bits next r.defined)))

    one_only : (H : Ticks) → ((x : ℕ) → settled n E x ≡ true → H x ≡ bits f x) → (defines_implicit n r ≡ true → holds r w H ≡ true) → (x : ℕ) → settled n E' x ≡ true → H x ≡ bits next x
    one_only H same held x u = go (settled n E x) refl
      where
        go : (t : Bool) → settled n E x ≡ t → H x ≡ bits next x
        go true s = same x s ∙ sym (kept x s)
        go false s =
            let (k, q, e) = newly_settled n E r x s u in
            let p : ltb r.defined n ≡ false = rw (← e) (or_l (ltb x n) (E x) s) in
            let h : beq (H r.defined) (due k w (H r.first) (H r.second)) ≡ true = rw q at (held (rw (q, p))) in
            rw e (same_beq _ _ h ∙ due_same H same k q p)

-- ---- all of them
module _ (clocks : Clocks) (room : clocks.count ≤ 32) where
  abbrev n' : ℕ
  n' = clocks.named

  abbrev Holding : (G : Ticks) → Constraint → Word → Type 0
  Holding G r w = defines_implicit n' r ≡ true → holds r w G ≡ true

  abbrev Alike : (G H : Ticks) → Constraint → Word → Type 0
  Alike G H r w = map G (clocks_of r) ≡ map H (clocks_of r)

  kept_later : (rs : List Constraint) (ws : List Word) (E : Ticks) (i f : ℕ) → first_unfit clocks E i rs ≡ None → (x : ℕ) → settled n' E x ≡ true → bits (completed n' rs ws f) x ≡ bits f x
  kept_later [] ws E i f e x s = refl
  kept_later (r ∷ rs) [] E i f e x s = refl
  kept_later (r ∷ rs) (w ∷ ws) E i f e x s =
      kept_later rs ws (adding_all (defined_of r) E) (suc i) _ (later_pass clocks E i r rs e) x (settled_more n' (defined_of r) E x s)
      ∙ kept clocks room r w f E (record_passes clocks E i r rs e) (once_passes clocks E i r rs e) (used_passes clocks E i r rs e) x s

  all_hold : (rs : List Constraint) (ws : List Word) (E : Ticks) (i f : ℕ) → first_unfit clocks E i rs ≡ None → ((x : ℕ) → bits f x ≡ true → settled n' E x ≡ true)
      → ImplicitHold n' rs ws (bits (completed n' rs ws f))
  all_hold [] ws E i f e s = each_none (Holding (bits f)) ws
  all_hold (r ∷ rs) [] E i f e s = each_wordless (Holding (bits f)) (r ∷ rs)
  all_hold (r ∷ rs) (w ∷ ws) E i f e s =
      let ok = record_passes clocks E i r rs e in
      let once = once_passes clocks E i r rs e in
      let used = used_passes clocks E i r rs e in
      let later = later_pass clocks E i r rs e in
      let g = with_ticks f (implied_of n' r w (bits f)) in
      each_more (Holding (bits (completed n' rs ws g))) r rs w ws
      (one_holds clocks room r w f E ok once used s _ (kept_later rs ws (adding_all (defined_of r) E) (suc i) g later))
      (all_hold rs ws (adding_all (defined_of r) E) (suc i) g later (sound_next clocks room r w f E ok once used s))

  all_only : (rs : List Constraint) (ws : List Word) (E : Ticks) (i f : ℕ) → first_unfit clocks E i rs ≡ None → ((x : ℕ) → bits f x ≡ true → settled n' E x ≡ true)
      → (H : Ticks) → ((x : ℕ) → settled n' E x ≡ true → H x ≡ bits f x) → ImplicitHold n' rs ws H → Each (Alike (bits (completed n' rs ws f)) H) rs ws
  all_only [] ws E i f e s H a h = each_none (Alike (bits f) H) ws
  all_only (r ∷ rs) [] E i f e s H a h = each_wordless (Alike (bits f) H) (r ∷ rs)
  all_only (r ∷ rs) (w ∷ ws) E i f e s H a h =
      let ok = record_passes clocks E i r rs e in
      let once = once_passes clocks E i r rs e in
      let used = used_passes clocks E i r rs e in
      let later = later_pass clocks E i r rs e in
      let g = with_ticks f (implied_of n' r w (bits f)) in
      let E' = adding_all (defined_of r) E in
      let more = one_only clocks room r w f E ok once used s H a (each_here (Holding H) r rs w ws h) in
      each_more (Alike (bits (completed n' rs ws g)) H) r rs w ws
      (map_same n' E' (bits (completed n' rs ws g)) H (λ x u. kept_later rs ws E' (suc i) g later x u ∙ sym (more x u)) (clocks_of r) (names_settled n' E r used))
      (all_only rs ws E' (suc i) g later (sound_next clocks room r w f E ok once used s) H more (each_later (Holding H) r rs w ws h))

  all_below_lem : (rs : List Constraint) (ws : List Word) (E : Ticks) (i f : ℕ) → first_unfit clocks E i rs ≡ None → f < 2 ^ clocks.count → completed n' rs ws f < 2 ^ clocks.count
  all_below_lem [] ws E i f e l = l
  all_below_lem (r ∷ rs) [] E i f e l = l
  all_below_lem (r ∷ rs) (w ∷ ws) E i f e l =
      all_below_lem rs ws (adding_all (defined_of r) E) (suc i) _ (later_pass clocks E i r rs e)
      (by_implied n' r w (bits f) (λ ks. with_ticks f ks < 2 ^ clocks.count) l (λ k q p. with_tick_below f r.defined clocks.count l (defined_below clocks.count r k (record_passes clocks E i r rs e) q)))

  -- what a record sees in the set completed up to and with itself is what it sees in the whole completed set
  pub reached_same : (r : Constraint) (rs : List Constraint) (w : Word) (ws : List Word) (E : Ticks) (i f : ℕ) → first_unfit clocks E i (r ∷ rs) ≡ None
      → map (bits (with_ticks f (implied_of n' r w (bits f)))) (clocks_of r) ≡ map (bits (completed n' (r ∷ rs) (w ∷ ws) f)) (clocks_of r)
  reached_same r rs w ws E i f e =
      let E' = adding_all (defined_of r) E in
      sym (map_same n' E' _ _ (kept_later rs ws E' (suc i) _ (later_pass clocks E i r rs e)) (clocks_of r) (names_settled n' E r (used_passes clocks E i r rs e)))

-- ---- of a list that 59 lets pass
module _ (clocks : Clocks) (rs : List Constraint) (ws : List Word) (f : ℕ) (e : broken_record clocks rs ≡ None) where
  -- the completed set is a set of clocks below the clock count
  pub completed_below : f < 2 ^ clocks.named → completed clocks.named rs ws f < 2 ^ clocks.count
  completed_below l = let p = clocks_pass clocks rs e in all_below_lem clocks p.0 rs ws none 1 f p.1 (lt_of_lt_of_le l (pow_mono (named_pass clocks rs e)))

  -- where all clocks are named, it is the set
  pub completed_flat : clocks.named ≡ clocks.count → completed clocks.named rs ws f ≡ f
  completed_flat all = go rs ws none 1 (clocks_pass clocks rs e).1
    where
      go : (rs : List Constraint) (ws : List Word) (E : Ticks) (i : ℕ) → first_unfit clocks E i rs ≡ None → completed clocks.named rs ws f ≡ f
      go [] ws E i e = refl
      go (r ∷ rs) [] E i e = refl
      go (r ∷ rs) (w ∷ ws) E i e =
          let ok : well_formed clocks.named r ≡ true = rw all (record_passes clocks E i r rs e) in
          ap (λ (ks : List ℕ). completed clocks.named rs ws (with_ticks f ks)) (implied_named clocks.named r w (bits f) ok) ∙ go rs ws (adding_all (defined_of r) E) (suc i) (later_pass clocks E i r rs e)

-- ---- of any list

-- the named clocks are those of the set
pub completed_named : (named : ℕ) (rs : List Constraint) (ws : List Word) (f : ℕ) → completed named rs ws f % 2 ^ named ≡ f % 2 ^ named
completed_named named [] ws f = refl
completed_named named (r ∷ rs) [] f = refl
completed_named named (r ∷ rs) (w ∷ ws) f =
    completed_named named rs ws _ ∙ by_implied named r w (bits f) (λ ks. with_ticks f ks % 2 ^ named ≡ f % 2 ^ named) refl (λ k q p. with_tick_high f r.defined named (ltb-false _ _ p))

pub completed_keeps : (named : ℕ) (rs : List Constraint) (ws : List Word) (f : ℕ) → f < 2 ^ named → completed named rs ws f % 2 ^ named ≡ f
completed_keeps named rs ws f l = completed_named named rs ws f ∙ mod-eq_of_lt l

-- with no tick there is none
implied_none : (named : ℕ) (k : Kind) (w : Word) (c : ℕ) → implied named k w false false c ≡ []
implied_none named Empty w c = refl
implied_none named (Relates k) w c = refl
implied_none named (Defines k) w c = rw (due_none k w, and-false (not (ltb c named)))

pub completed_none : (named : ℕ) (rs : List Constraint) (ws : List Word) → completed named rs ws 0 ≡ 0
completed_none named [] ws = refl
completed_none named (r ∷ rs) [] = refl
completed_none named (r ∷ rs) (w ∷ ws) =
    ap (λ (ks : List ℕ). completed named rs ws (with_ticks 0 ks)) (ap (implied_of named r w) bits_zero ∙ implied_none named r.kind w r.defined) ∙ completed_none named rs ws

-- ---- the claims

pub every_step_completes : EveryStepCompletes
every_step_completes clocks rs ws f e l =
    let p = clocks_pass clocks rs e in
    let s : (x : ℕ) → bits f x ≡ true → settled clocks.named none x ≡ true = λ x q. rw (lt-ltb x clocks.named (bits_below f clocks.named l x q)) in
    record {
      named = λ x h. sym (kept_later clocks p.0 rs ws none 1 f p.1 x (rw (lt-ltb x clocks.named h)));
      below = bits_below _ clocks.count (completed_below clocks rs ws f e l);
      hold = all_hold clocks p.0 rs ws none 1 f p.1 s;
      only = λ H a h. all_only clocks p.0 rs ws none 1 f p.1 s H (λ x u. sym (a x (ltb-true x clocks.named (sym (or-false _) ∙ u)))) h;
    }

pub implicit_never_fails : ImplicitNeverFails
implicit_never_fails clocks rs ws f e l i h k fails = go (defines_implicit clocks.named (record_at rs i)) refl
  where
    go : (t : Bool) → defines_implicit clocks.named (record_at rs i) ≡ t → t ≡ false
    go true m = absurd (true≢false (sym ((every_step_completes clocks rs ws f e l).hold i h k m) ∙ fails))
    go false m = refl
