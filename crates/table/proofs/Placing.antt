-- What operands and forms come to in a table being built: their clocks numbered, and the definitions of their implicit clocks, as the page of
-- lines has them where the implicit clocks begin at 32. Assumes nothing.
use mathlib.Core.Path.{◌≡◌, refl, sym, ap, subst, ◌∙◌}
use mathlib.Core.Bool.{Bool, true, false, cond}
use mathlib.Core.List.{List, [], ◌∷◌, ◌++◌, map, map-append, append_assoc, append-nil}
use Prim.Native.Nat.{ℕ, suc, ◌+◌, ◌≤◌, ◌<◌, min}
use native.Mathlib.Omega.{arith}
use borrow.Author.Tests.{lt-ltb, ltb-true, ltb-false, lt-leb, leb-false}
use lib.Dec.{ltb, leb}
use lib.ListN.{length, length-append}
use Rattle.constraint.specs.declared.Constraint.{Constraint}
use Rattle.constraint.specs.declared.Definition.{Definition}
use Rattle.constraint.specs.declared.Definition.TheVariants.{Await as AwaitKind, Deferred}
use Rattle.constraint.specs.declared.Kind.TheVariants.{Defines}
use Rattle.grammar.specs.Building.{defining, no_inner, provisional, counted, with_implicit, on_its_line}
use Rattle.grammar.specs.Grammar.{Formed, sides, is_list, listed}
use Rattle.grammar.specs.declared.Inner.{Inner}
use Rattle.grammar.specs.declared.Names.{Names}
use Rattle.forms.specs.Forms.{Word, Words, one_of, both, awaits, delays, Form, relates, defines, Operand, name, both_inside, awaits_inside, delays_inside}
use Rattle.forms.specs.Lines.{operand_numbers, await_numbers, operand_lists, delay_lists, Some, here, later, ListOutside, standing, implicits, form_implicits, clock_of, operand_records, form_records, own_record}
use Rattle.forms.proofs.ClockNames.{AllOf, all_left, all_right}
use Rattle.forms.proofs.FormLaws.{parameter_of}
use Rattle.forms.proofs.FormRows.{clock_named, enclosed, placed, form_of}
use Rattle.forms.proofs.FormWords.{operand_names, form_names}
use Rattle.forms.proofs.SoundForms.{list_row, passes}

-- ---- implicit clocks are counted, to 33
counted_one : (j m : ℕ) → j ≡ min 33 m → counted j ≡ min 33 (m + 1)
counted_one j m e = go (ltb j 33) refl
  where
    go : (x : Bool) → ltb j 33 ≡ x → cond x (j + 1) j ≡ min 33 (m + 1)
    go true q = let h : j < 33 = ltb-true j 33 q in omega arith
    go false q = let h : 33 ≤ j = ltb-false j 33 q in omega arith

with_clocks : (s : Inner) (r : Constraint) → (with_implicit s r).clocks ≡ counted s.clocks
with_clocks s r = go (leb 32 (length s.definitions))
  where
    go : (x : Bool) → (cond {A = Inner} x (record { clocks = counted s.clocks; definitions = s.definitions }) (record { clocks = counted s.clocks; definitions = s.definitions ++ defining (provisional s.clocks) r ∷ [] })).clocks ≡ counted s.clocks
    go true = refl
    go false = refl

pair_clocks : (s : Inner) (d : Definition) (u v : ℕ) (m a b : ℕ) → s.clocks ≡ min 33 (m + a + b) → (with_implicit s (sides (Defines d) u v)).clocks ≡ min 33 (m + suc (a + b))
pair_clocks s d u v m a b e = with_clocks s (sides (Defines d) u v) ∙ counted_one _ (m + a + b) e ∙ omega arith

module _ (t : List ℕ) (ns : Names) where
  placed_clocks : (x : Operand) (s : Inner) (m : ℕ) → s.clocks ≡ min 33 m → (placed t ns s x).left.clocks ≡ min 33 (m + implicits x)
  placed_clocks (name w) s m e = e ∙ omega arith
  placed_clocks (both_inside k x y) s m e = pair_clocks (placed t ns (placed t ns s x).left y).left _ _ _ m (implicits x) (implicits y) (placed_clocks y (placed t ns s x).left (m + implicits x) (placed_clocks x s m e))
  placed_clocks (delays_inside ms x y) s m e = pair_clocks (placed t ns (placed t ns s x).left y).left _ _ _ m (implicits x) (implicits y) (placed_clocks y (placed t ns s x).left (m + implicits x) (placed_clocks x s m e))
  placed_clocks (awaits_inside n x) s m e =
      with_clocks (placed t ns s x).left (sides (Defines (AwaitKind (parameter_of n))) (placed t ns s x).clock 0)
      ∙ counted_one _ (m + implicits x) (placed_clocks x s m e) ∙ omega arith

  pub form_clocks : (f : Form Operand) (s : Inner) (m : ℕ) → s.clocks ≡ min 33 m → (form_of t ns s f).left.clocks ≡ min 33 (m + form_implicits f)
  form_clocks (relates k x y) s m e = placed_clocks y (placed t ns s x).left (m + implicits x) (placed_clocks x s m e) ∙ omega arith
  form_clocks (defines c (both k x y)) s m e = placed_clocks y (placed t ns s x).left (m + implicits x) (placed_clocks x s m e) ∙ omega arith
  form_clocks (defines c (awaits n x)) s m e = placed_clocks x s m e
  form_clocks (defines c (delays ms x y)) s m e = placed_clocks y (placed t ns s x).left (m + implicits x) (placed_clocks x s m e) ∙ omega arith

-- ---- await numbers that 14 lets pass, and lists of delays that 22 does: they are kept as they are
module _ {A : Type 0} (P : A → Type 0) where
  abbrev Inside : List A → Type 0
  Inside [] = Unit {0}
  Inside (k ∷ ks) = P k × Inside ks

  inside_left : (ks ls : List A) → Inside (ks ++ ls) → Inside ks
  inside_left [] ls h = tt
  inside_left (k ∷ ks) ls h = (h.0, inside_left ks ls h.1)

  inside_right : (ks ls : List A) → Inside (ks ++ ls) → Inside ls
  inside_right [] ls h = h
  inside_right (k ∷ ks) ls h = inside_right ks ls h.1

  all_inside : (Q : A → Type 0) → ((k : A) → (Q k → ⊥) → P k) → (ks : List A) → (Some Q ks → ⊥) → Inside ks
  all_inside Q one [] f = tt
  all_inside Q one (k ∷ ks) f = (one k (λ q. f (here q)), all_inside Q one ks (λ s. f (later s)))

abbrev KeptNumber : ℕ → Type 0
KeptNumber k = parameter_of k ≡ k

abbrev KeptList : List ℕ → Type 0
KeptList ms = listed ms ≡ ms

-- of numbers and lists, those of one operand and of another
pub record Kept (ks : List ℕ) (ls : List (List ℕ)) : Type 0 where
  numbers : Inside KeptNumber ks
  lists : Inside KeptList ls

kept_left : (ks js : List ℕ) (ls ms : List (List ℕ)) → Kept (ks ++ js) (ls ++ ms) → Kept ks ls
kept_left ks js ls ms h = record { numbers = inside_left KeptNumber ks js h.numbers; lists = inside_left KeptList ls ms h.lists }

kept_right : (ks js : List ℕ) (ls ms : List (List ℕ)) → Kept (ks ++ js) (ls ++ ms) → Kept js ms
kept_right ks js ls ms h = record { numbers = inside_right KeptNumber ks js h.numbers; lists = inside_right KeptList ls ms h.lists }

-- the list of a delay stands behind those of its operands
list_apart : {ks : List ℕ} (ls js : List (List ℕ)) (ms : List ℕ) → Kept ks (ls ++ (js ++ ms ∷ [])) → Kept ks (ls ++ js) × KeptList ms
list_apart ls js ms h = (
  record { numbers = h.numbers; lists = inside_left KeptList (ls ++ js) (ms ∷ []) (rw append_assoc h.lists) },
  (inside_right KeptList js (ms ∷ []) (inside_right KeptList ls (js ++ ms ∷ []) h.lists)).0,
)

pub kept_all : (ks : List ℕ) (ls : List (List ℕ)) → (Some (λ k. 1 ≤ k → k ≤ 1_000_000 → ⊥) ks → ⊥) → (Some ListOutside ls → ⊥) → Kept ks ls
kept_all ks ls f g = record {
  numbers = all_inside KeptNumber _ (λ k f. number k (leb k 1_000_000) refl f) ks f;
  lists = all_inside KeptList ListOutside (λ ms f. rw (passes (is_list ms) (list_row ms) f)) ls g;
}
  where
    number : (k : ℕ) (x : Bool) → leb k 1_000_000 ≡ x → ((1 ≤ k → k ≤ 1_000_000 → ⊥) → ⊥) → cond x k 0 ≡ k
    number k true e f = refl
    number k false e f = let h : 1_000_000 < k = leb-false k 1_000_000 e in absurd (f (λ a b. omega arith))

-- ---- the definitions of implicit clocks, which have no room in the set of clocks that are defined
abbrev pub High : List Constraint → Type 0
High [] = Unit {0}
High (r ∷ rs) = (32 ≤ r.defined) × High rs

high_more : (rs : List Constraint) (r : Constraint) → High rs → 32 ≤ r.defined → High (rs ++ r ∷ [])
high_more [] r h k = (k, tt)
high_more (q ∷ rs) r h k = (h.0, high_more rs r h.1 k)

-- ---- sums
add_zero : (m : ℕ) → m + 0 ≡ m
add_zero m = omega arith

add_suc : (m k : ℕ) → m + k + 1 ≡ m + suc k
add_suc m k = omega arith

rooms : (m a b : ℕ) → m + suc (a + b) ≤ 32 → (m + a ≤ 32) × (m + a + b ≤ 32) × (m + (a + b) < 32)
rooms m a b h = (omega arith, omega arith, omega arith)

room_one : (m a : ℕ) → m + suc a ≤ 32 → (m + a ≤ 32) × (m + a < 32)
room_one m a h = (omega arith, omega arith)

-- ---- on line n, with names us whose numbers the table has
module _ (t : List ℕ) (ns : Names) (us : Words) (n : ℕ) (number : (w : Word) → one_of us w ≡ true → clock_named t ns w ≡ standing us w) where
  -- m implicit clocks so far, j of them the line's, with these definitions
  pub record Stands (s : Inner) (m j : ℕ) (ds : List Constraint) : Type 0 where
    pub clocks : s.clocks ≡ m
    pub count : length s.definitions ≡ j
    pub fewer : j ≤ m
    pub records : map (on_its_line n) s.definitions ≡ ds
    pub high : High s.definitions

  pub stands_first : (m : ℕ) → Stands (no_inner m) m 0 []
  stands_first m = record { clocks = refl; count = refl; fewer = omega arith; records = refl; high = tt }

  -- one more
  with_stands : (s : Inner) (m j : ℕ) (ds : List Constraint) (r : Constraint) → Stands s m j ds → m < 32 → Stands (with_implicit s r) (m + 1) (j + 1) (ds ++ on_its_line n (defining (32 + m) r) ∷ [])
  with_stands s m j ds r h k =
      let e : leb 32 (length s.definitions) ≡ false = lt-leb 32 (length s.definitions) (omega (arith, h.count, h.fewer)) in
      let c : ltb s.clocks 33 ≡ true = lt-ltb s.clocks 33 (omega (arith, h.clocks)) in
      let d : Constraint = defining (32 + s.clocks) r in
      rw (e, c) (record {
        clocks = ap (λ (i : ℕ). i + 1) h.clocks;
        count = length-append s.definitions (d ∷ []) ∙ ap (λ (i : ℕ). i + 1) h.count;
        fewer = omega (arith, h.fewer);
        records = map-append (on_its_line n) s.definitions (d ∷ []) ∙ rw (h.records, h.clocks);
        high = high_more s.definitions d h.high (omega arith);
      })

  -- ---- operands
  record IsPlaced (x : Operand) (s : Inner) (m j : ℕ) (ds : List Constraint) : Type 0 where
    clock : (placed t ns s x).clock ≡ clock_of us 32 n m x
    left : Stands (placed t ns s x).left (m + implicits x) (j + implicits x) (ds ++ operand_records us 32 n m x)

  -- the same table by other sums and lists
  stands_as : (s : Inner) (m l j i : ℕ) (ds es : List Constraint) → m ≡ l → j ≡ i → ds ≡ es → Stands s m j ds → Stands s l i es
  stands_as s m l j i ds es p q r h = rw (← p, ← q, ← r) h

  module _ (x y : Operand) (s : Inner) (m j : ℕ) (ds : List Constraint) where
    -- two operands, one behind the other
    record Both : Type 0 where
      first : (placed t ns s x).clock ≡ clock_of us 32 n m x
      second : (placed t ns (placed t ns s x).left y).clock ≡ clock_of us 32 n (m + implicits x) y
      left : Stands (placed t ns (placed t ns s x).left y).left (m + (implicits x + implicits y)) (j + (implicits x + implicits y)) (ds ++ (operand_records us 32 n m x ++ operand_records us 32 n (m + implicits x) y))

    both_placed : IsPlaced x s m j ds → IsPlaced y (placed t ns s x).left (m + implicits x) (j + implicits x) (ds ++ operand_records us 32 n m x) → Both
    both_placed p q = record {
      first = p.clock;
      second = q.clock;
      left = stands_as _ (m + implicits x + implicits y) (m + (implicits x + implicits y)) (j + implicits x + implicits y) (j + (implicits x + implicits y)) _ _ (omega arith) (omega arith) (append_assoc ds (operand_records us 32 n m x) (operand_records us 32 n (m + implicits x) y)) q.left;
    }

  -- a right side in parentheses, of which this is the record
  inside_stands : (f : Formed Inner) (m j : ℕ) (ds es : List Constraint) (r : Constraint) → m < 32 → on_its_line n (defining (32 + m) f.constraint) ≡ r → Stands f.left m j (ds ++ es)
      → ((enclosed f).clock ≡ 32 + m) × Stands (enclosed f).left (m + 1) (j + 1) (ds ++ (es ++ r ∷ []))
  inside_stands f m j ds es r k e h =
      let c : ltb m 33 ≡ true = lt-ltb m 33 (omega arith) in
      (rw (h.clocks, c), subst (Stands (enclosed f).left (m + 1) (j + 1)) (append_assoc ds es _ ∙ ap (λ (z : Constraint). ds ++ (es ++ z ∷ [])) e) (with_stands f.left m j (ds ++ es) f.constraint h k))

  both_record : (d e : Definition) (a b v w c : ℕ) → d ≡ e → a ≡ v → b ≡ w
      → on_its_line n (defining c (sides (Defines d) a b)) ≡ record { kind = Defines e; defined = c; first = v; second = w; line = record { 0 = n } }
  both_record d e a b v w c p q r = rw (p, q, r)

  await_record : (a v c k l : ℕ) → a ≡ v → k ≡ l → on_its_line n (defining c (sides (Defines (AwaitKind k)) a 0)) ≡ record { kind = Defines (AwaitKind l); defined = c; first = v; second = 0; line = record { 0 = n } }
  await_record a v c k l p q = both_record (AwaitKind k) (AwaitKind l) a 0 v 0 c (ap AwaitKind q) p refl

  abbrev Places : Operand → Type 0
  Places x = (s : Inner) (m j : ℕ) (ds : List Constraint) → AllOf us (operand_names x) → Kept (operand_numbers x) (operand_lists x) → m + implicits x ≤ 32 → Stands s m j ds → IsPlaced x s m j ds

  module _ (x y : Operand) (f : Places x) (g : Places y) (s : Inner) (m j : ℕ) (ds : List Constraint) (a : AllOf us (operand_names x ++ operand_names y))
      (i : Kept (operand_numbers x ++ operand_numbers y) (operand_lists x ++ operand_lists y)) (h : Stands s m j ds) where
    both_stand : m + (implicits x + implicits y) ≤ 32 → Both x y s m j ds
    both_stand k =
        let p = f s m j ds (all_left us (operand_names x) (operand_names y) a) (kept_left (operand_numbers x) (operand_numbers y) (operand_lists x) (operand_lists y) i) (omega arith) h in
        let q = g (placed t ns s x).left (m + implicits x) (j + implicits x) (ds ++ operand_records us 32 n m x) (all_right us (operand_names x) (operand_names y) a) (kept_right (operand_numbers x) (operand_numbers y) (operand_lists x) (operand_lists y) i) (omega arith) p.left in
        both_placed x y s m j ds p q

    -- in parentheses, with a parameter
    both_inside_stand : (d c : Definition) → d ≡ c → m + suc (implicits x + implicits y) ≤ 32
        → (let e = enclosed (record { left = (placed t ns (placed t ns s x).left y).left; constraint = sides (Defines d) (placed t ns s x).clock (placed t ns (placed t ns s x).left y).clock }) in
        (e.clock ≡ 32 + (m + (implicits x + implicits y)))
        × Stands e.left (m + suc (implicits x + implicits y)) (j + suc (implicits x + implicits y))
        (ds ++ ((operand_records us 32 n m x ++ operand_records us 32 n (m + implicits x) y)
        ++ record { kind = Defines c; defined = 32 + (m + (implicits x + implicits y)); first = clock_of us 32 n m x; second = clock_of us 32 n (m + implicits x) y; line = record { 0 = n } } ∷ [])))
    both_inside_stand d c q k =
        let r = rooms m (implicits x) (implicits y) k in
        let o = both_stand (omega arith) in
        let f : Formed Inner = record { left = (placed t ns (placed t ns s x).left y).left; constraint = sides (Defines d) (placed t ns s x).clock (placed t ns (placed t ns s x).left y).clock } in
        let e = inside_stands f (m + (implicits x + implicits y)) (j + (implicits x + implicits y)) ds _ _ r.2 (both_record d c _ _ _ _ _ q o.first o.second) o.left in
        (e.0, stands_as _ _ _ _ _ _ _ (add_suc m (implicits x + implicits y)) (add_suc j (implicits x + implicits y)) refl e.1)

  placed_stands : (x : Operand) → Places x
  placed_stands (name w) s m j ds a i k h = record {
    clock = number w a.0;
    left = stands_as s m (m + 0) j (j + 0) ds (ds ++ []) (sym (add_zero m)) (sym (add_zero j)) (sym (append-nil ds)) h;
  }
  placed_stands (both_inside d x y) s m j ds a i k h =
      let e = both_inside_stand x y (placed_stands x) (placed_stands y) s m j ds a i h d d refl k in
      record { clock = e.0; left = e.1 }
  placed_stands (awaits_inside l x) s m j ds a i k h =
      let r = room_one m (implicits x) k in
      let p = placed_stands x s m j ds a (record { numbers = i.numbers.1; lists = i.lists }) r.0 h in
      let f : Formed Inner = record { left = (placed t ns s x).left; constraint = sides (Defines (AwaitKind (parameter_of l))) (placed t ns s x).clock 0 } in
      let e = inside_stands f (m + implicits x) (j + implicits x) ds _ _ r.1 (await_record _ _ _ _ _ p.clock i.numbers.0) p.left in
      record { clock = e.0; left = stands_as _ _ _ _ _ _ _ (add_suc m (implicits x)) (add_suc j (implicits x)) refl e.1 }
  placed_stands (delays_inside ms x y) s m j ds a i k h =
      let l = list_apart (operand_lists x) (operand_lists y) ms i in
      let e = both_inside_stand x y (placed_stands x) (placed_stands y) s m j ds a l.0 h (Deferred (listed ms)) (Deferred ms) (ap Deferred l.1) k in
      record { clock = e.0; left = e.1 }

  -- ---- forms
  pub record IsFormed (f : Form Operand) (s : Inner) (m : ℕ) : Type 0 where
    pub own : on_its_line n (form_of t ns s f).constraint ≡ own_record us 32 n m f
    pub left : Stands (form_of t ns s f).left (m + form_implicits f) (form_implicits f) (form_records us 32 n m f)

  two_stand : (x y : Operand) (s : Inner) (m : ℕ) → AllOf us (operand_names x ++ operand_names y) → Kept (operand_numbers x ++ operand_numbers y) (operand_lists x ++ operand_lists y) → m + (implicits x + implicits y) ≤ 32 → Stands s m 0 [] → Both x y s m 0 []
  two_stand x y s m a i h g = both_stand x y (placed_stands x) (placed_stands y) s m 0 [] a i g h

  pub form_stands : (f : Form Operand) (s : Inner) (m : ℕ) → AllOf us (form_names f) → Kept (await_numbers f) (delay_lists f) → m + form_implicits f ≤ 32 → Stands s m 0 [] → IsFormed f s m
  form_stands (relates k x y) s m a i h g =
      let b = two_stand x y s m a i h g in
      record { own = rw (b.first, b.second); left = stands_as _ _ _ _ _ _ _ refl (omega arith) refl b.left }
  form_stands (defines c (both k x y)) s m a i h g =
      let b = two_stand x y s m a.1 i h g in
      record { own = rw (number c a.0, b.first, b.second); left = stands_as _ _ _ _ _ _ _ refl (omega arith) refl b.left }
  form_stands (defines c (awaits l x)) s m a i h g =
      let p = placed_stands x s m 0 [] a.1 (record { numbers = i.numbers.1; lists = i.lists }) (omega arith) g in
      record { own = rw (number c a.0, p.clock, i.numbers.0); left = stands_as _ _ _ _ _ _ _ refl (omega arith) refl p.left }
  form_stands (defines c (delays ms x y)) s m a i h g =
      let l = list_apart (operand_lists x) (operand_lists y) ms i in
      let b = two_stand x y s m a.1 l.0 h g in
      record { own = rw (number c a.0, b.first, b.second, l.1); left = stands_as _ _ _ _ _ _ _ refl (omega arith) refl b.left }
