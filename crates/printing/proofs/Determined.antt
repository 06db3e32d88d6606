-- The text determines what was told: its words have no parting byte, so that a line has one reading as words, and the digits say the number.
-- Assumes nothing.
use Prim.Native.Nat.{ℕ, suc, ◌+◌, ◌≤◌}
use mathlib.Core.Path.{◌≡◌, refl, sym, ap, ◌∙◌}
use mathlib.Core.List.{List, [], ◌∷◌, ◌++◌, map, append_assoc}
use mathlib.Core.Bool.{true, false, false≢true, and-eq-true_iff}
use native.Mathlib.Omega.{arith}
use borrow.Author.Tests.{le-leb, leb-true}
use lib.Dec.{leb}
use lib.IntN.{ℤ, pos, negsuc}
use Rattle.constraint.specs.Pairs.{paired}
use Rattle.constraint.specs.declared.Word.{Word}
use Rattle.run.specs.Run.{Said, accepted, violated, refused}
use Rattle.text.specs.Ascii.{ascii}
use Rattle.text.specs.Bytes.{digit, all_bytes}
use Rattle.text.specs.Digits.{digits}
use Rattle.printing.specs.Decimal.{signed}
use Rattle.printing.specs.Determined.{TextDetermines}
use Rattle.printing.specs.Printed.{rest, line, verdict_line, steps_line, config_line, both, shown}
use Rattle.text.proofs.Decimals.{digits_are, digits_all}
use Rattle.printing.proofs.DecimalLaws.{digits_once}

-- ---- words and lines

-- a word without parting bytes, and a text that begins with one
abbrev Solid : List ℕ → Type 0
Solid w = all_bytes (leb 33) w ≡ true

abbrev Parted : List ℕ → Type 0
Parted [] = ⊥
Parted (b ∷ s) = b ≤ 32

abbrev Solids : List (List ℕ) → Type 0
Solids [] = Unit
Solids (w ∷ ws) = Solid w × Solids ws

solid_head : (b : ℕ) (w : List ℕ) → Solid (b ∷ w) → (33 ≤ b) × Solid w
unfolding all_bytes
solid_head b w h = let e = (and-eq-true_iff (leb 33 b) (all_bytes (leb 33) w)).0 h in (leb-true 33 b e.0, e.1)

-- a word in front of what is parted from it can be read in one way
word_once : (v w s t : List ℕ) → Solid v → Solid w → Parted s → Parted t → v ++ s ≡ w ++ t → (v ≡ w) × (s ≡ t)
word_once [] [] s t hv hw ps pt e = (refl, e)
word_once [] (y ∷ w) [] t hv hw ps pt e = absurd ps
word_once [] (y ∷ w) (b ∷ s) t hv hw ps pt e = let q : b ≡ y = cc in absurd (omega (arith, (solid_head y w hw).0))
word_once (x ∷ v) [] s [] hv hw ps pt e = absurd pt
word_once (x ∷ v) [] s (b ∷ t) hv hw ps pt e = let q : x ≡ b = cc in absurd (omega (arith, (solid_head x v hv).0))
word_once (x ∷ v) (y ∷ w) s t hv hw ps pt e =
    let q : x ≡ y = cc in
    let r : v ++ s ≡ w ++ t = cc in
    let ih = word_once v w s t (solid_head x v hv).1 (solid_head y w hw).1 ps pt r in
    ((λ i. q i ∷ ih.0 i), ih.1)

rest_parted : (ws : List (List ℕ)) (s : List ℕ) → Parted (rest ws ++ s)
rest_parted [] s = omega arith
rest_parted (w ∷ ws) s = omega arith

rest_once : (vs ws : List (List ℕ)) (s t : List ℕ) → Solids vs → Solids ws → rest vs ++ s ≡ rest ws ++ t → (vs ≡ ws) × (s ≡ t)
rest_once [] [] s t hv hw e = let r : s ≡ t = cc in (refl, r)
rest_once [] (w ∷ ws) s t hv hw e = let q : ◌≡◌ {A = ℕ} 10 32 = cc in absurd (omega arith)
rest_once (v ∷ vs) [] s t hv hw e = let q : ◌≡◌ {A = ℕ} 32 10 = cc in absurd (omega arith)
rest_once (v ∷ vs) (w ∷ ws) s t hv hw e =
    let r : (v ++ rest vs) ++ s ≡ (w ++ rest ws) ++ t = cc in
    let p = word_once v w (rest vs ++ s) (rest ws ++ t) hv.0 hw.0 (rest_parted vs s) (rest_parted ws t) (sym (append_assoc v (rest vs) s) ∙ r ∙ append_assoc w (rest ws) t) in
    let ih = rest_once vs ws s t hv.1 hw.1 p.1 in
    ((λ i. p.0 i ∷ ih.0 i), ih.1)

line_once : (v w : List ℕ) (vs ws : List (List ℕ)) (s t : List ℕ) → Solid v → Solid w → Solids vs → Solids ws → line v vs ++ s ≡ line w ws ++ t
    → (v ≡ w) × (vs ≡ ws) × (s ≡ t)
line_once v w vs ws s t hv hw hvs hws e =
    let p = word_once v w (rest vs ++ s) (rest ws ++ t) hv hw (rest_parted vs s) (rest_parted ws t) (sym (append_assoc v (rest vs) s) ∙ e ∙ append_assoc w (rest ws) t) in
    let q = rest_once vs ws s t hvs hws p.1 in
    (p.0, q.0, q.1)

-- ---- texts of a kind that are solid, and of which no two are alike

module _ {A : Type 0} (f : A → List ℕ) where
  solids : ((a : A) → Solid (f a)) → (l : List A) → Solids (map f l)
  solids h [] = tt
  solids h (a ∷ l) = (h a, solids h l)

  map_once : ((a b : A) → f a ≡ f b → a ≡ b) → (l m : List A) → map f l ≡ map f m → l ≡ m
  map_once h [] [] e = refl
  map_once h [] (b ∷ m) e = cc
  map_once h (a ∷ l) [] e = cc
  map_once h (a ∷ l) (b ∷ m) e =
      let p : f a ≡ f b = cc in
      let q : map f l ≡ map f m = cc in
      λ i. h a b p i ∷ map_once h l m q i

digits_solid : (n : ℕ) → Solid (digits n)
digits_solid = digits_are (leb 33) (λ d h. le-leb 33 (48 + d) (omega arith))

-- the minus sign is no digit
no_sign : (m : ℕ) (ds : List ℕ) → digits m ≡ 45 ∷ ds → ⊥
no_sign m ds e = false≢true (sym (sign ds) ∙ sym (ap (all_bytes digit) e) ∙ digits_all m)
  where
    sign : (ds : List ℕ) → all_bytes digit (45 ∷ ds) ≡ false
    sign ds = unfold all_bytes in refl

signed_once : (x y : ℤ) → signed x ≡ signed y → x ≡ y
signed_once (pos m) (pos n) e = ap pos (digits_once m n e)
signed_once (pos m) (negsuc n) e = absurd (no_sign m (digits (suc n)) e)
signed_once (negsuc m) (pos n) e = absurd (no_sign n (digits (suc m)) (sym e))
signed_once (negsuc m) (negsuc n) e =
    let r : digits (suc m) ≡ digits (suc n) = cc in
    let q : m ≡ n = omega (arith, digits_once (suc m) (suc n) r) in
    ap negsuc q

signed_solid : (z : ℤ) → Solid (signed z)
signed_solid (pos n) = digits_solid n
signed_solid (negsuc n) = unfold all_bytes in digits_solid (suc n)

both_once : (l m : List Word) → both l ≡ both m → l ≡ m
both_once [] [] e = refl
both_once [] (w ∷ m) e = cc
both_once (v ∷ l) [] e = cc
both_once (v ∷ l) (w ∷ m) e =
    let p : v.first ≡ w.first = cc in
    let q : v.second ≡ w.second = cc in
    let r : both l ≡ both m = cc in
    λ i. paired (p i) (q i) ∷ both_once l m r i

-- ---- the verdict as its first word and its numbers

abbrev label : Said → List ℕ
label accepted = ascii "accepted"
label (violated l t) = ascii "violated"
label (refused n p) = ascii "refused"

abbrev numbers : Said → List ℕ
numbers accepted = []
numbers (violated l t) = l ∷ t ∷ []
numbers (refused n p) = n ∷ p ∷ []

verdict_is : (x : Said) → verdict_line x ≡ line (label x) (map digits (numbers x))
verdict_is accepted = refl
verdict_is (violated l t) = refl
verdict_is (refused n p) = refl

label_solid : (x : Said) → Solid (label x)
unfolding all_bytes
label_solid accepted = refl
label_solid (violated l t) = refl
label_solid (refused n p) = refl

said_once : (x y : Said) → label x ≡ label y → numbers x ≡ numbers y → x ≡ y
said_once accepted accepted e f = refl
said_once accepted (violated l t) e f = cc
said_once accepted (refused n p) e f = cc
said_once (violated l t) accepted e f = cc
said_once (violated l t) (violated k u) e f = cc
said_once (violated l t) (refused n p) e f = let q : ◌≡◌ {A = ℕ} 118 114 = cc in absurd (omega arith)
said_once (refused n p) accepted e f = cc
said_once (refused n p) (violated l t) e f = let q : ◌≡◌ {A = ℕ} 114 118 = cc in absurd (omega arith)
said_once (refused n p) (refused m q) e f = cc

-- ---- the three lines

verdict_once : (x y : Said) (s t : List ℕ) → verdict_line x ++ s ≡ verdict_line y ++ t → (x ≡ y) × (s ≡ t)
verdict_once x y s t e =
    let p = line_once (label x) (label y) (map digits (numbers x)) (map digits (numbers y)) s t (label_solid x) (label_solid y) (solids digits digits_solid (numbers x)) (solids digits digits_solid (numbers y)) (rw (verdict_is x, verdict_is y) at e) in
    (said_once x y p.0 (map_once digits digits_once (numbers x) (numbers y) p.1), p.2)

-- of two lines with the same first word
module _ (v : List ℕ) (solid : Solid v) {A : Type 0} (f : A → List ℕ) (each : (a : A) → Solid (f a)) (once : (a b : A) → f a ≡ f b → a ≡ b) where
  values_once : (l m : List A) (s t : List ℕ) → line v (map f l) ++ s ≡ line v (map f m) ++ t → (l ≡ m) × (s ≡ t)
  values_once l m s t e =
      let p = line_once v v (map f l) (map f m) s t solid solid (solids f each l) (solids f each m) e in
      (map_once f once l m p.1, p.2)

steps_once : (m n : ℕ) (s t : List ℕ) → steps_line m ++ s ≡ steps_line n ++ t → (m ≡ n) × (s ≡ t)
steps_once m n s t e =
    let p = values_once (ascii "steps") (unfold all_bytes in refl) digits digits_solid digits_once (m ∷ []) (n ∷ []) s t e in
    let l : m ∷ [] ≡ n ∷ [] = p.0 in
    ((cc), p.1)

config_once : (l m : List Word) → config_line l ≡ config_line m → l ≡ m
config_once l m e =
    both_once l m (values_once (ascii "config") (unfold all_bytes in refl) signed signed_solid signed_once (both l) (both m) [] [] (ap (λ (s : List ℕ). s ++ []) e)).0

pub text_determines : TextDetermines
text_determines t u e =
    let a = verdict_line t.said in
    let b = verdict_line u.said in
    let p = verdict_once t.said u.said (steps_line t.steps ++ config_line (shown t)) (steps_line u.steps ++ config_line (shown u))
    (sym (append_assoc a (steps_line t.steps) (config_line (shown t))) ∙ e ∙ append_assoc b (steps_line u.steps) (config_line (shown u))) in
    let q = steps_once t.steps u.steps (config_line (shown t)) (config_line (shown u)) p.1 in
    record { said = p.0; steps = q.0; words = config_once (shown t) (shown u) q.1 }
