-- When the same-place question is refused: case by case, in the order of its checks. Assumes nothing.
use mathlib.Core.Path.{◌≡◌, refl}
use mathlib.Core.Bool.{Bool, true, false, cond}
use mathlib.Core.List.{List}
use Prim.Native.Nat.{ℕ}
use Rattle.std.specs.Prelude.{Option, Some, None}
use Rattle.limit.specs.declared.Place.{Place}
use Rattle.limit.specs.declared.Limit.TheVariants.{Records, ConfigurationWord}
use Rattle.constraint.specs.Lists.{broken_record, broken_word}
use Rattle.constraint.specs.SamePlace.{Answer, refused, same, different, refuse_at, same_words, same_place_of, SamePlaceRefuses, by_records, by_first, by_second, SamePlaceRefused}
use Rattle.constraint.specs.declared.Clocks.{Clocks}
use Rattle.constraint.specs.declared.Constraint.{Constraint}
use Rattle.constraint.specs.declared.Word.{Word}

module _ (clocks : Clocks) (rs : List Constraint) (ws vs : List Word) where
  abbrev Declining : Answer → Type 0
  Declining (refused n p) = SamePlaceRefuses clocks rs ws vs n p
  Declining same = Unit {0}
  Declining different = Unit {0}

  says : (x : Bool) → Declining (cond x same different)
  says true = tt
  says false = tt

  seconds : broken_record clocks rs ≡ None → broken_word rs ws ≡ None → (x : Option Place) → broken_word rs vs ≡ x → Declining (refuse_at ConfigurationWord x (cond (same_words ws vs) same different))
  seconds p59 p60 (Some p) e = by_second p59 p60 e
  seconds p59 p60 None e = says (same_words ws vs)

  firsts : broken_record clocks rs ≡ None → (x : Option Place) → broken_word rs ws ≡ x
      → Declining (refuse_at ConfigurationWord x (refuse_at ConfigurationWord (broken_word rs vs) (cond (same_words ws vs) same different)))
  firsts p59 (Some p) e = by_first p59 e
  firsts p59 None e = seconds p59 e (broken_word rs vs) refl

  lists : (x : Option Place) → broken_record clocks rs ≡ x
      → Declining (refuse_at Records x (refuse_at ConfigurationWord (broken_word rs ws) (refuse_at ConfigurationWord (broken_word rs vs) (cond (same_words ws vs) same different))))
  lists (Some p) e = by_records e
  lists None e = firsts e (broken_word rs ws) refl

  refuses_place : {n p : ℕ} → SamePlaceRefuses clocks rs ws vs n p → same_place_of clocks rs ws vs ≡ refused n p
  refuses_place (by_records e) = rw e
  refuses_place (by_first e q) = rw (e, q)
  refuses_place (by_second e q u) = rw (e, q, u)

pub same_place_refused : SamePlaceRefused
same_place_refused clocks rs ws vs n p =
    let h : Declining clocks rs ws vs (same_place_of clocks rs ws vs) = lists clocks rs ws vs (broken_record clocks rs) refl in
    (λ e. rw e at h, refuses_place clocks rs ws vs)
