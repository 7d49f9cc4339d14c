-- The order in which a stop's depots are asked: none comes before itself, and what comes before one that comes before a third comes before the third. Assumes nothing.
use Rattle.std.specs.Prelude.{◌≡◌, ℕ, ◌*◌, ◌^◌, ◌≤◌, ◌<◌, Bool, ◌&&◌, ◌||◌, List, ltb, eqb, Float}
use Rattle.std.proofs.Math.Path.{refl}
use Rattle.std.proofs.Common.{sym, ◌∙◌, arith, true≢false, ltb-true, ltb-false, eqb-true, lt-ltb, eq-eqb}
use Rattle.std.proofs.Math.Bool.{true, false}
use Rattle.std.specs.Float.Ieee.{nan, lt, eq}
use Rattle.std.specs.Float.{inf, fin}
use Rattle.std.specs.Float.Ieee.Positive.{num, den, den_pos, through}
use Rattle.numbers.specs.Laws.Upto.{Upto}
use Rattle.sheet.specs.Fields.{rows_of}
use Rattle.sheet.specs.Accepted.{Accepted}
use Rattle.sheet.specs.Values.{distance_of}
use Rattle.sheet.specs.Laws.Finite.{distance_bounded}
use Rattle.multi_depot_offers.specs.ByDepot.{sooner}

-- no farther, and where no nearer either the lower
abbrev Before : Float → Float → ℕ → ℕ → Type 0
Before x y d e = (num x * den y ≤ num y * den x) × (num y * den x ≤ num x * den y → d < e)

before_trans : (x y z : Float) (d e f : ℕ) → Before x y d e → Before y z e f → Before x z d f
before_trans x y z d e f p q = (
  through (num x) (num y) (num z) (den x) (den y) (den z) (den_pos y) p.0 q.0,
  λ h.
      let k = p.1 (through (num y) (num z) (num x) (den y) (den z) (den x) (den_pos z) q.0 h) in
      let l = q.1 (through (num z) (num x) (num y) (den z) (den x) (den y) (den_pos x) h p.0) in
      omega arith,
)

-- ---- the test says so
chosen : (a b d e : ℕ) → (ltb a b || ((eqb a b && true) && ltb d e)) ≡ true → (a ≤ b) × (b ≤ a → d < e)
chosen a b d e t = go (ltb a b) (eqb a b) refl refl t
  where
    go : (x y : Bool) → ltb a b ≡ x → eqb a b ≡ y → (x || ((y && true) && ltb d e)) ≡ true → (a ≤ b) × (b ≤ a → d < e)
    go true y u v t = let h = ltb-true a b u in (omega arith, λ k. absurd (omega arith))
    go false true u v t = let h = eqb-true a b v in (omega arith, λ k. ltb-true d e t)
    go false false u v t = absurd (true≢false (sym t))

chooses : (a b d e : ℕ) → (a ≤ b) × (b ≤ a → d < e) → (ltb a b || ((eqb a b && true) && ltb d e)) ≡ true
chooses a b d e p = go (ltb a b) refl
  where
    go : (x : Bool) → ltb a b ≡ x → (ltb a b || ((eqb a b && true) && ltb d e)) ≡ true
    go true u = rw u
    go false u = let h = ltb-false a b u in let k = p.0 in rw (u, eq-eqb a b (omega arith), lt-ltb d e (p.1 h))

-- between numbers of a sheet
module _ (n m d e : ℕ) where
  test : (x y : Float) → Upto n x → Upto m y → (lt x y || (eq x y && ltb d e)) ≡ (ltb (num x * den y) (num y * den x) || ((eqb (num x * den y) (num y * den x) && true) && ltb d e))
  unfolding lt eq
  test nan y u v = absurd u
  test (inf s) y u v = absurd u
  test (fin true m e) y u v = absurd u
  test (fin false m e) nan u v = absurd v
  test (fin false m e) (inf t) u v = absurd v
  test (fin false m e) (fin true k f) u v = absurd v
  test (fin false m e) (fin false k f) u v = refl

module _ (s : List ℕ) (a : Accepted s) (c : ℕ) (row : c < rows_of s) where
  leg : (d : ℕ) → d < rows_of s → Upto (10 ^ 9) (distance_of s d c)
  leg d h = distance_bounded s a d c h row

  sooner_is : (d e : ℕ) → d < rows_of s → e < rows_of s → sooner s c d e ≡ true → Before (distance_of s d c) (distance_of s e c) d e
  unfolding sooner
  sooner_is d e h k t = chosen _ _ d e (sym (test (10 ^ 9) (10 ^ 9) d e (distance_of s d c) (distance_of s e c) (leg d h) (leg e k)) ∙ t)

  is_sooner : (d e : ℕ) → d < rows_of s → e < rows_of s → Before (distance_of s d c) (distance_of s e c) d e → sooner s c d e ≡ true
  unfolding sooner
  is_sooner d e h k p = test (10 ^ 9) (10 ^ 9) d e (distance_of s d c) (distance_of s e c) (leg d h) (leg e k) ∙ chooses _ _ d e p

  pub sooner_trans : (d e f : ℕ) → d < rows_of s → e < rows_of s → f < rows_of s → sooner s c d e ≡ true → sooner s c e f ≡ true → sooner s c d f ≡ true
  sooner_trans d e f h k l p q = is_sooner d f h l (before_trans (distance_of s d c) (distance_of s e c) (distance_of s f c) d e f (sooner_is d e h k p) (sooner_is e f k l q))

  pub not_itself : (d : ℕ) → d < rows_of s → sooner s c d d ≡ true → ⊥
  not_itself d h p = let l = (sooner_is d d h h p).1 (omega arith) in omega arith
