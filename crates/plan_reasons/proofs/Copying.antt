-- The loop over the stops that were set aside: their reasons so far, and 8 for every other row. Assumes nothing.
use mathlib.Core.Path.{◌≡◌, refl, ap, ◌∙◌}
use Prim.Native.Nat.{ℕ, ◌+◌, ◌≤◌, ◌<◌}
use native.Mathlib.Numerals.{add-one}
use native.Mathlib.Omega.{arith}
use mathlib.Core.Bool.{Bool, true, false, cond}
use mathlib.Core.List.{List, [], ◌∷◌}
use lib.Dec.{eqb}
use lib.ListN.{length, take, get_or, set, length-set}
use lib.Seq.{take-suc, take_all, get_or-set_same, get_or-set_other}
use borrow.Author.Tests.{lt-ltb, eqb-true, eqb-false}
use Rattle.lists.specs.Count.{one, count, is_in}
use Rattle.lists.specs.Laws.Once.{count_append}
use Rattle.sheet.specs.Fields.{rows_of}
use Rattle.plan_reasons.specs.Reasons.{reason_at}
use Rattle.plan_reasons.specs.Copying.{copied_reason, AllDropped, Copied}

module _ (s plan aside : List ℕ) where
  -- after i of them
  pub record Copying (why₀ why : List ℕ) (i : ℕ) : Type 0 where
    pub long : length why ≡ length why₀
    pub each : Copied s plan (take i aside) why

  pub begins : (why₀ : List ℕ) → AllDropped why₀ → Copying why₀ why₀ 0
  unfolding copied_reason count
  begins why₀ all = record { long = refl; each = all }

  more : (i row : ℕ) → i < length aside → count row (take (i + 1) aside) ≡ count row (take i aside) + (one (eqb row (get_or aside i 0)) + 0)
  unfolding count
  more i row h = ap (count row) (ap (λ (n : ℕ). take n aside) (add-one i) ∙ take-suc aside i 0 h) ∙ count_append row (take i aside) (get_or aside i 0 ∷ [])

  module _ (why₀ why : List ℕ) (i : ℕ) (g : Copying why₀ why i) (h : i < length aside) (reason : ℕ) (read : reason ≡ reason_at plan (rows_of s) (get_or aside i 0)) (room : get_or aside i 0 < length why) where
    abbrev here : ℕ
    here = get_or aside i 0

    step : (row : ℕ) → row < length why → get_or (set why here reason) row 0 ≡ copied_reason s plan (take (i + 1) aside) row
    unfolding copied_reason
    step row l = go (eqb row here) refl
      where
        go : (b : Bool) → eqb row here ≡ b → get_or (set why here reason) row 0 ≡ cond (is_in row (take (i + 1) aside)) (reason_at plan (rows_of s) row) 8
        go true e =
            let same : row ≡ here = eqb-true row here e in
            let some : is_in row (take (i + 1) aside) ≡ true = lt-ltb 0 (count row (take (i + 1) aside)) (rw (more i row h, e) (omega arith)) in
            rw (some, same) (get_or-set_same why here reason 0 room ∙ read)
        go false e =
            let alike : count row (take (i + 1) aside) ≡ count row (take i aside) = more i row h ∙ rw e (omega arith) in
            get_or-set_other why here row reason 0 (λ q. eqb-false row here e q) ∙ g.each row l ∙ rw alike refl

    pub goes_on : Copying why₀ (set why here reason) (i + 1)
    goes_on = record { long = length-set why here reason ∙ g.long; each = λ row l. step row (omega (arith, length-set why here reason)) }

  pub ends : (why₀ why : List ℕ) (i : ℕ) → Copying why₀ why i → length aside ≤ i → Copied s plan aside why
  ends why₀ why i g h row l = g.each row l ∙ ap (λ (rows : List ℕ). copied_reason s plan rows row) (take_all i aside h)
