-- Which depots are asked, and the search for the nearest of them. Assumes nothing.
use mathlib.Core.Path.{◌≡◌, refl, sym, ap, ◌∙◌}
use Prim.Native.Nat.{ℕ, zero, suc, ◌+◌, ◌-◌, ◌≤◌, ◌<◌}
use native.Mathlib.Nat.{sub-zero}
use native.Mathlib.Omega.{arith}
use mathlib.Core.Bool.{Bool, true, false, ◌&&◌, ◌||◌, cond}
use mathlib.Core.List.{List}
use lib.Dec.{ltb}
use borrow.Author.Tests.{le-leb, lt-leb, ltb-false}
use Rattle.std.specs.Bool.{then_some}
use Rattle.std.proofs.Common.{◌≢◌, Option, None, Some, IfSome, unwrap_or}
use Rattle.sheet.specs.Fields.{rows_of}
use Rattle.sheet.specs.Depots.{depots_of}
use Rattle.sheet.specs.Accepted.{Accepted}
use Rattle.sheet.specs.Laws.Depots.{depots_few}
use Rattle.multi_depot_offers.specs.ByDepot.{is_no_depot, sooner, asked_after, nearer, nearest_from, next_depot, moves_to}
use Rattle.multi_depot_offers.specs.Laws.Settled.{attempts, and_false, next_asked, attempts_fall}

-- a depot is a row, where there is a row
pub depot_row : (s : List ℕ) (stop : ℕ) → stop < rows_of s → (d : ℕ) → d < depots_of s → d < rows_of s
depot_row s stop row d h = let k = depots_few s (omega arith) in omega arith

-- the nearest so far, and one depot more: it is asked and wins, or is not asked, or does not win
pub taken : {asked wins : Bool} (d best : ℕ) → asked ≡ true → wins ≡ true → cond (asked && wins) d best ≡ d
taken d best e f = rw (e, f)

pub not_asked_lem : {asked : Bool} (wins : Bool) (d best : ℕ) → asked ≡ false → cond (asked && wins) d best ≡ best
not_asked_lem wins d best e = rw e

pub beaten : (asked : Bool) {wins : Bool} (d best : ℕ) → wins ≡ false → cond (asked && wins) d best ≡ best
beaten asked d best e = rw (e, and_false asked)

-- the nearest so far, with the depots from d on, is the next
abbrev pub Seeking : List ℕ → ℕ → ℕ → ℕ → ℕ → Type 0
Seeking s stop after best d = next_depot s stop after ≡ nearest_from s stop after (depots_of s - d) d best

module _ (s : List ℕ) (stop after : ℕ) where
  pub begins : Seeking s stop after (depots_of s) 0
  unfolding next_depot
  begins = rw sub-zero

  module _ (best d : ℕ) (i : Seeking s stop after best d) where
    pub goes_on : d < depots_of s → Seeking s stop after (nearer s stop after best d) (d + 1)
    unfolding nearest_from
    goes_on h = let e : depots_of s - d ≡ suc (depots_of s - (d + 1)) = omega arith in i ∙ rw e

    pub ends : depots_of s ≤ d → best ≡ next_depot s stop after
    unfolding nearest_from
    ends h = let e : depots_of s - d ≡ 0 = omega arith in sym (i ∙ rw e)

-- a depot, or no depot's number
nearer_upto : (s : List ℕ) (stop after best d : ℕ) → best ≤ depots_of s → d < depots_of s → nearer s stop after best d ≤ depots_of s
nearer_upto s stop after best d h k = go (asked_after s stop after d && (is_no_depot s best || sooner s stop d best))
  where
    go : (b : Bool) → cond b d best ≤ depots_of s
    go true = omega arith
    go false = h

nearest_upto : (s : List ℕ) (stop after n d best : ℕ) → best ≤ depots_of s → d + n ≤ depots_of s → nearest_from s stop after n d best ≤ depots_of s
unfolding nearest_from
nearest_upto s stop after zero d best h k = h
nearest_upto s stop after (suc n) d best h k = nearest_upto s stop after n (d + 1) (nearer s stop after best d) (nearer_upto s stop after best d h (omega arith)) (omega arith)

pub next_upto : (s : List ℕ) (stop after : ℕ) → next_depot s stop after ≤ depots_of s
unfolding next_depot
next_upto s stop after = nearest_upto s stop after (depots_of s) 0 (depots_of s) (omega arith) (omega arith)

-- after a number for no depot the same depots are asked, whichever it is
none_alike : (s : List ℕ) (stop after n d best : ℕ) → depots_of s ≤ after → nearest_from s stop after n d best ≡ nearest_from s stop (depots_of s) n d best
unfolding nearest_from asked_after
none_alike s stop after zero d best h = refl
none_alike s stop after (suc n) d best h =
    rw (le-leb (depots_of s) after h, le-leb (depots_of s) (depots_of s) (omega arith)) (none_alike s stop after n (d + 1) _ h)

next_of_none : (s : List ℕ) (stop after : ℕ) → depots_of s ≤ after → next_depot s stop after ≡ next_depot s stop (depots_of s)
unfolding next_depot
next_of_none s stop after h = none_alike s stop after (depots_of s) 0 (depots_of s) h

-- where a row turned down moves to: another depot, or nowhere
module _ (s : List ℕ) (a : Accepted s) (stop : ℕ) (row : stop < rows_of s) (d : ℕ) where
  -- the number in the table, as an option
  same_next : (b : Bool) → ltb d (depots_of s) ≡ b → next_depot s stop (unwrap_or (then_some b d) (depots_of s)) ≡ next_depot s stop d
  same_next true e = refl
  same_next false e = sym (next_of_none s stop d (ltb-false d (depots_of s) e))

  another : (x : ℕ) → x < depots_of s → x ≡ next_depot s stop d → x ≢ d
  another x h e q =
      let k : is_no_depot s (next_depot s stop d) ≡ false = rw (← e) (lt-leb (depots_of s) x h) in
      let l : next_depot s stop d < depots_of s = omega arith in
      let m = attempts_fall s a stop row d (next_depot s stop d) l (next_asked s stop d k) in
      omega (arith, ap (attempts s stop) (sym e ∙ q))

  pub turned_down : (r : Option ℕ) → unwrap_or r (depots_of s) ≡ next_depot s stop (unwrap_or (then_some (ltb d (depots_of s)) d) (depots_of s)) → IfSome r (λ x. x < depots_of s)
      → (unwrap_or r d ≡ moves_to s true stop d) × IfSome r (λ x. (x < depots_of s) × (x ≢ d))
  unfolding moves_to
  turned_down None e b =
      let n : depots_of s ≡ next_depot s stop d = e ∙ same_next (ltb d (depots_of s)) refl in
      (rw (← n, le-leb (depots_of s) (depots_of s) (omega arith)), tt)
  turned_down (Some x) e b =
      let n : x ≡ next_depot s stop d = e ∙ same_next (ltb d (depots_of s)) refl in
      (rw (← n, lt-leb (depots_of s) x b), (b, another x b n))
