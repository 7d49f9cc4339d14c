-- The loop that marks stops: it goes on, or ends. Assumes nothing.
use mathlib.Core.Path.{◌≡◌, ◌∙◌}
use Prim.Native.Nat.{ℕ, suc, ◌+◌, ◌-◌, ◌≤◌, ◌<◌}
use native.Mathlib.Numerals.{add-one}
use native.Mathlib.Omega.{arith}
use mathlib.Core.List.{List}
use lib.ListN.{length, get_or, set, length-set}
use lib.Seq.{drop-cons}
use Rattle.constructive.specs.Members.{part}
use Rattle.constructive.specs.Marks.{marked_by}

-- the marks so far, with the stops left
pub record Marking (stops : List ℕ) (start total : ℕ) (marks₀ marks : List ℕ) (i : ℕ) : Type 0 where
  pub from : start ≤ i
  pub long : length marks ≡ length marks₀
  pub same : marked_by marks₀ (part stops start total) ≡ marked_by marks (part stops i total)

module _ (stops : List ℕ) (start total : ℕ) (marks₀ marks : List ℕ) (i : ℕ) (m : Marking stops start total marks₀ marks i) where
  pub goes_on : i < total → total ≤ length stops → Marking stops start total marks₀ (set marks (get_or stops i 0) 1) (i + 1)
  unfolding marked_by
  goes_on h w = record {
    from = omega (arith, m.from);
    long = length-set marks (get_or stops i 0) 1 ∙ m.long;
    same = let n : total - i ≡ suc (total - (i + 1)) = omega arith in m.same ∙ rw (n, add-one, drop-cons stops i 0 (omega arith));
  }

  pub ends : total ≤ i → marks ≡ marked_by marks₀ (part stops start total)
  unfolding marked_by
  ends h = let z : total - i ≡ 0 = omega arith in rw (m.same, z)
