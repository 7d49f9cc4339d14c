-- The search for the depot that a stop is tried at last: it goes on, or ends. Assumes nothing.
use Rattle.std.specs.Prelude.{◌≡◌, ℕ, suc, ◌+◌, ◌-◌, ◌≤◌, ◌<◌, cond, List}
use Rattle.std.proofs.Common.{sym, ◌∙◌, arith}
use native.Mathlib.Nat.{sub-zero}
use Rattle.sheet.specs.Depots.{depots_of}
use Rattle.reason.specs.Reason.{tried, tried_from, last_tried}

-- the last so far, with the depots from d on, is the last
abbrev pub Trying : List ℕ → ℕ → ℕ → ℕ → Type 0
Trying s i last d = last_tried s i ≡ tried_from s i (depots_of s - d) d last

module _ (s : List ℕ) (i : ℕ) where
  pub begins : Trying s i (depots_of s) 0
  unfolding last_tried
  begins = rw sub-zero

  module _ (last d : ℕ) (t : Trying s i last d) where
    pub goes_on : d < depots_of s → Trying s i (cond (tried s i last d) d last) (d + 1)
    unfolding tried_from
    goes_on h = let n : depots_of s - d ≡ suc (depots_of s - (d + 1)) = omega arith in t ∙ rw n

    pub ends : depots_of s ≤ d → last ≡ last_tried s i
    unfolding tried_from
    ends h = let n : depots_of s - d ≡ 0 = omega arith in sym (t ∙ rw n)
