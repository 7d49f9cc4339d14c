-- Where no round needs a check, no window is soft, and a walk would pass every round of the members. Assumes nothing.
use Rattle.std.specs.Prelude.{◌≡◌, ℕ, not, List, []}
use Rattle.std.proofs.Math.Bool.{false}
use Rattle.constructive.specs.Laws.Terms.{gate_open, none_soft}
use Rattle.evaluation.specs.Limits.{limits_at, is_unlimited}
use Rattle.evaluation.specs.Checks.{row_windowed, some_windowed, has_time_windows, has_soft_windows, route_checks_needed}
use Rattle.constructive.specs.Laws.Unchecked.{neither, unchecked_free, unchecked_windowless}
use Rattle.constructive.specs.Terms.{terms_of}
use Rattle.insertion.specs.Trial.{Unwalked}

-- ---- without a window there is no soft one
module _ (s : List ℕ) (depot v : ℕ) (members : List ℕ) (e : route_checks_needed s depot members (limits_at s v) ≡ false) where
  pub unchecked_hard : has_soft_windows s depot members ≡ false
  unfolding route_checks_needed has_time_windows has_soft_windows
  unchecked_hard =
      let n = (neither (has_time_windows s depot members) (not (is_unlimited (limits_at s v))) e).0 in
      let m = neither (row_windowed false s depot) (some_windowed false s members) n in
      rw (gate_open _ m.0, none_soft s members m.1)

-- so the members of a depot may join its rounds unwalked
pub terms_unwalked : (s : List ℕ) (depot v : ℕ) (members : List ℕ) → Unwalked s (terms_of s depot v members) [] members
unfolding terms_of
terms_unwalked s depot v members = record {
  hard = unchecked_hard s depot v members;
  free = unchecked_free s depot members (limits_at s v);
  round = λ e. tt;
  unrouted = unchecked_windowless s depot members (limits_at s v);
}
