-- The members as the stops left at first, and the tables at the end. Assumes nothing.
use mathlib.Core.Path.{◌≡◌}
use Prim.Native.Nat.{ℕ, ◌-◌, ◌≤◌}
use native.Mathlib.Nat.{not-suc-le-zero}
use native.Mathlib.Omega.{arith}
use mathlib.Core.List.{List, []}
use lib.ListN.{length}
use Rattle.wire.specs.Bytes.{write}
use Rattle.evaluation.specs.Limits.{limits_at}
use Rattle.evaluation.specs.Routed.{Routed}
use Rattle.constructive.specs.declared.tables.Filled.{Filled}
use Rattle.constructive.specs.declared.terms.Terms.{Terms}
use Rattle.constructive.specs.Outcome.{stops_of}
use Rattle.constructive.specs.Members.{part, Members}
use Rattle.constructive.specs.Laws.Unchecked.{unchecked_free, unchecked_windowless}
use Rattle.constructive.specs.Terms.{terms_of}
use Rattle.constructive.specs.Stored.{filled_by, Stored}
use Rattle.constructive.specs.Entered.{Entered}
use Rattle.insertion.specs.Trial.{Joinable}
use Rattle.solomon_i1.specs.Insertion.{plan_on, solomon_i1}
use Rattle.solomon_i1.specs.Laws.Free.{unchecked_hard}

-- all may join a round that has no stop
members_joinable : (s : List ℕ) (depot v : ℕ) (members : List ℕ) → Routed s depot members → Joinable s (terms_of s depot v members) [] members
unfolding terms_of
members_joinable s depot v members r = record {
  round = record { sheet = r.sheet; home = r.home; few = omega arith; row = λ k h. absurd (not-suc-le-zero h) };
  unrouted = r;
  room = omega arith;
  unwalked = record {
    hard = λ e. unchecked_hard s depot v members e;
    free = λ e. unchecked_free s depot members (limits_at s v) e;
    round = λ e. tt;
    unrouted = λ e. unchecked_windowless s depot members (limits_at s v) e;
  };
}

module _ (s : List ℕ) (depot v : ℕ) (stops ends vehicles : List ℕ) (f : Filled) (total : ℕ) (ok : Members s depot stops f.routed total) (t : Terms) (e : t ≡ terms_of s depot v (part stops f.routed total)) where
  abbrev members : List ℕ
  members = part stops f.routed total

  pub starts : Joinable s t [] members × (((total ≤ 101) × (f.routed ≤ total)) × ((total ≤ length stops) × (total - f.routed ≤ 101)))
  starts = (rw e (members_joinable s depot v members ok.routed), ((ok.most, ok.from), (ok.within, omega (arith, ok.most))))

  module _ (ends' vehicles' : List ℕ) (f' : Filled) (entered : Entered ends vehicles f (plan_on s t (length members) members).rounds ends' vehicles' f') where
    pub ends_filled : f' ≡ filled_by f (solomon_i1 s depot v members).rounds
    unfolding solomon_i1
    ends_filled = rw (← e) entered.count

    pub ends_laid : (stops' : List ℕ) → stops' ≡ write stops f.routed (stops_of (plan_on s t (length members) members)) → Stored stops ends vehicles f (solomon_i1 s depot v members) stops' ends' vehicles'
    unfolding solomon_i1
    ends_laid stops' p = rw (← e) (record { stopped = p; ended = entered.ended; driven = entered.driven })
